use Rattle.std.proofs.Common.{sym, subst}
use Rattle.bgp_machine.specs.declared.state.Head.{Head}
use Rattle.bgp_machine.specs.State.{link_at, state_value}
use Rattle.bgp_speaker.specs.Answers.{Answers, IsFreshDraft}
use Rattle.bgp_speaker.specs.Core.{Announce, CoreState, IsPlain}
use Rattle.bgp_rib.specs.Routes.{no_routes}
use Rattle.bgp_speaker.proofs.Answering.{answers_announce}
use Rattle.bgp_speaker.proofs.PlainLinks.{fresh_plain}
use Rattle.bgp_speaker.proofs.engine.Core.announce.Goals as goal

pub tell-requires : goal.tell-requires
tell-requires g c =
    fresh_plain c.args.self.now c.draft-draft.result c.draft-draft.ensures (subst (λ (s : CoreState). IsPlain (link_at s.moment.session.head)) c.self.view_is c.self.invariant.4)

pub finish-requires : goal.finish-requires
finish-requires g c =
    subst (λ (head : Head). IsPlain (link_at head)) (sym (c.in_ok-tell.ensures no_routes).head)
    (fresh_plain c.args.self.now c.draft-draft.result c.draft-draft.ensures (subst (λ (s : CoreState). IsPlain (link_at s.moment.session.head)) c.self.view_is c.self.invariant.4))

pub returns-clause-ok : goal.returns-clause-ok
returns-clause-ok g c =
    let core = c.self.inside in
    let seen : CoreState = record {
      speaker = core.speaker;
      moment = record { session = state_value core.state; sent_at = core.sent_at };
      kept = core.kept.keys;
      second = core.second;
      held = core.frames.octets;
    } in
    let draft = c.tell.new.self in
    subst (λ (s : CoreState). Answers s (Announce c.args.prefix) c.args.second c.finish.result c.finish.new.self) c.self.view_is
    (answers_announce seen c.finish.new.self c.args.prefix c.args.second c.later-t.result c.draft-draft.result draft c.finish.result c.insert.new.self.keys c.later-t.ensures
    (subst (λ (s : CoreState). IsFreshDraft s c.draft-draft.result) (sym c.self.view_is) c.draft-draft.ensures)
    (c.in_ok-tell.ensures core.state.rib) c.finish.ensures.shown
    c.in_ok-insert.ensures.keys c.finish.ensures.state)
