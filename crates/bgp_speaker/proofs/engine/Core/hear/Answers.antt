use Rattle.std.proofs.Common.{◌∙◌, ◌++◌, ap, max, rules, subst, sym}
use Rattle.bgp_machine.specs.Heard.{received_limit}
use Rattle.bgp_machine.specs.State.{link_at, state_value}
use Rattle.bgp_rib.specs.Routes.{no_routes}
use Rattle.bgp_wire.specs.Held.{Held}
use Rattle.bgp_speaker.specs.declared.speaker.Speaker.{Speaker}
use Rattle.bgp_speaker.specs.Core.{CoreState, IsConnected, IsPlain}
use Rattle.bgp_speaker.specs.Drafts.{HearsWell, moment_of}
use Rattle.bgp_speaker.proofs.Answering.{answers_off, answers_on, fed, holds_right, taken_head, taken_speaker}
use Rattle.bgp_speaker.proofs.PlainLinks.{fresh_plain, hears_well_plain}
use Rattle.bgp_speaker.proofs.engine.Core.hear.Goals as goal

pub returns-then-not-is_connected-clause-ok : goal.returns-then-not-is_connected-clause-ok
returns-then-not-is_connected-clause-ok g c =
    let off : IsConnected c.draft-draft.result.head → ⊥ = λ on. let yes = c.is_connected.ensures.1 on in let not = c.if-not-is_connected.true in absurd (cc) in
    answers_off c.args.self.now c.finish.new.self c.args.octets.now c.args.second c.later-t.result c.draft-draft.result c.finish.result
    (c.later-t.ensures ∙ ap (λ (s : CoreState). max s.second c.args.second) c.self.view_is)
    c.draft-draft.ensures off c.finish.ensures.shown c.finish.ensures.state

pub finish-requires : goal.finish-requires
finish-requires g c =
    fresh_plain c.args.self.now c.draft-draft.result c.draft-draft.ensures (subst (λ (s : CoreState). IsPlain (link_at s.moment.session.head)) c.self.view_is c.self.invariant.4)

pub hear_all-requires-clause-plain : goal.hear_all-requires-clause-plain
hear_all-requires-clause-plain g c =
    fresh_plain c.args.self.now c.draft-draft.result c.draft-draft.ensures (subst (λ (s : CoreState). IsPlain (link_at s.moment.session.head)) c.self.view_is c.self.invariant.4)

pub commit-requires : goal.commit-requires
commit-requires g c =
    hears_well_plain no_routes c.self.inside.speaker c.self.inside.kept.keys c.later-t.result c.feed.new.self.octets c.hear_all.new.frames c.draft-draft.result c.hear_all.new.draft
    c.self.invariant.3 (c.in_ok-hear_all.ensures no_routes)
    (fresh_plain c.args.self.now c.draft-draft.result c.draft-draft.ensures (subst (λ (s : CoreState). IsPlain (link_at s.moment.session.head)) c.self.view_is c.self.invariant.4))

pub forget_unconnected-requires : goal.forget_unconnected-requires
forget_unconnected-requires g c on =
    let is = (c.in_ok-hear_all.ensures no_routes).left on in (ap (λ (v : Held). v.limit) is ∙ sym c.received_limit-limit.ensures, ap (λ (v : Held). v.is_closed) is)

pub invariant_of-self : goal.invariant_of-self
invariant_of-self g c =
    let core = c.self-2.inside in
    let seen : CoreState = record {
      speaker = core.speaker;
      moment = record { session = state_value core.state; sent_at = core.sent_at };
      kept = core.kept.keys;
      second = core.second;
      held = core.frames.octets;
    } in
    let draft = c.hear_all.new.draft in
    let holds = holds_right _ draft.head c.forget_unconnected.new.frames c.hear_all.new.frames.octets c.forget_unconnected.ensures in
    let now = c.args.self.now in
    let head = taken_head seen c.commit.new.self now (moment_of now.moment.session.routes draft) c.later-t.result c.self-2.view_is c.in_ok-output.ensures.ok.0 in
    let speaker = taken_speaker seen c.commit.new.self now (moment_of now.moment.session.routes draft) c.later-t.result c.self-2.view_is c.in_ok-output.ensures.ok.0 in
    let limit = c.received_limit-limit.ensures ∙ ap (λ (s : CoreState). received_limit s.speaker.config) c.self.view_is
    ∙ sym (ap (λ (s : Speaker). received_limit s.config) speaker) in
    (holds.0 ∙ limit, holds.1, (λ off. holds.2 (λ on. off (subst IsConnected (sym head) on))), c.self-2.invariant.3, c.self-2.invariant.4)

pub returns-clause-ok : goal.returns-clause-ok
returns-clause-ok g c =
    let core = c.self-2.inside in
    let seen : CoreState = record {
      speaker = core.speaker;
      moment = record { session = state_value core.state; sent_at = core.sent_at };
      kept = core.kept.keys;
      second = core.second;
      held = core.frames.octets;
    } in
    let now = c.args.self.now in
    let octets = c.args.octets.now in
    let t = c.later-t.result in
    let draft = c.hear_all.new.draft in
    let left = c.hear_all.new.frames in
    answers_on _ now seen c.commit.new.self octets c.feed.new.self.octets c.args.second t left c.forget_unconnected.new.frames c.draft-draft.result draft c.in_ok-output.output
    (c.later-t.ensures ∙ ap (λ (s : CoreState). max s.second c.args.second) c.self.view_is)
    c.draft-draft.ensures (c.is_connected.ensures.0 (search rules))
    (fed c.self.inside.frames c.in_ok-frames.frames c.feed.new.self octets c.in_ok-frames.ensures c.in_ok-feed.ensures.ok c.self.invariant.1
    ∙ ap (λ (s : CoreState). s.held ++ octets) c.self.view_is)
    (subst (λ (s : CoreState). HearsWell now.moment.session.routes s.speaker s.kept t c.feed.new.self.octets left c.draft-draft.result draft) c.self.view_is
    (c.in_ok-hear_all.ensures now.moment.session.routes))
    c.in_ok-output.ensures.ok.1 c.self-2.view_is c.in_ok-output.ensures.ok.0 c.forget_unconnected.ensures
