use Rattle.std.proofs.Common.{◌≡◌, ◌∙◌, sym, ap, subst}
use Rattle.bgp_prefix.specs.PrefixOrder.{prefix_eq}
use Rattle.std.specs.Set.{is_member}
use Rattle.bgp_machine.specs.declared.state.Head.{Head}
use Rattle.bgp_machine.specs.State.{link_at, state_value}
use Rattle.bgp_rib.specs.Routes.{no_routes}
use Rattle.bgp_speaker.specs.declared.draft.Draft.{Draft}
use Rattle.bgp_speaker.specs.declared.saying.News.TheVariants.{Withdrawn}
use Rattle.bgp_speaker.specs.Answers.{Answers, IsFreshDraft, IsShownBy, state_after}
use Rattle.bgp_speaker.specs.Core.{CoreState, IsPlain, Withdraw}
use Rattle.bgp_speaker.specs.Drafts.{DoesTell}
use Rattle.bgp_speaker.proofs.Answering.{answers_unkept, answers_withdraw, members_so}
use Rattle.bgp_speaker.proofs.PlainLinks.{fresh_plain}
use Rattle.bgp_speaker.proofs.engine.Core.withdraw.Goals.{then-contains+in_ok-tell, else-contains}
use Rattle.bgp_speaker.proofs.engine.Core.withdraw.Goals as goal

pub tell-requires : goal.tell-requires
tell-requires g c =
    fresh_plain c.args.self.now c.draft-draft.result c.draft-draft.ensures (subst (λ (s : CoreState). IsPlain (link_at s.moment.session.head)) c.self.view_is c.self.invariant.4)

pub finish-requires : goal.finish-requires
finish-requires g c =
    let plain = fresh_plain c.args.self.now c.draft-draft.result c.draft-draft.ensures (subst (λ (s : CoreState). IsPlain (link_at s.moment.session.head)) c.self.view_is c.self.invariant.4) in
    elim c.if-contains.branch [
      | then-contains+in_ok-tell w ↦
          subst (λ (d : Draft g.row.A.Denot). IsPlain (link_at d.head)) (sym w.draft-is)
          (subst (λ (head : Head). IsPlain (link_at head)) (sym (w.in_ok-tell.ensures no_routes).head) plain)
      | else-contains w ↦ subst (λ (d : Draft g.row.A.Denot). IsPlain (link_at d.head)) (sym w.draft-is) plain
    ]

pub returns-clause-ok : goal.returns-clause-ok
returns-clause-ok g c =
    let core = c.self.inside in
    let seen : CoreState = record {
      speaker = core.speaker;
      moment = record { session = state_value core.state; sent_at = core.sent_at };
      kept = core.kept.keys;
      second = core.second;
      held = core.frames.octets;
    } in
    let draft = c.if-contains.draft in
    let prefix = c.args.prefix in
    let fresh = subst (λ (s : CoreState). IsFreshDraft s c.draft-draft.result) (sym c.self.view_is) c.draft-draft.ensures in
    let member : c.contains.result ≡ is_member prefix_eq core.kept.keys prefix = c.contains.ensures ∙ members_so core.kept.keys prefix in
    subst (λ (s : CoreState). Answers s (Withdraw prefix) c.args.second c.finish.result c.finish.new.self) c.self.view_is
    (elim c.if-contains.branch [
      | then-contains+in_ok-tell w ↦
          answers_withdraw seen c.finish.new.self prefix c.args.second c.later-t.result c.draft-draft.result draft c.finish.result c.remove.new.self.keys c.later-t.ensures fresh
          (sym member ∙ w.if-contains.true)
          (subst (λ (d : Draft g.row.A.Denot). DoesTell core.state.rib core.speaker c.later-t.result (Withdrawn prefix) c.draft-draft.result d) (sym w.draft-is) (w.in_ok-tell.ensures core.state.rib))
          c.finish.ensures.shown c.remove.ensures.keys c.finish.ensures.state
      | else-contains w ↦
          answers_unkept seen c.finish.new.self prefix c.args.second c.later-t.result c.draft-draft.result c.finish.result c.remove.new.self.keys c.later-t.ensures fresh
          (sym member ∙ w.if-contains.false)
          (subst (λ (d : Draft g.row.A.Denot). IsShownBy d c.finish.result) w.draft-is c.finish.ensures.shown)
          c.remove.ensures.keys
          (c.finish.ensures.state
          ∙ ap (λ (d : Draft g.row.A.Denot). state_after (record seen { kept = c.remove.new.self.keys }) (record { session = record { head = d.head; routes = core.state.rib }; sent_at = d.sent_at }) c.later-t.result)
          w.draft-is)
    ])
