use Rattle.std.proofs.Common.{List, None, sym, subst}
use Rattle.bgp_machine.specs.declared.state.Head.{Head}
use Rattle.bgp_machine.specs.declared.want.Want.{Want}
use Rattle.bgp_machine.specs.Listed.{changes_of}
use Rattle.bgp_machine.specs.Lists.{Each}
use Rattle.bgp_machine.specs.State.{link_at}
use Rattle.bgp_machine.specs.Want.{wants_of}
use Rattle.bgp_speaker.specs.Drafts.{CanBeSaid}
use Rattle.bgp_speaker.proofs.CanBeSaid.{heard_said}
use Rattle.bgp_speaker.proofs.Drafting.{on_ok, does_on}
use Rattle.bgp_speaker.proofs.draft.Draft.take_on.Goals as goal

pub returns : goal.returns
returns g c routes =
    let x = c.in_ok-chosen.ensures in
    on_ok c.perform.result (c.perform.ensures routes x.wants x.change x.turn x.is_step) (λ p.
    does_on routes c.args.speaker.now c.args.t c.args.kind c.args.octets.now c.in_ok-chosen.chosen.step (changes_of c.in_ok-chosen.chosen.changes)
    c.args.self.now c.note_heard.new.self c.perform.new.self c.requires.kind x c.in_ok-note_heard.ensures.shows c.note_heard.ensures.head c.note_heard.ensures.pending c.note_heard.ensures.sent_at p)

pub perform-requires : goal.perform-requires
perform-requires g c =
    let x = c.in_ok-chosen.ensures in
    subst (λ (h : Head). Each (CanBeSaid (link_at h) None) (wants_of c.in_ok-chosen.chosen.step.wants)) (sym c.note_heard.ensures.head)
    (subst (λ (ws : List Want). Each (CanBeSaid (link_at c.args.self.now.head) None) ws) (sym x.is_step.sends)
    (heard_said c.each_owed_want_can_be_met.ensures.some c.args.speaker.now.config c.args.self.now.head c.args.t c.args.octets.now x.heard x.row None x.wants x.turn x.hears x.shown.0))
