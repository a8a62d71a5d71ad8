use Rattle.std.proofs.Common.{sym, ◌∙◌, [], ◌∷◌, ◌++◌}
use Rattle.mrt.specs.Reader.{shown_of}
use Rattle.bgp_judge.proofs.PlainStanding.{next_stands, begin_where}
use Rattle.bgp_judge.proofs.plain.PlainTrackerTracker.may_take.Goals as goal

pub returns-clause-may : goal.returns-clause-may
returns-clause-may g c = λ config records stands.
    let stand = next_stands c.each_owed_want_can_be_met.ensures.met c.args.self.now.config config records (shown_of c.args.shown.now)
    c.args.self.now.members.items c.as_slice.result.now c.in_ok-members.members.items stands.0 c.as_slice.ensures.value c.in_ok-members.ensures.next stands.1 in
    let both = begin_where config (records ++ shown_of c.args.shown.now ∷ []) c.in_ok-members.members.items stand in (
      λ t. both.0 (λ e. c.has_some.ensures.0 t (c.as_slice-2.ensures.value ∙ e)),
      λ begins. c.has_some.ensures.1 (λ e. both.1 begins (sym c.as_slice-2.ensures.value ∙ e)),
    )
