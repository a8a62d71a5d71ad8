use Rattle.std.proofs.Common.{◌∙◌, option_copied, sym, ap}
use Rattle.bgp_rib.specs.Routes.{routes_after, routes_without}
use Rattle.bgp_machine.specs.Listed.{changes_of}
use Rattle.bgp_machine.proofs.Moves.{after_no_changes}
use Rattle.bgp_machine.proofs.moving.give.Goals as goal
use Rattle.bgp_machine.proofs.moving.give.Goals.{in-Some+in_ok-apply, in_default}

pub returns-clause-ok : goal.returns-clause-ok
returns-clause-ok g c =
    c.disable.ensures ∙ ap (routes_without c.args.families) (elim c.match-changes.branch [
      | in-Some+in_ok-apply w ↦ w.rib-is ∙ w.in_ok-apply.ensures.ok ∙ ap (λ o. routes_after (changes_of (option_copied o)) c.args.rib.now) (sym w.in-Some.is)
      | in_default w ↦ w.rib-is ∙ sym (after_no_changes c.args.rib.now) ∙ ap (λ o. routes_after (changes_of (option_copied o)) c.args.rib.now) (sym w.in_default.is)
    ])
