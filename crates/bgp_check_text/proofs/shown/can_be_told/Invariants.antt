use Rattle.std.proofs.Common.{◌↔◌, drop, map}
use Rattle.std.specs.List.{AllByRecursion}
use Rattle.mrt.specs.Reader.{shown_of}
use Rattle.bgp_check_text.specs.Shown.{CanBeTold}
use Rattle.bgp_check_text.proofs.shown.can_be_told.Given as goal

-- those from here on can be shown just where all can
abbrev pub invariant-loop-shown : goal.invariant-loop-shown
invariant-loop-shown l =
    AllByRecursion (CanBeTold l.session l.sent) (map shown_of (drop l.shown-index l.records))
    ↔ AllByRecursion (CanBeTold l.session l.sent) (map shown_of l.records)
