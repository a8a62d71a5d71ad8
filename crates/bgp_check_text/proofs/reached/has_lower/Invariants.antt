use Rattle.std.proofs.Common.{◌≡◌, drop, map}
use Rattle.bgp_judge.specs.Ends.{end_value}
use Rattle.bgp_check_text.specs.Reached.{has_lower}
use Rattle.bgp_check_text.proofs.reached.has_lower.Given as goal

-- one of those from here on is in a lower state just if one of all is
abbrev pub invariant-loop-ending : goal.invariant-loop-ending
invariant-loop-ending g l =
    has_lower (map end_value (drop l.ending-index l.endings)) ≡ has_lower (map end_value l.endings)
