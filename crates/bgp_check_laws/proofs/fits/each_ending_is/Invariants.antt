use Rattle.std.proofs.Common.{All, take}
use Rattle.bgp_judge.specs.Ends.{end_value}
use Rattle.bgp_check_laws.specs.Ranges.{IsEnding}
use Rattle.bgp_check_laws.proofs.fits.each_ending_is.Given as goal

abbrev pub invariant-loop-end : goal.invariant-loop-end
invariant-loop-end g l = All (λ e. IsEnding (end_value e)) (take l.end-index l.ends)
