use Rattle.std.proofs.Common.{All, take}
use Rattle.mrt_sessions.specs.Located.{located}
use Rattle.bgp_check_laws.specs.Ranges.{IsRecord}
use Rattle.bgp_check_laws.proofs.fits.each_record_is.Given as goal

abbrev pub invariant-loop-named : goal.invariant-loop-named
invariant-loop-named l = All (λ named. IsRecord (located named)) (take l.named-index l.records)
