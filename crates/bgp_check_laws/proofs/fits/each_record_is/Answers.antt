use Rattle.std.proofs.Common.{All, subst}
use Rattle.std.proofs.lemmas.List.{take_all}
use Rattle.std.proofs.lemmas.List.Elements.{All-more}
use Rattle.mrt_sessions.specs.Located.{located}
use Rattle.bgp_check_laws.specs.Ranges.{IsRecord}
use Rattle.bgp_check_laws.proofs.fits.each_record_is.Goals as goal

pub loop-named-preserved : goal.loop-named-preserved
loop-named-preserved c =
    All-more (λ named. IsRecord (located named)) c.args.records.now c.loop-named.named-index c.named-item.result c.loop-named-test.true c.loop-named.invariant
    (subst (λ named. IsRecord (located named)) c.named-item.is c.record_is.ensures)

pub returns : goal.returns
returns c =
    subst (All (λ named. IsRecord (located named))) (take_all c.loop-named.named-index c.args.records.now c.loop-named-test.false) c.loop-named.invariant
