use Rattle.std.proofs.Common.{All, subst}
use Rattle.std.proofs.lemmas.List.{take_all}
use Rattle.std.proofs.lemmas.List.Elements.{All-more}
use Rattle.bgp_judge.specs.Ends.{end_value}
use Rattle.bgp_check_laws.specs.Ranges.{IsEnding}
use Rattle.bgp_check_laws.proofs.fits.each_ending_is.Goals as goal

pub loop-end-preserved : goal.loop-end-preserved
loop-end-preserved g c =
    All-more (λ e. IsEnding (end_value e)) c.args.ends.now c.loop-end.end-index c.end-item.result c.loop-end-test.true c.loop-end.invariant
    (subst (λ e. IsEnding (end_value e)) c.end-item.is c.ending_is.ensures)

pub returns : goal.returns
returns g c =
    subst (All (λ e. IsEnding (end_value e))) (take_all c.loop-end.end-index c.args.ends.now c.loop-end-test.false) c.loop-end.invariant
