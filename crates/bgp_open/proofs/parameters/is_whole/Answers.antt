use Rattle.bgp_open.proofs.OneReading.{whole_behind}
use Rattle.bgp_open.proofs.parameters.is_whole.Goals as goal

pub loop-behind-preserved : goal.loop-behind-preserved
loop-behind-preserved c =
    let here = whole_behind _ _ _ c.in-Some.ensures.some c.in-Some.ensures.front in (
      λ whole. c.loop-behind.invariant.0 (here.0 whole),
      λ whole. here.1 (c.loop-behind.invariant.1 whole),
    )
