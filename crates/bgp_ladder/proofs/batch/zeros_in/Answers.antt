use Rattle.std.proofs.Common.{ap, arith}
use Rattle.bgp_ladder.specs.Batch.{zeros}
use Rattle.bgp_ladder.proofs.ZeroPlaces.{zeros_parted}
use Rattle.bgp_ladder.proofs.batch.zeros_in.Goals as goal

pub loop-rest-preserved : goal.loop-rest-preserved
loop-rest-preserved c =
    let (counted, most) = c.loop-rest.invariant in
    let parted = zeros_parted c.loop-rest.rest.now c.min.result in
    let front = ap zeros c.split_at.ensures.front in
    let back = ap zeros c.split_at.ensures.back in
    let value = c.few_zeros.ensures.value in
    let within = c.few_zeros.ensures.within in
    let ahead = c.split_at.ensures.front_len in
    let behind = c.split_at.ensures.back_len in
    let least = c.min.ensures in
    (omega (arith, counted, parted, front, back, value), omega (arith, most, within, ahead, behind, least))
