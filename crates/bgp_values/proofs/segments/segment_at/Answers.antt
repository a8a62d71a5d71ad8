use Rattle.std.proofs.Common.{arith}
use Rattle.bgp_update.proofs.WholeSegments.{has}
use Rattle.bgp_update.specs.Segments.{number_width}
use Rattle.bgp_values.proofs.segments.segment_at.Goals as goal

pub bounds-octets-0 : goal.bounds-octets-0
bounds-octets-0 c =
    let h = has 4 (number_width c.args.as4) c.args.octets.now c.requires in omega (arith, h.whole)

pub bounds-octets-1 : goal.bounds-octets-1
bounds-octets-1 c =
    let h = has 4 (number_width c.args.as4) c.args.octets.now c.requires in omega (arith, h.whole)

pub split_at-requires : goal.split_at-requires
split_at-requires c =
    let h = has 4 (number_width c.args.as4) c.args.octets.now c.requires in omega (arith, h.whole)

pub split_at-requires-2 : goal.split_at-requires-2
split_at-requires-2 c =
    let h = has 4 (number_width c.args.as4) c.args.octets.now c.requires in
    rw (c.number_width.ensures.width, c.from.ensures) (omega (arith, h.whole, c.split_at.ensures.back_len))
