use Rattle.std.proofs.Common.{◌∙◌, ap, arith}
use Rattle.bgp_attr.specs.Numbers.{items_in}
use Rattle.bgp_attr.proofs.PathRead.{made}
use Rattle.bgp_attr.proofs.WholeSegments.{has}
use Rattle.bgp_attr.specs.Segments.{number_width}
use Rattle.bgp_attr.proofs.segments.read_segment.Goals as goal

pub bounds-octets-0 : goal.bounds-octets-0
bounds-octets-0 g c = let h = has 4 (number_width c.args.as4) c.args.octets.now c.requires in omega (arith, h.whole)

pub returns : goal.returns
returns g c =
    made c.args.as4 c.args.octets.now c.in-Some.kind c.in_ok-numbers.numbers c.of.result c.requires c.in-Some.ensures
    (c.in_ok-numbers.ensures ∙ ap (items_in (number_width c.args.as4)) c.split_segment.ensures.numbers)
    (omega (arith, c.type_inv.octets 1)) c.of.ensures.some c.of.ensures.value
