use Rattle.std.proofs.Common.{arith}
use Rattle.bgp_attr.specs.Values.{as_octets}
use Rattle.bgp_attr.proofs.Lengths.{flat_len}
use Rattle.bgp_attr.proofs.segments.wire_len.Goals as goal

pub returns-clause-len : goal.returns-clause-len
returns-clause-len g c =
    rw c.numbers.ensures.numbers (omega (arith, flat_len (as_octets c.args.as4) c.number_len.result c.number_len.ensures.each c.args.segment.now.numbers))
