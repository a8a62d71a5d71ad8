use Rattle.std.proofs.Common.{◌∙◌}
use Rattle.bgp_names.proofs.Pieces.{Joins, and_then}
use Rattle.bgp_why_parts.proofs.FaultTexts.{text_of_odd, text_of_zero}
use Rattle.bgp_why_parts.proofs.own_faults.put_as.Goals as goal

pub returns-then-my_as-two_octet_as : goal.returns-then-my_as-two_octet_as
returns-then-my_as-two_octet_as g c =
    let law : Joins g.W.Sink = record { joined = g.met.W.Sink.joined } in
    rw (text_of_zero c.args.my_as c.args.number (c.if-my_as-two_octet_as.true ∙ c.two_octet_as.ensures)) (and_then law c.put.ensures c.put_decimal.ensures)

pub returns-else-my_as-two_octet_as : goal.returns-else-my_as-two_octet_as
returns-else-my_as-two_octet_as g c =
    let law : Joins g.W.Sink = record { joined = g.met.W.Sink.joined } in
    rw (text_of_odd c.args.my_as c.args.number (rw c.two_octet_as.ensures at c.if-my_as-two_octet_as.false))
    (and_then law c.put-else-my_as-two_octet_as.ensures (and_then law c.put_decimal-else-my_as-two_octet_as.ensures (and_then law c.put-else-my_as-two_octet_as-2.ensures c.put_decimal-else-my_as-two_octet_as-2.ensures)))
