use Rattle.bgp_why.specs.Asked.{link_text}
use Rattle.bgp_text.proofs.Pieces.{Joins, and_then}
use Rattle.bgp_why.proofs.asked.put_link.Goals as goal

pub returns : goal.returns
unfolding link_text
returns g c =
    let law : Joins g.W.Sink = record { joined = g.met.W.Sink.joined } in
    and_then law c.put.ensures (and_then law c.put_decimal.ensures (and_then law (rw c.width_text.ensures at c.put-2.ensures) (rw (c.as_bytes.ensures.value, c.in_use_text.ensures) at c.put-3.ensures)))
