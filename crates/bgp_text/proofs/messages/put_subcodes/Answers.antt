use Rattle.bgp_text.proofs.Pieces.{Joins, and_then}
use Rattle.bgp_text.proofs.messages.put_subcodes.Goals as goal

pub returns : goal.returns
returns g c =
    let law : Joins g.W.Sink = record { joined = g.met.W.Sink.joined } in
    let text = and_then law c.put.ensures (and_then law c.put-2.ensures c.put-3.ensures) in
    rw (c.as_bytes.ensures.value, c.as_bytes-2.ensures.value, c.as_bytes-3.ensures.value, c.text_if.ensures, c.text_if-2.ensures, c.text_if-3.ensures, c.is_some.ensures, c.is_some-2.ensures) at text
