use Rattle.bgp_text.proofs.Pieces.{Joins, and_then}
use Rattle.bgp_list.specs.Sessions.{refused_text}
use Rattle.bgp_list.proofs.capture.put_refused.Goals as goal

pub returns : goal.returns
unfolding refused_text
returns g c =
    let law : Joins g.W.Sink = record { joined = g.met.W.Sink.joined } in
    let text = and_then law c.put.ensures (and_then law c.put_decimal.ensures (and_then law c.put-2.ensures (and_then law c.put_decimal-2.ensures (and_then law c.put-3.ensures (and_then law c.put-4.ensures (and_then law c.put-5.ensures (and_then law c.put-6.ensures c.put-7.ensures))))))) in
    rw (c.number.ensures, c.as_bytes.ensures.value, c.name.ensures, c.as_bytes-2.ensures.value, c.capture_cause.ensures) at text
