use Rattle.bgp_prefix.specs.Text.{prefix_text}
use Rattle.bgp_text.proofs.Pieces.{Joins, and_then}
use Rattle.bgp_text.proofs.addresses.put_prefix.Goals as goal

pub returns-in-V4 : goal.returns-in-V4
unfolding prefix_text
returns-in-V4 g c =
    let text = c.put_ipv4_prefix.ensures in
    rw (c.in-V4.ensures {u = tt}, c.length.ensures.value) at text

pub returns-in-V6 : goal.returns-in-V6
unfolding prefix_text
returns-in-V6 g c =
    let law : Joins g.W.Sink = record { joined = g.met.W.Sink.joined } in
    let text = and_then law c.put_ipv6.ensures (and_then law c.put.ensures c.put_decimal.ensures) in
    rw (c.in-V6.ensures {u = tt}, c.length-in-V6.ensures.value) at text
