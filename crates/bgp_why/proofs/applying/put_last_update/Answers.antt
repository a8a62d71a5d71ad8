use Rattle.bgp_why.specs.Applying.{last_update_line}
use Rattle.bgp_text.proofs.Pieces.{Joins, and_then}
use Rattle.bgp_why.proofs.applying.put_last_update.Goals as goal

pub returns : goal.returns
unfolding last_update_line
returns g c =
    let law : Joins g.W.Sink = record { joined = g.met.W.Sink.joined } in
    and_then law c.put.ensures (and_then law c.put_received.ensures (and_then law (rw c.as_slice.ensures.value at c.put_update_asks.ensures) c.put-2.ensures))
