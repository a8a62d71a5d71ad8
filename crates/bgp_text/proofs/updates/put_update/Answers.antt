use Rattle.bgp_text.specs.Text.{update_text}
use Rattle.bgp_text.proofs.Pieces.{Joins, and_then}
use Rattle.bgp_text.proofs.updates.put_update.Goals as goal

pub returns : goal.returns
unfolding update_text
returns g c =
    let law : Joins g.W.Sink = record { joined = g.met.W.Sink.joined } in
    and_then law c.put.ensures (and_then law c.put_destinations.ensures (and_then law c.put-2.ensures (and_then law c.put_attributes.ensures (and_then law c.put-3.ensures c.put_destinations-2.ensures))))
