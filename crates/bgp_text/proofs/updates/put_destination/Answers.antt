use Rattle.bgp_text.specs.Text.{destination_text}
use Rattle.bgp_text.proofs.Pieces.{Joins, and_then}
use Rattle.bgp_text.proofs.updates.put_destination.Goals as goal

pub returns : goal.returns
unfolding destination_text
returns g c =
    let law : Joins g.W.Sink = record { joined = g.met.W.Sink.joined } in
    and_then law c.put_prefix.ensures c.put_path_id.ensures
