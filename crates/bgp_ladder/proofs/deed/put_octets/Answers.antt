use Rattle.bgp_text.proofs.Pieces.{Joins, and_then}
use Rattle.bgp_ladder.proofs.deed.put_octets.Goals as goal

pub returns : goal.returns
returns g c =
    let law : Joins g.W.Sink = record { joined = g.met.W.Sink.joined } in
    and_then law c.put.ensures c.put_hex.ensures
