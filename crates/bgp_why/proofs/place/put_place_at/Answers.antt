use Rattle.bgp_why.specs.Place.{place_at}
use Rattle.bgp_text.proofs.Pieces.{Joins, and_then}
use Rattle.bgp_why.proofs.place.put_place_at.Goals as goal

pub returns : goal.returns
unfolding place_at
returns g c =
    let law : Joins g.W.Sink = record { joined = g.met.W.Sink.joined } in
    and_then law c.put_place.ensures (and_then law c.put.ensures c.put_short.ensures)
