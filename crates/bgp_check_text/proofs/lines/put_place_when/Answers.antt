use Rattle.bgp_check_text.specs.Text.{place_when}
use Rattle.bgp_text.proofs.Pieces.{Joins, and_then}
use Rattle.bgp_check_text.proofs.lines.put_place_when.Goals as goal

pub returns : goal.returns
unfolding place_when
returns g c =
    let law : Joins g.W.Sink = record { joined = g.met.W.Sink.joined } in
    and_then law c.put_place.ensures (and_then law c.put.ensures (and_then law c.put_when.ensures c.put-2.ensures))
