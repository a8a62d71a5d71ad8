use Rattle.bgp_text.proofs.Pieces.{Joins, and_then}
use Rattle.bgp_check_text.proofs.lines.put_peer.Goals as goal

pub returns-in-OtherThan : goal.returns-in-OtherThan
returns-in-OtherThan g c =
    let law : Joins g.W.Sink = record { joined = g.met.W.Sink.joined } in
    rw c.in-OtherThan.is (and_then law c.put-in-OtherThan.ensures c.put_as.ensures)
