use Rattle.bgp_names.proofs.Pieces.{Joins, and_then}
use Rattle.bgp_why_parts.proofs.notifications.put_word.Goals as goal

pub returns-in-Data : goal.returns-in-Data
returns-in-Data g c =
    let law : Joins g.W.Sink = record { joined = g.met.W.Sink.joined } in
    rw c.in-Data.is (and_then law c.put.ensures c.put_hex.ensures)
