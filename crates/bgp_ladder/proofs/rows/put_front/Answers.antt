use Rattle.bgp_text.proofs.Pieces.{Joins, and_then}
use Rattle.bgp_ladder.proofs.rows.put_front.Goals as goal

pub returns : goal.returns
returns g c =
    let law : Joins g.W.Sink = record { joined = g.met.W.Sink.joined } in
    and_then law (rw c.what_of-what.ensures at (rw c.mark_at.ensures at c.put_tag.ensures)) (and_then law c.put_time.ensures c.put_numbers.ensures)
