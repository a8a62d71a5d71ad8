use Rattle.bgp_text.proofs.Pieces.{Joins, and_then}
use Rattle.bgp_ladder.proofs.Ends.{ended}
use Rattle.bgp_ladder.proofs.rows.put_message.Goals as goal

pub returns : goal.returns
returns g c =
    let law : Joins g.W.Sink = record { joined = g.met.W.Sink.joined } in
    and_then law c.put_tag.ensures (and_then law c.put_text.ensures (ended c.put_tag-2.ensures))
