use Rattle.bgp_text.proofs.Pieces.{Joins, and_then}
use Rattle.bgp_ladder.proofs.Ends.{ended}
use Rattle.bgp_ladder.proofs.sums.put_their_numbers.Goals as goal

pub returns : goal.returns
returns g c =
    let law : Joins g.W.Sink = record { joined = g.met.W.Sink.joined } in
    and_then law c.put_escaped.ensures (and_then law c.put_number.ensures (and_then law c.put_escaped-2.ensures (and_then law c.put_number-2.ensures (ended c.put_tag.ensures))))
