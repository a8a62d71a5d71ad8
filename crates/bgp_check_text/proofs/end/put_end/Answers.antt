use Rattle.bgp_check_text.specs.End.{end_text}
use Rattle.bgp_text.proofs.Pieces.{Joins, and_then}
use Rattle.bgp_check_text.proofs.end.put_end.Goals as goal

pub returns : goal.returns
unfolding end_text
returns g c =
    let law : Joins g.W.Sink = record { joined = g.met.W.Sink.joined } in
    and_then law c.put_endpoint.ensures (and_then law c.put.ensures (and_then law c.put_as.ensures (and_then law c.put_part_by.ensures c.put-2.ensures)))
