use Rattle.bgp_text.proofs.Pieces.{Joins, and_then}
use Rattle.bgp_html.proofs.tag.put_marked_row.Goals as goal

pub returns : goal.returns
returns g c =
    let law : Joins g.W.Sink = record { joined = g.met.W.Sink.joined } in
    and_then law c.put.ensures (and_then law c.put_what.ensures (and_then law c.put_mark.ensures c.put-2.ensures))
