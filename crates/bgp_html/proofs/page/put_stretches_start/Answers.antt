use Rattle.bgp_text.proofs.Pieces.{Joins, and_then}
use Rattle.bgp_html.proofs.page.put_stretches_start.Goals as goal

pub returns : goal.returns
returns g c =
    let law : Joins g.W.Sink = record { joined = g.met.W.Sink.joined } in
    and_then law c.put.ensures (and_then law c.put_about_stretches.ensures c.put-2.ensures)
