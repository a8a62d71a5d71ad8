use Rattle.bgp_text.proofs.Pieces.{Joins, and_then}
use Rattle.bgp_html.proofs.page.put_style_7.Goals as goal

pub returns : goal.returns
returns g c =
    let law : Joins g.W.Sink = record { joined = g.met.W.Sink.joined } in
    and_then law c.put.ensures (and_then law c.put-2.ensures (and_then law c.put-3.ensures (and_then law c.put-4.ensures (and_then law c.put-5.ensures (and_then law c.put-6.ensures (and_then law c.put-7.ensures c.put-8.ensures))))))
