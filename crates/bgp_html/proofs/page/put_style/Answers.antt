use Rattle.bgp_text.proofs.Pieces.{Joins, and_then}
use Rattle.bgp_html.proofs.page.put_style.Goals as goal

pub returns : goal.returns
returns g c =
    let law : Joins g.W.Sink = record { joined = g.met.W.Sink.joined } in
    and_then law c.put_style_1.ensures (and_then law c.put_style_2.ensures (and_then law c.put_style_3.ensures (and_then law c.put_style_4.ensures (and_then law c.put_style_5.ensures (and_then law c.put_style_6.ensures (and_then law c.put_style_7.ensures c.put_style_8.ensures))))))
