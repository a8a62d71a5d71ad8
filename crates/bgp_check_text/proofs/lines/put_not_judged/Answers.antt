use Rattle.bgp_check_text.specs.Text.{not_judged_line}
use Rattle.bgp_text.proofs.Pieces.{Joins, and_then}
use Rattle.bgp_check_text.proofs.lines.put_not_judged.Goals as goal

pub returns : goal.returns
unfolding not_judged_line
returns g c =
    let law : Joins g.W.Sink = record { joined = g.met.W.Sink.joined } in
    and_then law c.put.ensures (and_then law c.put_end.ensures (and_then law c.put-2.ensures (and_then law c.put_why.ensures c.put-3.ensures)))
