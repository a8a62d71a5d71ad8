use Rattle.bgp_text.proofs.Pieces.{Joins}
use Rattle.bgp_check_lines.proofs.Puts.{then_lines}
use Rattle.bgp_check_tool.proofs.lines.put_after_no.Goals as goal

pub returns : goal.returns
returns g c =
    let law : Joins g.W.Sink = record { joined = g.met.W.Sink.joined } in
    let in_made = rw c.deed.ensures at c.put_in_made.ensures in
    then_lines law in_made (then_lines law c.put_reason.ensures (then_lines law c.put_unshown.ensures (then_lines law c.put_late.ensures (then_lines law c.put_order.ensures c.put_judge.ensures))))
