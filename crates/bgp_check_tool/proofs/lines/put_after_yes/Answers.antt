use Rattle.bgp_text.proofs.Pieces.{Joins}
use Rattle.bgp_check_lines.proofs.Puts.{then_lines}
use Rattle.bgp_check_tool.proofs.lines.put_after_yes.Goals as goal

pub returns : goal.returns
returns g c =
    let law : Joins g.W.Sink = record { joined = g.met.W.Sink.joined } in
    then_lines law c.put_unshown.ensures (then_lines law c.put_whose_order.ensures c.put_judge.ensures)
