use Rattle.bgp_text.proofs.Pieces.{Joins}
use Rattle.bgp_check_lines.proofs.Puts.{then_lines}
use Rattle.bgp_check_tool.proofs.blocks.put_both.Goals as goal

pub returns : goal.returns
returns g c =
    let law : Joins g.W.Sink = record { joined = g.met.W.Sink.joined } in
    then_lines law c.put_kept.ensures c.put_kept-2.ensures
