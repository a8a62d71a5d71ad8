use Rattle.bgp_text.proofs.Pieces.{Joins}
use Rattle.bgp_check_lines.proofs.Puts.{then_lines}
use Rattle.bgp_check_capture_tool.proofs.lines.put_notes.Goals as goal

pub returns : goal.returns
returns g c =
    let law : Joins g.W.Sink = record { joined = g.met.W.Sink.joined } in
    then_lines law c.put_passed_over.ensures c.put_judge.ensures
