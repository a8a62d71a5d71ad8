use Rattle.bgp_text.proofs.Pieces.{Joins}
use Rattle.bgp_check_lines.proofs.Puts.{then_lines}
use Rattle.bgp_check_capture_tool.proofs.lines.put_verdict.Goals as goal

pub returns-in-Yes : goal.returns-in-Yes
returns-in-Yes g c =
    let law : Joins g.W.Sink = record { joined = g.met.W.Sink.joined } in
    let yes = rw c.as_slice-endings.ensures.value at c.put_yes.ensures in
    let over = rw c.as_slice-endings.ensures.value at c.is_over-is_over.ensures in
    let told = rw over at c.put_told_end.ensures in
    rw c.in-Yes.is (then_lines law yes (then_lines law told c.put_notes.ensures))

pub returns-in-No : goal.returns-in-No
returns-in-No g c =
    let law : Joins g.W.Sink = record { joined = g.met.W.Sink.joined } in
    let no = rw c.deed_in.ensures at c.put_no.ensures in
    rw c.in-No.is (then_lines law no (then_lines law c.put_lines_in.ensures c.put_notes-in-No.ensures))

pub returns-in-Unfinished : goal.returns-in-Unfinished
returns-in-Unfinished g c =
    let law : Joins g.W.Sink = record { joined = g.met.W.Sink.joined } in
    rw c.in-Unfinished.is (then_lines law c.put_unfinished.ensures (then_lines law c.put_lines_in-in-Unfinished.ensures c.put_notes-in-Unfinished.ensures))
