use Rattle.std.proofs.Common.{◌∙◌}
use Rattle.bgp_text.proofs.Pieces.{Joins, and_then}
use Rattle.bgp_check_lines.specs.Values.{late_line}
use Rattle.bgp_check_lines.proofs.notes.put_late_text.Goals as goal

pub returns : goal.returns
unfolding late_line
returns g c =
    let law : Joins g.W.Sink = record { joined = g.met.W.Sink.joined } in
    let answer = rw (c.as_bytes.ensures.value ∙ c.later_answer.ensures) at c.put-3.ensures in
    and_then law c.put.ensures (and_then law c.put_decimal.ensures (and_then law c.put-2.ensures (and_then law answer c.put-4.ensures)))
