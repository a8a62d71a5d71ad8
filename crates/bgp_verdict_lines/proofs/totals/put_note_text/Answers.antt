use Rattle.bgp_json_verdicts.specs.Lines.{line_text, reason_text}
use Rattle.bgp_text.proofs.Pieces.{Joins, and_then}
use Rattle.bgp_verdict_lines.proofs.totals.put_note_text.Goals as goal

pub returns : goal.returns
unfolding line_text reason_text
returns g c =
    let law : Joins g.W.Sink = record { joined = g.met.W.Sink.joined } in
    and_then law c.put.ensures (and_then law c.put-2.ensures c.put-3.ensures)
