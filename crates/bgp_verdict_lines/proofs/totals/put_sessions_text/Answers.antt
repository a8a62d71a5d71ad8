use Rattle.bgp_json_verdicts.specs.Lines.{line_text, reason_text}
use Rattle.bgp_text.proofs.Pieces.{Joins, and_then}
use Rattle.bgp_verdict_lines.proofs.totals.put_sessions_text.Goals as goal

pub returns : goal.returns
unfolding line_text reason_text
returns g c =
    let law : Joins g.W.Sink = record { joined = g.met.W.Sink.joined } in
    and_then law c.put.ensures (and_then law c.put_decimal.ensures (and_then law c.put_first_text.ensures c.put-2.ensures))
