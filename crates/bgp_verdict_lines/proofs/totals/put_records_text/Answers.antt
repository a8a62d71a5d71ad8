use Rattle.std.proofs.Common.{◌≡◌, ◌∙◌, ◌+◌, ℕ, ap}
use Rattle.bgp_json_verdicts.specs.Lines.{line_text, reason_text}
use Rattle.bgp_text.proofs.Pieces.{Joins, and_then}
use Rattle.bgp_verdict_lines.proofs.totals.put_records_text.Goals as goal

pub returns : goal.returns
unfolding line_text reason_text
returns g c =
    let law : Joins g.W.Sink = record { joined = g.met.W.Sink.joined } in
    let all : c.from.result + c.from-2.result + c.from-3.result ≡ c.args.received + c.args.sent + c.args.changes = ap (λ (n : ℕ). n + c.from-2.result + c.from-3.result) c.from.ensures ∙ ap (λ (n : ℕ). c.args.received + n + c.from-3.result) c.from-2.ensures ∙ ap (λ (n : ℕ). c.args.received + c.args.sent + n) c.from-3.ensures in
    let sum = rw all at c.put_decimal.ensures in
    and_then law c.put.ensures (and_then law sum (and_then law c.put-2.ensures (and_then law c.put_decimal-2.ensures (and_then law c.put-3.ensures (and_then law c.put_decimal-3.ensures (and_then law c.put-4.ensures (and_then law c.put_decimal-4.ensures c.put-5.ensures)))))))
