use Rattle.std.proofs.Common.{◌≡◌, ◌++◌, ℕ, codes, refl}
use Rattle.std.proofs.lemmas.Bool.{ne_eqb}
use Rattle.std.specs.Fmt.{decimal}
use Rattle.bgp_text.proofs.Pieces.{Joins, and_then}
use Rattle.bgp_check_text.specs.JudgeLine.{hold_text}
use Rattle.bgp_check_text.proofs.judge_line.put_hold.Goals as goal

text_of_another : (hold : ℕ) → (hold ≡ 90 → ⊥) → hold_text hold ≡ codes " --hold " ++ decimal hold
text_of_another hold other = rw (ne_eqb hold 90 other) refl

pub returns-else-hold-eq-HOLD : goal.returns-else-hold-eq-HOLD
returns-else-hold-eq-HOLD g c =
    let law : Joins g.W.Sink = record { joined = g.met.W.Sink.joined } in
    rw (text_of_another c.args.hold c.if-hold-eq-HOLD.false) (and_then law c.put-else-hold-eq-HOLD.ensures c.put_decimal.ensures)
