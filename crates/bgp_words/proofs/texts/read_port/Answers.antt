use Rattle.std.proofs.Common.{rules, ◌≡◌, ◌≢◌, ◌∙◌, ℕ, ◌^◌, true, false, arith, sym}
use Rattle.bgp_words.proofs.ReadNumbers.{kept, dropped, missed}
use Rattle.bgp_words.proofs.texts.read_port.Goals as goal

abbrev IsGood : ℕ → Type 0
IsGood n = n ≢ 0

pub returns-in_err-number : goal.returns-in_err-number
returns-in_err-number c =
    missed c.args.text.now c.read_number.result c.read_number.ensures (2 ^ 16) (omega arith) IsGood c.from_residual.result
    (search rules) (search rules)

pub returns-then-is_port : goal.returns-then-is_port
returns-then-is_port c =
    let good = c.is_port.ensures.0 c.if-is_port.true in
    kept c.args.text.now c.read_number.result c.read_number.ensures (2 ^ 16) (omega arith) IsGood c.in_ok-number.number
    c.in_ok-number.was good.0 good.1

pub returns-else-is_port : goal.returns-else-is_port
returns-else-is_port c =
    dropped c.args.text.now c.read_number.result c.read_number.ensures (2 ^ 16) (omega arith) IsGood c.in_ok-number.number
    c.in_ok-number.was (λ under good. let bad : true ≡ false = sym (c.is_port.ensures.1 (under, good)) ∙ c.if-is_port.false in absurd (cc))
