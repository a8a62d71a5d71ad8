use Rattle.std.proofs.Common.{rules, ◌≡◌, ◌≢◌, ◌∙◌, ℕ, ◌^◌, true, false, arith, sym}
use Rattle.bgp_words.proofs.ReadNumbers.{kept, dropped, missed}
use Rattle.bgp_words.proofs.texts.read_positive.Goals as goal

abbrev IsGood : ℕ → Type 0
IsGood n = n ≢ 0

pub returns-in_err-number : goal.returns-in_err-number
returns-in_err-number c =
    missed c.args.text.now c.read_number.result c.read_number.ensures (2 ^ 32) (omega arith) IsGood c.from_residual.result
    (search rules) (search rules)

pub returns-then-is_positive : goal.returns-then-is_positive
returns-then-is_positive c =
    let good = c.is_positive.ensures.0 c.if-is_positive.true in
    kept c.args.text.now c.read_number.result c.read_number.ensures (2 ^ 32) (omega arith) IsGood c.in_ok-number.number
    c.in_ok-number.was good.0 good.1

pub returns-else-is_positive : goal.returns-else-is_positive
returns-else-is_positive c =
    dropped c.args.text.now c.read_number.result c.read_number.ensures (2 ^ 32) (omega arith) IsGood c.in_ok-number.number
    c.in_ok-number.was (λ under good. let bad : true ≡ false = sym (c.is_positive.ensures.1 (under, good)) ∙ c.if-is_positive.false in absurd (cc))
