use Rattle.std.proofs.Common.{rules, ◌≡◌, ◌∙◌, ℕ, ◌^◌, true, false, arith, sym}
use Rattle.bgp_words.proofs.ReadNumbers.{kept, dropped, missed}
use Rattle.bgp_open.specs.Config.{IsBadHold}
use Rattle.bgp_words.proofs.texts.read_hold.Goals as goal

abbrev IsGood : ℕ → Type 0
IsGood n = ¬ IsBadHold n

pub returns-in_err-number : goal.returns-in_err-number
returns-in_err-number c =
    missed c.args.text.now c.read_number.result c.read_number.ensures (2 ^ 16) (omega arith) IsGood c.from_residual.result
    (search rules) (search rules)

pub returns-then-is_hold_time : goal.returns-then-is_hold_time
returns-then-is_hold_time c =
    let good = c.is_hold_time.ensures.0 c.if-is_hold_time.true in
    kept c.args.text.now c.read_number.result c.read_number.ensures (2 ^ 16) (omega arith) IsGood c.in_ok-number.number
    c.in_ok-number.was good.0 good.1

pub returns-else-is_hold_time : goal.returns-else-is_hold_time
returns-else-is_hold_time c =
    dropped c.args.text.now c.read_number.result c.read_number.ensures (2 ^ 16) (omega arith) IsGood c.in_ok-number.number
    c.in_ok-number.was (λ under good. let bad : true ≡ false = sym (c.is_hold_time.ensures.1 (under, good)) ∙ c.if-is_hold_time.false in absurd (cc))
