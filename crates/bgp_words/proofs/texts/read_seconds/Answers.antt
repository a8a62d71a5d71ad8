use Rattle.std.proofs.Common.{rules, ℕ, ◌^◌, Some, None, arith}
use Rattle.bgp_words.proofs.ReadNumbers.{below, kept, dropped, missed}
use Rattle.bgp_words.proofs.texts.read_seconds.Goals as goal

abbrev IsGood : ℕ → Type 0
IsGood n = Unit {0}

pub returns-in_err-number : goal.returns-in_err-number
returns-in_err-number c n =
    below c.args.text.now c.from_residual.result (2 ^ 16) n (missed c.args.text.now c.read_number.result c.read_number.ensures (2 ^ 16)
    (omega arith) IsGood c.from_residual.result (search rules) (search rules) n)

pub returns-then-number : goal.returns-then-number
returns-then-number c n =
    below c.args.text.now (Some c.in_ok-number.number) (2 ^ 16) n (kept c.args.text.now c.read_number.result c.read_number.ensures (2 ^ 16)
    (omega arith) IsGood c.in_ok-number.number c.in_ok-number.was (omega (arith, c.if-number.true)) tt n)

pub returns-else-number : goal.returns-else-number
returns-else-number c n =
    below c.args.text.now None (2 ^ 16) n (dropped c.args.text.now c.read_number.result c.read_number.ensures (2 ^ 16)
    (omega arith) IsGood c.in_ok-number.number c.in_ok-number.was (λ under good. absurd (omega (arith, under, c.if-number.false))) n)
