use Rattle.std.proofs.Common.{◌≡◌, ◌+◌, ◌-◌, ◌∙◌, ℕ, ap, sym, arith, lit≤}
use Rattle.bgp_clock.proofs.Walked.{month_here, month_last, month_on}
use Rattle.bgp_clock.proofs.civil.month_of.Goals as goal

pub loop-month-preserved : goal.loop-month-preserved
loop-month-preserved c =
    let length = c.days_in_month-length.ensures in
    let step = month_on (12 - c.loop-month.month) (12 - (c.loop-month.month + 1)) c.args.year c.loop-month.month c.loop-month.rest (omega arith) (rw length at c.if-rest-length.false) in
    (rw length (sym step ∙ c.loop-month.invariant.0), omega (arith, c.loop-month.invariant.1))

pub returns-then-rest-length-clause-month : goal.returns-then-rest-length-clause-month
returns-then-rest-length-clause-month c =
    let length = c.days_in_month-length.ensures in
    let here = month_here (12 - c.loop-month.month) (12 - (c.loop-month.month + 1)) c.args.year c.loop-month.month c.loop-month.rest (omega arith) (rw length at c.if-rest-length.true) in
    ap (λ (p : ℕ × ℕ). p.0) (sym here ∙ c.loop-month.invariant.0)

pub returns-then-rest-length-clause-days : goal.returns-then-rest-length-clause-days
returns-then-rest-length-clause-days c =
    let length = c.days_in_month-length.ensures in
    let here = month_here (12 - c.loop-month.month) (12 - (c.loop-month.month + 1)) c.args.year c.loop-month.month c.loop-month.rest (omega arith) (rw length at c.if-rest-length.true) in
    ap (λ (p : ℕ × ℕ). p.1) (sym here ∙ c.loop-month.invariant.0)

pub returns-clause-month : goal.returns-clause-month
returns-clause-month c =
    let last = month_last (12 - c.loop-month.month) c.args.year c.loop-month.month c.loop-month.rest (omega (arith, c.loop-month-test.false)) in
    let is : 12 ≡ c.loop-month.month = omega (arith, c.loop-month-test.false, c.loop-month.auto.month-end (lit≤ tt)) in
    is ∙ ap (λ (p : ℕ × ℕ). p.0) (sym last ∙ c.loop-month.invariant.0)

pub returns-clause-days : goal.returns-clause-days
returns-clause-days c =
    let last = month_last (12 - c.loop-month.month) c.args.year c.loop-month.month c.loop-month.rest (omega (arith, c.loop-month-test.false)) in
    ap (λ (p : ℕ × ℕ). p.1) (sym last ∙ c.loop-month.invariant.0)
