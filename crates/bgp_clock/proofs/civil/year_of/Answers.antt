use Rattle.std.proofs.Common.{◌≡◌, ◌+◌, ◌-◌, ◌∙◌, ℕ, ap, sym, arith, lit≤}
use Rattle.bgp_clock.proofs.Walked.{year_here, year_last, year_on}
use Rattle.bgp_clock.proofs.civil.year_of.Goals as goal

pub loop-year-preserved : goal.loop-year-preserved
loop-year-preserved c =
    let length = c.days_in_year-length.ensures in
    let step = year_on (2106 - c.loop-year.year) (2106 - (c.loop-year.year + 1)) c.loop-year.year c.loop-year.rest (omega arith) (rw length at c.if-rest-length.false) in
    (rw length (sym step ∙ c.loop-year.invariant.0), omega (arith, c.loop-year.invariant.1))

pub returns-then-rest-length-clause-year : goal.returns-then-rest-length-clause-year
returns-then-rest-length-clause-year c =
    let length = c.days_in_year-length.ensures in
    let here = year_here (2106 - c.loop-year.year) (2106 - (c.loop-year.year + 1)) c.loop-year.year c.loop-year.rest (omega arith) (rw length at c.if-rest-length.true) in
    ap (λ (p : ℕ × ℕ). p.0) (sym here ∙ c.loop-year.invariant.0)

pub returns-then-rest-length-clause-days : goal.returns-then-rest-length-clause-days
returns-then-rest-length-clause-days c =
    let length = c.days_in_year-length.ensures in
    let here = year_here (2106 - c.loop-year.year) (2106 - (c.loop-year.year + 1)) c.loop-year.year c.loop-year.rest (omega arith) (rw length at c.if-rest-length.true) in
    ap (λ (p : ℕ × ℕ). p.1) (sym here ∙ c.loop-year.invariant.0)

pub returns-clause-year : goal.returns-clause-year
returns-clause-year c =
    let last = year_last (2106 - c.loop-year.year) c.loop-year.year c.loop-year.rest (omega (arith, c.loop-year-test.false)) in
    let is : 2106 ≡ c.loop-year.year = omega (arith, c.loop-year-test.false, c.loop-year.auto.year-end (lit≤ tt)) in
    is ∙ ap (λ (p : ℕ × ℕ). p.0) (sym last ∙ c.loop-year.invariant.0)

pub returns-clause-days : goal.returns-clause-days
returns-clause-days c =
    let last = year_last (2106 - c.loop-year.year) c.loop-year.year c.loop-year.rest (omega (arith, c.loop-year-test.false)) in
    ap (λ (p : ℕ × ℕ). p.1) (sym last ∙ c.loop-year.invariant.0)
