use Rattle.std.proofs.Common.{refl}
use Rattle.std.proofs.lemmas.Bool.{eq-eqb, le-ltb, lt-ltb, ne_eqb}
use Rattle.bgp_ladder.proofs.rows.mark_at.Goals as goal

pub returns-in-None : goal.returns-in-None
returns-in-None c = rw c.in-None.is refl

pub returns-then-number-no : goal.returns-then-number-no
returns-then-number-no c = rw c.in-Some.is (rw (eq-eqb _ _ c.if-number-no.true) refl)

pub returns-then-no-number : goal.returns-then-no-number
returns-then-no-number c = rw c.in-Some.is (rw (ne_eqb _ _ c.if-number-no.false) (rw (lt-ltb _ _ c.if-no-number.true) refl))

pub returns-else-no-number : goal.returns-else-no-number
returns-else-no-number c = rw c.in-Some.is (rw (ne_eqb _ _ c.if-number-no.false) (rw (le-ltb _ _ c.if-no-number.false) refl))
