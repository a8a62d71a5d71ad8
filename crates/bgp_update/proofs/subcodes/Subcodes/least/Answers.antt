use Rattle.std.proofs.Common.{inl, inr, arith}
use Rattle.std.proofs.lemmas.Bool.{cases_lt}
use Rattle.bgp_update.proofs.Marks.{not_beyond, none_at, not_true}
use Rattle.bgp_update.proofs.subcodes.Subcodes.least.Goals as goal

pub returns-then-contains-clause-first : goal.returns-then-contains-clause-first
returns-then-contains-clause-first c = λ m has. elim (cases_lt m c.loop-subcode.subcode) [
  | inl below ↦ absurd (c.loop-subcode.invariant m below has)
  | inr above ↦ above
]

pub loop-subcode-preserved : goal.loop-subcode-preserved
loop-subcode-preserved c = none_at c.args.self c.loop-subcode.subcode c.loop-subcode.invariant (λ has. not_true c.contains.result c.if-contains.false (c.contains.ensures.1 has))

pub returns-clause-none : goal.returns-clause-none
returns-clause-none c = λ n has. not_beyond c.args.self n has (λ below. c.loop-subcode.invariant n (omega arith) has)
