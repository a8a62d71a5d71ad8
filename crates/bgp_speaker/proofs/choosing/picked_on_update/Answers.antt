use Rattle.std.proofs.Common.{◌≡◌, Bool, true, false, Option, None, Some, is_some, not, refl, ap}
use Rattle.bgp_speaker.proofs.MayBeTaken.{applies, least_apply, names_fault, never_applied}
use Rattle.bgp_speaker.proofs.choosing.picked_on_update.Goals as goal

none_if : {X : Type 0} (o : Option X) (b : Bool) → is_some o ≡ not b → b ≡ true → o ≡ None
none_if None b e t = refl
none_if (Some x) b e t = let f : not b ≡ false = ap not t in absurd (cc)

some_if : {X : Type 0} (o : Option X) (b : Bool) → is_some o ≡ not b → b ≡ false → o ≡ None → ⊥
some_if None b e t n = let f : not b ≡ true = ap not t in cc
some_if (Some x) b e t n = cc

pub returns-then-is_none-clause-picks : goal.returns-then-is_none-clause-picks
returns-then-is_none-clause-picks g c own timer octets are =
    never_applied own octets c.args.outcomes.now are (none_if c.args.outcomes.now.changes c.is_none.result c.is_none.ensures c.if-is_none.true)

pub returns-then-is_none-clause-may : goal.returns-then-is_none-clause-may
returns-then-is_none-clause-may g c own timer t octets are some =
    names_fault own timer t octets c.args.outcomes.now are (none_if c.args.outcomes.now.changes c.is_none.result c.is_none.ensures c.if-is_none.true) some

pub returns-clause-picks : goal.returns-clause-picks
returns-clause-picks g c own timer octets are =
    least_apply own octets c.args.outcomes.now are (some_if c.args.outcomes.now.changes c.is_none.result c.is_none.ensures c.if-is_none.false)

pub returns-clause-may : goal.returns-clause-may
returns-clause-may g c own timer t octets are some =
    applies own timer t octets c.args.outcomes.now are (some_if c.args.outcomes.now.changes c.is_none.result c.is_none.ensures c.if-is_none.false)
