-- Where `Numbers` stand: no contract names it.
use Rattle.std.specs.Prelude.{ℕ, List}
use Rattle.bgp_path.specs.declared.numbers.Held.{Held}
use Rattle.bgp_path.specs.declared.numbers.Held.TheVariants.{Few, Many}

abbrev pub held_numbers : {X : Type 0} → Held X → List ℕ
held_numbers (Few few) = few.items
held_numbers (Many many) = many.items
