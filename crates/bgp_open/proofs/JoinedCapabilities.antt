-- The capabilities of an OPEN, parameter by parameter.
use Rattle.std.proofs.Common.{◌≡◌, ℕ, List, [], ◌∷◌, ◌++◌, ap}
use Rattle.std.specs.List.{flat_map}
use Rattle.std.proofs.lemmas.Bool.{ne_eqb}
use Rattle.bgp_open.specs.Triplet.{Triplet, triplets_of}
use Rattle.bgp_open.specs.Open.{capabilities_in, capabilities_of}

pub capabilities_of-none : (parameters : List ℕ) → triplets_of parameters ≡ [] → capabilities_of parameters ≡ []
unfolding capabilities_of
capabilities_of-none parameters none = ap (λ (ts : List Triplet). flat_map capabilities_in ts) none

pub capabilities_of-first : (parameter : Triplet) (parameters behind : List ℕ) → triplets_of parameters ≡ parameter ∷ triplets_of behind
    → capabilities_of parameters ≡ capabilities_in parameter ++ capabilities_of behind
unfolding capabilities_of
capabilities_of-first parameter parameters behind first = ap (λ (ts : List Triplet). flat_map capabilities_in ts) first

-- a parameter of another type has none
pub capabilities_in-other : (parameter : Triplet) → (parameter.code ≡ 2 → ⊥) → capabilities_in parameter ≡ []
capabilities_in-other parameter other = rw (ne_eqb parameter.code 2 other)
