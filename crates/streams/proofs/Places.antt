-- What is given at a place: among the octets known, or in an island.
use Rattle.std.proofs.Common.{◌≡◌, ◌<◌, ◌≤◌, ◌∙◌, ℕ, Some, Option, refl, ap, arith, true, false, length}
use Rattle.std.specs.Option.{option_or, is_some}
use Rattle.std.specs.BTreeMap.{is_at}
use Rattle.std.specs.Ordering.{nat_cmp}
use Rattle.std.proofs.lemmas.Bool.Decides.{nat_tests}
use Rattle.streams.specs.declared.gathered.Given.{Given}
use Rattle.streams.specs.declared.gathered.Gathered.{Gathered}
use Rattle.streams.specs.Given.{total, known_at, held_at, given_at}
use Rattle.streams.proofs.Known.{known_within, known_past}

pub given_is : {Z : Type 0} (gathered : Gathered Z) (place : ℕ)
    → given_at gathered place ≡ option_or (known_at gathered.known.octets.items gathered.known.runs.items place) (held_at gathered.islands.entries place)
unfolding given_at
given_is gathered place = refl

pub known_given : {Z : Type 0} (gathered : Gathered Z) (place : ℕ) (given : Given)
    → known_at gathered.known.octets.items gathered.known.runs.items place ≡ Some given → given_at gathered place ≡ Some given
known_given gathered place given is = given_is gathered place ∙ ap (λ (o : Option Given). option_or o (held_at gathered.islands.entries place)) is

pub known_is_given : {Z : Type 0} (gathered : Gathered Z) (place : ℕ) → total gathered.known.runs.items ≡ length gathered.known.octets.items
    → place < length gathered.known.octets.items → is_some (given_at gathered place) ≡ true
known_is_given gathered place covered lt =
    let known = known_within gathered.known.octets.items gathered.known.runs.items place covered lt in
    ap is_some (known_given gathered place _ known.1)

pub held : {Z : Type 0} (gathered : Gathered Z) (place : ℕ) → length gathered.known.octets.items ≤ place
    → given_at gathered place ≡ held_at gathered.islands.entries place
held gathered place ge =
    given_is gathered place
    ∙ ap (λ (o : Option Given). option_or o (held_at gathered.islands.entries place)) (known_past gathered.known.octets.items gathered.known.runs.items place ge)

pub is_at_other : (k q : ℕ) → (q ≡ k → ⊥) → is_at (nat_cmp k) q ≡ false
is_at_other k q apart = grind (arith, nat_tests, apart)

pub is_at_same : (k q : ℕ) → q ≡ k → is_at (nat_cmp k) q ≡ true
is_at_same k q same = grind (arith, nat_tests, same)
