-- A SAFI of more than an octet has no name.
use Rattle.std.proofs.Common.{◌≡◌, ◌≤◌, ◌==◌, ◌&&◌, ℕ, Bool, List, [], ◌∷◌, None, true, false, refl, ap, nat_lt, arith}
use Rattle.std.proofs.lemmas.Bool.{and_parts, ltb-true, ne_eqb}
use Rattle.bgp_names.specs.Families.{family_name, family_names, family_numbers}
use Rattle.bgp_names.specs.Naming.{name_of_two_in, name_or}

-- each row has a SAFI of an octet
abbrev pub all_small : List (ℕ × ℕ × List ℕ) → Bool
all_small [] = true
all_small (row ∷ rows) = nat_lt row.1 256 && all_small rows

both_false : (b : Bool) → (b && false) ≡ false
both_false true = refl
both_false false = refl

not_there : (rows : List (ℕ × ℕ × List ℕ)) (afi safi : ℕ) → 256 ≤ safi → all_small rows ≡ true → name_of_two_in rows afi safi ≡ None
not_there [] afi safi wide small = refl
not_there (row ∷ rows) afi safi wide small =
    let parts = and_parts (nat_lt row.1 256) (all_small rows) small in
    let other = ne_eqb safi row.1 (λ e. omega (arith, e, wide, ltb-true row.1 256 parts.0)) in
    rw (other, both_false (afi == row.0)) (not_there rows afi safi wide parts.1)

pub no_name : (afi safi : ℕ) → 256 ≤ safi → family_name afi safi ≡ family_numbers afi safi
no_name afi safi wide = ap (name_or (family_numbers afi safi)) (not_there family_names afi safi wide refl)
