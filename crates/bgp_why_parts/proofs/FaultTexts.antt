-- The text of AS numbers that fit each other, or don't.
use Rattle.std.proofs.Common.{◌≡◌, ◌++◌, ℕ, codes, refl}
use Rattle.std.proofs.lemmas.Bool.{eq-eqb, ne_eqb}
use Rattle.std.specs.Fmt.{decimal}
use Rattle.bgp_wire.specs.AsNumber.{two_octet_as}
use Rattle.bgp_why_parts.specs.OwnFaults.{as_text}

pub text_of_odd : (my_as number : ℕ) → (my_as ≡ two_octet_as number → ⊥)
    → as_text my_as number ≡ codes "My AS " ++ (decimal my_as ++ (codes " and four-octet AS " ++ decimal number))
unfolding as_text
text_of_odd my_as number odd = rw (ne_eqb my_as (two_octet_as number) odd) refl

pub text_of_zero : (my_as number : ℕ) → my_as ≡ two_octet_as number → as_text my_as number ≡ codes "AS " ++ decimal my_as
unfolding as_text
text_of_zero my_as number same = rw (eq-eqb my_as (two_octet_as number) same) refl
