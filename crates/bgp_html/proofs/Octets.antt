-- What stands in HTML for one octet: no markup, and that octet alone.
use Rattle.std.proofs.Common.{◌≡◌, ◌==◌, ◌++◌, ◌∷◌, ℕ, Bool, true, false, List, [], codes, if◌then◌else◌, refl, sym, slice_index}
use Rattle.std.specs.List.{list_any}
use Rattle.std.proofs.lemmas.Bool.{eqb-true}
use Rattle.bgp_html.specs.Escaped.{escape_octet, is_markup}

-- what stands there, by which of the five octets it is
abbrev pub by_tests : ℕ → (a b c d e : Bool) → List ℕ
by_tests octet a b c d e =
    if a then codes "&amp;" else
    if b then codes "&lt;" else
    if c then codes "&gt;" else
    if d then codes "&quot;" else
    if e then codes "&#39;" else
    octet ∷ []

-- ---- no markup

inert_by : (octet : ℕ) (a b c d e : Bool) → (octet == 60) ≡ b → (octet == 62) ≡ c → (octet == 34) ≡ d → (octet == 39) ≡ e
    → list_any is_markup (by_tests octet a b c d e) ≡ false
inert_by octet true b c d e p q r s = refl
inert_by octet false true c d e p q r s = refl
inert_by octet false false true d e p q r s = refl
inert_by octet false false false true e p q r s = refl
inert_by octet false false false false true p q r s = refl
inert_by octet false false false false false p q r s = rw p (rw q (rw r (rw s refl)))

pub inert : (octet : ℕ) → list_any is_markup (escape_octet octet) ≡ false
unfolding escape_octet
inert octet = inert_by octet (octet == 38) (octet == 60) (octet == 62) (octet == 34) (octet == 39) refl refl refl refl

-- ---- that octet alone

-- the octet for which a reference stands, by its second octet
abbrev named : ℕ → ℕ
named letter =
    if letter == 97 then 38 else
    if letter == 108 then 60 else
    if letter == 103 then 62 else
    if letter == 113 then 34 else
    39

-- the first octet of the text that stands there
abbrev pub first_in : List ℕ → ℕ
first_in html = if slice_index html 0 == 38 then named (slice_index html 1) else slice_index html 0

first_by : (octet : ℕ) (rest : List ℕ) (a b c d e : Bool)
    → (octet == 38) ≡ a → (octet == 60) ≡ b → (octet == 62) ≡ c → (octet == 34) ≡ d → (octet == 39) ≡ e
    → first_in (by_tests octet a b c d e ++ rest) ≡ octet
first_by octet rest true b c d e o p q r s = sym (eqb-true octet 38 o)
first_by octet rest false true c d e o p q r s = sym (eqb-true octet 60 p)
first_by octet rest false false true d e o p q r s = sym (eqb-true octet 62 q)
first_by octet rest false false false true e o p q r s = sym (eqb-true octet 34 r)
first_by octet rest false false false false true o p q r s = sym (eqb-true octet 39 s)
first_by octet rest false false false false false o p q r s = rw o refl

pub first_of : (octet : ℕ) (rest : List ℕ) → first_in (escape_octet octet ++ rest) ≡ octet
unfolding escape_octet
first_of octet rest =
    first_by octet rest (octet == 38) (octet == 60) (octet == 62) (octet == 34) (octet == 39) refl refl refl refl refl

-- something stands there
abbrev pub is_some : List ℕ → Bool
is_some [] = false
is_some (octet ∷ octets) = true

some_by : (octet : ℕ) (rest : List ℕ) (a b c d e : Bool) → is_some (by_tests octet a b c d e ++ rest) ≡ true
some_by octet rest true b c d e = refl
some_by octet rest false true c d e = refl
some_by octet rest false false true d e = refl
some_by octet rest false false false true e = refl
some_by octet rest false false false false true = refl
some_by octet rest false false false false false = refl

pub some_of : (octet : ℕ) (rest : List ℕ) → is_some (escape_octet octet ++ rest) ≡ true
unfolding escape_octet
some_of octet rest = some_by octet rest (octet == 38) (octet == 60) (octet == 62) (octet == 34) (octet == 39)
