-- Octets compared from their front on: after one front, after two, and as a whole.
use Rattle.std.proofs.Common.{◌≡◌, ◌∙◌, ◌<◌, ◌++◌, ◌∷◌, [], ◌&&◌, ℕ, List, Bool, false, Option, None, Some, refl, sym, ap, subst, length, take, arith, append_assoc, length-append, bytes_eq, eq-eqb, inl, inr}
use Rattle.std.specs.Borrow.{Bor}
use Rattle.std.specs.Cmp.Lexicographic.{other_text}
use Rattle.std.proofs.lemmas.Bool.{cases_Bool}
use Rattle.std.proofs.lemmas.List.{append_cancel_left, take_at}
use Rattle.std.proofs.lemmas.Slice.Eq.{bytes_eq-Decides}
use Rattle.bgp_json_values.specs.Fronts.{IsAfter}

-- ---- one front

-- too few octets don't begin with it
pub too_few : (front octets : List ℕ) → length octets < length front → IsAfter front octets None
too_few front octets few rest is = absurd (omega (arith, ap length is, length-append front rest))

-- nor do others
pub others : (front octets begin back : List ℕ) → octets ≡ begin ++ back → length begin ≡ length front → false ≡ bytes_eq begin front → IsAfter front octets None
others front octets begin back parts long other rest is =
    let n = length front in
    let same : begin ≡ front = sym (take_at begin back n long) ∙ ap (take n) (sym parts ∙ is) ∙ take_at front rest n refl in
    other_text begin front other same

-- ---- a front and then another

-- the same front in other words
pub in_words : (front first octets : List ℕ) (found : Option (Bor (List ℕ))) → front ≡ first → IsAfter front octets found → IsAfter first octets found
in_words front first octets found same after = subst (λ (xs : List ℕ). IsAfter xs octets found) same after

pub without_first : (front first second octets : List ℕ) → front ≡ first → IsAfter front octets None → IsAfter (first ++ second) octets None
without_first front first second octets same none rest is =
    none (second ++ rest) (is ∙ append_assoc first second rest ∙ ap (λ (xs : List ℕ). xs ++ (second ++ rest)) (sym same))

after_first : (first second octets rest : List ℕ) (found : Option (Bor (List ℕ))) → octets ≡ first ++ rest → IsAfter second rest found → IsAfter (first ++ second) octets found
after_first first second octets rest None parts none =
    λ more is. none more (append_cancel_left first rest (second ++ more) (sym parts ∙ is ∙ append_assoc first second more))
after_first first second octets rest (Some after) parts behind =
    parts ∙ ap (λ (xs : List ℕ). first ++ xs) behind ∙ sym (append_assoc first second after.now)

pub then_after : (front first back second octets rest : List ℕ) (found : Option (Bor (List ℕ))) → front ≡ first → back ≡ second → octets ≡ front ++ rest → IsAfter back rest found
    → IsAfter (first ++ second) octets found
then_after front first back second octets rest found same also parts behind =
    after_first first second octets rest found (parts ∙ ap (λ (xs : List ℕ). xs ++ rest) same) (in_words back second rest found also behind)

-- ---- the whole

same_front : (front xs ys : List ℕ) → bytes_eq (front ++ xs) (front ++ ys) ≡ bytes_eq xs ys
same_front [] xs ys = refl
same_front (o ∷ front) xs ys = ap (λ (b : Bool). b && bytes_eq (front ++ xs) (front ++ ys)) (eq-eqb o o refl) ∙ same_front front xs ys

-- what stands behind a front decides
pub by_rest : (front more octets rest : List ℕ) → octets ≡ front ++ rest → bytes_eq (front ++ more) octets ≡ bytes_eq more rest
by_rest front more octets rest parts = ap (bytes_eq (front ++ more)) parts ∙ same_front front more rest

-- and without it octets differ
pub differ : (front more octets : List ℕ) → IsAfter front octets None → false ≡ bytes_eq (front ++ more) octets
differ front more octets none = elim (cases_Bool (bytes_eq (front ++ more) octets)) [
  | inl same ↦ absurd (none more (sym ((bytes_eq-Decides (front ++ more) octets).0 same)))
  | inr other ↦ sym other
]
