-- The segments of a path, one by one.
use Rattle.std.proofs.Common.{◌≡◌, ◌∙◌, ◌<◌, ◌≤◌, ◌∷◌, ◌==◌, ℕ, zero, suc, List, [], true, false, refl, sym, ap, length, drop, arith, inl, inr}
use Rattle.std.proofs.lemmas.Bool.{cases_Bool}
use Rattle.std.proofs.lemmas.List.{length-drop, nil_from_length}
use Rattle.bgp_update.specs.PathIn.{segment_at}
use Rattle.bgp_update.specs.Segments.{WireSegment, are_segments, has_segment, segment_len}
use Rattle.bgp_update.proofs.WholeSegments.{has, segments_end, segments_stop}
use Rattle.bgp_values.specs.PathSegments.{segments_in, segments_of}

-- no segment stands in no octets
none_there : (width : ℕ) → has_segment 4 width [] ≡ false
none_there width = elim (cases_Bool (has_segment 4 width [])) [
  | inl some ↦ let whole = (has 4 width [] some).whole in absurd (omega (arith, whole))
  | inr none ↦ none
]

-- what stands behind a segment is shorter
pub less : (width : ℕ) (octets : List ℕ) → has_segment 4 width octets ≡ true → length (drop (segment_len width octets) octets) < length octets
less width octets some =
    let whole = (has 4 width octets some).whole in
    omega (arith, whole, length-drop (segment_len width octets) octets)

-- how many there may be plays no part, if it is enough
same_segments : (n m width : ℕ) (octets : List ℕ) → length octets ≤ n → length octets ≤ m → segments_in n width octets ≡ segments_in m width octets
same_segments zero zero width octets enough enough' = refl
same_segments zero (suc m) width octets enough enough' = rw (ap (has_segment 4 width) (nil_from_length octets (omega (arith, enough))) ∙ none_there width) refl
same_segments (suc n) zero width octets enough enough' = rw (ap (has_segment 4 width) (nil_from_length octets (omega (arith, enough'))) ∙ none_there width) refl
same_segments (suc n) (suc m) width octets enough enough' = elim (cases_Bool (has_segment 4 width octets)) [
  | inl some ↦
      let shorter = less width octets some in
      rw some (ap (λ (rest : List WireSegment). segment_at width octets ∷ rest)
      (same_segments n m width (drop (segment_len width octets) octets) (omega (arith, shorter, enough)) (omega (arith, shorter, enough'))))
  | inr none ↦ rw none refl
]

pub no_segment : (width : ℕ) (octets : List ℕ) → has_segment 4 width octets ≡ false → segments_of width octets ≡ []
no_segment width [] none = refl
no_segment width (o ∷ octets) none = rw none refl

pub one_segment : (width : ℕ) (octets : List ℕ) → has_segment 4 width octets ≡ true
    → segments_of width octets ≡ segment_at width octets ∷ segments_of width (drop (segment_len width octets) octets)
one_segment width [] some = absurd (let whole = (has 4 width [] some).whole in omega (arith, whole))
one_segment width (o ∷ octets) some =
    let shorter = less width (o ∷ octets) some in
    rw some (ap (λ (rest : List WireSegment). segment_at width (o ∷ octets) ∷ rest)
    (same_segments (length octets) (length (drop (segment_len width (o ∷ octets)) (o ∷ octets))) width (drop (segment_len width (o ∷ octets)) (o ∷ octets)) (omega (arith, shorter)) (omega arith)))

-- octets at whose front no segment stands are segments if they are none
pub at_end : (width : ℕ) (octets : List ℕ) → has_segment 4 width octets ≡ false → are_segments 4 width octets ≡ (length octets == 0)
at_end width octets none = elim (cases_Bool (length octets == 0)) [
  | inl empty ↦ segments_end 4 width octets (sym empty) ∙ sym empty
  | inr some ↦ segments_stop 4 width octets (sym some) none ∙ sym some
]

-- a segment field by field
pub same_segment : (s : WireSegment) (kind count : ℕ) (numbers : List ℕ) → kind ≡ s.kind → count ≡ s.count → numbers ≡ s.numbers
    → (record { kind = kind; count = count; numbers = numbers }) ≡ s
same_segment s kind count numbers is_kind is_count are_numbers = λ i. record { kind = is_kind i; count = is_count i; numbers = are_numbers i }
