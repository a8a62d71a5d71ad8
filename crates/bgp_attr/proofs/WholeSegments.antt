-- Walking over path segments one at a time, and that the walk tells whole segments.
use Rattle.std.proofs.Common.{◌≡◌, ℕ, zero, suc, ◌+◌, ◌*◌, ◌≤◌, true, false, List, [], ◌∷◌, ◌++◌, length, take, drop, slice_index, All, refl, sym, ap, ◌∙◌, arith, inl, inr, eqb}
use Rattle.std.specs.List.{flat_map}
use Rattle.std.proofs.lemmas.Bool.{cases_Bool, and_parts, or_cases, leb-true, le-leb, eqb-true, ne_eqb, eq-eqb}
use Rattle.std.proofs.lemmas.List.{length-drop, length-take, length-append, take-append-drop, drop-drop, nil_from_length}
use Rattle.std.proofs.lemmas.List.Elements.{All-nil, All-cons, All-head, All-tail}
use Rattle.std.proofs.Math.Seq.{drop-append_seam}
use Rattle.bgp_attr.specs.Segments.{WireSegment, IsSegment, segment_octets, AreSegments, segment_len, has_segment, are_segments_in, are_segments}

-- what a segment at the front says
pub record Has (most width : ℕ) (octets : List ℕ) : Type 0 where
  pub least : 1 ≤ slice_index octets 0
  pub greatest : slice_index octets 0 ≤ most
  pub some : 1 ≤ slice_index octets 1
  pub whole : segment_len width octets ≤ length octets

pub has : (most width : ℕ) (octets : List ℕ) → has_segment most width octets ≡ true → Has most width octets
unfolding has_segment
has most width octets e =
    let a = and_parts _ _ e in
    let b = and_parts _ _ a.1 in
    let c = and_parts _ _ b.1 in
    record { least = leb-true _ _ a.0; greatest = leb-true _ _ b.0; some = leb-true _ _ c.0; whole = leb-true _ _ c.1 }

pub has_from : (most width : ℕ) (octets : List ℕ) → Has most width octets → has_segment most width octets ≡ true
unfolding has_segment
has_from most width octets h =
    rw (le-leb _ _ h.least, le-leb _ _ h.greatest, le-leb _ _ h.some, le-leb _ _ h.whole) refl

-- what is left of fuel for the octets after the first segment
less : (most width n : ℕ) (octets : List ℕ) → has_segment most width octets ≡ true → length octets ≤ suc n → length (drop (segment_len width octets) octets) ≤ n
less most width n octets e h =
    let whole = (has most width octets e).whole in
    omega (arith, whole, length-drop (segment_len width octets) octets)

-- more fuel than octets changes nothing
same_in : (n m most width : ℕ) (octets : List ℕ) → length octets ≤ n → length octets ≤ m → are_segments_in n most width octets ≡ are_segments_in m most width octets
same_in zero zero most width octets h k = refl
same_in zero (suc m) most width octets h k = rw (eq-eqb (length octets) 0 (omega arith)) refl
same_in (suc n) zero most width octets h k = rw (eq-eqb (length octets) 0 (omega arith)) refl
same_in (suc n) (suc m) most width octets h k = elim (cases_Bool (has_segment most width octets)) [
  | inl e ↦
      let same = same_in n m most width (drop (segment_len width octets) octets) (less most width n octets e h) (less most width m octets e k) in
      rw (e, same) refl
  | inr e ↦ rw e refl
]

pub segments_end : (most width : ℕ) (octets : List ℕ) → true ≡ eqb (length octets) 0 → are_segments most width octets ≡ true
unfolding are_segments
segments_end most width octets e = rw (nil_from_length octets (eqb-true _ _ (sym e))) refl

pub segments_step : (most width : ℕ) (octets : List ℕ) → has_segment most width octets ≡ true → are_segments most width octets ≡ are_segments most width (drop (segment_len width octets) octets)
unfolding are_segments
segments_step most width octets e =
    let whole = (has most width octets e).whole in
    let rest = drop (segment_len width octets) octets in
    let one : are_segments_in (suc (length octets)) most width octets ≡ are_segments_in (length octets) most width rest = rw (ne_eqb (length octets) 0 (λ z. absurd (omega arith)), e) refl in
    same_in (length octets) (suc (length octets)) most width octets (omega arith) (omega arith)
    ∙ one
    ∙ same_in (length octets) (length rest) most width rest (omega (arith, length-drop (segment_len width octets) octets)) (omega arith)

pub segments_stop : (most width : ℕ) (octets : List ℕ) → false ≡ eqb (length octets) 0 → has_segment most width octets ≡ false → are_segments most width octets ≡ false
unfolding are_segments
segments_stop most width octets some e =
    let one : are_segments_in (suc (length octets)) most width octets ≡ false = rw (← some, e) refl in
    same_in (length octets) (suc (length octets)) most width octets (omega arith) (omega arith) ∙ one

-- ---- the test is the relation

-- segments with one more in front
more : (most width : ℕ) (octets : List ℕ) → Has most width octets → AreSegments most width (drop (segment_len width octets) octets) → AreSegments most width octets
more most width [] h rest = absurd (omega (arith, h.least))
more most width (kind ∷ []) h rest = absurd (omega (arith, h.some))
more most width (kind ∷ count ∷ octets) h rest =
    let n = width * count in
    let first : WireSegment = record { kind = kind; count = count; numbers = take n octets } in
    let after : drop (2 + n) (kind ∷ count ∷ octets) ≡ drop n octets = sym (drop-drop n 2 (kind ∷ count ∷ octets)) in
    let joined : kind ∷ count ∷ octets ≡ segment_octets first ++ flat_map segment_octets rest.0 =
    ap (λ (t : List ℕ). kind ∷ count ∷ t) (sym (take-append-drop n octets) ∙ ap (λ (t : List ℕ). take n octets ++ t) (sym after ∙ rest.1)) in
    (first ∷ rest.0, joined, All-cons (IsSegment most width) first rest.0 record { least = h.least; greatest = h.greatest; some = h.some; whole = omega (arith, h.whole, length-take n octets) } rest.2)

pub told : (n most width : ℕ) (octets : List ℕ) → are_segments_in n most width octets ≡ true → AreSegments most width octets
told zero most width octets e = ([], nil_from_length octets (eqb-true _ _ e), All-nil (IsSegment most width))
told (suc n) most width octets e = elim (or_cases _ _ e) [
  | inl z ↦ ([], nil_from_length octets (eqb-true _ _ z), All-nil (IsSegment most width))
  | inr h ↦
      let parts = and_parts _ _ h in
      more most width octets (has most width octets parts.0) (told n most width (drop (segment_len width octets) octets) parts.1)
]

pub tells : (most width : ℕ) (segments : List WireSegment) → All (IsSegment most width) segments → are_segments most width (flat_map segment_octets segments) ≡ true
tells most width [] each = segments_end most width [] refl
tells most width (s ∷ segments) each =
    let first = All-head (IsSegment most width) s segments each in
    let rest = flat_map segment_octets segments in
    let octets = segment_octets s ++ rest in
    let e = has_from most width octets record { least = first.least; greatest = first.greatest; some = first.some; whole = omega (arith, first.whole, length-append s.numbers rest) } in
    let after : drop (2 + width * s.count) octets ≡ rest = sym (drop-drop (width * s.count) 2 octets) ∙ ap (λ (k : ℕ). drop k (s.numbers ++ rest)) (sym first.whole) ∙ drop-append_seam s.numbers rest in
    segments_step most width octets e ∙ ap (are_segments most width) after ∙ tells most width segments (All-tail (IsSegment most width) s segments each)

-- ---- more types

wider_each : (least most width : ℕ) → least ≤ most → (segments : List WireSegment) → All (IsSegment least width) segments → All (IsSegment most width) segments
wider_each least most width le [] each = All-nil (IsSegment most width)
wider_each least most width le (s ∷ segments) each =
    let first = All-head (IsSegment least width) s segments each in
    All-cons (IsSegment most width) s segments record { least = first.least; greatest = omega (arith, first.greatest); some = first.some; whole = first.whole }
    (wider_each least most width le segments (All-tail (IsSegment least width) s segments each))

-- segments of some types are segments of more types
pub wider : (least most width : ℕ) (value : List ℕ) → least ≤ most → are_segments least width value ≡ true → are_segments most width value ≡ true
unfolding are_segments
wider least most width value le e =
    let h = told (length value) least width value e in
    rw h.1 (tells most width h.0 (wider_each least most width le h.0 h.2))
