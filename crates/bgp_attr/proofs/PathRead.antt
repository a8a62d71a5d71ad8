-- Segments read one at a time.
use Rattle.std.proofs.Common.{◌==◌, ◌≡◌, ℕ, zero, suc, ◌*◌, ◌/◌, ◌≤◌, Bool, true, false, List, [], ◌∷◌, ◌++◌, length, take, drop, Option, None, Some, IsSome, IfSome, ◌↔◌, slice_index, refl, sym, ap, ◌∙◌, append_assoc, arith, eqb, inl, inr, if◌then◌else◌}
use Rattle.std.specs.List.{filter_map, cons_option}
use Rattle.std.proofs.lemmas.Bool.{cases_Bool}
use Rattle.std.proofs.lemmas.List.{length-drop, length-take}
use Rattle.bgp_path.specs.declared.as_path.SegmentKind.{SegmentKind}
use Rattle.bgp_path.specs.AsPath.{PathSegment}
use Rattle.bgp_attr.specs.Segments.{WireSegment, number_width, segment_len, has_segment, are_segments}
use Rattle.bgp_attr.specs.Numbers.{numbers_in, items_in}
use Rattle.bgp_attr.specs.PathIn.{segment_at, segments_in, segment_kind, path_segment, path_in}
use Rattle.bgp_attr.proofs.PathBack.{length-numbers_in}
use Rattle.bgp_attr.proofs.WholeSegments.{has, segments_stop}

same_in : (n m width : ℕ) (octets : List ℕ) → length octets ≤ n → length octets ≤ m → segments_in n width octets ≡ segments_in m width octets
same_in zero zero width octets h k = refl
same_in zero (suc m) width [] h k = refl
same_in zero (suc m) width (x ∷ xs) h k = absurd (omega arith)
same_in (suc n) zero width [] h k = refl
same_in (suc n) zero width (x ∷ xs) h k = absurd (omega arith)
same_in (suc n) (suc m) width octets h k =
    let rest = drop (segment_len width octets) octets in
    let less = length-drop (segment_len width octets) octets in
    ap (λ (t : List WireSegment). if length octets == 0 then [] else segment_at width octets ∷ t) (same_in n m width rest (omega arith) (omega arith))

pub path_step : (width : ℕ) (octets : List ℕ) → false ≡ eqb (length octets) 0
    → path_in width octets ≡ cons_option (path_segment width (segment_at width octets)) (path_in width (drop (segment_len width octets) octets))
path_step width octets some =
    let rest = drop (segment_len width octets) octets in
    let less = length-drop (segment_len width octets) octets in
    let one : segments_in (suc (length octets)) width octets ≡ segment_at width octets ∷ segments_in (length octets) width rest = rw (← some) refl in
    ap (filter_map (path_segment width))
    (same_in (length octets) (suc (length octets)) width octets (omega arith) (omega arith) ∙ one
    ∙ ap (λ (t : List WireSegment). segment_at width octets ∷ t) (same_in (length octets) (length rest) width rest (omega arith) (omega arith)))

true_false : true ≡ false → ⊥
true_false e = absurd cc

both : (b : Bool) → b ≡ true → b ≡ false → ⊥
both b h k = true_false (sym h ∙ k)

pub has_first : (width : ℕ) (octets : List ℕ) → false ≡ eqb (length octets) 0 → are_segments 4 width octets ≡ true → has_segment 4 width octets ≡ true
has_first width octets some each = elim (cases_Bool (has_segment 4 width octets)) [
  | inl e ↦ e
  | inr e ↦ absurd (both (are_segments 4 width octets) each (segments_stop 4 width octets some e))
]

-- the numbers of a segment are as many as its count says
pub all_numbers_by : (width k count : ℕ) (numbers : List ℕ) → length numbers ≡ width * count → width * count / width ≡ count → items_in width numbers ≡ numbers_in count width numbers
all_numbers_by width k count numbers long divides = ap (λ (n : ℕ). numbers_in (n / width) width numbers) long ∙ ap (λ (n : ℕ). numbers_in n width numbers) divides

divides : (as4 : Bool) (count : ℕ) → (number_width as4) * count / (number_width as4) ≡ count
divides true count = omega arith
divides false count = omega arith

pub all_numbers : (as4 : Bool) (octets numbers : List ℕ) → has_segment 4 (number_width as4) octets ≡ true → numbers ≡ (segment_at (number_width as4) octets).numbers
    → items_in (number_width as4) numbers ≡ numbers_in (slice_index octets 1) (number_width as4) (segment_at (number_width as4) octets).numbers
all_numbers as4 octets numbers h e =
    let width = number_width as4 in
    let whole = (has 4 width octets h).whole in
    let long : length (take (width * slice_index octets 1) (drop 2 octets)) ≡ width * slice_index octets 1 =
    omega (arith, length-take (width * slice_index octets 1) (drop 2 octets), length-drop 2 octets) in
    rw e (all_numbers_by width 0 (slice_index octets 1) (segment_at width octets).numbers long (divides as4 (slice_index octets 1)))

consed : (s : Option PathSegment) (rest : List PathSegment) → cons_option s [] ++ rest ≡ cons_option s rest
consed None rest = refl
consed (Some s) rest = refl

pub one_pushed : (width : ℕ) (old new all : List PathSegment) (octets after : List ℕ) (s : Option PathSegment) → false ≡ eqb (length octets) 0
    → s ≡ path_segment width (segment_at width octets) → new ≡ old ++ cons_option s [] → after ≡ drop (segment_len width octets) octets
    → old ++ path_in width octets ≡ all → new ++ path_in width after ≡ all
one_pushed width old new all octets after s some is push gone before =
    rw (push, gone, append_assoc) (ap (λ (t : List PathSegment). old ++ t) (consed s (path_in width (drop (segment_len width octets) octets)) ∙ ap (λ (o : Option PathSegment). cons_option o (path_in width (drop (segment_len width octets) octets))) is ∙ sym (path_step width octets some)) ∙ before)

abbrev one_of : SegmentKind → List ℕ → PathSegment
one_of kind numbers = record { kind = kind; numbers = numbers }

-- a segment that can be made is that of the octets
pub made : (as4 : Bool) (octets : List ℕ) (kind : SegmentKind) (numbers : List ℕ) (s : Option PathSegment) → has_segment 4 (number_width as4) octets ≡ true
    → Some kind ≡ segment_kind (slice_index octets 0) → numbers ≡ items_in (number_width as4) (segment_at (number_width as4) octets).numbers → slice_index octets 1 ≤ 255
    → IsSome s ↔ ((1 ≤ length numbers) × (length numbers ≤ 255)) → IfSome s (λ t. t ≡ record { kind = kind; numbers = numbers })
    → s ≡ path_segment (number_width as4) (segment_at (number_width as4) octets)
made as4 octets kind numbers None h k n room can is =
    let width = number_width as4 in
    let same : numbers ≡ numbers_in (slice_index octets 1) width (segment_at width octets).numbers = n ∙ all_numbers as4 octets (segment_at width octets).numbers h refl in
    let long : length numbers ≡ slice_index octets 1 = ap length same ∙ length-numbers_in (slice_index octets 1) width (segment_at width octets).numbers in
    absurd (true_false (sym (can.1 (omega (arith, long, (has 4 width octets h).some), omega (arith, long)))))
made as4 octets kind numbers (Some t) h k n room can is =
    let width = number_width as4 in
    let same : numbers ≡ numbers_in (slice_index octets 1) width (segment_at width octets).numbers = n ∙ all_numbers as4 octets (segment_at width octets).numbers h refl in
    rw (← k) (ap Some (is ∙ ap (λ (m : List ℕ). one_of kind m) same))
