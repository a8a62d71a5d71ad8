-- Octets are what their parts spell: pieces of one size, segments, numbers.
use Rattle.std.proofs.Common.{◌≡◌, ◌∙◌, ◌+◌, ◌*◌, ◌%◌, ◌<◌, ◌≤◌, ◌++◌, ◌∷◌, ℕ, zero, suc, List, [], Bool, true, false, refl, sym, ap, length, take, drop, nat_lt, arith, inl, inr, if◌then◌else◌, bytes_eq}
use Rattle.std.specs.List.{flat_map}
use Rattle.std.proofs.lemmas.Bool.{and_parts, cases_Bool, eqb-true, ltb-false, ltb-true}
use Rattle.std.proofs.lemmas.List.{get_or-drop, length-drop, length-take-le, nil_from_length, take-append-drop}
use Rattle.std.proofs.lemmas.Slice.Eq.{bytes_eq-Decides}
use Rattle.std.proofs.Math.Nat.{mod-eq-sub-mod, mod-eq_of_lt}
use Rattle.byteorder.specs.Endian.{big_bytes, big_number}
use Rattle.byteorder.specs.Numbers.{big_from-take}
use Rattle.bgp_prefix.proofs.AddressNumbers.{AreOctets, big_bytes-big_number}
use Rattle.bgp_attr.specs.PathIn.{segment_at}
use Rattle.bgp_attr.specs.Segments.{are_segments, has_segment, segment_len, segment_octets}
use Rattle.bgp_attr.proofs.WholeSegments.{has, segments_step}
use Rattle.bgp_values.specs.PathSegments.{segments_of}
use Rattle.bgp_values.specs.Pieces.{are_pieces, are_some_pieces, pieces_of}
use Rattle.bgp_values.proofs.PieceLists.{one_piece}
use Rattle.bgp_values.proofs.SegmentLists.{at_end, less, one_segment}
use Rattle.bgp_json_values.specs.CapabilityJson.{itself}

-- ---- by a test

-- what holds of both branches
pub either : {A : Type 0} (P : A → Type 0) (test : Bool) (x y : A) → (test ≡ true → P x) → (test ≡ false → P y) → P (if test then x else y)
either P true x y first second = first refl
either P false x y first second = second refl

pub equal : (xs ys : List ℕ) → xs ≡ ys → true ≡ bytes_eq xs ys
equal xs ys same = sym ((bytes_eq-Decides xs ys).1 same)

-- ---- pieces

joined_in : (n size : ℕ) (octets : List ℕ) → 0 < size → length octets ≤ n → length octets % size ≡ 0 → flat_map itself (pieces_of size octets) ≡ octets
joined_in zero size octets some enough fill = rw (nil_from_length octets (omega (arith, enough))) refl
joined_in (suc n) size octets some enough fill = elim (cases_Bool (nat_lt (length octets) size)) [
  | inl few ↦
      let short = ltb-true (length octets) size few in
      let none : length octets ≡ 0 = sym (mod-eq_of_lt short) ∙ fill in
      rw (nil_from_length octets none) refl
  | inr many ↦
      let whole : size ≤ length octets = ltb-false (length octets) size many in
      let left = length-drop size octets in
      let behind : length (drop size octets) % size ≡ 0 = ap (λ (k : ℕ). k % size) left ∙ sym (mod-eq-sub-mod whole) ∙ fill in
      rw (one_piece size octets some whole) (
      ap (λ (rest : List ℕ). take size octets ++ rest) (joined_in n size (drop size octets) some (omega (arith, some, whole, left, enough)) behind)
      ∙ take-append-drop size octets)
]

pub joined : (size : ℕ) (octets : List ℕ) → 0 < size → are_pieces size octets ≡ true → flat_map itself (pieces_of size octets) ≡ octets
joined size octets some fill = joined_in (length octets) size octets some (omega arith) (eqb-true _ _ fill)

pub some_joined : (size : ℕ) (octets : List ℕ) → 0 < size → are_some_pieces size octets ≡ true → flat_map itself (pieces_of size octets) ≡ octets
some_joined size octets some fill = joined size octets some (and_parts _ _ fill).1

-- ---- segments

one_spelled : (width : ℕ) (octets : List ℕ) → has_segment 4 width octets ≡ true → segment_octets (segment_at width octets) ≡ take (segment_len width octets) octets
one_spelled width [] some = absurd (let whole = (has 4 width [] some).whole in omega (arith, whole))
one_spelled width (a ∷ []) some = absurd (let whole = (has 4 width (a ∷ []) some).whole in omega (arith, whole))
one_spelled width (a ∷ b ∷ rest) some =
    let two : 2 + width * b ≡ suc (suc (width * b)) = omega arith in
    rw two refl

segments_in_turn : (n width : ℕ) (octets : List ℕ) → length octets ≤ n → are_segments 4 width octets ≡ true → flat_map segment_octets (segments_of width octets) ≡ octets
segments_in_turn zero width octets enough whole = rw (nil_from_length octets (omega (arith, enough))) refl
segments_in_turn (suc n) width octets enough whole = elim (cases_Bool (has_segment 4 width octets)) [
  | inl some ↦
      let len = segment_len width octets in
      let shorter = less width octets some in
      rw (one_segment width octets some) (
      (λ i. one_spelled width octets some i ++ segments_in_turn n width (drop len octets) (omega (arith, shorter, enough)) (sym (segments_step 4 width octets some) ∙ whole) i)
      ∙ take-append-drop len octets)
  | inr none ↦
      let empty = eqb-true _ _ (sym (at_end width octets none) ∙ whole) in
      rw (nil_from_length octets empty) refl
]

pub segments_joined : (width : ℕ) (octets : List ℕ) → are_segments 4 width octets ≡ true → flat_map segment_octets (segments_of width octets) ≡ octets
segments_joined width octets whole = segments_in_turn (length octets) width octets (omega arith) whole

-- ---- numbers

are_taken : (count : ℕ) (octets : List ℕ) → AreOctets octets → AreOctets (take count octets)
are_taken zero octets are k = omega arith
are_taken (suc count) [] are k = omega arith
are_taken (suc count) (o ∷ octets) are zero = are 0
are_taken (suc count) (o ∷ octets) are (suc k) = are_taken count octets (λ j. are (suc j)) k

pub are_dropped : (count : ℕ) (octets : List ℕ) → AreOctets octets → AreOctets (drop count octets)
are_dropped count octets are k = rw (get_or-drop count octets k 0) (are (count + k))

pub number_front : (count : ℕ) (octets : List ℕ) → count ≤ length octets → AreOctets octets → big_bytes count (big_number count octets) ≡ take count octets
number_front count octets enough are =
    ap (big_bytes count) (sym (big_from-take 0 count count octets (omega arith)))
    ∙ big_bytes-big_number count (take count octets) (length-take-le count octets enough) (are_taken count octets are)

pub number_whole : (count : ℕ) (octets : List ℕ) → length octets ≡ count → AreOctets octets → big_bytes count (big_number count octets) ≡ octets
number_whole count octets len are = big_bytes-big_number count octets len are
