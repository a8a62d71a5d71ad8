-- Segments of a path: those whose JSON is equal spell the same octets.
use Rattle.std.proofs.Common.{◌≡◌, ◌∙◌, ◌++◌, ◌+◌, ◌*◌, ◌<◌, ◌≤◌, ℕ, zero, suc, Bool, true, false, List, [], ◌∷◌, All, codes, drop, length, slice_index, take, refl, sym, ap, ap₂, arith, inl, inr}
use Rattle.std.specs.List.{flat_map}
use Rattle.std.proofs.lemmas.Bool.{cases_Bool}
use Rattle.std.proofs.lemmas.List.{length-drop, length-take-le, nil_from_length, take-append-drop}
use Rattle.std.proofs.lemmas.List.Elements.{All-cons, All-drop, All-nil, All-take}
use Rattle.json.specs.Json.{Json}
use Rattle.bgp_wire.specs.Octets.{AreOctets}
use Rattle.bgp_attr.specs.PathIn.{segment_at}
use Rattle.bgp_attr.specs.Segments.{WireSegment, has_segment, number_width, segment_len, segment_octets}
use Rattle.bgp_attr.proofs.WholeSegments.{has}
use Rattle.bgp_values.specs.Items.{items_of}
use Rattle.bgp_values.specs.PathSegments.{segments_in, segments_of}
use Rattle.bgp_values.specs.Pieces.{pieces_of}
use Rattle.bgp_values.specs.declared.items.Item.TheVariants.{AsNumber2, AsNumber4}
use Rattle.bgp_values.proofs.PieceLists.{one_piece}
use Rattle.bgp_json_values.specs.AttributeJson.{segment_json}
use Rattle.bgp_json_values.specs.CapabilityJson.{itself}
use Rattle.bgp_json_values.specs.ItemJson.{item_json}
use Rattle.bgp_json_laws.proofs.Items.{same_as_number_2, same_as_number_4}
use Rattle.bgp_json_laws.proofs.Lists.{joined_equal}
use Rattle.bgp_json_laws.proofs.Lookups.{text_of, value_at}
use Rattle.bgp_json_laws.proofs.Pieces.{IsPiece, each_piece}
use Rattle.bgp_json_laws.proofs.Tables.{same_segment_kind}
use Rattle.bgp_json_laws.proofs.Texts.{IsOctet}

-- pieces that fill the octets are all of them
joined_pieces : (size count : ℕ) (octets : List ℕ) → 0 < size → length octets ≡ size * count → flat_map itself (pieces_of size octets) ≡ octets
joined_pieces size zero octets some long =
    let none : octets ≡ [] = nil_from_length octets (omega (arith, long)) in
    rw none refl
joined_pieces size (suc count) octets some long =
    let more : size * suc count ≡ size + size * count = omega arith in
    let whole : size ≤ length octets = omega (arith, long, more) in
    let left : length (drop size octets) ≡ size * count = omega (arith, long, more, length-drop size octets) in
    ap (flat_map itself) (one_piece size octets some whole)
    ∙ ap (λ (rest : List ℕ). take size octets ++ rest) (joined_pieces size count (drop size octets) some left)
    ∙ take-append-drop size octets

-- a segment on the wire, as it has to be
pub record IsSegmentOf (width : ℕ) (s : WireSegment) : Type 0 where
  pub least : 1 ≤ s.kind
  pub greatest : s.kind ≤ 4
  pub whole : length s.numbers ≡ width * s.count
  pub are : AreOctets s.numbers

first_segment : (width : ℕ) (octets : List ℕ) → AreOctets octets → has_segment 4 width octets ≡ true → IsSegmentOf width (segment_at width octets)
first_segment width octets are e =
    let h = has 4 width octets e in
    let whole = h.whole in
    record {
      least = h.least;
      greatest = h.greatest;
      whole = length-take-le (width * slice_index octets 1) (drop 2 octets) (omega (arith, whole, length-drop 2 octets));
      are = All-take IsOctet (width * slice_index octets 1) (drop 2 octets) (All-drop IsOctet 2 octets are);
    }

each_in : (most width : ℕ) (octets : List ℕ) → AreOctets octets → All (IsSegmentOf width) (segments_in most width octets)
each_in zero width octets are = All-nil (IsSegmentOf width)
each_in (suc most) width octets are = elim (cases_Bool (has_segment 4 width octets)) [
  | inl e ↦
      rw e (All-cons (IsSegmentOf width) (segment_at width octets) (segments_in most width (drop (segment_len width octets) octets)) (first_segment width octets are e)
      (each_in most width (drop (segment_len width octets) octets) (All-drop IsOctet (segment_len width octets) octets are)))
  | inr e ↦ rw e (All-nil (IsSegmentOf width))
]

pub each_segment : (width : ℕ) (octets : List ℕ) → AreOctets octets → All (IsSegmentOf width) (segments_of width octets)
each_segment width octets are = each_in (length octets) width octets are

-- ---- its numbers

same_numbers_2 : (s t : WireSegment) → IsSegmentOf 2 s → IsSegmentOf 2 t → segment_json false s ≡ segment_json false t → (s.numbers ≡ t.numbers) × (s.count ≡ t.count)
same_numbers_2 s t is also e =
    let long = is.whole in
    let long' = also.whole in
    let joined = joined_equal (item_json AsNumber2) (item_json AsNumber2) itself itself (IsPiece 2) (IsPiece 2) same_as_number_2 (items_of AsNumber2 s.numbers) (items_of AsNumber2 t.numbers)
    (each_piece 2 s.numbers is.are) (each_piece 2 t.numbers also.are) (ap (value_at (codes "as")) e) in
    let numbers : s.numbers ≡ t.numbers = sym (joined_pieces 2 s.count s.numbers (omega arith) long) ∙ joined ∙ joined_pieces 2 t.count t.numbers (omega arith) long' in
    let as_many = ap length numbers in
    (numbers, omega (arith, long, long', as_many))

same_numbers_4 : (s t : WireSegment) → IsSegmentOf 4 s → IsSegmentOf 4 t → segment_json true s ≡ segment_json true t → (s.numbers ≡ t.numbers) × (s.count ≡ t.count)
same_numbers_4 s t is also e =
    let long = is.whole in
    let long' = also.whole in
    let joined = joined_equal (item_json AsNumber4) (item_json AsNumber4) itself itself (IsPiece 4) (IsPiece 4) same_as_number_4 (items_of AsNumber4 s.numbers) (items_of AsNumber4 t.numbers)
    (each_piece 4 s.numbers is.are) (each_piece 4 t.numbers also.are) (ap (value_at (codes "as")) e) in
    let numbers : s.numbers ≡ t.numbers = sym (joined_pieces 4 s.count s.numbers (omega arith) long) ∙ joined ∙ joined_pieces 4 t.count t.numbers (omega arith) long' in
    let as_many = ap length numbers in
    (numbers, omega (arith, long, long', as_many))

same_numbers : (as4 : Bool) (s t : WireSegment) → IsSegmentOf (number_width as4) s → IsSegmentOf (number_width as4) t → segment_json as4 s ≡ segment_json as4 t
    → (s.numbers ≡ t.numbers) × (s.count ≡ t.count)
same_numbers true s t is also e = same_numbers_4 s t is also e
same_numbers false s t is also e = same_numbers_2 s t is also e

pub same_segment : (as4 : Bool) (s t : WireSegment) → IsSegmentOf (number_width as4) s → IsSegmentOf (number_width as4) t → segment_json as4 s ≡ segment_json as4 t
    → segment_octets s ≡ segment_octets t
same_segment as4 s t is also e =
    let kind = same_segment_kind s.kind t.kind is.least is.greatest also.least also.greatest (ap (λ (j : Json). text_of (value_at (codes "kind") j)) e) in
    let numbers = same_numbers as4 s t is also e in
    ap₂ ◌∷◌ kind (ap₂ ◌∷◌ numbers.1 numbers.0)
