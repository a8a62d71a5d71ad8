-- The value of an AS_PATH or AS4_PATH attribute (RFC 4271, 4.3 b; RFC 6793, 3): path segments,
-- each a type, a count and as many AS numbers.
use Rattle.std.specs.Prelude.{◌≡◌, ◌≤◌, ◌↔◌, ℕ, zero, suc, ◌+◌, ◌*◌, Bool, ◌&&◌, ◌||◌, ◌==◌, nat_le}
use Rattle.std.specs.Prelude.{if◌then◌else◌}
use Rattle.std.specs.Prelude.{List, ◌∷◌, length, drop, slice_index, All, IsTrue}
use Rattle.std.specs.List.{flat_map}

-- how many octets an AS number takes
abbrev pub number_width : Bool → ℕ
number_width as4 = if as4 then 4 else 2

-- a path segment on the wire: its type, its count and the octets of its AS numbers
pub record WireSegment : Type 0 where
  pub kind : ℕ
  pub count : ℕ
  pub numbers : List ℕ

-- its type is one of 1 to `most`, it has a number, and each number has `width` octets
pub record IsSegment (most width : ℕ) (s : WireSegment) : Type 0 where
  pub least : 1 ≤ s.kind
  pub greatest : s.kind ≤ most
  pub some : 1 ≤ s.count
  pub whole : length s.numbers ≡ width * s.count

abbrev pub segment_octets : WireSegment → List ℕ
segment_octets s = s.kind ∷ s.count ∷ s.numbers

-- the value is such segments, one after the other, and nothing else
abbrev pub AreSegments : ℕ → ℕ → List ℕ → Type 0
AreSegments most width value =
    (segments : List WireSegment) × (value ≡ flat_map segment_octets segments)
    × All (IsSegment most width) segments

-- how many octets a segment takes that begins so
abbrev pub segment_len : ℕ → List ℕ → ℕ
segment_len width octets = 2 + width * slice_index octets 1

-- whether such a segment stands at the front
unfoldable pub has_segment : ℕ → ℕ → List ℕ → Bool
has_segment most width octets =
    nat_le 1 (slice_index octets 0) && (nat_le (slice_index octets 0) most
    && (nat_le 1 (slice_index octets 1) && nat_le (segment_len width octets) (length octets)))

-- whether the value is such segments, at most n of them
abbrev pub are_segments_in : ℕ → ℕ → ℕ → List ℕ → Bool
are_segments_in zero most width value = length value == 0
are_segments_in (suc n) most width value =
    (length value == 0)
    || (has_segment most width value
    && are_segments_in n most width (drop (segment_len width value) value))

-- whether it is such segments: there are no more of them than octets
unfoldable pub are_segments : ℕ → ℕ → List ℕ → Bool
are_segments most width value = are_segments_in (length value) most width value

-- the function answers what the relation says
abbrev pub TellsSegments : Type 0
TellsSegments =
    (most width : ℕ) (value : List ℕ)
    → IsTrue (are_segments most width value) ↔ AreSegments most width value
