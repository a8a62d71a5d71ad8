-- The AS path that the value of AS_PATH or AS4_PATH holds (RFC 4271, 4.3 b; RFC 6793, 3 and 6).
use Rattle.std.specs.Prelude.{◌≡◌, ℕ, zero, suc, ◌*◌, ◌==◌, if◌then◌else◌, List, [], ◌∷◌, All}
use Rattle.std.specs.Prelude.{length, take, drop, slice_index, Option, None, Some}
use Rattle.std.specs.List.{filter_map, flat_map}
use Rattle.bgp_path.specs.declared.as_path.SegmentKind.{SegmentKind}
use Rattle.bgp_path.specs.declared.as_path.SegmentKind.TheVariants.{Set, Sequence}
use Rattle.bgp_path.specs.AsPath.{PathSegment}
use Rattle.bgp_attr.specs.Numbers.{numbers_in}
use Rattle.bgp_attr.specs.Segments.{WireSegment, IsSegment, segment_octets, segment_len}

-- the segment at the front
abbrev pub segment_at : ℕ → List ℕ → WireSegment
segment_at width octets = record {
  kind = slice_index octets 0;
  count = slice_index octets 1;
  numbers = take (width * slice_index octets 1) (drop 2 octets);
}

-- the segments of a value, at most n of them
abbrev pub segments_in : ℕ → ℕ → List ℕ → List WireSegment
segments_in zero width octets = []
segments_in (suc n) width octets =
    if length octets == 0
    then []
    else segment_at width octets ∷ segments_in n width (drop (segment_len width octets) octets)

-- all of them: there are no more than octets
abbrev pub segments_of : ℕ → List ℕ → List WireSegment
segments_of width value = segments_in (length value) width value

-- what is such segments, one after the other, is read as them
abbrev pub ReadsSegments : Type 0
ReadsSegments =
    (most width : ℕ) (segments : List WireSegment) → All (IsSegment most width) segments
    → segments_of width (flat_map segment_octets segments) ≡ segments

-- what a segment type is to a path: those of a confederation, types 3 and 4, are dropped
-- (RFC 6793, 6)
abbrev pub segment_kind : ℕ → Option SegmentKind
segment_kind kind = if kind == 1 then Some Set else (if kind == 2 then Some Sequence else None)

abbrev pub with_kind : List ℕ → Option SegmentKind → Option PathSegment
with_kind numbers None = None
with_kind numbers (Some kind) = Some (record { kind = kind; numbers = numbers })

abbrev pub path_segment : ℕ → WireSegment → Option PathSegment
path_segment width s = with_kind (numbers_in s.count width s.numbers) (segment_kind s.kind)

-- the path that a value holds
abbrev pub path_in : ℕ → List ℕ → List PathSegment
path_in width value = filter_map (path_segment width) (segments_of width value)
