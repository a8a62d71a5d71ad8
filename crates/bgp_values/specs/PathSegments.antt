-- The segments of AS_PATH and AS4_PATH (RFC 4271, 4.3 b; RFC 5065, 3; RFC 6793, 3), in wire order.
use Rattle.std.specs.Prelude.{ℕ, zero, suc, List, [], ◌∷◌, length, drop, if◌then◌else◌}
use Rattle.bgp_update.specs.PathIn.{segment_at}
use Rattle.bgp_update.specs.Segments.{WireSegment, has_segment, segment_len}
use Rattle.bgp_values.specs.declared.segments.Segment.{Segment}

-- the segments of types 1 to 4 at the front of octets, none of them empty, at most n of them
abbrev pub segments_in : ℕ → ℕ → List ℕ → List WireSegment
segments_in zero width octets = []
segments_in (suc n) width octets =
    if has_segment 4 width octets
    then segment_at width octets ∷ segments_in n width (drop (segment_len width octets) octets)
    else []

-- all of them: there are no more than octets
abbrev pub segments_of : ℕ → List ℕ → List WireSegment
segments_of width octets = segments_in (length octets) width octets

-- what code has for a segment
abbrev pub segment_of : Segment → WireSegment
segment_of s = record { kind = s.kind; count = s.count; numbers = s.numbers.now }
