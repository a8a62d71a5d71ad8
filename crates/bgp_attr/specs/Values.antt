-- The values of attributes as octets (RFC 4271, 4.3; RFC 6793, 4.2.2; RFC 8092, 3).
use Rattle.std.specs.Prelude.{ℕ, Bool, true, false, ◌==◌, if◌then◌else◌, List, [], ◌∷◌, ◌++◌}
use Rattle.std.specs.Prelude.{length, Option, None, Some}
use Rattle.std.specs.List.{flat_map}
use Rattle.byteorder.specs.Endian.{big_bytes}
use Rattle.bgp_wire.specs.AsNumber.{two_octet_as}
use Rattle.bgp_path.specs.declared.as_path.SegmentKind.{SegmentKind}
use Rattle.bgp_path.specs.declared.as_path.SegmentKind.TheVariants.{Set, Sequence}
use Rattle.bgp_path.specs.declared.path.Aggregator.{Aggregator}
use Rattle.bgp_path.specs.AsPath.{PathSegment}
use Rattle.bgp_attr.specs.declared.values.AttrValue.{AttrValue}
use Rattle.bgp_attr.specs.declared.values.AttrValue.TheVariants as values
use Rattle.bgp_attr.specs.LargeCommunities.{large_community_octets}
use Rattle.bgp_attr.specs.Segments.{WireSegment, segment_octets}

-- an AS number in four octets, or in two: there AS_TRANS stands for one that needs four
abbrev pub as_octets : Bool → ℕ → List ℕ
as_octets true number = big_bytes 4 number
as_octets false number = big_bytes 2 (two_octet_as number)

-- a segment's type octet
abbrev pub segment_type : SegmentKind → ℕ
segment_type Set = 1
segment_type Sequence = 2

abbrev pub wire_segment : Bool → PathSegment → WireSegment
wire_segment as4 s = record {
  kind = segment_type s.kind;
  count = length s.numbers;
  numbers = flat_map (as_octets as4) s.numbers;
}

-- the value of AS_PATH, or of AS4_PATH where numbers have four octets
abbrev pub as_path_octets : Bool → List PathSegment → List ℕ
as_path_octets as4 path = flat_map (λ s. segment_octets (wire_segment as4 s)) path

-- the value of AGGREGATOR
abbrev pub aggregator_octets : Bool → Aggregator → List ℕ
aggregator_octets as4 a = as_octets as4 a.as_number ++ big_bytes 4 a.address

-- the octets of a value
abbrev pub value_octets : {X : Type 0} → AttrValue X → List ℕ
value_octets values.Empty = []
value_octets (values.Octet octet) = octet ∷ []
value_octets (values.Number number) = big_bytes 4 number
value_octets (values.Numbers numbers) = flat_map (big_bytes 4) numbers.now
value_octets (values.LongNumbers numbers) = flat_map (big_bytes 8) numbers.now
value_octets (values.LargeCommunities communities) =
    flat_map large_community_octets communities.now
value_octets (values.Segments as4 segments) = as_path_octets as4 segments.now
value_octets (values.Aggregator as4 a) = aggregator_octets as4 a

-- the value of a list of numbers that have `size` octets each: nothing is written for an empty list
abbrev pub items_octets : ℕ → List ℕ → Option (List ℕ)
items_octets size items = if length items == 0 then None else Some (flat_map (big_bytes size) items)
