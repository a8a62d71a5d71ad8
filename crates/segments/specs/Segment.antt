-- What is found in a packet, as a value.
use Rattle.std.specs.Prelude.{ℕ, List, Option}
use Rattle.segments.specs.declared.found.Addresses.{Addresses}
use Rattle.segments.specs.declared.found.Ends.{Ends}
use Rattle.segments.specs.declared.found.Flags.{Flags}
use Rattle.segments.specs.declared.found.Segment.{Segment}
use Rattle.segments.specs.declared.found.Found.{Found}
use Rattle.segments.specs.declared.found.Found.TheVariants as found

-- a TCP segment (RFC 9293, 3.1): the data octets are those that were kept, and `wire_count` is how
-- many it had
pub record TcpSegment : Type 0 where
  pub ends : Ends
  pub sequence : ℕ
  pub flags : Flags
  pub acknowledgment : Option ℕ
  pub octets : List ℕ
  pub wire_count : ℕ

-- what a `Segment` is
abbrev pub segment_value : Segment → TcpSegment
segment_value segment = record {
  ends = segment.ends;
  sequence = segment.sequence;
  flags = segment.flags;
  acknowledgment = segment.acknowledgment;
  octets = segment.octets.now;
  wire_count = segment.wire_count;
}

-- no segment, or too little to tell; a link of this type, which is unknown; a fragment; a segment
-- whose ports were not kept; one whose header wasn't kept to its end; a segment
pub data Finding : Type 0 where
  Nothing : Finding
  UnknownLink : ℕ → Finding
  Fragment : Addresses → Finding
  NoPorts : Addresses → Finding
  CutHeader : Ends → Finding
  Whole : TcpSegment → Finding

-- what a `Found` is
abbrev pub finding_of : Found → Finding
finding_of found.Nothing = Nothing
finding_of (found.UnknownLink link_type) = UnknownLink link_type
finding_of (found.Fragment addresses) = Fragment addresses
finding_of (found.NoPorts addresses) = NoPorts addresses
finding_of (found.CutHeader ends) = CutHeader ends
finding_of (found.Segment segment) = Whole (segment_value segment)
