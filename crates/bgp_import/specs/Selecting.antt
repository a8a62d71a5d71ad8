-- What the packets of a recording have of one session: the segments between its two addresses, each
-- with the packet that held it and with who sent it.
use Rattle.std.specs.Prelude.{◌≡◌, ◌+◌, ◌++◌, ◌==◌, ℕ, List, [], ◌∷◌, length}
use Rattle.std.specs.Prelude.{Option, None, Some, Ok, Err}
use Rattle.packets.specs.Packet.{Recorded}
use Rattle.segments.specs.declared.conversation.Conversation.{Conversation}
use Rattle.segments.specs.declared.fault.PacketFault.{PacketFault}
use Rattle.segments.specs.declared.found.Ends.{Ends}
use Rattle.segments.specs.declared.found.Endpoint.{Endpoint}
use Rattle.segments.specs.Segment.{TcpSegment}
use Rattle.segments.specs.Found.{found_in}
use Rattle.segments.specs.Conversation.{IsSelected, Answer}
use Rattle.streams.specs.declared.passed.Side.{Side}
use Rattle.streams.specs.declared.passed.Side.TheVariants.{Local, Peer}
use Rattle.streams.specs.Passed.{Segment}
use Rattle.bgp_import.specs.declared.selection.Selection.{Selection}

-- the addresses and the port that are meant
abbrev pub conversation_of : Selection → Conversation
conversation_of selection = record {
  local = selection.session.local;
  peer = selection.session.peer;
  port = selection.port;
}

-- an end of the local system, of the port that is meant if one is
abbrev pub IsPort : Option ℕ → ℕ → Type 0
IsPort None port = Unit {0}
IsPort (Some wanted) port = port ≡ wanted

abbrev pub IsLocalEnd : Selection → Endpoint → Type 0
IsLocalEnd selection end =
    (end.address ≡ selection.session.local) × IsPort selection.local_port end.port

-- Who sent a segment: the local system where it comes from an end of it, else the peer where it
-- goes to one; and else it isn't of the session.
abbrev pub IsSentBy : Selection → Ends → Option Side → Type 0
IsSentBy selection ends (Some Local) = IsLocalEnd selection ends.from
IsSentBy selection ends (Some Peer) =
    (¬ IsLocalEnd selection ends.from) × IsLocalEnd selection ends.to
IsSentBy selection ends None =
    (¬ IsLocalEnd selection ends.from) × (¬ IsLocalEnd selection ends.to)

-- ---- a segment of a packet

-- the local system's end, and the peer's
abbrev pub local_end : Side → Ends → Endpoint
local_end Local ends = ends.from
local_end Peer ends = ends.to

abbrev pub peer_end : Side → Ends → Endpoint
peer_end Local ends = ends.to
peer_end Peer ends = ends.from

-- a segment that this system sent, in the packet of this number
abbrev pub passed_of : ℕ → Recorded → TcpSegment → Side → Segment
passed_of number packet segment side = record {
  packet = number;
  second = packet.second;
  micro = packet.micro;
  sender = side;
  local_port = (local_end side segment.ends).port;
  peer_port = (peer_end side segment.ends).port;
  sequence = segment.sequence;
  syn = segment.flags.syn;
  fin = segment.flags.fin;
  rst = segment.flags.rst;
  acknowledgment = segment.acknowledgment;
  octets = segment.octets;
  is_whole = length segment.octets == segment.wire_count;
}

-- ---- all packets

-- what is found in a packet of the conversation
abbrev pub IsFound : Selection → Recorded → Answer → Type 0
IsFound selection packet answer =
    IsSelected (conversation_of selection) (found_in packet.link_type packet.octets) answer

abbrev pub part_by : ℕ → Recorded → TcpSegment → Option Side → List Segment
part_by number packet segment None = []
part_by number packet segment (Some side) = passed_of number packet segment side ∷ []

abbrev pub IsPart : Selection → ℕ → Recorded → Option TcpSegment → List Segment → Type 0
IsPart selection number packet None part = part ≡ []
IsPart selection number packet (Some segment) part =
    (side : Option Side) × IsSentBy selection segment.ends side
    × (part ≡ part_by number packet segment side)

-- the packet of this number isn't refused, and has this of the session: a segment or none
pub record HasPart (selection : Selection) (number : ℕ) (packet : Recorded) (part : List Segment)
    : Type 0 where
  pub found : Option TcpSegment
  pub is_found : IsFound selection packet (Ok found)
  pub is_part : IsPart selection number packet found part

-- The segments of packets, of which the first has the number that follows on `before`: none of the
-- packets is refused.
abbrev pub AreTaken : Selection → ℕ → List Recorded → List Segment → Type 0
AreTaken selection before [] segments = segments ≡ []
AreTaken selection before (packet ∷ later) segments =
    (part others : List Segment) × HasPart selection (before + 1) packet part
    × AreTaken selection (before + 1) later others × (segments ≡ part ++ others)

-- the packet is refused
abbrev pub IsPacketRefused : Selection → Recorded → PacketFault → Type 0
IsPacketRefused selection packet fault = IsFound selection packet (Err fault)
