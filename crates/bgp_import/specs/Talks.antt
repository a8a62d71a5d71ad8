-- What the packets of a recording hold, two addresses at a time; and what is held of them.
use Rattle.std.specs.Prelude.{◌≡◌, ◌≢◌, ◌⊎◌, ◌+◌, ◌++◌, ℕ, false, List, [], ◌∷◌, Option, None, Some}
use Rattle.std.specs.Prelude.{Result, Ok, Err, length, reverse}
use Rattle.std.specs.BTreeMap.{get}
use Rattle.std.specs.Option.{option_or}
use Rattle.std.specs.Ordering.{is_eq}
use Rattle.packets.specs.Packet.{Recorded}
use Rattle.segments.specs.Found.{found_in}
use Rattle.segments.specs.Segment.{UnknownLink}
use Rattle.segments.specs.contracts.found.AddressesOrd.TheImpl as order
use Rattle.segments.specs.declared.fault.PacketFault.{PacketFault}
use Rattle.segments.specs.declared.fault.PacketFault.TheVariants as faults
use Rattle.segments.specs.declared.found.Addresses.{Addresses}
use Rattle.streams.specs.Clock.{AreInOrder}
use Rattle.streams.specs.Held.{HoldsConnections}
use Rattle.streams.specs.Passed.{Segment}
use Rattle.streams.specs.declared.connections.Connections.{Connections}
use Rattle.bgp_import.specs.Selecting.{AreTaken, IsPacketRefused}
use Rattle.bgp_import.specs.declared.refusal.Refusal.{Refusal}
use Rattle.bgp_import.specs.declared.refusal.Refusal.TheVariants as refusals
use Rattle.bgp_import.specs.Pairs.{AreOrdered, selection_of}
use Rattle.bgp_import.specs.declared.talk.Talk.{Talk}
use Rattle.bgp_import.specs.declared.talks.Talks.{Talks}

-- ---- two addresses

-- this packet is the first that is refused for these addresses
pub record IsRefusedAt (port : ℕ) (packets : List Recorded) (addresses : Addresses)
    (fault : PacketFault) (number : ℕ) : Type 0 where
  pub front : List Recorded
  pub packet : Recorded
  pub later : List Recorded
  pub segments : List Segment
  pub whole : packets ≡ front ++ packet ∷ later
  pub taken : AreTaken (selection_of addresses port) 0 front segments
  pub refused : IsPacketRefused (selection_of addresses port) packet fault
  pub is : number ≡ length front + 1

-- none is refused, and the connections of their segments are held
pub record HoldsAll {Z : Type 0} (port : ℕ) (packets : List Recorded) (addresses : Addresses)
    (connections : Connections Z) : Type 0 where
  pub segments : List Segment
  pub taken : AreTaken (selection_of addresses port) 0 packets segments
  pub holds : HoldsConnections (reverse segments) connections

abbrev pub HoldsBy : {Z : Type 0} → ℕ → List Recorded → Addresses → Connections Z
    → Option (PacketFault × ℕ) → Type 0
HoldsBy port packets addresses connections None = HoldsAll port packets addresses connections
HoldsBy port packets addresses connections (Some refusal) =
    IsRefusedAt port packets addresses refusal.0 refusal.1

abbrev pub HoldsTalk : {Z : Type 0} → ℕ → List Recorded → Addresses → Talk Z → Type 0
HoldsTalk port packets addresses talk =
    HoldsBy port packets addresses talk.connections talk.refusal

-- they are those of some segments that were taken in the order of their packets
pub record AreHeld {Z : Type 0} (connections : Connections Z) : Type 0 where
  pub segments : List Segment
  pub holds : HoldsConnections segments connections
  pub order : AreInOrder segments

-- ---- all of them

abbrev pub talk_at : {Z : Type 0} → Talks Z → Addresses → Option (Talk Z)
talk_at talks addresses = get order.ghosts.cmp talks.by_addresses addresses

-- what is held is right
pub record HoldsSome {Z : Type 0} (port : ℕ) (packets : List Recorded) (talks : Talks Z) : Type 0
  where
    pub is_port : talks.port ≡ port
    pub each : (addresses : Addresses) (talk : Talk Z) → talk_at talks addresses ≡ Some talk
        → AreOrdered addresses × HoldsTalk port packets addresses talk

-- and it is all: where nothing is held of two addresses they have no segment
pub record HoldsEach {Z : Type 0} (port : ℕ) (packets : List Recorded) (talks : Talks Z) : Type 0
  where
    pub right : HoldsSome port packets talks
    pub none : (addresses : Addresses) → AreOrdered addresses → talk_at talks addresses ≡ None
        → AreTaken (selection_of addresses port) 0 packets []

-- ---- a packet more

-- what is held of these addresses is another, and of others the same
abbrev pub KeepsOthers : {Z : Type 0} → Talks Z → Talks Z → Addresses → Type 0
KeepsOthers {Z} old new addresses =
    (others : Addresses) → is_eq (order.ghosts.cmp addresses others) ≡ false
    → talk_at new others ≡ talk_at old others

abbrev pub IsFresh : {Z : Type 0} → Talk Z → Type 0
IsFresh talk = HoldsConnections [] talk.connections × (talk.refusal ≡ None)

pub record Changes {Z : Type 0} (By : Talk Z → Talk Z → Type 0) (old new : Talks Z)
    (addresses : Addresses) : Type 0 where
  pub before : Talk Z
  pub after : Talk Z
  pub was : (talk_at old addresses ≡ Some before)
      ⊎ ((talk_at old addresses ≡ None) × IsFresh before)
  pub is : talk_at new addresses ≡ Some after
  pub by : By before after
  pub others : KeepsOthers old new addresses

abbrev pub IsSameTalk : {Z : Type 0} → Talk Z → Talk Z → Type 0
IsSameTalk before after = after ≡ before

-- with a segment more
abbrev pub TakesSegment : {Z : Type 0} → Segment → Talk Z → Talk Z → Type 0
TakesSegment segment before after =
    (after.refusal ≡ before.refusal)
    × ((earlier : List Segment) → HoldsConnections earlier before.connections
    → HoldsConnections (segment ∷ earlier) after.connections)

-- refused at this packet, if not at one before it
abbrev pub IsRefusedBy : {Z : Type 0} → PacketFault → ℕ → Talk Z → Talk Z → Type 0
IsRefusedBy fault number before after =
    (after.connections ≡ before.connections)
    × (after.refusal ≡ option_or before.refusal (Some (fault, number)))

-- the packet's link is of a type that is known
abbrev pub IsLinkKnown : Recorded → Type 0
IsLinkKnown packet =
    (link_type : ℕ) → found_in packet.link_type packet.octets ≢ UnknownLink link_type

-- What taking a packet after these comes to: its link is known, and what it has is held; or the
-- link is unknown, or memory was refused.
abbrev pub TakesPacket : {Z : Type 0} → ℕ → List Recorded → Recorded
    → Result (Unit {0}) Refusal → Talks Z → Type 0
TakesPacket port packets packet (Ok done) talks =
    IsLinkKnown packet × HoldsEach port (packets ++ packet ∷ []) talks
TakesPacket port packets packet (Err (refusals.Packet fault number)) talks =
    (link_type : ℕ) × (fault ≡ faults.Link link_type) × (number ≡ length packets + 1)
    × (found_in packet.link_type packet.octets ≡ UnknownLink link_type)
    × HoldsEach port packets talks
TakesPacket port packets packet (Err (refusals.Memory number)) talks =
    (number ≡ length packets + 1) × HoldsSome port packets talks
TakesPacket port packets packet (Err (refusals.File fault)) talks = ⊥
TakesPacket port packets packet (Err (refusals.Connection fault)) talks = ⊥
TakesPacket port packets packet (Err (refusals.RouteRefresh number from place)) talks = ⊥
