-- What is listed, packet by packet.
use Rattle.std.specs.Prelude.{◌≡◌, ℕ, IsSome, List, reverse}
use Rattle.std.specs.BTreeMap.{BTreeMap, get}
use Rattle.std.specs.List.{AllByRecursion}
use Rattle.std.specs.Ordering.{nat_cmp}
use Rattle.packets.specs.Packet.{Recorded}
use Rattle.segments.specs.declared.fault.PacketFault.{PacketFault}
use Rattle.segments.specs.declared.found.Addresses.{Addresses}
use Rattle.streams.specs.Choice.{first_packet}
use Rattle.streams.specs.Held.{HoldsConnections}
use Rattle.streams.specs.Passed.{Segment}
use Rattle.streams.specs.declared.connection.Opening.{Opening}
use Rattle.bgp_import.specs.declared.listed.Listed.{Listed}
use Rattle.bgp_import.specs.declared.listed.Listed.TheVariants as listed
use Rattle.bgp_import.specs.declared.talk.Talk.{Talk}
use Rattle.bgp_import.specs.Pairs.{AreOrdered}
use Rattle.bgp_import.specs.Places.{HasConnection, IsNumber, connection_in}
use Rattle.bgp_import.specs.Talks.{AreHeld, IsRefusedAt}

-- a connection of those that are held of two addresses, at its first packet
pub record ListsOne {Z : Type 0} (port : ℕ) (packets : List Recorded) (place : ℕ)
    (addresses : Addresses) (talk : Talk Z) (opening : Opening) : Type 0 where
  pub segments : List Segment
  pub has : HasConnection port packets addresses segments opening
  pub holds : HoldsConnections (reverse segments) talk.connections
  pub is_place : place ≡ opening.packet

-- two addresses, at the first packet that is refused for them
pub record ListsAll (port : ℕ) (packets : List Recorded) (place : ℕ) (addresses : Addresses)
    (fault : PacketFault) : Type 0 where
  pub ordered : AreOrdered addresses
  pub refused : IsRefusedAt port packets addresses fault place

abbrev pub IsListed : {Z : Type 0} → ℕ → List Recorded → ℕ → Listed Z → Type 0
IsListed port packets place (listed.Connection addresses talk opening) =
    ListsOne port packets place addresses talk.now opening
IsListed port packets place (listed.Refused addresses fault) =
    ListsAll port packets place addresses fault

-- it can be told: the connections are held of segments in the order of their packets
abbrev pub CanBeTold : {Z : Type 0} → Listed Z → Type 0
CanBeTold (listed.Connection addresses talk opening) = AreHeld talk.now.connections
CanBeTold (listed.Refused addresses fault) = Unit {0}

-- ---- by packets

abbrev pub AreListed : {Z : Type 0} → ℕ → List Recorded → List (ℕ × Listed Z) → Type 0
AreListed {Z} port packets entries =
    AllByRecursion (λ (e : ℕ × Listed Z). IsListed port packets e.0 e.1) entries

-- something is listed at this packet
abbrev pub IsPlaceOf : {Z : Type 0} → BTreeMap ℕ (Listed Z) → ℕ → Type 0
IsPlaceOf listed place = IsSome (get nat_cmp listed place)

abbrev pub KeepsPlaces : {Z : Type 0} → BTreeMap ℕ (Listed Z) → BTreeMap ℕ (Listed Z) → Type 0
KeepsPlaces old new = (place : ℕ) → IsPlaceOf old place → IsPlaceOf new place

-- each connection of these segments is
abbrev pub HasEachOf : {Z : Type 0} → List Segment → BTreeMap ℕ (Listed Z) → Type 0
HasEachOf segments listed = (number : ℕ) → IsNumber segments number
    → IsPlaceOf listed (first_packet (connection_in segments number))
