-- What there is to tell of in a recording, and where: each connection at its first packet, and two
-- addresses of whose connections none can be told at the first packet that is refused for them.
use Rattle.std.specs.Prelude.{◌⊎◌, ◌≤◌, ℕ, List, length, reverse}
use Rattle.packets.specs.Packet.{Recorded}
use Rattle.segments.specs.declared.fault.PacketFault.{PacketFault}
use Rattle.segments.specs.declared.found.Addresses.{Addresses}
use Rattle.streams.specs.Choice.{OpensAs, first_packet, numbered_one}
use Rattle.streams.specs.Connections.{numbered}
use Rattle.streams.specs.Passed.{Segment}
use Rattle.streams.specs.declared.connection.Opening.{Opening}
use Rattle.bgp_import.specs.Selecting.{AreTaken}
use Rattle.bgp_import.specs.Pairs.{AreOrdered, selection_of}
use Rattle.bgp_import.specs.Talks.{IsRefusedAt}

-- the segments of a connection, from the last one back to the first: of those of its session, from
-- the first one on, by its number
abbrev pub connection_in : List Segment → ℕ → List Segment
connection_in segments number = numbered_one (numbered (reverse segments)) number

abbrev pub IsNumber : List Segment → ℕ → Type 0
IsNumber segments number = (1 ≤ number) × (number ≤ length (numbered (reverse segments)))

-- The packets of a recording, for a port.
module _ (port : ℕ) (packets : List Recorded) where
  -- these are the segments between two addresses, none of whose packets is refused, and they have a
  -- connection that was opened so
  pub record HasConnection (addresses : Addresses) (segments : List Segment) (opening : Opening)
      : Type 0 where
    pub ordered : AreOrdered addresses
    pub taken : AreTaken (selection_of addresses port) 0 packets segments
    pub number : IsNumber segments opening.number
    pub opens : OpensAs (connection_in segments opening.number) opening

  -- ---- each of them

  -- none of the packets between two addresses is refused, and there is something at the first
  -- packet of each of their connections
  pub record HasTheirs (IsPlace : ℕ → Type 0) (addresses : Addresses) : Type 0 where
    pub segments : List Segment
    pub taken : AreTaken (selection_of addresses port) 0 packets segments
    pub each : (number : ℕ) → IsNumber segments number
        → IsPlace (first_packet (connection_in segments number))

  -- or at the first packet that is refused for them
  pub record HasRefused (IsPlace : ℕ → Type 0) (addresses : Addresses) : Type 0 where
    pub fault : PacketFault
    pub place : ℕ
    pub refused : IsRefusedAt port packets addresses fault place
    pub is_place : IsPlace place

  abbrev pub HasEach : (ℕ → Type 0) → Addresses → Type 0
  HasEach IsPlace addresses = HasTheirs IsPlace addresses ⊎ HasRefused IsPlace addresses

  abbrev pub HasAll : (ℕ → Type 0) → Type 0
  HasAll IsPlace =
      (addresses : Addresses) → AreOrdered addresses → HasEach IsPlace addresses
