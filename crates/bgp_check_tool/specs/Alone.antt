-- Each thing that there is to tell of in a recording stands at a packet of its own: so who tells
-- one at each of their packets tells all of them.
use Rattle.std.specs.Prelude.{◌≡◌, ℕ, List}
use Rattle.std.specs.List.{AllByRecursion, Contains}
use Rattle.std.specs.Map.{keys_of}
use Rattle.packets.specs.Packet.{Recorded}
use Rattle.segments.specs.declared.fault.PacketFault.{PacketFault}
use Rattle.segments.specs.declared.found.Addresses.{Addresses}
use Rattle.streams.specs.Choice.{OpensAs}
use Rattle.streams.specs.Passed.{Segment}
use Rattle.streams.specs.declared.connection.Opening.{Opening}
use Rattle.bgp_prefix.specs.declared.session.Session.{Session}
use Rattle.bgp_import.specs.Selecting.{AreTaken}
use Rattle.bgp_import.specs.declared.refusal.Refusal.TheVariants as refusals
use Rattle.bgp_check_tool.specs.declared.options.CheckOptions.{CheckOptions}
use Rattle.bgp_check_tool.specs.Blocks.{AllRefused, Block, BothEnds, OneEnd, Refused}
use Rattle.bgp_check_tool.specs.Places.{IsToldAt}
use Rattle.bgp_import.specs.Pairs.{AreOrdered, selection_of, session_of}
use Rattle.bgp_import.specs.Places.{HasAll, IsNumber, connection_in}
use Rattle.bgp_import.specs.Reading.{AreKnown}
use Rattle.bgp_import.specs.Talks.{IsRefusedAt}

-- the block is told of the connection that was opened so
abbrev pub IsOfConnection : Block → Session → Opening → Type 0
IsOfConnection (BothEnds its its_opening outline first second opener other) session opening =
    (its ≡ session) × (its_opening ≡ opening)
IsOfConnection (OneEnd its its_opening outline first second) session opening =
    (its ≡ session) × (its_opening ≡ opening)
IsOfConnection (Refused its its_opening refusal) session opening =
    (its ≡ session) × (its_opening ≡ opening)
IsOfConnection (AllRefused addresses refusal) session opening = ⊥

-- one of the blocks is told of the connection of this number of these segments
pub record HasBlockOf (blocks : List (ℕ × Block)) (addresses : Addresses)
    (segments : List Segment) (number : ℕ) : Type 0 where
  pub place : ℕ
  pub block : Block
  pub among : Contains blocks (place, block)
  pub opening : Opening
  pub is_number : opening.number ≡ number
  pub opens : OpensAs (connection_in segments number) opening
  pub is : IsOfConnection block (session_of addresses) opening

-- Blocks that are told of the packets, and of all that there is: one of them is of each connection,
-- and one of each two addresses for which a packet is refused.
abbrev pub EachConnectionIsTold : Type 0
EachConnectionIsTold =
    (options : CheckOptions) (last_packet : ℕ) (packets : List Recorded) (blocks : List (ℕ × Block))
    → AreKnown packets
    → AllByRecursion
    (λ (b : ℕ × Block). IsToldAt options packets last_packet b.0 b.1) blocks
    → HasAll options.port packets (Contains (keys_of blocks)) → (addresses : Addresses)
    (segments : List Segment) (number : ℕ) → AreOrdered addresses
    → AreTaken (selection_of addresses options.port) 0 packets segments → IsNumber segments number
    → HasBlockOf blocks addresses segments number

abbrev pub EachRefusalIsTold : Type 0
EachRefusalIsTold =
    (options : CheckOptions) (last_packet : ℕ) (packets : List Recorded) (blocks : List (ℕ × Block))
    → AreKnown packets
    → AllByRecursion
    (λ (b : ℕ × Block). IsToldAt options packets last_packet b.0 b.1) blocks
    → HasAll options.port packets (Contains (keys_of blocks)) → (addresses : Addresses)
    (fault : PacketFault) (place : ℕ) → AreOrdered addresses
    → IsRefusedAt options.port packets addresses fault place
    → Contains blocks (place, AllRefused addresses (refusals.Packet fault place))
