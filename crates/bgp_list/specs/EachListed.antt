-- Each thing that there is to tell of in a recording stands at a packet of its own: so who puts a
-- line at each of their packets lists all of them.
use Rattle.std.specs.Prelude.{◌≡◌, ℕ, List}
use Rattle.std.specs.List.{AllByRecursion, Contains}
use Rattle.std.specs.Map.{keys_of}
use Rattle.packets.specs.Packet.{Recorded}
use Rattle.segments.specs.declared.fault.PacketFault.{PacketFault}
use Rattle.segments.specs.declared.found.Addresses.{Addresses}
use Rattle.streams.specs.Choice.{OpensAs}
use Rattle.streams.specs.Passed.{Segment}
use Rattle.streams.specs.declared.connection.Opening.{Opening}
use Rattle.bgp_prefix.specs.declared.session.Session.{Session}
use Rattle.bgp_import.specs.Selecting.{AreTaken}
use Rattle.bgp_import.specs.declared.refusal.Refusal.TheVariants as refusals
use Rattle.bgp_import.specs.Pairs.{AreOrdered, selection_of, session_of}
use Rattle.bgp_import.specs.Places.{HasAll, IsNumber, connection_in}
use Rattle.bgp_import.specs.Reading.{AreKnown}
use Rattle.bgp_import.specs.Talks.{IsRefusedAt}
use Rattle.bgp_list.specs.Lines.{IsLineAt, LineValue, Octets, Refused, AllRefused}

-- the line is that of the connection that was opened so
abbrev pub IsOfConnection : LineValue → Session → Opening → Type 0
IsOfConnection (Octets its its_opening outline first second) session opening =
    (its ≡ session) × (its_opening ≡ opening)
IsOfConnection (Refused its its_opening refusal) session opening =
    (its ≡ session) × (its_opening ≡ opening)
IsOfConnection (AllRefused addresses refusal) session opening = ⊥

-- one of the lines is that of the connection of this number of these segments
pub record HasLineOf (lines : List (ℕ × LineValue)) (addresses : Addresses)
    (segments : List Segment) (number : ℕ) : Type 0 where
  pub place : ℕ
  pub line : LineValue
  pub among : Contains lines (place, line)
  pub opening : Opening
  pub is_number : opening.number ≡ number
  pub opens : OpensAs (connection_in segments number) opening
  pub is : IsOfConnection line (session_of addresses) opening

-- Lines of the packets, at each place at which there is something to tell: one of them is that of
-- each connection, and one that of each two addresses for which a packet is refused.
abbrev pub EachConnectionIsListed : Type 0
EachConnectionIsListed =
    (port last_packet : ℕ) (packets : List Recorded) (lines : List (ℕ × LineValue))
    → AreKnown packets
    → AllByRecursion (λ (l : ℕ × LineValue). IsLineAt port packets last_packet l.0 l.1) lines
    → HasAll port packets (Contains (keys_of lines)) → (addresses : Addresses)
    (segments : List Segment) (number : ℕ) → AreOrdered addresses
    → AreTaken (selection_of addresses port) 0 packets segments → IsNumber segments number
    → HasLineOf lines addresses segments number

abbrev pub EachRefusalIsListed : Type 0
EachRefusalIsListed =
    (port last_packet : ℕ) (packets : List Recorded) (lines : List (ℕ × LineValue))
    → AreKnown packets
    → AllByRecursion (λ (l : ℕ × LineValue). IsLineAt port packets last_packet l.0 l.1) lines
    → HasAll port packets (Contains (keys_of lines)) → (addresses : Addresses)
    (fault : PacketFault) (place : ℕ) → AreOrdered addresses
    → IsRefusedAt port packets addresses fault place
    → Contains lines (place, AllRefused addresses (refusals.Packet fault place))
