-- Each thing that there is to tell of in a recording stands at a packet of its own.
use Rattle.std.specs.Prelude.{◌≡◌, ℕ, List}
use Rattle.packets.specs.Packet.{Recorded}
use Rattle.segments.specs.declared.fault.PacketFault.{PacketFault}
use Rattle.segments.specs.declared.found.Addresses.{Addresses}
use Rattle.streams.specs.Passed.{Segment}
use Rattle.streams.specs.declared.connection.Opening.{Opening}
use Rattle.bgp_import.specs.Pairs.{AreOrdered}
use Rattle.bgp_import.specs.Places.{HasConnection}
use Rattle.bgp_import.specs.Reading.{AreKnown}
use Rattle.bgp_import.specs.Talks.{IsRefusedAt}

-- two connections that begin at one packet are one
abbrev pub ConnectionsStandAlone : Type 0
ConnectionsStandAlone =
    (port : ℕ) (packets : List Recorded) (addresses others : Addresses)
    (segments more : List Segment) (opening other : Opening)
    → HasConnection port packets addresses segments opening
    → HasConnection port packets others more other → opening.packet ≡ other.packet
    → (addresses ≡ others) × (segments ≡ more) × (opening.number ≡ other.number)

-- the first packet that is refused for two addresses is that for no others
abbrev pub RefusalsStandAlone : Type 0
RefusalsStandAlone =
    (port place : ℕ) (packets : List Recorded) (addresses others : Addresses)
    (fault another : PacketFault) → AreKnown packets → AreOrdered addresses → AreOrdered others
    → IsRefusedAt port packets addresses fault place
    → IsRefusedAt port packets others another place
    → (addresses ≡ others) × (fault ≡ another)

-- and no connection begins there
abbrev pub NoneBeginsAtARefusal : Type 0
NoneBeginsAtARefusal =
    (port place : ℕ) (packets : List Recorded) (addresses others : Addresses)
    (segments : List Segment) (opening : Opening) (fault : PacketFault) → AreKnown packets
    → AreOrdered others → HasConnection port packets addresses segments opening
    → IsRefusedAt port packets others fault place → ¬ (opening.packet ≡ place)
