-- A ROUTE-REFRESH (RFC 2918) among the messages of a connection.
use Rattle.std.specs.Prelude.{◌≡◌, ◌⊎◌, ℕ, List, [], ◌∷◌, Option, None, Some}
use Rattle.std.specs.Prelude.{nat_lt, if◌then◌else◌}
use Rattle.mrt.specs.Rules.{IsRouteRefresh}
use Rattle.bgp_recording.specs.declared.entry.Entry.{Entry}
use Rattle.bgp_recording.specs.declared.framing.Rest.{Rest}
use Rattle.bgp_recording.specs.declared.framing.Rest.TheVariants.{Short, BehindFault}
use Rattle.streams.specs.declared.passed.Side.{Side}
use Rattle.streams.specs.declared.passed.Side.TheVariants.{Local, Peer}
use Rattle.bgp_import.specs.Captures.{message_from}
use Rattle.bgp_import.specs.Refusals.{refusal_packet}
use Rattle.bgp_import.specs.declared.refusal.Refusal.{Refusal}
use Rattle.bgp_import.specs.declared.refusal.Refusal.TheVariants as refusals

-- it is one
abbrev pub IsOne : Option (List ℕ) → Type 0
IsOne None = ⊥
IsOne (Some octets) = IsRouteRefresh octets

-- an entry shows one that this system sent
abbrev pub IsRefreshFrom : Side → Entry → Type 0
IsRefreshFrom from entry = IsOne (message_from from entry)

-- the packet that shows the first one that this system sent, if it sent one
abbrev pub IsRefreshPacket : Side → List Entry → Option ℕ → Type 0
IsRefreshPacket from [] packet = packet ≡ None
IsRefreshPacket from (entry ∷ later) packet =
    (IsRefreshFrom from entry × (packet ≡ Some entry.packet))
    ⊎ ((¬ IsRefreshFrom from entry) × IsRefreshPacket from later packet)

-- the place of the first octet of the faulty header that ends a direction's messages
abbrev pub place_of : Rest → ℕ
place_of (Short count) = 0
place_of (BehindFault place count is_refresh) = place

abbrev pub refresh_at : Side → Rest → Option ℕ → Option Refusal
refresh_at from rest None = None
refresh_at from rest (Some packet) = Some (refusals.RouteRefresh packet from (place_of rest))

-- the refusal for the one that this system sent
abbrev pub IsRefreshOf : Side → List Entry → Rest → Option Refusal → Type 0
IsRefreshOf from entries rest refusal =
    (packet : Option ℕ) × IsRefreshPacket from entries packet
    × (refusal ≡ refresh_at from rest packet)

-- the one that names the lesser packet
abbrev pub earlier : Option Refusal → Option Refusal → Option Refusal
earlier None sent = sent
earlier (Some received) None = Some received
earlier (Some received) (Some sent) =
    if nat_lt (refusal_packet sent) (refusal_packet received) then Some sent else Some received

-- why a session that may have one isn't judged by these records, if there is one
abbrev pub IsRefreshIn : List Entry → Rest → Rest → Option Refusal → Type 0
IsRefreshIn entries received_rest sent_rest refusal =
    (received sent : Option Refusal) × IsRefreshOf Peer entries received_rest received
    × IsRefreshOf Local entries sent_rest sent × (refusal ≡ earlier received sent)
