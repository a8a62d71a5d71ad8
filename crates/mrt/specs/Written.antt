-- The octets of a record as it is written (RFC 6396, 2 and 4.4): of type BGP4MP, of the subtypes
-- STATE_CHANGE_AS4, MESSAGE_AS4 and MESSAGE_AS4_LOCAL, with interface index 0. And those of records
-- one after another.
use Rattle.std.specs.Prelude.{◌≡◌, ◌<◌, ◌≤◌, ◌^◌, ◌+◌, ◌++◌, ℕ, List, [], ◌∷◌, length}
use Rattle.std.specs.Prelude.{Option, None}
use Rattle.std.specs.List.{flat_map}
use Rattle.byteorder.specs.Endian.{big_bytes}
use Rattle.bgp_prefix.specs.Shown.{ShownRecord, Received, Sent, Changed, second_of}
use Rattle.bgp_prefix.specs.Address.{family_of, IsAddress}
use Rattle.bgp_prefix.specs.declared.address.Address.{Address}
use Rattle.bgp_prefix.specs.declared.address.Address.TheVariants.{V4, V6}
use Rattle.bgp_prefix.specs.declared.session.Session.{Session}
use Rattle.bgp_prefix.specs.declared.session.RouteRefresh.TheVariants as refreshes
use Rattle.mrt.specs.Layout.{IsState}
use Rattle.bgp_wire.specs.Header.{limit_with}
use Rattle.mrt.specs.Rules.{IsRouteRefresh, IsWholeRefresh, HasOtherLength, IsBefore, body_limit}

-- its subtype
abbrev pub subtype_for : ShownRecord → ℕ
subtype_for (Changed second old new) = 5
subtype_for (Received second octets) = 4
subtype_for (Sent second octets) = 7

abbrev pub afi_for : Address → ℕ
afi_for (V4 number) = 1
afi_for (V6 number) = 2

abbrev pub address_octets : Address → List ℕ
address_octets (V4 number) = big_bytes 4 number
address_octets (V6 number) = big_bytes 16 number

abbrev pub content_for : ShownRecord → List ℕ
content_for (Changed second old new) = big_bytes 2 old ++ big_bytes 2 new
content_for (Received second octets) = octets
content_for (Sent second octets) = octets

-- the header
unfoldable pub header_octets : ℕ → ℕ → ℕ → List ℕ
header_octets second subtype count =
    big_bytes 4 second ++ (big_bytes 2 16 ++ (big_bytes 2 subtype ++ big_bytes 4 count))

-- the AS numbers, the interface index and the AFI
unfoldable pub number_octets : ℕ → ℕ → ℕ → List ℕ
number_octets peer_as local_as afi =
    big_bytes 4 peer_as ++ (big_bytes 4 local_as ++ (big_bytes 2 0 ++ big_bytes 2 afi))

-- what stands behind them
abbrev pub behind_numbers : Session → ShownRecord → List ℕ
behind_numbers session shown =
    address_octets session.peer ++ (address_octets session.local ++ content_for shown)

-- the body
unfoldable pub body_octets : Session → ℕ → ℕ → ShownRecord → List ℕ
body_octets session peer_as local_as shown =
    number_octets peer_as local_as (afi_for session.peer) ++ behind_numbers session shown

-- the record
abbrev pub record_octets : Session → ℕ → ℕ → ShownRecord → List ℕ
record_octets session peer_as local_as shown =
    let body = body_octets session peer_as local_as shown in
    header_octets (second_of shown) (subtype_for shown) (length body) ++ body

-- A capture of the session may have the record behind one of the second `last`: its states are
-- known, or its message is whole where its header is sound, and no ROUTE-REFRESH that is refused or
-- passed over; and its time doesn't go back.
abbrev pub IsMessageAllowed : Session → List ℕ → Type 0
IsMessageAllowed session octets =
    (19 ≤ length octets) × (session.refresh ≡ refreshes.Refused → ¬ IsRouteRefresh octets)
    × (session.refresh ≡ refreshes.PassedOver → ¬ IsWholeRefresh octets)
    × (¬ HasOtherLength (limit_with session.extended) octets)

abbrev pub IsAllowed : Session → Option ℕ → ShownRecord → Type 0
IsAllowed session last (Changed second old new) =
    IsState old × IsState new × (¬ IsBefore second last)
IsAllowed session last (Received second octets) =
    IsMessageAllowed session octets × (¬ IsBefore second last)
IsAllowed session last (Sent second octets) =
    IsMessageAllowed session octets × (¬ IsBefore second last)

-- the states fit their fields
abbrev pub AreStates : ShownRecord → Type 0
AreStates (Changed second old new) = (old < 2 ^ 16) × (new < 2 ^ 16)
AreStates (Received second octets) = Unit {0}
AreStates (Sent second octets) = Unit {0}

-- the numbers fit their fields
pub record FitsFields (session : Session) (shown : ShownRecord) : Type 0 where
  pub second : second_of shown < 2 ^ 32
  pub states : AreStates shown
  pub peer : IsAddress session.peer
  pub local : IsAddress session.local

-- how many octets the body has
abbrev pub body_len : Session → ShownRecord → ℕ
body_len session shown =
    12 + (length (address_octets session.peer)
    + (length (address_octets session.local) + length (content_for shown)))

-- What can be written: both addresses are of one family, and the body has no more octets than are
-- read.
abbrev pub IsWritable : Session → ShownRecord → Type 0
IsWritable session shown =
    (family_of session.peer ≡ family_of session.local)
    × (body_len session shown ≤ body_limit session)

-- ---- records one after another

-- their octets
abbrev pub capture_octets : Session → ℕ → ℕ → List ShownRecord → List ℕ
capture_octets session peer_as local_as records =
    flat_map (record_octets session peer_as local_as) records

-- A capture of the session can hold the record, but for the seconds of those before it: it can be
-- written, its numbers fit their fields, and a capture may have it as its first.
pub record CanBeCaptured (session : Session) (shown : ShownRecord) : Type 0 where
  pub writable : IsWritable session shown
  pub fits : FitsFields session shown
  pub allowed : IsAllowed session None shown

-- the seconds begin at this one or after it, and don't go back
abbrev pub AreInOrder : ℕ → List ShownRecord → Type 0
AreInOrder least [] = Unit {0}
AreInOrder least (shown ∷ later) =
    (least ≤ second_of shown) × AreInOrder (second_of shown) later
