-- The layout of the records of a capture (RFC 6396, 2 to 4.4): MRT's header, and the bodies of the
-- types BGP4MP and BGP4MP_ET.
--
--  0           4      6         8        12
-- +-----------+------+---------+--------+----------------------------+
-- | Timestamp | Type | Subtype | Length | body: as many octets as    |
-- | (seconds) |      |         |        | Length says                |
-- +-----------+------+---------+--------+----------------------------+
--
-- A body, behind four octets of microseconds where the type is BGP4MP_ET. An AS number takes w
-- octets, an address a:
--
--  0         w          2w          2w+2  2w+4           2w+4+a          2w+4+2a
-- +---------+----------+-----------+-----+--------------+---------------+---------+
-- | peer AS | local AS | interface | AFI | peer address | local address | content |
-- +---------+----------+-----------+-----+--------------+---------------+---------+
--
-- The content is a whole BGP message, or an old state and a new one of two octets each.
use Rattle.std.specs.Prelude.{◌≡◌, ◌≢◌, ◌<◌, ◌≤◌, ◌+◌, ◌*◌, ◌==◌, ◌⊎◌, ℕ, Bool, List, [], ◌∷◌}
use Rattle.std.specs.Prelude.{length, take, drop, nat_lt, Option, None, Some, if◌then◌else◌}
use Rattle.std.specs.List.{list_any}
use Rattle.byteorder.specs.Endian.{big_number}
use Rattle.bgp_prefix.specs.Shown.{ShownRecord, Received, Sent, Changed}
use Rattle.bgp_prefix.specs.declared.address.Address.{Address}
use Rattle.bgp_prefix.specs.declared.address.Address.TheVariants.{V4, V6}
use Rattle.mrt.specs.declared.layout.Form.{Form}
use Rattle.mrt.specs.declared.layout.Form.TheVariants as forms

-- ---- the header

-- its four fields
pub record Header : Type 0 where
  pub second : ℕ
  pub kind : ℕ
  pub subtype : ℕ
  pub count : ℕ

-- the Timestamp, in seconds since 1970
unfoldable pub second_in : List ℕ → ℕ
second_in octets = big_number 4 octets

-- the Type
unfoldable pub kind_in : List ℕ → ℕ
kind_in octets = big_number 2 (drop 4 octets)

-- the Subtype
unfoldable pub subtype_in : List ℕ → ℕ
subtype_in octets = big_number 2 (drop 6 octets)

-- the Length: how many octets stand behind the header
unfoldable pub count_in : List ℕ → ℕ
count_in octets = big_number 4 (drop 8 octets)

-- the header that these 12 octets are
abbrev pub header_in : List ℕ → Header
header_in octets = record {
  second = second_in octets;
  kind = kind_in octets;
  subtype = subtype_in octets;
  count = count_in octets;
}

-- the header at the front of the octets
abbrev pub header_of : List ℕ → Header
header_of octets = header_in (take 12 octets)

-- the octets behind it, as many as it says or as there are
abbrev pub body_of : List ℕ → List ℕ
body_of octets = take (header_of octets).count (drop 12 octets)

-- the octets are one record: a header, and as many octets as it says
pub record IsRecord (octets : List ℕ) : Type 0 where
  pub header : 12 ≤ length octets
  pub whole : length octets ≡ 12 + (header_of octets).count

-- the types BGP4MP and BGP4MP_ET
abbrev pub IsBgp4mp : ℕ → Type 0
IsBgp4mp kind = (kind ≡ 16) ⊎ (kind ≡ 17)

-- ---- the subtypes

-- the subtype is one of these
abbrev pub is_of : ℕ → List ℕ → Bool
is_of subtype subtypes = list_any (λ s. subtype == s) subtypes

-- What the record is: STATE_CHANGE and STATE_CHANGE_AS4; MESSAGE and MESSAGE_AS4; MESSAGE_LOCAL and
-- MESSAGE_AS4_LOCAL; the same four messages with ADD-PATH (RFC 8050, 3).
abbrev pub form_of : ℕ → Option Form
form_of subtype =
    if is_of subtype (0 ∷ 5 ∷ []) then Some forms.Change
    else (if is_of subtype (1 ∷ 4 ∷ []) then Some forms.Received
    else (if is_of subtype (6 ∷ 7 ∷ []) then Some forms.Sent
    else (if is_of subtype (8 ∷ 9 ∷ 10 ∷ 11 ∷ []) then Some forms.AddPath else None)))

-- How many octets an AS number takes here: four in the AS4 subtypes. It says nothing of AS numbers
-- inside the message.
abbrev pub as_width : ℕ → ℕ
as_width subtype = if is_of subtype (4 ∷ 5 ∷ 7 ∷ 9 ∷ 11 ∷ []) then 4 else 2

-- ---- the body

-- The fraction of the record's second, in microseconds: the four octets at the front, where the type
-- is BGP4MP_ET (RFC 6396, 3). A number that isn't below 1,000,000 is no fraction.
unfoldable pub micro_in : Header → List ℕ → Option ℕ
micro_in header body =
    if header.kind == 17
    then (if nat_lt (big_number 4 body) 1000000 then Some (big_number 4 body) else None)
    else None

-- where the AFI stands
abbrev pub afi_at : Header → ℕ
afi_at header = (if header.kind == 17 then 4 else 0) + 2 * as_width header.subtype + 2

unfoldable pub afi_in : Header → List ℕ → ℕ
afi_in header body = big_number 2 (drop (afi_at header) body)

-- how many octets an address takes: AFI 1 is IPv4, AFI 2 is IPv6
abbrev pub address_len : ℕ → ℕ
address_len afi = if afi == 1 then 4 else 16

abbrev pub local_at : Header → List ℕ → ℕ
local_at header body = afi_at header + 2 + address_len (afi_in header body)

abbrev pub content_at : Header → List ℕ → ℕ
content_at header body = afi_at header + 2 + 2 * address_len (afi_in header body)

-- the body ends before the AFI does, or the AFI is neither 1 nor 2, or the body ends before the
-- local address does
abbrev pub LacksFields : Header → List ℕ → Type 0
LacksFields header body =
    (length body < afi_at header + 2)
    ⊎ ((afi_in header body ≢ 1) × (afi_in header body ≢ 2))
    ⊎ (length body < content_at header body)

-- the address at the front of the octets
unfoldable pub address_in : ℕ → List ℕ → Address
address_in afi octets = if afi == 1 then V4 (big_number 4 octets) else V6 (big_number 16 octets)

abbrev pub peer_in : Header → List ℕ → Address
peer_in header body = address_in (afi_in header body) (drop (afi_at header + 2) body)

abbrev pub local_in : Header → List ℕ → Address
local_in header body = address_in (afi_in header body) (drop (local_at header body) body)

abbrev pub content_in : Header → List ℕ → List ℕ
content_in header body = drop (content_at header body) body

-- ---- the content

-- of a change of state: the old state and the new one
unfoldable pub old_state_in : List ℕ → ℕ
old_state_in content = big_number 2 content

unfoldable pub new_state_in : List ℕ → ℕ
new_state_in content = big_number 2 (drop 2 content)

-- 1 Idle, 2 Connect, 3 Active, 4 OpenSent, 5 OpenConfirm, 6 Established
abbrev pub IsState : ℕ → Type 0
IsState state = (1 ≤ state) × (state ≤ 6)

-- what the record shows
abbrev pub shown_in : Header → List ℕ → ShownRecord
shown_in header content =
    if is_of header.subtype (0 ∷ 5 ∷ [])
    then Changed header.second (old_state_in content) (new_state_in content)
    else (if is_of header.subtype (1 ∷ 4 ∷ []) then Received header.second content
    else Sent header.second content)
