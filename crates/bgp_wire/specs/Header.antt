-- The message header (RFC 4271, 4.1), and what can be wrong with it (6.1).
use Rattle.std.specs.Prelude.{◌≡◌, ◌≢◌, ◌<◌, ◌==◌, ◌||◌, ◌⊎◌, if◌then◌else◌, ℕ, List, [], ◌∷◌}
use Rattle.std.specs.Prelude.{Bool, ◌++◌}
use Rattle.std.specs.Prelude.{All, take, drop, replicate, slice_index}
use Rattle.byteorder.specs.Endian.{big_number, big_bytes}
use Rattle.bgp_wire.specs.declared.header.Limit.{Limit}
use Rattle.bgp_wire.specs.declared.header.Limit.TheVariants.{Plain, Extended}

-- the header at the front of a message's octets
abbrev pub header_of : List ℕ → List ℕ
header_of octets = take 19 octets

-- the Length field, in octets 16 and 17: the count of the whole message's octets, its header's too
unfoldable pub length_of : List ℕ → ℕ
length_of header = big_number 2 (drop 16 header)

-- the Type field, octet 18
unfoldable pub type_of : List ℕ → ℕ
type_of header = slice_index header 18

-- a header as it is written: an all-255 marker, the Length and the Type
unfoldable pub header_octets : ℕ → ℕ → List ℕ
header_octets kind count = replicate 16 255 ++ (big_bytes 2 count ++ kind ∷ [])

-- The least Length of a message of a type: that of its fixed fields (4.2 to 4.5), behind a header
-- of 19 octets. OPEN: version 1, AS 2, hold time 2, identifier 4, length of parameters 1; UPDATE:
-- length of withdrawn routes 2, of path attributes 2; NOTIFICATION: code 1, subcode 1.
abbrev pub least_length : ℕ → ℕ
least_length kind =
    if kind == 1 then 29 else if kind == 2 then 23 else if kind == 3 then 21 else 19

-- The greatest Length of a message of a type (4.1). As extended messages UPDATE and NOTIFICATION
-- may have all that the field can say; OPEN, KEEPALIVE and types that are unknown have the same as
-- before (RFC 8654, 4; of the unknown ones it says nothing: profile).
abbrev pub greatest_length : Limit → ℕ → ℕ
greatest_length Plain kind = 4096
greatest_length Extended kind = if (kind == 2) || (kind == 3) then 65535 else 4096

-- the limit where extended messages may be used, and where they may not
abbrev pub limit_with : Bool → Limit
limit_with extended = if extended then Extended else Plain

-- the marker is what it has to be, all 255
abbrev pub IsSynchronized : List ℕ → Type 0
IsSynchronized header = All (λ octet. octet ≡ 255) (take 16 header)

-- Connection Not Synchronized: an octet of the marker isn't 255
abbrev pub IsUnsynchronized : List ℕ → Type 0
IsUnsynchronized header = ¬ IsSynchronized header

-- Bad Message Length: the Length is outside what its type allows; a KEEPALIVE has no other than 19
abbrev pub IsBadLength : Limit → ℕ → ℕ → Type 0
IsBadLength limit kind count =
    (count < least_length kind) ⊎ (greatest_length limit kind < count) ⊎ ((kind ≡ 4) × (count ≢ 19))

-- Bad Message Type: the type is none of OPEN, UPDATE, NOTIFICATION and KEEPALIVE
abbrev pub IsBadType : ℕ → Type 0
IsBadType kind = (kind ≢ 1) × (kind ≢ 2) × (kind ≢ 3) × (kind ≢ 4)

-- A header is at fault by this subcode of Message Header Error, and a NOTIFICATION that says so has
-- these data: any for an unsynchronized marker, the Length field's two octets for a bad length, the
-- Type field's octet for a bad type
abbrev pub HasHeaderFault : Limit → List ℕ → ℕ → List ℕ → Type 0
HasHeaderFault limit header subcode detail =
    ((subcode ≡ 1) × IsUnsynchronized header)
    ⊎ ((subcode ≡ 2) × IsBadLength limit (type_of header) (length_of header)
    × (detail ≡ big_bytes 2 (length_of header)))
    ⊎ ((subcode ≡ 3) × IsBadType (type_of header) × (detail ≡ big_bytes 1 (type_of header)))

-- a header without a fault
abbrev pub IsSound : Limit → List ℕ → Type 0
IsSound limit header =
    (subcode : ℕ) (detail : List ℕ) → ¬ HasHeaderFault limit header subcode detail
