-- The Path Attributes field of an UPDATE (RFC 4271, 4.3): whole attributes, and then a tail.
use Rattle.std.specs.Prelude.{◌≡◌, ◌≢◌, ℕ, ◌+◌, ◌^◌, ◌<◌, ◌≤◌, Bool, ◌==◌, if◌then◌else◌, List, []}
use Rattle.std.specs.Prelude.{◌∷◌, ◌++◌, length, drop, slice_index, All, Option, None, Some}
use Rattle.std.specs.Prelude.{bit_and}
use Rattle.std.specs.List.{flat_map}
use Rattle.byteorder.specs.Endian.{big_number, big_bytes}
use Rattle.bgp_attr.specs.declared.field.Tail.{Tail}
use Rattle.bgp_attr.specs.declared.field.Tail.TheVariants.{ShortHeader, Overrun}
use Rattle.bgp_attr.specs.declared.field.Attr.{Attr}

-- a path attribute: its flags octet, its type and its value
pub record Attribute : Type 0 where
  pub flags : ℕ
  pub kind : ℕ
  pub value : List ℕ

-- what an `Attr` shows
abbrev pub attribute_of : Attr → Attribute
attribute_of attr = record { flags = attr.flags; kind = attr.kind; value = attr.value.now }

-- the Extended Length bit, 16, is set
abbrev pub is_extended : ℕ → Bool
is_extended flags = bit_and flags 16 == 16

-- how many octets the length takes: two with Extended Length, else one
abbrev pub length_octets : ℕ → ℕ
length_octets flags = if is_extended flags then 2 else 1

-- its length octets can say how long it is
abbrev pub IsAttribute : Attribute → Type 0
IsAttribute a = length a.value < 256 ^ length_octets a.flags

-- the octets of an attribute: flags, type, length and value
abbrev pub attribute_octets : Attribute → List ℕ
attribute_octets a =
    a.flags ∷ a.kind ∷ big_bytes (length_octets a.flags) (length a.value) ++ a.value

-- how many octets a header takes that begins so: flags, type and length
unfoldable pub header_len : List ℕ → ℕ
header_len octets = 2 + length_octets (slice_index octets 0)

-- the length that stands in that header
unfoldable pub value_len : List ℕ → ℕ
value_len octets = big_number (length_octets (slice_index octets 0)) (drop 2 octets)

-- a rest in which no attribute stands: it is empty, or too short for a header, or its header is
-- whole and the value runs past the end
abbrev pub IsTail : List ℕ → Option Tail → Type 0
IsTail rest None = rest ≡ []
IsTail rest (Some ShortHeader) = (rest ≢ []) × (length rest < header_len rest)
IsTail rest (Some (Overrun kind)) =
    (header_len rest ≤ length rest) × (length rest < header_len rest + value_len rest)
    × (kind ≡ slice_index rest 1)

-- the field is these attributes, one after the other, and then that tail
pub record IsAttributeField
    (field : List ℕ) (attributes : List Attribute) (tail : Option Tail) : Type 0 where
  pub rest : List ℕ
  pub whole : field ≡ flat_map attribute_octets attributes ++ rest
  pub each : All IsAttribute attributes
  pub last : IsTail rest tail

-- a field has at most one split; that it has one, `Attrs::new` says
abbrev pub HasOneSplit : Type 0
HasOneSplit =
    (field : List ℕ) (attributes others : List Attribute) (tail other : Option Tail)
    → IsAttributeField field attributes tail → IsAttributeField field others other
    → (attributes ≡ others) × (tail ≡ other)
