-- A prefix: the first bits of the addresses that a route leads to (RFC 4271, 3.1 and 4.3).
use Rattle.std.specs.Prelude.{◌≡◌, ℕ, ◌+◌, ◌-◌, ◌*◌, ◌/◌, ◌<◌, ◌≤◌, ◌⊎◌, Bool, false, List, ◌∷◌}
use Rattle.std.specs.Prelude.{All, length, take, drop, slice_index}
use Rattle.bgp_prefix.specs.Bits.{bits_of_octets, number_of_bits, with_zeros, octets_of}
use Rattle.bgp_prefix.specs.declared.family.Family.{Family}
use Rattle.bgp_prefix.specs.declared.address.Address.{Address}
use Rattle.bgp_prefix.specs.Address.{family_of, bit_count, address_bits}

-- a family, and the bits that the addresses have in common
pub record PrefixBits : Type 0 where
  pub family : Family
  pub bits : List Bool

-- the length of a prefix: how many bits it has
abbrev pub prefix_length : PrefixBits → ℕ
prefix_length prefix = length prefix.bits

-- no prefix is longer than an address
abbrev pub IsPrefix : PrefixBits → Type 0
IsPrefix prefix = prefix_length prefix ≤ bit_count prefix.family

-- The octets spell the prefix: one with its length in bits, and then the fewest that hold so many
-- bits, and begin with those. What bits come after them is irrelevant (RFC 4271, 4.3; RFC 4760, 5).
pub record IsPrefixSpelling (prefix : PrefixBits) (octets : List ℕ) : Type 0 where
  pub field : List ℕ
  pub is_prefix : IsPrefix prefix
  pub spelled : octets ≡ prefix_length prefix ∷ field
  pub enough : prefix_length prefix ≤ 8 * length field
  pub fewest : (count : ℕ) → prefix_length prefix ≤ 8 * count → length field ≤ count
  pub first : take (prefix_length prefix) (bits_of_octets field) ≡ prefix.bits

-- the bits of the octets after the length and the prefix are zeros
abbrev pub HasZerosAfter : PrefixBits → List ℕ → Type 0
HasZerosAfter prefix octets =
    All (λ bit. bit ≡ false) (drop (prefix_length prefix) (bits_of_octets (drop 1 octets)))

-- the spelling whose bits after the prefix are zeros
unfoldable pub prefix_octets : PrefixBits → List ℕ
prefix_octets prefix =
    prefix_length prefix ∷ octets_of ((prefix_length prefix + 7) / 8) prefix.bits

-- the first `count` octets spell a prefix of the family
pub record BeginsWithPrefix (family : Family) (octets : List ℕ) (prefix : PrefixBits) (count : ℕ)
    : Type 0 where
  pub of_family : prefix.family ≡ family
  pub within : count ≤ length octets
  pub spelling : IsPrefixSpelling prefix (take count octets)

-- the octets begin with a length above that of an address
abbrev pub IsTooLong : Family → List ℕ → Type 0
IsTooLong family octets = bit_count family < slice_index octets 0

-- the length is missing
abbrev pub LacksLength : List ℕ → Type 0
LacksLength octets = length octets ≡ 0

-- the length is one of an address's, and octets that hold so many bits are missing
abbrev pub LacksBits : Family → List ℕ → Type 0
LacksBits family octets =
    (slice_index octets 0 ≤ bit_count family) × (8 * (length octets - 1) < slice_index octets 0)

-- the octets end inside a prefix of the family
abbrev pub EndsInPrefix : Family → List ℕ → Type 0
EndsInPrefix family octets = LacksLength octets ⊎ LacksBits family octets

-- the prefix of an address: so many of its first bits
unfoldable pub prefix_of : Address → ℕ → PrefixBits
prefix_of address count =
    record { family = family_of address; bits = take count (address_bits address) }

-- the lowest address of a prefix: its bits, and then zeros
unfoldable pub lowest_address : Family → List Bool → Address
lowest_address Family.V4 bits = Address.V4 (number_of_bits (with_zeros 32 bits))
lowest_address Family.V6 bits = Address.V6 (number_of_bits (with_zeros 128 bits))

-- the same of a prefix as a whole
abbrev pub address_of : PrefixBits → Address
address_of prefix = lowest_address prefix.family prefix.bits
