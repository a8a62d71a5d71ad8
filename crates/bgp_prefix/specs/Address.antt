-- An address of IPv4 (RFC 791, 3.2) or IPv6 (RFC 4291, 2): its family, its bits and its octets.
use Rattle.std.specs.Prelude.{ℕ, ◌<◌, ◌^◌, Bool, List}
use Rattle.std.specs.Net.Addr.{segments_of}
use Rattle.byteorder.specs.Endian.{big_bytes}
use Rattle.bgp_prefix.specs.Bits.{bits_of_number}
use Rattle.bgp_prefix.specs.declared.family.Family.{Family}
use Rattle.bgp_prefix.specs.declared.address.Address.{Address}
use Rattle.bgp_prefix.specs.declared.address.Address.TheVariants.{V4, V6}

-- the family of an address
abbrev pub family_of : Address → Family
family_of (V4 number) = Family.V4
family_of (V6 number) = Family.V6

-- the number of a family in the order of addresses
abbrev pub family_number : Family → ℕ
family_number Family.V4 = 0
family_number Family.V6 = 1

-- how many bits an address of the family has
abbrev pub bit_count : Family → ℕ
bit_count Family.V4 = 32
bit_count Family.V6 = 128

-- the number of an address has no more bits than that
abbrev pub IsAddress : Address → Type 0
IsAddress (V4 number) = number < 2 ^ 32
IsAddress (V6 number) = number < 2 ^ 128

-- the number that the octets of an address spell
abbrev pub address_number : Address → ℕ
address_number (V4 number) = number
address_number (V6 number) = number

-- the bits of an address
unfoldable pub address_bits : Address → List Bool
address_bits (V4 number) = bits_of_number 32 number
address_bits (V6 number) = bits_of_number 128 number

-- the four octets of an IPv4 address, the highest first
abbrev pub ipv4_octets : ℕ → List ℕ
ipv4_octets number = big_bytes 4 number

-- the eight groups of 16 bits of an IPv6 address, the highest first (RFC 4291, 2.2)
abbrev pub ipv6_groups : ℕ → List ℕ
ipv6_groups number = segments_of (big_bytes 16 number)
