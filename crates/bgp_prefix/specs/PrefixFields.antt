-- How a prefix is kept: its length, and its lowest address in 4 octets of 16 or in all of them.
use Rattle.std.specs.Prelude.{◌≡◌, ℕ, ◌≤◌, Bool, List, take, drop}
use Rattle.byteorder.specs.Endian.{big_number}
use Rattle.bgp_prefix.specs.Prefix.{PrefixBits}
use Rattle.bgp_prefix.specs.Bits.{bits_of_octets, octets_of}
use Rattle.bgp_prefix.specs.Address.{bit_count}
use Rattle.bgp_prefix.specs.declared.family.Family.{Family}

-- the bits that are kept
abbrev pub kept_bits : ℕ → List ℕ → List Bool
kept_bits count octets = take count (bits_of_octets octets)

-- no more bits than an address has, and nothing but zeros after them
pub record IsKept (family : Family) (count : ℕ) (octets : List ℕ) : Type 0 where
  pub is_prefix : count ≤ bit_count family
  pub zeros : octets ≡ octets_of 16 (kept_bits count octets)

-- the number that the first eight of the octets spell
abbrev pub front_number : PrefixBits → ℕ
front_number prefix = big_number 8 (octets_of 16 prefix.bits)

-- and that of the others
abbrev pub back_number : PrefixBits → ℕ
back_number prefix = big_number 8 (drop 8 (octets_of 16 prefix.bits))
