-- Octets and numbers as bits, the highest bit first (RFC 791, appendix B).
use Rattle.std.specs.Prelude.{ℕ, zero, suc, ◌+◌, ◌-◌, ◌^◌, ◌==◌, Bool, false, if◌then◌else◌, List}
use Rattle.std.specs.Prelude.{[], ◌∷◌, ◌++◌, length, take, drop, replicate}
use Rattle.std.specs.List.{flat_map}
use Rattle.std.specs.Int.{bit_at}

-- the lowest `count` bits of a number
unfoldable pub bits_of_number : ℕ → ℕ → List Bool
bits_of_number zero number = []
bits_of_number (suc count) number = (bit_at number count == 1) ∷ bits_of_number count number

-- the eight bits of each octet
unfoldable pub bits_of_octets : List ℕ → List Bool
bits_of_octets octets = flat_map (bits_of_number 8) octets

-- the number that bits spell
unfoldable pub number_of_bits : List Bool → ℕ
number_of_bits [] = 0
number_of_bits (bit ∷ bits) = (if bit then 2 ^ length bits else 0) + number_of_bits bits

-- bits and then as many zeros as make them `count`
unfoldable pub with_zeros : ℕ → List Bool → List Bool
with_zeros count bits = bits ++ replicate (count - length bits) false

-- so many octets whose bits are these and then zeros
unfoldable pub octets_of : ℕ → List Bool → List ℕ
octets_of zero bits = []
octets_of (suc count) bits =
    number_of_bits (with_zeros 8 (take 8 bits)) ∷ octets_of count (drop 8 bits)
