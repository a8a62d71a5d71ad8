-- Numbers in either order of octets.
use Rattle.std.specs.Prelude.{ℕ, ℤ, List}
use Rattle.byteorder.specs.Endian.{big_number, little_number, twos_complement}
use Rattle.packets.specs.declared.order.Order.{Order}
use Rattle.packets.specs.declared.order.Order.TheVariants.{Big, Little}

-- the number in the first n octets
abbrev pub number_in : Order → ℕ → List ℕ → ℕ
number_in Big n octets = big_number n octets
number_in Little n octets = little_number n octets

-- the signed number in the first eight octets
abbrev pub signed_in : Order → List ℕ → ℤ
signed_in order octets = twos_complement 8 (number_in order 8 octets)
