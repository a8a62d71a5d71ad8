-- The octets of a prefix are the first of its address.
use Rattle.std.proofs.Common.{◌≡◌, ◌∙◌, ◌+◌, ◌*◌, ◌/◌, ◌^◌, ◌<◌, ◌≤◌, ◌∷◌, [], ℕ, Option, None, zero, suc, List, Bool, refl, sym, ap, length, take, drop, arith}
use Rattle.std.specs.Borrow.{Bor}
use Rattle.std.proofs.lemmas.List.{length-take}
use Rattle.byteorder.specs.Endian.{big_bytes}
use Rattle.bgp_prefix.specs.Address.{bit_count}
use Rattle.bgp_prefix.specs.Bits.{number_of_bits, octets_of, with_zeros}
use Rattle.bgp_prefix.specs.Prefix.{PrefixBits, lowest_address, prefix_length, prefix_octets}
use Rattle.bgp_prefix.specs.PrefixLaws.{length-octets_of}
use Rattle.bgp_prefix.specs.declared.family.Family.{Family}
use Rattle.bgp_prefix.specs.declared.address.Address.TheVariants.{V4, V6}
use Rattle.bgp_prefix.proofs.AddressNumbers.{AreOctets, big_bytes-big_number}
use Rattle.bgp_prefix.proofs.BitsAndNumbers.{big_number-octets_of, length-with_zeros, number_of_bits-lt, take-octets_of}
use Rattle.bgp_json_values.specs.Fronts.{IsAfter}
use Rattle.bgp_json_values.proofs.FrontsCompared.{then_after}

-- ---- behind the length: the first octets of the address

-- what is made of bits are octets
are_octets : (count : ℕ) (bits : List Bool) → AreOctets (octets_of count bits)
unfolding octets_of
are_octets zero bits k = omega arith
are_octets (suc count) bits zero =
    let eight = length-with_zeros 8 (take 8 bits) (omega (arith, length-take 8 bits)) in
    let below = number_of_bits-lt (with_zeros 8 (take 8 bits)) in
    let bound : number_of_bits (with_zeros 8 (take 8 bits)) < 2 ^ 8 = rw eight at below in
    bound
are_octets (suc count) bits (suc k) = are_octets count (drop 8 bits) k

-- the octets of the number that bits and then zeros are
whole : (count : ℕ) (bits : List Bool) → length bits ≤ 8 * count → big_bytes count (number_of_bits (with_zeros (8 * count) bits)) ≡ octets_of count bits
whole count bits fits =
    ap (big_bytes count) (sym (big_number-octets_of count count bits (omega arith) fits))
    ∙ big_bytes-big_number count (octets_of count bits) (length-octets_of count bits) (are_octets count bits)

-- and the first of them
first : (count places number : ℕ) (bits : List Bool) → length bits ≤ 8 * count → places ≤ count → number ≡ number_of_bits (with_zeros (8 * count) bits) → take places (big_bytes count number) ≡ octets_of places bits
first count places number bits fits within is =
    ap (λ n. take places (big_bytes count n)) is ∙ ap (take places) (whole count bits fits) ∙ take-octets_of places count bits within

-- a prefix has no more bits than its address
pub fits_V4 : (family : Family) (bits : List Bool) (number : ℕ) → length bits ≤ bit_count family → V4 number ≡ lowest_address family bits → length bits ≤ 32
unfolding lowest_address
fits_V4 Family.V4 bits number fits is = fits
fits_V4 Family.V6 bits number fits is = cc

pub fits_V6 : (family : Family) (bits : List Bool) (number : ℕ) → length bits ≤ bit_count family → V6 number ≡ lowest_address family bits → length bits ≤ 128
unfolding lowest_address
fits_V6 Family.V4 bits number fits is = cc
fits_V6 Family.V6 bits number fits is = fits

pub octets_V4 : (family : Family) (bits : List Bool) (number places : ℕ) → length bits ≤ bit_count family → V4 number ≡ lowest_address family bits → places ≡ (length bits + 7) / 8 → take places (big_bytes 4 number) ≡ octets_of ((length bits + 7) / 8) bits
unfolding lowest_address
octets_V4 Family.V4 bits number places fits is many =
    rw many (first 4 ((length bits + 7) / 8) number bits fits (omega arith) (cc))
octets_V4 Family.V6 bits number places fits is many = cc

pub octets_V6 : (family : Family) (bits : List Bool) (number places : ℕ) → length bits ≤ bit_count family → V6 number ≡ lowest_address family bits → places ≡ (length bits + 7) / 8 → take places (big_bytes 16 number) ≡ octets_of ((length bits + 7) / 8) bits
unfolding lowest_address
octets_V6 Family.V4 bits number places fits is many = cc
octets_V6 Family.V6 bits number places fits is many =
    rw many (first 16 ((length bits + 7) / 8) number bits fits (omega arith) (cc))

-- ---- the length in front of them

pub no_length : (prefix : PrefixBits) (octets : List ℕ) → length octets ≡ 0 → IsAfter (prefix_octets prefix) octets None
unfolding prefix_octets
no_length prefix octets none rest is = absurd (omega (arith, ap length is))

pub other_length : (prefix : PrefixBits) (octets rest : List ℕ) (count : ℕ) → octets ≡ count ∷ rest → (count ≡ prefix_length prefix → ⊥) → IsAfter (prefix_octets prefix) octets None
unfolding prefix_octets
other_length prefix octets rest count parts other more is = other (cc)

pub this_length : (prefix : PrefixBits) (octets rest : List ℕ) (count : ℕ) (after : Option (Bor (List ℕ))) → octets ≡ count ∷ rest → count ≡ prefix_length prefix
    → IsAfter (octets_of ((prefix_length prefix + 7) / 8) prefix.bits) rest after → IsAfter (prefix_octets prefix) octets after
unfolding prefix_octets
this_length prefix octets rest count after parts same found =
    let field = octets_of ((prefix_length prefix + 7) / 8) prefix.bits in
    then_after (count ∷ []) (prefix_length prefix ∷ []) field field octets rest after (ap (λ (n : ℕ). n ∷ []) same) refl parts found
