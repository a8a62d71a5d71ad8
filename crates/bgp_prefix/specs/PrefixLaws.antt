-- What the laws of `Prefix` cite: its fields and its bits tell one another.
use Rattle.std.proofs.Common.{◌≡◌, ℕ, zero, suc, ◌*◌, ◌≤◌, Bool, List, [], ◌∷◌, length, drop, refl}
use Rattle.std.proofs.Common.{ap, arith}
use Rattle.std.proofs.lemmas.List.{length-append, length-take-le}
use Rattle.bgp_prefix.specs.Bits.{bits_of_number, bits_of_octets, octets_of}
use Rattle.bgp_prefix.specs.Address.{bit_count}
use Rattle.bgp_prefix.specs.PrefixFields.{kept_bits, IsKept}
use Rattle.bgp_prefix.specs.declared.family.Family.{Family}
use Rattle.bgp_prefix.specs.declared.family.Family.TheVariants.{V4, V6}

pub length-bits_of_number : (count number : ℕ) → length (bits_of_number count number) ≡ count
unfolding bits_of_number
length-bits_of_number zero number = refl
length-bits_of_number (suc count) number = ap suc (length-bits_of_number count number)

pub length-bits_of_octets : (octets : List ℕ) → length (bits_of_octets octets) ≡ 8 * length octets
unfolding bits_of_octets
length-bits_of_octets [] = omega arith
length-bits_of_octets (octet ∷ octets) =
    rw (length-append, length-bits_of_number 8 octet) (omega (arith, length-bits_of_octets octets))

pub length-octets_of : (count : ℕ) (bits : List Bool) → length (octets_of count bits) ≡ count
unfolding octets_of
length-octets_of zero bits = refl
length-octets_of (suc count) bits = ap suc (length-octets_of count (drop 8 bits))

pub bit_count-le : (family : Family) → bit_count family ≤ 128
bit_count-le V4 = omega arith
bit_count-le V6 = omega arith

-- as many bits are kept as the length says
pub length-kept_bits : (family : Family) (count : ℕ) (octets : List ℕ)
    → IsKept family count octets → length (kept_bits count octets) ≡ count
length-kept_bits family count octets kept =
    let sixteen = ap length kept.zeros in
    let made = length-octets_of 16 (kept_bits count octets) in
    let bits = length-bits_of_octets octets in
    let most = bit_count-le family in
    length-take-le count (bits_of_octets octets) (omega (arith, kept.is_prefix))
