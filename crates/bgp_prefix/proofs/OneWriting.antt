-- One spelling of a prefix has zeros for the bits after it.
use Rattle.std.proofs.Common.{◌≡◌, ℕ, zero, suc, ◌+◌, ◌-◌, ◌*◌, ◌/◌, ◌^◌, ◌<◌, ◌≤◌, Bool, false, List, [], ◌∷◌, ◌++◌, length, take, drop, replicate, get_or, All, refl, sym, ap, ap₂, ◌∙◌, arith}
use Rattle.std.proofs.lemmas.List.{append-nil, length-drop, length-take, take_all, take-append-drop}
use Rattle.std.proofs.lemmas.List.Elements.{All-head, All-tail}
use Rattle.bgp_prefix.specs.Bits.{bits_of_octets, number_of_bits, with_zeros, octets_of}
use Rattle.bgp_prefix.specs.Prefix.{PrefixBits, prefix_length, IsPrefixSpelling, HasZerosAfter, prefix_octets}
use Rattle.bgp_prefix.specs.PrefixLaws.{length-bits_of_octets, length-octets_of}
use Rattle.bgp_prefix.proofs.BitsAndNumbers.{length-with_zeros, number_of_bits-lt, bits_of_octets-octets_of}
use Rattle.bgp_prefix.proofs.Masks.{whole_octets}

abbrev AreOctets : List ℕ → Type 0
AreOctets octets = (k : ℕ) → get_or octets k 0 < 256

are_octets : (octets : List ℕ) → All (λ octet. octet < 256) octets → AreOctets octets
are_octets [] each k = omega arith
are_octets (octet ∷ octets) each zero = All-head (λ o. o < 256) octet octets each
are_octets (octet ∷ octets) each (suc k) = are_octets octets (All-tail (λ o. o < 256) octet octets each) k

no_octets : (bits : List Bool) → octets_of 0 bits ≡ []
unfolding octets_of
no_octets bits = refl

-- octets are told by their bits
same_octets : (octets : List ℕ) → AreOctets octets → octets_of (length octets) (bits_of_octets octets) ≡ octets
same_octets octets fit =
    let n = length octets in
    let many : n + 0 ≡ n = omega arith in
    let bits : take (8 * n + 0) (bits_of_octets octets) ≡ bits_of_octets octets =
    take_all (8 * n + 0) (bits_of_octets octets) (omega (arith, length-bits_of_octets octets)) in
    sym (ap₂ octets_of many bits)
    ∙ whole_octets n 0 0 octets fit (omega arith)
    ∙ ap (λ (rest : List ℕ). take n octets ++ rest) (no_octets (take 0 (bits_of_octets (drop n octets))))
    ∙ append-nil (take n octets)
    ∙ take_all n octets (omega arith)

-- what is made of bits are octets
made_octets : (count : ℕ) (bits : List Bool) → AreOctets (octets_of count bits)
unfolding octets_of
made_octets zero bits k = omega arith
made_octets (suc count) bits zero =
    let eight = length-with_zeros 8 (take 8 bits) (omega (arith, length-take 8 bits)) in
    let below = number_of_bits-lt (with_zeros 8 (take 8 bits)) in
    let bound : number_of_bits (with_zeros 8 (take 8 bits)) < 2 ^ 8 = rw eight at below in
    bound
made_octets (suc count) bits (suc k) = made_octets count (drop 8 bits) k

all_false : (bits : List Bool) → All (λ bit. bit ≡ false) bits → bits ≡ replicate (length bits) false
all_false [] each = refl
all_false (bit ∷ bits) each =
    ap₂ ◌∷◌ (All-head (λ b. b ≡ false) bit bits each) (all_false bits (All-tail (λ b. b ≡ false) bit bits each))

-- the octets after the length
one_field : (bits : List Bool) (field : List ℕ) → AreOctets field → length bits ≤ 8 * length field → take (length bits) (bits_of_octets field) ≡ bits
    → All (λ bit. bit ≡ false) (drop (length bits) (bits_of_octets field)) → field ≡ octets_of (length field) bits
unfolding with_zeros
one_field bits field fit enough first zeros =
    let n = length bits in
    let made = octets_of (length field) bits in
    let gap : length (drop n (bits_of_octets field)) ≡ 8 * length field - n = omega (arith, length-drop n (bits_of_octets field), length-bits_of_octets field) in
    let after : drop n (bits_of_octets field) ≡ replicate (8 * length field - n) false =
    all_false (drop n (bits_of_octets field)) zeros ∙ ap (λ k. replicate k false) gap in
    let whole : bits_of_octets field ≡ bits_of_octets made =
    sym (take-append-drop n (bits_of_octets field)) ∙ ap₂ ◌++◌ first after ∙ sym (bits_of_octets-octets_of (length field) bits enough) in
    let back : octets_of (length field) (bits_of_octets made) ≡ made =
    ap (λ k. octets_of k (bits_of_octets made)) (sym (length-octets_of (length field) bits)) ∙ same_octets made (made_octets (length field) bits) in
    sym (same_octets field fit) ∙ ap (octets_of (length field)) whole ∙ back

pub one_writing : (prefix : PrefixBits) (octets : List ℕ) → All (λ octet. octet < 256) octets → IsPrefixSpelling prefix octets → HasZerosAfter prefix octets
    → octets ≡ prefix_octets prefix
unfolding prefix_octets
one_writing prefix octets each s zeros =
    let n = prefix_length prefix in
    let field = s.field in
    let most : length field ≤ (n + 7) / 8 = s.fewest ((n + 7) / 8) (omega arith) in
    let enough = s.enough in
    let many : length field ≡ (n + 7) / 8 = omega arith in
    let is_field : drop 1 octets ≡ field = ap (drop 1) s.spelled in
    let all : All (λ octet. octet < 256) (n ∷ field) = rw s.spelled at each in
    let fit = are_octets field (All-tail (λ o. o < 256) n field all) in
    let after : All (λ bit. bit ≡ false) (drop n (bits_of_octets field)) = rw is_field at zeros in
    s.spelled ∙ ap (λ (f : List ℕ). n ∷ f) (one_field prefix.bits field fit enough s.first after ∙ ap (λ k. octets_of k prefix.bits) many)
