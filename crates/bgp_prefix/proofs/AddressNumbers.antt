-- An address as a number, as octets and as groups of 16 bits: each tells the others.
use Rattle.std.proofs.Common.{◌≡◌, ℕ, zero, suc, ◌+◌, ◌*◌, ◌/◌, ◌%◌, ◌^◌, ◌<◌, List, [], ◌∷◌, ◌++◌, length, get_or, take, drop, refl, sym, ap, ap₂, ◌∙◌, arith}
use Rattle.std.proofs.lemmas.List.{take_at, drop_at}
use Rattle.std.proofs.lemmas.List.Elements.{All-head, All-tail}
use Rattle.std.proofs.lemmas.Nat.{shr_high}
use Rattle.std.specs.Prelude.{All}
use Rattle.std.specs.Int.{w32, w128, from_be_bytes}
use Rattle.std.specs.Net.Addr.{segments_of, octets_of as octets_of_segments}
use Rattle.byteorder.specs.Endian.{big_bytes, big_number}
use Rattle.byteorder.specs.Numbers.{big_from-cons, big_from-lt, big_number-reads_back, length-bytes_high_first}
use Rattle.byteorder.proofs.Bytes.{pow256}
use Rattle.bgp_prefix.specs.Bits.{bits_of_number, bits_of_octets, number_of_bits}
use Rattle.bgp_prefix.specs.Address.{ipv6_groups}
use Rattle.bgp_prefix.specs.PrefixLaws.{length-bits_of_number}
use Rattle.bgp_prefix.proofs.BitsAndNumbers.{number_of_bits-bits, bits_of_number-add, bits-low, bits_of_octets-big_bytes}
use Rattle.bgp_prefix.proofs.PrintedTexts.{octets_below}

abbrev pub AreOctets : List ℕ → Type 0
AreOctets octets = (k : ℕ) → get_or octets k 0 < 256

-- ---- octets and their number

bits_of_octets-big_number : (octets : List ℕ) → AreOctets octets → bits_of_number (8 * length octets) (big_number (length octets) octets) ≡ bits_of_octets octets
unfolding bits_of_octets
bits_of_octets-big_number [] fit = unfold bits_of_number in refl
bits_of_octets-big_number (octet ∷ octets) fit =
    let n = length octets in
    let eight : 8 * suc n ≡ 8 + 8 * n = omega arith in
    let later = bits_of_octets-big_number octets (λ k. fit (suc k)) in
    let moved = big_from-cons 0 n octet octets in
    let small : big_number n octets < 2 ^ (8 * n) = rw (← pow256 n) (big_from-lt 0 n octets (λ k. fit (suc k))) in
    rw (eight, moved, pow256 n, bits_of_number-add, shr_high octet (8 * n) (big_number n octets) small, bits-low (8 * n) (8 * n) octet (big_number n octets) (omega arith), later) refl

same_octets : (octets also : List ℕ) → AreOctets octets → AreOctets also → length octets ≡ length also → bits_of_octets octets ≡ bits_of_octets also → octets ≡ also
unfolding bits_of_octets
same_octets [] [] fit fit' len same = refl
same_octets [] (o ∷ also) fit fit' len same = absurd (omega arith)
same_octets (o ∷ octets) [] fit fit' len same = absurd (omega arith)
same_octets (o ∷ octets) (p ∷ also) fit fit' len same =
    let front : bits_of_number 8 o ≡ bits_of_number 8 p =
    sym (take_at (bits_of_number 8 o) (bits_of_octets octets) 8 (length-bits_of_number 8 o)) ∙ ap (take 8) same ∙ take_at (bits_of_number 8 p) (bits_of_octets also) 8 (length-bits_of_number 8 p) in
    let back : bits_of_octets octets ≡ bits_of_octets also =
    sym (drop_at (bits_of_number 8 o) (bits_of_octets octets) 8 (length-bits_of_number 8 o)) ∙ ap (drop 8) same ∙ drop_at (bits_of_number 8 p) (bits_of_octets also) 8 (length-bits_of_number 8 p) in
    let numbers : o % 2 ^ 8 ≡ p % 2 ^ 8 = sym (number_of_bits-bits 8 o) ∙ ap number_of_bits front ∙ number_of_bits-bits 8 p in
    let first : o ≡ p = omega (arith, fit 0, fit' 0) in
    ap₂ ◌∷◌ first (same_octets octets also (λ k. fit (suc k)) (λ k. fit' (suc k)) (omega arith) back)

pub big_bytes-big_number : (count : ℕ) (octets : List ℕ) → length octets ≡ count → AreOctets octets → big_bytes count (big_number count octets) ≡ octets
big_bytes-big_number count octets len fit =
    rw (← len)
    (same_octets (big_bytes (length octets) (big_number (length octets) octets)) octets (octets_below (length octets) _) fit (length-bytes_high_first (length octets) _)
    (bits_of_octets-big_bytes (length octets) _ ∙ bits_of_octets-big_number octets fit))

pub from_be_bytes-4 : (octets : List ℕ) → from_be_bytes w32 octets ≡ big_number 4 octets
from_be_bytes-4 octets = omega arith

pub from_be_bytes-16 : (octets : List ℕ) → from_be_bytes w128 octets ≡ big_number 16 octets
from_be_bytes-16 octets = omega arith

pub same_number : (count number also : ℕ) → number < 256 ^ count → also < 256 ^ count → big_bytes count number ≡ big_bytes count also → number ≡ also
same_number count number also fits also_fits same =
    let back = big_number-reads_back count number [] fits in
    let back' = big_number-reads_back count also [] also_fits in
    sym back ∙ ap (λ (octets : List ℕ). big_number count (octets ++ [])) same ∙ back'

-- ---- groups

segments_of-octets : (groups : List ℕ) → segments_of (octets_of_segments groups) ≡ groups
segments_of-octets [] = refl
segments_of-octets (group ∷ groups) =
    let same : group / 256 * 256 + group % 256 ≡ group = omega arith in
    ap₂ ◌∷◌ same (segments_of-octets groups)

octets_of_segments-fit : (groups : List ℕ) → All (λ group. group < 2 ^ 16) groups → AreOctets (octets_of_segments groups)
octets_of_segments-fit [] small k = omega arith
octets_of_segments-fit (group ∷ groups) small k =
    let later = octets_of_segments-fit groups (All-tail (λ g. g < 2 ^ 16) group groups small) in
    let first = All-head (λ g. g < 2 ^ 16) group groups small in
    elim k as (λ j. get_or (group / 256 ∷ group % 256 ∷ octets_of_segments groups) j 0 < 256) [
      | zero ↦ omega arith
      | suc j ↦ elim j as (λ i. get_or (group % 256 ∷ octets_of_segments groups) i 0 < 256) [ zero ↦ omega arith | suc i ↦ later i ]
    ]

length-octets_of_segments : (groups : List ℕ) → length (octets_of_segments groups) ≡ 2 * length groups
length-octets_of_segments [] = omega arith
length-octets_of_segments (group ∷ groups) = omega (arith, length-octets_of_segments groups)

octets-segments_of : (octets : List ℕ) → AreOctets octets → (pairs : ℕ) → length octets ≡ 2 * pairs → octets_of_segments (segments_of octets) ≡ octets
octets-segments_of [] fit pairs even = refl
octets-segments_of (a ∷ []) fit zero even = absurd (omega arith)
octets-segments_of (a ∷ []) fit (suc pairs) even = absurd (omega arith)
octets-segments_of (a ∷ b ∷ octets) fit zero even = absurd (omega arith)
octets-segments_of (a ∷ b ∷ octets) fit (suc pairs) even =
    let high : (a * 256 + b) / 256 ≡ a = omega (arith, fit 1) in
    let low : (a * 256 + b) % 256 ≡ b = omega (arith, fit 1) in
    let later = octets-segments_of octets (λ k. fit (suc (suc k))) pairs (omega arith) in
    rw (high, low, later) refl

-- the number of an IPv6 address has its groups
pub ipv6_groups-bits : (groups : List ℕ) → length groups ≡ 8 → All (λ group. group < 2 ^ 16) groups → ipv6_groups (from_be_bytes w128 (octets_of_segments groups)) ≡ groups
ipv6_groups-bits groups eight small =
    let octets = octets_of_segments groups in
    let sixteen : length octets ≡ 16 = omega (arith, length-octets_of_segments groups) in
    ap segments_of (ap (big_bytes 16) (from_be_bytes-16 octets) ∙ big_bytes-big_number 16 octets sixteen (octets_of_segments-fit groups small)) ∙ segments_of-octets groups

pub ipv6_bits-lt : (groups : List ℕ) → All (λ group. group < 2 ^ 16) groups → from_be_bytes w128 (octets_of_segments groups) < 2 ^ 128
ipv6_bits-lt groups small =
    let below = big_from-lt 0 16 (octets_of_segments groups) (octets_of_segments-fit groups small) in
    omega (arith, from_be_bytes-16 (octets_of_segments groups))

pub same_groups : (number also : ℕ) → number < 2 ^ 128 → also < 2 ^ 128 → ipv6_groups number ≡ ipv6_groups also → number ≡ also
same_groups number also fits also_fits same =
    let back = octets-segments_of (big_bytes 16 number) (octets_below 16 number) 8 refl in
    let back' = octets-segments_of (big_bytes 16 also) (octets_below 16 also) 8 refl in
    same_number 16 number also (omega arith) (omega arith) (sym back ∙ ap octets_of_segments same ∙ back')
