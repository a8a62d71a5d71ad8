-- Bits as numbers and back, of a number alone and of the octets that spell it.
use Rattle.std.proofs.Common.{◌≡◌, ℕ, zero, suc, ◌+◌, ◌-◌, ◌*◌, ◌/◌, ◌%◌, ◌^◌, ◌<◌, ◌≤◌, ◌==◌, Bool, true, false, List, [], ◌∷◌, ◌++◌, length, take, drop, replicate, refl, sym, ap, ap₂, ◌∙◌, arith, cond, inl, inr, eq-eqb, ne_eqb, one-add}
use Rattle.std.proofs.lemmas.Bool.{cases_lt, cases_eq}
use Rattle.std.proofs.lemmas.Nat.{pow-add, shr-shr, mod-pow-add, shr_high, shr_split}
use Rattle.std.proofs.lemmas.Nat.Bits.{bit_at-lt, bit_at_cat_low}
use Rattle.std.proofs.lemmas.List.{append-nil, length-append, length-replicate, append_assoc, take_at, take_all, drop_all, take-append-drop, length-take, length-take-le, length-drop, nil_from_length, replicate-append-replicate}
use Rattle.std.proofs.lemmas.List.Concat.{flat_map-append}
use Rattle.std.proofs.Math.Seq.{take-append-add}
use Rattle.std.proofs.Math.Nat.{pow-suc, div-one}
use Rattle.std.specs.Int.{bit_at, byte_at}
use Rattle.byteorder.specs.Endian.{big_bytes, big_number}
use Rattle.byteorder.specs.Numbers.{big_from-cons}
use Rattle.byteorder.proofs.Bytes.{pow256}
use Rattle.bgp_prefix.specs.PrefixLaws.{length-bits_of_number}
use Rattle.bgp_prefix.specs.Bits.{bits_of_number, bits_of_octets, number_of_bits, with_zeros, octets_of}

-- ---- how many there are

pub length-with_zeros : (count : ℕ) (bits : List Bool) → length bits ≤ count → length (with_zeros count bits) ≡ count
unfolding with_zeros
length-with_zeros count bits fits = simp (length-append, length-replicate) (omega arith)

-- ---- a number from its bits

-- what a bit is worth
bit_worth : (number place worth : ℕ) → cond (bit_at number place == 1) worth 0 ≡ bit_at number place * worth
bit_worth number place worth =
    let low = bit_at-lt number place in
    elim (cases_eq (bit_at number place) 1) [
      | inl one ↦ rw (eq-eqb _ _ one, one) (omega arith)
      | inr other ↦ let none : bit_at number place ≡ 0 = omega arith in rw (ne_eqb _ _ other, none) (omega arith)
    ]

pub number_of_bits-bits : (count number : ℕ) → number_of_bits (bits_of_number count number) ≡ number % 2 ^ count
unfolding bits_of_number number_of_bits
number_of_bits-bits zero number = omega arith
number_of_bits-bits (suc count) number =
    let top : number % 2 ^ suc count ≡ bit_at number count * 2 ^ count + number % 2 ^ count = rw one-add at (mod-pow-add number 1 count) in
    rw (length-bits_of_number count number, bit_worth number count (2 ^ count), number_of_bits-bits count number) (sym top)

-- a number of so many bits is below the power
pub number_of_bits-lt : (bits : List Bool) → number_of_bits bits < 2 ^ length bits
unfolding number_of_bits
number_of_bits-lt [] = omega arith
number_of_bits-lt (true ∷ bits) = let later = number_of_bits-lt bits in rw pow-suc (omega arith)
number_of_bits-lt (false ∷ bits) = let later = number_of_bits-lt bits in rw pow-suc (omega arith)

-- ---- bits from a number

-- only the low bits of the number count
pub bits-low : (count places high low : ℕ) → count ≤ places → bits_of_number count (high * 2 ^ places + low) ≡ bits_of_number count low
unfolding bits_of_number
bits-low zero places high low within = refl
bits-low (suc count) places high low within =
    rw (bit_at_cat_low high places low count (omega arith), bits-low count places high low (omega arith)) refl

-- one more bit on top
bits-top : (high places low : ℕ) → low < 2 ^ places → bits_of_number (suc places) (high * 2 ^ places + low) ≡ (high % 2 == 1) ∷ bits_of_number places low
unfolding bits_of_number
bits-top high places low fits =
    rw (shr_high high places low fits, bits-low places places high low (omega arith)) refl

pub bits-number_of_bits : (bits : List Bool) → bits_of_number (length bits) (number_of_bits bits) ≡ bits
unfolding number_of_bits
bits-number_of_bits [] = unfold bits_of_number in refl
bits-number_of_bits (true ∷ bits) =
    let sum : 2 ^ length bits + number_of_bits bits ≡ 1 * 2 ^ length bits + number_of_bits bits = omega arith in
    rw (sum, bits-top 1 (length bits) (number_of_bits bits) (number_of_bits-lt bits), bits-number_of_bits bits) refl
bits-number_of_bits (false ∷ bits) =
    let sum : 0 + number_of_bits bits ≡ 0 * 2 ^ length bits + number_of_bits bits = omega arith in
    rw (sum, bits-top 0 (length bits) (number_of_bits bits) (number_of_bits-lt bits), bits-number_of_bits bits) refl

-- bits by their number
pub same_bits : (bits also : List Bool) → length bits ≡ length also → number_of_bits bits ≡ number_of_bits also → bits ≡ also
same_bits bits also as_many same =
    sym (bits-number_of_bits bits) ∙ ap₂ bits_of_number as_many same ∙ bits-number_of_bits also

-- and by that of the bits and then zeros
pub same_with_zeros : (count : ℕ) (bits also : List Bool) → length bits ≡ length also → number_of_bits (with_zeros count bits) ≡ number_of_bits (with_zeros count also) → bits ≡ also
unfolding with_zeros
same_with_zeros count bits also as_many same =
    let as_long = length-append bits (replicate (count - length bits) false) in
    let also_long = length-append also (replicate (count - length also) false) in
    let zeros = length-replicate (count - length bits) false in
    let also_zeros = length-replicate (count - length also) false in
    let whole = same_bits (bits ++ replicate (count - length bits) false) (also ++ replicate (count - length also) false) (omega arith) same in
    sym (take_at bits _ (length bits) refl) ∙ ap (take (length bits)) whole ∙ take_at also _ (length bits) (sym as_many)

-- ---- numbers side by side

pub number_of_bits-append : (front back : List Bool) → number_of_bits (front ++ back) ≡ number_of_bits front * 2 ^ length back + number_of_bits back
unfolding number_of_bits
number_of_bits-append [] back = omega arith
number_of_bits-append (true ∷ front) back =
    let later = number_of_bits-append front back in
    let powers = pow-add 2 (length front) (length back) in
    rw (length-append front back, later, powers) (omega arith)
number_of_bits-append (false ∷ front) back = let later = number_of_bits-append front back in rw later (omega arith)

pub number_of_bits-zeros : (count : ℕ) → number_of_bits (replicate count false) ≡ 0
unfolding number_of_bits
number_of_bits-zeros zero = refl
number_of_bits-zeros (suc count) = rw (number_of_bits-zeros count) refl

pub bits_of_number-add : (count places number : ℕ) → bits_of_number (count + places) number ≡ bits_of_number count (number / 2 ^ places) ++ bits_of_number places number
unfolding bits_of_number
bits_of_number-add zero places number = let none : 0 + places ≡ places = omega arith in rw none refl
bits_of_number-add (suc count) places number =
    let more : suc count + places ≡ suc (count + places) = omega arith in
    let turned : count + places ≡ places + count = omega arith in
    let place : bit_at number (count + places) ≡ bit_at (number / 2 ^ places) count =
    ap (λ k. number / 2 ^ k % 2) turned ∙ ap (λ q. q % 2) (sym (shr-shr number places count)) in
    rw (more, place, bits_of_number-add count places number) refl

-- the first bits of a number are those of its quotient
take-bits_of_number : (count rest number : ℕ) → take count (bits_of_number (count + rest) number) ≡ bits_of_number count (number / 2 ^ rest)
take-bits_of_number count rest number =
    rw bits_of_number-add (take_at (bits_of_number count (number / 2 ^ rest)) _ count (length-bits_of_number count _))

-- clearing all but the first bits
pub number_of_bits-first_bits : (count rest number : ℕ) → number_of_bits (with_zeros (count + rest) (take count (bits_of_number (count + rest) number))) ≡ (number / 2 ^ rest % 2 ^ count) * 2 ^ rest
unfolding with_zeros
number_of_bits-first_bits count rest number =
    let gap : count + rest - length (bits_of_number count (number / 2 ^ rest)) ≡ rest = omega (arith, length-bits_of_number count (number / 2 ^ rest)) in
    rw (take-bits_of_number, gap, number_of_bits-append, number_of_bits-zeros, length-replicate, number_of_bits-bits) (omega arith)

-- ---- octets

less_none : (count : ℕ) → count - 0 ≡ count
less_none count = omega arith

-- bits and then zeros, eight bits after the other
with_zeros-eight : (count : ℕ) (bits : List Bool) → with_zeros (8 + count) bits ≡ with_zeros 8 (take 8 bits) ++ with_zeros count (drop 8 bits)
unfolding with_zeros
with_zeros-eight count bits = elim (cases_lt (length bits) 8) [
  | inl less ↦
      let front : take 8 bits ≡ bits = take_all 8 bits (omega arith) in
      let back : drop 8 bits ≡ [] = drop_all 8 bits (omega arith) in
      let gap : 8 + count - length bits ≡ 8 - length bits + count = omega arith in
      rw (front, back, gap, ← replicate-append-replicate, less_none count) (sym (append_assoc bits _ _))
  | inr more ↦
      let front : 8 - length (take 8 bits) ≡ 0 = omega (arith, length-take-le 8 bits more) in
      let gap : 8 + count - length bits ≡ count - length (drop 8 bits) = omega (arith, length-drop 8 bits) in
      rw (front, gap, append-nil, ← append_assoc) (ap (λ (all : List Bool). all ++ replicate (count - length (drop 8 bits)) false) (sym (take-append-drop 8 bits)))
]

eight_and : (count : ℕ) → 8 * suc count ≡ 8 + 8 * count
eight_and count = omega arith

no_zeros : with_zeros (8 * 0) [] ≡ []
unfolding with_zeros
no_zeros = refl

no_number : 0 ≡ number_of_bits (with_zeros (8 * 0) [])
unfolding with_zeros number_of_bits
no_number = refl

-- the bits of octets made of bits
pub bits_of_octets-octets_of : (count : ℕ) (bits : List Bool) → length bits ≤ 8 * count → bits_of_octets (octets_of count bits) ≡ with_zeros (8 * count) bits
unfolding bits_of_octets octets_of
bits_of_octets-octets_of zero bits fits = let none : bits ≡ [] = nil_from_length bits (omega arith) in rw none (sym no_zeros)
bits_of_octets-octets_of (suc count) bits fits =
    let first = length-with_zeros 8 (take 8 bits) (omega (arith, length-take 8 bits)) in
    let later = bits_of_octets-octets_of count (drop 8 bits) (omega (arith, length-drop 8 bits)) in
    let eight : bits_of_number 8 (number_of_bits (with_zeros 8 (take 8 bits))) ≡ with_zeros 8 (take 8 bits) =
    ap (λ k. bits_of_number k (number_of_bits (with_zeros 8 (take 8 bits)))) (sym first) ∙ bits-number_of_bits (with_zeros 8 (take 8 bits)) in
    rw (eight_and count, with_zeros-eight, eight, later) refl

-- an octet of a number, by the bits below it
bits_of_byte : (place number : ℕ) → bits_of_number 8 (byte_at place number) ≡ bits_of_number 8 (number / 2 ^ (8 * place))
bits_of_byte place number =
    let quotient = number / 2 ^ (8 * place) in
    let byte : byte_at place number ≡ quotient % 2 ^ 8 = byte_at_quotient place number in
    rw byte (sym (bits-low 8 8 (quotient / 2 ^ 8) (quotient % 2 ^ 8) (omega arith)) ∙ ap (bits_of_number 8) (shr_split quotient 8))
  where
    byte_at_quotient : (place number : ℕ) → byte_at place number ≡ number / 2 ^ (8 * place) % 2 ^ 8
    byte_at_quotient zero number = ap (λ q. q % 256) (sym (div-one number))
    byte_at_quotient (suc place) number = ap (λ power. number / power % 256) (pow256 (suc place))

-- octets are the bits of their number
pub bits_of_octets-big_bytes : (count number : ℕ) → bits_of_octets (big_bytes count number) ≡ bits_of_number (8 * count) number
unfolding bits_of_octets
bits_of_octets-big_bytes zero number = unfold bits_of_number in refl
bits_of_octets-big_bytes (suc count) number =
    rw (eight_and count, bits_of_number-add, ← bits_of_octets-big_bytes count number, bits_of_byte) refl

-- the number that octets made of bits spell
pub big_number-octets_of : (count most : ℕ) (bits : List Bool) → count ≤ most → length bits ≤ 8 * count → big_number count (octets_of most bits) ≡ number_of_bits (with_zeros (8 * count) bits)
unfolding octets_of
big_number-octets_of zero most bits within fits =
    let none : bits ≡ [] = nil_from_length bits (omega arith) in
    rw none no_number
big_number-octets_of (suc count) zero bits within fits = absurd (omega arith)
big_number-octets_of (suc count) (suc most) bits within fits =
    let back = drop 8 bits in
    let short = length-drop 8 bits in
    let later = big_number-octets_of count most back (omega arith) (omega arith) in
    let moved = big_from-cons 0 count (number_of_bits (with_zeros 8 (take 8 bits))) (octets_of most back) in
    rw (eight_and count, with_zeros-eight, number_of_bits-append, length-with_zeros (8 * count) back (omega arith), ← pow256 count, moved, later) refl

-- the bits of one octet, and then of those after it
pub take_front : (octet : ℕ) (bits : List Bool) (count : ℕ) → take (8 + count) (bits_of_number 8 octet ++ bits) ≡ bits_of_number 8 octet ++ take count bits
take_front octet bits count = ap (λ k. take (k + count) (bits_of_number 8 octet ++ bits)) (sym (length-bits_of_number 8 octet)) ∙ take-append-add (bits_of_number 8 octet) bits count

-- the first octets have the first bits
pub take-bits_of_octets : (count : ℕ) (octets : List ℕ) → take (8 * count) (bits_of_octets octets) ≡ bits_of_octets (take count octets)
unfolding bits_of_octets
take-bits_of_octets zero octets = refl
take-bits_of_octets (suc count) [] = take_all (8 * suc count) [] (omega arith)
take-bits_of_octets (suc count) (octet ∷ octets) =
    let later = take-bits_of_octets count octets in
    rw eight_and (take_front octet (bits_of_octets octets) (8 * count) ∙ ap (λ (bits : List Bool). bits_of_number 8 octet ++ bits) later)

-- the bits of octets side by side
pub bits_of_octets-append : (front back : List ℕ) → bits_of_octets (front ++ back) ≡ bits_of_octets front ++ bits_of_octets back
unfolding bits_of_octets
bits_of_octets-append front back = flat_map-append (bits_of_number 8) front back

-- the first octets made of bits
pub take-octets_of : (count most : ℕ) (bits : List Bool) → count ≤ most → take count (octets_of most bits) ≡ octets_of count bits
unfolding octets_of
take-octets_of zero most bits within = refl
take-octets_of (suc count) zero bits within = absurd (omega arith)
take-octets_of (suc count) (suc most) bits within =
    ap (λ (octets : List ℕ). number_of_bits (with_zeros 8 (take 8 bits)) ∷ octets) (take-octets_of count most (drop 8 bits) (omega arith))
