-- The octets that hold the first bits of others: whole ones, one under a mask, and zeros.
use Rattle.std.proofs.Common.{◌≡◌, ◌≢◌, ℕ, zero, suc, ◌+◌, ◌-◌, ◌*◌, ◌/◌, ◌%◌, ◌^◌, ◌<◌, ◌≤◌, Bool, List, [], ◌∷◌, ◌++◌, length, take, drop, replicate, get_or, set, bit_and, refl, sym, ap, ap₂, ◌∙◌, arith, inl, inr}
use Rattle.std.proofs.lemmas.Bool.{cases_eq}
use Rattle.std.proofs.Math.ListN.{get_or-append}
use Rattle.std.proofs.lemmas.List.{append-nil, length-append, length-drop, length-take, length-take-le, nil_from_length, take_at, drop_at, take_all, drop_all, take-append-le, drop-replicate, set_at, drop_more, get_or-take, get_or-append_right, get_or-replicate, get_or-set_same, get_or-set_other}
use Rattle.std.proofs.lemmas.Nat.Bits.{ones_shl, and_high}
use Rattle.bgp_prefix.specs.Bits.{bits_of_number, bits_of_octets, number_of_bits, with_zeros, octets_of}
use Rattle.bgp_prefix.specs.Address.{bit_count}
use Rattle.bgp_prefix.specs.PrefixFields.{kept_bits, IsKept}
use Rattle.bgp_prefix.specs.PrefixLaws.{length-bits_of_octets, length-bits_of_number, bit_count-le}
use Rattle.bgp_prefix.specs.declared.family.Family.{Family}
use Rattle.bgp_prefix.proofs.BitsAndNumbers.{number_of_bits-bits, number_of_bits-first_bits, bits_of_octets-octets_of, take_front}

-- ---- what is kept

pub bits_kept : (count : ℕ) (bits : List Bool) → length bits ≡ count → count ≤ 128 → take count (bits_of_octets (octets_of 16 bits)) ≡ bits
unfolding with_zeros
bits_kept count bits same fits = rw (bits_of_octets-octets_of 16 bits (omega arith)) (take_at bits _ count same)

-- octets made of so many bits are those that a prefix keeps
pub made_kept : (family : Family) (count : ℕ) (bits : List Bool) (octets : List ℕ) → count ≤ bit_count family → length bits ≡ count → octets ≡ octets_of 16 bits → kept_bits count octets ≡ bits
made_kept family count bits octets fits same made = rw made (bits_kept count bits same (omega (arith, bit_count-le family)))

pub is_kept : (family : Family) (count : ℕ) (bits : List Bool) (octets : List ℕ) → count ≤ bit_count family → length bits ≡ count → octets ≡ octets_of 16 bits → IsKept family count octets
is_kept family count bits octets fits same made =
    record { is_prefix = fits; zeros = rw (made_kept family count bits octets fits same made) made }

-- ---- how it is made

one_octet : (octet : ℕ) → octet < 256 → number_of_bits (with_zeros 8 (bits_of_number 8 octet)) ≡ octet
unfolding with_zeros
one_octet octet fits =
    let none : 8 - length (bits_of_number 8 octet) ≡ 0 = omega (arith, length-bits_of_number 8 octet) in
    rw (none, append-nil, number_of_bits-bits) (omega arith)

no_number : number_of_bits (with_zeros 8 []) ≡ 0
unfolding number_of_bits with_zeros
no_number = refl

none_left : (count : ℕ) → octets_of count [] ≡ replicate count 0
unfolding octets_of
none_left zero = refl
none_left (suc count) = ap₂ ◌∷◌ no_number (none_left count)

-- whole octets stand as they are
pub whole_octets : (whole part most : ℕ) (octets : List ℕ) → ((k : ℕ) → get_or octets k 0 < 256) → whole ≤ length octets → octets_of (whole + most) (take (8 * whole + part) (bits_of_octets octets)) ≡ take whole octets ++ octets_of most (take part (bits_of_octets (drop whole octets)))
unfolding octets_of bits_of_octets
whole_octets zero part most octets fit within =
    let none : 8 * 0 + part ≡ part = omega arith in
    let same : 0 + most ≡ most = omega arith in
    rw (none, same) refl
whole_octets (suc whole) part most [] fit within = absurd (omega arith)
whole_octets (suc whole) part most (octet ∷ octets) fit within =
    let later = whole_octets whole part most octets (λ k. fit (suc k)) (omega arith) in
    let eight : 8 * suc whole + part ≡ 8 + (8 * whole + part) = omega arith in
    let one : suc whole + most ≡ suc (whole + most) = omega arith in
    let rest = take (8 * whole + part) (bits_of_octets octets) in
    let bits = bits_of_number 8 octet in
    let first : take 8 (bits ++ rest) ≡ bits = take_at bits rest 8 (length-bits_of_number 8 octet) in
    let others : drop 8 (bits ++ rest) ≡ rest = drop_at bits rest 8 (length-bits_of_number 8 octet) in
    rw (eight, one, take_front octet (bits_of_octets octets) (8 * whole + part), first, others, one_octet octet (fit 0), later) refl

-- an octet under a mask, and zeros
masked_octet : (part most octet : ℕ) (octets : List ℕ) → part ≤ 8 → octets_of (suc most) (take part (bits_of_octets (octet ∷ octets))) ≡ bit_and octet (255 * 2 ^ (8 - part) % 256) ∷ replicate most 0
unfolding octets_of bits_of_octets
masked_octet part most octet octets fits =
    let bits = bits_of_number 8 octet in
    let eight = length-bits_of_number 8 octet in
    let front : take part (bits ++ bits_of_octets octets) ≡ take part bits = take-append-le part bits (bits_of_octets octets) (omega arith) in
    let few = length-take part bits in
    let first : take 8 (take part bits) ≡ take part bits = take_all 8 (take part bits) (omega arith) in
    let others : drop 8 (take part bits) ≡ [] = drop_all 8 (take part bits) (omega arith) in
    let sum : part + (8 - part) ≡ 8 = omega arith in
    let made : number_of_bits (with_zeros 8 (take part bits)) ≡ (octet / 2 ^ (8 - part) % 2 ^ part) * 2 ^ (8 - part) =
    ap (λ k. number_of_bits (with_zeros k (take part (bits_of_number k octet)))) (sym sum) ∙ number_of_bits-first_bits part (8 - part) octet in
    let mask : 255 * 2 ^ (8 - part) % 256 ≡ 2 ^ 8 - 2 ^ (8 - part) = ones_shl 8 (8 - part) (omega arith) in
    let masked : bit_and octet (2 ^ 8 - 2 ^ (8 - part)) ≡ (octet / 2 ^ (8 - part) % 2 ^ part) * 2 ^ (8 - part) =
    ap (λ k. bit_and octet (2 ^ k - 2 ^ (8 - part))) (sym sum) ∙ and_high octet part (8 - part) in
    rw (front, first, others, made, none_left most, mask, masked) refl

-- what is filled in after the whole octets
filled : (whole value : ℕ) (front : List ℕ) → length front ≡ whole → whole ≤ 15 → set (front ++ drop whole (replicate 16 0)) whole value ≡ front ++ (value ∷ replicate (15 - whole) 0)
filled whole value front same fits =
    let left : 16 - whole ≡ suc (15 - whole) = omega arith in
    rw (drop-replicate, left) (set_at front 0 (replicate (15 - whole) 0) value whole same)

pub leading_masked : (octets : List ℕ) (count whole : ℕ) → ((k : ℕ) → get_or octets k 0 < 256) → whole ≡ count / 8 → count % 8 ≢ 0 → count ≤ 8 * length octets → count ≤ 128 → set (take whole octets ++ drop whole (replicate 16 0)) whole (bit_and (get_or octets whole 0) (255 * 2 ^ (8 - count % 8) % 256)) ≡ octets_of 16 (take count (bits_of_octets octets))
leading_masked octets count whole fit is_whole part enough fits =
    let front = length-take-le whole octets (omega arith) in
    let sum : count ≡ 8 * whole + count % 8 = omega arith in
    let most : 16 ≡ whole + suc (15 - whole) = omega arith in
    let next : drop whole octets ≡ get_or octets whole 0 ∷ drop (whole + 1) octets = drop_more octets whole 0 (omega arith) in
    let masked = masked_octet (count % 8) (15 - whole) (get_or octets whole 0) (drop (whole + 1) octets) (omega arith) in
    filled whole _ (take whole octets) front (omega arith)
    ∙ ap (λ (back : List ℕ). take whole octets ++ back) (sym masked ∙ ap (λ (back : List ℕ). octets_of (suc (15 - whole)) (take (count % 8) (bits_of_octets back))) (sym next))
    ∙ sym (whole_octets whole (count % 8) (suc (15 - whole)) octets fit (omega arith))
    ∙ ap (λ k. octets_of k (take (8 * whole + count % 8) (bits_of_octets octets))) (sym most)
    ∙ ap (λ k. octets_of 16 (take k (bits_of_octets octets))) (sym sum)

pub leading_whole : (octets : List ℕ) (count whole : ℕ) → ((k : ℕ) → get_or octets k 0 < 256) → whole ≡ count / 8 → count % 8 ≡ 0 → count ≤ 8 * length octets → count ≤ 128 → take whole octets ++ drop whole (replicate 16 0) ≡ octets_of 16 (take count (bits_of_octets octets))
leading_whole octets count whole fit is_whole part enough fits =
    let sum : count ≡ 8 * whole + 0 = omega arith in
    let most : 16 ≡ whole + (16 - whole) = omega arith in
    ap (λ (back : List ℕ). take whole octets ++ back) (drop-replicate whole 16 0 ∙ sym (none_left (16 - whole)))
    ∙ sym (whole_octets whole 0 (16 - whole) octets fit (omega arith))
    ∙ ap (λ k. octets_of k (take (8 * whole + 0) (bits_of_octets octets))) (sym most)
    ∙ ap (λ k. octets_of 16 (take k (bits_of_octets octets))) (sym sum)

-- the first bits of octets are kept so by each family whose addresses have so many
pub leading_kept : (octets : List ℕ) (count : ℕ) (leading : List ℕ) → count ≤ 8 * length octets → leading ≡ octets_of 16 (take count (bits_of_octets octets)) → (family : Family) → count ≤ bit_count family → IsKept family count leading
leading_kept octets count leading enough made family fits =
    is_kept family count (take count (bits_of_octets octets)) leading fits (length-take-le count (bits_of_octets octets) (omega (arith, length-bits_of_octets octets))) made

-- ---- one of the octets

zero_after : (octets : List ℕ) (whole place : ℕ) → whole ≤ length octets → whole ≤ place → place < 16 → get_or (take whole octets ++ drop whole (replicate 16 0)) place 0 ≡ 0
zero_after octets whole place within after inside =
    let front = length-take-le whole octets within in
    let back : place - whole < 16 - whole = omega arith in
    get_or-append_right (take whole octets) (drop whole (replicate 16 0)) whole place 0 front after
    ∙ ap (λ (zeros : List ℕ). get_or zeros (place - whole) 0) (drop-replicate whole 16 0)
    ∙ get_or-replicate (16 - whole) (place - whole) 0 0 back

pub whole_at : (octets : List ℕ) (count whole place : ℕ) → ((k : ℕ) → get_or octets k 0 < 256) → whole ≡ count / 8 → place < whole → count ≤ 8 * length octets → count ≤ 128 → get_or octets place 0 ≡ get_or (octets_of 16 (take count (bits_of_octets octets))) place 0
whole_at octets count whole place fit is_whole before enough fits =
    let sum : count ≡ 8 * whole + count % 8 = omega arith in
    let most : 16 ≡ whole + (16 - whole) = omega arith in
    let front = length-take-le whole octets (omega arith) in
    let back = octets_of (16 - whole) (take (count % 8) (bits_of_octets (drop whole octets))) in
    sym (get_or-take whole octets place 0 before)
    ∙ sym (get_or-append (take whole octets) back 0 place (omega arith))
    ∙ ap (λ (made : List ℕ). get_or made place 0) (
    sym (whole_octets whole (count % 8) (16 - whole) octets fit (omega arith))
    ∙ ap (λ k. octets_of k (take (8 * whole + count % 8) (bits_of_octets octets))) (sym most)
    ∙ ap (λ k. octets_of 16 (take k (bits_of_octets octets))) (sym sum)
    )

pub part_at : (octets : List ℕ) (count whole place : ℕ) → ((k : ℕ) → get_or octets k 0 < 256) → whole ≡ count / 8 → place ≡ whole → count % 8 ≢ 0 → count ≤ 8 * length octets → count ≤ 128 → bit_and (get_or octets whole 0) (255 * 2 ^ (8 - count % 8) % 256) ≡ get_or (octets_of 16 (take count (bits_of_octets octets))) place 0
part_at octets count whole place fit is_whole here part enough fits =
    let value = bit_and (get_or octets whole 0) (255 * 2 ^ (8 - count % 8) % 256) in
    let plain = take whole octets ++ drop whole (replicate 16 0) in
    let front = length-take-le whole octets (omega arith) in
    let all : length plain ≡ 16 = length-append (take whole octets) (drop whole (replicate 16 0)) ∙ ap₂ ◌+◌ front (length-drop whole (replicate 16 0)) ∙ omega arith in
    sym (get_or-set_same plain whole value 0 (omega arith))
    ∙ ap (λ k. get_or (set plain whole value) k 0) (sym here)
    ∙ ap (λ (made : List ℕ). get_or made place 0) (leading_masked octets count whole fit is_whole part enough fits)

pub zero_at : (octets : List ℕ) (count whole place : ℕ) → ((k : ℕ) → get_or octets k 0 < 256) → whole ≡ count / 8 → whole < place → place < 16 → count ≤ 8 * length octets → count ≤ 128 → 0 ≡ get_or (octets_of 16 (take count (bits_of_octets octets))) place 0
zero_at octets count whole place fit is_whole after inside enough fits =
    let none = zero_after octets whole place (omega arith) (omega arith) inside in
    elim (cases_eq (count % 8) 0) [
      | inl even ↦ sym none ∙ ap (λ (made : List ℕ). get_or made place 0) (leading_whole octets count whole fit is_whole even enough fits)
      | inr part ↦
          let other : place ≢ whole = omega arith in
          sym none
          ∙ sym (get_or-set_other (take whole octets ++ drop whole (replicate 16 0)) whole place _ 0 other)
          ∙ ap (λ (made : List ℕ). get_or made place 0) (leading_masked octets count whole fit is_whole part enough fits)
    ]

pub no_part_at : (octets : List ℕ) (count whole place : ℕ) → ((k : ℕ) → get_or octets k 0 < 256) → whole ≡ count / 8 → whole ≤ place → place < 16 → count % 8 ≡ 0 → count ≤ 8 * length octets → count ≤ 128 → 0 ≡ get_or (octets_of 16 (take count (bits_of_octets octets))) place 0
no_part_at octets count whole place fit is_whole after inside even enough fits =
    sym (zero_after octets whole place (omega arith) after inside)
    ∙ ap (λ (made : List ℕ). get_or made place 0) (leading_whole octets count whole fit is_whole even enough fits)

pub ruleset leading_at = (whole_at, part_at, zero_at, no_part_at)

-- at most four of them aren't zeros
pub few_leading : (bits : List Bool) (a b c d : ℕ) → length bits ≤ 32
    → a ≡ get_or (octets_of 16 bits) 0 0 → b ≡ get_or (octets_of 16 bits) 1 0 → c ≡ get_or (octets_of 16 bits) 2 0 → d ≡ get_or (octets_of 16 bits) 3 0
    → a ∷ b ∷ c ∷ d ∷ replicate 12 0 ≡ octets_of 16 bits
unfolding octets_of
few_leading bits a b c d few first second third fourth =
    let rest = drop 8 (drop 8 (drop 8 (drop 8 bits))) in
    let none : rest ≡ [] = nil_from_length rest (omega (arith, length-drop 8 bits, length-drop 8 (drop 8 bits), length-drop 8 (drop 8 (drop 8 bits)), length-drop 8 (drop 8 (drop 8 (drop 8 bits))))) in
    let zeros : replicate 12 0 ≡ octets_of 12 rest = sym (none_left 12) ∙ ap (octets_of 12) (sym none) in
    ap₂ ◌∷◌ first (ap₂ ◌∷◌ second (ap₂ ◌∷◌ third (ap₂ ◌∷◌ fourth zeros)))

-- what stands of the first bits of octets
pub ruleset leading = (leading_kept, leading_masked, leading_whole)
