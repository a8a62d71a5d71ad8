-- What the fields of a prefix come to, and what is made of an address or read from octets.
use Rattle.std.proofs.Common.{◌≡◌, ℕ, suc, ◌+◌, ◌-◌, ◌*◌, ◌/◌, ◌<◌, ◌≤◌, List, [], ◌∷◌, ◌++◌, length, take, drop, get_or, refl, sym, ap, ◌∙◌, arith, Result, Ok, Err, one-add, subst}
use Rattle.std.specs.Prelude.{OnOk, OnErr, is_ok, if◌then◌else◌}
use Rattle.std.proofs.lemmas.List.{append-nil, length-take-le, take_at, take-take, take_rest, drop_more}
use Rattle.byteorder.specs.Endian.{big_bytes, big_number}
use Rattle.bgp_prefix.specs.Bits.{bits_of_number, bits_of_octets, number_of_bits, with_zeros, octets_of}
use Rattle.bgp_prefix.specs.Address.{family_of, bit_count, address_bits}
use Rattle.bgp_prefix.specs.Prefix.{PrefixBits, BeginsWithPrefix, prefix_length, prefix_octets, prefix_of, lowest_address}
use Rattle.bgp_prefix.specs.PrefixFields.{kept_bits, IsKept}
use Rattle.bgp_prefix.specs.PrefixLaws.{length-bits_of_number, length-bits_of_octets, length-octets_of, length-kept_bits, bit_count-le}
use Rattle.bgp_prefix.specs.declared.family.Family.{Family}
use Rattle.bgp_prefix.specs.declared.address.Address.{Address}
use Rattle.bgp_prefix.specs.declared.address.Address.TheVariants.{V4, V6}
use Rattle.bgp_prefix.proofs.Masks.{made_kept}
use Rattle.bgp_prefix.proofs.BitsAndNumbers.{bits_of_octets-append, bits_of_octets-big_bytes, big_number-octets_of, take-octets_of, take-bits_of_octets}

-- ---- addresses

-- octets kept, as a number of some of them
kept_number : (family : Family) (count places : ℕ) (octets : List ℕ) → IsKept family count octets → count ≤ 8 * places → places ≤ 16 → big_number places octets ≡ number_of_bits (with_zeros (8 * places) (kept_bits count octets))
kept_number family count places octets kept few within =
    let as_long = length-kept_bits family count octets kept in
    ap (big_number places) kept.zeros ∙ big_number-octets_of places 16 (kept_bits count octets) within (omega arith)

pub address-V4 : (family : Family) (count : ℕ) (octets : List ℕ) → IsKept family count octets → family ≡ Family.V4 → V4 (big_number 4 octets) ≡ lowest_address family (kept_bits count octets)
unfolding lowest_address
address-V4 family count octets kept of_V4 =
    let few : count ≤ 32 = rw of_V4 at kept.is_prefix in
    rw of_V4 (ap V4 (kept_number family count 4 octets kept few (omega arith)))

pub address-V6 : (family : Family) (count : ℕ) (octets : List ℕ) → IsKept family count octets → family ≡ Family.V6 → V6 (big_number 16 octets) ≡ lowest_address family (kept_bits count octets)
unfolding lowest_address
address-V6 family count octets kept of_V6 =
    let few : count ≤ 128 = rw of_V6 at kept.is_prefix in
    rw of_V6 (ap V6 (kept_number family count 16 octets kept few (omega arith)))

-- the lowest address of a prefix
pub ruleset lowest = (address-V4, address-V6)

-- the bits of an address's octets
bits_of_written : (count number : ℕ) (rest : List ℕ) → take (8 * count) (bits_of_octets (big_bytes count number ++ rest)) ≡ bits_of_number (8 * count) number
bits_of_written count number rest =
    rw (bits_of_octets-append, bits_of_octets-big_bytes) (take_at (bits_of_number (8 * count) number) (bits_of_octets rest) (8 * count) (length-bits_of_number (8 * count) number))

pub octets_of_address-V4 : (address : Address) (number : ℕ) (octets rest : List ℕ) → address ≡ V4 number → octets ≡ big_bytes 4 number ++ rest → take (bit_count (family_of address)) (bits_of_octets octets) ≡ address_bits address
unfolding address_bits
octets_of_address-V4 address number octets rest of_V4 made = rw (of_V4, made) (bits_of_written 4 number rest)

pub octets_of_address-V6 : (address : Address) (number : ℕ) (octets rest : List ℕ) → address ≡ V6 number → octets ≡ big_bytes 16 number ++ rest → take (bit_count (family_of address)) (bits_of_octets octets) ≡ address_bits address
unfolding address_bits
octets_of_address-V6 address number octets rest of_V6 made = rw (of_V6, made) (bits_of_written 16 number rest)

-- ---- spellings

-- what is written
pub written : (family : Family) (count : ℕ) (octets : List ℕ) → IsKept family count octets → count ∷ take ((count + 7) / 8) octets ≡ prefix_octets (record { family = family; bits = kept_bits count octets })
unfolding prefix_octets
written family count octets kept =
    let as_long = length-kept_bits family count octets kept in
    let most = bit_count-le family in
    let fits = kept.is_prefix in
    let front : take ((count + 7) / 8) octets ≡ octets_of ((count + 7) / 8) (kept_bits count octets) =
    ap (take ((count + 7) / 8)) kept.zeros ∙ take-octets_of ((count + 7) / 8) 16 (kept_bits count octets) (omega arith) in
    rw (as_long, front) refl

-- how many octets spell a prefix
pub count_of_octets : (prefix : PrefixBits) → length (prefix_octets prefix) ≡ 1 + (prefix_length prefix + 7) / 8
unfolding prefix_octets
count_of_octets prefix = omega (arith, length-octets_of ((prefix_length prefix + 7) / 8) prefix.bits)

-- what an append of them leaves
pub appended : {E : Type 0} (result : Result (Unit {0}) E) (old new : List ℕ) (family : Family) (count places : ℕ) (octets copied : List ℕ) (prefix : PrefixBits) → IsKept family count octets → ◌≡◌ {A = PrefixBits} (record { family = family; bits = kept_bits count octets }) prefix → copied ≡ octets → places ≡ (count + 7) / 8 → new ≡ (if is_ok result then old ++ take (1 + places) (count ∷ (copied ++ [])) else old) → OnOk result (new ≡ old ++ prefix_octets prefix)
appended (Ok value) old new family count places octets copied prefix kept seen copy many items =
    rw (items, one-add, append-nil, copy, many) (ap (λ (back : List ℕ). old ++ back) (written family count octets kept ∙ ap prefix_octets seen))
appended (Err error) old new family count places octets copied prefix kept seen copy many items = tt

-- and how many of them it asks for
pub asked : (family : Family) (count places : ℕ) (octets copied : List ℕ) (prefix : PrefixBits) → IsKept family count octets → ◌≡◌ {A = PrefixBits} (record { family = family; bits = kept_bits count octets }) prefix → copied ≡ octets → places ≡ (count + 7) / 8 → length (take (1 + places) (count ∷ (copied ++ []))) ≡ length (prefix_octets prefix)
asked family count places octets copied prefix kept seen copy many =
    rw (one-add, append-nil, copy, many) (ap length (written family count octets kept ∙ ap prefix_octets seen))

pub refused_for : {E : Type 0} (result : Result (Unit {0}) E) (room count all same : ℕ) → OnErr result (room < count + all) → all ≡ same → OnErr result (room < count + same)
refused_for (Ok value) room count all same full is = tt
refused_for (Err error) room count all same full is = omega arith

pub grown_by : {E : Type 0} (result : Result (Unit {0}) E) (new count all same : ℕ) → new ≡ (if is_ok result then count + all else count) → all ≡ same → OnOk result (new ≡ count + same)
grown_by (Ok value) new count all same len is = omega arith
grown_by (Err error) new count all same len is = tt

-- the first bits of a field need its first octets alone
few_octets : (count places : ℕ) (field : List ℕ) → count ≤ 8 * places → take count (bits_of_octets (take places field)) ≡ take count (bits_of_octets field)
few_octets count places field enough = rw (← take-bits_of_octets) (take-take count (8 * places) (bits_of_octets field) enough)

-- what is read stands there
pub begins : (family : Family) (count : ℕ) (field : List ℕ) → count ≤ bit_count family → (count + 7) / 8 ≤ length field → BeginsWithPrefix family (count ∷ field) (record { family = family; bits = take count (bits_of_octets field) }) (suc ((count + 7) / 8))
begins family count field fits enough =
    let places = (count + 7) / 8 in
    let bits = take count (bits_of_octets field) in
    let as_long : length bits ≡ count = length-take-le count (bits_of_octets field) (omega (arith, length-bits_of_octets field)) in
    let taken = length-take-le places field enough in
    record {
      of_family = refl;
      within = omega arith;
      spelling = record {
        field = take places field;
        is_prefix = omega arith;
        spelled = rw as_long refl;
        enough = omega arith;
        fewest = λ k more. omega arith;
        first = rw as_long (few_octets count places field (omega arith));
      };
    }

-- ---- what is made of an address, and what is read

length-address_bits : (address : Address) → length (address_bits address) ≡ bit_count (family_of address)
unfolding address_bits
length-address_bits (V4 number) = length-bits_of_number 32 number
length-address_bits (V6 number) = length-bits_of_number 128 number

-- the first bits of an address's octets are its own
module _ (address : Address) (count : ℕ) (octets : List ℕ) (fits : count ≤ bit_count (family_of address)) (own : take (bit_count (family_of address)) (bits_of_octets octets) ≡ address_bits address) where
  pub own_bits : take count (bits_of_octets octets) ≡ take count (address_bits address)
  own_bits = sym (take-take count (bit_count (family_of address)) (bits_of_octets octets) fits) ∙ ap (take count) own

  pub length-own_bits : length (take count (bits_of_octets octets)) ≡ count
  length-own_bits = ap length own_bits ∙ length-take-le count (address_bits address) (omega (arith, length-address_bits address))

  -- the prefix of the address
  pub made_prefix : (family : Family) (leading : List ℕ) → family ≡ family_of address → leading ≡ octets_of 16 (take count (bits_of_octets octets)) → ◌≡◌ {A = PrefixBits} (record { family = family; bits = kept_bits count leading }) (prefix_of address count)
  unfolding prefix_of
  made_prefix family leading of_family made =
      let fits' : count ≤ bit_count family = rw of_family fits in
      let bits = made_kept family count (take count (bits_of_octets octets)) leading fits' length-own_bits made ∙ own_bits in
      λ i. record { family = of_family i; bits = bits i }

-- the field after the length
module _ (octets : List ℕ) (count : ℕ) (some : 0 < length octets) (first : count ≡ get_or octets 0 0) where
  pub after_length : take (length octets - 1) (drop 1 octets) ≡ drop 1 octets
  after_length = take_rest octets 1

  split_length : octets ≡ count ∷ drop 1 octets
  split_length = drop_more octets 0 0 some ∙ ap (λ k. k ∷ drop 1 octets) (sym first)

  module _ (family : Family) (places : ℕ) (many : places ≡ (count + 7) / 8) (enough : places ≤ length (take (length octets - 1) (drop 1 octets))) (fits : count ≤ bit_count family) (leading : List ℕ) (made : leading ≡ octets_of 16 (take count (bits_of_octets (take (length octets - 1) (drop 1 octets))))) where
    length-read : length (take count (bits_of_octets (take (length octets - 1) (drop 1 octets)))) ≡ count
    length-read = length-take-le count (bits_of_octets (take (length octets - 1) (drop 1 octets))) (omega (arith, length-bits_of_octets (take (length octets - 1) (drop 1 octets))))

    pub read_begins : BeginsWithPrefix family octets (record { family = family; bits = kept_bits count leading }) (1 + places)
    read_begins =
        let bits : kept_bits count leading ≡ take count (bits_of_octets (drop 1 octets)) =
        made_kept family count _ leading fits length-read made ∙ ap (λ (field : List ℕ). take count (bits_of_octets field)) after_length in
        let room : (count + 7) / 8 ≤ length (drop 1 octets) = rw (← after_length, ← many) enough in
        rw (bits, one-add, many) (subst (λ (all : List ℕ). BeginsWithPrefix family all (record { family = family; bits = take count (bits_of_octets (drop 1 octets)) }) (suc ((count + 7) / 8))) (sym split_length) (begins family count (drop 1 octets) fits room))
