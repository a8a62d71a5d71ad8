-- The text that is printed of an address or a prefix is read as it.
use Rattle.std.proofs.Common.{◌≡◌, ℕ, suc, false, append_assoc, ◌+◌, ◌-◌, ◌^◌, ◌<◌, ◌≤◌, Bool, List, [], ◌∷◌, ◌++◌, length, take, drop, replicate, map, refl, sym, ap, ◌∙◌, arith, inl, inr, Option, Some, None, take-append-drop, take-add, length-take-le, length-drop}
use Rattle.std.proofs.lemmas.List.{take_at}
use Rattle.std.proofs.lemmas.Fmt.{digits_is_IsNumeral}
use Rattle.std.specs.List.{AllZip}
use Rattle.std.specs.Net.Text.{hex}
use Rattle.std.proofs.NetLemmas.Texts.{AllSegments, AllSegments-take, AllSegments-drop}
use Rattle.bgp_prefix.specs.Bits.{bits_of_number, number_of_bits, with_zeros}
use Rattle.bgp_prefix.specs.Address.{IsAddress, ipv6_groups, family_of, bit_count, address_bits}
use Rattle.bgp_prefix.specs.Prefix.{PrefixBits, prefix_length, IsPrefix, prefix_of, lowest_address, address_of}
use Rattle.bgp_prefix.specs.Text.{group_text, colon_text, longest_zeros, shortened_text, address_text, prefix_text}
use Rattle.bgp_prefix.specs.ZeroRun.{IsShortenedRun}
use Rattle.bgp_prefix.specs.Notation.{IsGroupText, AreGroups, IsIpv6Text, IsAddressText, IsPrefixText}
use Rattle.bgp_prefix.specs.declared.family.Family.{Family}
use Rattle.bgp_prefix.specs.declared.address.Address.{Address}
use Rattle.bgp_prefix.specs.declared.address.Address.TheVariants.{V4, V6}
use Rattle.bgp_prefix.proofs.BitsAndNumbers.{length-with_zeros, number_of_bits-lt, bits-number_of_bits}
use Rattle.bgp_prefix.proofs.PrintedTexts.{group_text-hex, longest_zeros_first, ipv6_groups-fit}

-- ---- groups

length-hex : (group : ℕ) → length (hex group) ≤ 4
unfolding hex
length-hex group = omega (arith, length-drop {A = ℕ})

group_is_read : (group : ℕ) → group < 2 ^ 16 → IsGroupText (group_text group) group
unfolding group_text
group_is_read group fits =
    let (numeral, value) = digits_is_IsNumeral 16 false (omega arith) (omega arith) group (omega arith) in
    (numeral, omega (arith, ap length (group_text-hex group fits), length-hex group), value)

group_texts : (groups : List ℕ) → AllSegments groups → AllZip IsGroupText (map group_text groups) groups
group_texts [] fit = tt
group_texts (group ∷ groups) fit = (group_is_read group (fit 0), group_texts groups (λ k. fit (suc k)))

groups_read : (groups : List ℕ) → AllSegments groups → AreGroups (colon_text groups) groups
unfolding colon_text
groups_read groups fit = (map group_text groups, refl, group_texts groups fit)

shortened_read : (groups : List ℕ) → length groups ≡ 8 → AllSegments groups → (run : Option (ℕ × ℕ)) → IsShortenedRun groups run → IsIpv6Text (shortened_text groups run) groups
unfolding shortened_text
shortened_read groups eight fit None none = inl (groups_read groups fit, eight)
shortened_read groups eight fit (Some (place, count)) run =
    let (within, zeros) = run.zeros in
    let two = run.long in
    let front = length-take-le place groups (omega arith) in
    let back = length-drop (place + count) groups in
    let gap : 8 - (length (take place groups) + length (drop (place + count) groups)) ≡ count = omega arith in
    inr (record {
      head_text = _;
      tail_text = _;
      head = take place groups;
      tail = drop (place + count) groups;
      spelled = refl;
      head_groups = groups_read (take place groups) (AllSegments-take place groups fit);
      tail_groups = groups_read (drop (place + count) groups) (AllSegments-drop (place + count) groups fit);
      room = omega arith;
      value =
          rw (gap, ← zeros)
          (sym (take-append-drop (place + count) groups)
          ∙ ap (λ (all : List ℕ). all ++ drop (place + count) groups) (take-add place count groups)
          ∙ append_assoc (take place groups) _ (drop (place + count) groups));
    })

-- ---- addresses

pub address_read : (address : Address) → IsAddress address → IsAddressText (address_text address) address
unfolding address_text IsAddressText
address_read (V4 number) fits = (fits, refl)
address_read (V6 number) fits =
    (fits, shortened_read (ipv6_groups number) refl (ipv6_groups-fit number) (longest_zeros 8 (ipv6_groups number)) (longest_zeros_first (ipv6_groups number) 8 (omega arith)))

-- ---- prefixes

zeros_number : (count : ℕ) (bits : List Bool) → length bits ≤ count → (number_of_bits (with_zeros count bits) < 2 ^ count) × (take (length bits) (bits_of_number count (number_of_bits (with_zeros count bits))) ≡ bits)
unfolding with_zeros
zeros_number count bits fits =
    let all = length-with_zeros count bits fits in
    let below = number_of_bits-lt (with_zeros count bits) in
    let same : bits_of_number count (number_of_bits (with_zeros count bits)) ≡ with_zeros count bits =
    ap (λ k. bits_of_number k (number_of_bits (with_zeros count bits))) (sym all) ∙ bits-number_of_bits (with_zeros count bits) in
    (rw all at below, rw same (take_at bits (replicate (count - length bits) false) (length bits) refl))

lowest_is_address : (family : Family) (bits : List Bool) → length bits ≤ bit_count family → IsAddress (lowest_address family bits)
unfolding lowest_address
lowest_is_address Family.V4 bits fits = (zeros_number 32 bits fits).0
lowest_is_address Family.V6 bits fits = (zeros_number 128 bits fits).0

-- a prefix is that of its lowest address
lowest_prefix : (family : Family) (bits : List Bool) → length bits ≤ bit_count family → prefix_of (lowest_address family bits) (length bits) ≡ record { family = family; bits = bits }
unfolding lowest_address prefix_of address_bits
lowest_prefix Family.V4 bits fits = λ i. record { family = Family.V4; bits = (zeros_number 32 bits fits).1 i }
lowest_prefix Family.V6 bits fits = λ i. record { family = Family.V6; bits = (zeros_number 128 bits fits).1 i }

family_of-lowest : (family : Family) (bits : List Bool) → family_of (lowest_address family bits) ≡ family
unfolding lowest_address
family_of-lowest Family.V4 bits = refl
family_of-lowest Family.V6 bits = refl

pub lowest_address_is : (prefix : PrefixBits) → IsPrefix prefix → IsAddress (address_of prefix) × (prefix_of (address_of prefix) (prefix_length prefix) ≡ prefix)
lowest_address_is prefix fits = (lowest_is_address prefix.family prefix.bits fits, lowest_prefix prefix.family prefix.bits fits)

pub prefix_read : (prefix : PrefixBits) → IsPrefix prefix → IsPrefixText (prefix_text prefix) prefix
unfolding prefix_text
prefix_read prefix fits = record {
  address_text = address_text (address_of prefix);
  address = address_of prefix;
  count = prefix_length prefix;
  spelled = refl;
  is_address = address_read (address_of prefix) (lowest_is_address prefix.family prefix.bits fits);
  fits = rw family_of-lowest fits;
  value = sym (lowest_prefix prefix.family prefix.bits fits);
}
