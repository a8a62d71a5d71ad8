-- What a key's address and length say of its prefix.
use Rattle.std.proofs.Common.{◌≡◌, ℕ, ◌+◌, ◌^◌, ◌<◌, ◌≤◌, ◌++◌, ◌&&◌, Bool, true, false, List, Option, None, Some, Result, Ok, Err, OnErr, is_some, cond, length, refl, sym, ap, subst, ◌∙◌, arith}
use Rattle.std.proofs.lemmas.List.{length-take-le}
use Rattle.bgp_prefix.specs.declared.family.Family.{Family}
use Rattle.bgp_prefix.specs.declared.family.Family.TheVariants as family
use Rattle.bgp_prefix.specs.declared.address.Address.{Address}
use Rattle.bgp_prefix.specs.declared.address.Address.TheVariants.{V4, V6}
use Rattle.bgp_prefix.specs.Address.{address_bits, address_number, bit_count, family_of}
use Rattle.bgp_prefix.specs.Bits.{bits_of_number}
use Rattle.bgp_prefix.specs.Prefix.{PrefixBits, IsPrefix, address_of, lowest_address, prefix_length, prefix_of}
use Rattle.byteorder.specs.Endian.{big_bytes, big_number}
use Rattle.byteorder.specs.Numbers.{big_number-reads_back}
use Rattle.bgp_prefix.proofs.PrintedIsRead.{lowest_address_is}
use Rattle.bgp_prefix.specs.PrefixLaws.{length-bits_of_number}
use Rattle.bgp_rib.specs.Keys.{IsLowest, bits_number, v4_prefix, v6_prefix}

-- the bits of a key
abbrev pub bits_of : Address → ℕ → List Bool
bits_of address count = (prefix_of address count).bits

pub v4_whole : (number count : ℕ) → prefix_of (V4 number) count ≡ v4_prefix (bits_of (V4 number) count)
unfolding prefix_of
v4_whole number count = refl

pub v6_whole : (number count : ℕ) → prefix_of (V6 number) count ≡ v6_prefix (bits_of (V6 number) count)
unfolding prefix_of
v6_whole number count = refl

pub v4_number : (number count : ℕ) → IsLowest (V4 number) count → number ≡ bits_number family.V4 (bits_of (V4 number) count)
unfolding prefix_of
v4_number number count h = sym (ap address_number h.lowest)

pub v6_number : (number count : ℕ) → IsLowest (V6 number) count → number ≡ bits_number family.V6 (bits_of (V6 number) count)
unfolding prefix_of
v6_number number count h = sym (ap address_number h.lowest)

pub v4_length : (number count : ℕ) → IsLowest (V4 number) count → count ≡ length (bits_of (V4 number) count)
unfolding prefix_of address_bits
v4_length number count h = sym (length-take-le count (bits_of_number 32 number) (rw (length-bits_of_number 32 number) h.fits))

pub v6_length : (number count : ℕ) → IsLowest (V6 number) count → count ≡ length (bits_of (V6 number) count)
unfolding prefix_of address_bits
v6_length number count h = sym (length-take-le count (bits_of_number 128 number) (rw (length-bits_of_number 128 number) h.fits))

-- what is written is read
pub read_back : (octets rest : List ℕ) (number : ℕ) → octets ≡ big_bytes 16 number ++ rest → number < 2 ^ 128 → big_number 16 octets ≡ number
read_back octets rest number written fits = ap (λ (o : List ℕ). big_number 16 o) written ∙ big_number-reads_back 16 number rest (omega (arith, fits))

-- the lowest address of a prefix
of_family : (f : Family) (bits : List Bool) → family_of (lowest_address f bits) ≡ f
unfolding lowest_address
of_family family.V4 bits = refl
of_family family.V6 bits = refl

pub lowest_of : (p : PrefixBits) (address : Address) → IsPrefix p → address_of p ≡ address → IsLowest address (prefix_length p)
lowest_of p address fits is = record {
  fits = subst (λ (a : Address). prefix_length p ≤ bit_count (family_of a)) is (subst (λ (f : Family). prefix_length p ≤ bit_count f) (sym (of_family p.family p.bits)) fits);
  lowest = subst (λ (a : Address). address_of (prefix_of a (prefix_length p)) ≡ a) is (ap address_of (lowest_address_is p fits).1);
}

pub v4_key : (p : PrefixBits) (number : ℕ) → IsPrefix p → address_of p ≡ V4 number → v4_prefix (bits_of (V4 number) (prefix_length p)) ≡ p
v4_key p number fits is = sym (v4_whole number (prefix_length p)) ∙ ap (λ (a : Address). prefix_of a (prefix_length p)) (sym is) ∙ (lowest_address_is p fits).1

pub v6_key : (p : PrefixBits) (number : ℕ) → IsPrefix p → address_of p ≡ V6 number → v6_prefix (bits_of (V6 number) (prefix_length p)) ≡ p
v6_key p number fits is = sym (v6_whole number (prefix_length p)) ∙ ap (λ (a : Address). prefix_of a (prefix_length p)) (sym is) ∙ (lowest_address_is p fits).1

-- ---- a map that may have grown

pub grown : {X : Type 0} (had : Option X) (new old others : ℕ) → new ≡ old + cond (is_some had) 0 1 → (had ≡ None → old + others + 1 < 2 ^ 64) → old + others < 2 ^ 64 → new + others < 2 ^ 64
grown None new old others e more fits = omega (arith, e, more refl)
grown (Some x) new old others e more fits = omega (arith, e, fits)

pub on_err : {X E : Type 0} {P : Type 0} (r : Result X E) → P → OnErr r P
on_err (Ok x) h = tt
on_err (Err x) h = h

-- ---- a chain of `&&`

pub and_more : (a b v : Bool) → a ≡ true → v ≡ b → v ≡ (a && b)
and_more true b v e h = h
and_more false b v e h = absurd cc

pub and_stop : (a b v : Bool) → a ≡ false → v ≡ false → v ≡ (a && b)
and_stop true b v e h = absurd cc
and_stop false b v e h = h

pub chain_true : (a b c d v w : Bool) → v ≡ (a && b) → w ≡ (v && c) → w ≡ true → d ≡ (a && (b && (c && d)))
chain_true true true true d v w e f t = refl
chain_true true true false true v w e f t = absurd (true_false (sym t ∙ f ∙ ap (λ x. x && false) e))
  where
    true_false : true ≡ false → ⊥
    true_false e = absurd cc
chain_true true true false false v w e f t = refl
chain_true true false c true v w e f t = absurd (true_false (sym t ∙ f ∙ ap (λ x. x && c) e))
  where
    true_false : true ≡ false → ⊥
    true_false e = absurd cc
chain_true true false c false v w e f t = refl
chain_true false b c true v w e f t = absurd (true_false (sym t ∙ f ∙ ap (λ x. x && c) e))
  where
    true_false : true ≡ false → ⊥
    true_false e = absurd cc
chain_true false b c false v w e f t = refl

pub chain_false : (a b c d v w : Bool) → v ≡ (a && b) → w ≡ (v && c) → w ≡ false → w ≡ (a && (b && (c && d)))
chain_false true true true d v w e f t = absurd (false_true (sym t ∙ f ∙ ap (λ x. x && true) e))
  where
    false_true : false ≡ true → ⊥
    false_true e = absurd cc
chain_false true true false d v w e f t = t
chain_false true false c d v w e f t = t
chain_false false b c d v w e f t = t
