-- Octets begin with at most one prefix of a family, and with one spelling of it.
use Rattle.std.proofs.Common.{◌≡◌, ℕ, suc, ◌+◌, ◌-◌, ◌*◌, ◌/◌, ◌<◌, ◌≤◌, false, List, length, take, drop, replicate, get_or, Result, Ok, refl, sym, ap, ap₂, ◌∙◌, arith}
use Rattle.std.proofs.lemmas.List.{length-take-le, get_or-take, take_at, drop_at}
use Rattle.std.proofs.lemmas.List.Elements.{All-replicate}
use Rattle.bgp_prefix.specs.Bits.{bits_of_octets, with_zeros, octets_of}
use Rattle.bgp_prefix.specs.Prefix.{PrefixBits, prefix_length, IsPrefix, IsPrefixSpelling, HasZerosAfter, BeginsWithPrefix, prefix_octets}
use Rattle.bgp_prefix.specs.PrefixLaws.{length-octets_of}
use Rattle.bgp_prefix.proofs.BitsAndNumbers.{bits_of_octets-octets_of}
use Rattle.bgp_prefix.specs.declared.family.Family.{Family}
use Rattle.bgp_prefix.specs.declared.prefix.PrefixFault.{PrefixFault}

-- what a beginning tells of the octets: the length, how many octets there are, and the bits
pub record Tells (family : Family) (octets : List ℕ) (prefix : PrefixBits) (count : ℕ) : Type 0 where
  pub as_long : prefix_length prefix ≡ get_or octets 0 0
  pub many : count ≡ suc ((get_or octets 0 0 + 7) / 8)
  pub bits : prefix.bits ≡ take (get_or octets 0 0) (bits_of_octets (drop 1 (take (suc ((get_or octets 0 0 + 7) / 8)) octets)))

pub tells : (family : Family) (octets : List ℕ) (prefix : PrefixBits) (count : ℕ) → BeginsWithPrefix family octets prefix count → Tells family octets prefix count
tells family octets prefix count begins =
    let s = begins.spelling in
    let n = prefix_length prefix in
    let taken = length-take-le count octets begins.within in
    let counted : length (take count octets) ≡ suc (length s.field) = ap length s.spelled in
    let some : 0 < count = omega arith in
    let as_long : n ≡ get_or octets 0 0 =
    sym (ap (λ (all : List ℕ). get_or all 0 0) s.spelled) ∙ get_or-take count octets 0 0 some in
    let most : length s.field ≤ (n + 7) / 8 = s.fewest ((n + 7) / 8) (omega arith) in
    let least = s.enough in
    let many : count ≡ suc ((n + 7) / 8) = omega arith in
    let field : s.field ≡ drop 1 (take (suc ((n + 7) / 8)) octets) =
    sym (ap (λ (all : List ℕ). drop 1 all) s.spelled) ∙ ap (λ k. drop 1 (take k octets)) many in
    record {
      as_long = as_long;
      many = rw (← as_long) many;
      bits = rw (← as_long) (sym s.first ∙ ap (λ (all : List ℕ). take n (bits_of_octets all)) field);
    }

pub one_spelling : (family : Family) (octets : List ℕ) (p q : PrefixBits) (m n : ℕ) → BeginsWithPrefix family octets p m → BeginsWithPrefix family octets q n → (p ≡ q) × (m ≡ n)
one_spelling family octets p q m n begins also =
    let first = tells family octets p m begins in
    let second = tells family octets q n also in
    let of_family : p.family ≡ q.family = begins.of_family ∙ sym also.of_family in
    let bits : p.bits ≡ q.bits = first.bits ∙ sym second.bits in
    (λ i. record { family = of_family i; bits = bits i }, first.many ∙ sym second.many)

-- where a prefix is answered there is no other answer
pub only_answer : (family : Family) (octets : List ℕ) (p q : PrefixBits) (m n : ℕ) → BeginsWithPrefix family octets p m → BeginsWithPrefix family octets q n
    → ◌≡◌ {A = Result (PrefixBits × ℕ) PrefixFault} (Ok (p, m)) (Ok (q, n))
only_answer family octets p q m n begins also =
    let same = one_spelling family octets p q m n begins also in
    ap₂ (λ (p : PrefixBits) (n : ℕ). Ok (p, n)) same.0 same.1

-- ---- what is written

pub written_spelling : (prefix : PrefixBits) → IsPrefix prefix → IsPrefixSpelling prefix (prefix_octets prefix)
unfolding prefix_octets with_zeros
written_spelling prefix fits =
    let n = prefix_length prefix in
    let places = (n + 7) / 8 in
    let many = length-octets_of places prefix.bits in
    record {
      field = octets_of places prefix.bits;
      is_prefix = fits;
      spelled = refl;
      enough = omega arith;
      fewest = λ count more. omega arith;
      first = rw (bits_of_octets-octets_of places prefix.bits (omega arith)) (take_at prefix.bits _ n refl);
    }

-- the bits after the prefix are zeros
pub written_zeros : (prefix : PrefixBits) → HasZerosAfter prefix (prefix_octets prefix)
unfolding prefix_octets with_zeros
written_zeros prefix =
    let n = prefix_length prefix in
    let zeros = replicate (8 * ((n + 7) / 8) - n) false in
    rw (bits_of_octets-octets_of ((n + 7) / 8) prefix.bits (omega arith), drop_at prefix.bits zeros n refl)
    (All-replicate (λ bit. bit ≡ false) (8 * ((n + 7) / 8) - n) false refl)
