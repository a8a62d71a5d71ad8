-- Prefixes that are written are read back.
use Rattle.std.proofs.Common.{◌≡◌, ℕ, zero, suc, ◌+◌, ◌-◌, ◌*◌, ◌/◌, ◌≤◌, Bool, true, false, List, [], ◌∷◌, ◌++◌, length, take, drop, replicate, All, Some, refl, sym, ap, subst, ◌∙◌, append_assoc, arith}
use Rattle.std.proofs.lemmas.Bool.{ne_eqb, le-leb}
use Rattle.std.proofs.lemmas.List.{length-append}
use Rattle.std.proofs.lemmas.List.Elements.{All-head, All-tail}
use Rattle.std.proofs.Math.Seq.{take-append_seam, drop-append_seam}
use Rattle.bgp_prefix.specs.declared.family.Family.{Family}
use Rattle.bgp_prefix.specs.Address.{bit_count}
use Rattle.bgp_prefix.specs.Bits.{bits_of_octets, octets_of, with_zeros}
use Rattle.bgp_prefix.specs.Prefix.{PrefixBits, IsPrefix, prefix_octets, prefix_length}
use Rattle.bgp_prefix.specs.PrefixLaws.{length-octets_of}
use Rattle.bgp_prefix.proofs.BitsAndNumbers.{bits_of_octets-octets_of, bits_of_octets-append}
use Rattle.bgp_update.specs.Destinations.{prefix_len, has_prefix, first_prefix, destination_len, has_destination, first_destination, destinations_in, destinations_of}
use Rattle.bgp_update.specs.Plain.{plain, all_plain}
use Rattle.bgp_update_writer.specs.Written.{nlri_octets}

-- what stands at the front is the prefix
pub record Reads (family : Family) (octets : List ℕ) (p : PrefixBits) (rest : List ℕ) : Type 0 where
  pub some : 1 ≤ length octets
  pub has : has_prefix family octets ≡ true
  pub first : first_prefix family octets ≡ p
  pub after : drop (prefix_len octets) octets ≡ rest
  pub less : length rest + 1 ≤ length octets

plus_one : (k : ℕ) → 1 + k ≡ suc k
plus_one k = omega arith

reads : (p : PrefixBits) (rest : List ℕ) → IsPrefix p → Reads p.family (prefix_octets p ++ rest) p rest
unfolding prefix_octets prefix_len has_prefix first_prefix with_zeros
reads p rest fits =
    let n = prefix_length p in
    let k = (n + 7) / 8 in
    let field = octets_of k p.bits in
    let long = length-octets_of k p.bits in
    let all = length-append field rest in
    let zeros = replicate (8 * k - n) false in
    let bits : take n (bits_of_octets (field ++ rest)) ≡ p.bits =
    ap (take n) (bits_of_octets-append field rest ∙ ap (λ (b : List Bool). b ++ bits_of_octets rest) (bits_of_octets-octets_of k p.bits (omega arith)) ∙ append_assoc p.bits zeros (bits_of_octets rest))
    ∙ take-append_seam p.bits (zeros ++ bits_of_octets rest) in
    let gone : drop (1 + k) (n ∷ (field ++ rest)) ≡ rest =
    ap (λ (j : ℕ). drop j (n ∷ (field ++ rest))) (plus_one k)
    ∙ ap (λ (j : ℕ). drop j (field ++ rest)) (sym long) ∙ drop-append_seam field rest in
    record {
      some = omega arith;
      has = rw (le-leb n (bit_count p.family) fits, le-leb (1 + k) (length (n ∷ (field ++ rest))) (omega arith)) refl;
      first = rw bits refl;
      after = gone;
      less = omega arith;
    }

-- where routes aren't identified, a destination is just the prefix
pub record ReadsPlain (family : Family) (octets : List ℕ) (p : PrefixBits) (rest : List ℕ) : Type 0 where
  pub some : 1 ≤ length octets
  pub has : has_destination false family octets ≡ true
  pub first : first_destination false family octets ≡ plain p
  pub after : drop (destination_len false octets) octets ≡ rest
  pub less : length rest + 1 ≤ length octets

from_zero : (n : ℕ) → 0 + n ≡ n
from_zero n = omega arith

reads_plain : (family : Family) (octets : List ℕ) (p : PrefixBits) (rest : List ℕ) → Reads family octets p rest → ReadsPlain family octets p rest
unfolding has_destination first_destination destination_len
reads_plain family octets p rest r = record {
  some = r.some;
  has = r.has;
  first = ap plain r.first;
  after = ap (λ (n : ℕ). drop n octets) (from_zero (prefix_len octets)) ∙ r.after;
  less = r.less;
}

read_in : (family : Family) (fuel : ℕ) (ps : List PrefixBits) → All IsPrefix ps → All (λ p. p.family ≡ family) ps → length (nlri_octets ps) ≤ fuel
    → destinations_in fuel false family (nlri_octets ps) ≡ Some (all_plain ps)
read_in family zero [] each of enough = refl
read_in family (suc fuel) [] each of enough = refl
read_in family zero (p ∷ ps) each of enough =
    let r = reads p (nlri_octets ps) (All-head IsPrefix p ps each) in
    absurd (omega (arith, r.some))
read_in family (suc fuel) (p ∷ ps) each of enough =
    let is : p.family ≡ family = All-head (λ (q : PrefixBits). q.family ≡ family) p ps of in
    let r = reads_plain family (prefix_octets p ++ nlri_octets ps) p (nlri_octets ps)
    (subst (λ (f : Family). Reads f (prefix_octets p ++ nlri_octets ps) p (nlri_octets ps)) is (reads p (nlri_octets ps) (All-head IsPrefix p ps each))) in
    let more = read_in family fuel ps (All-tail IsPrefix p ps each) (All-tail (λ (q : PrefixBits). q.family ≡ family) p ps of) (omega (arith, r.less)) in
    rw (ne_eqb (length (nlri_octets (p ∷ ps))) 0 (λ e. absurd (omega (arith, r.some))), r.has, r.first, r.after, more) refl

pub written_prefixes : (family : Family) (ps : List PrefixBits) → All IsPrefix ps → All (λ p. p.family ≡ family) ps
    → destinations_of false family (nlri_octets ps) ≡ Some (all_plain ps)
unfolding destinations_of
written_prefixes family ps each of = read_in family (length (nlri_octets ps)) ps each of (omega arith)

-- nothing is no destinations, whether or not routes are identified
pub none_written : (identified : Bool) (family : Family) → destinations_of identified family [] ≡ Some []
unfolding destinations_of
none_written identified family = refl
