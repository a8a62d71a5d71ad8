-- How the longest run of zero groups is found, step by step.
use Rattle.std.proofs.Common.{◌≡◌, ℕ, zero, suc, ◌+◌, ◌-◌, ◌==◌, true, drop, get_or, eq-eqb, ◌<◌, ◌≤◌, List, [], ◌∷◌, take, replicate, Option, Some, None, refl, sym, ap, ◌∙◌, arith, inl, inr, length, if◌then◌else◌}
use Rattle.std.proofs.lemmas.Bool.{cases_Bool, cases_lt}
use Rattle.std.proofs.lemmas.Slice.Eq.{bytes_eq-Decides}
use Rattle.std.specs.Option.{option_map}
use Rattle.std.specs.Prelude.{bytes_eq}
use Rattle.std.specs.Net.Addr.{ipv6_segments, IsIpv6OfBits}
use Rattle.std.specs.declared.net.ipv6_addr.Ipv6Addr.{Ipv6Addr}
use Rattle.bgp_prefix.specs.Address.{ipv6_groups}
use Rattle.bgp_prefix.specs.Text.{address_text, first_zeros, longest_zeros, shortened_text}
use Rattle.json_writer.specs.ZeroGroups.{zero_groups}
use Rattle.bgp_prefix.specs.declared.address.Address.TheVariants.{V6}

pub nowhere : (count : ℕ) (groups : List ℕ) → groups ≡ [] → first_zeros count groups ≡ None
unfolding first_zeros
nowhere count groups none = rw none refl

pub here : (count group : ℕ) (groups others : List ℕ) → groups ≡ group ∷ others → take count groups ≡ replicate count 0
    → first_zeros count groups ≡ Some 0
unfolding first_zeros
here count group groups others is zeros =
    let zeros : take count (group ∷ others) ≡ replicate count 0 = rw is at zeros in
    let equal = (bytes_eq-Decides (take count (group ∷ others)) (replicate count 0)).1 zeros in
    rw (is, equal) refl

pub later : (count group : ℕ) (groups others : List ℕ) → groups ≡ group ∷ others → ¬ (take count groups ≡ replicate count 0)
    → first_zeros count groups ≡ option_map suc (first_zeros count others)
unfolding first_zeros
later count group groups others is other =
    let decides = bytes_eq-Decides (take count (group ∷ others)) (replicate count 0) in
    elim (cases_Bool (bytes_eq (take count (group ∷ others)) (replicate count 0))) [
      | inl found ↦ absurd (other (rw is (decides.0 found)))
      | inr not_found ↦ rw (is, not_found) refl
    ]

pub too_short : (most : ℕ) (groups : List ℕ) → most < 2 → longest_zeros most groups ≡ None
unfolding longest_zeros
too_short zero groups short = refl
too_short (suc zero) groups short = refl
too_short (suc (suc more)) groups short = absurd (omega arith)

pub at_place : (most place : ℕ) (groups : List ℕ) → 2 ≤ most → first_zeros most groups ≡ Some place → longest_zeros most groups ≡ Some (place, most)
unfolding longest_zeros
at_place zero place groups long is = absurd (omega arith)
at_place (suc zero) place groups long is = absurd (omega arith)
at_place (suc (suc more)) place groups long is = rw is refl

pub shorter : (most : ℕ) (groups : List ℕ) → 2 ≤ most → first_zeros most groups ≡ None → longest_zeros most groups ≡ longest_zeros (most - 1) groups
unfolding longest_zeros
shorter zero groups long is = absurd (omega arith)
shorter (suc zero) groups long is = absurd (omega arith)
shorter (suc (suc more)) groups long is =
    let less : suc (suc more) - 1 ≡ suc more = omega arith in
    rw (is, less) refl

-- the groups that std tells of an address are its groups
pub groups_of_bits : (ip : Ipv6Addr) (number : ℕ) → IsIpv6OfBits ip number → ipv6_segments ip ≡ ipv6_groups number
unfolding IsIpv6OfBits
groups_of_bits ip number bits = bits

-- the text of an address, by the run that is found among its groups
pub text_by_run : (number : ℕ) (groups : List ℕ) (run : Option (ℕ × ℕ)) → groups ≡ ipv6_groups number → run ≡ longest_zeros 8 groups
    → address_text (V6 number) ≡ shortened_text groups run
unfolding address_text
text_by_run number groups run is found = sym (ap (λ g. shortened_text g (longest_zeros 8 g)) is) ∙ ap (shortened_text groups) (sym found)

-- ---- no run is longer than there are zeros

zeros_in_front : (count : ℕ) (groups : List ℕ) → take count groups ≡ replicate count 0 → count ≤ zero_groups groups
zeros_in_front zero groups is = omega arith
zeros_in_front (suc count) [] is = absurd (let none = ap length is in omega (arith, none))
zeros_in_front (suc count) (group ∷ groups) is =
    let first : (group == 0) ≡ true = eq-eqb group 0 (ap (λ (xs : List ℕ). get_or xs 0 1) is) in
    let more = zeros_in_front count groups (ap (drop 1) is) in
    rw first (omega (arith, more))

too_many : (count : ℕ) (groups : List ℕ) → zero_groups groups < count → first_zeros count groups ≡ None
unfolding first_zeros
too_many count [] few = refl
too_many count (group ∷ groups) few =
    let behind = too_many count groups (omega (arith, few)) in
    elim (cases_Bool (bytes_eq (take count (group ∷ groups)) (replicate count 0))) [
      | inl found ↦ absurd (let most = zeros_in_front count (group ∷ groups) ((bytes_eq-Decides (take count (group ∷ groups)) (replicate count 0)).0 found) in omega (arith, most, few))
      | inr not_found ↦ rw (not_found, behind) refl
    ]

pub from_fewer : (extra most : ℕ) (groups : List ℕ) → zero_groups groups ≤ most → longest_zeros (extra + most) groups ≡ longest_zeros most groups
from_fewer zero most groups few =
    let none : 0 + most ≡ most = omega arith in
    ap (λ (k : ℕ). longest_zeros k groups) none
from_fewer (suc extra) most groups few = elim (cases_lt (suc extra + most) 2) [
  | inl short ↦ too_short (suc extra + most) groups short ∙ sym (too_short most groups (omega (arith, short)))
  | inr long ↦
      let less : suc extra + most - 1 ≡ extra + most = omega arith in
      shorter (suc extra + most) groups long (too_many (suc extra + most) groups (omega (arith, few))) ∙ ap (λ (k : ℕ). longest_zeros k groups) less ∙ from_fewer extra most groups few
]

zeros_within : (groups : List ℕ) → zero_groups groups ≤ length groups
zeros_within [] = omega arith
zeros_within (group ∷ groups) =
    let more = zeros_within groups in
    elim (cases_Bool (group == 0)) [
      | inl one ↦ rw one (omega (arith, more))
      | inr none ↦ rw none (omega (arith, more))
    ]

-- of eight groups the longest run is found among those of so many groups as are zero
pub of_eight : (groups : List ℕ) → length groups ≡ 8 → longest_zeros (zero_groups groups) groups ≡ longest_zeros 8 groups
of_eight groups eight =
    let within = zeros_within groups in
    let all : 8 - zero_groups groups + zero_groups groups ≡ 8 = omega (arith, within, eight) in
    sym (from_fewer (8 - zero_groups groups) (zero_groups groups) groups (omega arith)) ∙ ap (λ (k : ℕ). longest_zeros k groups) all
