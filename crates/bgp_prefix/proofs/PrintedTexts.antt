-- What std prints of an address is its text by `specs/Text`.
use Rattle.std.proofs.Common.{◌≡◌, ◌≢◌, ℕ, zero, suc, ◌+◌, ◌*◌, ◌/◌, ◌%◌, ◌^◌, ◌<◌, ◌≤◌, nat_lt, List, [], ◌∷◌, ◌++◌, length, get_or, take, drop, replicate, decimal, Option, Some, None, refl, sym, ap, ap₂, ◌∙◌, arith, inl, inr, append_assoc, lt-ltb, le-ltb, eq-eqb, ne_eqb, le-leb}
use Rattle.std.proofs.lemmas.Bool.{cases_lt, cases_Bool, lt-leb, false≢true}
use Rattle.std.proofs.lemmas.Slice.Eq.{bytes_eq-Decides}
use Rattle.std.proofs.lemmas.List.{length-take, length-replicate, append-nil}
use Rattle.std.specs.Fmt.{digits}
use Rattle.std.specs.Option.{option_map, option_or}
use Rattle.std.specs.Prelude.{bytes_eq, MatchOption, if◌then◌else◌}
use Rattle.std.specs.Int.{byte_at}
use Rattle.byteorder.specs.Endian.{big_bytes}
use Rattle.bgp_prefix.specs.Address.{ipv6_groups}
use Rattle.std.specs.Net.Addr.{segments_of, ipv4_octets, ipv6_segments, IsIpv4OfBits, IsIpv6OfBits}
use Rattle.std.specs.Net.Text.{ipv4_text, hex, groups_text, longest_zero_run, hex_groups_text}
use Rattle.std.specs.declared.net.ipv4_addr.Ipv4Addr.{Ipv4Addr}
use Rattle.std.specs.declared.net.ipv6_addr.Ipv6Addr.{Ipv6Addr}
use Rattle.std.proofs.NetLemmas.Texts.{AllSegments, AllSegments-take, AllSegments-drop, IsZeroRun-longest_zero_run, longest_zero_run_first}
use Rattle.bgp_prefix.specs.Text.{dotted_text, group_text, colon_text, first_zeros, longest_zeros, shortened_text, address_text, prefix_text}
use Rattle.bgp_prefix.specs.Prefix.{PrefixBits, prefix_length, address_of}
use Rattle.bgp_prefix.specs.ZeroRun.{IsZeroRun, IsShortenedRun}
use Rattle.bgp_prefix.specs.declared.address.Address.{Address}
use Rattle.bgp_prefix.specs.declared.address.Address.TheVariants.{V4, V6}

-- ---- IPv4

pub dotted_text-four : (a b c d : ℕ) → dotted_text (a ∷ b ∷ c ∷ d ∷ []) ≡ ipv4_text (a ∷ b ∷ c ∷ d ∷ [])
unfolding dotted_text
dotted_text-four a b c d = simp append_assoc

pub address_text-V4 : (address : Address) (number : ℕ) (ip : Ipv4Addr) → address ≡ V4 number → IsIpv4OfBits ip number → address_text address ≡ ipv4_text (ipv4_octets ip)
unfolding address_text IsIpv4OfBits
address_text-V4 address number ip of_V4 bits = rw (of_V4, bits) (dotted_text-four _ _ _ _)

-- ---- a group, and groups with colons

pub group_text-hex : (group : ℕ) → group < 2 ^ 16 → group_text group ≡ hex group
unfolding group_text hex digits
group_text-hex group fits =
    let two : group / 16 / 16 ≡ group / 0x100 = omega arith in
    let three : group / 0x100 / 16 ≡ group / 0x1000 = omega arith in
    let no_fifth : group / 0x1000 / 16 ≡ 0 = omega arith in
    let fourth : group / 0x1000 % 16 ≡ group / 0x1000 = omega arith in
    elim (cases_lt group 0x10) [
      | inl h₁ ↦
          let none : group / 16 ≡ 0 = omega arith in
          rw (lt-leb 0x1000 group (omega arith), lt-leb 0x100 group (omega arith), lt-leb 0x10 group h₁, eq-eqb _ _ none) refl
      | inr m₁ ↦ elim (cases_lt group 0x100) [
        | inl h₂ ↦
            let some : group / 16 ≢ 0 = omega arith in
            let none : group / 0x100 ≡ 0 = omega arith in
            let last : group / 16 % 16 ≡ group / 16 = omega arith in
            rw (lt-leb 0x1000 group (omega arith), lt-leb 0x100 group h₂, le-leb 0x10 group m₁, ne_eqb _ _ some, two, eq-eqb _ _ none) refl
        | inr m₂ ↦ elim (cases_lt group 0x1000) [
          | inl h₃ ↦
              let some : group / 16 ≢ 0 = omega arith in
              let more : group / 0x100 ≢ 0 = omega arith in
              let none : group / 0x1000 ≡ 0 = omega arith in
              rw (lt-leb 0x1000 group h₃, le-leb 0x100 group m₂, ne_eqb _ _ some, two, ne_eqb _ _ more, three, eq-eqb _ _ none) refl
          | inr m₃ ↦
              let some : group / 16 ≢ 0 = omega arith in
              let more : group / 0x100 ≢ 0 = omega arith in
              let most : group / 0x1000 ≢ 0 = omega arith in
              rw (le-leb 0x1000 group m₃, ne_eqb _ _ some, two, ne_eqb _ _ more, three, ne_eqb _ _ most, eq-eqb _ _ no_fifth, fourth) refl
        ]
      ]
    ]

colon_text-groups : (groups : List ℕ) → AllSegments groups → colon_text groups ≡ groups_text groups
unfolding colon_text
colon_text-groups [] fit = refl
colon_text-groups (group ∷ []) fit = group_text-hex group (fit 0) ∙ sym (append-nil (hex group))
colon_text-groups (group ∷ next ∷ groups) fit =
    let later : colon_text (next ∷ groups) ≡ groups_text (next ∷ groups) = colon_text-groups (next ∷ groups) (λ k. fit (suc k)) in
    ap₂ (λ (front back : List ℕ). front ++ (58 ∷ back)) (group_text-hex group (fit 0)) later

-- ---- the run of zeros

-- what `first_zeros` finds
abbrev FirstZeros : List ℕ → ℕ → Option ℕ → Type 0
FirstZeros groups count found =
    MatchOption found ((place : ℕ) → ¬ (IsZeroRun groups place count))
    (λ first. IsZeroRun groups first count × ((place : ℕ) → place < first → ¬ (IsZeroRun groups place count)))

no_run_of_none : (count place : ℕ) → 0 < count → ¬ (IsZeroRun [] place count)
no_run_of_none count place some run = omega (arith, run.0)

-- one group further
one_further : (group : ℕ) (groups : List ℕ) (count : ℕ) → ¬ (IsZeroRun (group ∷ groups) 0 count) → (found : Option ℕ) → FirstZeros groups count found → FirstZeros (group ∷ groups) count (option_map suc found)
one_further group groups count not_here None none = λ place.
    elim place as (λ at. ¬ (IsZeroRun (group ∷ groups) at count)) [
      | zero ↦ not_here
      | suc before ↦ λ run. none before (omega (arith, run.0), run.1)
    ]
one_further group groups count not_here (Some first) (run, before) = (
  (omega (arith, run.0), run.1),
  λ place. elim place as (λ at. at < suc first → ¬ (IsZeroRun (group ∷ groups) at count)) [
    | zero ↦ λ _. not_here
    | suc earlier ↦ λ less run. before earlier (omega (arith, less)) (omega (arith, run.0), run.1)
  ],
)

first_zeros_is : (count : ℕ) → 0 < count → (groups : List ℕ) → FirstZeros groups count (first_zeros count groups)
unfolding first_zeros
first_zeros_is count some [] = λ place. no_run_of_none count place some
first_zeros_is count some (group ∷ groups) =
    let front = take count (group ∷ groups) in
    let decides = bytes_eq-Decides front (replicate count 0) in
    elim (cases_Bool (bytes_eq front (replicate count 0))) [
      | inl here ↦
          let zeros : front ≡ replicate count 0 = decides.0 here in
          let many = ap length zeros in
          rw here ((omega (arith, length-take count (group ∷ groups), length-replicate {A = ℕ} count 0), zeros), λ place less. absurd (omega arith))
      | inr not_here ↦
          rw not_here (one_further group groups count (λ run. false≢true (sym not_here ∙ decides.1 run.1)) (first_zeros count groups) (first_zeros_is count some groups))
    ]

-- The run that std finds is the one.
module _ (groups : List ℕ) where
  unfoldable pub best : ℕ × ℕ
  best = longest_zero_run groups

  one_step : (count : ℕ) → 2 ≤ count → best.1 ≤ count → (found : Option ℕ) → FirstZeros groups count found → (rest : Option (ℕ × ℕ)) → (best.1 < count → rest ≡ (if nat_lt 1 best.1 then Some best else None)) → option_or (option_map (λ place. (place, count)) found) rest ≡ (if nat_lt 1 best.1 then Some best else None)
  unfolding best
  one_step count two most None none rest later =
      let run = IsZeroRun-longest_zero_run groups in
      elim (cases_lt best.1 count) [
        | inl less ↦ later less
        | inr same ↦
            let e : best.1 ≡ count = omega arith in
            absurd (none best.0 (rw (← e) run))
      ]
  one_step count two most (Some first) (zeros, before) rest later =
      let run = IsZeroRun-longest_zero_run groups in
      let (below, early) = longest_zero_run_first groups first count zeros in
      let as_long : count ≡ best.1 = omega arith in
      let place : first ≡ best.0 = elim (cases_lt best.0 first) [
        | inl less ↦ absurd (before best.0 less (rw as_long run))
        | inr least ↦ omega (arith, early as_long)
      ] in
      rw (lt-ltb 1 best.1 (omega arith)) (λ i. Some (place i, as_long i))

  pub longest_zeros_is : (most : ℕ) → best.1 ≤ most → longest_zeros most groups ≡ (if nat_lt 1 best.1 then Some best else None)
  unfolding longest_zeros
  longest_zeros_is zero within = rw (le-ltb 1 best.1 (omega arith)) refl
  longest_zeros_is (suc zero) within = rw (le-ltb 1 best.1 (omega arith)) refl
  longest_zeros_is (suc (suc more)) within =
      one_step (suc (suc more)) (omega arith) within (first_zeros (suc (suc more)) groups) (first_zeros_is (suc (suc more)) (omega arith) groups) (longest_zeros (suc more) groups)
      (λ less. longest_zeros_is (suc more) (omega (arith, less)))

  best_within : (most : ℕ) → length groups ≤ most → best.1 ≤ most
  unfolding best
  best_within most fits = omega (arith, (IsZeroRun-longest_zero_run groups).0)

  -- what it is in RFC 5952's words
  pub longest_zeros_first : (most : ℕ) → length groups ≤ most → IsShortenedRun groups (longest_zeros most groups)
  unfolding best
  longest_zeros_first most fits =
      let all = longest_zero_run_first groups in
      elim (cases_lt 1 best.1) [
        | inl long ↦
            rw (longest_zeros_is most (best_within most fits), lt-ltb 1 best.1 long) (record {
              long = long;
              zeros = IsZeroRun-longest_zero_run groups;
              longest = λ other len run. (all other len run).0;
              first = λ other run. (all other best.1 run).1 refl;
            })
        | inr short ↦
            rw (longest_zeros_is most (best_within most fits), le-ltb 1 best.1 short) (λ place count run. omega (arith, (all place count run).0))
      ]

  -- and so the text is std's
  pub shortened_text-hex_groups : (most : ℕ) → length groups ≤ most → AllSegments groups → shortened_text groups (longest_zeros most groups) ≡ hex_groups_text groups
  unfolding shortened_text hex_groups_text best
  shortened_text-hex_groups most fits small = elim (cases_lt 1 best.1) [
    | inl long ↦
        let front = colon_text-groups (take best.0 groups) (AllSegments-take best.0 groups small) in
        let back = colon_text-groups (drop (best.0 + best.1) groups) (AllSegments-drop (best.0 + best.1) groups small) in
        rw (longest_zeros_is most (best_within most fits), lt-ltb 1 best.1 long, front, back) (sym (append_assoc (groups_text (take best.0 groups)) _ _))
    | inr short ↦
        rw (longest_zeros_is most (best_within most fits), le-ltb 1 best.1 short) (colon_text-groups groups small)
  ]

-- ---- IPv6

byte_below : (place number : ℕ) → byte_at place number < 256
byte_below zero number = omega arith
byte_below (suc place) number = omega arith

pub octets_below : (count number k : ℕ) → get_or (big_bytes count number) k 0 < 256
octets_below zero number k = omega arith
octets_below (suc count) number k =
    let later = octets_below count number in
    elim k as (λ j. get_or (byte_at count number ∷ big_bytes count number) j 0 < 256) [ zero ↦ byte_below count number | suc j ↦ later j ]

groups_below : (octets : List ℕ) → ((k : ℕ) → get_or octets k 0 < 256) → AllSegments (segments_of octets)
groups_below [] fit k = omega arith
groups_below (a ∷ []) fit k = omega arith
groups_below (a ∷ b ∷ octets) fit k =
    let later = groups_below octets (λ j. fit (suc (suc j))) in
    elim k as (λ j. get_or ((a * 256 + b) ∷ segments_of octets) j 0 < 2 ^ 16) [ zero ↦ omega (arith, fit 0, fit 1) | suc j ↦ later j ]

pub ipv6_groups-fit : (number : ℕ) → AllSegments (ipv6_groups number)
ipv6_groups-fit number = groups_below (big_bytes 16 number) (octets_below 16 number)

pub address_text-V6 : (address : Address) (number : ℕ) (ip : Ipv6Addr) → address ≡ V6 number → IsIpv6OfBits ip number → address_text address ≡ hex_groups_text (ipv6_segments ip)
unfolding address_text IsIpv6OfBits
address_text-V6 address number ip of_V6 bits =
    rw (of_V6, bits) (shortened_text-hex_groups (ipv6_groups number) 8 (omega arith) (ipv6_groups-fit number))

-- ---- a prefix

pub prefix_text-parts : (prefix : PrefixBits) (address : Address) (count : ℕ) → address ≡ address_of prefix → count ≡ prefix_length prefix → prefix_text prefix ≡ address_text address ++ (47 ∷ decimal count)
unfolding prefix_text
prefix_text-parts prefix address count first last = rw (first, last) refl

-- what is printed, from its parts
pub ruleset printed = (address_text-V4, address_text-V6, prefix_text-parts)
