-- What `read_address` and `read_prefix` answer at each of their exits is what `specs/Notation` says.
use Rattle.std.proofs.Common.{◌≡◌, ◌≢◌, ℕ, zero, suc, ◌^◌, ◌<◌, ◌≤◌, List, [], ◌∷◌, ◌++◌, length, get_or, drop, decimal, refl, sym, ap, ap₂, ◌∙◌, subst, arith, Option, Some, None}
use Rattle.std.proofs.lemmas.Bool.{false≢true}
use Rattle.std.proofs.lemmas.Option.{none-some}
use Rattle.std.proofs.lemmas.List.Elements.{All-contains, All-weaker, All-append, All-cons, All-head, All-tail, All-from_get_or, Contains-append_right}
use Rattle.std.proofs.lemmas.Nat.{be_bytes_4}
use Rattle.std.specs.Prelude.{◌↔◌, Contains, MatchOption, IfSome, IsSome}
use Rattle.std.specs.Borrow.{Bor}
use Rattle.std.proofs.lemmas.Str.Pattern.{IsSplitOnceResult, split_parts}
use Rattle.std.specs.Option.{option_map}
use Rattle.std.specs.Int.{w32, from_be_bytes}
use Rattle.std.specs.Net.Addr.{ipv4_bits, ipv6_bits}
use Rattle.std.specs.Net.Grammar.{IsDotted, IsIpv4Text as IsStdIpv4, IsIpv6Text as IsStdIpv6}
use Rattle.std.specs.declared.net.ipv4_addr.Ipv4Addr.{Ipv4Addr}
use Rattle.std.specs.declared.net.ipv6_addr.Ipv6Addr.{Ipv6Addr}
use Rattle.std.proofs.NetLemmas.Theorems.{IsIpv4Text_unique, IsIpv6Text_unique}
use Rattle.bgp_prefix.specs.Address.{ipv4_octets, ipv6_groups, family_of, bit_count}
use Rattle.bgp_prefix.specs.Prefix.{PrefixBits, prefix_of}
use Rattle.bgp_prefix.specs.PrefixLaws.{bit_count-le}
use Rattle.bgp_prefix.specs.declared.family.Family.{Family}
use Rattle.bgp_prefix.specs.Text.{dotted_text}
use Rattle.bgp_prefix.specs.Slash.{LacksSlash, IsAroundSlash}
use Rattle.bgp_prefix.specs.Notation.{IsIpv6Text, IsAddressText, IsPrefixText}
use Rattle.bgp_prefix.specs.declared.address.Address.{Address}
use Rattle.bgp_prefix.specs.declared.address.Address.TheVariants.{V4, V6}
use Rattle.bgp_prefix.proofs.PrintedTexts.{dotted_text-four, octets_below}
use Rattle.bgp_prefix.proofs.AddressNumbers.{ipv6_groups-bits, ipv6_bits-lt, same_groups, same_number, from_be_bytes-4}
use Rattle.byteorder.specs.Numbers.{big_from-lt}
use Rattle.bgp_prefix.proofs.ReadTexts.{IsHigh, decimal_high, dotted_contains, ipv6_high, ipv6_small, ipv6_eight, to_colon_hex, from_colon_hex}

-- ---- IPv4

-- the printed text of four octets, as std has it
dotted : (number : ℕ) → IsDotted (dotted_text (ipv4_octets number)) (ipv4_octets number)
dotted number = record {
  a = get_or (ipv4_octets number) 0 0;
  b = get_or (ipv4_octets number) 1 0;
  c = get_or (ipv4_octets number) 2 0;
  d = get_or (ipv4_octets number) 3 0;
  fit = (octets_below 4 number 0, octets_below 4 number 1, octets_below 4 number 2, octets_below 4 number 3);
  value = refl;
  spelled = dotted_text-four _ _ _ _;
}

-- the octets of what std reads
ipv4_octets-bits : (text : List ℕ) (ip : Ipv4Addr) → IsStdIpv4 text ip → (ipv4_octets (ipv4_bits ip) ≡ ip.octets) × (ipv4_bits ip < 2 ^ 32)
unfolding ipv4_bits
ipv4_octets-bits text ip is =
    let four : length ip.octets ≡ 4 = ap length is.value in
    let fit : (k : ℕ) → get_or ip.octets k 0 < 256 = λ k. rw is.value (four_fit is.a is.b is.c is.d is.fit k) in
    let small = big_from-lt 0 4 ip.octets fit in
    (be_bytes_4 ip.octets (from_be_bytes w32 ip.octets) four fit refl, omega (arith, from_be_bytes-4 ip.octets))
  where
    four_fit : (a b c d : ℕ) → (a < 256) × (b < 256) × (c < 256) × (d < 256) → (k : ℕ) → get_or (a ∷ b ∷ c ∷ d ∷ []) k 0 < 256
    four_fit a b c d fit zero = fit.0
    four_fit a b c d fit (suc zero) = fit.1
    four_fit a b c d fit (suc (suc zero)) = fit.2
    four_fit a b c d fit (suc (suc (suc zero))) = fit.3
    four_fit a b c d fit (suc (suc (suc (suc k)))) = omega arith

pub ipv4_read : (text : List ℕ) (ip : Ipv4Addr) (number : ℕ) → IsStdIpv4 text ip → number ≡ ipv4_bits ip → (other : ℕ) → (Some number ≡ Some other) ↔ IsAddressText text (V4 other)
unfolding IsAddressText
ipv4_read text ip number is same other =
    let (octets, small) = ipv4_octets-bits text ip is in
    let spelled : text ≡ dotted_text (ipv4_octets number) =
    is.spelled ∙ sym (dotted_text-four is.a is.b is.c is.d) ∙ ap dotted_text (sym is.value ∙ sym octets ∙ ap ipv4_octets (sym same)) in (
      λ e. let equal : number ≡ other = cc in (omega arith, rw (← equal) spelled),
      λ (fits, also).
          let std : IsStdIpv4 text (record { octets = ipv4_octets other }) = rw also (dotted other) in
          let one : ip ≡ record { octets = ipv4_octets other } = IsIpv4Text_unique text ip _ is std in
          let equal : ipv4_octets (ipv4_bits ip) ≡ ipv4_octets other = octets ∙ ap (λ (a : Ipv4Addr). a.octets) one in
          ap Some (same ∙ same_number 4 (ipv4_bits ip) other (omega arith) (omega arith) equal),
    )

pub ipv4_refused : (text : List ℕ) → ((ip : Ipv4Addr) → ¬ IsStdIpv4 text ip) → (other : ℕ) → (None ≡ Some other) ↔ IsAddressText text (V4 other)
unfolding IsAddressText
ipv4_refused text refused other = (
  λ e. absurd (none-some other e),
  λ (fits, also). absurd (refused (record { octets = ipv4_octets other }) (rw also (dotted other))),
)

-- ---- IPv6

pub ipv6_read : (text : List ℕ) (ip : Ipv6Addr) (number : ℕ) → ¬ (Contains text 46) → IsStdIpv6 text ip → number ≡ ipv6_bits ip → (other : ℕ) → (Some number ≡ Some other) ↔ IsAddressText text (V6 other)
unfolding IsAddressText ipv6_bits
ipv6_read text ip number no_dot is same other =
    let own = from_colon_hex text ip.segments no_dot is in
    let eight = ipv6_eight text ip.segments own in
    let small = ipv6_small text ip.segments own in
    let below = ipv6_bits-lt ip.segments small in
    let groups : ipv6_groups number ≡ ip.segments = ap ipv6_groups same ∙ ipv6_groups-bits ip.segments eight small in
    let fits : number < 2 ^ 128 = rw same below in (
      λ e. let equal : number ≡ other = cc in rw (← equal) (fits, subst (IsIpv6Text text) (sym groups) own),
      λ (also_fits, also).
          let one : ip ≡ record { segments = ipv6_groups other } = IsIpv6Text_unique text ip (record { segments = ipv6_groups other }) is (to_colon_hex text (ipv6_groups other) also) in
          ap Some (same_groups number other fits also_fits (groups ∙ ap (λ (a : Ipv6Addr). a.segments) one)),
    )

pub ipv6_refused : (text : List ℕ) → ((ip : Ipv6Addr) → ¬ IsStdIpv6 text ip) → (other : ℕ) → (None ≡ Some other) ↔ IsAddressText text (V6 other)
unfolding IsAddressText
ipv6_refused text refused other = (
  λ e. absurd (none-some other e),
  λ (fits, also). absurd (refused (record { segments = ipv6_groups other }) (to_colon_hex text (ipv6_groups other) also)),
)

-- ---- either

ipv4_has_dot : (text : List ℕ) (number : ℕ) → IsAddressText text (V4 number) → Contains text 46
unfolding IsAddressText
ipv4_has_dot text number (fits, spelled) = rw spelled (dotted_contains _ _ (dotted number))

ipv6_no_dot : (text : List ℕ) (number : ℕ) → IsAddressText text (V6 number) → ¬ (Contains text 46)
unfolding IsAddressText
ipv6_no_dot text number (fits, is) dot =
    let low : 48 ≤ 46 = All-contains IsHigh text 46 (ipv6_high text (ipv6_groups number) is) dot in
    omega arith

-- the address that was read is the one of its family
abbrev pub IsReadAs : Family → List ℕ → Option Address → Type 0
IsReadAs family text read = (address : Address) → (read ≡ Some address) ↔ (IsAddressText text address × (family_of address ≡ family))

pub ipv4_exit : (text : List ℕ) (ip : Ipv4Addr) (number : ℕ) → IsStdIpv4 text ip → number ≡ ipv4_bits ip → IsReadAs Family.V4 text (Some (V4 number))
ipv4_exit text ip number is same (V4 other) =
    let exact = ipv4_read text ip number is same other in
    (λ e. (exact.0 (cc), refl), λ (also, _). ap (option_map V4) (exact.1 also))
ipv4_exit text ip number is same (V6 other) = (λ e. cc, λ (also, other_family). cc)

pub ipv4_none : (text : List ℕ) → ((ip : Ipv4Addr) → ¬ IsStdIpv4 text ip) → IsReadAs Family.V4 text None
ipv4_none text refused (V4 other) =
    (λ e. absurd (none-some (V4 other) e), λ (also, _). absurd (none-some other ((ipv4_refused text refused other).1 also)))
ipv4_none text refused (V6 other) = (λ e. absurd (none-some (V6 other) e), λ (also, other_family). cc)

pub ipv6_exit : (text : List ℕ) (ip : Ipv6Addr) (number : ℕ) → ¬ (Contains text 46) → IsStdIpv6 text ip → number ≡ ipv6_bits ip → IsReadAs Family.V6 text (Some (V6 number))
ipv6_exit text ip number no_dot is same (V6 other) =
    let exact = ipv6_read text ip number no_dot is same other in
    (λ e. (exact.0 (cc), refl), λ (also, _). ap (option_map V6) (exact.1 also))
ipv6_exit text ip number no_dot is same (V4 other) = (λ e. cc, λ (also, other_family). cc)

pub ipv6_none : (text : List ℕ) → ((ip : Ipv6Addr) → ¬ IsStdIpv6 text ip) → IsReadAs Family.V6 text None
ipv6_none text refused (V6 other) =
    (λ e. absurd (none-some (V6 other) e), λ (also, _). absurd (none-some other ((ipv6_refused text refused other).1 also)))
ipv6_none text refused (V4 other) = (λ e. absurd (none-some (V4 other) e), λ (also, other_family). cc)

-- a dot tells the family
with_dot : (text : List ℕ) (address : Address) → Contains text 46 → IsAddressText text address → family_of address ≡ Family.V4
with_dot text (V4 number) dot is = refl
with_dot text (V6 number) dot is = absurd (ipv6_no_dot text number is dot)

without_dot : (text : List ℕ) (address : Address) → ¬ (Contains text 46) → IsAddressText text address → family_of address ≡ Family.V6
without_dot text (V6 number) no_dot is = refl
without_dot text (V4 number) no_dot is = absurd (no_dot (ipv4_has_dot text number is))

pub read_with_dot : (text : List ℕ) (read : Option Address) → Contains text 46 → IsReadAs Family.V4 text read → (address : Address) → (read ≡ Some address) ↔ IsAddressText text address
read_with_dot text read dot exact address = (λ e. ((exact address).0 e).0, λ is. (exact address).1 (is, with_dot text address dot is))

pub read_without_dot : (text : List ℕ) (read : Option Address) → ¬ (Contains text 46) → IsReadAs Family.V6 text read → (address : Address) → (read ≡ Some address) ↔ IsAddressText text address
read_without_dot text read no_dot exact address = (λ e. ((exact address).0 e).0, λ is. (exact address).1 (is, without_dot text address no_dot is))

-- ---- a prefix

-- an address's text has no slash
decimal_lacks_slash : (number : ℕ) → number < 256 → LacksSlash (decimal number)
decimal_lacks_slash number fits = All-weaker IsHigh (λ c. c ≢ 47) (λ c high. omega (arith, high)) (decimal number) (decimal_high number (omega arith))

then_dot : (number : ℕ) (rest : List ℕ) → number < 256 → LacksSlash rest → LacksSlash (decimal number ++ (46 ∷ rest))
then_dot number rest fits lacks = All-append (λ c. c ≢ 47) (decimal number) (46 ∷ rest) (decimal_lacks_slash number fits) (All-cons (λ c. c ≢ 47) 46 rest (omega arith) lacks)

ipv4_lacks_slash : (number : ℕ) → LacksSlash (dotted_text (ipv4_octets number))
unfolding dotted_text
ipv4_lacks_slash number =
    then_dot _ _ (octets_below 4 number 0) (then_dot _ _ (octets_below 4 number 1) (then_dot _ _ (octets_below 4 number 2) (decimal_lacks_slash _ (octets_below 4 number 3))))

address_lacks_slash : (text : List ℕ) (address : Address) → IsAddressText text address → LacksSlash text
unfolding IsAddressText
address_lacks_slash text (V4 number) (fits, spelled) = rw spelled (ipv4_lacks_slash number)
address_lacks_slash text (V6 number) (fits, is) =
    All-weaker IsHigh (λ c. c ≢ 47) (λ c high. omega (arith, high)) text (ipv6_high text (ipv6_groups number) is)

-- a text has one first slash
one_slash : (before other after rest : List ℕ) → LacksSlash before → LacksSlash other → before ++ (47 ∷ after) ≡ other ++ (47 ∷ rest) → (before ≡ other) × (after ≡ rest)
one_slash [] [] after rest lacks also same = (refl, ap (drop 1) same)
one_slash [] (c ∷ other) after rest lacks also same = absurd (All-head (λ k. k ≢ 47) c other also (sym (ap (λ t. get_or t 0 0) same)))
one_slash (b ∷ before) [] after rest lacks also same = absurd (All-head (λ k. k ≢ 47) b before lacks (ap (λ t. get_or t 0 0) same))
one_slash (b ∷ before) (c ∷ other) after rest lacks also same =
    let (fronts, backs) = one_slash before other after rest (All-tail (λ k. k ≢ 47) b before lacks) (All-tail (λ k. k ≢ 47) c other also) (ap (drop 1) same) in
    (ap₂ ◌∷◌ (ap (λ t. get_or t 0 0) same) fronts, backs)

-- where `split_once` cuts
pub cut_at_slash : (text : List ℕ) (parts : Option (Bor (List ℕ) × Bor (List ℕ))) → IsSplitOnceResult 47 text parts → MatchOption parts (LacksSlash text) (λ p. IsAroundSlash text p.0.now p.1.now)
cut_at_slash text parts cut = by_case parts (split_parts 47 text parts cut (omega arith))
  where
    by_case : (r : Option (Bor (List ℕ) × Bor (List ℕ))) → MatchOption r ((i : ℕ) → i < length text → get_or text i 0 ≢ 47) (λ x. (text ≡ x.0.now ++ (47 ∷ x.1.now)) × ((i : ℕ) → i < length x.0.now → get_or x.0.now i 0 ≢ 47)) → MatchOption r (LacksSlash text) (λ p. IsAroundSlash text p.0.now p.1.now)
    by_case None lacks = All-from_get_or (λ c. c ≢ 47) text 0 lacks
    by_case (Some p) found = (found.0, All-from_get_or (λ c. c ≢ 47) p.0.now 0 found.1)

-- what the parts of a prefix's text are
prefix_parts : (text before after : List ℕ) (prefix : PrefixBits) → IsAroundSlash text before after → (is : IsPrefixText text prefix) → IsAddressText before is.address × (is.count < 256) × (after ≡ decimal is.count)
prefix_parts text before after prefix (split, lacks) is =
    let (front, back) = one_slash before is.address_text after (decimal is.count) lacks (address_lacks_slash is.address_text is.address is.is_address) (sym split ∙ is.spelled) in
    let most = bit_count-le (family_of is.address) in
    let few = is.fits in
    (rw front is.is_address, omega arith, back)

module _ (text : List ℕ) where
  pub no_slash : (result : Option PrefixBits) → result ≡ None → LacksSlash text → (prefix : PrefixBits) → (result ≡ Some prefix) ↔ IsPrefixText text prefix
  no_slash result none lacks prefix = (
    λ e. absurd (none-some prefix (sym none ∙ e)),
    λ is.
        let slash : Contains text 47 = rw is.spelled (Contains-append_right is.address_text (47 ∷ decimal is.count) 47 (0, omega arith, refl)) in
        absurd (All-contains (λ c. c ≢ 47) text 47 lacks slash refl),
  )

  module _ (before after : List ℕ) (around : IsAroundSlash text before after) where
    pub no_address : (result : Option PrefixBits) → result ≡ None → ((address : Address) → (None ≡ Some address) ↔ IsAddressText before address) → (prefix : PrefixBits) → (result ≡ Some prefix) ↔ IsPrefixText text prefix
    no_address result none exact prefix = (
      λ e. absurd (none-some prefix (sym none ∙ e)),
      λ is. absurd (none-some is.address ((exact is.address).1 (prefix_parts text before after prefix around is).0)),
    )

    pub no_length : (result : Option PrefixBits) → result ≡ None → ((number : ℕ) → (None ≡ Some number) ↔ ((number < 256) × (after ≡ decimal number))) → (prefix : PrefixBits) → (result ≡ Some prefix) ↔ IsPrefixText text prefix
    no_length result none exact prefix = (
      λ e. absurd (none-some prefix (sym none ∙ e)),
      λ is.
          let (_, small, spelled) = prefix_parts text before after prefix around is in
          absurd (none-some is.count ((exact is.count).1 (small, spelled))),
    )

    pub both_read : (address : Address) (count : ℕ) (result : Option PrefixBits) → ((other : Address) → (Some address ≡ Some other) ↔ IsAddressText before other) → ((number : ℕ) → (Some count ≡ Some number) ↔ ((number < 256) × (after ≡ decimal number))) → (IsSome result ↔ (count ≤ bit_count (family_of address))) → IfSome result (λ prefix. prefix ≡ prefix_of address count) → (prefix : PrefixBits) → (result ≡ Some prefix) ↔ IsPrefixText text prefix
    both_read address count None exact plain fits value prefix = (
      λ e. absurd (none-some prefix e),
      λ is.
          let (front, small, back) = prefix_parts text before after prefix around is in
          let same_address : address ≡ is.address = let e = (exact is.address).1 front in cc in
          let same_count : count ≡ is.count = let e = (plain is.count).1 (small, back) in cc in
          absurd (false≢true (fits.1 (rw (same_address, same_count) is.fits))),
    )
    both_read address count (Some made) exact plain fits value prefix = (
      λ e. record {
        address_text = before;
        address = address;
        count = count;
        spelled = around.0 ∙ ap (λ (back : List ℕ). before ++ (47 ∷ back)) ((plain count).0 refl).1;
        is_address = (exact address).0 refl;
        fits = fits.0 refl;
        value = let same : made ≡ prefix = cc in sym same ∙ value;
      },
      λ is.
          let (front, small, back) = prefix_parts text before after prefix around is in
          let same_address : address ≡ is.address = let e = (exact is.address).1 front in cc in
          let same_count : count ≡ is.count = let e = (plain is.count).1 (small, back) in cc in
          ap Some (value ∙ ap₂ prefix_of same_address same_count ∙ sym is.value),
    )
