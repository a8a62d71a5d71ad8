-- Texts that determine what they are of: octets, numbers, addresses and prefixes.
use Rattle.std.proofs.Common.{◌≡◌, ◌≢◌, ◌∙◌, ◌++◌, ◌==◌, ◌<◌, ◌^◌, ℕ, zero, suc, true, not, List, [], ◌∷◌, All, get_or, refl, sym, ap, subst, arith, lit≤, codes, inl, inr}
use Rattle.std.specs.Fmt.{decimal}
use Rattle.std.proofs.lemmas.Bool.{and_from, ne_eqb, not_from_false}
use Rattle.std.proofs.lemmas.Fmt.{decimal_injective}
use Rattle.std.proofs.lemmas.List.Elements.{All-head, All-tail, All-weaker}
use Rattle.std.proofs.NetLemmas.Alphabet.{All-hex_groups_text, All-ipv4_text, IsDigitOrDot, IsHexOrColon}
use Rattle.std.proofs.NetLemmas.Ipv4.{read_ipv4_complete}
use Rattle.std.proofs.NetLemmas.Ipv6.{EndsGroups-nil, IsDotted-not_colon_hex, read_ipv6_complete}
use Rattle.std.proofs.NetLemmas.Options.{same_parts}
use Rattle.std.proofs.NetLemmas.Texts.{IsColonHex-hex_groups_text, IsDotted-ipv4_text}
use Rattle.std.specs.Net.Grammar.{IsColonHex, IsDotted}
use Rattle.std.specs.Net.Text.{hex_groups_text, ipv4_text}
use mathlib.Core.List.{append_cancel_left}
use Rattle.byteorder.specs.Endian.{big_bytes, big_number}
use Rattle.byteorder.specs.Numbers.{big_from-lt}
use Rattle.hex.specs.Hex.{decode_of, encode_lower}
use Rattle.hex.proofs.HexLemmas.{decode_of-encode_lower, decode_of-same}
use Rattle.bgp_prefix.specs.Address.{IsAddress, ipv6_groups}
use Rattle.bgp_prefix.specs.Prefix.{IsPrefix, PrefixBits, address_of, prefix_length, prefix_of}
use Rattle.bgp_prefix.specs.Text.{address_text, prefix_text}
use Rattle.bgp_prefix.specs.declared.address.Address.{Address}
use Rattle.bgp_prefix.specs.declared.address.Address.TheVariants.{V4, V6}
use Rattle.bgp_prefix.specs.PrefixLaws.{bit_count-le}
use Rattle.bgp_prefix.proofs.AddressNumbers.{same_groups, same_number}
use Rattle.bgp_prefix.proofs.PrintedIsRead.{lowest_address_is}
use Rattle.bgp_prefix.proofs.PrintedTexts.{dotted_text-four, ipv6_groups-fit, octets_below, shortened_text-hex_groups}
use Rattle.bgp_wire.specs.Octets.{AreOctets}
use Rattle.bgp_names.proofs.Distinct.{lacks, one_front}
use Rattle.bgp_json_values.specs.Objects.{number_of}
use Rattle.bgp_json_values.specs.Texts.{address_json, octets_json, prefix_json}
use Rattle.bgp_json_laws.proofs.Lookups.{text_of}

-- ---- octets

abbrev pub IsOctet : ℕ → Type 0
IsOctet octet = octet < 256

-- each of them by its place
pub bytes_of : (octets : List ℕ) → AreOctets octets → (k : ℕ) → get_or octets k 0 < 256
bytes_of [] are k = omega arith
bytes_of (o ∷ octets) are zero = All-head IsOctet o octets are
bytes_of (o ∷ octets) are (suc k) = bytes_of octets (All-tail IsOctet o octets are) k

pub same_octets : (octets others : List ℕ) → AreOctets octets → AreOctets others → octets_json octets ≡ octets_json others → octets ≡ others
same_octets octets others are also e =
    let text : encode_lower octets ≡ encode_lower others = ap text_of e in
    decode_of-same (encode_lower octets) octets others (decode_of-encode_lower octets (bytes_of octets are))
    (ap decode_of text ∙ decode_of-encode_lower others (bytes_of others also))

-- ---- numbers

pub same_number_json : (m n : ℕ) → m < 2 ^ 64 → n < 2 ^ 64 → number_of m ≡ number_of n → m ≡ n
same_number_json m n small also e = decimal_injective m n small also (ap text_of e)

-- the number of up to eight octets is below 2 ^ 64
pub number_fits : (count : ℕ) (octets : List ℕ) → AreOctets octets → big_number count octets < 256 ^ count
number_fits count octets are = big_from-lt 0 count octets (bytes_of octets are)

-- ---- addresses

dotted : (m : ℕ) → IsDotted (address_text (V4 m)) (big_bytes 4 m)
unfolding address_text
dotted m =
    subst (λ (t : List ℕ). IsDotted t (big_bytes 4 m)) (sym (dotted_text-four _ _ _ _))
    (IsDotted-ipv4_text (big_bytes 4 m) refl (octets_below 4 m))

six_text : (n : ℕ) → address_text (V6 n) ≡ hex_groups_text (ipv6_groups n)
unfolding address_text
six_text n = shortened_text-hex_groups (ipv6_groups n) 8 (omega arith) (ipv6_groups-fit n)

colons : (n : ℕ) → IsColonHex (address_text (V6 n)) (ipv6_groups n)
colons n = rw six_text (IsColonHex-hex_groups_text (ipv6_groups n) refl (ipv6_groups-fit n))

pub same_address_text : (a b : Address) → IsAddress a → IsAddress b → address_text a ≡ address_text b → a ≡ b
same_address_text (V4 m) (V4 n) small also e =
    let first = read_ipv4_complete (address_text (V4 m)) (big_bytes 4 m) [] (dotted m) (lit≤ tt) in
    let second = read_ipv4_complete (address_text (V4 m)) (big_bytes 4 n) [] (rw e (dotted n)) (lit≤ tt) in
    let same = same_parts _ _ _ _ (sym first ∙ second) in
    ap V4 (same_number 4 m n (omega arith) (omega arith) same.0)
same_address_text (V4 m) (V6 n) small also e = absurd (IsDotted-not_colon_hex (address_text (V4 m)) (big_bytes 4 m) (ipv6_groups n) (dotted m) (rw e (colons n)))
same_address_text (V6 m) (V4 n) small also e = absurd (IsDotted-not_colon_hex (address_text (V4 n)) (big_bytes 4 n) (ipv6_groups m) (dotted n) (rw (← e) (colons m)))
same_address_text (V6 m) (V6 n) small also e =
    let first = read_ipv6_complete (address_text (V6 m)) (ipv6_groups m) [] (colons m) EndsGroups-nil in
    let second = read_ipv6_complete (address_text (V6 m)) (ipv6_groups n) [] (rw e (colons n)) EndsGroups-nil in
    let same = same_parts _ _ _ _ (sym first ∙ second) in
    ap V6 (same_groups m n small also same.0)

pub same_address : (a b : Address) → IsAddress a → IsAddress b → address_json a ≡ address_json b → a ≡ b
same_address a b small also e = same_address_text a b small also (ap text_of e)

abbrev number_of_address : Address → ℕ
number_of_address (V4 m) = m
number_of_address (V6 n) = n

pub same_address_4 : (m n : ℕ) → m < 2 ^ 32 → n < 2 ^ 32 → address_json (V4 m) ≡ address_json (V4 n) → m ≡ n
same_address_4 m n small also e = ap number_of_address (same_address (V4 m) (V4 n) small also e)

-- ---- prefixes

no_slash : (text : List ℕ) → All (λ (c : ℕ). c ≢ 47) text → lacks 47 text ≡ true
no_slash [] all = refl
no_slash (c ∷ text) all =
    and_from (not (c == 47)) (lacks 47 text) (not_from_false (c == 47) (ne_eqb c 47 (All-head (λ (k : ℕ). k ≢ 47) c text all)))
    (no_slash text (All-tail (λ (k : ℕ). k ≢ 47) c text all))

dotted_differs : (c : ℕ) → IsDigitOrDot c → c ≢ 47
dotted_differs c (inl digit) e = omega arith
dotted_differs c (inr dot) e = omega arith

colon_differs : (c : ℕ) → IsHexOrColon c → c ≢ 47
colon_differs c (inl low) e = omega arith
colon_differs c (inr high) e = omega arith

four_text : (m : ℕ) → address_text (V4 m) ≡ ipv4_text (big_bytes 4 m)
unfolding address_text
four_text m = dotted_text-four _ _ _ _

address_lacks : (a : Address) → lacks 47 (address_text a) ≡ true
address_lacks (V4 m) = rw four_text (no_slash (ipv4_text (big_bytes 4 m)) (All-weaker IsDigitOrDot (λ (c : ℕ). c ≢ 47) dotted_differs _ (All-ipv4_text (big_bytes 4 m) (octets_below 4 m))))
address_lacks (V6 n) = rw six_text (no_slash (hex_groups_text (ipv6_groups n)) (All-weaker IsHexOrColon (λ (c : ℕ). c ≢ 47) colon_differs _ (All-hex_groups_text (ipv6_groups n) (ipv6_groups-fit n))))

count_fits : (p : PrefixBits) → IsPrefix p → prefix_length p < 2 ^ 64
count_fits p is = let most = bit_count-le p.family in omega (arith, is, most)

pub same_prefix : (p q : PrefixBits) → IsPrefix p → IsPrefix q → prefix_json p ≡ prefix_json q → p ≡ q
unfolding prefix_text
same_prefix p q is also e =
    let text : address_text (address_of p) ++ (codes "/" ++ decimal (prefix_length p)) ≡ address_text (address_of q) ++ (codes "/" ++ decimal (prefix_length q)) = ap text_of e in
    let parts = one_front 47 (address_text (address_of p)) (address_text (address_of q)) (codes "/" ++ decimal (prefix_length p)) (codes "/" ++ decimal (prefix_length q))
    (address_lacks (address_of p)) (address_lacks (address_of q)) refl refl text in
    let first = lowest_address_is p is in
    let second = lowest_address_is q also in
    let address = same_address_text (address_of p) (address_of q) first.0 second.0 parts.0 in
    let count = decimal_injective (prefix_length p) (prefix_length q) (count_fits p is) (count_fits q also) (append_cancel_left (codes "/") _ _ parts.1) in
    sym first.1 ∙ ap (λ (a : Address). prefix_of a (prefix_length p)) address ∙ ap (prefix_of (address_of q)) count ∙ second.1
