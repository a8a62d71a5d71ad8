-- The headers of IPv6, one after another.
use Rattle.std.proofs.Common.{◌≡◌, ◌≤◌, ◌<◌, ◌-◌, ◌∙◌, ℕ, zero, suc, List, [], ◌∷◌, ◌==◌, nat_lt, if◌then◌else◌, length, take, drop, refl, sym, ap, subst, arith, length-drop, slice_index, lit≤}
use Rattle.std.proofs.lemmas.Bool.{cond_both, cond-false, ltb-false, le-ltb}
use Rattle.byteorder.specs.Endian.{big_number}
use Rattle.segments.specs.declared.found.Addresses.{Addresses}
use Rattle.segments.specs.Link.{is_of}
use Rattle.segments.specs.Ip.{Other, FragmentOf, Tcp, Extension, Transport, Fragmented, Passed, Unknown}
use Rattle.segments.specs.Ip.{extension_at, payload_behind, extension_len, has_length, is_ipv6_fragment, fragment_before, fragment_at, passed_within, long_extension_at, Ipv6Header, ipv6_header_in, ipv6_payload_by, ipv6_payload}
use Rattle.segments.specs.Values.{IsWithin}

pub behind_transport : (most : ℕ) (addresses : Addresses) (next_header : ℕ) (octets : List ℕ) (count : ℕ) → extension_at next_header octets ≡ Transport
    → payload_behind (suc most) addresses next_header octets count ≡ Tcp addresses octets count
unfolding payload_behind
behind_transport most addresses next_header octets count is = rw (is, payload_behind) refl

pub behind_fragmented : (most : ℕ) (addresses : Addresses) (next_header : ℕ) (octets : List ℕ) (count : ℕ) → extension_at next_header octets ≡ Fragmented
    → payload_behind (suc most) addresses next_header octets count ≡ FragmentOf addresses
unfolding payload_behind
behind_fragmented most addresses next_header octets count is = rw (is, payload_behind) refl

pub behind_unknown : (most : ℕ) (addresses : Addresses) (next_header : ℕ) (octets : List ℕ) (count : ℕ) → extension_at next_header octets ≡ Unknown
    → payload_behind (suc most) addresses next_header octets count ≡ Other
unfolding payload_behind
behind_unknown most addresses next_header octets count is = rw (is, payload_behind) refl

pub behind_one : (most : ℕ) (addresses : Addresses) (next_header : ℕ) (octets : List ℕ) (count len : ℕ) → extension_at next_header octets ≡ Passed len
    → payload_behind (suc most) addresses next_header octets count ≡ payload_behind most addresses (slice_index octets 0) (drop len octets) (count - len)
unfolding payload_behind
behind_one most addresses next_header octets count len is = rw (is, payload_behind) refl

-- what is passed over is there
passed_is_within : (len : ℕ) (octets : List ℕ) → 8 ≤ len → IsWithin (passed_within len octets) octets
passed_is_within len octets least =
    cond_both (nat_lt (length octets) len) Unknown (Passed len) (λ (e : Extension). IsWithin e octets)
    (λ h. tt {0}) (λ h. (least, ltb-false _ _ h))

before_is_within : (next_header : ℕ) (octets : List ℕ) → IsWithin (fragment_before next_header) octets
before_is_within next_header octets =
    cond_both (is_of next_header (6 ∷ 0 ∷ 43 ∷ 60 ∷ [])) Fragmented Unknown (λ (e : Extension). IsWithin e octets) (λ h. tt {0}) (λ h. tt {0})

fragment_is_within : (octets : List ℕ) → 8 ≤ length octets → IsWithin (fragment_at octets) octets
fragment_is_within octets long =
    cond_both (is_ipv6_fragment (big_number 2 (drop 2 octets))) (fragment_before (slice_index octets 0)) (Passed 8) (λ (e : Extension). IsWithin e octets)
    (λ h. before_is_within (slice_index octets 0) octets) (λ h. (lit≤ tt, long))

long_is_within : (next_header : ℕ) (octets : List ℕ) → 8 ≤ length octets → IsWithin (long_extension_at next_header octets) octets
long_is_within next_header octets long =
    cond_both (has_length next_header) (passed_within (extension_len octets) octets) (if next_header == 44 then fragment_at octets else Unknown)
    (λ (e : Extension). IsWithin e octets)
    (λ h. passed_is_within (extension_len octets) octets (omega arith))
    (λ h. cond_both (next_header == 44) (fragment_at octets) Unknown (λ (e : Extension). IsWithin e octets) (λ h. fragment_is_within octets long) (λ h. tt {0}))

pub is_within : (next_header : ℕ) (octets : List ℕ) → IsWithin (extension_at next_header octets) octets
unfolding extension_at
is_within next_header octets =
    cond_both (next_header == 6) Transport (if nat_lt (length octets) 8 then Unknown else long_extension_at next_header octets)
    (λ (e : Extension). IsWithin e octets) (λ h. tt {0})
    (λ h. cond_both (nat_lt (length octets) 8) Unknown (long_extension_at next_header octets) (λ (e : Extension). IsWithin e octets)
    (λ h. tt {0}) (λ h. long_is_within next_header octets (ltb-false _ _ h)))

-- as many headers as there are octets are enough, where one less is enough for what stands behind
one_less : (most also : ℕ) (addresses : Addresses) (next_header : ℕ) (octets : List ℕ) (count : ℕ) (extension : Extension)
    → extension_at next_header octets ≡ extension
    → ((len : ℕ) → length (drop len octets) < most → length (drop len octets) < also
    → payload_behind most addresses (slice_index octets 0) (drop len octets) (count - len)
    ≡ payload_behind also addresses (slice_index octets 0) (drop len octets) (count - len))
    → length octets < suc most → length octets < suc also
    → payload_behind (suc most) addresses next_header octets count ≡ payload_behind (suc also) addresses next_header octets count
one_less most also addresses next_header octets count Transport is less below under =
    behind_transport most addresses next_header octets count is ∙ sym (behind_transport also addresses next_header octets count is)
one_less most also addresses next_header octets count Fragmented is less below under =
    behind_fragmented most addresses next_header octets count is ∙ sym (behind_fragmented also addresses next_header octets count is)
one_less most also addresses next_header octets count (Passed len) is less below under =
    let within = subst (λ (x : Extension). IsWithin x octets) is (is_within next_header octets) in
    let left = length-drop len octets in
    behind_one most addresses next_header octets count len is
    ∙ less len (omega (arith, within.0, within.1)) (omega (arith, within.0, within.1))
    ∙ sym (behind_one also addresses next_header octets count len is)
one_less most also addresses next_header octets count Unknown is less below under =
    behind_unknown most addresses next_header octets count is ∙ sym (behind_unknown also addresses next_header octets count is)

pub enough : (most also : ℕ) (addresses : Addresses) (next_header : ℕ) (octets : List ℕ) (count : ℕ) → length octets < most → length octets < also
    → payload_behind most addresses next_header octets count ≡ payload_behind also addresses next_header octets count
enough zero also addresses next_header octets count below under = absurd (omega arith)
enough (suc most) zero addresses next_header octets count below under = absurd (omega arith)
enough (suc most) (suc also) addresses next_header octets count below under =
    one_less most also addresses next_header octets count (extension_at next_header octets) refl
    (λ len. enough most also addresses (slice_index octets 0) (drop len octets) (count - len)) below under

-- what a packet of IPv6 carries, by its header and what stands behind it
pub carried : (octets rest : List ℕ) (header : Ipv6Header) → 40 ≤ length octets → header ≡ ipv6_header_in octets
    → rest ≡ take header.payload_len (drop 40 octets) → ipv6_payload_by header rest ≡ ipv6_payload octets
carried octets rest header long is there =
    ap (λ (o : List ℕ). ipv6_payload_by header o) there
    ∙ ap (λ (h : Ipv6Header). ipv6_payload_by h (take h.payload_len (drop 40 octets))) is
    ∙ sym (cond-false (nat_lt (length octets) 40) Other _ (le-ltb (length octets) 40 long))
