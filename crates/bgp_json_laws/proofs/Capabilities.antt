-- Capabilities whose objects are equal are equal.
use Rattle.std.proofs.Common.{◌≡◌, ◌∙◌, ◌++◌, ◌%◌, ◌&&◌, ◌==◌, ℕ, Bool, true, false, List, [], ◌∷◌, Option, Some, None, bit_or, codes, drop, if◌then◌else◌, length, nat_le, slice_index, refl, sym, ap, ap₂, subst, arith}
use Rattle.std.proofs.lemmas.Bool.{and_parts, leb-true}
use Rattle.std.proofs.lemmas.Option.{cond_some, none-some}
use Rattle.std.proofs.lemmas.List.Elements.{All-drop}
use Rattle.byteorder.specs.Endian.{big_bytes, big_number}
use Rattle.json.specs.Json.{Json}
use Rattle.bgp_wire.specs.Octets.{AreOctets}
use Rattle.bgp_open.specs.Triplet.{Triplet}
use Rattle.bgp_values.specs.CapabilityValue.{CapabilityValue, Counted, family, offered, next_hops, role, restart, as_number, paths, long_lived, names, as_number_value, capability_value, counted_in, family_value, has_way, is_empty_code, long_lived_value, names_value, next_hops_value, offered_value, paths_value, restart_value, role_value, with_domain, with_host}
use Rattle.bgp_values.specs.Items.{has_bits, items_of}
use Rattle.bgp_values.specs.declared.items.Item.TheVariants.{HopFamily, RestartFamily, PathFamily, LongLivedFamily}
use Rattle.bgp_json_values.specs.CapabilityJson.{capability_json, capability_members, capability_value_json, flag, itself, spelled_capability, spelled_family, spelled_text}
use Rattle.bgp_json_values.specs.ItemJson.{family_members, item_json}
use Rattle.bgp_json_laws.specs.Laws.{IsTriplet}
use Rattle.bgp_json_laws.proofs.Items.{fits_big, same_family, same_hop_family, same_long_lived_family, same_path_family, same_restart_family}
use Rattle.bgp_json_laws.proofs.Lists.{joined_equal}
use Rattle.bgp_json_laws.proofs.Lookups.{of_key, same_members, text_of, truth_of, value_at}
use Rattle.bgp_json_laws.proofs.Pieces.{IsPiece, IsTested, each_piece, each_tested}
use Rattle.bgp_json_laws.proofs.Spellings.{same_item}
use Rattle.bgp_json_laws.proofs.Tables.{same_role}
use Rattle.bgp_json_laws.proofs.Texts.{IsOctet, bytes_of, same_number_json}

-- values that this reads spell the same octets if their JSON is equal
abbrev Alike : (List ℕ → Option CapabilityValue) → Type 0
Alike read =
    (octets others : List ℕ) (a b : CapabilityValue) → AreOctets octets → AreOctets others → read octets ≡ Some a → read others ≡ Some b
    → capability_value_json a ≡ capability_value_json b → spelled_capability a ≡ spelled_capability b

-- a value that is read if a test is passed
by_test : (test : List ℕ → Bool) (value : List ℕ → CapabilityValue)
    → ((octets others : List ℕ) → AreOctets octets → AreOctets others → test octets ≡ true → test others ≡ true
    → capability_value_json (value octets) ≡ capability_value_json (value others) → spelled_capability (value octets) ≡ spelled_capability (value others))
    → Alike (λ octets. if test octets then Some (value octets) else None)
by_test test value same octets others a b are too first second e =
    let x = cond_some (test octets) (value octets) a first in
    let y = cond_some (test others) (value others) b second in
    sym (ap spelled_capability x.1)
    ∙ same octets others are too x.0 y.0 (ap capability_value_json x.1 ∙ e ∙ sym (ap capability_value_json y.1))
    ∙ ap spelled_capability y.1

choose : (test : Bool) (first second : List ℕ → Option CapabilityValue) → Alike first → Alike second
    → Alike (λ octets. if test then first octets else second octets)
choose true first second F S = F
choose false first second F S = S

-- ---- each value

same_family_value : Alike family_value
same_family_value = by_test (λ octets. length octets == 4) (λ octets. family (big_number 2 octets) (slice_index octets 3))
    (λ octets others are too first second e.
    let three = bytes_of octets are 3 in
    let three' = bytes_of others too 3 in
    let same = same_family (big_number 2 octets) (slice_index octets 3) (big_number 2 others) (slice_index others 3) [] []
    (fits_big 2 0 octets are (omega arith)) (omega (arith, three)) (fits_big 2 0 others too (omega arith)) (omega (arith, three')) (same_members (family_members (big_number 2 octets) (slice_index octets 3)) (family_members (big_number 2 others) (slice_index others 3)) e) in
    ap₂ (λ (afi safi : ℕ). big_bytes 2 afi ++ 0 ∷ safi ∷ []) same.0 same.1)

same_offered : Alike offered_value
same_offered = by_test (λ octets. length octets == 0) (λ octets. offered) (λ octets others are too first second e. refl)

same_next_hops : Alike next_hops_value
same_next_hops = by_test _ (λ octets. next_hops (items_of HopFamily octets))
    (λ octets others are too first second e.
    joined_equal (item_json HopFamily) (item_json HopFamily) itself itself (IsPiece 6) (IsPiece 6) same_hop_family (items_of HopFamily octets) (items_of HopFamily others)
    (each_piece 6 octets are) (each_piece 6 others too) e)

same_role_value : Alike role_value
same_role_value = by_test (λ octets. (length octets == 1) && nat_le (slice_index octets 0) 4) (λ octets. role (slice_index octets 0))
    (λ octets others are too first second e.
    ap (λ (n : ℕ). n ∷ []) (same_role (slice_index octets 0) (slice_index others 0) (leb-true _ _ (and_parts _ _ first).1) (leb-true _ _ (and_parts _ _ second).1) (ap text_of e)))

abbrev restart_octets : Bool → Bool → ℕ → List ℕ
restart_octets restarted notification seconds = big_bytes 2 (bit_or (bit_or (flag restarted 32768) (flag notification 16384)) seconds)

same_restart : Alike restart_value
same_restart = by_test _
    (λ octets. restart (has_bits 128 (slice_index octets 0)) (has_bits 64 (slice_index octets 0)) (big_number 2 octets % 4096) (items_of RestartFamily (drop 2 octets)))
    (λ octets others are too first second e.
    let restarted : has_bits 128 (slice_index octets 0) ≡ has_bits 128 (slice_index others 0) = ap (λ (j : Json). truth_of (value_at (codes "restarted") j)) e in
    let notification : has_bits 64 (slice_index octets 0) ≡ has_bits 64 (slice_index others 0) = ap (λ (j : Json). truth_of (value_at (codes "notification") j)) e in
    let seconds = same_number_json (big_number 2 octets % 4096) (big_number 2 others % 4096) (omega arith) (omega arith) (ap (value_at (codes "time")) e) in
    let families = joined_equal (item_json RestartFamily) (item_json RestartFamily) spelled_family spelled_family (IsPiece 4) (IsPiece 4) same_restart_family
    (items_of RestartFamily (drop 2 octets)) (items_of RestartFamily (drop 2 others)) (each_piece 4 (drop 2 octets) (All-drop IsOctet 2 octets are))
    (each_piece 4 (drop 2 others) (All-drop IsOctet 2 others too)) (ap (value_at (codes "families")) e) in
    let flags : restart_octets (has_bits 128 (slice_index octets 0)) (has_bits 64 (slice_index octets 0)) (big_number 2 octets % 4096)
    ≡ restart_octets (has_bits 128 (slice_index others 0)) (has_bits 64 (slice_index others 0)) (big_number 2 others % 4096) = rw (restarted, notification, seconds) refl in
    ap₂ ◌++◌ flags families)

same_as_number : Alike as_number_value
same_as_number = by_test (λ octets. length octets == 4) (λ octets. as_number (big_number 4 octets))
    (λ octets others are too first second e.
    ap (big_bytes 4) (same_number_json (big_number 4 octets) (big_number 4 others) (fits_big 4 0 octets are (omega arith)) (fits_big 4 0 others too (omega arith)) e))

same_paths : Alike paths_value
same_paths = by_test _ (λ octets. paths (items_of PathFamily octets))
    (λ octets others are too first second e.
    joined_equal (item_json PathFamily) (item_json PathFamily) itself itself (IsTested has_way 4) (IsTested has_way 4)
    (λ o p is also same. same_path_family o p is.piece is.passes also.piece also.passes same) (items_of PathFamily octets) (items_of PathFamily others)
    (each_tested has_way 4 octets are (and_parts _ _ first).1) (each_tested has_way 4 others too (and_parts _ _ second).1) e)

same_long_lived : Alike long_lived_value
same_long_lived = by_test _ (λ octets. long_lived (items_of LongLivedFamily octets))
    (λ octets others are too first second e.
    joined_equal (item_json LongLivedFamily) (item_json LongLivedFamily) spelled_family spelled_family (IsPiece 7) (IsPiece 7) same_long_lived_family
    (items_of LongLivedFamily octets) (items_of LongLivedFamily others) (each_piece 7 octets are) (each_piece 7 others too) e)

with_domain_is : (host : List ℕ) (found : Option Counted) (a : CapabilityValue) → with_domain host found ≡ Some a → (domain : List ℕ) × (names host domain ≡ a)
with_domain_is host None a e = absurd (none-some a e)
with_domain_is host (Some domain) a e = (domain.text, (cond_some (length domain.rest == 0) (names host domain.text) a e).1)

pub with_host_is : (found : Option Counted) (a : CapabilityValue) → with_host found ≡ Some a → (host domain : List ℕ) × (names host domain ≡ a)
with_host_is None a e = absurd (none-some a e)
with_host_is (Some host) a e = let rest = with_domain_is host.text (counted_in host.rest) a e in (host.text, rest.0, rest.1)

same_names : Alike names_value
same_names octets others a b are too first second e =
    let x = with_host_is (counted_in octets) a first in
    let y = with_host_is (counted_in others) b second in
    let same = ap capability_value_json x.2 ∙ e ∙ sym (ap capability_value_json y.2) in
    let host : x.0 ≡ y.0 = ap (λ (j : Json). text_of (value_at (codes "host") j)) same in
    let domain : x.1 ≡ y.1 = ap (λ (j : Json). text_of (value_at (codes "domain") j)) same in
    sym (ap spelled_capability x.2) ∙ ap₂ (λ (h d : List ℕ). spelled_text h ++ spelled_text d) host domain ∙ ap spelled_capability y.2

same_none : Alike (λ octets. None)
same_none octets others a b are too first second e = absurd (none-some a first)

same_value : (code : ℕ) → Alike (capability_value code)
same_value code =
    choose (code == 1) family_value _ same_family_value
    (choose (is_empty_code code) offered_value _ same_offered
    (choose (code == 5) next_hops_value _ same_next_hops
    (choose (code == 9) role_value _ same_role_value
    (choose (code == 64) restart_value _ same_restart
    (choose (code == 65) as_number_value _ same_as_number
    (choose (code == 69) paths_value _ same_paths
    (choose (code == 71) long_lived_value _ same_long_lived
    (choose (code == 73) names_value _ same_names same_none))))))))

-- ---- capabilities

same_parts : (code : ℕ) (value other : List ℕ) → AreOctets value → AreOctets other
    → capability_members record { code = code; value = value } ≡ capability_members record { code = code; value = other } → value ≡ other
same_parts code value other are too e =
    same_item capability_value_json capability_value_json spelled_capability spelled_capability (capability_value code value) (capability_value code other) value other are too
    (λ a b first second same. same_value code value other a b are too first second same) (ap (drop 2) e)

pub same_capability : (c d : Triplet) → IsTriplet c → IsTriplet d → capability_json c ≡ capability_json d → c ≡ d
same_capability c d is also e =
    let ms = same_members (capability_members c) (capability_members d) e in
    let small = is.code in
    let small' = also.code in
    let code = same_number_json c.code d.code (omega (arith, small)) (omega (arith, small')) (ap (of_key (codes "code")) ms) in
    let value = same_parts d.code c.value d.value is.value also.value (subst (λ (k : ℕ). capability_members record { code = k; value = c.value } ≡ capability_members d) code ms) in
    λ i. record { code = code i; value = value i }
