-- Numbers in the values of capabilities and attributes are in decimal.
use Rattle.std.proofs.Common.{◌≡◌, ◌%◌, ◌==◌, ◌<◌, ◌^◌, ℕ, Bool, true, false, List, Option, Some, None, drop, if◌then◌else◌, slice_index, subst, arith}
use Rattle.std.proofs.lemmas.Option.{cond_some, none-some}
use Rattle.std.proofs.lemmas.List.Elements.{All-drop}
use Rattle.byteorder.specs.Endian.{big_number}
use Rattle.bgp_wire.specs.Octets.{AreOctets}
use Rattle.bgp_open.specs.Triplet.{Triplet}
use Rattle.bgp_attr.specs.Segments.{WireSegment, number_width}
use Rattle.bgp_values.specs.AttributeValue as attribute
use Rattle.bgp_values.specs.AttributeValue.{AttributeValue, address_value, aggregator_value, as4_path_value, atomic_value, attribute_value, is_address_type, is_number_type, items_value, metric_value, number_value, origin_value, path_value}
use Rattle.bgp_values.specs.CapabilityValue as capability
use Rattle.bgp_values.specs.CapabilityValue.{CapabilityValue, as_number_value, capability_value, counted_in, family_value, is_empty_code, long_lived_value, names_value, next_hops_value, offered_value, paths_value, restart_value, role_value}
use Rattle.bgp_values.specs.Items.{has_bits, item_size, items_of}
use Rattle.bgp_values.specs.PathSegments.{segments_of}
use Rattle.bgp_values.specs.declared.items.Item.{Item}
use Rattle.bgp_values.specs.declared.items.Item.TheVariants as item
use Rattle.bgp_json_values.specs.AttributeJson.{as_item, attribute_value_json, segment_json}
use Rattle.bgp_json_values.specs.CapabilityJson.{capability_json, capability_members, capability_value_json, spelled_capability}
use Rattle.bgp_json_values.specs.ItemJson.{item_json, items_json}
use Rattle.bgp_json_laws.specs.Laws.{IsTriplet}
use Rattle.bgp_json_laws.proofs.Capabilities.{with_host_is}
use Rattle.bgp_json_laws.proofs.Decimals.{HasDecimals, of_array, of_number, of_object, of_value}
use Rattle.bgp_json_laws.proofs.Items.{fits_big}
use Rattle.bgp_json_laws.proofs.Paths.{IsSegmentOf, each_segment}
use Rattle.bgp_json_laws.proofs.Pieces.{IsPiece, each_piece}
use Rattle.bgp_json_laws.proofs.Texts.{IsOctet, bytes_of}
use Rattle.bgp_json_laws.proofs.Values.{behind_test, width_fits}

-- ---- items

octet_fits : (k : ℕ) (octets : List ℕ) → AreOctets octets → slice_index octets k < 2 ^ 64
octet_fits k octets are = let small = bytes_of octets are k in omega (arith, small)

of_item : (kind : Item) (octets : List ℕ) → AreOctets octets → HasDecimals (item_json kind octets)
of_item item.HopFamily octets are =
    (of_number _ (fits_big 2 0 octets are (omega arith)), (of_number _ (fits_big 2 2 octets are (omega arith)), (of_number _ (fits_big 2 4 octets are (omega arith)), tt)))
of_item item.RestartFamily octets are = (of_number _ (fits_big 2 0 octets are (omega arith)), (of_number _ (octet_fits 2 octets are), (tt, tt)))
of_item item.PathFamily octets are = (of_number _ (fits_big 2 0 octets are (omega arith)), (of_number _ (octet_fits 2 octets are), (tt, tt)))
of_item item.LongLivedFamily octets are =
    (of_number _ (fits_big 2 0 octets are (omega arith)), (of_number _ (octet_fits 2 octets are), (tt, (of_number _ (fits_big 3 4 octets are (omega arith)), tt))))
of_item item.AsNumber2 octets are = of_number _ (fits_big 2 0 octets are (omega arith))
of_item item.AsNumber4 octets are = of_number _ (fits_big 4 0 octets are (omega arith))
of_item item.Community octets are = tt
of_item item.ExtendedCommunity octets are = tt
of_item item.LargeCommunity octets are = tt
of_item item.Cluster octets are = tt

of_items : (kind : Item) (octets : List ℕ) → AreOctets octets → HasDecimals (items_json kind (items_of kind octets))
of_items kind octets are =
    of_array (item_json kind) (IsPiece (item_size kind)) (λ piece is. of_item kind piece is.are) (items_of kind octets) (each_piece (item_size kind) octets are)

-- ---- capabilities

abbrev Tells : (List ℕ → Option CapabilityValue) → Type 0
Tells read = (octets : List ℕ) (a : CapabilityValue) → AreOctets octets → read octets ≡ Some a → HasDecimals (capability_value_json a)

tells : (test : List ℕ → Bool) (value : List ℕ → CapabilityValue) → ((octets : List ℕ) → AreOctets octets → HasDecimals (capability_value_json (value octets)))
    → Tells (λ octets. if test octets then Some (value octets) else None)
tells test value each octets a are e =
    subst (λ (v : CapabilityValue). HasDecimals (capability_value_json v)) (cond_some (test octets) (value octets) a e).1 (each octets are)

either : (test : Bool) (first second : List ℕ → Option CapabilityValue) → Tells first → Tells second → Tells (λ octets. if test then first octets else second octets)
either true first second F S = F
either false first second F S = S

tells_names : Tells names_value
tells_names octets a are e =
    let is = with_host_is (counted_in octets) a e in
    subst (λ (v : CapabilityValue). HasDecimals (capability_value_json v)) is.2 (tt, (tt, tt))

tells_none : Tells (λ octets. None)
tells_none octets a are e = absurd (none-some a e)

tells_value : (code : ℕ) → Tells (capability_value code)
tells_value code =
    either (code == 1) family_value _ (tells _ (λ octets. capability.family (big_number 2 octets) (slice_index octets 3)) (λ octets are. (of_number _ (fits_big 2 0 octets are (omega arith)), (of_number _ (octet_fits 3 octets are), tt))))
    (either (is_empty_code code) offered_value _ (tells _ (λ octets. capability.offered) (λ octets are. tt))
    (either (code == 5) next_hops_value _ (tells _ (λ octets. capability.next_hops (items_of item.HopFamily octets)) (λ octets are. of_items item.HopFamily octets are))
    (either (code == 9) role_value _ (tells _ (λ octets. capability.role (slice_index octets 0)) (λ octets are. tt))
    (either (code == 64) restart_value _
    (tells _ (λ octets. capability.restart (has_bits 128 (slice_index octets 0)) (has_bits 64 (slice_index octets 0)) (big_number 2 octets % 4096) (items_of item.RestartFamily (drop 2 octets)))
    (λ octets are. (tt, (tt, (of_number (big_number 2 octets % 4096) (omega arith), (of_items item.RestartFamily (drop 2 octets) (All-drop IsOctet 2 octets are), tt))))))
    (either (code == 65) as_number_value _ (tells _ (λ octets. capability.as_number (big_number 4 octets)) (λ octets are. of_number _ (fits_big 4 0 octets are (omega arith))))
    (either (code == 69) paths_value _ (tells _ (λ octets. capability.paths (items_of item.PathFamily octets)) (λ octets are. of_items item.PathFamily octets are))
    (either (code == 71) long_lived_value _ (tells _ (λ octets. capability.long_lived (items_of item.LongLivedFamily octets)) (λ octets are. of_items item.LongLivedFamily octets are))
    (either (code == 73) names_value _ tells_names tells_none))))))))

pub of_capability : (c : Triplet) → IsTriplet c → HasDecimals (capability_json c)
of_capability c is =
    let small = is.code in
    of_object (capability_members c) (
      of_number c.code (omega (arith, small)),
      (
        tt,
        of_value capability_value_json spelled_capability (capability_value c.code c.value) c.value
            (λ a e. tells_value c.code c.value a is.value e),
      ),
    )

-- ---- attributes, but for routes

abbrev Says : (List ℕ → Option AttributeValue) → Type 0
Says read = (octets : List ℕ) (a : AttributeValue) → AreOctets octets → read octets ≡ Some a → HasDecimals (attribute_value_json a)

says : (test : List ℕ → Bool) (value : List ℕ → AttributeValue) → ((octets : List ℕ) → AreOctets octets → HasDecimals (attribute_value_json (value octets)))
    → Says (λ octets. if test octets then Some (value octets) else None)
says test value each octets a are e =
    subst (λ (v : AttributeValue). HasDecimals (attribute_value_json v)) (cond_some (test octets) (value octets) a e).1 (each octets are)

or_else : (test : Bool) (first second : List ℕ → Option AttributeValue) → Says first → Says second → Says (λ octets. if test then first octets else second octets)
or_else true first second F S = F
or_else false first second F S = S

of_numbers : (as4 : Bool) (octets : List ℕ) → AreOctets octets → HasDecimals (items_json (as_item as4) (items_of (as_item as4) octets))
of_numbers true octets are = of_items item.AsNumber4 octets are
of_numbers false octets are = of_items item.AsNumber2 octets are

of_segment : (as4 : Bool) (s : WireSegment) → IsSegmentOf (number_width as4) s → HasDecimals (segment_json as4 s)
of_segment as4 s is = (tt, (of_numbers as4 s.numbers is.are, tt))

says_path : (as4 : Bool) → Says (path_value as4)
says_path as4 =
    says _ (λ octets. attribute.path as4 (segments_of (number_width as4) octets))
    (λ octets are. of_array (segment_json as4) (IsSegmentOf (number_width as4)) (of_segment as4) (segments_of (number_width as4) octets) (each_segment (number_width as4) octets are))

says_aggregator : (as4 : Bool) → Says (aggregator_value as4)
says_aggregator as4 =
    says _ (λ octets. attribute.aggregator (big_number (number_width as4) octets) (big_number 4 (drop (number_width as4) octets)))
    (λ octets are. (of_number _ (width_fits as4 octets are), (tt, tt)))

says_items : (kind : Item) → Says (items_value kind)
says_items kind = says _ (λ octets. attribute.items kind (items_of kind octets)) (λ octets are. of_items kind octets are)

says_none : Says (λ octets. None)
says_none octets a are e = absurd (none-some a e)

pub says_value : (as4 : Bool) (kind : ℕ) → Says (attribute_value as4 kind)
says_value as4 kind =
    or_else (kind == 1) origin_value _ (says _ (λ octets. attribute.origin (slice_index octets 0)) (λ octets are. tt))
    (or_else (kind == 2) (path_value as4) _ (says_path as4)
    (or_else (is_address_type kind) address_value _ (says _ (λ octets. attribute.address (big_number 4 octets)) (λ octets are. tt))
    (or_else (is_number_type kind) number_value _ (says _ (λ octets. attribute.number (big_number 4 octets)) (λ octets are. of_number _ (fits_big 4 0 octets are (omega arith))))
    (or_else (kind == 6) atomic_value _ (says _ (λ octets. attribute.atomic) (λ octets are. tt))
    (or_else (kind == 7) (aggregator_value as4) _ (says_aggregator as4)
    (or_else (kind == 8) (items_value item.Community) _ (says_items item.Community)
    (or_else (kind == 10) (items_value item.Cluster) _ (says_items item.Cluster)
    (or_else (kind == 16) (items_value item.ExtendedCommunity) _ (says_items item.ExtendedCommunity)
    (or_else (kind == 17) as4_path_value _ says_as4_path
    (or_else (kind == 18) (aggregator_value true) _ (says_aggregator true)
    (or_else (kind == 26) metric_value _ (says _ (λ octets. attribute.metric (big_number 8 (drop 3 octets))) (λ octets are. tt))
    (or_else (kind == 32) (items_value item.LargeCommunity) _ (says_items item.LargeCommunity) says_none))))))))))))
  where
    says_as4_path : Says as4_path_value
    says_as4_path octets a are e = says_path true octets a are (behind_test octets a e)
