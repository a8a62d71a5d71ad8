-- What the value of an attribute spells are its octets: nothing is reserved in them.
use Rattle.std.specs.Prelude.{⊤}
use Rattle.std.proofs.Common.{suc, ◌≡◌, ◌∙◌, ◌==◌, ◌&&◌, ◌+◌, ◌<◌, ◌++◌, ◌∷◌, ℕ, List, [], Bool, true, Option, None, Some, refl, sym, ap, length, drop, nat_le, slice_index, arith}
use Rattle.std.proofs.lemmas.Bool.{and_parts, eqb-true}
use Rattle.std.proofs.lemmas.List.{length-drop, nil_from_length, take-append-drop}
use Rattle.byteorder.specs.Endian.{big_bytes, big_number}
use Rattle.bgp_prefix.proofs.AddressNumbers.{AreOctets}
use Rattle.bgp_attr.specs.Segments.{are_segments, number_width}
use Rattle.bgp_values.specs.AttributeValue.{AttributeValue, attribute_value, origin_value, path_value, as4_path_value, address_value, number_value, atomic_value, aggregator_value, items_value, metric_value, is_address_type, is_number_type}
use Rattle.bgp_values.specs.Items.{item_size}
use Rattle.bgp_values.specs.Pieces.{are_some_pieces}
use Rattle.bgp_values.specs.declared.items.Item.{Item}
use Rattle.bgp_values.specs.declared.items.Item.TheVariants as item
use Rattle.bgp_json_values.specs.AttributeJson.{spelled_attribute, width_of_type}
use Rattle.bgp_json_values.proofs.Joins.{are_dropped, either, number_front, number_whole, segments_joined, some_joined}

-- a value, if there is one, spells these octets
abbrev pub Spells : ℕ → List ℕ → Option AttributeValue → Type 0
Spells width octets None = ⊤
Spells width octets (Some value) = spelled_attribute width value ≡ octets

one_octet : (octets : List ℕ) → length octets ≡ 1 → slice_index octets 0 ∷ [] ≡ octets
one_octet [] len = absurd (omega (arith, len))
one_octet (o ∷ []) len = refl
one_octet (o ∷ p ∷ octets) len = absurd (omega (arith, len))

by_origin : (width : ℕ) (octets : List ℕ) → Spells width octets (origin_value octets)
by_origin width octets =
    either (Spells width octets) ((length octets == 1) && nat_le (slice_index octets 0) 2) _ None
    (λ is. one_octet octets (eqb-true _ _ (and_parts _ _ is).0)) (λ no. tt)

by_path : (width : ℕ) (as4 : Bool) (octets : List ℕ) → Spells width octets (path_value as4 octets)
by_path width as4 octets =
    either (Spells width octets) (are_segments 4 (number_width as4) octets) _ None (λ is. segments_joined (number_width as4) octets is) (λ no. tt)

by_as4_path : (width : ℕ) (octets : List ℕ) → Spells width octets (as4_path_value octets)
by_as4_path width octets = either (Spells width octets) (length octets == 0) None (path_value true octets) (λ is. tt) (λ no. by_path width true octets)

by_address : (width : ℕ) (octets : List ℕ) → AreOctets octets → Spells width octets (address_value octets)
by_address width octets are =
    either (Spells width octets) (length octets == 4) _ None (λ is. number_whole 4 octets (eqb-true _ _ is) are) (λ no. tt)

by_number : (width : ℕ) (octets : List ℕ) → AreOctets octets → Spells width octets (number_value octets)
by_number width octets are =
    either (Spells width octets) (length octets == 4) _ None (λ is. number_whole 4 octets (eqb-true _ _ is) are) (λ no. tt)

by_atomic : (width : ℕ) (octets : List ℕ) → Spells width octets (atomic_value octets)
by_atomic width octets =
    either (Spells width octets) (length octets == 0) _ None (λ is. sym (nil_from_length octets (eqb-true _ _ is))) (λ no. tt)

in_two : (width : ℕ) (octets : List ℕ) → length octets ≡ width + 4 → AreOctets octets
    → big_bytes width (big_number width octets) ++ big_bytes 4 (big_number 4 (drop width octets)) ≡ octets
in_two width octets len are =
    let front = number_front width octets (omega (arith, len)) are in
    let back = number_whole 4 (drop width octets) (length-drop width octets ∙ omega (arith, len)) (are_dropped width octets are) in
    (λ i. front i ++ back i) ∙ take-append-drop width octets

by_aggregator : (as4 : Bool) (octets : List ℕ) → AreOctets octets → Spells (number_width as4) octets (aggregator_value as4 octets)
by_aggregator as4 octets are =
    either (Spells (number_width as4) octets) (length octets == number_width as4 + 4) _ None
    (λ is. in_two (number_width as4) octets (eqb-true _ _ is) are) (λ no. tt)

some_octets : (kind : Item) → 0 < item_size kind
some_octets item.HopFamily = omega arith
some_octets item.RestartFamily = omega arith
some_octets item.PathFamily = omega arith
some_octets item.LongLivedFamily = omega arith
some_octets item.AsNumber2 = omega arith
some_octets item.AsNumber4 = omega arith
some_octets item.Community = omega arith
some_octets item.ExtendedCommunity = omega arith
some_octets item.LargeCommunity = omega arith
some_octets item.Cluster = omega arith

by_items : (width : ℕ) (kind : Item) (octets : List ℕ) → Spells width octets (items_value kind octets)
by_items width kind octets =
    either (Spells width octets) (are_some_pieces (item_size kind) octets) _ None
    (λ is. some_joined (item_size kind) octets (some_octets kind) is) (λ no. tt)

one_tlv : (octets : List ℕ) → length octets ≡ 11 → slice_index octets 0 ≡ 1 → big_number 2 (drop 1 octets) ≡ 11 → AreOctets octets
    → 1 ∷ big_bytes 2 11 ++ big_bytes 8 (big_number 8 (drop 3 octets)) ≡ octets
one_tlv [] len first second are = absurd (omega (arith, len))
one_tlv (o ∷ octets) len first second are =
    let left = length-drop 2 octets in
    let front = ap (big_bytes 2) (sym second) ∙ number_front 2 octets (omega (arith, len)) (λ k. are (suc k)) in
    let back = number_whole 8 (drop 2 octets) (omega (arith, left, len)) (are_dropped 2 octets (λ k. are (suc k))) in
    λ i. sym first i ∷ ((λ j. front j ++ back j) ∙ take-append-drop 2 octets) i

by_metric : (width : ℕ) (octets : List ℕ) → AreOctets octets → Spells width octets (metric_value octets)
by_metric width octets are =
    either (Spells width octets) ((length octets == 11) && ((slice_index octets 0 == 1) && (big_number 2 (drop 1 octets) == 11))) _ None
    (λ is.
    let parts = and_parts _ _ is in
    let others = and_parts _ _ parts.1 in
    one_tlv octets (eqb-true _ _ parts.0) (eqb-true _ _ others.0) (eqb-true _ _ others.1) are)
    (λ no. tt)

-- an AS number of AGGREGATOR has the width of AS numbers, and one of AS4_AGGREGATOR four octets
by_own_aggregator : (as4 : Bool) (kind : ℕ) (octets : List ℕ) → kind ≡ 7 → AreOctets octets → Spells (width_of_type as4 kind) octets (aggregator_value as4 octets)
by_own_aggregator as4 kind octets is are = rw is (by_aggregator as4 octets are)

by_as4_aggregator : (as4 : Bool) (kind : ℕ) (octets : List ℕ) → kind ≡ 18 → AreOctets octets → Spells (width_of_type as4 kind) octets (aggregator_value true octets)
by_as4_aggregator as4 kind octets is are = rw is (by_aggregator true octets are)

pub spelled : (as4 : Bool) (kind : ℕ) (octets : List ℕ) → AreOctets octets → Spells (width_of_type as4 kind) octets (attribute_value as4 kind octets)
spelled as4 kind octets are =
    let w = width_of_type as4 kind in
    let P = Spells w octets in
    either P (kind == 1) _ _ (λ is. by_origin w octets) (λ no.
    either P (kind == 2) _ _ (λ is. by_path w as4 octets) (λ no.
    either P (is_address_type kind) _ _ (λ is. by_address w octets are) (λ no.
    either P (is_number_type kind) _ _ (λ is. by_number w octets are) (λ no.
    either P (kind == 6) _ _ (λ is. by_atomic w octets) (λ no.
    either P (kind == 7) _ _ (λ is. by_own_aggregator as4 kind octets (eqb-true _ _ is) are) (λ no.
    either P (kind == 8) _ _ (λ is. by_items w item.Community octets) (λ no.
    either P (kind == 10) _ _ (λ is. by_items w item.Cluster octets) (λ no.
    either P (kind == 16) _ _ (λ is. by_items w item.ExtendedCommunity octets) (λ no.
    either P (kind == 17) _ _ (λ is. by_as4_path w octets) (λ no.
    either P (kind == 18) _ _ (λ is. by_as4_aggregator as4 kind octets (eqb-true _ _ is) are) (λ no.
    either P (kind == 26) _ _ (λ is. by_metric w octets are) (λ no.
    either P (kind == 32) _ None (λ is. by_items w item.LargeCommunity octets) (λ no. tt)))))))))))))
