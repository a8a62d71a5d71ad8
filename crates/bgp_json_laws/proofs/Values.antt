-- Values of attributes whose JSON is equal spell the same octets.
use Rattle.std.proofs.Common.{◌≡◌, ◌∙◌, ◌++◌, ◌+◌, ◌&&◌, ◌||◌, ◌==◌, ◌<◌, ◌^◌, ℕ, Bool, true, false, List, [], ◌∷◌, Option, Some, None, codes, drop, if◌then◌else◌, length, nat_le, slice_index, refl, sym, ap, ap₂, subst, arith}
use Rattle.std.proofs.lemmas.Bool.{and_parts, leb-true, or_left, or_right}
use Rattle.std.proofs.lemmas.Fmt.{decimal_injective}
use Rattle.std.proofs.lemmas.Option.{cond_some, none-some}
use Rattle.std.proofs.lemmas.List.Elements.{All-drop}
use Rattle.byteorder.specs.Endian.{big_bytes, big_number}
use Rattle.bgp_wire.specs.Octets.{AreOctets}
use Rattle.bgp_attr.specs.Segments.{are_segments, number_width, segment_octets}
use Rattle.bgp_values.specs.AttributeValue.{AttributeValue, origin, path, address, number, atomic, aggregator, items, metric, address_value, aggregator_value, as4_path_value, atomic_value, attribute_value, is_address_type, is_number_type, items_value, metric_value, number_value, origin_value, path_value}
use Rattle.bgp_values.specs.Items.{item_size, items_of}
use Rattle.bgp_values.specs.PathSegments.{segments_of}
use Rattle.bgp_values.specs.Pieces.{are_some_pieces}
use Rattle.bgp_values.specs.declared.items.Item.{Item}
use Rattle.bgp_values.specs.declared.items.Item.TheVariants as item
use Rattle.bgp_json_values.specs.AttributeJson.{attribute_value_json, segment_json, spelled_attribute, width_of_type}
use Rattle.bgp_json_values.specs.CapabilityJson.{itself}
use Rattle.bgp_json_values.specs.ItemJson.{item_json}
use Rattle.bgp_json_laws.proofs.Items.{fits_big, same_cluster, same_community, same_extended_community, same_large_community}
use Rattle.bgp_json_laws.proofs.Lists.{joined_equal}
use Rattle.bgp_json_laws.proofs.Lookups.{text_of, value_at}
use Rattle.bgp_json_laws.proofs.Paths.{IsSegmentOf, each_segment, same_segment}
use Rattle.bgp_json_laws.proofs.Pieces.{IsPiece, each_piece}
use Rattle.bgp_json_laws.proofs.Tables.{same_origin}
use Rattle.bgp_json_laws.proofs.Texts.{IsOctet, number_fits, same_address_4, same_number_json}

-- values that these read spell the same octets at these widths if their JSON is equal
abbrev pub Alike : ℕ → ℕ → (List ℕ → Option AttributeValue) → (List ℕ → Option AttributeValue) → Type 0
Alike v w read also =
    (octets others : List ℕ) (a b : AttributeValue) → AreOctets octets → AreOctets others → read octets ≡ Some a → also others ≡ Some b
    → attribute_value_json a ≡ attribute_value_json b → spelled_attribute v a ≡ spelled_attribute w b

-- a value that is read if a test is passed
by_test : (v w : ℕ) (test other : List ℕ → Bool) (value another : List ℕ → AttributeValue)
    → ((octets others : List ℕ) → AreOctets octets → AreOctets others → test octets ≡ true → other others ≡ true
    → attribute_value_json (value octets) ≡ attribute_value_json (another others) → spelled_attribute v (value octets) ≡ spelled_attribute w (another others))
    → Alike v w (λ octets. if test octets then Some (value octets) else None) (λ octets. if other octets then Some (another octets) else None)
by_test v w test other value another same octets others a b are too first second e =
    let x = cond_some (test octets) (value octets) a first in
    let y = cond_some (other others) (another others) b second in
    sym (ap (spelled_attribute v) x.1)
    ∙ same octets others are too x.0 y.0 (ap attribute_value_json x.1 ∙ e ∙ sym (ap attribute_value_json y.1))
    ∙ ap (spelled_attribute w) y.1

choose : (v w : ℕ) (test : Bool) (first second third fourth : List ℕ → Option AttributeValue) → (test ≡ true → Alike v w first third) → (test ≡ false → Alike v w second fourth)
    → Alike v w (λ octets. if test then first octets else second octets) (λ octets. if test then third octets else fourth octets)
choose v w true first second third fourth F S = F refl
choose v w false first second third fourth F S = S refl

-- ---- each value

same_origin_value : (v w : ℕ) → Alike v w origin_value origin_value
same_origin_value v w =
    let test = λ (octets : List ℕ). (length octets == 1) && nat_le (slice_index octets 0) 2 in
    let value = λ (octets : List ℕ). origin (slice_index octets 0) in
    by_test v w test test value value
    (λ octets others are too first second e.
    ap (λ (n : ℕ). n ∷ []) (same_origin (slice_index octets 0) (slice_index others 0) (leb-true _ _ (and_parts _ _ first).1) (leb-true _ _ (and_parts _ _ second).1) (ap text_of e)))

one_path : (v w : ℕ) (as4 : Bool) → Alike v w (path_value as4) (path_value as4)
one_path v w as4 =
    let test = λ (octets : List ℕ). are_segments 4 (number_width as4) octets in
    let value = λ (octets : List ℕ). path as4 (segments_of (number_width as4) octets) in
    by_test v w test test value value
    (λ octets others are too first second e.
    joined_equal (segment_json as4) (segment_json as4) segment_octets segment_octets (IsSegmentOf (number_width as4)) (IsSegmentOf (number_width as4)) (same_segment as4)
    (segments_of (number_width as4) octets) (segments_of (number_width as4) others) (each_segment (number_width as4) octets are) (each_segment (number_width as4) others too) e)

same_path : (v w : ℕ) (as4 also : Bool) → as4 ≡ also → Alike v w (path_value as4) (path_value also)
same_path v w as4 also same = subst (λ (other : Bool). Alike v w (path_value as4) (path_value other)) same (one_path v w as4)

by_length : (test : Bool) (rest : Option AttributeValue) (a : AttributeValue) → (if test then None else rest) ≡ Some a → rest ≡ Some a
by_length true rest a none = absurd (none-some a none)
by_length false rest a some = some

-- a path that isn't empty
pub behind_test : (octets : List ℕ) (a : AttributeValue) → as4_path_value octets ≡ Some a → path_value true octets ≡ Some a
behind_test octets a is = by_length (length octets == 0) (path_value true octets) a is

same_as4_path : (v w : ℕ) → Alike v w as4_path_value as4_path_value
same_as4_path v w octets others a b are too first second e = one_path v w true octets others a b are too (behind_test octets a first) (behind_test others b second) e

same_address_value : (v w : ℕ) → Alike v w address_value address_value
same_address_value v w =
    let test = λ (octets : List ℕ). length octets == 4 in
    let value = λ (octets : List ℕ). address (big_number 4 octets) in
    by_test v w test test value value
    (λ octets others are too first second e. ap (big_bytes 4) (same_address_4 (big_number 4 octets) (big_number 4 others) (number_fits 4 octets are) (number_fits 4 others too) e))

same_number_value : (v w : ℕ) → Alike v w number_value number_value
same_number_value v w =
    let test = λ (octets : List ℕ). length octets == 4 in
    let value = λ (octets : List ℕ). number (big_number 4 octets) in
    by_test v w test test value value
    (λ octets others are too first second e.
    ap (big_bytes 4) (same_number_json (big_number 4 octets) (big_number 4 others) (fits_big 4 0 octets are (omega arith)) (fits_big 4 0 others too (omega arith)) e))

same_atomic : (v w : ℕ) → Alike v w atomic_value atomic_value
same_atomic v w =
    let test = λ (octets : List ℕ). length octets == 0 in
    let value = λ (octets : List ℕ). atomic in
    by_test v w test test value value (λ octets others are too first second e. refl)

pub width_fits : (as4 : Bool) (octets : List ℕ) → AreOctets octets → big_number (number_width as4) octets < 2 ^ 64
width_fits true octets are = fits_big 4 0 octets are (omega arith)
width_fits false octets are = fits_big 2 0 octets are (omega arith)

same_aggregator : (v w : ℕ) (as4 also : Bool) → v ≡ w → Alike v w (aggregator_value as4) (aggregator_value also)
same_aggregator v w as4 also same =
    by_test v w (λ octets. length octets == number_width as4 + 4) (λ octets. length octets == number_width also + 4)
    (λ octets. aggregator (big_number (number_width as4) octets) (big_number 4 (drop (number_width as4) octets)))
    (λ octets. aggregator (big_number (number_width also) octets) (big_number 4 (drop (number_width also) octets)))
    (λ octets others are too first second e.
    let as_number = same_number_json (big_number (number_width as4) octets) (big_number (number_width also) others) (width_fits as4 octets are) (width_fits also others too) (ap (value_at (codes "as")) e) in
    let router = same_address_4 (big_number 4 (drop (number_width as4) octets)) (big_number 4 (drop (number_width also) others))
    (number_fits 4 (drop (number_width as4) octets) (All-drop IsOctet (number_width as4) octets are)) (number_fits 4 (drop (number_width also) others) (All-drop IsOctet (number_width also) others too)) (ap (value_at (codes "address")) e) in
    ap₂ ◌++◌ (ap₂ big_bytes same as_number) (ap (big_bytes 4) router))

same_items : (v w : ℕ) (kind : Item) → ((o p : List ℕ) → IsPiece (item_size kind) o → IsPiece (item_size kind) p → item_json kind o ≡ item_json kind p → o ≡ p)
    → Alike v w (items_value kind) (items_value kind)
same_items v w kind each =
    let test = λ (octets : List ℕ). are_some_pieces (item_size kind) octets in
    let value = λ (octets : List ℕ). items kind (items_of kind octets) in
    by_test v w test test value value
    (λ octets others are too first second e.
    joined_equal (item_json kind) (item_json kind) itself itself (IsPiece (item_size kind)) (IsPiece (item_size kind)) each (items_of kind octets) (items_of kind others)
    (each_piece (item_size kind) octets are) (each_piece (item_size kind) others too) e)

same_metric : (v w : ℕ) → Alike v w metric_value metric_value
same_metric v w =
    let test = λ (octets : List ℕ). (length octets == 11) && ((slice_index octets 0 == 1) && (big_number 2 (drop 1 octets) == 11)) in
    let value = λ (octets : List ℕ). metric (big_number 8 (drop 3 octets)) in
    by_test v w test test value value
    (λ octets others are too first second e.
    ap (λ (n : ℕ). 1 ∷ big_bytes 2 11 ++ big_bytes 8 n)
    (decimal_injective (big_number 8 (drop 3 octets)) (big_number 8 (drop 3 others)) (fits_big 8 3 octets are (omega arith)) (fits_big 8 3 others too (omega arith)) (ap text_of e)))

same_none : (v w : ℕ) → Alike v w (λ octets. None) (λ octets. None)
same_none v w octets others a b are too first second e = absurd (none-some a first)

-- ---- a value by its type

four_wide : (as4 : Bool) (kind : ℕ) → (kind == 18) ≡ true → width_of_type as4 kind ≡ 4
four_wide as4 kind is = rw is refl

-- the width is known of AS_PATH and AGGREGATOR, and no other value depends on it
pub same_value : (as4 also : Bool) (kind : ℕ) → (((kind == 2) || (kind == 7)) ≡ true → as4 ≡ also)
    → Alike (width_of_type as4 kind) (width_of_type also kind) (attribute_value as4 kind) (attribute_value also kind)
same_value as4 also kind known =
    let v = width_of_type as4 kind in
    let w = width_of_type also kind in
    choose v w (kind == 1) origin_value _ origin_value _ (λ _. same_origin_value v w) (λ _.
    choose v w (kind == 2) (path_value as4) _ (path_value also) _ (λ is. same_path v w as4 also (known (or_left (kind == 2) (kind == 7) is))) (λ _.
    choose v w (is_address_type kind) address_value _ address_value _ (λ _. same_address_value v w) (λ _.
    choose v w (is_number_type kind) number_value _ number_value _ (λ _. same_number_value v w) (λ _.
    choose v w (kind == 6) atomic_value _ atomic_value _ (λ _. same_atomic v w) (λ _.
    choose v w (kind == 7) (aggregator_value as4) _ (aggregator_value also) _ (λ is. same_aggregator v w as4 also (ap (λ (a : Bool). width_of_type a kind) (known (or_right (kind == 2) (kind == 7) is)))) (λ _.
    choose v w (kind == 8) (items_value item.Community) _ (items_value item.Community) _ (λ _. same_items v w item.Community same_community) (λ _.
    choose v w (kind == 10) (items_value item.Cluster) _ (items_value item.Cluster) _ (λ _. same_items v w item.Cluster same_cluster) (λ _.
    choose v w (kind == 16) (items_value item.ExtendedCommunity) _ (items_value item.ExtendedCommunity) _ (λ _. same_items v w item.ExtendedCommunity same_extended_community) (λ _.
    choose v w (kind == 17) as4_path_value _ as4_path_value _ (λ _. same_as4_path v w) (λ _.
    choose v w (kind == 18) (aggregator_value true) _ (aggregator_value true) _ (λ is. same_aggregator v w true true (four_wide as4 kind is ∙ sym (four_wide also kind is))) (λ _.
    choose v w (kind == 26) metric_value _ metric_value _ (λ _. same_metric v w) (λ _.
    choose v w (kind == 32) (items_value item.LargeCommunity) _ (items_value item.LargeCommunity) _ (λ _. same_items v w item.LargeCommunity same_large_community) (λ _.
    same_none v w)))))))))))))
