-- What capabilities and attributes say has no control characters in words.
use Rattle.std.proofs.Common.{◌≡◌, ◌++◌, ◌==◌, ◌%◌, ℕ, Bool, true, false, List, [], ◌∷◌, Option, None, Some, All, codes, drop, if◌then◌else◌, refl, slice_index, subst, take}
use Rattle.std.specs.Fmt.{decimal}
use Rattle.std.proofs.lemmas.Bool.{and_parts}
use Rattle.std.proofs.lemmas.List.Elements.{All-drop, All-head, All-tail}
use Rattle.std.proofs.lemmas.Option.{cond_some, none-some}
use Rattle.byteorder.specs.Endian.{big_number}
use Rattle.bgp_prefix.specs.declared.address.Address.TheVariants.{V4}
use Rattle.bgp_wire.specs.Octets.{AreOctets}
use Rattle.bgp_open.specs.Triplet.{Triplet}
use Rattle.bgp_attr.specs.Field.{Attribute}
use Rattle.bgp_attr.specs.Segments.{WireSegment, number_width}
use Rattle.bgp_path.specs.declared.path.NextHop.{NextHop}
use Rattle.bgp_open.specs.Offer.{afi_of}
use Rattle.bgp_open.specs.declared.route_form.RouteForm.{RouteForm}
use Rattle.bgp_text.specs.Text.{hex_text}
use Rattle.bgp_values.specs.AttributeValue as attribute
use Rattle.bgp_values.specs.AttributeValue.{AttributeValue, address_value, aggregator_value, as4_path_value, atomic_value, attribute_value, is_address_type, is_number_type, items_value, metric_value, number_value, origin_value, path_value}
use Rattle.bgp_values.specs.CapabilityValue as capability
use Rattle.bgp_values.specs.CapabilityValue.{CapabilityValue, Counted, as_number_value, capability_value, counted_in, family_value, is_empty_code, long_lived_value, names_value, next_hops_value, offered_value, paths_value, restart_value, role_value, with_domain, with_host}
use Rattle.bgp_values.specs.Items.{has_bits, item_size, items_of}
use Rattle.bgp_values.specs.PathSegments.{segments_of}
use Rattle.bgp_values.specs.RoutesValue.{RoutesValue, unicast, other, reach_value, unreach_value}
use Rattle.bgp_values.specs.declared.items.Item.{Item}
use Rattle.bgp_values.specs.declared.items.Item.TheVariants as item
use Rattle.bgp_values.specs.declared.opens.Reading.{Reading}
use Rattle.bgp_names.specs.Attributes.{origin_names}
use Rattle.bgp_names.specs.Capabilities.{role_names, way_names}
use Rattle.bgp_lines.specs.AttributeLine.{are_right_flags, as_item, attribute_value_text, between, bits_of_type, closing, opening, path_text, segment_text, value_or_octets}
use Rattle.bgp_lines.specs.ItemText.{family_text, item_text, preserved_text}
use Rattle.bgp_lines.specs.Joined.{each_behind, joined}
use Rattle.bgp_lines.specs.OpenLine.{capability_value_text, is_known_code, named_capability, said_text}
use Rattle.bgp_lines.specs.RoutesLine.{routes_or_octets, routes_text, via_text}
use Rattle.bgp_lines.specs.UpdateLine.{behind_word, named_attribute, said_by}
use Rattle.bgp_json_laws.specs.Laws.{IsAttribute, IsTriplet}
use Rattle.bgp_json_laws.proofs.Paths.{IsSegmentOf, each_segment}
use Rattle.bgp_json_laws.proofs.Pieces.{IsPiece, each_piece}
use Rattle.bgp_json_laws.proofs.Routes.{IsValue, reach_read, unreach_read}
use Rattle.bgp_json_laws.proofs.Texts.{IsOctet}
use Rattle.bgp_json_laws.proofs.Values.{behind_test}
use Rattle.bgp_visible_laws.specs.Visible.{IsVisible}
use Rattle.bgp_visible_laws.proofs.Texts.{address_visible, afi_visible, attribute_visible, capability_visible, decimal_visible, destinations_visible, encoded_visible, family_visible, hex_visible, hop_visible, if_visible, name_visible}
use Rattle.bgp_visible_laws.proofs.Visible.{IsReadable, any_each, between_quotes, both, each, nothing, readable, word}

-- ---- lists

pub behind_each : {X : Type 0} (front : List ℕ) (text : X → List ℕ) (Is : X → Type 0) → IsVisible front → ((x : X) → Is x → IsVisible (text x)) → (xs : List X) → All Is xs
    → IsVisible (each_behind front text xs)
behind_each front text Is before visible xs all = each (λ x. front ++ text x) Is (λ x is. both before (visible x is)) xs all

pub joined_visible : {X : Type 0} (front : List ℕ) (text : X → List ℕ) (Is : X → Type 0) → IsVisible front → ((x : X) → Is x → IsVisible (text x)) → (xs : List X) → All Is xs
    → IsVisible (joined front text xs)
joined_visible front text Is before visible [] all = nothing
joined_visible front text Is before visible (x ∷ xs) all = both (visible x (All-head Is x xs all)) (behind_each front text Is before visible xs (All-tail Is x xs all))

pub joined_any : {X : Type 0} (front : List ℕ) (text : X → List ℕ) → IsVisible front → ((x : X) → IsVisible (text x)) → (xs : List X) → IsVisible (joined front text xs)
joined_any front text before visible [] = nothing
joined_any front text before visible (x ∷ xs) = both (visible x) (any_each (λ y. front ++ text y) (λ y. both before (visible y)) xs)

-- ---- items

preserved_visible : (flags : ℕ) → IsVisible (preserved_text flags)
preserved_visible flags = if_visible (has_bits 128 flags) (codes " preserved") [] (word (codes " preserved") refl) nothing

of_family : (octets : List ℕ) → IsVisible (family_text octets)
of_family octets = family_visible (big_number 2 octets) (slice_index octets 2)

item_visible : (kind : Item) (octets : List ℕ) → AreOctets octets → IsVisible (item_text kind octets)
unfolding item_text
item_visible item.HopFamily octets are =
    both (family_visible (big_number 2 octets) (big_number 2 (drop 2 octets))) (both (word (codes " via ") refl) (afi_visible (big_number 2 (drop 4 octets))))
item_visible item.RestartFamily octets are = both (of_family octets) (preserved_visible (slice_index octets 3))
item_visible item.PathFamily octets are = both (of_family octets) (both (word (codes " ") refl) (name_visible [] way_names nothing refl (slice_index octets 3)))
item_visible item.LongLivedFamily octets are =
    both (of_family octets) (both (word (codes " ") refl) (both (decimal_visible (big_number 3 (drop 4 octets))) (both (word (codes " seconds") refl) (preserved_visible (slice_index octets 3)))))
item_visible item.AsNumber2 octets are = decimal_visible (big_number 2 octets)
item_visible item.AsNumber4 octets are = decimal_visible (big_number 4 octets)
item_visible item.Community octets are = both (decimal_visible (big_number 2 octets)) (both (word (codes ":") refl) (decimal_visible (big_number 2 (drop 2 octets))))
item_visible item.ExtendedCommunity octets are = encoded_visible octets are
item_visible item.LargeCommunity octets are =
    both (decimal_visible (big_number 4 octets)) (both (word (codes ":") refl) (both (decimal_visible (big_number 4 (drop 4 octets)))
    (both (word (codes ":") refl) (decimal_visible (big_number 4 (drop 8 octets))))))
item_visible item.Cluster octets are = address_visible (V4 (big_number 4 octets))

items_joined : (front : List ℕ) → IsVisible front → (kind : Item) (octets : List ℕ) → AreOctets octets → IsVisible (joined front (item_text kind) (items_of kind octets))
items_joined front before kind octets are =
    joined_visible front (item_text kind) (IsPiece (item_size kind)) before (λ piece is. item_visible kind piece is.are) (items_of kind octets) (each_piece (item_size kind) octets are)

items_behind : (front : List ℕ) → IsVisible front → (kind : Item) (octets : List ℕ) → AreOctets octets → IsVisible (each_behind front (item_text kind) (items_of kind octets))
items_behind front before kind octets are =
    behind_each front (item_text kind) (IsPiece (item_size kind)) before (λ piece is. item_visible kind piece is.are) (items_of kind octets) (each_piece (item_size kind) octets are)

blank : IsVisible (codes " ")
blank = word (codes " ") refl

comma : IsVisible (codes ", ")
comma = word (codes ", ") refl

-- ---- capabilities

abbrev Tells : (List ℕ → Option CapabilityValue) → Type 0
Tells read = (octets : List ℕ) (a : CapabilityValue) → AreOctets octets → read octets ≡ Some a → IsVisible (capability_value_text a)

tells : (test : List ℕ → Bool) (value : List ℕ → CapabilityValue) → ((octets : List ℕ) → AreOctets octets → IsVisible (capability_value_text (value octets)))
    → Tells (λ octets. if test octets then Some (value octets) else None)
tells test value visible octets a are e = subst (λ (v : CapabilityValue). IsVisible (capability_value_text v)) (cond_some (test octets) (value octets) a e).1 (visible octets are)

either : (test : Bool) (first second : List ℕ → Option CapabilityValue) → Tells first → Tells second → Tells (λ octets. if test then first octets else second octets)
either true first second F S = F
either false first second F S = S

-- a counted text is readable
pub counted_readable : (octets : List ℕ) (counted : Counted) → counted_in octets ≡ Some counted → IsReadable counted.text
counted_readable [] counted e = absurd (none-some counted e)
counted_readable (count ∷ octets) counted e =
    let found = cond_some _ (record { text = take count octets; rest = drop count octets }) counted e in
    subst (λ (c : Counted). IsReadable c.text) found.1 (readable (take count octets) (and_parts _ _ found.0).1)

abbrev named_texts : List ℕ → List ℕ → List ℕ
named_texts host domain = capability_value_text (capability.names host domain)

both_texts : (host domain : List ℕ) → IsReadable host → IsReadable domain → IsVisible (named_texts host domain)
unfolding capability_value_text
both_texts host domain first second = both blank (both (between_quotes host first) (both blank (between_quotes domain second)))

of_domain : (host rest : List ℕ) → IsReadable host → (found : Option Counted) → counted_in rest ≡ found → (a : CapabilityValue) → with_domain host found ≡ Some a
    → IsVisible (capability_value_text a)
of_domain host rest is None found a e = absurd (none-some a e)
of_domain host rest is (Some domain) found a e =
    subst (λ (v : CapabilityValue). IsVisible (capability_value_text v)) (cond_some _ (capability.names host domain.text) a e).1
    (both_texts host domain.text is (counted_readable rest domain found))

of_host : (octets : List ℕ) (found : Option Counted) → counted_in octets ≡ found → (a : CapabilityValue) → with_host found ≡ Some a → IsVisible (capability_value_text a)
of_host octets None found a e = absurd (none-some a e)
of_host octets (Some host) found a e = of_domain host.text host.rest (counted_readable octets host found) (counted_in host.rest) refl a e

tells_names : Tells names_value
tells_names octets a are e = of_host octets (counted_in octets) refl a e

tells_none : Tells (λ octets. None)
tells_none octets a are e = absurd (none-some a e)

tells_value : (code : ℕ) → Tells (capability_value code)
unfolding capability_value_text
tells_value code =
    either (code == 1) family_value _
    (tells _ (λ octets. capability.family (big_number 2 octets) (slice_index octets 3)) (λ octets are. both blank (family_visible (big_number 2 octets) (slice_index octets 3))))
    (either (is_empty_code code) offered_value _ (tells _ (λ octets. capability.offered) (λ octets are. nothing))
    (either (code == 5) next_hops_value _ (tells _ (λ octets. capability.next_hops (items_of item.HopFamily octets)) (λ octets are. both blank (items_joined (codes ", ") comma item.HopFamily octets are)))
    (either (code == 9) role_value _ (tells _ (λ octets. capability.role (slice_index octets 0)) (λ octets are. both blank (name_visible [] role_names nothing refl (slice_index octets 0))))
    (either (code == 64) restart_value _
    (tells _ (λ octets. capability.restart (has_bits 128 (slice_index octets 0)) (has_bits 64 (slice_index octets 0)) (big_number 2 octets % 4096) (items_of item.RestartFamily (drop 2 octets)))
    (λ octets are. both blank (both (decimal_visible (big_number 2 octets % 4096)) (both (word (codes " seconds") refl)
    (both (if_visible (has_bits 128 (slice_index octets 0)) (codes " restarted") [] (word (codes " restarted") refl) nothing)
    (both (if_visible (has_bits 64 (slice_index octets 0)) (codes " notification") [] (word (codes " notification") refl) nothing)
    (items_behind (codes ", ") comma item.RestartFamily (drop 2 octets) (All-drop IsOctet 2 octets are))))))))
    (either (code == 65) as_number_value _ (tells _ (λ octets. capability.as_number (big_number 4 octets)) (λ octets are. both blank (decimal_visible (big_number 4 octets))))
    (either (code == 69) paths_value _ (tells _ (λ octets. capability.paths (items_of item.PathFamily octets)) (λ octets are. both blank (items_joined (codes ", ") comma item.PathFamily octets are)))
    (either (code == 71) long_lived_value _ (tells _ (λ octets. capability.long_lived (items_of item.LongLivedFamily octets)) (λ octets are. items_behind (codes ", ") comma item.LongLivedFamily octets are))
    (either (code == 73) names_value _ tells_names tells_none))))))))

said_visible : (c : Triplet) → IsTriplet c → (value : Option CapabilityValue) → capability_value c.code c.value ≡ value → IsVisible (said_text c value)
unfolding said_text
said_visible c is None e =
    both (if_visible (is_known_code c.code) (codes " octets ") (codes " ") (word (codes " octets ") refl) blank) (hex_visible c.value is.value)
said_visible c is (Some value) e = tells_value c.code c.value value is.value e

pub capability_line : (c : Triplet) → IsTriplet c → IsVisible (named_capability c)
unfolding named_capability
capability_line c is = both (capability_visible c.code) (said_visible c is (capability_value c.code c.value) refl)

-- ---- attributes, but for routes

abbrev Says : (List ℕ → Option AttributeValue) → Type 0
Says read = (octets : List ℕ) (a : AttributeValue) → AreOctets octets → read octets ≡ Some a → IsVisible (attribute_value_text a)

says : (test : List ℕ → Bool) (value : List ℕ → AttributeValue) → ((octets : List ℕ) → AreOctets octets → IsVisible (attribute_value_text (value octets)))
    → Says (λ octets. if test octets then Some (value octets) else None)
says test value visible octets a are e = subst (λ (v : AttributeValue). IsVisible (attribute_value_text v)) (cond_some (test octets) (value octets) a e).1 (visible octets are)

or_else : (test : Bool) (first second : List ℕ → Option AttributeValue) → Says first → Says second → Says (λ octets. if test then first octets else second octets)
or_else true first second F S = F
or_else false first second F S = S

opening_visible : (kind : ℕ) → IsVisible (opening kind)
opening_visible kind =
    if_visible (kind == 1) (codes "{") _ (word (codes "{") refl) (if_visible (kind == 3) (codes "(") _ (word (codes "(") refl)
    (if_visible (kind == 4) (codes "[") [] (word (codes "[") refl) nothing))

between_visible : (kind : ℕ) → IsVisible (between kind)
between_visible kind = if_visible (kind == 1) (codes ",") _ (word (codes ",") refl) (if_visible (kind == 4) (codes ",") (codes " ") (word (codes ",") refl) blank)

closing_visible : (kind : ℕ) → IsVisible (closing kind)
closing_visible kind =
    if_visible (kind == 1) (codes "}") _ (word (codes "}") refl) (if_visible (kind == 3) (codes ")") _ (word (codes ")") refl)
    (if_visible (kind == 4) (codes "]") [] (word (codes "]") refl) nothing))

segment_visible : (as4 : Bool) (s : WireSegment) → IsSegmentOf (number_width as4) s → IsVisible (segment_text as4 s)
unfolding segment_text
segment_visible as4 s is = both (opening_visible s.kind) (both (items_joined (between s.kind) (between_visible s.kind) (as_item as4) s.numbers is.are) (closing_visible s.kind))

path_visible : (as4 : Bool) (segments : List WireSegment) → All (IsSegmentOf (number_width as4)) segments → IsVisible (path_text as4 segments)
unfolding path_text
path_visible as4 [] all = word (codes "-") refl
path_visible as4 (s ∷ segments) all = joined_visible (codes " ") (segment_text as4) (IsSegmentOf (number_width as4)) blank (segment_visible as4) (s ∷ segments) all

says_path : (as4 : Bool) → Says (path_value as4)
unfolding attribute_value_text
says_path as4 =
    says _ (λ octets. attribute.path as4 (segments_of (number_width as4) octets))
    (λ octets are. both blank (path_visible as4 (segments_of (number_width as4) octets) (each_segment (number_width as4) octets are)))

says_aggregator : (as4 : Bool) → Says (aggregator_value as4)
unfolding attribute_value_text
says_aggregator as4 =
    says _ (λ octets. attribute.aggregator (big_number (number_width as4) octets) (big_number 4 (drop (number_width as4) octets)))
    (λ octets are. both blank (both (decimal_visible (big_number (number_width as4) octets)) (both blank (address_visible (V4 (big_number 4 (drop (number_width as4) octets)))))))

says_items : (kind : Item) → Says (items_value kind)
unfolding attribute_value_text
says_items kind = says _ (λ octets. attribute.items kind (items_of kind octets)) (λ octets are. both blank (items_joined (codes " ") blank kind octets are))

says_none : Says (λ octets. None)
says_none octets a are e = absurd (none-some a e)

says_as4_path : Says as4_path_value
says_as4_path octets a are e = says_path true octets a are (behind_test octets a e)

says_value : (as4 : Bool) (kind : ℕ) → Says (attribute_value as4 kind)
unfolding attribute_value_text
says_value as4 kind =
    or_else (kind == 1) origin_value _ (says _ (λ octets. attribute.origin (slice_index octets 0)) (λ octets are. both blank (name_visible [] origin_names nothing refl (slice_index octets 0))))
    (or_else (kind == 2) (path_value as4) _ (says_path as4)
    (or_else (is_address_type kind) address_value _ (says _ (λ octets. attribute.address (big_number 4 octets)) (λ octets are. both blank (address_visible (V4 (big_number 4 octets)))))
    (or_else (is_number_type kind) number_value _ (says _ (λ octets. attribute.number (big_number 4 octets)) (λ octets are. both blank (decimal_visible (big_number 4 octets))))
    (or_else (kind == 6) atomic_value _ (says _ (λ octets. attribute.atomic) (λ octets are. nothing))
    (or_else (kind == 7) (aggregator_value as4) _ (says_aggregator as4)
    (or_else (kind == 8) (items_value item.Community) _ (says_items item.Community)
    (or_else (kind == 10) (items_value item.Cluster) _ (says_items item.Cluster)
    (or_else (kind == 16) (items_value item.ExtendedCommunity) _ (says_items item.ExtendedCommunity)
    (or_else (kind == 17) as4_path_value _ says_as4_path
    (or_else (kind == 18) (aggregator_value true) _ (says_aggregator true)
    (or_else (kind == 26) metric_value _ (says _ (λ octets. attribute.metric (big_number 8 (drop 3 octets))) (λ octets are. both blank (decimal_visible (big_number 8 (drop 3 octets)))))
    (or_else (kind == 32) (items_value item.LargeCommunity) _ (says_items item.LargeCommunity) says_none))))))))))))

octets_visible : (octets : List ℕ) → AreOctets octets → IsVisible (codes " octets " ++ hex_text octets)
octets_visible octets are = both (word (codes " octets ") refl) (hex_visible octets are)

value_visible : (as4 : Bool) (a : Attribute) → IsAttribute a → (value : Option AttributeValue) → attribute_value as4 a.kind a.value ≡ value → IsVisible (value_or_octets value a.value)
unfolding value_or_octets
value_visible as4 a is None e = octets_visible a.value is.value
value_visible as4 a is (Some value) e = says_value as4 a.kind a.value value is.value e

-- ---- routes

via_visible : (hop : Option NextHop) → IsVisible (via_text hop)
unfolding via_text
via_visible None = nothing
via_visible (Some hop) = both (word (codes " via ") refl) (hop_visible hop)

routes_visible : (announced : Bool) (form : RouteForm) (value : RoutesValue) → IsValue announced form value → IsVisible (routes_text value)
unfolding routes_text
routes_visible announced form (unicast family contents) is =
    both blank (both (family_visible (afi_of family) 1) (both (via_visible contents.next_hop) (both blank (destinations_visible contents.destinations))))
routes_visible announced form (other afi safi octets) is = both blank (both (family_visible afi safi) (octets_visible octets is.2))

routes_or_not : (announced : Bool) (form : RouteForm) (octets : List ℕ) → AreOctets octets → (value : Option RoutesValue) → ((a : RoutesValue) → value ≡ Some a → IsValue announced form a)
    → IsVisible (routes_or_octets value octets)
unfolding routes_or_octets
routes_or_not announced form octets are None each = octets_visible octets are
routes_or_not announced form octets are (Some value) each = routes_visible announced form value (each value refl)

-- ---- any attribute

said_by_visible : (reading : Reading) (a : Attribute) → IsAttribute a → IsVisible (said_by reading a)
unfolding said_by
said_by_visible reading a is =
    if_visible (a.kind == 14) (routes_or_octets (reach_value reading.form a.value) a.value) _
    (routes_or_not true reading.form a.value is.value (reach_value reading.form a.value) (λ v e. reach_read reading.form a.value v is.value e))
    (if_visible (a.kind == 15) (routes_or_octets (unreach_value reading.form a.value) a.value) _
    (routes_or_not false reading.form a.value is.value (unreach_value reading.form a.value) (λ v e. unreach_read reading.form a.value v is.value e))
    (value_visible reading.as4 a is (attribute_value reading.as4 a.kind a.value) refl))

behind_visible : (reading : Reading) (a : Attribute) → IsAttribute a → (bits : Option ℕ) → IsVisible (behind_word reading a bits)
unfolding behind_word
behind_visible reading a is None = both (word (codes " flags ") refl) (both (decimal_visible a.flags) (both blank (hex_visible a.value is.value)))
behind_visible reading a is (Some bits) =
    both (said_by_visible reading a is)
    (if_visible (are_right_flags bits a.flags) [] (codes " flags " ++ decimal a.flags) nothing (both (word (codes " flags ") refl) (decimal_visible a.flags)))

pub attribute_line : (reading : Reading) (a : Attribute) → IsAttribute a → IsVisible (named_attribute reading a)
unfolding named_attribute
attribute_line reading a is = both (attribute_visible a.kind) (behind_visible reading a is (bits_of_type a.kind))
