-- What capabilities, attributes and NOTIFICATIONs say in JSON has nothing hidden.
use Rattle.std.proofs.Common.{◌≡◌, ◌++◌, ◌==◌, ◌||◌, ◌%◌, ℕ, Bool, true, false, List, [], ◌∷◌, Option, None, Some, bytes_eq, codes, drop, if◌then◌else◌, nat_lt, refl, slice_index, subst}
use Rattle.std.specs.Fmt.{decimal}
use Rattle.std.proofs.lemmas.List.Elements.{All-drop}
use Rattle.std.proofs.lemmas.Option.{cond_some, none-some}
use Rattle.byteorder.specs.Endian.{big_number}
use Rattle.json.specs.Json.{Json}
use Rattle.bgp_prefix.specs.declared.address.Address.{Address}
use Rattle.bgp_prefix.specs.declared.address.Address.TheVariants.{V4}
use Rattle.bgp_wire.specs.Octets.{AreOctets}
use Rattle.bgp_open.specs.Offer.{afi_of}
use Rattle.bgp_open.specs.Triplet.{Triplet}
use Rattle.bgp_open.specs.declared.route_form.RouteForm.{RouteForm}
use Rattle.bgp_attr.specs.Field.{Attribute}
use Rattle.bgp_attr.specs.Segments.{WireSegment, number_width}
use Rattle.bgp_path.specs.declared.path.NextHop.{NextHop}
use Rattle.bgp_update.specs.Destinations.{is_identified}
use Rattle.bgp_update.specs.declared.destination.Destination.{Destination}
use Rattle.bgp_values.specs.AttributeValue as attribute
use Rattle.bgp_values.specs.AttributeValue.{AttributeValue, address_value, aggregator_value, as4_path_value, atomic_value, attribute_value, is_address_type, is_number_type, items_value, metric_value, number_value, origin_value, path_value}
use Rattle.bgp_values.specs.CapabilityValue as capability
use Rattle.bgp_values.specs.CapabilityValue.{CapabilityValue, Counted, as_number_value, capability_value, counted_in, family_value, is_empty_code, long_lived_value, names_value, next_hops_value, offered_value, paths_value, restart_value, role_value, with_domain, with_host}
use Rattle.bgp_values.specs.ErrorData.{DataValue, ErrorFields, cause_of, communication, data_value, maximum}
use Rattle.bgp_values.specs.Items.{has_bits, item_size, items_of}
use Rattle.bgp_values.specs.PathSegments.{segments_of}
use Rattle.bgp_values.specs.RoutesValue.{RoutesValue, unicast, other, reach_value, unreach_value}
use Rattle.bgp_values.specs.declared.items.Item.{Item}
use Rattle.bgp_values.specs.declared.items.Item.TheVariants as item
use Rattle.bgp_values.specs.declared.opens.Reading.{Reading}
use Rattle.bgp_names.specs.Attributes.{attribute_names, origin_names, segment_names}
use Rattle.bgp_names.specs.Capabilities.{capability_names, role_names, way_names}
use Rattle.bgp_json_values.specs.AttributeJson.{as_item, attribute_json, attribute_members, attribute_value_json, said_members, segment_json, spelled_attribute, width_members, width_of_type}
use Rattle.bgp_json_values.specs.CapabilityJson.{capability_json, capability_members, capability_value_json, spelled_capability}
use Rattle.bgp_json_values.specs.ErrorJson.{cause_members, data_members, error_members, plain_error_members}
use Rattle.bgp_json_values.specs.ItemJson.{family_members, item_json, items_json}
use Rattle.bgp_json_values.specs.Objects.{number_of}
use Rattle.bgp_json_values.specs.Octets.{octets_members, value_or_octets}
use Rattle.bgp_json_values.specs.RoutesJson.{destination_json, destinations_json, hop_addresses, hop_members, path_ids_json, path_ids_members, routes_json, spelled_routes}
use Rattle.bgp_json_values.specs.Texts.{address_json, octets_json}
use Rattle.bgp_json_values.specs.Times.{micro_members, time_members}
use Rattle.bgp_json_laws.specs.Laws.{IsAttribute, IsTriplet}
use Rattle.bgp_json_laws.proofs.Paths.{IsSegmentOf, each_segment}
use Rattle.bgp_json_laws.proofs.Pieces.{IsPiece, each_piece}
use Rattle.bgp_json_laws.proofs.Routes.{IsValue, reach_read, unreach_read}
use Rattle.bgp_json_laws.proofs.Texts.{IsOctet}
use Rattle.bgp_json_laws.proofs.Values.{behind_test}
use Rattle.bgp_visible_laws.specs.Visible.{IsVisible}
use Rattle.bgp_visible_laws.proofs.JsonTexts.{AreTexts, HaveTexts, as_key, field, of_any, of_array, of_both, of_number, of_object, of_text}
use Rattle.bgp_visible_laws.proofs.Messages.{IsSaid, cause_are, data_said}
use Rattle.bgp_visible_laws.proofs.Texts.{address_visible, decimal_visible, encoded_visible, error_visible, name_visible, named_visible, prefix_visible}
use Rattle.bgp_visible_laws.proofs.Values.{counted_readable}
use Rattle.bgp_visible_laws.proofs.Visible.{IsReadable, both, nothing, word}

-- ---- octets and short texts

pub of_octets : (octets : List ℕ) → AreOctets octets → AreTexts (octets_json octets)
of_octets octets are = of_text (encoded_visible octets are)

pub octets_field : (octets : List ℕ) → AreOctets octets → HaveTexts (octets_members octets)
octets_field octets are = field (codes "octets") refl (of_octets octets are) tt

pub unless : (is_so : Bool) (octets : List ℕ) → AreOctets octets → HaveTexts (if is_so then [] else octets_members octets)
unless true octets are = tt
unless false octets are = octets_field octets are

of_value : {V : Type 0} (json : V → Json) (spelled : V → List ℕ) (v : Option V) (octets : List ℕ) → AreOctets octets → ((a : V) → v ≡ Some a → AreTexts (json a))
    → HaveTexts (value_or_octets json spelled v octets)
of_value json spelled None octets are each = octets_field octets are
of_value json spelled (Some a) octets are each = field (codes "value") refl (each a refl) (unless (bytes_eq (spelled a) octets) octets are)

pub of_address : (a : Address) → AreTexts (address_json a)
of_address a = of_text (address_visible a)

family : (afi safi : ℕ) {B : Type 0} → B → IsReadable (codes "afi") × IsVisible (decimal afi) × (IsReadable (codes "safi") × IsVisible (decimal safi) × B)
family afi safi rest = field (codes "afi") refl (decimal_visible afi) (field (codes "safi") refl (decimal_visible safi) rest)

-- ---- items

of_item : (kind : Item) (octets : List ℕ) → AreOctets octets → AreTexts (item_json kind octets)
of_item item.HopFamily octets are = family (big_number 2 octets) (big_number 2 (drop 2 octets)) (field (codes "next_hop_afi") refl (of_number (big_number 2 (drop 4 octets))) tt)
of_item item.RestartFamily octets are = family (big_number 2 octets) (slice_index octets 2) (field (codes "preserved") refl tt tt)
of_item item.PathFamily octets are =
    family (big_number 2 octets) (slice_index octets 2) (field (codes "way") refl (of_text (name_visible [] way_names nothing refl (slice_index octets 3))) tt)
of_item item.LongLivedFamily octets are =
    family (big_number 2 octets) (slice_index octets 2) (field (codes "preserved") refl tt (field (codes "time") refl (of_number (big_number 3 (drop 4 octets))) tt))
of_item item.AsNumber2 octets are = of_number (big_number 2 octets)
of_item item.AsNumber4 octets are = of_number (big_number 4 octets)
of_item item.Community octets are = of_text (both (decimal_visible (big_number 2 octets)) (both (word (codes ":") refl) (decimal_visible (big_number 2 (drop 2 octets)))))
of_item item.ExtendedCommunity octets are = of_octets octets are
of_item item.LargeCommunity octets are =
    of_text (both (decimal_visible (big_number 4 octets)) (both (word (codes ":") refl) (both (decimal_visible (big_number 4 (drop 4 octets)))
    (both (word (codes ":") refl) (decimal_visible (big_number 4 (drop 8 octets)))))))
of_item item.Cluster octets are = of_address (V4 (big_number 4 octets))

of_items : (kind : Item) (octets : List ℕ) → AreOctets octets → AreTexts (items_json kind (items_of kind octets))
of_items kind octets are =
    of_array (item_json kind) (IsPiece (item_size kind)) (λ piece is. of_item kind piece is.are) (items_of kind octets) (each_piece (item_size kind) octets are)

-- ---- capabilities

abbrev Tells : (List ℕ → Option CapabilityValue) → Type 0
Tells read = (octets : List ℕ) (a : CapabilityValue) → AreOctets octets → read octets ≡ Some a → AreTexts (capability_value_json a)

tells : (test : List ℕ → Bool) (value : List ℕ → CapabilityValue) → ((octets : List ℕ) → AreOctets octets → AreTexts (capability_value_json (value octets)))
    → Tells (λ octets. if test octets then Some (value octets) else None)
tells test value each octets a are e = subst (λ (v : CapabilityValue). AreTexts (capability_value_json v)) (cond_some (test octets) (value octets) a e).1 (each octets are)

either : (test : Bool) (first second : List ℕ → Option CapabilityValue) → Tells first → Tells second → Tells (λ octets. if test then first octets else second octets)
either true first second F S = F
either false first second F S = S

both_texts : (host domain : List ℕ) → IsReadable host → IsReadable domain → AreTexts (capability_value_json (capability.names host domain))
both_texts host domain first second = field (codes "host") refl first (field (codes "domain") refl second tt)

of_domain : (host rest : List ℕ) → IsReadable host → (found : Option Counted) → counted_in rest ≡ found → (a : CapabilityValue) → with_domain host found ≡ Some a
    → AreTexts (capability_value_json a)
of_domain host rest is None found a e = absurd (none-some a e)
of_domain host rest is (Some domain) found a e =
    subst (λ (v : CapabilityValue). AreTexts (capability_value_json v)) (cond_some _ (capability.names host domain.text) a e).1
    (both_texts host domain.text is (counted_readable rest domain found))

of_host : (octets : List ℕ) (found : Option Counted) → counted_in octets ≡ found → (a : CapabilityValue) → with_host found ≡ Some a → AreTexts (capability_value_json a)
of_host octets None found a e = absurd (none-some a e)
of_host octets (Some host) found a e = of_domain host.text host.rest (counted_readable octets host found) (counted_in host.rest) refl a e

tells_names : Tells names_value
tells_names octets a are e = of_host octets (counted_in octets) refl a e

tells_none : Tells (λ octets. None)
tells_none octets a are e = absurd (none-some a e)

tells_value : (code : ℕ) → Tells (capability_value code)
tells_value code =
    either (code == 1) family_value _ (tells _ (λ octets. capability.family (big_number 2 octets) (slice_index octets 3)) (λ octets are. family (big_number 2 octets) (slice_index octets 3) tt))
    (either (is_empty_code code) offered_value _ (tells _ (λ octets. capability.offered) (λ octets are. tt))
    (either (code == 5) next_hops_value _ (tells _ (λ octets. capability.next_hops (items_of item.HopFamily octets)) (λ octets are. of_items item.HopFamily octets are))
    (either (code == 9) role_value _ (tells _ (λ octets. capability.role (slice_index octets 0)) (λ octets are. of_text (name_visible [] role_names nothing refl (slice_index octets 0))))
    (either (code == 64) restart_value _
    (tells _ (λ octets. capability.restart (has_bits 128 (slice_index octets 0)) (has_bits 64 (slice_index octets 0)) (big_number 2 octets % 4096) (items_of item.RestartFamily (drop 2 octets)))
    (λ octets are. field (codes "restarted") refl tt (field (codes "notification") refl tt (field (codes "time") refl (of_number (big_number 2 octets % 4096))
    (field (codes "families") refl (of_items item.RestartFamily (drop 2 octets) (All-drop IsOctet 2 octets are)) tt)))))
    (either (code == 65) as_number_value _ (tells _ (λ octets. capability.as_number (big_number 4 octets)) (λ octets are. of_number (big_number 4 octets)))
    (either (code == 69) paths_value _ (tells _ (λ octets. capability.paths (items_of item.PathFamily octets)) (λ octets are. of_items item.PathFamily octets are))
    (either (code == 71) long_lived_value _ (tells _ (λ octets. capability.long_lived (items_of item.LongLivedFamily octets)) (λ octets are. of_items item.LongLivedFamily octets are))
    (either (code == 73) names_value _ tells_names tells_none))))))))

pub of_capability : (c : Triplet) → IsTriplet c → AreTexts (capability_json c)
of_capability c is =
    of_object (capability_members c)
    (field (codes "code") refl (of_number c.code)
    (field (codes "name") refl (of_text (named_visible (codes "capability ") capability_names refl refl c.code))
    (of_value capability_value_json spelled_capability (capability_value c.code c.value) c.value is.value (λ a e. tells_value c.code c.value a is.value e))))

-- ---- attributes, but for routes

abbrev Says : (List ℕ → Option AttributeValue) → Type 0
Says read = (octets : List ℕ) (a : AttributeValue) → AreOctets octets → read octets ≡ Some a → AreTexts (attribute_value_json a)

says : (test : List ℕ → Bool) (value : List ℕ → AttributeValue) → ((octets : List ℕ) → AreOctets octets → AreTexts (attribute_value_json (value octets)))
    → Says (λ octets. if test octets then Some (value octets) else None)
says test value each octets a are e = subst (λ (v : AttributeValue). AreTexts (attribute_value_json v)) (cond_some (test octets) (value octets) a e).1 (each octets are)

or_else : (test : Bool) (first second : List ℕ → Option AttributeValue) → Says first → Says second → Says (λ octets. if test then first octets else second octets)
or_else true first second F S = F
or_else false first second F S = S

of_segment : (as4 : Bool) (s : WireSegment) → IsSegmentOf (number_width as4) s → AreTexts (segment_json as4 s)
of_segment as4 s is =
    field (codes "kind") refl (of_text (name_visible [] segment_names nothing refl s.kind)) (field (codes "as") refl (of_items (as_item as4) s.numbers is.are) tt)

says_path : (as4 : Bool) → Says (path_value as4)
says_path as4 =
    says _ (λ octets. attribute.path as4 (segments_of (number_width as4) octets))
    (λ octets are. of_array (segment_json as4) (IsSegmentOf (number_width as4)) (of_segment as4) (segments_of (number_width as4) octets) (each_segment (number_width as4) octets are))

says_aggregator : (as4 : Bool) → Says (aggregator_value as4)
says_aggregator as4 =
    says _ (λ octets. attribute.aggregator (big_number (number_width as4) octets) (big_number 4 (drop (number_width as4) octets)))
    (λ octets are. field (codes "as") refl (of_number (big_number (number_width as4) octets)) (field (codes "address") refl (of_address (V4 (big_number 4 (drop (number_width as4) octets)))) tt))

says_items : (kind : Item) → Says (items_value kind)
says_items kind = says _ (λ octets. attribute.items kind (items_of kind octets)) (λ octets are. of_items kind octets are)

says_none : Says (λ octets. None)
says_none octets a are e = absurd (none-some a e)

says_as4_path : Says as4_path_value
says_as4_path octets a are e = says_path true octets a are (behind_test octets a e)

says_value : (as4 : Bool) (kind : ℕ) → Says (attribute_value as4 kind)
says_value as4 kind =
    or_else (kind == 1) origin_value _ (says _ (λ octets. attribute.origin (slice_index octets 0)) (λ octets are. of_text (name_visible [] origin_names nothing refl (slice_index octets 0))))
    (or_else (kind == 2) (path_value as4) _ (says_path as4)
    (or_else (is_address_type kind) address_value _ (says _ (λ octets. attribute.address (big_number 4 octets)) (λ octets are. of_address (V4 (big_number 4 octets))))
    (or_else (is_number_type kind) number_value _ (says _ (λ octets. attribute.number (big_number 4 octets)) (λ octets are. of_number (big_number 4 octets)))
    (or_else (kind == 6) atomic_value _ (says _ (λ octets. attribute.atomic) (λ octets are. tt))
    (or_else (kind == 7) (aggregator_value as4) _ (says_aggregator as4)
    (or_else (kind == 8) (items_value item.Community) _ (says_items item.Community)
    (or_else (kind == 10) (items_value item.Cluster) _ (says_items item.Cluster)
    (or_else (kind == 16) (items_value item.ExtendedCommunity) _ (says_items item.ExtendedCommunity)
    (or_else (kind == 17) as4_path_value _ says_as4_path
    (or_else (kind == 18) (aggregator_value true) _ (says_aggregator true)
    (or_else (kind == 26) metric_value _ (says _ (λ octets. attribute.metric (big_number 8 (drop 3 octets))) (λ octets are. of_text (decimal_visible (big_number 8 (drop 3 octets)))))
    (or_else (kind == 32) (items_value item.LargeCommunity) _ (says_items item.LargeCommunity) says_none))))))))))))

-- ---- routes

pub of_destinations : (ds : List Destination) → AreTexts (destinations_json ds)
of_destinations ds = of_any destination_json (λ d. of_text (prefix_visible d.prefix)) ds

pub of_ids : (ds : List Destination) → AreTexts (path_ids_json ds)
of_ids ds = of_any number_of of_number _

of_paths : (identified : Bool) (ds : List Destination) → HaveTexts (path_ids_members identified ds)
of_paths true ds = field (codes "paths") refl (of_ids ds) tt
of_paths false ds = tt

of_hop : (hop : Option NextHop) → HaveTexts (hop_members hop)
of_hop None = tt
of_hop (Some hop) = field (codes "next_hop") refl (of_any address_json of_address (hop_addresses hop)) tt

of_routes : (announced : Bool) (name : List ℕ) → IsReadable name → (form : RouteForm) (value : RoutesValue) → IsValue announced form value → AreTexts (routes_json name form value)
of_routes announced name readable form (unicast f contents) is =
    let behind = (name, destinations_json contents.destinations) ∷ path_ids_members (is_identified form f) contents.destinations in
    of_object (family_members (afi_of f) 1 ++ (hop_members contents.next_hop ++ behind))
    (family (afi_of f) 1
    (of_both (hop_members contents.next_hop) behind (of_hop contents.next_hop)
    (readable, of_destinations contents.destinations, of_paths (is_identified form f) contents.destinations)))
of_routes announced name readable form (other afi safi octets) is = family afi safi (field (codes "rest") refl (of_octets octets is.2) tt)

-- ---- any attribute

pub if_texts : (is_so : Bool) (ms ns : List (List ℕ × Json)) → HaveTexts ms → HaveTexts ns → HaveTexts (if is_so then ms else ns)
if_texts true ms ns first second = first
if_texts false ms ns first second = second

of_width : (as4 : Bool) (kind : ℕ) (value : Option AttributeValue) → HaveTexts (width_members as4 kind value)
of_width as4 kind None = tt
of_width as4 kind (Some value) = if_texts ((kind == 2) || (kind == 7)) _ [] (field (codes "width") refl (of_number (number_width as4)) tt) tt

of_said : (reading : Reading) (a : Attribute) → IsAttribute a → HaveTexts (said_members reading a)
of_said reading a is =
    if_texts (a.kind == 14) _ _
    (of_value (routes_json (codes "nlri") reading.form) spelled_routes (reach_value reading.form a.value) a.value is.value
    (λ v e. of_routes true (codes "nlri") (as_key (codes "nlri") refl) reading.form v (reach_read reading.form a.value v is.value e)))
    (if_texts (a.kind == 15) _ _
    (of_value (routes_json (codes "withdrawn") reading.form) spelled_routes (unreach_value reading.form a.value) a.value is.value
    (λ v e. of_routes false (codes "withdrawn") (as_key (codes "withdrawn") refl) reading.form v (unreach_read reading.form a.value v is.value e)))
    (of_both (width_members reading.as4 a.kind (attribute_value reading.as4 a.kind a.value)) _ (of_width reading.as4 a.kind (attribute_value reading.as4 a.kind a.value))
    (of_value attribute_value_json (spelled_attribute (width_of_type reading.as4 a.kind)) (attribute_value reading.as4 a.kind a.value) a.value is.value
    (λ v e. says_value reading.as4 a.kind a.value v is.value e))))

pub of_attribute : (reading : Reading) (a : Attribute) → IsAttribute a → AreTexts (attribute_json reading a)
of_attribute reading a is =
    of_object (attribute_members reading a)
    (field (codes "type") refl (of_number a.kind)
    (field (codes "name") refl (of_text (named_visible (codes "attribute ") attribute_names refl refl a.kind))
    (field (codes "flags") refl (of_number a.flags) (of_said reading a is))))

-- ---- errors

of_data : (value : Option DataValue) → ((v : DataValue) → value ≡ Some v → IsSaid v) → HaveTexts (data_members value)
of_data None said = tt
of_data (Some (communication text)) said = field (codes "communication") refl (said (communication text) refl) tt
of_data (Some (maximum afi safi prefixes)) said = field (codes "maximum") refl (family afi safi (field (codes "prefixes") refl (of_number prefixes) tt)) tt

of_plain_error : (e : ErrorFields) → AreOctets e.detail → HaveTexts (plain_error_members e)
of_plain_error e are =
    field (codes "code") refl (of_number e.code) (field (codes "subcode") refl (of_number e.subcode) (field (codes "name") refl (of_text (error_visible e.code e.subcode))
    (field (codes "data") refl (of_octets e.detail are) (of_data (data_value e) (data_said e)))))

of_cause : (cause : Option ErrorFields) → ((c : ErrorFields) → cause ≡ Some c → AreOctets c.detail) → HaveTexts (cause_members cause)
of_cause None each = tt
of_cause (Some cause) each = field (codes "cause") refl (of_object (plain_error_members cause) (of_plain_error cause (each cause refl))) tt

pub of_error : (e : ErrorFields) → AreOctets e.detail → HaveTexts (error_members e)
of_error e are =
    of_both (plain_error_members e) (cause_members (cause_of e)) (of_plain_error e are) (of_cause (cause_of e) (λ cause found. cause_are _ e.detail cause are found))

-- ---- times

of_micro : (micro : Option ℕ) → HaveTexts (micro_members micro)
of_micro None = tt
of_micro (Some micro) = if_texts (nat_lt micro 1000000) ((codes "micro", number_of micro) ∷ []) [] (field (codes "micro") refl (of_number micro) tt) tt

pub of_time : (second : ℕ) (micro : Option ℕ) → HaveTexts (time_members second micro)
of_time second micro = field (codes "second") refl (of_number second) (of_micro micro)
