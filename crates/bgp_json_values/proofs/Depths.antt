-- How deep arrays and objects nest: few enough for a reader of JSON, which stops at 128.
use Rattle.std.specs.Prelude.{⊤, nat_lt}
use Rattle.std.proofs.Common.{◌≤◌, ◌++◌, ◌∷◌, ◌==◌, ◌||◌, ℕ, suc, List, [], Bool, true, false, Option, None, Some, arith, bytes_eq, codes, if◌then◌else◌, map}
use Rattle.std.proofs.Math.Nat.{max-le}
use Rattle.json.specs.Json.{Json, boolean}
use Rattle.json.specs.Tree.{depth}
use Rattle.json.specs.Tree as tree
use Rattle.bgp_open.specs.Offer.{afi_of}
use Rattle.bgp_open.specs.Triplet.{Triplet}
use Rattle.bgp_path.specs.declared.path.NextHop.{NextHop}
use Rattle.bgp_attr.specs.Field.{Attribute}
use Rattle.bgp_attr.specs.Segments.{WireSegment}
use Rattle.bgp_values.specs.Destinations.{is_identified}
use Rattle.bgp_values.specs.Destination.{Destination}
use Rattle.bgp_values.specs.AttributeValue as attribute
use Rattle.bgp_values.specs.AttributeValue.{AttributeValue, attribute_value}
use Rattle.bgp_values.specs.CapabilityValue as capability
use Rattle.bgp_values.specs.CapabilityValue.{CapabilityValue, capability_value}
use Rattle.bgp_values.specs.ErrorData.{DataValue, ErrorFields, cause_of, communication, data_value, maximum}
use Rattle.bgp_values.specs.Items.{items_of}
use Rattle.bgp_values.specs.RoutesValue.{RoutesValue, other, reach_value, unicast, unreach_value}
use Rattle.bgp_values.specs.declared.items.Item.{Item}
use Rattle.bgp_values.specs.declared.items.Item.TheVariants as item
use Rattle.bgp_values.specs.declared.opens.Reading.{Reading}
use Rattle.bgp_open.specs.declared.route_form.RouteForm.{RouteForm}
use Rattle.bgp_json_values.specs.AttributeJson.{as_item, attribute_json, attribute_members, attribute_value_json, attributes_json, plain_members, segment_json, segment_name_json, spelled_attribute, width_members, width_of_type}
use Rattle.bgp_json_values.specs.CapabilityJson.{capabilities_json, capability_json, capability_members, capability_value_json, spelled_capability}
use Rattle.bgp_json_values.specs.ErrorJson.{cause_members, data_members, error_members, plain_error_members}
use Rattle.bgp_json_values.specs.ItemJson.{family_members, item_json, items_json}
use Rattle.bgp_json_values.specs.Objects.{array_of, in_array, in_object, number_of, object_of}
use Rattle.bgp_json_values.specs.Octets.{octets_members, value_or_octets}
use Rattle.bgp_json_values.specs.RoutesJson.{destination_json, destinations_json, hop_addresses, hop_members, path_ids_members, routes_json, spelled_routes}
use Rattle.bgp_json_values.specs.Texts.{address_json}
use Rattle.bgp_json_values.specs.Times.{micro_members, time_members}

-- ---- of arrays and objects

-- members whose values nest so deep at most
abbrev pub AreWithin : ℕ → List (List ℕ × Json) → Type 0
AreWithin n [] = ⊤
AreWithin n (m ∷ members) = (depth m.1 ≤ n) × AreWithin n members

in_array_within : {A : Type 0} (n : ℕ) (f : A → Json) (xs : List A) → ((x : A) → depth (f x) ≤ n) → tree.items_depth (in_array (map f xs)) ≤ n
in_array_within n f [] each = omega arith
in_array_within n f (x ∷ xs) each = max-le (each x) (in_array_within n f xs each)

pub array_depth : {A : Type 0} (n : ℕ) (f : A → Json) (xs : List A) → ((x : A) → depth (f x) ≤ n) → depth (array_of f xs) ≤ suc n
array_depth n f xs each = let inside = in_array_within n f xs each in omega (arith, inside)

in_object_within : (n : ℕ) (members : List (List ℕ × Json)) → AreWithin n members → tree.members_depth (in_object members) ≤ n
in_object_within n [] each = omega arith
in_object_within n (m ∷ members) each = max-le each.0 (in_object_within n members each.1)

pub object_depth : (n : ℕ) (members : List (List ℕ × Json)) → AreWithin n members → depth (object_of members) ≤ suc n
object_depth n members each = let inside = in_object_within n members each in omega (arith, inside)

pub both_within : (n : ℕ) (members others : List (List ℕ × Json)) → AreWithin n members → AreWithin n others → AreWithin n (members ++ others)
both_within n [] others each more = more
both_within n (m ∷ members) others each more = (each.0, both_within n members others each.1 more)

-- ---- of times

if_within : (n : ℕ) (is_so : Bool) (members : List (List ℕ × Json)) → AreWithin n members → AreWithin n (if is_so then members else [])
if_within n true members each = each
if_within n false members each = tt

micro_within : (n : ℕ) (micro : Option ℕ) → AreWithin n (micro_members micro)
micro_within n None = tt
micro_within n (Some micro) = if_within n (nat_lt micro 1000000) ((codes "micro", number_of micro) ∷ []) (omega arith, tt)

pub time_within : (n second : ℕ) (micro : Option ℕ) → AreWithin n (time_members second micro)
time_within n second micro = (omega arith, micro_within n micro)

-- ---- of octets beside a value

unless_within : (n : ℕ) (test : Bool) (octets : List ℕ) → AreWithin n (if test then [] else octets_members octets)
unless_within n true octets = tt
unless_within n false octets = (omega arith, tt)

value_within : {V : Type 0} (n : ℕ) (json : V → Json) (spelled : V → List ℕ) (value : Option V) (octets : List ℕ) → ((v : V) → depth (json v) ≤ n)
    → AreWithin n (value_or_octets json spelled value octets)
value_within n json spelled None octets each = (omega arith, tt)
value_within n json spelled (Some v) octets each = (each v, unless_within n (bytes_eq (spelled v) octets) octets)

-- ---- of items

item_depth : (kind : Item) (octets : List ℕ) → depth (item_json kind octets) ≤ 1
item_depth item.HopFamily octets = omega arith
item_depth item.RestartFamily octets = omega arith
item_depth item.PathFamily octets = omega arith
item_depth item.LongLivedFamily octets = omega arith
item_depth item.AsNumber2 octets = omega arith
item_depth item.AsNumber4 octets = omega arith
item_depth item.Community octets = omega arith
item_depth item.ExtendedCommunity octets = omega arith
item_depth item.LargeCommunity octets = omega arith
item_depth item.Cluster octets = omega arith

items_depth : (kind : Item) (values : List (List ℕ)) → depth (items_json kind values) ≤ 2
items_depth kind values = array_depth 1 (item_json kind) values (item_depth kind)

-- ---- of capabilities

capability_value_depth : (value : CapabilityValue) → depth (capability_value_json value) ≤ 3
capability_value_depth (capability.family afi safi) = omega arith
capability_value_depth capability.offered = omega arith
capability_value_depth (capability.next_hops values) = let inside = items_depth item.HopFamily values in omega (arith, inside)
capability_value_depth (capability.role number) = omega arith
capability_value_depth (capability.restart restarted notification seconds values) =
    let members = (codes "restarted", boolean restarted) ∷ (codes "notification", boolean notification) ∷ (codes "time", number_of seconds)
    ∷ (codes "families", items_json item.RestartFamily values) ∷ [] in
    object_depth 2 members (omega arith, (omega arith, (omega arith, (items_depth item.RestartFamily values, tt))))
capability_value_depth (capability.as_number number) = omega arith
capability_value_depth (capability.paths values) = let inside = items_depth item.PathFamily values in omega (arith, inside)
capability_value_depth (capability.long_lived values) = let inside = items_depth item.LongLivedFamily values in omega (arith, inside)
capability_value_depth (capability.names host domain) = omega arith

capability_depth : (c : Triplet) → depth (capability_json c) ≤ 4
capability_depth c =
    object_depth 3 (capability_members c) (
      omega arith,
      (
        omega arith,
        value_within 3 capability_value_json spelled_capability (capability_value c.code c.value) c.value capability_value_depth,
      ),
    )

pub capabilities_depth : (capabilities : List Triplet) → depth (capabilities_json capabilities) ≤ 5
capabilities_depth capabilities = array_depth 4 capability_json capabilities capability_depth

-- ---- of routes

pub destinations_depth : (destinations : List Destination) → depth (array_of destination_json destinations) ≤ 1
destinations_depth destinations = array_depth 0 destination_json destinations (λ d. omega arith)

pub path_ids_depth : (ids : List ℕ) → depth (array_of number_of ids) ≤ 1
path_ids_depth ids = array_depth 0 number_of ids (λ n. omega arith)

hop_within : (hop : Option NextHop) → AreWithin 1 (hop_members hop)
hop_within None = tt
hop_within (Some hop) = (array_depth 0 address_json (hop_addresses hop) (λ a. omega arith), tt)

ids_within : (identified : Bool) (destinations : List Destination) → AreWithin 1 (path_ids_members identified destinations)
ids_within true destinations = (path_ids_depth _, tt)
ids_within false destinations = tt

routes_depth : (name : List ℕ) (form : RouteForm) (value : RoutesValue) → depth (routes_json name form value) ≤ 2
routes_depth name form (unicast family contents) =
    let hop = hop_members contents.next_hop in
    let listed = (name, destinations_json contents.destinations) ∷ path_ids_members (is_identified form family) contents.destinations in
    object_depth 1 (family_members (afi_of family) 1 ++ (hop ++ listed)) (
      omega arith,
      (
        omega arith,
        both_within 1 hop listed (hop_within contents.next_hop)
            (destinations_depth contents.destinations, ids_within (is_identified form family) contents.destinations),
      ),
    )
routes_depth name form (other afi safi octets) = omega arith

-- ---- of attributes

segment_depth : (as4 : Bool) (s : WireSegment) → depth (segment_json as4 s) ≤ 3
segment_depth as4 s =
    let numbers = items_of (as_item as4) s.numbers in
    let members = (codes "kind", segment_name_json s.kind) ∷ (codes "as", items_json (as_item as4) numbers) ∷ [] in
    object_depth 2 members (omega arith, (items_depth (as_item as4) numbers, tt))

attribute_value_depth : (value : AttributeValue) → depth (attribute_value_json value) ≤ 4
attribute_value_depth (attribute.origin n) = omega arith
attribute_value_depth (attribute.path as4 segments) = array_depth 3 (segment_json as4) segments (segment_depth as4)
attribute_value_depth (attribute.address n) = omega arith
attribute_value_depth (attribute.number n) = omega arith
attribute_value_depth attribute.atomic = omega arith
attribute_value_depth (attribute.aggregator as_number router) = omega arith
attribute_value_depth (attribute.items kind values) = let inside = items_depth kind values in omega (arith, inside)
attribute_value_depth (attribute.metric n) = omega arith

width_within : (test : Bool) (width : ℕ) → AreWithin 4 (if test then (codes "width", number_of width) ∷ [] else [])
width_within true width = (omega arith, tt)
width_within false width = tt

widths_within : (as4 : Bool) (kind : ℕ) (value : Option AttributeValue) → AreWithin 4 (width_members as4 kind value)
widths_within as4 kind None = tt
widths_within as4 kind (Some value) = width_within ((kind == 2) || (kind == 7)) _

plain_within : (as4 : Bool) (kind : ℕ) (octets : List ℕ) (value : Option AttributeValue) → AreWithin 4 (plain_members as4 kind octets value)
plain_within as4 kind octets value =
    both_within 4 (width_members as4 kind value) (value_or_octets attribute_value_json (spelled_attribute (width_of_type as4 kind)) value octets) (widths_within as4 kind value)
    (value_within 4 attribute_value_json (spelled_attribute (width_of_type as4 kind)) value octets attribute_value_depth)

routes_within : (name : List ℕ) (form : RouteForm) (value : Option RoutesValue) (octets : List ℕ) → AreWithin 4 (value_or_octets (routes_json name form) spelled_routes value octets)
routes_within name form value octets =
    value_within 4 (routes_json name form) spelled_routes value octets (λ v. let inside = routes_depth name form v in omega (arith, inside))

said_within : (reach unreach : Bool) (first second third : List (List ℕ × Json)) → AreWithin 4 first → AreWithin 4 second → AreWithin 4 third
    → AreWithin 4 (if reach then first else if unreach then second else third)
said_within true unreach first second third a b c = a
said_within false true first second third a b c = b
said_within false false first second third a b c = c

attribute_depth : (reading : Reading) (a : Attribute) → depth (attribute_json reading a) ≤ 5
attribute_depth reading a =
    let reach = value_or_octets (routes_json (codes "nlri") reading.form) spelled_routes (reach_value reading.form a.value) a.value in
    let unreach = value_or_octets (routes_json (codes "withdrawn") reading.form) spelled_routes (unreach_value reading.form a.value) a.value in
    let plain = plain_members reading.as4 a.kind a.value (attribute_value reading.as4 a.kind a.value) in
    object_depth 4 (attribute_members reading a) (
      omega arith,
      (
        omega arith,
        (
          omega arith,
          said_within (a.kind == 14) (a.kind == 15) reach unreach plain
              (routes_within (codes "nlri") reading.form (reach_value reading.form a.value) a.value)
              (routes_within (codes "withdrawn") reading.form (unreach_value reading.form a.value) a.value)
              (plain_within reading.as4 a.kind a.value (attribute_value reading.as4 a.kind a.value)),
        ),
      ),
    )

pub attributes_depth : (reading : Reading) (attributes : List Attribute) → depth (attributes_json reading attributes) ≤ 6
attributes_depth reading attributes = array_depth 5 (attribute_json reading) attributes (attribute_depth reading)

-- ---- of errors

data_within : (n : ℕ) (value : Option DataValue) → 1 ≤ n → AreWithin n (data_members value)
data_within n None some = tt
data_within n (Some (communication text)) some = (omega arith, tt)
data_within n (Some (maximum afi safi prefixes)) some = (omega (arith, some), tt)

plain_error_within : (n : ℕ) (e : ErrorFields) → 1 ≤ n → AreWithin n (plain_error_members e)
plain_error_within n e some = (omega arith, (omega arith, (omega arith, (omega arith, data_within n (data_value e) some))))

cause_within : (cause : Option ErrorFields) → AreWithin 2 (cause_members cause)
cause_within None = tt
cause_within (Some cause) = (object_depth 1 (plain_error_members cause) (plain_error_within 1 cause (omega arith)), tt)

pub error_within : (e : ErrorFields) → AreWithin 2 (error_members e)
error_within e = both_within 2 (plain_error_members e) (cause_members (cause_of e)) (plain_error_within 2 e (omega arith)) (cause_within (cause_of e))
