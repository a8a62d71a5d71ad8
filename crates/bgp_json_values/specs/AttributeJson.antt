-- A path attribute in JSON (RFC 4271, 4.3 and 5).
use Rattle.std.specs.Prelude.{◌++◌, ◌==◌, ◌||◌, ℕ, Bool, true, List, [], ◌∷◌, Option, None, Some}
use Rattle.std.specs.Prelude.{codes, flat_map, if◌then◌else◌}
use Rattle.std.specs.Fmt.{decimal}
use Rattle.byteorder.specs.Endian.{big_bytes}
use Rattle.json.specs.Json.{Json, boolean, string}
use Rattle.bgp_prefix.specs.declared.address.Address.TheVariants.{V4}
use Rattle.bgp_attr.specs.Field.{Attribute}
use Rattle.bgp_attr.specs.Segments.{WireSegment, number_width, segment_octets}
use Rattle.bgp_names.specs.Attributes.{attribute_names, origin_names, segment_names}
use Rattle.bgp_names.specs.Naming.{name_in, name_or}
use Rattle.bgp_values.specs.Items.{items_of}
use Rattle.bgp_values.specs.declared.items.Item.{Item}
use Rattle.bgp_values.specs.declared.items.Item.TheVariants.{AsNumber2, AsNumber4}
use Rattle.bgp_values.specs.declared.opens.Reading.{Reading}
use Rattle.bgp_values.specs.AttributeValue.{AttributeValue, origin, path, address, number, atomic}
use Rattle.bgp_values.specs.AttributeValue.{aggregator, items, metric, attribute_value}
use Rattle.bgp_values.specs.RoutesValue.{reach_value, unreach_value}
use Rattle.bgp_json_values.specs.Objects.{array_of, number_of, object_of}
use Rattle.bgp_json_values.specs.Texts.{address_json, name_json}
use Rattle.bgp_json_values.specs.ItemJson.{items_json}
use Rattle.bgp_json_values.specs.Octets.{value_or_octets}
use Rattle.bgp_json_values.specs.CapabilityJson.{itself}
use Rattle.bgp_json_values.specs.RoutesJson.{routes_json, spelled_routes}

-- ---- values

-- the name of a value of ORIGIN
abbrev pub origin_json : ℕ → Json
origin_json n = string (name_or [] (name_in origin_names n))

-- an AS number of two octets or four
abbrev pub as_item : Bool → Item
as_item as4 = if as4 then AsNumber4 else AsNumber2

-- the name of a type of segment
abbrev pub segment_name_json : ℕ → Json
segment_name_json kind = string (name_or [] (name_in segment_names kind))

-- a segment: the name of its type, and its AS numbers
abbrev pub segment_json : Bool → WireSegment → Json
segment_json as4 s =
    object_of ((codes "kind", segment_name_json s.kind)
    ∷ (codes "as", items_json (as_item as4) (items_of (as_item as4) s.numbers)) ∷ [])

abbrev pub attribute_value_json : AttributeValue → Json
attribute_value_json (origin n) = origin_json n
attribute_value_json (path as4 segments) = array_of (segment_json as4) segments
attribute_value_json (address n) = address_json (V4 n)
attribute_value_json (number n) = number_of n
attribute_value_json atomic = boolean true
attribute_value_json (aggregator as_number router) =
    object_of ((codes "as", number_of as_number) ∷ (codes "address", address_json (V4 router)) ∷ [])
attribute_value_json (items kind values) = items_json kind values
-- a number of 64 bits is a text, since many readers have numbers of 53
attribute_value_json (metric n) = string (decimal n)

-- ---- the octets that a value spells, where AS numbers have so many

abbrev pub spelled_attribute : ℕ → AttributeValue → List ℕ
spelled_attribute width (origin n) = n ∷ []
spelled_attribute width (path as4 segments) = flat_map segment_octets segments
spelled_attribute width (address n) = big_bytes 4 n
spelled_attribute width (number n) = big_bytes 4 n
spelled_attribute width atomic = []
spelled_attribute width (aggregator as_number router) =
    big_bytes width as_number ++ big_bytes 4 router
spelled_attribute width (items kind values) = flat_map itself values
spelled_attribute width (metric n) = 1 ∷ big_bytes 2 11 ++ big_bytes 8 n

-- ---- attributes

-- how many octets the AS numbers of an attribute of this type have: AS4_AGGREGATOR's have four
abbrev pub width_of_type : Bool → ℕ → ℕ
width_of_type as4 kind = if kind == 18 then 4 else number_width as4

-- how many they have in a value of this type, if OPENs settle it: AS_PATH and AGGREGATOR
abbrev pub width_member : Bool → ℕ → List (List ℕ × Json)
width_member as4 kind =
    if (kind == 2) || (kind == 7) then (codes "width", number_of (number_width as4)) ∷ [] else []

abbrev pub width_members : Bool → ℕ → Option AttributeValue → List (List ℕ × Json)
width_members as4 kind None = []
width_members as4 kind (Some value) = width_member as4 kind

-- what an attribute says but for routes, where AS numbers have four octets or two; or its octets
abbrev pub plain_members : Bool → ℕ → List ℕ → Option AttributeValue → List (List ℕ × Json)
plain_members as4 kind octets value =
    width_members as4 kind value
    ++ value_or_octets attribute_value_json (spelled_attribute (width_of_type as4 kind)) value
    octets

-- what an attribute says, or its octets
abbrev pub said_members : Reading → Attribute → List (List ℕ × Json)
said_members reading a =
    if a.kind == 14
    then value_or_octets (routes_json (codes "nlri") reading.form) spelled_routes
    (reach_value reading.form a.value) a.value
    else if a.kind == 15
    then value_or_octets (routes_json (codes "withdrawn") reading.form) spelled_routes
    (unreach_value reading.form a.value) a.value
    else plain_members reading.as4 a.kind a.value (attribute_value reading.as4 a.kind a.value)

abbrev pub attribute_members : Reading → Attribute → List (List ℕ × Json)
attribute_members reading a =
    (codes "type", number_of a.kind)
    ∷ (codes "name", name_json (codes "attribute ") attribute_names a.kind)
    ∷ (codes "flags", number_of a.flags)
    ∷ said_members reading a

abbrev pub attribute_json : Reading → Attribute → Json
attribute_json reading a = object_of (attribute_members reading a)

abbrev pub attributes_json : Reading → List Attribute → Json
attributes_json reading attributes = array_of (attribute_json reading) attributes
