-- What the value of a path attribute says (RFC 4271, 4.3 and 5), but for the two that have routes
-- of other families. It says something if its octets have the form that its type demands.
use Rattle.std.specs.Prelude.{◌==◌, ◌&&◌, ◌||◌, nat_le, ℕ, Bool, true, List, ◌+◌, Option, None}
use Rattle.std.specs.Prelude.{Some, if◌then◌else◌, length, drop, slice_index}
use Rattle.byteorder.specs.Endian.{big_number}
use Rattle.bgp_update.specs.Segments.{WireSegment, are_segments, number_width}
use Rattle.bgp_values.specs.PathSegments.{segments_of}
use Rattle.bgp_values.specs.Pieces.{are_some_pieces}
use Rattle.bgp_values.specs.Items.{item_size, items_of}
use Rattle.bgp_values.specs.declared.items.Item.{Item}
use Rattle.bgp_values.specs.declared.items.Item.TheVariants as item
use Rattle.bgp_values.specs.declared.attribute_value.AttributeValue as declared
use Rattle.bgp_values.specs.declared.attribute_value.AttributeValue.TheVariants as variants

pub data AttributeValue : Type 0 where
  -- the number of ORIGIN
  origin : ℕ → AttributeValue
  -- whether AS numbers have four octets, and the segments of a path
  path : Bool → List WireSegment → AttributeValue
  -- an IPv4 address
  address : ℕ → AttributeValue
  -- a number
  number : ℕ → AttributeValue
  -- nothing but that it is there
  atomic : AttributeValue
  -- an AS number and an IPv4 address
  aggregator : ℕ → ℕ → AttributeValue
  -- items
  items : Item → List (List ℕ) → AttributeValue
  -- a metric of 64 bits
  metric : ℕ → AttributeValue

-- 0 to 2 (RFC 4271, 4.3 a)
abbrev pub origin_value : List ℕ → Option AttributeValue
origin_value octets =
    if (length octets == 1) && nat_le (slice_index octets 0) 2
    then Some (origin (slice_index octets 0)) else None

-- segments of types 1 to 4, none of them empty (RFC 4271, 4.3 b; RFC 5065, 3)
abbrev pub path_value : Bool → List ℕ → Option AttributeValue
path_value as4 octets =
    if are_segments 4 (number_width as4) octets
    then Some (path as4 (segments_of (number_width as4) octets)) else None

-- the same with numbers of four octets, and not without segments (RFC 6793, 6)
abbrev pub as4_path_value : List ℕ → Option AttributeValue
as4_path_value octets = if length octets == 0 then None else path_value true octets

-- four octets (RFC 4271, 4.3 c; RFC 4456, 8)
abbrev pub address_value : List ℕ → Option AttributeValue
address_value octets = if length octets == 4 then Some (address (big_number 4 octets)) else None

-- four octets (RFC 4271, 4.3 d and e; RFC 9234, 5)
abbrev pub number_value : List ℕ → Option AttributeValue
number_value octets = if length octets == 4 then Some (number (big_number 4 octets)) else None

-- no octets (RFC 4271, 4.3 f)
abbrev pub atomic_value : List ℕ → Option AttributeValue
atomic_value octets = if length octets == 0 then Some atomic else None

-- an AS number of two octets or four, and an address (RFC 4271, 4.3 g; RFC 6793, 3)
abbrev pub aggregator_value : Bool → List ℕ → Option AttributeValue
aggregator_value as4 octets =
    if length octets == number_width as4 + 4
    then Some (aggregator (big_number (number_width as4) octets)
    (big_number 4 (drop (number_width as4) octets)))
    else None

-- items, one at least
abbrev pub items_value : Item → List ℕ → Option AttributeValue
items_value kind octets =
    if are_some_pieces (item_size kind) octets
    then Some (items kind (items_of kind octets)) else None

-- one TLV of type 1 and length 11, its header included (RFC 7311, 3)
abbrev pub metric_value : List ℕ → Option AttributeValue
metric_value octets =
    if (length octets == 11)
    && ((slice_index octets 0 == 1) && (big_number 2 (drop 1 octets) == 11))
    then Some (metric (big_number 8 (drop 3 octets))) else None

-- NEXT_HOP and ORIGINATOR_ID
abbrev pub is_address_type : ℕ → Bool
is_address_type kind = (kind == 3) || (kind == 9)

-- MULTI_EXIT_DISC, LOCAL_PREF and ONLY_TO_CUSTOMER
abbrev pub is_number_type : ℕ → Bool
is_number_type kind = (kind == 4) || ((kind == 5) || (kind == 35))

-- what the octets of an attribute of this type say, where AS numbers have two octets or four
abbrev pub attribute_value : Bool → ℕ → List ℕ → Option AttributeValue
attribute_value as4 kind octets =
    if kind == 1 then origin_value octets
    else if kind == 2 then path_value as4 octets
    else if is_address_type kind then address_value octets
    else if is_number_type kind then number_value octets
    else if kind == 6 then atomic_value octets
    else if kind == 7 then aggregator_value as4 octets
    else if kind == 8 then items_value item.Community octets
    else if kind == 10 then items_value item.Cluster octets
    else if kind == 16 then items_value item.ExtendedCommunity octets
    else if kind == 17 then as4_path_value octets
    else if kind == 18 then aggregator_value true octets
    else if kind == 26 then metric_value octets
    else if kind == 32 then items_value item.LargeCommunity octets
    else None

-- what code has for a value
abbrev pub attribute_value_of : declared.AttributeValue → AttributeValue
attribute_value_of (variants.Origin n) = origin n
attribute_value_of (variants.Path as4 octets) =
    path as4 (segments_of (number_width as4) octets.now)
attribute_value_of (variants.Address n) = address n
attribute_value_of (variants.Number n) = number n
attribute_value_of variants.Atomic = atomic
attribute_value_of (variants.Aggregator as_number router) = aggregator as_number router
attribute_value_of (variants.Items kind octets) = items kind (items_of kind octets.now)
attribute_value_of (variants.Metric n) = metric n
