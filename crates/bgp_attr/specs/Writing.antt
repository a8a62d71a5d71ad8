-- The path attributes that a route is written as, in ascending order of their types (RFC 4271, 5;
-- RFC 6793, 4.2.2).
use Rattle.std.specs.Prelude.{ℕ, ◌≤◌, Bool, true, ◌&&◌, not, nat_lt, if◌then◌else◌, List, []}
use Rattle.std.specs.Prelude.{◌∷◌, length, Option, None, Some, IfSome, bit_or}
use Rattle.std.specs.List.{flat_map, filter_map, list_any}
use Rattle.std.specs.Option.{option_map, option_map_or}
use Rattle.byteorder.specs.Endian.{big_bytes}
use Rattle.bgp_wire.specs.AsNumber.{needs_four_octets}
use Rattle.bgp_path.specs.declared.path.Aggregator.{Aggregator}
use Rattle.bgp_path.specs.declared.path.NextHop.{NextHop}
use Rattle.bgp_path.specs.declared.path.NextHop.TheVariants.{V4, V6, V6WithLinkLocal}
use Rattle.bgp_path.specs.declared.path.Origin.{Origin}
use Rattle.bgp_path.specs.declared.path.Origin.TheVariants.{Igp, Egp, Incomplete}
use Rattle.bgp_path.specs.AsPath.{PathSegment}
use Rattle.bgp_path.specs.Path.{PathValue}
use Rattle.bgp_attr.specs.declared.classes.Side.{Side}
use Rattle.bgp_attr.specs.declared.types.AttrType.{AttrType}
use Rattle.bgp_attr.specs.declared.types.AttrType.TheVariants as types
use Rattle.bgp_attr.specs.Field.{Attribute, IsAttributeField, attribute_octets, length_octets}
use Rattle.bgp_attr.specs.LargeCommunities.{large_communities_octets}
use Rattle.bgp_attr.specs.Types.{all_types, type_number, type_bits}
use Rattle.bgp_attr.specs.Values.{aggregator_octets, as_path_octets, items_octets}

-- some AS number of the path needs four octets
abbrev pub has_large : List PathSegment → Bool
has_large path = list_any (λ s. list_any needs_four_octets s.numbers) path

abbrev pub origin_number : Origin → ℕ
origin_number Igp = 0
origin_number Egp = 1
origin_number Incomplete = 2

-- the value of NEXT_HOP, which has an address of four octets only (RFC 4760, 3)
abbrev pub next_hop_octets : NextHop → Option (List ℕ)
next_hop_octets (V4 address) = Some (big_bytes 4 address)
next_hop_octets (V6 address) = None
next_hop_octets (V6WithLinkLocal address link_local) = None

-- the value of AS4_PATH
abbrev pub as4_path_octets : Bool → List PathSegment → Option (List ℕ)
as4_path_octets as4 path =
    if not as4 && has_large path then Some (as_path_octets true path) else None

-- the value of AS4_AGGREGATOR
abbrev pub as4_aggregator_octets : Bool → Option Aggregator → Option (List ℕ)
as4_aggregator_octets as4 None = None
as4_aggregator_octets as4 (Some a) =
    if not as4 && needs_four_octets a.as_number then Some (aggregator_octets true a) else None

-- the value that a path has of each type, where one is written
abbrev pub value_in : Side → PathValue → AttrType → Option (List ℕ)
value_in side p types.Origin = Some (origin_number p.origin ∷ [])
value_in side p types.AsPath = Some (as_path_octets side.as4 p.as_path)
value_in side p types.NextHop = next_hop_octets p.next_hop
value_in side p types.MultiExitDisc = option_map (big_bytes 4) p.multi_exit_disc
value_in side p types.LocalPref = option_map (big_bytes 4) p.local_pref
value_in side p types.AtomicAggregate = if p.atomic_aggregate then Some [] else None
value_in side p types.Aggregator = option_map (aggregator_octets side.as4) p.aggregator
value_in side p types.Communities = items_octets 4 p.communities
value_in side p types.OriginatorId = option_map (big_bytes 4) p.originator_id
value_in side p types.ClusterList = items_octets 4 p.cluster_list
value_in side p types.MpReachNlri = None
value_in side p types.MpUnreachNlri = None
value_in side p types.ExtendedCommunities = items_octets 8 p.extended_communities
value_in side p types.As4Path = as4_path_octets side.as4 p.as_path
value_in side p types.As4Aggregator = as4_aggregator_octets side.as4 p.aggregator
value_in side p types.LargeCommunities = large_communities_octets p.large_communities

-- the flags of an attribute of a type whose value has n octets: the type's bits, and Extended
-- Length, 16, only where there are more than 255
abbrev pub flags_for : AttrType → ℕ → ℕ
flags_for t n =
    if nat_lt 255 n then bit_or (type_bits t) 16 else type_bits t

-- an attribute of a type with this value
abbrev pub attribute_with : AttrType → List ℕ → Attribute
attribute_with t value = record {
  flags = flags_for t (length value);
  kind = type_number t;
  value = value;
}

-- its header: flags, type and length
abbrev pub attribute_header : AttrType → ℕ → List ℕ
attribute_header t n = flags_for t n ∷ type_number t ∷ big_bytes (length_octets (flags_for t n)) n

abbrev pub attribute_in : Side → PathValue → AttrType → Option Attribute
attribute_in side p t = option_map (attribute_with t) (value_in side p t)

-- the octets that are written of a type: none where the path has no value of it
abbrev pub type_octets : Side → PathValue → AttrType → List ℕ
type_octets side p t = option_map_or attribute_octets (attribute_in side p t) []

-- the attributes that a path is written as
abbrev pub path_attributes : Side → PathValue → List Attribute
path_attributes side p = filter_map (attribute_in side p) all_types

-- their octets
abbrev pub path_octets : Side → PathValue → List ℕ
path_octets side p = flat_map attribute_octets (path_attributes side p)

-- the value of this type, where one is written, has no more octets than a length can say
abbrev pub HasShortValue : Side → PathValue → AttrType → Type 0
HasShortValue side p t = IfSome (value_in side p t) (λ value. length value ≤ 65535)

-- so has each value that is written
abbrev pub IsWritable : Side → PathValue → Type 0
IsWritable side p = (t : AttrType) → HasShortValue side p t

-- what is written for a path is a field of just these attributes
abbrev pub WritesAField : Type 0
WritesAField =
    (side : Side) (p : PathValue) → IsWritable side p
    → IsAttributeField (path_octets side p) (path_attributes side p) None
