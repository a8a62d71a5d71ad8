-- The value of a route whose attributes have these values: of each type what the first attribute
-- says, if it is of class Good (RFC 4271, 5; RFC 6793, 4.2.3;
-- RFC 8092, 3).
use Rattle.std.specs.Prelude.{ℕ, ◌==◌, Bool, true, false, not, if◌then◌else◌, List, [], drop}
use Rattle.std.specs.Prelude.{slice_index, Option, None, Some, is_some}
use Rattle.std.specs.Option.{option_map, option_map_or}
use Rattle.byteorder.specs.Endian.{big_number}
use Rattle.bgp_path.specs.declared.path.Aggregator.{Aggregator}
use Rattle.bgp_path.specs.declared.path.NextHop.{NextHop}
use Rattle.bgp_path.specs.declared.path.NextHop.TheVariants.{V4}
use Rattle.bgp_path.specs.declared.path.Origin.{Origin}
use Rattle.bgp_path.specs.declared.path.Origin.TheVariants.{Igp, Egp, Incomplete}
use Rattle.bgp_attr.specs.declared.classes.Side.{Side}
use Rattle.bgp_attr.specs.declared.types.AttrType.{AttrType}
use Rattle.bgp_attr.specs.declared.types.AttrType.TheVariants as types
use Rattle.bgp_path.specs.AsPath.{PathSegment, merge_of}
use Rattle.bgp_path.specs.Path.{PathValue}
use Rattle.bgp_attr.specs.Class.{as_width}
use Rattle.bgp_attr.specs.LargeCommunities.{large_communities_from}
use Rattle.bgp_attr.specs.Numbers.{items_from}
use Rattle.bgp_attr.specs.PathIn.{path_in}

-- an AS number and an IPv4 address
abbrev pub aggregator_in : ℕ → List ℕ → Aggregator
aggregator_in width value =
    record { as_number = big_number width value; address = big_number 4 (drop width value) }

-- both are there, and AGGREGATOR isn't of AS_TRANS: a speaker of two octets changed it, and what
-- AS4_PATH and AS4_AGGREGATOR say is old (RFC 6793, 4.2.3)
abbrev pub is_as4_old : Option Aggregator → Option Aggregator → Bool
is_as4_old None as4 = false
is_as4_old (Some aggregator) None = false
is_as4_old (Some aggregator) (Some as4) = not (aggregator.as_number == 23456)

-- AS4_AGGREGATOR takes AGGREGATOR's place, unless it is old or alone
abbrev pub merged_aggregator : Option Aggregator → Option Aggregator → Option Aggregator
merged_aggregator None as4 = None
merged_aggregator (Some aggregator) None = Some aggregator
merged_aggregator (Some aggregator) (Some as4) =
    if is_as4_old (Some aggregator) (Some as4) then Some aggregator else Some as4

-- AS_PATH, with AS4_PATH merged into it where that is there and not old
abbrev pub merged_path : Bool → List PathSegment → Option (List PathSegment) → List PathSegment
merged_path true path as4 = path
merged_path false path None = path
merged_path false path (Some as4) = merge_of path as4

-- ORIGIN; one that isn't there is no route's, and is read as IGP
abbrev pub origin_from : Option (List ℕ) → Origin
origin_from None = Igp
origin_from (Some value) =
    if slice_index value 0 == 0 then Igp else (if slice_index value 0 == 1 then Egp else Incomplete)

-- NEXT_HOP; one that isn't there is no route's
abbrev pub next_hop_from : Option (List ℕ) → NextHop
next_hop_from value = option_map_or (λ octets. V4 (big_number 4 octets)) value (V4 0)

-- the value of a route whose attributes have these values and which has this next hop
abbrev pub path_from : Side → (AttrType → Option (List ℕ)) → NextHop → PathValue
path_from side value next_hop =
    let aggregator = option_map (aggregator_in (as_width side)) (value types.Aggregator) in
    let as4_aggregator = option_map (aggregator_in 4) (value types.As4Aggregator) in
    record {
      origin = origin_from (value types.Origin);
      as_path = merged_path (is_as4_old aggregator as4_aggregator)
          (option_map_or (path_in (as_width side)) (value types.AsPath) [])
          (option_map (path_in 4) (value types.As4Path));
      next_hop = next_hop;
      multi_exit_disc = option_map (big_number 4) (value types.MultiExitDisc);
      local_pref = option_map (big_number 4) (value types.LocalPref);
      atomic_aggregate = is_some (value types.AtomicAggregate);
      aggregator = merged_aggregator aggregator as4_aggregator;
      communities = items_from 4 (value types.Communities);
      originator_id = option_map (big_number 4) (value types.OriginatorId);
      cluster_list = items_from 4 (value types.ClusterList);
      extended_communities = items_from 8 (value types.ExtendedCommunities);
      large_communities = large_communities_from (value types.LargeCommunities);
    }
