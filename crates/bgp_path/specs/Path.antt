-- The value of a route: what its path attributes say (RFC 4271, 5; 1997; 4360; 4456; 4760;
-- 8092).
use Rattle.std.specs.Prelude.{ℕ, Bool, List, Option}
use Rattle.bgp_path.specs.declared.path.Origin.{Origin}
use Rattle.bgp_path.specs.declared.path.NextHop.{NextHop}
use Rattle.bgp_path.specs.declared.path.Aggregator.{Aggregator}
use Rattle.bgp_path.specs.declared.path.PathParts.{PathParts}
use Rattle.bgp_path.specs.declared.large_community.LargeCommunity.{LargeCommunity}
use Rattle.bgp_path.specs.AsPath.{PathSegment}

-- what a `Path` is to a contract: its parts, wherever they lie in memory
pub record PathValue : Type 0 where
  pub origin : Origin
  pub as_path : List PathSegment
  pub next_hop : NextHop
  pub multi_exit_disc : Option ℕ
  pub local_pref : Option ℕ
  pub atomic_aggregate : Bool
  pub aggregator : Option Aggregator
  pub communities : List ℕ
  pub originator_id : Option ℕ
  pub cluster_list : List ℕ
  pub extended_communities : List ℕ
  pub large_communities : List LargeCommunity

-- the value of these parts
abbrev pub value_of : {X : Type 0} → PathParts X → PathValue
value_of parts = record {
  origin = parts.origin;
  as_path = parts.as_path;
  next_hop = parts.next_hop;
  multi_exit_disc = parts.multi_exit_disc;
  local_pref = parts.local_pref;
  atomic_aggregate = parts.atomic_aggregate;
  aggregator = parts.aggregator;
  communities = parts.communities;
  originator_id = parts.originator_id;
  cluster_list = parts.cluster_list;
  extended_communities = parts.extended_communities;
  large_communities = parts.large_communities;
}
