-- The numbers of a path fit the octets that a message has for them (RFC 4271, 4.3; 1997; 2545;
-- 4360; 4456; 8092): each `Path` is so, by the types of its parts.
use Rattle.std.specs.Prelude.{◌<◌, ◌^◌, All, IfSome}
use Rattle.bgp_path.specs.declared.path.NextHop.{NextHop}
use Rattle.bgp_path.specs.declared.path.NextHop.TheVariants.{V4, V6, V6WithLinkLocal}
use Rattle.bgp_path.specs.declared.large_community.LargeCommunity.{LargeCommunity}
use Rattle.bgp_path.specs.AsPath.{IsPathSegment}
use Rattle.bgp_path.specs.Path.{PathValue}

-- an IPv4 address has four octets, an IPv6 address sixteen
abbrev pub IsFitHop : NextHop → Type 0
IsFitHop (V4 address) = address < 2 ^ 32
IsFitHop (V6 address) = address < 2 ^ 128
IsFitHop (V6WithLinkLocal address link_local) = (address < 2 ^ 128) × (link_local < 2 ^ 128)

-- a large community has three numbers of four octets
pub record IsFitCommunity (c : LargeCommunity) : Type 0 where
  pub global_administrator : c.global_administrator < 2 ^ 32
  pub local_data_part_1 : c.local_data_part_1 < 2 ^ 32
  pub local_data_part_2 : c.local_data_part_2 < 2 ^ 32

pub record IsFit (p : PathValue) : Type 0 where
  pub segments : All IsPathSegment p.as_path
  pub next_hop : IsFitHop p.next_hop
  pub multi_exit_disc : IfSome p.multi_exit_disc (λ n. n < 2 ^ 32)
  pub local_pref : IfSome p.local_pref (λ n. n < 2 ^ 32)
  pub aggregator : IfSome p.aggregator (λ a. (a.as_number < 2 ^ 32) × (a.address < 2 ^ 32))
  pub communities : All (λ n. n < 2 ^ 32) p.communities
  pub originator_id : IfSome p.originator_id (λ n. n < 2 ^ 32)
  pub cluster_list : All (λ n. n < 2 ^ 32) p.cluster_list
  pub extended_communities : All (λ n. n < 2 ^ 64) p.extended_communities
  pub large_communities : All IsFitCommunity p.large_communities
