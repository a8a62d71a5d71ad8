use Rattle.std.proofs.Common.{take, vec_len, vec_capacity}
use Rattle.std.specs.List.{flat_map}
use Rattle.bgp_attr.specs.LargeCommunities.{large_community_octets}
use Rattle.bgp_attr.proofs.Filled.{IsFilled}
use Rattle.bgp_attr.proofs.large_communities.put_large_communities.Given as goal

abbrev pub invariant-loop-community : goal.invariant-loop-community
invariant-loop-community g l =
    IsFilled l.initial.out.items (vec_len l.initial.out) (vec_capacity l.initial.out)
    (flat_map large_community_octets (take l.community-index l.communities)) l.out.items (vec_len l.out) (vec_capacity l.out)
