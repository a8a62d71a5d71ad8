use Rattle.std.proofs.Common.{◌≡◌, length}
use Rattle.bgp_path.specs.LargeCommunities.{without_repeats}
use Rattle.bgp_path.proofs.Repeats.{kept_with}
use Rattle.bgp_attr.specs.LargeCommunities.{large_communities_in}
use Rattle.bgp_attr.specs.Noted.{AreNoted}
use Rattle.bgp_attr.proofs.large_communities.read_many.Given as goal

abbrev pub invariant-loop-community : goal.invariant-loop-community
invariant-loop-community g l =
    (kept_with l.communities.items (large_communities_in l.rest) ≡ without_repeats (large_communities_in l.octets))
    × AreNoted l.noted l.communities.items

abbrev pub decreases-loop-community : goal.decreases-loop-community
decreases-loop-community g l = length l.rest
