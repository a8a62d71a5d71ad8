use Rattle.std.proofs.Common.{◌↔◌, length}
use Rattle.std.specs.List.{IsDistinct}
use Rattle.bgp_path.specs.LargeCommunities.{same_large_community}
use Rattle.bgp_path.proofs.large_community.are_distinct.Given as goal

abbrev pub invariant-loop-first : goal.invariant-loop-first
invariant-loop-first l =
    IsDistinct same_large_community l.rest ↔ IsDistinct same_large_community l.communities

abbrev pub decreases-loop-first : goal.decreases-loop-first
decreases-loop-first l = length l.rest
