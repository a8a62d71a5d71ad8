use Rattle.std.proofs.Common.{All, take}
use Rattle.bgp_path.specs.Fit.{IsFitCommunity}
use Rattle.bgp_path.proofs.fit.large_communities_are_fit.Given as goal

abbrev pub invariant-loop-community : goal.invariant-loop-community
invariant-loop-community l = All IsFitCommunity (take l.community-index l.communities)
