use Rattle.std.proofs.Common.{All, subst}
use Rattle.std.proofs.lemmas.List.{take_all}
use Rattle.std.proofs.lemmas.List.Elements.{All-more}
use Rattle.bgp_path.specs.Fit.{IsFitCommunity}
use Rattle.bgp_path.proofs.fit.large_communities_are_fit.Goals as goal

pub loop-community-preserved : goal.loop-community-preserved
loop-community-preserved c =
    All-more IsFitCommunity c.args.communities.now c.loop-community.community-index _ c.loop-community-test.true c.loop-community.invariant c.community_is_fit.ensures

pub returns : goal.returns
returns c =
    subst (All IsFitCommunity) (take_all c.loop-community.community-index c.args.communities.now c.loop-community-test.false) c.loop-community.invariant
