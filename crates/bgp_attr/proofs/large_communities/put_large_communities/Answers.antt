use Rattle.bgp_attr.specs.LargeCommunities.{large_community_octets}
use Rattle.bgp_attr.proofs.Filled.{filled_all, filled_more, filled_room}
use Rattle.bgp_attr.proofs.large_communities.put_large_communities.Goals as goal

pub put_large_community-requires : goal.put_large_community-requires
put_large_community-requires g c =
    filled_room large_community_octets c.args.communities.now c.loop-community.community-index record { global_administrator = 0; local_data_part_1 = 0; local_data_part_2 = 0 } _ _ _ _ _ _ c.loop-community-test.true c.requires c.loop-community.invariant

pub returns-clause-items : goal.returns-clause-items
returns-clause-items g c =
    (filled_all large_community_octets c.args.communities.now c.loop-community.community-index _ _ _ _ _ _ c.loop-community.auto.community-index-end c.loop-community-test.false c.loop-community.invariant).items

pub returns-clause-len : goal.returns-clause-len
returns-clause-len g c =
    (filled_all large_community_octets c.args.communities.now c.loop-community.community-index _ _ _ _ _ _ c.loop-community.auto.community-index-end c.loop-community-test.false c.loop-community.invariant).len

pub loop-community-preserved : goal.loop-community-preserved
loop-community-preserved g c =
    filled_more large_community_octets c.args.communities.now c.loop-community.community-index _ _ _ _ _ _ _ _ _ _ c.loop-community-test.true c.loop-community.invariant
    c.put_large_community.ensures.items c.put_large_community.ensures.len c.put_large_community.ensures.capacity
