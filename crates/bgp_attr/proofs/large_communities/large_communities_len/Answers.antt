use Rattle.std.proofs.Common.{arith}
use Rattle.bgp_attr.specs.LargeCommunities.{large_community_octets}
use Rattle.bgp_attr.proofs.LargeCommunities.{length-large}
use Rattle.bgp_attr.proofs.Lengths.{flat_len}
use Rattle.bgp_attr.proofs.large_communities.large_communities_len.Goals as goal

pub returns-clause-len : goal.returns-clause-len
returns-clause-len c = omega (arith, flat_len large_community_octets 12 length-large c.args.communities.now)
