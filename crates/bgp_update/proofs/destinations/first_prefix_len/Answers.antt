use Rattle.std.proofs.Common.{rules}
use Rattle.bgp_update.specs.Destinations.{has_prefix, prefix_len}
use Rattle.bgp_update.proofs.destinations.first_prefix_len.Goals as goal

pub returns-in_default-clause-none : goal.returns-in_default-clause-none
unfolding has_prefix prefix_len
returns-in_default-clause-none c = search rules

pub returns-then-bits-clause-none : goal.returns-then-bits-clause-none
unfolding has_prefix prefix_len
returns-then-bits-clause-none c = search rules

pub returns-then-len-octets-clause-none : goal.returns-then-len-octets-clause-none
unfolding has_prefix prefix_len
returns-then-len-octets-clause-none c = search rules

pub returns-clause-some : goal.returns-clause-some
unfolding has_prefix prefix_len
returns-clause-some c = search rules

pub returns-clause-len : goal.returns-clause-len
unfolding has_prefix prefix_len
returns-clause-len c = search rules
