use Rattle.std.proofs.Common.{length}
use Rattle.bgp_text.proofs.addresses.+first_zeros.Given as goal

abbrev pub decreases-first_zeros : goal.decreases-first_zeros
decreases-first_zeros l = length l.groups.now
