use Rattle.std.proofs.Common.{length}
use Rattle.json_writer.proofs.ipv6.+first_zeros.Given as goal

abbrev pub decreases-first_zeros : goal.decreases-first_zeros
decreases-first_zeros l = length l.groups.now
