use Rattle.json_writer.proofs.ipv6.+longest_zeros.Given as goal

abbrev pub decreases-longest_zeros : goal.decreases-longest_zeros
decreases-longest_zeros l = l.most
