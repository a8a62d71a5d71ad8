use Rattle.bgp_clock.proofs.RightTime.{fraction_back, reads_back}
use Rattle.bgp_clock.proofs.laws.each_second_reads_back.Goals as goal

pub returns : goal.returns
returns c = record { second = reads_back; fraction = fraction_back }
