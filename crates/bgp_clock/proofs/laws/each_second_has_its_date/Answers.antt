use Rattle.bgp_clock.proofs.RightTime.{dated}
use Rattle.bgp_clock.proofs.laws.each_second_has_its_date.Goals as goal

pub returns : goal.returns
returns c = dated
