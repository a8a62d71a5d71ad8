use Rattle.bgp_verdict_laws.proofs.Marks.{lack_is_marked}
use Rattle.bgp_verdict_laws.proofs.laws.each_lack_has_its_mark.Goals as goal

pub returns : goal.returns
returns g c = lack_is_marked c.args.lacks.now
