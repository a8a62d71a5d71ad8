use Rattle.bgp_why_laws.proofs.Reasons.{buts_visible}
use Rattle.bgp_why_laws.proofs.laws.each_lack_is_visible.Goals as goal

pub returns : goal.returns
returns g c = buts_visible c.args.lacks.now
