use Rattle.bgp_why_laws.proofs.Reasons.{causes_visible}
use Rattle.bgp_why_laws.proofs.laws.each_cause_is_visible.Goals as goal

pub returns : goal.returns
returns g c = causes_visible c.args.lacks.now
