use Rattle.bgp_update.proofs.Words.{reachable}
use Rattle.bgp_update.proofs.survey.Survey.has_reachable.Goals as goal

pub returns-in-Sound : goal.returns-in-Sound
returns-in-Sound c = reachable c.args.self.now.reach.state c.has_some.result c.in-Sound.field-0 c.in-Sound.contents c.in-Sound.is c.has_some.ensures
