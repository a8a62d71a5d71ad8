use Rattle.bgp_update.proofs.Words.{reaches_nothing}
use Rattle.bgp_update.proofs.survey.Survey.reaches_nothing.Goals as goal

pub returns-in-Sound : goal.returns-in-Sound
returns-in-Sound c = reaches_nothing c.args.self.now.reach.state c.has_some.result c.in-Sound.field-0 c.in-Sound.contents c.in-Sound.is c.has_some.ensures
