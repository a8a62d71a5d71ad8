use Rattle.bgp_update.proofs.Words.{doubtful}
use Rattle.bgp_update.proofs.survey.MpSurvey.is_doubtful.Goals as goal

pub returns-then-self : goal.returns-then-self
returns-then-self c = doubtful c.args.self.now.state c.args.self.now.other_bits c.is_same.result c.in-Sound.own c.args.family _ c.in-Sound.is c.if-self.true c.is_same.ensures
