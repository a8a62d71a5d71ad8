use Rattle.bgp_why.proofs.ToldLines.{tell_all}
use Rattle.bgp_why.proofs.laws.lines_tell_all_that_may_follow.Goals as goal

pub returns : goal.returns
returns c = tell_all c.empty_is_clean.ensures.empty
