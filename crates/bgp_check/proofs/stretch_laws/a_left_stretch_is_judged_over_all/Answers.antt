use Rattle.bgp_check.proofs.Left.{over_all, yes_where_left}
use Rattle.bgp_check.proofs.stretch_laws.a_left_stretch_is_judged_over_all.Goals as goal

pub returns-clause-verdict : goal.returns-clause-verdict
returns-clause-verdict c = over_all c.a_session_is_cut_without_loss.ensures.left

pub returns-clause-yes : goal.returns-clause-yes
returns-clause-yes c = yes_where_left c.a_session_is_cut_without_loss.ensures.left
