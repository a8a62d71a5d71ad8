use Rattle.bgp_check_tool.proofs.Verdicts.{for_a_cause}
use Rattle.bgp_check_tool.proofs.laws.one_order_is_told_for_a_cause.Goals as goal

pub returns : goal.returns
returns c = for_a_cause
