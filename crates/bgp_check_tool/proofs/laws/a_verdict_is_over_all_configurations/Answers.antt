use Rattle.bgp_check_tool.proofs.Verdicts.{over_all}
use Rattle.bgp_check_tool.proofs.laws.a_verdict_is_over_all_configurations.Goals as goal

pub returns : goal.returns
returns c = over_all c.no_order_is_whole.ensures.end
