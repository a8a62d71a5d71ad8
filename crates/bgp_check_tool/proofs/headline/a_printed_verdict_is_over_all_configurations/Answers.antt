use Rattle.bgp_check_tool.proofs.Printed.{verdict_over_all}
use Rattle.bgp_check_tool.proofs.headline.a_printed_verdict_is_over_all_configurations.Goals as goal

pub returns : goal.returns
returns c = verdict_over_all c.no_order_is_whole.ensures.end
