use Rattle.bgp_check_capture_tool.proofs.Printed.{verdict_over_all}
use Rattle.bgp_check_capture_tool.proofs.headline.a_printed_verdict_is_over_all_configurations.Goals as goal

pub returns : goal.returns
returns c = verdict_over_all c.a_left_stretch_is_judged_over_all.ensures.verdict c.what_is_judged_is_a_stretch.ensures
