use Rattle.bgp_check_capture_tool.proofs.Quiet.{quiet_keeps}
use Rattle.bgp_check_capture_tool.proofs.quiet_laws.quiet_keeps_what_is_not_well.Goals as goal

pub returns : goal.returns
returns c = quiet_keeps
