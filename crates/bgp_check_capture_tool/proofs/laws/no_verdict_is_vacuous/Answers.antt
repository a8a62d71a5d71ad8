use Rattle.bgp_check_capture_tool.proofs.Verdicts.{not_vacuous}
use Rattle.bgp_check_capture_tool.proofs.laws.no_verdict_is_vacuous.Goals as goal

pub returns : goal.returns
returns c = not_vacuous c.what_is_judged_is_a_stretch.ensures
