use Rattle.bgp_check_tool.proofs.Verdicts.{not_vacuous}
use Rattle.bgp_check_tool.proofs.laws.no_verdict_is_vacuous.Goals as goal

pub returns : goal.returns
returns c = not_vacuous
