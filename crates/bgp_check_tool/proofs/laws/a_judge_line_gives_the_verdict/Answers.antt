use Rattle.bgp_check_tool.proofs.Repeated.{gives_the_verdict}
use Rattle.bgp_check_tool.proofs.laws.a_judge_line_gives_the_verdict.Goals as goal

pub returns : goal.returns
returns c = gives_the_verdict c.a_verdict_holds_under_its_configuration.ensures
