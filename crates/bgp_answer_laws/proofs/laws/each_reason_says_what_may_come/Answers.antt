use Rattle.bgp_answer_laws.proofs.Reasons.{reasons_are_lines}
use Rattle.bgp_answer_laws.proofs.Whys.{whys_say}
use Rattle.bgp_answer_laws.proofs.laws.each_reason_says_what_may_come.Goals as goal

pub returns : goal.returns
returns c = record { lists = whys_say; lines = reasons_are_lines }
