use Rattle.std.proofs.Common.{codes}
use Rattle.bgp_json_verdicts.proofs.Counted.{of_verdict_whole}
use Rattle.bgp_json_verdicts.specs.Objects.{answer_members}
use Rattle.bgp_json_verdicts.proofs.object.write_answer.Goals as goal

pub returns : goal.returns
returns g c = of_verdict_whole (codes "verdict") c.args.counts (answer_members c.args.answer) c.in_ok-begin_of_verdict.ensures c.in_ok-put_answer.ensures c.end_object.ensures
