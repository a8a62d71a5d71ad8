use Rattle.std.proofs.Common.{ap}
use Rattle.std.proofs.lemmas.Result.{IfOk-weaker}
use Rattle.bgp_judge.specs.Verdict.{verdict_value}
use Rattle.bgp_check_tool.proofs.Later.{again_no, again_unfinished}
use Rattle.bgp_check_tool.proofs.late.late_for.Goals as goal

pub returns-in-No : goal.returns-in-No
returns-in-No g c =
    let viewed = c.args.viewed.now in
    IfOk-weaker c.late_again.result _ _
    (λ later is clocked known.
    again_no viewed.session viewed.connection (verdict_value c.args.verdict.now) later.late later.lacks_memory c.in-No.field-0 (ap verdict_value c.in-No.is) (is clocked known))
    c.late_again.ensures

pub returns-in-Unfinished : goal.returns-in-Unfinished
returns-in-Unfinished g c =
    let viewed = c.args.viewed.now in
    IfOk-weaker c.late_again-in-Unfinished.result _ _
    (λ later is clocked known.
    again_unfinished viewed.session viewed.connection (verdict_value c.args.verdict.now) later.late later.lacks_memory (ap verdict_value c.in-Unfinished.is) (is clocked known))
    c.late_again-in-Unfinished.ensures
