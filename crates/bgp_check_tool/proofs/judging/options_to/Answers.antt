use Rattle.std.proofs.Common.{Option, ap, subst, sym}
use Rattle.std.proofs.lemmas.Result.{IfOk-weaker}
use Rattle.bgp_check.specs.Answered.{AnswerValue, answer_value}
use Rattle.bgp_check_lines.specs.Settings.{are_told}
use Rattle.bgp_recording.specs.Gathered.{IsClocked}
use Rattle.bgp_recording.specs.Recorded.{IsRecordedInOrder}
use Rattle.bgp_check_lines.specs.JudgeOptions.{JudgeOptions}
use Rattle.bgp_check_tool.specs.Judging.{AreOptionsFor, AreOptionsTo}
use Rattle.bgp_check_tool.proofs.judging.options_to.Goals as goal

pub returns-in-Judged : goal.returns-in-Judged
returns-in-Judged g c =
    let viewed = c.args.viewed.now in
    let made = c.args.made.now.recording in
    let judged = c.in-Judged.judged in
    IfOk-weaker c.options_for.result
    (λ (judge : Option JudgeOptions). IsClocked viewed.connection
    → IsRecordedInOrder c.args.made.now.framings viewed.options.within viewed.connection made.entries.items made.received made.sent
    → AreOptionsFor viewed.options.within viewed.asked viewed.connection made.entries.items made.received made.sent
    (are_told viewed.options.settings) judged.under judge)
    (λ (judge : Option JudgeOptions). IsClocked viewed.connection
    → IsRecordedInOrder c.args.made.now.framings viewed.options.within viewed.connection made.entries.items made.received made.sent
    → AreOptionsTo viewed.options.within viewed.asked viewed.connection made.entries.items made.received made.sent viewed.options.settings
    (answer_value c.args.answer.now) judge)
    (λ judge are clock recorded.
    subst (λ (a : AnswerValue). AreOptionsTo viewed.options.within viewed.asked viewed.connection made.entries.items made.received made.sent viewed.options.settings a judge)
    (sym (ap answer_value c.in-Judged.is)) (are clock recorded))
    c.options_for.ensures
