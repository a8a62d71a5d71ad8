use Rattle.std.proofs.Common.{◌≡◌, ◌∙◌, Bool, true, List, Option, Some, ap, map, subst, sym}
use Rattle.std.proofs.lemmas.Result.{IfOk-weaker}
use Rattle.bgp_prefix.specs.Shown.{ShownRecord}
use Rattle.mrt.specs.Reader.{shown_of}
use Rattle.bgp_open.specs.declared.config.Config.{Config}
use Rattle.bgp_recording.specs.Captured.{records_of}
use Rattle.bgp_recording.specs.Gathered.{IsClocked}
use Rattle.bgp_recording.specs.Recorded.{IsRecordedInOrder}
use Rattle.bgp_check_lines.specs.OwnFaults.{IsToldConfiguration}
use Rattle.bgp_check_lines.specs.Settings.{are_told}
use Rattle.bgp_check_lines.specs.ReadAlike.{AreJudgeOptions}
use Rattle.bgp_check_lines.specs.JudgeOptions.{JudgeOptions}
use Rattle.bgp_check_tool.specs.Judging.{AreOptionsFor}
use Rattle.bgp_check_tool.proofs.judging.options_for.Goals as goal

pub returns : goal.returns
returns g c =
    let viewed = c.args.viewed.now in
    let made = c.args.made.now.recording in
    let under = c.args.judged.now.under in
    let settled : are_told viewed.options.settings ≡ true = sym c.are_told.ensures ∙ c.if-not-are_told.false in
    let same : map shown_of c.deref.result.now ≡ records_of made.entries.items = ap (map shown_of) c.deref.ensures.value ∙ c.requires.records in
    let is_told : IsToldConfiguration (records_of made.entries.items) under (Some c.in-Some.config) =
    subst (λ (records : List ShownRecord). IsToldConfiguration records under (Some c.in-Some.config)) same
    (subst (λ (o : Option Config). IsToldConfiguration (map shown_of c.deref.result.now) under o) c.in-Some.is c.told_configuration.ensures) in
    IfOk-weaker c.judge_options.result
    (λ (judge : Option JudgeOptions). IsClocked viewed.connection
    → IsRecordedInOrder c.args.made.now.framings viewed.options.within viewed.connection made.entries.items made.received made.sent
    → AreJudgeOptions c.in-Some.config viewed.asked viewed.options.within viewed.connection made.entries.items made.received made.sent judge)
    (λ (judge : Option JudgeOptions). IsClocked viewed.connection
    → IsRecordedInOrder c.args.made.now.framings viewed.options.within viewed.connection made.entries.items made.received made.sent
    → AreOptionsFor viewed.options.within viewed.asked viewed.connection made.entries.items made.received made.sent
    (are_told viewed.options.settings) under judge)
    (λ judge are clock recorded.
    subst (λ (b : Bool). AreOptionsFor viewed.options.within viewed.asked viewed.connection made.entries.items made.received made.sent b under judge) (sym settled)
    (Some c.in-Some.config, is_told, are clock recorded))
    c.judge_options.ensures
