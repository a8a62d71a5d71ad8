use Rattle.std.proofs.Common.{◌∙◌, List, ap, map, subst, sym}
use Rattle.std.proofs.lemmas.Bool.{false≢true}
use Rattle.bgp_prefix.specs.Shown.{ShownRecord}
use Rattle.mrt.specs.Reader.{shown_of}
use Rattle.bgp_check.specs.Answered.{IsAnswerTo, answer_value}
use Rattle.bgp_check_tool.proofs.NoneLeft.{yes_if_whole}
use Rattle.bgp_check_tool.proofs.another.another_yes.Goals as goal

pub returns-clause-answers : goal.returns-clause-answers
returns-clause-answers g c =
    subst (λ (rs : List ShownRecord). IsAnswerTo c.args.viewed.now.session rs (answer_value c.in_ok-answer.answer)) (ap (map shown_of) c.deref.ensures.value ∙ c.requires) c.in_ok-answer.ensures.answer

pub returns-then-not-is_yes-clause-none : goal.returns-then-not-is_yes-clause-none
returns-then-not-is_yes-clause-none g c = λ framings config other clocked whole of_order no_yes.
    let viewed = c.args.viewed.now in
    let recording = c.args.recording in
    let answers =
    subst (λ (rs : List ShownRecord). IsAnswerTo viewed.session rs (answer_value c.in_ok-answer.answer)) (ap (map shown_of) c.deref.ensures.value ∙ c.requires) c.in_ok-answer.ensures.answer in
    let yes =
    yes_if_whole viewed.session viewed.options.within framings viewed.connection config whole.is_widest clocked recording.entries.items recording.received recording.sent whole.is_whole.way
    whole.is_whole.run (answer_value c.in_ok-answer.answer) answers other of_order no_yes in
    absurd (false≢true (sym c.if-not-is_yes.true ∙ c.is_yes.ensures.1 yes))
