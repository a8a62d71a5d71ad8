use Rattle.std.proofs.Common.{◌∙◌, false, List, ap, inl, inr, map, refl, subst}
use Rattle.std.proofs.lemmas.Result.{IfOk-weaker}
use Rattle.bgp_prefix.specs.Shown.{ShownRecord}
use Rattle.mrt.specs.Reader.{shown_of}
use Rattle.bgp_check.specs.Answered.{IsAnswerTo, answer_value}
use Rattle.bgp_check_tool.proofs.NoneLeft.{in_order, known_left, none_known, one_order, too_many}
use Rattle.bgp_check_tool.proofs.Known.{known_by}
use Rattle.bgp_check_tool.proofs.ending.told_by.Goals as goal

pub returns-in-Nothing : goal.returns-in-Nothing
returns-in-Nothing g c =
    let viewed = c.args.viewed.now in
    let recording = c.args.made.now.recording in
    let first = answer_value c.in_ok-watched.watched.answer in
    let answers = subst (λ (rs : List ShownRecord). IsAnswerTo viewed.session rs first) (ap (map shown_of) c.as_slice-records.ensures.value ∙ c.requires.records) c.in_ok-watched.ensures.answer in
    IfOk-weaker c.told_as_made.result _ _
    (λ told is clocked made.
    is clocked made (none_known viewed.options.within c.args.made.now.framings viewed.connection viewed.session c.unknown-unknown.result c.unknown-unknown.ensures.wanting c.unknown-unknown.ensures.another) tt
    (λ one.
    absurd
    (c.in-Nothing.ensures.found clocked
    (in_order viewed.session viewed.options.within c.args.made.now.framings viewed.connection recording.entries.items recording.received recording.sent first made answers) (one_order first false one))))
    c.told_as_made.ensures

pub returns-in-NoMemory : goal.returns-in-NoMemory
returns-in-NoMemory g c =
    let viewed = c.args.viewed.now in
    IfOk-weaker c.told_as_made-in-NoMemory.result _ _ (λ told is clocked made. is clocked made (none_known viewed.options.within c.args.made.now.framings viewed.connection viewed.session c.unknown-unknown.result c.unknown-unknown.ensures.wanting c.unknown-unknown.ensures.another) tt (λ one. inl refl))
    c.told_as_made-in-NoMemory.ensures

pub returns-in-TooLong : goal.returns-in-TooLong
returns-in-TooLong g c =
    let viewed = c.args.viewed.now in
    let recording = c.args.made.now.recording in
    let framings = c.args.made.now.framings in
    let first = answer_value c.in_ok-watched.watched.answer in
    let answers = subst (λ (rs : List ShownRecord). IsAnswerTo viewed.session rs first) (ap (map shown_of) c.as_slice-records.ensures.value ∙ c.requires.records) c.in_ok-watched.ensures.answer in
    let none = none_known viewed.options.within framings viewed.connection viewed.session c.unknown-unknown.result c.unknown-unknown.ensures.wanting c.unknown-unknown.ensures.another in
    let its = c.in-TooLong.known in
    IfOk-weaker c.told_as_made-in-TooLong.result _ _
    (λ told is clocked made.
    let long =
    c.in-TooLong.ensures.found clocked
    (in_order viewed.session viewed.options.within framings viewed.connection recording.entries.items recording.received recording.sent first made answers) none in
    is clocked made (known_by viewed.options.within framings viewed.connection viewed.session clocked its long) tt
    (λ one. inr (too_many viewed.session viewed.options.within framings viewed.connection its long)))
    c.told_as_made-in-TooLong.ensures

pub returns-in-AsMade : goal.returns-in-AsMade
returns-in-AsMade g c =
    let viewed = c.args.viewed.now in
    let recording = c.args.made.now.recording in
    let framings = c.args.made.now.framings in
    let first = answer_value c.in_ok-watched.watched.answer in
    let answers = subst (λ (rs : List ShownRecord). IsAnswerTo viewed.session rs first) (ap (map shown_of) c.as_slice-records.ensures.value ∙ c.requires.records) c.in_ok-watched.ensures.answer in
    let its = c.in-AsMade.field-0 in
    IfOk-weaker c.told_as_made-in-AsMade.result _ _
    (λ told is clocked made.
    is clocked made (none_known viewed.options.within c.args.made.now.framings viewed.connection viewed.session c.unknown-unknown.result c.unknown-unknown.ensures.wanting c.unknown-unknown.ensures.another) (
      its.peer_as,
      its.under,
      c.in-AsMade.ensures.found clocked
          (in_order viewed.session viewed.options.within framings viewed.connection recording.entries.items recording.received recording.sent first made answers),
    )
    (λ one. absurd (known_left first c.in-AsMade.ensures.sought one)))
    c.told_as_made-in-AsMade.ensures

pub returns-in-NoOrder : goal.returns-in-NoOrder
returns-in-NoOrder g c =
    let viewed = c.args.viewed.now in
    let recording = c.args.made.now.recording in
    let framings = c.args.made.now.framings in
    let first = answer_value c.in_ok-watched.watched.answer in
    let answers = subst (λ (rs : List ShownRecord). IsAnswerTo viewed.session rs first) (ap (map shown_of) c.as_slice-records.ensures.value ∙ c.requires.records) c.in_ok-watched.ensures.answer in
    IfOk-weaker c.told_of_found.result _ _
    (λ told is clocked made.
    is clocked made
    (c.in-NoOrder.ensures.found clocked
    (in_order viewed.session viewed.options.within framings viewed.connection recording.entries.items recording.received recording.sent first made answers)))
    c.told_of_found.ensures

pub returns-in-Unfinished : goal.returns-in-Unfinished
returns-in-Unfinished g c =
    let viewed = c.args.viewed.now in
    let recording = c.args.made.now.recording in
    let framings = c.args.made.now.framings in
    let first = answer_value c.in_ok-watched.watched.answer in
    let answers = subst (λ (rs : List ShownRecord). IsAnswerTo viewed.session rs first) (ap (map shown_of) c.as_slice-records.ensures.value ∙ c.requires.records) c.in_ok-watched.ensures.answer in
    IfOk-weaker c.told_over_all.result _ _
    (λ told is clocked made.
    is clocked made
    (c.in-Unfinished.ensures.found clocked
    (in_order viewed.session viewed.options.within framings viewed.connection recording.entries.items recording.received recording.sent first made answers)))
    c.told_over_all.ensures

pub returns : goal.returns
returns g c =
    let viewed = c.args.viewed.now in
    let recording = c.args.made.now.recording in
    let framings = c.args.made.now.framings in
    let first = answer_value c.in_ok-watched.watched.answer in
    let answers = subst (λ (rs : List ShownRecord). IsAnswerTo viewed.session rs first) (ap (map shown_of) c.as_slice-records.ensures.value ∙ c.requires.records) c.in_ok-watched.ensures.answer in
    let found = c.in-Another.ensures in
    IfOk-weaker c.told_of_another.result _ _
    (λ told is clocked made.
    is recording.entries.items recording.received recording.sent first made answers found.sought.0
    (found.found clocked
    (in_order viewed.session viewed.options.within framings viewed.connection recording.entries.items recording.received recording.sent first made answers)))
    c.told_of_another.ensures
