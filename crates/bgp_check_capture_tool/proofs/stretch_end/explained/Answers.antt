use Rattle.std.proofs.Common.{◌∙◌, List, ap, map, subst, sym}
use Rattle.mrt.specs.declared.record.Record.{Record}
use Rattle.mrt.specs.Reader.{shown_of}
use Rattle.mrt_sessions.specs.Located.{located}
use Rattle.bgp_check.specs.Answered.{IsAnswerTo, answer_value}
use Rattle.bgp_check_capture_tool.specs.Places.{numbers_of}
use Rattle.bgp_check_capture_tool.proofs.stretch_end.explained.Goals as goal

pub reason_of-requires : goal.reason_of-requires
reason_of-requires g c = (
  c.args.view.now.session,
  subst (λ (records : List Record). IsAnswerTo c.args.view.now.session (map shown_of records) (answer_value c.args.told.now.answer)) (sym c.deref-3.ensures.value) c.requires.answer,
)

pub returns : goal.returns
returns g c =
    let numbers = c.deref-2.ensures.value ∙ c.in_ok-numbers.ensures ∙ ap (numbers_of (map located c.args.view.now.named.now) c.args.before) c.deref.ensures.value in
    let answer = subst (λ (records : List Record). IsAnswerTo c.args.view.now.session (map shown_of records) (answer_value c.args.told.now.answer)) (sym c.deref-3.ensures.value) c.requires.answer in
    rw (numbers, c.with_extended-sent.ensures, c.first_second-first.ensures, c.endpoint_of-peer.ensures, c.deref-3.ensures.value) at (c.reason_of.ensures c.args.view.now.session answer)
