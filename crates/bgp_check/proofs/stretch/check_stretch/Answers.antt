use Rattle.std.proofs.Common.{List, ap, map, option_map, subst, sym}
use Rattle.bgp_prefix.specs.Shown.{ShownRecord}
use Rattle.mrt.specs.Reader.{shown_of}
use Rattle.bgp_watch.specs.Front.{front_value}
use Rattle.bgp_check.specs.Answered.{AnswerValue, answer_value}
use Rattle.bgp_check.specs.WatchedEnd.{IsWatchedFor}
use Rattle.bgp_check.proofs.Watched.{watched_by}
use Rattle.bgp_check.proofs.stretch.check_stretch.Goals as goal

pub returns-clause-before : goal.returns-clause-before
returns-clause-before g c =
    let leaving = option_map shown_of c.args.leaving in
    let records = map shown_of c.in_ok-records-2.records.items in
    let answer = answer_value c.in_ok-answer.field-0.answer in
    let front = option_map front_value c.in_ok-answer.field-0.before in
    let watched = subst (λ (rs : List ShownRecord). IsWatchedFor rs answer front) (ap (map shown_of) c.deref.ensures.value) c.in_ok-answer.ensures.before in
    subst (λ (a : AnswerValue). IsWatchedFor records a front) (sym c.in_ok-answer_by.ensures) (watched_by records leaving answer front watched)
