use Rattle.std.proofs.Common.{◌∙◌, ◌+◌, ◌<◌, ◌≤◌, ℕ, List, Option, ap, arith, length, map, subst, sym}
use Rattle.std.specs.Prelude.{option_map}
use Rattle.std.proofs.lemmas.List.{length-map}
use Rattle.std.below.core.specs.declared.int.usize.TheConstants.{MAX}
use Rattle.mrt.specs.Reader.{shown_of}
use Rattle.mrt.specs.declared.record.Record.{Record}
use Rattle.bgp_prefix.specs.Shown.{ShownRecord}
use Rattle.bgp_check.specs.Answered.{answer_value}
use Rattle.bgp_check.specs.StretchTold.{IsStretchTold, told_value, with_leaving}
use Rattle.bgp_check.specs.WatchedEnd.{IsWatchedFor}
use Rattle.bgp_watch.specs.Front.{FrontValue, front_value}
use Rattle.bgp_check.proofs.Places.{few_places}
use Rattle.bgp_check_capture_tool.specs.StretchEnd.{own_records}
use Rattle.bgp_check_capture_tool.proofs.Own.{all_judged}
use Rattle.bgp_check_capture_tool.proofs.Standing.{few_at_last, few_at_no}
use Rattle.bgp_check_capture_tool.proofs.stretch_end.end_of.Goals as goal

pub reason_for-requires-clause-places : goal.reason_for-requires-clause-places
reason_for-requires-clause-places g c =
    let stretch = map shown_of c.args.stretch.now in
    let leaving = option_map shown_of c.args.leaving in
    let told = told_value c.in_ok-told.told in
    let len = length-map c.args.stretch.now shown_of in
    let few = c.requires.few in
    let is = subst (λ (n : ℕ). IsStretchTold c.args.view.now.session stretch n leaving told) (sym len) c.in_ok-told.ensures.told in
    few_places (λ place. c.args.before + place < MAX) c.args.view.now.session stretch leaving told is (λ place less. omega (arith, less, len, few))

pub place_in-place-requires : goal.place_in-place-requires
place_in-place-requires g c =
    let stretch = map shown_of c.args.stretch.now in
    let leaving = option_map shown_of c.args.leaving in
    let told = told_value c.in_ok-told.told in
    let len = length-map c.args.stretch.now shown_of in
    let few = c.requires.few in
    let is = subst (λ (n : ℕ). IsStretchTold c.args.view.now.session stretch n leaving told) (sym len) c.in_ok-told.ensures.told in
    let each : (place : ℕ) → place ≤ length stretch → c.args.before + place < MAX = λ place less. omega (arith, less, len, few) in
    record {
      last = few_at_last (λ place. c.args.before + place < MAX) c.args.view.now.session stretch leaving told is each;
      impossible = few_at_no (λ place. c.args.before + place < MAX) c.args.view.now.session stretch leaving told is each;
    }

pub reason_for-requires-clause-told : goal.reason_for-requires-clause-told
reason_for-requires-clause-told g c =
    let stretch = map shown_of c.args.stretch.now in
    let leaving = option_map shown_of c.args.leaving in
    let told = told_value c.in_ok-told.told in
    let len = length-map c.args.stretch.now shown_of in (
      stretch,
      leaving,
      subst (λ (n : ℕ). IsStretchTold c.args.view.now.session stretch n leaving told) (sym len) c.in_ok-told.ensures.told,
    )

pub reached_by-requires : goal.reached_by-requires
reached_by-requires g c =
    let leaving = option_map shown_of c.args.leaving in
    let told = c.in_ok-told.told in
    let answer = answer_value told.answer in
    let all = ap (λ (rs : List ShownRecord). with_leaving rs leaving) (c.own_records-own.ensures ∙ ap (λ (rs : List Record). own_records (map shown_of rs) leaving) c.deref.ensures.value)
    ∙ all_judged c.args.view.now.session (map shown_of c.args.stretch.now) (length c.args.stretch.now) leaving (told_value told) c.in_ok-told.ensures.told in
    let watched = subst (λ (rs : List ShownRecord). IsWatchedFor rs answer (option_map front_value told.before)) (sym all) c.in_ok-told.ensures.before in (
      leaving,
      subst (λ (front : Option FrontValue). IsWatchedFor (with_leaving (map shown_of c.own_records-own.result.now) leaving) answer front)
          (sym (ap (option_map front_value) c.take-before_end.ensures.value)) watched,
    )
