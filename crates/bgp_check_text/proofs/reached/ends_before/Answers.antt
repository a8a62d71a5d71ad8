use Rattle.std.proofs.Common.{◌≡◌, ◌-◌, List, ap, arith, inr, map, subst, sym, take}
use Rattle.std.proofs.lemmas.List.{take-map}
use Rattle.bgp_prefix.specs.Shown.{ShownRecord}
use Rattle.mrt.specs.Reader.{shown_of}
use Rattle.bgp_judge.specs.Ends.{end_value}
use Rattle.bgp_judge.specs.Verdict.{HasVerdict, VerdictValue, verdict_value}
use Rattle.bgp_watch.specs.LastTold.{IsLastTold}
use Rattle.bgp_check_text.proofs.Fronts.{at_first, found, is_less, none_at_all, none_without_yes, shorter}
use Rattle.bgp_check_text.proofs.reached.ends_before.Goals as goal

pub loop-left-init : goal.loop-left-init
loop-left-init g c =
    at_first c.records_tell_the_state.ensures.each c.args.config.now (map shown_of c.args.records.now) c.last_told-left.result c.last_told-left.ensures

pub returns-in-Some : goal.returns-in-Some
returns-in-Some g c =
    let config = c.args.config.now in
    let records = map shown_of c.args.records.now in
    let front = sym (take-map shown_of c.loop-left.left c.args.records.now) in
    let verdict = subst (λ (rs : List ShownRecord). HasVerdict config rs (verdict_value c.in_ok-verdict.verdict)) front c.in_ok-verdict.ensures.verdict in
    found c.records_tell_the_state.ensures.each config records c.loop-left.left (map end_value c.in-Some.ends.items) c.loop-left-test.true c.loop-left.invariant
    (subst (λ (v : VerdictValue). HasVerdict config (take c.loop-left.left records) v) c.in-Some.ensures.some verdict)

pub loop-left-smaller : goal.loop-left-smaller
loop-left-smaller g c =
    let records = map shown_of c.args.records.now in
    is_less records c.loop-left.left c.last_told-left-in-loop-left.result c.loop-left-test.true c.loop-left.invariant.is_front
    (subst (λ (rs : List ShownRecord). IsLastTold rs c.last_told-left-in-loop-left.result) (sym (take-map shown_of (c.loop-left.left - 1) c.args.records.now)) c.last_told-left-in-loop-left.ensures)

pub loop-left-preserved : goal.loop-left-preserved
loop-left-preserved g c =
    let config = c.args.config.now in
    let records = map shown_of c.args.records.now in
    let left = c.loop-left.left in
    let verdict = subst (λ (rs : List ShownRecord). HasVerdict config rs (verdict_value c.in_ok-verdict.verdict)) (sym (take-map shown_of left c.args.records.now)) c.in_ok-verdict.ensures.verdict in
    shorter c.records_tell_the_state.ensures.each config records left c.last_told-left-in-loop-left.result c.loop-left-test.true c.loop-left.invariant
    (none_without_yes config (take left records) (verdict_value c.in_ok-verdict.verdict) c.in_default.ensures.none verdict)
    (subst (λ (rs : List ShownRecord). IsLastTold rs c.last_told-left-in-loop-left.result) (sym (take-map shown_of (left - 1) c.args.records.now)) c.last_told-left-in-loop-left.ensures)

pub returns : goal.returns
returns g c =
    let config = c.args.config.now in
    let records = map shown_of c.args.records.now in
    let zero_left : c.loop-left.left ≡ 0 = let test = c.loop-left-test.false in omega (arith, test) in
    inr (ap (map end_value) c.new.ensures.items, none_at_all c.records_tell_the_state.ensures.each config records c.loop-left.left zero_left c.loop-left.invariant)
