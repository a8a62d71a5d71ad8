use Rattle.std.proofs.Common.{List, [], inl, inr, ap, map, take, subst, sym, arith}
use Rattle.std.proofs.lemmas.List.{map_more, take_all}
use Rattle.std.proofs.lemmas.Result.{on_err_weaker}
use Rattle.bgp_prefix.specs.Shown.{ShownRecord}
use Rattle.mrt.specs.Reader.{shown_of}
use Rattle.bgp_judge.specs.Memory.{LacksMemoryFor}
use Rattle.bgp_judge.proofs.Lacking.{lacks_at, on_err}
use Rattle.bgp_judge.proofs.Verdicts.{no_record_begins}
use Rattle.bgp_explain.specs.Progress.{IsAt}
use Rattle.bgp_explain.proofs.Keeping.{none_at, none_yet}
use Rattle.bgp_explain.proofs.records.explain_records.Goals as goal

pub loop-shown-init : goal.loop-shown-init
loop-shown-init g c =
    let told = c.new-progress.ensures.told c.args.config.now in
    let none = told.count in record {
      at = none_at (g.T.Tracker.stands_for c.in_ok-tracker.tracker) c.args.config.now [] c.new-progress.result c.new-progress.result.stop c.new-progress.ensures.none
          c.in_ok-tracker.ensures.start (no_record_begins c.args.config.now) told;
      few = omega (arith, none);
    }

pub loop-shown-preserved : goal.loop-shown-preserved
loop-shown-preserved g c =
    let so_far = map shown_of (take c.loop-shown.shown-index c.args.records.now) in
    let few = c.loop-shown.invariant.few in
    let more = c.advance.ensures.count in record {
      at = subst (λ (v : List ShownRecord). IsAt (g.T.Tracker.stands_for c.advance.new.tracker) c.args.config.now v c.advance.new.self)
          (sym (map_more shown_of c.args.records.now c.loop-shown.shown-index _ c.loop-shown-test.true))
          (c.in_ok-advance.ensures.next so_far c.loop-shown.invariant.at);
      few = omega (arith, few, more);
    }

pub returns-in_err-tracker-clause-memory : goal.returns-in_err-tracker-clause-memory
returns-in_err-tracker-clause-memory g c =
    on_err (LacksMemoryFor g.T.Tracker.may_lack_at_start g.T.Tracker.may_lack c.args.config.now (map shown_of c.args.records.now)) c.from_residual.result
    (inl c.in_err-tracker.ensures.memory)

pub returns-in_err-advance-clause-memory : goal.returns-in_err-advance-clause-memory
returns-in_err-advance-clause-memory g c =
    let so_far = map shown_of (take c.loop-shown.shown-index c.args.records.now) in
    let none = c.in_err-advance.ensures.err in
    let at = none_yet (g.T.Tracker.stands_for c.loop-shown.tracker) c.args.config.now so_far c.loop-shown.progress c.loop-shown.progress.stop none c.loop-shown.invariant.at in
    on_err (LacksMemoryFor g.T.Tracker.may_lack_at_start g.T.Tracker.may_lack c.args.config.now (map shown_of c.args.records.now)) c.from_residual-in_err-advance.result
    (lacks_at g.T.Tracker.may_lack_at_start g.T.Tracker.may_lack c.args.config.now c.args.records.now c.loop-shown.shown-index _ c.loop-shown-test.true at.1
    (c.in_err-advance.ensures.memory so_far c.loop-shown.invariant.at))

pub returns-clause-explained : goal.returns-clause-explained
returns-clause-explained g c =
    let all = ap (map shown_of) (take_all c.loop-shown.shown-index c.args.records.now c.loop-shown-test.false) in
    c.concluded.ensures.explained (map shown_of c.args.records.now)
    (subst (λ (v : List ShownRecord). IsAt (g.T.Tracker.stands_for c.loop-shown.tracker) c.args.config.now v c.loop-shown.progress) all c.loop-shown.invariant.at)

pub returns-clause-memory : goal.returns-clause-memory
returns-clause-memory g c =
    let records = map shown_of c.args.records.now in
    let all = ap (map shown_of) (take_all c.loop-shown.shown-index c.args.records.now c.loop-shown-test.false) in
    on_err_weaker c.concluded.result (λ begins. inr (inr begins))
    (c.concluded.ensures.err records
    (subst (λ (v : List ShownRecord). IsAt (g.T.Tracker.stands_for c.loop-shown.tracker) c.args.config.now v c.loop-shown.progress) all c.loop-shown.invariant.at))
