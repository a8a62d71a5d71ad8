use Rattle.std.proofs.Common.{◌∙◌, ◌≤◌, ◌+◌, List, ap, arith, inl, inr, length, map, option_map, rules, subst, take}
use Rattle.bgp_prefix.specs.Shown.{ShownRecord}
use Rattle.bgp_machine.specs.Run.{Begins}
use Rattle.mrt.specs.Reader.{shown_of}
use Rattle.bgp_judge.specs.Memory.{LacksMemoryFor}
use Rattle.bgp_judge.specs.Verdict.{IsVerdict}
use Rattle.bgp_judge.proofs.Lacking.{lacks_at, on_err}
use Rattle.bgp_judge.proofs.Verdicts.{no_record_begins, shown_more, shown_all, first_impossible}
use Rattle.bgp_watch.specs.Front.{IsWatched, front_value}
use Rattle.bgp_watch.specs.LastTold.{TellsEstablished}
use Rattle.bgp_watch.proofs.Fronts.{not_last_told, so_many}
use Rattle.bgp_watch.proofs.watching.watch_records.Goals as goal

pub loop-count-init : goal.loop-count-init
loop-count-init g c = record { stands = c.in_ok-tracker.ensures.start; begins = no_record_begins c.args.config.now; watched = tt }

pub returns-in_err-tracker-clause-memory : goal.returns-in_err-tracker-clause-memory
returns-in_err-tracker-clause-memory g c =
    on_err (LacksMemoryFor g.T.Tracker.may_lack_at_start g.T.Tracker.may_lack c.args.config.now (map shown_of c.args.records.now)) c.from_residual.result
    (inl c.in_err-tracker.ensures.memory)

pub returns-in_err-take-clause-memory : goal.returns-in_err-take-clause-memory
returns-in_err-take-clause-memory g c =
    let so_far = map shown_of (take c.loop-count.count c.args.records.now) in
    on_err (LacksMemoryFor g.T.Tracker.may_lack_at_start g.T.Tracker.may_lack c.args.config.now (map shown_of c.args.records.now)) c.from_residual-in_err-take.result
    (lacks_at g.T.Tracker.may_lack_at_start g.T.Tracker.may_lack c.args.config.now c.args.records.now c.loop-count.count _ c.loop-count-test.true c.loop-count.invariant.begins
    (c.in_err-take.ensures.memory c.args.config.now so_far c.loop-count.invariant.stands))

pub returns-then-not-branch-clause-verdict : goal.returns-then-not-branch-clause-verdict
returns-then-not-branch-clause-verdict g c =
    let alive = c.in_ok-take.ensures.alive c.args.config.now (map shown_of (take c.loop-count.count c.args.records.now)) c.loop-count.invariant.stands in
    let no = first_impossible c.args.config.now c.args.records.now c.loop-count.count _ c.in_ok-take.field-0 c.loop-count-test.true c.loop-count.invariant.begins
    alive c.if-not-branch.true in
    search rules

pub loop-count-preserved : goal.loop-count-preserved
loop-count-preserved g c =
    let config = c.args.config.now in
    let records = c.args.records.now in
    let count = c.loop-count.count in
    let within : count + 1 ≤ length records = let test = c.loop-count-test.true in omega (arith, test) in
    let so_far = map shown_of (take count records) in
    let more = shown_more records count _ c.loop-count-test.true in
    let stands = c.in_ok-take.ensures.next config so_far c.loop-count.invariant.stands c.if-not-branch.false in
    record {
      stands = subst (λ (v : List ShownRecord). g.T.Tracker.stands_for c.take.new.self config v) more stands;
      begins = subst (λ (v : List ShownRecord). Begins config v) more
          ((c.in_ok-take.ensures.alive config so_far c.loop-count.invariant.stands).0 c.if-not-branch.false);
      watched = subst (λ (v : List ShownRecord). IsWatched config v (option_map front_value c.with_front-before.result)) more
          (c.with_front-before.ensures config so_far _ stands
          (ap length more ∙ so_many records (count + 1) within)
          (λ above tells. not_last_told records (count + 1) c.fronts_of-fronts.result.last c.fronts_of-fronts.ensures above within (subst TellsEstablished more tells))
          c.loop-count.invariant.watched);
    }

pub returns-in_err-verdict-clause-memory : goal.returns-in_err-verdict-clause-memory
returns-in_err-verdict-clause-memory g c =
    let all = shown_all c.args.records.now c.loop-count.count c.loop-count-test.false in
    on_err (LacksMemoryFor g.T.Tracker.may_lack_at_start g.T.Tracker.may_lack c.args.config.now (map shown_of c.args.records.now)) c.from_residual-in_err-verdict.result
    (inr (inr (subst (λ (v : List ShownRecord). Begins c.args.config.now v) all c.loop-count.invariant.begins)))

pub returns-clause-verdict : goal.returns-clause-verdict
returns-clause-verdict g c =
    let all = shown_all c.args.records.now c.loop-count.count c.loop-count-test.false in
    subst (λ (v : List ShownRecord). IsVerdict c.args.config.now v c.in_ok-verdict.verdict) all
    (c.in_ok-verdict.ensures c.args.config.now (map shown_of (take c.loop-count.count c.args.records.now)) c.loop-count.invariant.stands c.loop-count.invariant.begins)
