use Rattle.std.proofs.Common.{◌+◌, IsTrue, arith, drop, get_or, map}
use Rattle.std.proofs.lemmas.List.{drop_all, drop_more}
use Rattle.bgp_recording.specs.Tells.{numbered_of}
use Rattle.bgp_orders.specs.declared.course.Step.TheVariants as step
use Rattle.bgp_orders.proofs.Along.{done_there, first_on, run_there, starts_so, step_on}
use Rattle.bgp_orders.proofs.Entries.{first_under_way, all_of_a_way}
use Rattle.bgp_orders.proofs.course.entries_along.Goals as goal

pub returns-then-not-may_start-clause-run : goal.returns-then-not-may_start-clause-run
returns-then-not-may_start-clause-run g c = λ to.
    let s = c.args.search.now in
    let may : IsTrue c.may_start.result = c.may_start.ensures.1 (starts_so s.config s.within s.exchange c.args.start c.args.steps.now to) in
    let not = c.if-not-may_start.true in
    let never : ⊥ = cc in
    absurd never

pub loop-step-init : goal.loop-step-init
loop-step-init g c =
    let s = c.args.search.now in
    record {
      way = first_under_way s.within s.exchange c.args.start c.in_ok-course.course.spot _ c.in_ok-course.ensures.spot c.in_ok-course.ensures.entries;
      along = first_on s.config s.within s.exchange c.args.start c.args.steps.now c.in_ok-course.course.spot (map numbered_of c.in_ok-course.course.entries.items) c.in_ok-course.ensures.spot
          c.in_ok-course.ensures.entries;
    }

pub returns-clause-way : goal.returns-clause-way
returns-clause-way g c =
    let s = c.args.search.now in
    all_of_a_way s.within s.exchange c.args.start c.loop-step.course.spot c.loop-step.course.entries.items (c.may_start.ensures.0 c.if-not-may_start.false)
    (c.is_done.ensures.0 c.if-not-is_done.false) c.loop-step.invariant.way

pub returns-clause-run : goal.returns-clause-run
returns-clause-run g c = λ to.
    let s = c.args.search.now in
    run_there c.each_owed_want_can_be_met.ensures.met s.config s.within s.exchange c.args.start c.args.steps.now c.loop-step.course.spot c.loop-step.course.entries.items
    (drop c.loop-step.step-index c.args.steps.now) c.loop-step.invariant.along (drop_all c.loop-step.step-index c.args.steps.now (omega (arith, c.loop-step-test.false))) to

pub returns-then-not-branch-clause-run : goal.returns-then-not-branch-clause-run
returns-then-not-branch-clause-run g c = λ to.
    let s = c.args.search.now in
    let steps = c.args.steps.now in
    let next = step_on s.config s.within s.exchange c.args.start steps c.loop-step.course c.take.new.self (get_or steps c.loop-step.step-index step.Receive) c.in_ok-take.field-0 (drop c.loop-step.step-index steps)
    (drop (c.loop-step.step-index + 1) steps) c.loop-step.invariant.along
    (drop_more steps c.loop-step.step-index step.Receive c.loop-step-test.true) c.in_ok-take.ensures.along to.0 to.1 in
    let may : IsTrue c.in_ok-take.field-0 = next.0 in
    let not = c.if-not-branch.true in
    let never : ⊥ = cc in
    absurd never

pub loop-step-preserved : goal.loop-step-preserved
loop-step-preserved g c =
    let s = c.args.search.now in
    let steps = c.args.steps.now in
    record {
      way = c.in_ok-take.ensures.way c.if-not-branch.false c.args.start c.loop-step.invariant.way;
      along = λ n to.
          (step_on s.config s.within s.exchange c.args.start steps c.loop-step.course c.take.new.self (get_or steps c.loop-step.step-index step.Receive) c.in_ok-take.field-0 (drop c.loop-step.step-index steps)
          (drop (c.loop-step.step-index + 1) steps) c.loop-step.invariant.along
          (drop_more steps c.loop-step.step-index step.Receive c.loop-step-test.true) c.in_ok-take.ensures.along n to).1;
    }

pub returns-then-not-is_done-clause-run : goal.returns-then-not-is_done-clause-run
returns-then-not-is_done-clause-run g c = λ to.
    let s = c.args.search.now in
    let done : IsTrue c.is_done.result = c.is_done.ensures.1 (done_there s.config s.within s.exchange c.args.start c.args.steps.now c.loop-step.course.spot (map numbered_of c.loop-step.course.entries.items)
    (drop c.loop-step.step-index c.args.steps.now) c.loop-step.invariant.along (drop_all c.loop-step.step-index c.args.steps.now (omega (arith, c.loop-step-test.false))) to) in
    let not = c.if-not-is_done.true in
    let never : ⊥ = cc in
    absurd never
