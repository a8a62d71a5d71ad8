use Rattle.std.proofs.Common.{◌∙◌, ℕ, None, Some, ap, inl}
use Rattle.mrt.specs.Capture.{records_of}
use Rattle.mrt.specs.declared.fault.CaptureFault.{CaptureFault}
use Rattle.mrt.specs.declared.fault.FaultKind.TheVariants.{Memory}
use Rattle.bgp_judge.specs.Judging.{IsJudged, IsRefusal}
use Rattle.bgp_judge.specs.declared.verdict.Verdict.TheVariants.{No}
use Rattle.bgp_judge.proofs.CaptureEnds.{unstarted, unlisted, judged, judged_so, fault_handed_on}
use Rattle.bgp_judge.proofs.capture.judge_with.Goals as goal

pub returns-in_default-clause-judged : goal.returns-in_default-clause-judged
returns-in_default-clause-judged g c =
    unstarted g.S.Source.gives g.S.Source.has_ended c.args.config.now c.args.source.now c.args.source.now g.T.Tracker.may_lack c.args.reader.now c.out_of_memory.result c.requires.fresh
    c.out_of_memory.ensures (g.met.S.Source.nothing c.args.source.now)

pub returns-in_err-count-clause-judged : goal.returns-in_err-count-clause-judged
returns-in_err-count-clause-judged g c =
    fault_handed_on g.S.Source.gives g.S.Source.has_ended c.args.config.now c.args.source.now c.follow.new.source g.T.Tracker.may_lack c.follow.new.reader c.from_residual.result
    c.in_err-count.field-0.0 c.from_residual.ensures.1 c.in_err-count.ensures.follows

pub returns-in-Some-clause-judged : goal.returns-in-Some-clause-judged
returns-in-Some-clause-judged g c =
    let reads = rw (c.in-Some.is) at c.in_ok-count.ensures.follows in
    judged_so _ (λ given. IsJudged given g.S.Source.has_ended c.args.config.now c.args.source.now c.follow.new.source (No c.in-Some.count))
    None None (λ pieces rest ends. ends) reads
    (λ all. judged _ g.S.Source.has_ended c.args.config.now c.args.source.now c.follow.new.source g.T.Tracker.may_lack (g.T.Tracker.stands_for c.follow.new.tracker) _ (Some c.in-Some.count) all
    (No c.in-Some.count) all.tracked)

pub returns-in-Ok-verdict_of-clause-judged : goal.returns-in-Ok-verdict_of-clause-judged
returns-in-Ok-verdict_of-clause-judged g c =
    let reads = rw (c.in_default-2.is) at c.in_ok-count.ensures.follows in
    judged_so _ (λ given. IsJudged given g.S.Source.has_ended c.args.config.now c.args.source.now c.follow.new.source c.in-Ok-verdict_of.verdict)
    None None (λ pieces rest ends. ends) reads
    (λ all. judged _ g.S.Source.has_ended c.args.config.now c.args.source.now c.follow.new.source g.T.Tracker.may_lack (g.T.Tracker.stands_for c.follow.new.tracker) _ None all
    c.in-Ok-verdict_of.verdict
    (c.in-Ok-verdict_of.ensures c.args.config.now (records_of all.pieces) all.tracked.0 all.tracked.1))

pub returns-clause-judged : goal.returns-clause-judged
returns-clause-judged g c =
    let reads = rw (c.in_default-2.is) at c.in_ok-count.ensures.follows in
    let fault = c.out_of_memory-in-Err.ensures ∙ ap (λ (n : ℕ). let f : CaptureFault = record { kind = Memory; offset = n } in f) c.place.ensures in
    judged_so _ (λ given. IsRefusal given g.S.Source.has_ended c.args.config.now c.args.source.now c.follow.new.source g.T.Tracker.may_lack c.out_of_memory-in-Err.result)
    None (Some c.out_of_memory-in-Err.result) (λ pieces rest ends. inl ends) reads
    (λ all. unlisted _ g.S.Source.has_ended c.args.config.now c.args.source.now c.follow.new.source g.T.Tracker.may_lack (g.T.Tracker.stands_for c.follow.new.tracker) _ None all
    c.out_of_memory-in-Err.result fault all.tracked.1)
