use Rattle.std.proofs.Common.{◌↔◌, IsTrue, ◌∙◌, ℕ, [], List, None, Option, Some, Ok, ap, inl}
use Rattle.bgp_prefix.specs.Shown.{ShownRecord}
use Rattle.bgp_parts.specs.Confederations.{SomeShowConfederations}
use Rattle.mrt.specs.Capture.{micros_of, records_of}
use Rattle.mrt.specs.declared.fault.CaptureFault.{CaptureFault}
use Rattle.mrt.specs.declared.fault.FaultKind.TheVariants.{Memory}
use Rattle.bgp_judge.specs.Judging.{IsRefusal}
use Rattle.bgp_judge.proofs.CaptureEnds.{judged_so, unstarted}
use Rattle.bgp_judge.proofs.Verdicts.{no_record_begins}
use Rattle.bgp_explain.specs.Explaining.{IsExplained}
use Rattle.bgp_explain.specs.Fractions.{AreKept, progress_names}
use Rattle.bgp_explain.specs.Progress.{IsAt}
use Rattle.bgp_explain.proofs.FractionsKept.{kept_for}
use Rattle.bgp_explain.proofs.Keeping.{judges_without, none_at}
use Rattle.bgp_explain.proofs.Reading.{explained, fault_explained, fault_judged, read_as_judged, unlisted}
use Rattle.bgp_explain.proofs.capture.explain_with.Goals as goal

pub follow-followed-requires-clause-at : goal.follow-followed-requires-clause-at
follow-followed-requires-clause-at g c =
    none_at (g.T.Tracker.stands_for c.in-Ok.tracker) c.args.config.now [] c.new-progress.result c.new-progress.result.stop c.new-progress.ensures.none
    c.in-Ok.ensures.start (no_record_begins c.args.config.now) (c.new-progress.ensures.told c.args.config.now)

pub follow-followed-requires-clause-count : goal.follow-followed-requires-clause-count
follow-followed-requires-clause-count g c = let told = c.new-progress.ensures.told c.args.config.now in told.count

pub returns-in_default-clause-judged : goal.returns-in_default-clause-judged
returns-in_default-clause-judged g c =
    fault_judged g.S.Source.gives g.S.Source.has_ended c.args.config.now c.args.source.now c.args.source.now g.T.Tracker.may_lack c.args.reader.now c.refused.result.answer c.out_of_memory.result c.refused.ensures.answer
    (unstarted g.S.Source.gives g.S.Source.has_ended c.args.config.now c.args.source.now c.args.source.now g.T.Tracker.may_lack c.args.reader.now c.out_of_memory.result c.requires.fresh
    c.out_of_memory.ensures (g.met.S.Source.nothing c.args.source.now))

pub returns-in_default-clause-explained : goal.returns-in_default-clause-explained
returns-in_default-clause-explained g c =
    fault_explained g.S.Source.gives g.S.Source.has_ended c.args.config.now c.args.source.now c.args.source.now g.T.Tracker.may_lack c.args.reader.now c.refused.result.answer c.refused.result.reason c.refused.result.totals c.out_of_memory.result
    c.refused.ensures.answer c.refused.ensures.reason
    (unstarted g.S.Source.gives g.S.Source.has_ended c.args.config.now c.args.source.now c.args.source.now g.T.Tracker.may_lack c.args.reader.now c.out_of_memory.result c.requires.fresh
    c.out_of_memory.ensures (g.met.S.Source.nothing c.args.source.now))

pub returns-in-Err-clause-judged : goal.returns-in-Err-clause-judged
returns-in-Err-clause-judged g c =
    fault_judged g.S.Source.gives g.S.Source.has_ended c.args.config.now c.args.source.now c.follow-followed.new.source g.T.Tracker.may_lack c.follow-followed.new.reader c.refused-in-Err.result.answer c.in-Err.fault c.refused-in-Err.ensures.answer
    c.in-Err.ensures.follows

pub returns-in-Err-clause-explained : goal.returns-in-Err-clause-explained
returns-in-Err-clause-explained g c =
    fault_explained g.S.Source.gives g.S.Source.has_ended c.args.config.now c.args.source.now c.follow-followed.new.source g.T.Tracker.may_lack c.follow-followed.new.reader c.refused-in-Err.result.answer c.refused-in-Err.result.reason c.refused-in-Err.result.totals c.in-Err.fault
    c.refused-in-Err.ensures.answer c.refused-in-Err.ensures.reason c.in-Err.ensures.follows

pub returns-in-Ok-conclude-clause-explained : goal.returns-in-Ok-conclude-clause-explained
returns-in-Ok-conclude-clause-explained g c =
    judged_so _ (λ given. IsExplained given g.S.Source.has_ended c.args.config.now c.args.source.now c.follow-followed.new.source g.T.Tracker.may_lack c.in-Ok-conclude.verdict c.in-Ok-conclude.reason (record { octets = c.place.result; tally = c.follow-followed.new.progress.tally; seen = c.follow-followed.new.progress.seen; confederation = c.in-Ok-followed.found.confederation; left_out = c.left_out.result; skipped = c.by.result; fractions = c.in-Ok-followed.found.fractions }))
    None None (λ pieces rest ends. ends) c.in-Ok-followed.ensures.follows
    (λ all. let (is, has, sums) = c.in-Ok-conclude.ensures.is (records_of all.pieces) all.holds.0 in
    explained _ g.S.Source.has_ended c.args.config.now c.args.source.now c.follow-followed.new.source g.T.Tracker.may_lack
    (λ (records : List ShownRecord) (micros : List (Option ℕ)). IsAt (g.T.Tracker.stands_for c.follow-followed.new.tracker) c.args.config.now records c.follow-followed.new.progress × (IsTrue c.in-Ok-followed.found.confederation ↔ SomeShowConfederations records) × AreKept micros (progress_names c.follow-followed.new.progress) c.in-Ok-followed.found.fractions) _ all
    c.in-Ok-conclude.verdict c.in-Ok-conclude.reason (record { octets = c.place.result; tally = c.follow-followed.new.progress.tally; seen = c.follow-followed.new.progress.seen; confederation = c.in-Ok-followed.found.confederation; left_out = c.left_out.result; skipped = c.by.result; fractions = c.in-Ok-followed.found.fractions }) is has sums c.place.ensures c.by.ensures all.holds.1
    (judges_without (g.T.Tracker.stands_for c.follow-followed.new.tracker) c.args.config.now (records_of all.pieces) c.follow-followed.new.progress c.left_out.result all.holds.0 c.left_out.ensures)
    (kept_for (micros_of all.pieces) (progress_names c.follow-followed.new.progress) c.in-Ok-followed.found.fractions c.in-Ok-conclude.reason c.in-Ok-conclude.ensures.names all.holds.2))

pub returns-in-Ok-conclude-clause-judged : goal.returns-in-Ok-conclude-clause-judged
returns-in-Ok-conclude-clause-judged g c =
    read_as_judged g.S.Source.gives g.S.Source.has_ended c.args.config.now c.args.source.now c.follow-followed.new.source g.T.Tracker.may_lack c.follow-followed.new.reader (Ok c.in-Ok-conclude.verdict) c.in-Ok-conclude.reason (record { octets = c.place.result; tally = c.follow-followed.new.progress.tally; seen = c.follow-followed.new.progress.seen; confederation = c.in-Ok-followed.found.confederation; left_out = c.left_out.result; skipped = c.by.result; fractions = c.in-Ok-followed.found.fractions }) (returns-in-Ok-conclude-clause-explained g c)

pub returns-clause-explained : goal.returns-clause-explained
returns-clause-explained g c =
    let fault = c.out_of_memory-in-Err-conclude.ensures ∙ ap (λ (n : ℕ). let f : CaptureFault = record { kind = Memory; offset = n } in f) c.place.ensures in
    fault_explained g.S.Source.gives g.S.Source.has_ended c.args.config.now c.args.source.now c.follow-followed.new.source g.T.Tracker.may_lack c.follow-followed.new.reader c.refused-in-Err-conclude.result.answer c.refused-in-Err-conclude.result.reason c.refused-in-Err-conclude.result.totals
    c.out_of_memory-in-Err-conclude.result c.refused-in-Err-conclude.ensures.answer c.refused-in-Err-conclude.ensures.reason
    (judged_so _ (λ given. IsRefusal given g.S.Source.has_ended c.args.config.now c.args.source.now c.follow-followed.new.source g.T.Tracker.may_lack c.out_of_memory-in-Err-conclude.result)
    None (Some c.out_of_memory-in-Err-conclude.result) (λ pieces rest ends. inl ends) c.in-Ok-followed.ensures.follows
    (λ all. unlisted _ g.S.Source.has_ended c.args.config.now c.args.source.now c.follow-followed.new.source g.T.Tracker.may_lack
    (λ (records : List ShownRecord) (micros : List (Option ℕ)). IsAt (g.T.Tracker.stands_for c.follow-followed.new.tracker) c.args.config.now records c.follow-followed.new.progress × (IsTrue c.in-Ok-followed.found.confederation ↔ SomeShowConfederations records) × AreKept micros (progress_names c.follow-followed.new.progress) c.in-Ok-followed.found.fractions) _ all
    c.out_of_memory-in-Err-conclude.result fault (c.in-Err-conclude.ensures.err (records_of all.pieces) all.holds.0)))

pub returns-clause-judged : goal.returns-clause-judged
returns-clause-judged g c =
    read_as_judged g.S.Source.gives g.S.Source.has_ended c.args.config.now c.args.source.now c.follow-followed.new.source g.T.Tracker.may_lack c.follow-followed.new.reader c.refused-in-Err-conclude.result.answer c.refused-in-Err-conclude.result.reason c.refused-in-Err-conclude.result.totals
    (returns-clause-explained g c)

pub follow-followed-requires-clause-names : goal.follow-followed-requires-clause-names
follow-followed-requires-clause-names g c = c.new-progress.ensures.names
