use Rattle.std.proofs.Common.{◌↔◌, ◌++◌, ◌∙◌, ◌+◌, ◌≡◌, ℕ, IsTrue, List, Option, [], ◌∷◌, refl, ap, arith, length, subst, sym}
use Rattle.mrt.specs.declared.fault.CaptureFault.{CaptureFault}
use Rattle.mrt.specs.declared.fault.FaultKind.TheVariants.{Memory}
use Rattle.mrt.specs.Capture.{micros_of}
use Rattle.mrt.specs.Reader.{ReaderState, shown_of}
use Rattle.bgp_prefix.specs.Shown.{ShownRecord}
use Rattle.bgp_judge.proofs.CaptureSoFar.{answer_of, less_left, one_longer, passes_more, refused, untaken}
use Rattle.bgp_parts.specs.Confederations.{SomeShowConfederations}
use Rattle.bgp_explain.specs.declared.fractions.Names.{Names}
use Rattle.bgp_explain.specs.Fractions.{AreKept, AreNamesAfter, progress_names}
use Rattle.bgp_explain.specs.Progress.{IsAt}
use Rattle.bgp_explain.proofs.Confederations.{none_show}
use Rattle.bgp_explain.proofs.FractionsKept.{none_read, one_read, so_many}
use Rattle.bgp_explain.proofs.Keeping.{none_yet}
use Rattle.bgp_explain.proofs.Reading.{reads_all}
use Rattle.bgp_explain.proofs.capture.follow.Goals as goal

pub loop-shown-init : goal.loop-shown-init
loop-shown-init g c =
    let passed = ap (λ (s : ReaderState). s.passed) c.requires.fresh in
    let none = c.requires.count in
    let (unread, no_micros) = none_read g.S.Source.gives g.S.Source.has_ended g.met.S.Source.joined g.S.Source.given_count g.met.S.Source.counted c.args.config.now c.args.source.now g.T.Tracker.may_lack c.args.reader.now c.requires.fresh
    (g.met.S.Source.nothing c.args.source.now) in record {
      so_far = (
        [],
        unread,
        c.requires.at,
        none_show,
        refl,
        subst (λ (m : List (Option ℕ)). AreKept m (progress_names c.args.progress.now) c.none-fractions.result) (sym no_micros)
            (subst (λ (n : Names). AreKept [] n c.none-fractions.result) (sym c.requires.names) c.none-fractions.ensures),
      );
      few = omega (arith, passed, none);
      counted = omega (arith, passed);
      one_source = omega (arith, passed);
      calm = refl;
    }

pub returns-in-Ok-None-clause-follows : goal.returns-in-Ok-None-clause-follows
returns-in-Ok-None-clause-follows g c =
    let (records, so, at, shows, number, kept) = c.loop-shown.invariant.so_far in
    let answer = answer_of g.S.Source.gives g.S.Source.has_ended g.met.S.Source.joined g.S.Source.given_count g.met.S.Source.counted c.args.config.now c.args.source.now g.T.Tracker.may_lack c.loop-shown.source c.next_record.new.source
    c.loop-shown.reader c.next_record.follows.lender-at-none records c.next_record.result so c.next_record.follows.holds-at-none.0 in
    let is = rw (c.in-Ok-None.is, c.in-Ok-None.field-0-is) at answer in
    reads_all g.S.Source.gives g.S.Source.has_ended g.met.S.Source.joined g.S.Source.given_count g.met.S.Source.counted c.args.config.now c.args.source.now g.T.Tracker.may_lack _ _ _ _ records
    (λ (records : List ShownRecord) (micros : List (Option ℕ)). IsAt (g.T.Tracker.stands_for c.loop-shown.tracker) c.args.config.now records c.loop-shown.progress
    × (IsTrue c.loop-shown.confederation ↔ SomeShowConfederations records) × AreKept micros (progress_names c.loop-shown.progress) c.loop-shown.fractions) so (at, shows, kept) is

pub returns-in-Err-clause-follows : goal.returns-in-Err-clause-follows
returns-in-Err-clause-follows g c =
    let (records, so, at, shows, number, kept) = c.loop-shown.invariant.so_far in
    let answer = answer_of g.S.Source.gives g.S.Source.has_ended g.met.S.Source.joined g.S.Source.given_count g.met.S.Source.counted c.args.config.now c.args.source.now g.T.Tracker.may_lack c.loop-shown.source c.next_record.new.source
    c.loop-shown.reader c.next_record.follows.lender-at-none records c.next_record.result so c.next_record.follows.holds-at-none.0 in
    let is = rw (c.in-Err.is) at answer in
    refused g.S.Source.gives g.S.Source.has_ended g.met.S.Source.joined g.S.Source.given_count g.met.S.Source.counted c.args.config.now c.args.source.now g.T.Tracker.may_lack _ _ _ _ records c.in-Err.fault so is

pub returns-in-Err-advanced-clause-follows : goal.returns-in-Err-advanced-clause-follows
returns-in-Err-advanced-clause-follows g c =
    let (records, so, at, shows, number, kept) = c.loop-shown.invariant.so_far in
    let answer = answer_of g.S.Source.gives g.S.Source.has_ended g.met.S.Source.joined g.S.Source.given_count g.met.S.Source.counted c.args.config.now c.args.source.now g.T.Tracker.may_lack c.loop-shown.source c.next_record.new.source
    c.loop-shown.reader c.next_record.follows.lender-at-none records c.next_record.result so c.next_record.follows.holds-at-none.0 in
    let is = rw (c.in-Ok-Some.is, c.in-Ok-Some.field-0-is) at answer in
    let begins = (none_yet (g.T.Tracker.stands_for c.loop-shown.tracker) c.args.config.now records c.loop-shown.progress c.loop-shown.progress.stop c.in-Err-advanced.ensures.err at).1 in
    let fault = c.out_of_memory.ensures ∙ ap (λ (n : ℕ). let f : CaptureFault = record { kind = Memory; offset = n } in f) c.place.ensures in
    untaken g.S.Source.gives g.S.Source.has_ended g.met.S.Source.joined g.S.Source.given_count g.met.S.Source.counted c.args.config.now c.args.source.now g.T.Tracker.may_lack _ _ _ _ records _ c.out_of_memory.result so begins (c.in-Err-advanced.ensures.memory records at) is fault

pub loop-shown-smaller : goal.loop-shown-smaller
loop-shown-smaller g c =
    let (records, so, at, shows, number, kept) = c.loop-shown.invariant.so_far in
    let answer = answer_of g.S.Source.gives g.S.Source.has_ended g.met.S.Source.joined g.S.Source.given_count g.met.S.Source.counted c.args.config.now c.args.source.now g.T.Tracker.may_lack c.loop-shown.source c.next_record.new.source
    c.loop-shown.reader c.next_record.follows.lender-at-none records c.next_record.result so c.next_record.follows.holds-at-none.0 in
    let is = rw (c.in-Ok-Some.is, c.in-Ok-Some.field-0-is) at answer in
    less_left g.S.Source.gives g.S.Source.has_ended g.met.S.Source.joined g.S.Source.given_count g.met.S.Source.counted c.args.config.now c.args.source.now g.T.Tracker.may_lack _ _ _ _ _ is (g.met.S.Source.below c.next_record.new.source)

pub loop-shown-preserved : goal.loop-shown-preserved
loop-shown-preserved g c =
    let (records, so, at, shows, number, kept) = c.loop-shown.invariant.so_far in
    let answer = answer_of g.S.Source.gives g.S.Source.has_ended g.met.S.Source.joined g.S.Source.given_count g.met.S.Source.counted c.args.config.now c.args.source.now g.T.Tracker.may_lack c.loop-shown.source c.next_record.new.source
    c.loop-shown.reader c.next_record.follows.lender-at-none records c.next_record.result so c.next_record.follows.holds-at-none.0 in
    let is = rw (c.in-Ok-Some.is, c.in-Ok-Some.field-0-is) at answer in
    let failures = rw (c.in-Ok-Some.is) at c.next_record.ensures.failures in
    let few = c.loop-shown.invariant.few in
    let more = c.advance-advanced.ensures.count in
    let passes = passes_more g.S.Source.gives g.S.Source.has_ended g.met.S.Source.joined g.S.Source.given_count g.met.S.Source.counted c.args.config.now c.args.source.now g.T.Tracker.may_lack _ _ _ _ _ is in
    let counted = c.loop-shown.invariant.counted in
    let many = so_many g.S.Source.gives g.S.Source.has_ended g.met.S.Source.joined g.S.Source.given_count g.met.S.Source.counted c.args.config.now c.args.source.now g.T.Tracker.may_lack _ _ records so in
    let (read, its) = one_read g.S.Source.gives g.S.Source.has_ended g.met.S.Source.joined g.S.Source.given_count g.met.S.Source.counted c.args.config.now c.args.source.now g.T.Tracker.may_lack _ _ _ _ records _ so is in
    let names = subst (λ (n : ℕ). AreNamesAfter n (progress_names c.loop-shown.progress) (progress_names c.advance-advanced.new.self)) (ap (λ (n : ℕ). n + 1) (sym number)) (c.advance-advanced.ensures.names records at) in
    let next = ap (λ (n : ℕ). n + 1) (number ∙ sym many) in
    let more_kept = rw (c.names_of.ensures, c.micro.ensures) at (c.with-fractions.ensures (micros_of so.pieces) (progress_names c.loop-shown.progress) next (rw c.names_of.ensures names) kept) in record {
      so_far = (
        records ++ shown_of c.in-Ok-Some.shown ∷ [],
        read,
        c.in-Ok.ensures.next records at,
        c.with_confederation-confederation.ensures records shows,
        sym (one_longer records (shown_of c.in-Ok-Some.shown) _ (sym number)),
        subst (λ (m : List (Option ℕ)). AreKept m (progress_names c.advance-advanced.new.self) c.with-fractions.result) (sym its) more_kept,
      );
      few = omega (arith, few, more, passes);
      counted = omega (arith, counted, passes);
      one_source = c.next_record.follows.holds-at-none.1;
      calm = omega (arith, c.loop-shown.invariant.calm);
    }
