use Rattle.std.proofs.Common.{◌≡◌, ◌∙◌, ◌+◌, ◌++◌, ℕ, List, [], length, refl, sym, ap, subst, append-nil, inl, inr, arith, rules, None, IsErr, MatchResult, Result, Ok, Err}
use Rattle.mrt.specs.Capture.{joined, records_of}
use Rattle.mrt.specs.Reader.{ReaderState, shown_of}
use Rattle.bgp_text.proofs.Pieces.{Joins, nothing_yet, and_then, and_nothing}
use Rattle.bgp_json.specs.Form.{Before}
use Rattle.bgp_json.specs.LinesTelling.{placed_as}
use Rattle.bgp_json.specs.Output.{IsJson, IsRecordOutput, Knows}
use Rattle.bgp_json.specs.declared.output_form.OutputForm.{OutputForm}
use Rattle.bgp_tool.proofs.CaptureLines.{came_in, nothing_read, allowed_answer, answered, less_left, more_given, stops_at_end, stops_at_fault}
use Rattle.bgp_tool.proofs.PlacedLines.{record_is_json}
use Rattle.bgp_tool.specs.declared.shown.Shown.{Shown}
use Rattle.bgp_tool.specs.Shown.{GivesShown}
use Rattle.bgp_tool.proofs.ShownAnswers.{printed_answer}
use Rattle.bgp_tool.proofs.captures.put_records.Goals as goal

-- an answer that is a refusal
at_refusal : {X E : Type 0} (r : Result X E) (P : X → Type 0) (Q : Type 0) → IsErr r → Q → MatchResult r P (λ _. Q)
at_refusal (Ok x) P Q is q = absurd (cc)
at_refusal (Err e) P Q is q = q

pub loop-shown-init : goal.loop-shown-init
loop-shown-init g c =
    let passed = ap (λ (s : ReaderState). s.passed) c.requires.fresh in
    let (so, nothing, none) = nothing_read g.S.Source.gives g.S.Source.has_ended g.met.S.Source.joined g.S.Source.given_count g.met.S.Source.counted c.args.options.now
    c.args.printed.now.source c.args.reader.now c.requires.fresh (g.met.S.Source.nothing c.args.printed.now.source) in record {
      so_far = (
        [],
        so,
        nothing_yet g.W.Sink g.met.W.Sink.nothing c.args.printed.now.lines.outlet c.args.printed.now.lines.held.items,
        subst (λ (b : Before). Knows c.new-teller.result b) (sym nothing) c.new-teller.ensures.knows,
        none,
      );
      form = c.new-teller.ensures.form;
      fewer = omega arith;
      one_source = omega arith;
      calm = refl;
    }

pub put_record-requires : goal.put_record-requires
put_record-requires g c =
    let (text, so, wrote, knows, numbered) = c.loop-shown.invariant.so_far in
    let next = printed_answer (λ (s : Shown g.row.S.Denot g.row.W.Denot g.W.Sink). s.source) (λ a b. GivesShown g.S.Source.gives a.source b.source a.lines b.lines)
    g.S.Source.gives g.S.Source.has_ended (λ a b xs given. given.gave) c.args.options.now.session c.loop-shown.printed c.next_record.new.source
    c.loop-shown.reader c.next_record.follows.lender-at-none c.next_record.result so.calm so.going c.next_record.follows.holds-at-none.0 in
    let is = rw (c.in-Ok-Some.is, c.in-Ok-Some.field-0-is) at next.0 in
    allowed_answer g.S.Source.gives g.S.Source.has_ended g.met.S.Source.joined g.S.Source.given_count g.met.S.Source.counted c.args.options.now c.args.printed.now.source _ _ _ _ _ is

pub loop-shown-smaller : goal.loop-shown-smaller
loop-shown-smaller g c =
    let (text, so, wrote, knows, numbered) = c.loop-shown.invariant.so_far in
    let next = printed_answer (λ (s : Shown g.row.S.Denot g.row.W.Denot g.W.Sink). s.source) (λ a b. GivesShown g.S.Source.gives a.source b.source a.lines b.lines)
    g.S.Source.gives g.S.Source.has_ended (λ a b xs given. given.gave) c.args.options.now.session c.loop-shown.printed c.next_record.new.source
    c.loop-shown.reader c.next_record.follows.lender-at-none c.next_record.result so.calm so.going c.next_record.follows.holds-at-none.0 in
    let is = rw (c.in-Ok-Some.is, c.in-Ok-Some.field-0-is) at next.0 in
    less_left g.S.Source.gives g.S.Source.has_ended g.met.S.Source.joined g.S.Source.given_count g.met.S.Source.counted c.args.options.now c.args.printed.now.source _ _ _ _ _ is (g.met.S.Source.below c.next_record.new.source.source)

pub loop-shown-preserved : goal.loop-shown-preserved
loop-shown-preserved g c =
    let law : Joins g.W.Sink = record { joined = g.met.W.Sink.joined } in
    let (text, so, wrote, knows, numbered) = c.loop-shown.invariant.so_far in
    let number = c.loop-shown.number + 1 in
    let counts : number ≡ 1 + length (records_of so.pieces) = omega (arith, numbered) in
    let (line, is, put) = c.in_ok-put_record-in-Ok-Some.ensures.line (came_in so.pieces) knows in
    let is_line = subst (λ (f : OutputForm). IsRecordOutput f c.args.options.now.session (came_in so.pieces) number (placed_as None (shown_of c.in-Ok-Some.shown)) line)
    c.loop-shown.invariant.form is in
    let next = printed_answer (λ (s : Shown g.row.S.Denot g.row.W.Denot g.W.Sink). s.source) (λ a b. GivesShown g.S.Source.gives a.source b.source a.lines b.lines)
    g.S.Source.gives g.S.Source.has_ended (λ a b xs given. given.gave) c.args.options.now.session c.loop-shown.printed c.next_record.new.source
    c.loop-shown.reader c.next_record.follows.lender-at-none c.next_record.result so.calm so.going c.next_record.follows.holds-at-none.0 in
    let is = rw (c.in-Ok-Some.is, c.in-Ok-Some.field-0-is) at next.0 in
    let failures = rw (c.in-Ok-Some.is) at c.next_record.ensures.failures in
    let (done, behind, numbers) = answered g.S.Source.gives g.S.Source.has_ended g.met.S.Source.joined g.S.Source.given_count g.met.S.Source.counted c.args.options.now
    c.args.printed.now.source _ _ _ _ number text line _ so is counts is_line in
    let more = more_given g.S.Source.gives g.S.Source.has_ended g.met.S.Source.joined g.S.Source.given_count g.met.S.Source.counted c.args.options.now
    c.args.printed.now.source _ _ _ _ _ is in record {
      so_far = (
        text ++ line,
        done,
        and_then law (and_nothing law wrote next.2.kept) put.0,
        subst (λ (b : Before). Knows c.put_record.new.self b) (sym behind) (c.put_record.ensures.knows (came_in so.pieces) knows),
        numbers,
      );
      form = c.put_record.ensures.form ∙ c.loop-shown.invariant.form;
      fewer = omega (arith, more, c.loop-shown.invariant.fewer);
      one_source = c.next_record.follows.holds-at-none.1;
      calm = omega (arith, c.loop-shown.invariant.calm);
    }

pub returns-in-Ok-None-clause-puts : goal.returns-in-Ok-None-clause-puts
returns-in-Ok-None-clause-puts g c =
    let law : Joins g.W.Sink = record { joined = g.met.W.Sink.joined } in
    let (text, so, wrote, knows, numbered) = c.loop-shown.invariant.so_far in
    let next = printed_answer (λ (s : Shown g.row.S.Denot g.row.W.Denot g.W.Sink). s.source) (λ a b. GivesShown g.S.Source.gives a.source b.source a.lines b.lines)
    g.S.Source.gives g.S.Source.has_ended (λ a b xs given. given.gave) c.args.options.now.session c.loop-shown.printed c.next_record.new.source
    c.loop-shown.reader c.next_record.follows.lender-at-none c.next_record.result so.calm so.going c.next_record.follows.holds-at-none.0 in
    let is = rw (c.in-Ok-None.is, c.in-Ok-None.field-0-is) at next.0 in
    let stops = stops_at_end g.S.Source.gives g.S.Source.has_ended g.met.S.Source.joined g.S.Source.given_count g.met.S.Source.counted c.args.options.now c.args.printed.now.source {X = Unit {0}} (tt {0}) _ _ _ _ text so is in record {
      pieces = stops.pieces;
      rest = stops.rest;
      knows = stops.knows;
      text = text;
      gave = stops.gave;
      each = stops.each;
      ends = inl stops.ends;
      are_lines = stops.are_lines;
      wrote = and_nothing law wrote next.2.kept;
    }

pub returns-in-Err-clause-puts : goal.returns-in-Err-clause-puts
returns-in-Err-clause-puts g c =
    let law : Joins g.W.Sink = record { joined = g.met.W.Sink.joined } in
    let (text, so, wrote, knows, numbered) = c.loop-shown.invariant.so_far in
    let next = printed_answer (λ (s : Shown g.row.S.Denot g.row.W.Denot g.W.Sink). s.source) (λ a b. GivesShown g.S.Source.gives a.source b.source a.lines b.lines)
    g.S.Source.gives g.S.Source.has_ended (λ a b xs given. given.gave) c.args.options.now.session c.loop-shown.printed c.next_record.new.source
    c.loop-shown.reader c.next_record.follows.lender-at-none c.next_record.result so.calm so.going c.next_record.follows.holds-at-none.0 in
    let is = rw (c.in-Err.is) at next.0 in
    let stops = stops_at_fault g.S.Source.gives g.S.Source.has_ended g.met.S.Source.joined g.S.Source.given_count g.met.S.Source.counted c.args.options.now c.args.printed.now.source {X = Unit {0}} _ _ _ _ text c.in-Err.fault so is in record {
      pieces = stops.pieces;
      rest = stops.rest;
      knows = stops.knows;
      text = text;
      gave = stops.gave;
      each = stops.each;
      ends = inl stops.ends;
      are_lines = stops.are_lines;
      wrote = and_nothing law wrote next.2.kept;
    }

pub returns-then-has_failed-clause-puts : goal.returns-then-has_failed-clause-puts
returns-then-has_failed-clause-puts g c =
    let law : Joins g.W.Sink = record { joined = g.met.W.Sink.joined } in
    let (text, so, wrote, knows, numbered) = c.loop-shown.invariant.so_far in
    let number = c.loop-shown.number + 1 in
    let counts : number ≡ 1 + length (records_of so.pieces) = omega (arith, numbered) in
    let (line, is, put) = c.in_ok-put_record-in-Ok-Some.ensures.line (came_in so.pieces) knows in
    let is_line = subst (λ (f : OutputForm). IsRecordOutput f c.args.options.now.session (came_in so.pieces) number (placed_as None (shown_of c.in-Ok-Some.shown)) line)
    c.loop-shown.invariant.form is in
    let next = printed_answer (λ (s : Shown g.row.S.Denot g.row.W.Denot g.W.Sink). s.source) (λ a b. GivesShown g.S.Source.gives a.source b.source a.lines b.lines)
    g.S.Source.gives g.S.Source.has_ended (λ a b xs given. given.gave) c.args.options.now.session c.loop-shown.printed c.next_record.new.source
    c.loop-shown.reader c.next_record.follows.lender-at-none c.next_record.result so.calm so.going c.next_record.follows.holds-at-none.0 in
    let is = rw (c.in-Ok-Some.is, c.in-Ok-Some.field-0-is) at next.0 in
    let (done, behind, numbers) = answered g.S.Source.gives g.S.Source.has_ended g.met.S.Source.joined g.S.Source.given_count g.met.S.Source.counted c.args.options.now
    c.args.printed.now.source _ _ _ _ number text line _ so is counts is_line in record {
      pieces = done.pieces;
      rest = [];
      knows = (done.last, done.others, done.skipped);
      text = text ++ line;
      gave = subst (λ (o : List ℕ). g.S.Source.gives c.args.printed.now.source c.next_record.new.source.source o) (sym (append-nil (joined done.pieces))) done.gave;
      each = done.each;
      ends = inr (refl, search rules);
      are_lines = done.are_lines;
      wrote = and_then law (and_nothing law wrote next.2.kept) put.0;
    }

-- memory was refused for the line
pub returns-in_err-put_record-in-Ok-Some-clause-puts : goal.returns-in_err-put_record-in-Ok-Some-clause-puts
returns-in_err-put_record-in-Ok-Some-clause-puts g c =
    let law : Joins g.W.Sink = record { joined = g.met.W.Sink.joined } in
    let (text, so, wrote, knows, numbered) = c.loop-shown.invariant.so_far in
    let number = c.loop-shown.number + 1 in
    let counts : number ≡ 1 + length (records_of so.pieces) = omega (arith, numbered) in
    let (line, is, put) = c.in_err-put_record-in-Ok-Some.ensures.line (came_in so.pieces) knows in
    let is_line = subst (λ (f : OutputForm). IsRecordOutput f c.args.options.now.session (came_in so.pieces) number (placed_as None (shown_of c.in-Ok-Some.shown)) line)
    c.loop-shown.invariant.form is in
    let next = printed_answer (λ (s : Shown g.row.S.Denot g.row.W.Denot g.W.Sink). s.source) (λ a b. GivesShown g.S.Source.gives a.source b.source a.lines b.lines)
    g.S.Source.gives g.S.Source.has_ended (λ a b xs given. given.gave) c.args.options.now.session c.loop-shown.printed c.next_record.new.source
    c.loop-shown.reader c.next_record.follows.lender-at-none c.next_record.result so.calm so.going c.next_record.follows.holds-at-none.0 in
    let is = rw (c.in-Ok-Some.is, c.in-Ok-Some.field-0-is) at next.0 in
    let (done, behind, numbers) = answered g.S.Source.gives g.S.Source.has_ended g.met.S.Source.joined g.S.Source.given_count g.met.S.Source.counted c.args.options.now
    c.args.printed.now.source _ _ _ _ number text line _ so is counts is_line in
    let json = subst IsJson c.loop-shown.invariant.form put.1 in
    at_refusal c.from_residual.result _ _ c.from_residual.ensures.0 (record {
      pieces = done.pieces;
      text = text;
      line = line;
      knows = (done.last, done.others, done.skipped);
      gave = done.gave;
      each = done.each;
      json = json;
      is_line = record_is_json c.args.options.now.form c.args.options.now.session (came_in so.pieces) number _ line json is_line;
      are_lines = done.are_lines;
      wrote = and_nothing law (and_nothing law wrote next.2.kept) put.0;
    })
