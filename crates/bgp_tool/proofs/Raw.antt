-- A decoding that began with a fresh text, told by what the sink took.
use Rattle.std.proofs.Common.{◌≡◌, ◌≤◌, ◌∙◌, ◌+◌, ℕ, List, false, refl, sym, ap, subst, inl, inr, arith}
use Rattle.mrt.specs.declared.sink.Sink as sinks
use Rattle.bgp_tool.specs.declared.decoding.End.{End}
use Rattle.bgp_tool.specs.declared.decoding.End.TheVariants as ends
use Rattle.bgp_tool.specs.declared.stream_options.StreamOptions.{StreamOptions}
use Rattle.bgp_text.specs.declared.lines.Lines.{Lines}
use Rattle.bgp_tool.specs.Decoding.{IsDecoded, IsSoFar, IsBeginning, CountsFailures, Decodes}
use Rattle.bgp_tool.specs.Ending.{HasText, Reaches, status_of, source_failures, has_sink_failed}
use Rattle.bgp_text.proofs.Fresh.{IsFresh, put_is, all_taken, none_counted, one_counted}
use Rattle.bgp_tool.proofs.Decoded.{begins, taken_begins}

module _ {R W : Type 0} {sinks' : sinks.Ghosts W} (options : StreamOptions) (gives : R → R → List ℕ → Type 0)
    (source source' : R) (lines lines' : Lines W sinks') (sink sink' : W) (fresh : IsFresh lines)
    (first : lines.outlet.sink.now ≡ sink) (last : sink' ≡ lines'.outlet.sink.now) (old new status : ℕ) where
  -- what the sink took, from its first state to its last
  took_by : (taken : List ℕ) → sinks'.takes lines.outlet.sink.now lines'.outlet.sink.now taken → sinks'.takes sink sink' taken
  took_by taken took =
      subst (λ (w : W). sinks'.takes w sink' taken) first (subst (λ (w : W). sinks'.takes lines.outlet.sink.now w taken) (sym last) took)

  -- the stream ended, or a header with faults came
  whole_text : (end : End) → (reached : Reaches options gives source source' lines lines' end) → has_sink_failed end ≡ false
      → (n : ℕ) → HasText options reached.given reached.text end → status ≡ n
      → IsDecoded options reached.given reached.text n
      → new ≡ old → Decodes options gives sinks'.takes source source' sink sink' (new ≡ old + 1) status
  whole_text end reached calm n has is whole same =
      let all = all_taken lines lines' reached.text fresh reached.wrote reached.handed_over (reached.told ∙ calm) in
      record {
        given = reached.given;
        written = reached.wrote.taken;
        gave = reached.gave;
        took = took_by reached.wrote.taken reached.wrote.took;
        begun = subst (λ (text : List ℕ). IsBeginning options reached.given text) all (begins options reached.given reached.text end has);
        whole = λ _.
            subst (λ (text : List ℕ). IsDecoded options reached.given text status) all
            (subst (λ (m : ℕ). IsDecoded options reached.given reached.text m) (sym is) whole);
        so_far = λ failed. absurd (omega arith);
      }

  -- memory or the sink was at its end
  part_of_text : (end : End) → (reached : Reaches options gives source source' lines lines' end)
      → HasText options reached.given reached.text end → 4 ≤ status → new ≡ old
      → Decodes options gives sinks'.takes source source' sink sink' (new ≡ old + 1) status
  part_of_text end reached has none same = record {
    given = reached.given;
    written = reached.wrote.taken;
    gave = reached.gave;
    took = took_by reached.wrote.taken reached.wrote.took;
    begun = taken_begins reached.given reached.text reached.wrote.taken reached.wrote.left
        (put_is lines lines' reached.text fresh reached.wrote) (begins options reached.given reached.text end has);
    whole = λ less. absurd (omega arith);
    so_far = λ failed. absurd (omega arith);
  }

  pub decodes_raw : (end : End) → Reaches options gives source source' lines lines' end → new ≡ source_failures old end
      → status ≡ status_of end → Decodes options gives sinks'.takes source source' sink sink' (new ≡ old + 1) status
  decodes_raw ends.BetweenMessages reached count is =
      whole_text ends.BetweenMessages reached refl 0 reached.has_text is reached.has_text count
  decodes_raw ends.InsideMessage reached count is =
      whole_text ends.InsideMessage reached refl 2 reached.has_text is reached.has_text count
  decodes_raw ends.AtFault reached count is = whole_text ends.AtFault reached refl 3 reached.has_text is reached.has_text count
  decodes_raw ends.OutOfMemory reached count is =
      part_of_text ends.OutOfMemory reached reached.has_text (omega (arith, is)) count
  decodes_raw ends.SinkFailed reached count is =
      part_of_text ends.SinkFailed reached reached.has_text (omega (arith, is)) count
  decodes_raw ends.SourceFailed reached count is =
      let all = all_taken lines lines' reached.text fresh reached.wrote reached.handed_over reached.told in
      record {
        given = reached.given;
        written = reached.wrote.taken;
        gave = reached.gave;
        took = took_by reached.wrote.taken reached.wrote.took;
        begun = subst (λ (text : List ℕ). IsBeginning options reached.given text) all
            (begins options reached.given reached.text ends.SourceFailed reached.has_text);
        whole = λ less. absurd (omega (arith, is));
        so_far = λ _. subst (λ (text : List ℕ). IsSoFar options reached.given text) all reached.has_text;
      }

  -- the sink's count
  counted : (n : ℕ) → sinks'.failures lines'.outlet.sink.now ≡ n → sinks'.failures sink' ≡ n
  counted n is = ap sinks'.failures last ∙ is

  same_count : (end : End) → (reached : Reaches options gives source source' lines lines' end) → has_sink_failed end ≡ false
      → sinks'.failures sink' ≡ sinks'.failures sink
  same_count end reached calm =
      ap sinks'.failures last ∙ none_counted lines lines' reached.text fresh reached.wrote (reached.told ∙ calm) ∙ ap sinks'.failures first

  pub counts_raw : (end : End) → Reaches options gives source source' lines lines' end → new ≡ source_failures old end
      → status ≡ status_of end → CountsFailures old new (sinks'.failures sink) (sinks'.failures sink') status
  counts_raw ends.BetweenMessages reached count is =
      inr (inr (λ five. absurd (omega arith), count, same_count ends.BetweenMessages reached refl))
  counts_raw ends.InsideMessage reached count is =
      inr (inr (λ five. absurd (omega arith), count, same_count ends.InsideMessage reached refl))
  counts_raw ends.AtFault reached count is =
      inr (inr (λ five. absurd (omega arith), count, same_count ends.AtFault reached refl))
  counts_raw ends.OutOfMemory reached count is =
      inr (inr (λ five. absurd (omega arith), count, same_count ends.OutOfMemory reached refl))
  counts_raw ends.SourceFailed reached count is = inl (is, count, same_count ends.SourceFailed reached refl)
  counts_raw ends.SinkFailed reached count is =
      inr (inl (
        is,
        count,
        ap sinks'.failures last ∙ one_counted lines lines' reached.text fresh reached.wrote reached.told
            ∙ ap (λ (w : W). sinks'.failures w + 1) first,
      ))
