-- A capture's decoding that began with a fresh text, told by what the sink took.
use Rattle.std.proofs.Common.{◌≡◌, ◌∙◌, ◌++◌, ◌+◌, ℕ, List, [], Bool, true, false, refl, sym, ap, subst, inl, inr, append_assoc, append-nil, Option, Result, Ok, Err}
use Rattle.mrt.specs.Capture.{joined}
use Rattle.mrt.specs.declared.fault.CaptureFault.{CaptureFault}
use Rattle.mrt.specs.declared.sink.Sink as sinks
use Rattle.mrt.specs.Progress.{failures_of}
use Rattle.mrt.specs.Reader.{ReaderState}
use Rattle.bgp_text.specs.declared.lines.Lines.{Lines}
use Rattle.bgp_text.specs.Outlet.{IsKept}
use Rattle.bgp_text.specs.Lines.{Writes}
use Rattle.bgp_json.specs.Output.{IsJsonLine}
use Rattle.bgp_tool.specs.declared.session_options.SessionOptions.{SessionOptions}
use Rattle.bgp_judge.specs.Judging.{fault_in}
use Rattle.bgp_tool.specs.CaptureDecoding.{DecodesCapture, DecodesWith, Finishes, FinishesLines, HandsOn, LacksLine, PutsLines, PutsRecords}
use Rattle.bgp_tool.specs.CaptureDecoding.{failures_in, fault_of, last_line_in}
use Rattle.bgp_text.proofs.Pieces.{Joins, and_then}
use Rattle.bgp_text.proofs.Fresh.{IsFresh, put_is, nothing_left, none_counted, one_counted}

-- a sink that has failed stays so
sticky : {W : Type 0} (failures : W → ℕ) (old new : W) (left held : List ℕ) (before after : Bool) → IsKept failures old new left held before after
    → before ≡ true → after ≡ true
sticky failures old new left held true true kept is = refl
sticky failures old new left held true false kept is = absurd kept
sticky failures old new left held false after kept is = absurd (cc)

-- what was put, and a line that wasn't
lacking : (text taken left more : List ℕ) → text ++ [] ≡ taken ++ left → text ++ more ≡ taken ++ (left ++ more)
lacking text taken left more is = ap (λ (t : List ℕ). t ++ more) (sym (append-nil text) ∙ is) ∙ append_assoc taken left more

only_left : (left line : List ℕ) → left ≡ [] → IsJsonLine line → IsJsonLine (left ++ line)
only_left left line none is = subst IsJsonLine (sym (ap (λ (l : List ℕ). l ++ line) none)) is

module _ {R W : Type 0} {sinks' : sinks.Ghosts W} (law : Joins sinks') (gives : R → R → List ℕ → Type 0) (has_ended : R → Bool) (counts : R → ℕ)
    (options : SessionOptions) (source source' : R) (lines middle lines' : Lines W sinks') (sink sink' : W) (fresh : IsFresh lines)
    (reader' : ReaderState) (first : lines.outlet.sink.now ≡ sink) (last : sink' ≡ lines'.outlet.sink.now) where
  took_by : (taken : List ℕ) → sinks'.takes lines.outlet.sink.now lines'.outlet.sink.now taken → sinks'.takes sink sink' taken
  took_by taken took =
      subst (λ (w : W). sinks'.takes w sink' taken) first (subst (λ (w : W). sinks'.takes lines.outlet.sink.now w taken) (sym last) took)

  -- the sink's count
  same_count : (text : List ℕ) → Writes lines lines' text → lines'.outlet.has_failed ≡ false → sinks'.failures sink' ≡ sinks'.failures sink
  same_count text wrote calm = ap sinks'.failures last ∙ none_counted lines lines' text fresh wrote calm ∙ ap sinks'.failures first

  one_more : (text : List ℕ) → Writes lines lines' text → lines'.outlet.has_failed ≡ true → sinks'.failures sink' ≡ sinks'.failures sink + 1
  one_more text wrote failed =
      ap sinks'.failures last ∙ one_counted lines lines' text fresh wrote failed ∙ ap (λ (w : W). sinks'.failures w + 1) first

  failed_before : (more : List ℕ) → Writes middle lines' more → middle.outlet.has_failed ≡ true → lines'.outlet.has_failed ≡ true
  failed_before more wrote early = sticky sinks'.failures _ _ wrote.left _ middle.outlet.has_failed lines'.outlet.has_failed wrote.kept early

  -- the octets were read to their end, or to where the sink had failed
  decodes_capture : (answer : Result (Unit {0}) CaptureFault) (status : ℕ) → PutsRecords gives has_ended options source source' lines middle reader' answer
      → Finishes options.form middle lines' answer status → counts source' ≡ counts source + failures_of answer
      → (decodes : DecodesCapture gives has_ended sinks'.takes counts sinks'.failures options source source' sink sink' reader' status) × (decodes.answer ≡ answer)
  decodes_capture answer status puts (inl ends) counted =
      let wrote : Writes lines lines' (puts.text ++ last_line_in options.form answer) = and_then law puts.wrote ends.wrote in
      let text = puts.text ++ last_line_in options.form answer in (
        record {
          pieces = puts.pieces;
          rest = puts.rest;
          knows = puts.knows;
          answer = answer;
          gave = puts.gave;
          each = puts.each;
          ends = elim puts.ends [
            | inl there ↦ inl there
            | inr early ↦ inr (inl (early.0, one_more text wrote (failed_before (last_line_in options.form answer) ends.wrote early.1)))
          ];
          counted = counted;
          lines = puts.text;
          are_lines = puts.are_lines;
          written = wrote.taken;
          left = wrote.left;
          took = took_by wrote.taken wrote.took;
          begun = put_is lines lines' text fresh wrote;
          all = elim ends.told [
            | inl calm ↦ inl (same_count text wrote calm.0, nothing_left lines lines' text fresh wrote ends.handed_over calm.0, calm.1)
            | inr failed ↦ inr (inl (one_more text wrote failed.0, failed.1))
          ];
        },
        refl,
      )
  decodes_capture answer status puts (inr (json, is_line, ends)) counted =
      let wrote : Writes lines lines' (puts.text ++ []) = and_then law puts.wrote ends.wrote in
      let text = puts.text ++ [] in
      let line = last_line_in options.form answer in (
        record {
          pieces = puts.pieces;
          rest = puts.rest;
          knows = puts.knows;
          answer = answer;
          gave = puts.gave;
          each = puts.each;
          ends = elim puts.ends [
            | inl there ↦ inl there
            | inr early ↦ inr (inl (early.0, one_more text wrote (failed_before [] ends.wrote early.1)))
          ];
          counted = counted;
          lines = puts.text;
          are_lines = puts.are_lines;
          written = wrote.taken;
          left = wrote.left ++ line;
          took = took_by wrote.taken wrote.took;
          begun = lacking puts.text wrote.taken wrote.left line (put_is lines lines' text fresh wrote);
          all = elim ends.told [
            | inl calm ↦ inr (inr (
              same_count text wrote calm.0,
              calm.1,
              json,
              only_left wrote.left line (nothing_left lines lines' text fresh wrote ends.handed_over calm.0) is_line,
            ))
            | inr failed ↦ inr (inl (one_more text wrote failed.0, failed.1))
          ];
        },
        refl,
      )

  -- memory was refused for a line
  decodes_some : (status : ℕ) → LacksLine gives options source source' lines middle reader' → HandsOn middle lines' [] 4 status
      → counts source' ≡ counts source + 0
      → (decodes : DecodesCapture gives has_ended sinks'.takes counts sinks'.failures options source source' sink sink' reader' status)
      × (decodes.answer ≡ Ok (tt {0}))
  decodes_some status lacks ends counted =
      let wrote : Writes lines lines' (lacks.text ++ []) = and_then law lacks.wrote ends.wrote in
      let text = lacks.text ++ [] in (
        record {
          pieces = lacks.pieces;
          rest = [];
          knows = lacks.knows;
          answer = Ok (tt {0});
          gave = subst (λ (o : List ℕ). gives source source' o) (sym (append-nil (joined lacks.pieces))) lacks.gave;
          each = lacks.each;
          ends = elim ends.told [
            | inl calm ↦ inr (inr (refl, calm.1, lacks.json))
            | inr failed ↦ inr (inl (refl, one_more text wrote failed.0))
          ];
          counted = counted;
          lines = lacks.text ++ lacks.line;
          are_lines = lacks.are_lines;
          written = wrote.taken;
          left = wrote.left ++ lacks.line;
          took = took_by wrote.taken wrote.took;
          begun = append-nil (lacks.text ++ lacks.line) ∙ lacking lacks.text wrote.taken wrote.left lacks.line (put_is lines lines' text fresh wrote);
          all = elim ends.told [
            | inl calm ↦ inr (inr (
              same_count text wrote calm.0,
              calm.1,
              lacks.json,
              only_left wrote.left lacks.line (nothing_left lines lines' text fresh wrote ends.handed_over calm.0) lacks.is_line,
            ))
            | inr failed ↦ inr (inl (one_more text wrote failed.0, failed.1))
          ];
        },
        refl,
      )

  -- and so it is decoded with the same answer
  pub decodes_with : {E : Type 0} (read : Result (Result (Unit {0}) CaptureFault) E) (status : ℕ) (refused : Option CaptureFault)
      → PutsLines gives has_ended options source source' lines middle reader' read
      → FinishesLines options.form middle lines' read status → counts source' ≡ counts source + failures_in read → refused ≡ fault_of read
      → DecodesWith gives has_ended sinks'.takes counts sinks'.failures options source source' sink sink' reader' status refused
  decodes_with (Ok answer) status refused puts ends counted is =
      let (decodes, same) = decodes_capture answer status puts ends counted in (decodes, is ∙ sym (ap fault_in same))
  decodes_with (Err e) status refused lacks ends counted is =
      let (decodes, same) = decodes_some status lacks ends counted in (decodes, is ∙ sym (ap fault_in same))
