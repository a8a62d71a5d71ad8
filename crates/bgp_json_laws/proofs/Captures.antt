-- Captures with one text have the same records.
use Rattle.std.proofs.Common.{◌≡◌, ◌∙◌, ◌++◌, ◌+◌, ◌<◌, ◌^◌, ℕ, Bool, List, [], ◌∷◌, All, None, Result, Ok, Err, length, map, refl, sym, ap, arith, inl, inr}
use Rattle.std.proofs.lemmas.List.{length-map}
use Rattle.std.proofs.lemmas.List.Elements.{All-cons, All-head, All-nil, All-tail}
use Rattle.mrt.specs.Fault.{fault_number}
use Rattle.mrt.specs.declared.fault.CaptureFault.{CaptureFault}
use Rattle.mrt.specs.declared.fault.FaultKind.{FaultKind}
use Rattle.mrt.specs.declared.fault.FaultKind.TheVariants as kinds
use Rattle.bgp_prefix.specs.Shown.{ShownRecord}
use Rattle.bgp_prefix.specs.declared.session.Session.{Session}
use Rattle.bgp_lines.specs.Form.{Before, PlacedRecord, before_behind, nothing_before}
use Rattle.bgp_lines.specs.Telling.{placed_as}
use Rattle.bgp_json.specs.Others.{capture_json}
use Rattle.bgp_json.specs.Output.{AreRecordOutputs, IsJson}
use Rattle.bgp_json.specs.RecordJson.{ArePlacedLines}
use Rattle.bgp_json.specs.declared.output_form.OutputForm.{OutputForm}
use Rattle.bgp_json.specs.declared.output_form.OutputForm.TheVariants as forms
use Rattle.bgp_json.proofs.Shallow.{capture_shallow}
use Rattle.bgp_tool.specs.CaptureDecoding.{last_line_in}
use Rattle.bgp_json_laws.specs.Lines.{IsPlacedRecord, IsShown, shown_in}
use Rattle.bgp_json_laws.specs.Texts.{CapturesDiffer, IsAnswer}
use Rattle.bgp_json_laws.proofs.Decimals.{of_number}
use Rattle.bgp_json_laws.proofs.Printing.{IsPrinted}
use Rattle.bgp_json_laws.proofs.Records.{IsEnd, same_ended}

-- ---- a refusal

number_fits : (kind : FaultKind) → fault_number kind < 2 ^ 64
number_fits kinds.Truncated = omega arith
number_fits kinds.TooLong = omega arith
number_fits kinds.Body = omega arith
number_fits kinds.BadState = omega arith
number_fits kinds.NotAMessage = omega arith
number_fits kinds.TimeBack = omega arith
number_fits kinds.RouteRefresh = omega arith
number_fits kinds.AddPath = omega arith
number_fits kinds.Device = omega arith
number_fits kinds.Memory = omega arith

pub refusal_printed : (fault : CaptureFault) → fault.offset < 2 ^ 64 → IsPrinted (capture_json fault)
refusal_printed fault small = record {
  decimals = (tt, (tt, (of_number (fault_number fault.kind) (number_fits fault.kind), (tt, (of_number fault.offset small, tt)))));
  shallow = capture_shallow fault;
}

is_end : (as2 : Bool) (answer : Result (Unit {0}) CaptureFault) → IsAnswer answer → IsEnd (last_line_in (forms.Json as2) answer)
is_end as2 (Ok u) small = inl refl
is_end as2 (Err fault) small = inr (capture_json fault, refusal_printed fault small, refl, refl)

-- ---- records

are_placed : (session : Session) (before : Before) (as2 : Bool) (number : ℕ) (records : List PlacedRecord) (text : List ℕ)
    → AreRecordOutputs (forms.Json as2) session before number records text → ArePlacedLines session before as2 number records text
are_placed session before as2 number [] text h = h
are_placed session before as2 number (placed ∷ records) text h =
    (h.0, h.1, h.2, are_placed session (before_behind placed.shown before) as2 (number + 1) records h.1 h.3, h.4)

each_placed : (records : List ShownRecord) → All IsShown records → All IsPlacedRecord (map (placed_as None) records)
each_placed [] all = All-nil IsPlacedRecord
each_placed (shown ∷ records) all =
    All-cons IsPlacedRecord (placed_as None shown) (map (placed_as None) records) record { shown = All-head IsShown shown records all; packet = tt }
    (each_placed records (All-tail IsShown shown records all))

shown_back : (records : List ShownRecord) → shown_in (map (placed_as None) records) ≡ records
shown_back [] = refl
shown_back (shown ∷ records) = ap (λ (l : List ShownRecord). shown ∷ l) (shown_back records)

in_json : (form also : OutputForm) (session another : Session) (records others : List ShownRecord) (answer other : Result (Unit {0}) CaptureFault) (lines texts : List ℕ)
    → IsJson form → IsJson also → 1 + length records < 2 ^ 64 → 1 + length others < 2 ^ 64 → All IsShown records → All IsShown others → IsAnswer answer → IsAnswer other
    → AreRecordOutputs form session nothing_before 1 (map (placed_as None) records) lines
    → AreRecordOutputs also another nothing_before 1 (map (placed_as None) others) texts
    → lines ++ last_line_in form answer ≡ texts ++ last_line_in also other → records ≡ others
in_json (forms.Text form) also session another records others answer other lines texts json too small fits all each is are h k e = absurd json
in_json (forms.Json as2) (forms.Text form) session another records others answer other lines texts json too small fits all each is are h k e = absurd too
in_json (forms.Json as2) (forms.Json also2) session another records others answer other lines texts json too small fits all each is are h k e =
    let many = length-map records (placed_as None) in
    let more = length-map others (placed_as None) in
    sym (shown_back records)
    ∙ same_ended session another nothing_before nothing_before as2 also2 1 1 (map (placed_as None) records) (map (placed_as None) others) lines texts
    (last_line_in (forms.Json as2) answer) (last_line_in (forms.Json also2) other) (omega (arith, small, many)) (omega (arith, fits, more))
    (each_placed records all) (each_placed others each) (is_end as2 answer is) (is_end also2 other are)
    (are_placed session nothing_before as2 1 (map (placed_as None) records) lines h) (are_placed another nothing_before also2 1 (map (placed_as None) others) texts k) e
    ∙ shown_back others

pub same_capture : CapturesDiffer
same_capture options other records others answer also lines texts json too small fits all each is are h k e =
    in_json options.form other.form options.session other.session records others answer also lines texts json too small fits all each is are h k e
