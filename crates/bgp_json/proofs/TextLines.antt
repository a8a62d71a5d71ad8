-- In a form of text the lines of records are bgp_lines'.
use Rattle.std.proofs.Common.{◌+◌, ℕ, List, [], ◌∷◌}
use Rattle.bgp_prefix.specs.declared.session.Session.{Session}
use Rattle.bgp_lines.specs.Form.{ArePlacedLines, Before, PlacedRecord, before_behind}
use Rattle.bgp_lines.specs.declared.form.LineForm.{LineForm}
use Rattle.bgp_json.specs.Output.{AreRecordOutputs}
use Rattle.bgp_json.specs.declared.output_form.OutputForm.TheVariants.{Text}

pub as_text : (form : LineForm) (session : Session) (before : Before) (number : ℕ) (records : List PlacedRecord) (text : List ℕ)
    → AreRecordOutputs (Text form) session before number records text → ArePlacedLines form session before records text
as_text form session before number [] text are = are
as_text form session before number (placed ∷ records) text are =
    (are.0, are.1, are.2, as_text form session (before_behind placed.shown before) (number + 1) records are.1 are.3, are.4)

pub of_text : (form : LineForm) (session : Session) (before : Before) (number : ℕ) (records : List PlacedRecord) (text : List ℕ)
    → ArePlacedLines form session before records text → AreRecordOutputs (Text form) session before number records text
of_text form session before number [] text are = are
of_text form session before number (placed ∷ records) text are =
    (are.0, are.1, are.2, of_text form session (before_behind placed.shown before) (number + 1) records are.1 are.3, are.4)
