-- How a report is written.
use Rattle.std.proofs.Common.{◌≡◌, ◌∙◌, ◌⊎◌, ◌++◌, ℕ, List, [], IsFalse, IsTrue, Option, None, ap, append-nil, map, subst, sym}
use Rattle.mrt.specs.declared.sink.Sink as sinks
use Rattle.bgp_text.specs.Lines.{Writes}
use Rattle.bgp_text.specs.declared.lines.Lines.{Lines}
use Rattle.bgp_text.proofs.Fresh.{IsFresh}
use Rattle.bgp_text.proofs.Pieces.{Joins, and_nothing, and_then}
use Rattle.bgp_tool.proofs.CaptureJudged.{is_written}
use Rattle.bgp_html.specs.Pieces.{Piece, html_of, printed_of}
use Rattle.bgp_html.specs.Report.{head_pieces, report_html}
use Rattle.bgp_html.specs.Taking.{Puts, end_html, place_of}
use Rattle.bgp_html.specs.declared.notes.Notes.{Notes}
use Rattle.bgp_html.specs.declared.printed.Element.{Element}
use Rattle.bgp_html.proofs.Reported.{put_lines, reported}
use Rattle.bgp_check_tool.specs.Marks.{AddsMarks}
use Rattle.bgp_check_tool.specs.declared.marks.BothMarks.{BothMarks}
use Rattle.bgp_check_tool.specs.declared.marks.Marks.{Marks}
use Rattle.bgp_check_capture_tool.specs.Marks.{AddsMarks as AddsStretches, MarkValue, mark_value}
use Rattle.bgp_check_capture_tool.specs.declared.marks.StretchMark.{StretchMark}
use Rattle.bgp_check_capture_tool.specs.declared.marks.StretchMarks.{StretchMarks}
use Rattle.bgp_report.specs.Report.{PutsReport, Reports}

-- the head, then what is taken and its end, and then what stands behind it
module _ {W : Type 0} {sink : sinks.Ghosts W} {Y : Type 0} (law : Joins sink) (name : List ℕ) (Prints : List ℕ → ℕ → List Piece → Type 0) (a b c d e f : Lines W sink) (old new : W)
    (element element' : Option Element) (front front' : List ℕ) (notes notes' : Notes Y) (code status : ℕ) where
  pub written_report : IsFresh a → a.outlet.sink.now ≡ old → new ≡ f.outlet.sink.now → element ≡ None → front ≡ [] → Writes a b (html_of (head_pieces name))
      → (text : List ℕ) → Puts b c element element' front front' notes notes' text → Writes c d (end_html (place_of element' front'))
      → (behind : List Piece) → printed_of behind ≡ [] → Writes d e (html_of behind) → Prints text code behind → Writes e f [] → f.held.items ≡ []
      → (IsFalse f.outlet.has_failed × (status ≡ code)) ⊎ (IsTrue f.outlet.has_failed × (status ≡ 5)) → Reports sink.takes sink.failures name Prints old new status
  written_report fresh first last none empty head text took end behind silent put prints handed nothing told = record {
    text = text;
    code = code;
    behind = behind;
    prints = prints;
    no_lines = silent;
    written = is_written a f old new fresh first last (report_html name text behind) code status
        (and_nothing law (subst (λ (t : List ℕ). Writes a e t) (reported name text behind)
        (and_then law (and_then law head (put_lines law b c d element element' front front' notes notes' text none empty took end)) put)) handed)
        nothing told;
  }

-- the same, of lines that stay
module _ {W : Type 0} {sink : sinks.Ghosts W} {Y : Type 0} (law : Joins sink) (name : List ℕ) (Prints : List ℕ → ℕ → List Piece → Type 0) (a b c d e : Lines W sink)
    (element element' : Option Element) (front front' : List ℕ) (notes notes' : Notes Y) (code : ℕ) where
  pub put_whole : element ≡ None → front ≡ [] → Writes a b (html_of (head_pieces name)) → (text : List ℕ) → Puts b c element element' front front' notes notes' text
      → Writes c d (end_html (place_of element' front')) → (behind : List Piece) → printed_of behind ≡ [] → Writes d e (html_of behind) → Prints text code behind
      → PutsReport name Prints code a e
  put_whole none empty head text took end behind silent put prints = record {
    text = text;
    behind = behind;
    prints = prints;
    no_lines = silent;
    written = subst (λ (t : List ℕ). Writes a e t) (reported name text behind)
        (and_then law (and_then law head (put_lines law b c d element element' front front' notes notes' text none empty took end)) put);
  }

-- and these were handed over
module _ {W : Type 0} {sink : sinks.Ghosts W} (law : Joins sink) (name : List ℕ) (Prints : List ℕ → ℕ → List Piece → Type 0) (a e f : Lines W sink) (old new : W)
    (code status : ℕ) where
  pub handed_report : IsFresh a → a.outlet.sink.now ≡ old → new ≡ f.outlet.sink.now → PutsReport name Prints code a e → Writes e f [] → f.held.items ≡ []
      → (IsFalse f.outlet.has_failed × (status ≡ code)) ⊎ (IsTrue f.outlet.has_failed × (status ≡ 5)) → Reports sink.takes sink.failures name Prints old new status
  handed_report fresh first last it handed nothing told = record {
    text = it.text;
    code = code;
    behind = it.behind;
    prints = it.prints;
    no_lines = it.no_lines;
    written = is_written a f old new fresh first last (report_html name it.text it.behind) code status (and_nothing law it.written handed) nothing told;
  }

-- the same under another word for what is printed
pub put_as : {W : Type 0} {sink : sinks.Ghosts W} (name : List ℕ) (One Other : List ℕ → ℕ → List Piece → Type 0) (code : ℕ) (old new : Lines W sink)
    → ((text : List ℕ) (code : ℕ) (behind : List Piece) → One text code behind → Other text code behind) → PutsReport name One code old new → PutsReport name Other code old new
put_as name One Other code old new reads it = record {
  text = it.text;
  behind = it.behind;
  prints = reads it.text code it.behind it.prints;
  no_lines = it.no_lines;
  written = it.written;
}

-- the marks of all connections, if none is missing
pub all_marks : {Y : Type 0} (old new : Marks Y) (all : List BothMarks) → AddsMarks old new all → old.both.items ≡ [] → IsFalse new.are_missing → new.both.items ≡ all
all_marks old new all adds none some = (adds some).1 ∙ ap (λ (ms : List BothMarks). ms ++ all) none

-- and those of all stretches
pub all_stretches : {Y : Type 0} (old new : StretchMarks Y) (all : List MarkValue) → AddsStretches old new all → old.stretches.items ≡ [] → IsFalse new.are_missing
    → map mark_value new.stretches.items ≡ all
all_stretches old new all adds none some = (adds some).1 ∙ ap (λ (ms : List (StretchMark _)). map mark_value ms ++ all) none

-- the last of several pieces
pub ended : {W : Type 0} {sink : sinks.Ghosts W} {old new : Lines W sink} {text : List ℕ} → Writes old new text → Writes old new (text ++ [])
ended {old = old} {new = new} {text = text} writes = subst (λ (t : List ℕ). Writes old new t) (sym (append-nil text)) writes
