use Rattle.std.proofs.Common.{◌≡◌, ◌+◌, ℕ, List, drop, take}
use Rattle.std.specs.List.{AllByRecursion}
use Rattle.bgp_text.specs.Lines.{Writes}
use Rattle.bgp_recording_tool.specs.Decoding.{HasLine}
use Rattle.bgp_lines.specs.Form.{Before}
use Rattle.bgp_json.specs.Output.{Knows, form_of}
use Rattle.bgp_recording_tool.proofs.EntryLines.{AreFollowed}
use Rattle.bgp_recording_tool.proofs.decoding.put_entries.Given as goal

-- the lines so far were put, and are those of the entries so far; what came before is known
abbrev pub invariant-loop-entry : goal.invariant-loop-entry
invariant-loop-entry g l = record {
  so_far : (text : List ℕ) × (before : Before) × Writes l.fn.lines l.lines text × Knows l.teller before
      × AreFollowed l.fn.form l.session (take l.entry-index l.entries) before (l.entry-index + 1) text;
  same_form : form_of l.teller ≡ l.fn.form;
  counted : l.number ≡ l.entry-index;
  left : AllByRecursion (HasLine l.session) (drop l.entry-index l.entries);
}
