use Rattle.std.proofs.Common.{ℕ, List, map, take}
use Rattle.bgp_text.specs.Lines.{Writes}
use Rattle.bgp_html.specs.Pieces.{Piece, html_of}
use Rattle.bgp_check_capture_tool.specs.Marks.{mark_value}
use Rattle.bgp_report.specs.Notes.{AreNotes}
use Rattle.bgp_report.specs.Stretches.{AreFrom}
use Rattle.bgp_report.proofs.stretches.put_each.Given as goal

-- those of the stretches so far are put
abbrev pub invariant-loop-place : goal.invariant-loop-place
invariant-loop-place g l =
    (text : List ℕ) → AreNotes text l.notes → (pieces : List Piece)
    × AreFrom text (map mark_value l.marks) 0 (take l.place (map mark_value l.marks)) pieces × Writes l.fn.lines l.lines (html_of pieces)
