use Rattle.std.proofs.Common.{◌≡◌, ◌≤◌, ◌+◌, ℕ, List, take}
use Rattle.packets.specs.Packet.{Recorded}
use Rattle.bgp_import.specs.Talks.{HoldsSome}
use Rattle.bgp_text.specs.Lines.{Writes}
use Rattle.bgp_html.specs.Pieces.{Piece, html_of}
use Rattle.bgp_report.specs.Ladders.{AreLadders}
use Rattle.bgp_report.specs.Notes.{AreNotes}
use Rattle.bgp_report.proofs.InLadders.{behind_all}
use Rattle.bgp_report.proofs.ladders.put_each.Given as goal

-- those of the connections so far are put, and their answers are counted
abbrev pub invariant-loop-place : goal.invariant-loop-place
invariant-loop-place g l =
    (l.count ≡ behind_all 0 (take l.place l.marks)) × (l.count ≤ l.place + l.place)
    × ((port : ℕ) (packets : List Recorded) (text : List ℕ) → HoldsSome port packets l.talks → AreNotes text l.notes
    → (pieces : List Piece) × AreLadders port l.within packets text 0 (take l.place l.marks) pieces × Writes l.fn.lines l.lines (html_of pieces))
