use Rattle.std.proofs.Common.{◌≡◌, ◌++◌, ◌-◌, ◌≤◌, List, drop, take}
use Rattle.bgp_text.specs.Lines.{Writes}
use Rattle.bgp_html.specs.Pieces.{Piece, html_of}
use Rattle.bgp_ladder.specs.Possible.{possible_rows, rows_from}
use Rattle.bgp_ladder.proofs.possible.put_possible.Given as goal

-- the rows of the lines so far are put
abbrev pub invariant-loop-place : goal.invariant-loop-place
invariant-loop-place g l =
    (l.first ≤ l.place)
    × (rows : List Piece) × Writes l.fn.lines l.lines (html_of rows)
    × (rows ++ rows_from l.numbering (take (l.place - l.first) (drop l.first l.text)) (drop l.place l.text) ≡ possible_rows l.numbering l.text)
