-- Rows of what could have come, or had to: one for each line of a text.
use Rattle.std.specs.Prelude.{◌≡◌, ◌==◌, ◌++◌, ℕ, false, List, [], ◌∷◌, Option, None, Some}
use Rattle.std.specs.Prelude.{if◌then◌else◌}
use Rattle.std.specs.List.{list_any}
use Rattle.bgp_html.specs.Pieces.{Markup, Piece, Words}
use Rattle.bgp_html.specs.declared.tag.Mark.TheVariants as marks
use Rattle.bgp_html.specs.declared.tag.Tag.TheVariants as tags
use Rattle.bgp_html.specs.declared.tag.What.TheVariants as whats
use Rattle.bgp_ladder.specs.Numbering.{blank_cells}
use Rattle.bgp_ladder.specs.Runs.{is_marked}
use Rattle.bgp_ladder.specs.declared.numbering.Numbering.{Numbering}
use Rattle.bgp_ladder.specs.declared.rows.Ladder.{Ladder}

module _ (numbering : Numbering) where
  -- it has no time, no packet and no number
  abbrev pub possible_row : List ℕ → List Piece
  possible_row line =
      Markup (tags.Row whats.Run marks.Possible)
      ∷ (blank_cells numbering ++ (Markup tags.Message ∷ Words line ∷ Markup tags.MessageEnd ∷ []))

  -- the rows of these octets, if those came of the first line
  abbrev pub rows_from : List ℕ → List ℕ → List Piece
  rows_from line [] = []
  rows_from line (octet ∷ octets) =
      if octet == 10 then possible_row line ++ rows_from [] octets
      else rows_from (line ++ octet ∷ []) octets

  abbrev pub possible_rows : List ℕ → List Piece
  possible_rows text = rows_from [] text

-- behind the row of the record with this number: only if the lines are about that one
abbrev pub behind_pieces : Ladder → List ℕ → ℕ → List Piece
behind_pieces ladder possible number =
    if is_marked ladder.asked number then possible_rows ladder.numbering possible else []

-- and behind all rows: only if they are about none
abbrev pub if_none : Option ℕ → List Piece → List Piece
if_none None pieces = pieces
if_none (Some place) pieces = []

abbrev pub last_pieces : Ladder → List ℕ → List Piece
last_pieces ladder possible = if_none ladder.asked (possible_rows ladder.numbering possible)

-- Each line of a text has a row, in their order.
abbrev pub EachLineHasARow : Type 0
EachLineHasARow =
    (numbering : Numbering) (line text : List ℕ)
    → list_any (λ octet. octet == 10) line ≡ false
    → possible_rows numbering (line ++ 10 ∷ text)
    ≡ possible_row numbering line ++ possible_rows numbering text
