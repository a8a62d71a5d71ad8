-- No row is a line that is printed as text.
use Rattle.std.proofs.Common.{◌≡◌, ◌∙◌, ◌++◌, ◌==◌, ℕ, Bool, true, false, List, [], ◌∷◌, Option, None, Some, if◌then◌else◌, length, refl, ap}
use Rattle.std.proofs.lemmas.Grind.{flat_map-append}
use Rattle.bgp_html.specs.Pieces.{Piece, piece_lines, printed_of}
use Rattle.bgp_html.specs.declared.tag.Column.{Column}
use Rattle.bgp_prefix.specs.Shown.{ShownRecord, Received as In, Sent as Out, Changed}
use Rattle.bgp_recording.specs.declared.entry.Entry.{Entry}
use Rattle.bgp_values.specs.declared.opens.Opens.{Opens}
use Rattle.mrt.specs.Reader.{shown_of}
use Rattle.bgp_ladder.specs.Ladder.{AreRowsBetween, IsOwnRow, IsRowOf, RowsAreNotPrinted, count_pieces, deed_pieces, front_pieces, kind_pieces, message_pieces, number_words}
use Rattle.bgp_ladder.specs.Numbering.{blank_cells, number_cells}
use Rattle.bgp_ladder.specs.Possible.{behind_pieces, if_none, last_pieces, possible_row, possible_rows, rows_from}
use Rattle.bgp_ladder.specs.Runs.{is_marked}
use Rattle.bgp_ladder.specs.declared.numbering.Numbering.{Numbering}
use Rattle.bgp_ladder.specs.declared.numbering.Numbering.TheVariants as numberings
use Rattle.bgp_ladder.specs.declared.rows.Ladder.{Ladder}
use Rattle.bgp_ladder.specs.declared.runs.Part.{Part}
use Rattle.bgp_ladder.specs.declared.runs.Part.TheVariants as parts

-- those of two lists
both : (pieces more : List Piece) → printed_of pieces ≡ [] → printed_of more ≡ [] → printed_of (pieces ++ more) ≡ []
both pieces more none nor = flat_map-append piece_lines pieces more ∙ ap (λ (o : List ℕ). o ++ printed_of more) none ∙ nor

of_deed : (column : Column) (shown : ShownRecord) (text : List ℕ) → printed_of (deed_pieces column shown text) ≡ []
of_deed column (In second octets) text = refl
of_deed column (Out second octets) text = refl
of_deed column (Changed second old new) text = refl

of_blanks : (numbering : Numbering) → printed_of (blank_cells numbering) ≡ []
of_blanks numberings.Packets = refl
of_blanks numberings.Session = refl

of_numbers : (numbering : Numbering) (number : ℕ) (entry : Entry) → printed_of (number_cells numbering number entry) ≡ []
of_numbers numberings.Packets number entry = refl
of_numbers numberings.Session number entry = refl

of_kind : (shown : ShownRecord) → printed_of (kind_pieces shown) ≡ []
of_kind (In second octets) = refl
of_kind (Out second octets) = refl
of_kind (Changed second old new) = refl

module _ (ladder : Ladder) (opens : Opens) (greatest : ℕ) (previous : Option Entry) (number : ℕ) (entry last : Entry) where
  own_row : (shown : Option Entry) (row : List Piece) → IsOwnRow ladder opens greatest previous number entry last shown row → printed_of row ≡ []
  own_row shown row (text, deed, is) =
      ap (λ (ps : List Piece). printed_of ps) is
      ∙ both (front_pieces ladder greatest shown number entry) (deed_pieces ladder.column (shown_of entry.record) text) (of_numbers ladder.numbering number entry) (of_deed ladder.column (shown_of entry.record) text)

  one_row : (part : Part) (row : List Piece) → IsRowOf ladder opens greatest previous number entry last part row → printed_of row ≡ []
  one_row parts.Own row is = own_row previous row is
  one_row parts.Last row is = own_row None row is
  one_row (parts.Sum count) row is =
      ap (λ (ps : List Piece). printed_of ps) is
      ∙ both (blank_cells ladder.numbering) _ (of_blanks ladder.numbering)
      (both (count_pieces count (shown_of entry.record)) (number_words _ _) (of_kind (shown_of entry.record)) refl)
  one_row parts.Summed row is = ap (λ (ps : List Piece). printed_of ps) is

-- ---- what could have come

module _ (numbering : Numbering) where
  of_possible_row : (line : List ℕ) → printed_of (possible_row numbering line) ≡ []
  of_possible_row line = both (blank_cells numbering) (message_pieces line) (of_blanks numbering) refl

  of_possible_by : (last : Bool) (line : List ℕ) (octet : ℕ) (octets : List ℕ) → ((other : List ℕ) → printed_of (rows_from numbering other octets) ≡ [])
      → printed_of (if last then possible_row numbering line ++ rows_from numbering [] octets else rows_from numbering (line ++ octet ∷ []) octets) ≡ []
  of_possible_by true line octet octets rest = both (possible_row numbering line) (rows_from numbering [] octets) (of_possible_row line) (rest [])
  of_possible_by false line octet octets rest = rest (line ++ octet ∷ [])

  of_possible : (octets line : List ℕ) → printed_of (rows_from numbering line octets) ≡ []
  of_possible [] line = refl
  of_possible (octet ∷ octets) line = of_possible_by (octet == 10) line octet octets (of_possible octets)

  of_behind_by : (marked : Bool) (possible : List ℕ) → printed_of (if marked then possible_rows numbering possible else []) ≡ []
  of_behind_by true possible = of_possible possible []
  of_behind_by false possible = refl

of_last_by : (asked : Option ℕ) (pieces : List Piece) → printed_of pieces ≡ [] → printed_of (if_none asked pieces) ≡ []
of_last_by None pieces none = none
of_last_by (Some place) pieces none = refl

of_last : (ladder : Ladder) (possible : List ℕ) → printed_of (last_pieces ladder possible) ≡ []
of_last ladder possible = of_last_by ladder.asked _ (of_possible ladder.numbering possible [])

-- ---- all rows

rows : (ladder : Ladder) (possible : List ℕ) (earlier entries later : List Entry) (pieces : List Piece) → AreRowsBetween ladder possible earlier entries later pieces
    → printed_of pieces ≡ []
rows ladder possible earlier [] later pieces is = ap (λ (ps : List Piece). printed_of ps) is
rows ladder possible earlier (entry ∷ entries) later pieces (row, rest, (opens, known, (own, its, with)), more, whole) =
    ap (λ (ps : List Piece). printed_of ps) whole
    ∙ both row rest
    (ap (λ (ps : List Piece). printed_of ps) with
    ∙ both own (behind_pieces ladder possible (length earlier)) (one_row ladder opens _ _ _ entry _ _ own its)
    (of_behind_by ladder.numbering (is_marked ladder.asked (length earlier)) possible))
    (rows ladder possible (earlier ++ entry ∷ []) entries later rest more)

pub not_printed : RowsAreNotPrinted
not_printed ladder possible entries later pieces = (
  λ are. rows ladder possible [] entries later pieces are,
  λ all. ap (λ (ps : List Piece). printed_of ps) all.2
      ∙ both all.0 (last_pieces ladder possible) (rows ladder possible [] entries [] all.0 all.1) (of_last ladder possible),
)
