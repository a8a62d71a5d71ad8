-- The columns of a ladder by how its records are numbered.
use Rattle.std.specs.Prelude.{◌+◌, ℕ, List, [], ◌∷◌, codes}
use Rattle.std.specs.Fmt.{decimal}
use Rattle.bgp_html.specs.Pieces.{Markup, Piece, Words}
use Rattle.bgp_html.specs.declared.tag.Tag.TheVariants as tags
use Rattle.bgp_recording.specs.declared.entry.Entry.{Entry}
use Rattle.bgp_ladder.specs.declared.numbering.Numbering.{Numbering}
use Rattle.bgp_ladder.specs.declared.numbering.Numbering.TheVariants as numberings

-- the names of the first columns
abbrev pub counted_heads : Numbering → List Piece
counted_heads numberings.Packets =
    Words (codes "time") ∷ Markup tags.Head ∷ Words (codes "packet") ∷ Markup tags.Head
    ∷ Words (codes "record") ∷ Markup tags.Head ∷ []
counted_heads numberings.Session =
    Words (codes "time") ∷ Markup tags.Head ∷ Words (codes "record") ∷ Markup tags.Head ∷ []

-- the cells behind the time, in the row of an entry whose number in the list counts from 0 on: its
-- packet and its number, from 1 on; or the number that it has in its session
abbrev pub number_cells : Numbering → ℕ → Entry → List Piece
number_cells numberings.Packets number entry =
    Markup tags.Cell ∷ Words (decimal entry.packet) ∷ Markup tags.Cell
    ∷ Words (decimal (number + 1)) ∷ []
number_cells numberings.Session number entry =
    Markup tags.Cell ∷ Words (decimal entry.packet) ∷ []

-- the same cells, in a row that isn't that of one record
abbrev pub blank_cells : Numbering → List Piece
blank_cells numberings.Packets = Markup tags.Cell ∷ Markup tags.Cell ∷ []
blank_cells numberings.Session = Markup tags.Cell ∷ []

-- the number that this entry is shown with, and the one of the last of so many that begin there
abbrev pub first_number : Numbering → ℕ → Entry → ℕ
first_number numberings.Packets number entry = number + 1
first_number numberings.Session number entry = entry.packet

abbrev pub last_number : Numbering → ℕ → ℕ → Entry → ℕ
last_number numberings.Packets number count last = number + count
last_number numberings.Session number count last = last.packet
