-- A ladder: a row a record.
use Rattle.std.specs.Prelude.{◌≡◌, ◌<◌, ◌++◌, ◌+◌, ◌-◌, ◌*◌, ◌/◌, ◌%◌, ◌==◌, ℕ, List, [], ◌∷◌}
use Rattle.std.specs.Prelude.{Option, None, Some, codes, get_or, if◌then◌else◌, length, nat_lt}
use Rattle.std.specs.Prelude.{reverse}
use Rattle.std.specs.List.{last_or}
use Rattle.std.specs.Fmt.{decimal}
use Rattle.bgp_prefix.specs.Shown.{ShownRecord, Received as In, Sent as Out, Changed}
use Rattle.mrt.specs.Reader.{shown_of}
use Rattle.mrt.specs.declared.sink.Sink as sinks
use Rattle.bgp_text.specs.Lines.{Writes}
use Rattle.bgp_text.specs.declared.lines.Lines.{Lines}
use Rattle.bgp_html.specs.Pieces.{Markup, Piece, Words, html_of, printed_of}
use Rattle.bgp_html.specs.declared.tag.Column.{Column}
use Rattle.bgp_html.specs.declared.tag.Mark.{Mark}
use Rattle.bgp_html.specs.declared.tag.Mark.TheVariants as marks
use Rattle.bgp_html.specs.declared.tag.Tag.TheVariants as tags
use Rattle.bgp_html.specs.declared.tag.What.{What}
use Rattle.bgp_html.specs.declared.tag.What.TheVariants as whats
use Rattle.bgp_lines.specs.Form.{Before, before_behind, nothing_before}
use Rattle.bgp_recording.specs.declared.entry.Entry.{Entry}
use Rattle.bgp_values.specs.Opens.{AreOpens}
use Rattle.bgp_values.specs.declared.opens.Opens.{Opens}
use Rattle.bgp_ladder.specs.Deed.{IsDeedBy}
use Rattle.bgp_ladder.specs.Numbering.{blank_cells, counted_heads, first_number, last_number}
use Rattle.bgp_ladder.specs.Numbering.{number_cells}
use Rattle.bgp_ladder.specs.Possible.{behind_pieces, last_pieces}
use Rattle.bgp_ladder.specs.Runs.{part_of, run_before, run_behind, type_of}
use Rattle.bgp_ladder.specs.declared.numbering.Numbering.{Numbering}
use Rattle.bgp_ladder.specs.declared.rows.Ladder.{Ladder}
use Rattle.bgp_ladder.specs.declared.runs.Part.{Part}
use Rattle.bgp_ladder.specs.declared.runs.Part.TheVariants as parts

-- ---- the head

abbrev pub end_heads : List ℕ → List ℕ → List Piece
end_heads left right =
    Words left ∷ Markup tags.Head ∷ Markup tags.Head ∷ Words right ∷ Markup tags.HeadEnd ∷ []

abbrev pub head_pieces : Column → Numbering → List ℕ → List ℕ → List ℕ → List Piece
head_pieces column numbering caption left right =
    Markup (tags.Ladder column) ∷ Words caption ∷ Markup tags.CaptionEnd
    ∷ (counted_heads numbering ++ end_heads left right)

-- ---- a row

-- the last six digits of microseconds
abbrev pub fraction_words : ℕ → List ℕ
fraction_words micros =
    46 ∷ (48 + micros / 100000 % 10) ∷ (48 + micros / 10000 % 10) ∷ (48 + micros / 1000 % 10)
    ∷ (48 + micros / 100 % 10) ∷ (48 + micros / 10 % 10) ∷ (48 + micros % 10) ∷ []

abbrev pub micros_words : ℕ → List ℕ
micros_words micros = decimal (micros / 1000000) ++ (fraction_words micros ++ codes " s")

abbrev pub seconds_words : ℕ → List ℕ
seconds_words seconds = decimal seconds ++ codes " s"

-- how far the second moment is from the first, which can be behind it: a clock may be set back
abbrev pub with_sign : (ℕ → List ℕ) → ℕ → ℕ → List ℕ
with_sign words from to =
    if nat_lt to from then codes "-" ++ words (from - to) else codes "+" ++ words (to - from)

-- a moment in microseconds: a second, and a fraction of it
abbrev pub moment : ℕ → ℕ → ℕ
moment second micro = second * 1000000 + micro

abbrev pub between_words : ℕ → Option ℕ → ℕ → Option ℕ → List ℕ
between_words first None second to = with_sign seconds_words first second
between_words first (Some from) second None = with_sign seconds_words first second
between_words first (Some from) second (Some to) =
    with_sign micros_words (moment first from) (moment second to)

-- how far its packet is from the connection's first, in seconds, with `-` if its time is before
-- that one's: with their fraction, if the recording has it of both
abbrev pub elapsed_words : Ladder → Entry → List ℕ
elapsed_words ladder entry = between_words ladder.first ladder.micro entry.second entry.micro

-- its time, behind an entry or as the first: empty if it has the packet of that
abbrev pub time_behind : Ladder → Entry → Entry → List ℕ
time_behind ladder previous entry =
    if entry.packet == previous.packet then [] else elapsed_words ladder entry

abbrev pub time_after : Ladder → Option Entry → Entry → List ℕ
time_after ladder None entry = elapsed_words ladder entry
time_after ladder (Some previous) entry = time_behind ladder previous entry

-- the greatest packet of these entries and of this one
abbrev pub greatest_in : ℕ → List Entry → ℕ
greatest_in packet [] = packet
greatest_in packet (entry ∷ entries) =
    if nat_lt packet entry.packet then greatest_in entry.packet entries
    else greatest_in packet entries

-- if its packet came before the greatest one so far, its time says so
abbrev pub time_words : Ladder → ℕ → Option Entry → Entry → List ℕ
time_words ladder greatest previous entry =
    if nat_lt entry.packet greatest then elapsed_words ladder entry ++ codes ", came before"
    else time_after ladder previous entry

abbrev pub what_of : Column → ShownRecord → What
what_of column (In second octets) = whats.Received column
what_of column (Out second octets) = whats.Sent column
what_of column (Changed second old new) = whats.Changed

-- the record with this number, from 0 on, where a no stands at that one
abbrev pub mark_at : Option ℕ → ℕ → Mark
mark_at None number = marks.Plain
mark_at (Some place) number =
    if number == place then marks.No else
    if nat_lt place number then marks.Behind else
    marks.Plain

-- what it shows, with the end of the row
abbrev pub message_pieces : List ℕ → List Piece
message_pieces text = Markup tags.Message ∷ Words text ∷ Markup tags.MessageEnd ∷ []

abbrev pub change_pieces : Column → List ℕ → List Piece
change_pieces column text =
    Markup (tags.Change column) ∷ Words text ∷ Markup (tags.ChangeEnd column) ∷ []

abbrev pub deed_pieces : Column → ShownRecord → List ℕ → List Piece
deed_pieces column (In second octets) text = message_pieces text
deed_pieces column (Out second octets) text = message_pieces text
deed_pieces column (Changed second old new) text = change_pieces column text

-- what stands before that
abbrev pub front_pieces : Ladder → ℕ → Option Entry → ℕ → Entry → List Piece
front_pieces ladder greatest previous number entry =
    Markup (tags.Row (what_of ladder.column (shown_of entry.record))
    (mark_at ladder.impossible number))
    ∷ Words (time_words ladder greatest previous entry)
    ∷ number_cells ladder.numbering number entry

abbrev pub row_pieces : Ladder → ℕ → Option Entry → ℕ → Entry → List ℕ → List Piece
row_pieces ladder greatest previous number entry text =
    front_pieces ladder greatest previous number entry
    ++ deed_pieces ladder.column (shown_of entry.record) text

-- ---- a row that sums up some

abbrev pub type_words : ℕ → List ℕ
type_words number =
    if number == 1 then codes "OPEN" else
    if number == 2 then codes "UPDATE" else
    if number == 3 then codes "NOTIFICATION" else
    if number == 4 then codes "KEEPALIVE" else
    if number == 5 then codes "ROUTE-REFRESH" else
    codes "message"

abbrev pub kind_words : ℕ → List ℕ → List Piece
kind_words number way = Words (type_words number) ∷ Words way ∷ []

abbrev pub kind_pieces : ShownRecord → List Piece
kind_pieces (In second octets) = kind_words (type_of octets) (codes " received")
kind_pieces (Out second octets) = kind_words (type_of octets) (codes " sent")
kind_pieces (Changed second old new) = []

-- so many records more, from one with this number on
abbrev pub count_pieces : ℕ → ShownRecord → List Piece
count_pieces count shown = Words (decimal count) ∷ Words (codes " more ") ∷ kind_pieces shown

abbrev pub number_words : ℕ → ℕ → List Piece
number_words first last =
    Words (codes ", records ") ∷ Words (decimal first) ∷ Words (codes " to ")
    ∷ Words (decimal last) ∷ Markup tags.MessageEnd ∷ []

-- so many records from this one, whose number counts from 0 on, to that one
abbrev pub sum_pieces : Ladder → ℕ → ℕ → Entry → Entry → List Piece
sum_pieces ladder number count entry last =
    Markup (tags.Row whats.Run (mark_at ladder.impossible number))
    ∷ (blank_cells ladder.numbering ++ (Markup tags.Message
    ∷ (count_pieces count (shown_of entry.record)
    ++ number_words (first_number ladder.numbering number entry)
    (last_number ladder.numbering number count last))))

-- ---- the rows

-- the messages that came before an entry, each way
abbrev pub before_in : Before → List Entry → Before
before_in before [] = before
before_in before (entry ∷ entries) =
    before_in (before_behind (shown_of entry.record) before) entries

-- What stands for an entry, by how it does in the ladder, where these were the last OPENs: the
-- entry before it, the greatest packet so far, its number, and the last one that its row would sum
-- up with it are given.
module _ (ladder : Ladder) (opens : Opens) (greatest : ℕ) (previous : Option Entry) (number : ℕ)
    (entry last : Entry) where
  -- a row of its own, behind that of another entry or of none
  abbrev pub IsOwnRow : Option Entry → List Piece → Type 0
  IsOwnRow shown row =
      (text : List ℕ) × IsDeedBy ladder.framings opens (shown_of entry.record) text
      × (row ≡ row_pieces ladder greatest shown number entry text)

  abbrev pub IsRowOf : Part → List Piece → Type 0
  IsRowOf parts.Own row = IsOwnRow previous row
  IsRowOf parts.Last row = IsOwnRow None row
  IsRowOf (parts.Sum count) row = row ≡ sum_pieces ladder number count entry last
  IsRowOf parts.Summed row = row ≡ []

-- If the lines of this text are about its record, what could have come in its place stands behind
-- it.
abbrev pub IsEntryOf : Ladder → List ℕ → Opens → ℕ → Option Entry → ℕ → Entry → Entry → Part
    → List Piece → Type 0
IsEntryOf ladder possible opens greatest previous number entry last part row =
    (own : List Piece) × IsRowOf ladder opens greatest previous number entry last part own
    × (row ≡ own ++ behind_pieces ladder possible number)

-- the numbers of the entries that one sums up are no greater than a machine's
abbrev pub LastWithin : ℕ → ℕ → Part → Type 0
LastWithin most number parts.Own = Unit {0}
LastWithin most number parts.Last = Unit {0}
LastWithin most number (parts.Sum count) = number + count < most
LastWithin most number parts.Summed = Unit {0}

-- the part of an entry behind these and before those
abbrev pub part_in : Ladder → List Entry → Entry → List Entry → Part
part_in ladder earlier entry later =
    part_of (run_before ladder (shown_of entry.record) (reverse earlier))
    (run_behind ladder (length earlier) (shown_of entry.record) later)

-- the last but one of its run, if there are two: the last one that a row of its middle sums up
abbrev pub summed_last : Ladder → List Entry → Entry → List Entry → Entry
summed_last ladder earlier entry later =
    get_or (entry ∷ later)
    (run_behind ladder (length earlier) (shown_of entry.record) later - 1) entry

-- what stands for it
abbrev pub IsRow : Ladder → List ℕ → List Entry → Entry → List Entry → List Piece → Type 0
IsRow ladder possible earlier entry later row =
    (opens : Opens)
    × AreOpens (before_in nothing_before earlier).received (before_in nothing_before earlier).sent
    opens
    × IsEntryOf ladder possible opens (greatest_in 0 earlier) (last_or None earlier)
    (length earlier) entry (summed_last ladder earlier entry later)
    (part_in ladder earlier entry later) row

-- the rows of entries behind these and before those, one after another
abbrev pub AreRowsBetween : Ladder → List ℕ → List Entry → List Entry → List Entry → List Piece
    → Type 0
AreRowsBetween ladder possible earlier [] later pieces = pieces ≡ []
AreRowsBetween ladder possible earlier (entry ∷ entries) later pieces =
    (row rest : List Piece) × IsRow ladder possible earlier entry (entries ++ later) row
    × AreRowsBetween ladder possible (earlier ++ entry ∷ []) entries later rest
    × (pieces ≡ row ++ rest)

-- those of the first entries, with others behind them
abbrev pub AreRowsBefore : Ladder → List ℕ → List Entry → List Entry → List Piece → Type 0
AreRowsBefore ladder possible entries later pieces =
    AreRowsBetween ladder possible [] entries later pieces

-- they were put
abbrev pub PutsRowsBefore : {W : Type 0} {sink : sinks.Ghosts W} → Ladder → List ℕ → List Entry
    → List Entry → Lines W sink → Lines W sink → Type 0
PutsRowsBefore ladder possible entries later old new =
    (pieces : List Piece) × AreRowsBefore ladder possible entries later pieces
    × Writes old new (html_of pieces)

-- those of all of them; what could have come next stands behind them, if the lines are about none
-- of them
abbrev pub AreRows : Ladder → List ℕ → List Entry → List Piece → Type 0
AreRows ladder possible entries pieces =
    (rows : List Piece) × AreRowsBefore ladder possible entries [] rows
    × (pieces ≡ rows ++ last_pieces ladder possible)

abbrev pub PutsRows : {W : Type 0} {sink : sinks.Ghosts W} → Ladder → List ℕ → List Entry
    → Lines W sink → Lines W sink → Type 0
PutsRows ladder possible entries old new =
    (pieces : List Piece) × AreRows ladder possible entries pieces × Writes old new (html_of pieces)

-- those of the first of them were put, as many as there are
abbrev pub PutsSome : {W : Type 0} {sink : sinks.Ghosts W} → Ladder → List ℕ → List Entry
    → Lines W sink → Lines W sink → Type 0
PutsSome ladder possible entries old new =
    (front behind : List Entry) × (entries ≡ front ++ behind)
    × PutsRowsBefore ladder possible front behind old new

-- ---- what holds of rows

-- none of them is a line that is printed as text
abbrev pub RowsAreNotPrinted : Type 0
RowsAreNotPrinted =
    (ladder : Ladder) (possible : List ℕ) (entries later : List Entry) (pieces : List Piece)
    → (AreRowsBefore ladder possible entries later pieces → printed_of pieces ≡ [])
    × (AreRows ladder possible entries pieces → printed_of pieces ≡ [])
