-- What stands after the text of a report on an MRT file: the records of each stretch that is
-- judged.
use Rattle.std.specs.Prelude.{◌≡◌, ◌⊎◌, ◌<◌, ◌+◌, ◌++◌, ◌==◌, ℕ, Bool, List, [], ◌∷◌, codes}
use Rattle.std.specs.Prelude.{if◌then◌else◌, is_some, length, map}
use Rattle.std.specs.List.{list_any}
use Rattle.mrt.specs.Reader.{shown_of}
use Rattle.mrt.specs.declared.sink.Sink as sinks
use Rattle.bgp_prefix.specs.Shown.{ShownRecord, second_of}
use Rattle.bgp_prefix.specs.Text.{address_text}
use Rattle.bgp_recording.specs.declared.entry.Entry.{Entry}
use Rattle.bgp_recording.specs.declared.framing.Framings.{Framings}
use Rattle.bgp_text.specs.Lines.{Writes}
use Rattle.bgp_text.specs.declared.lines.Lines.{Lines}
use Rattle.bgp_html.specs.Pieces.{Markup, Piece, Words, html_of, printed_of}
use Rattle.bgp_html.specs.declared.tag.Column.TheVariants.{Right}
use Rattle.bgp_html.specs.declared.tag.Tag.TheVariants as tags
use Rattle.bgp_ladder.specs.declared.numbering.Numbering.TheVariants.{Session}
use Rattle.bgp_ladder.specs.declared.rows.Ladder.{Ladder}
use Rattle.bgp_check_text.specs.End.{end_text}
use Rattle.bgp_check_tool.specs.Made.{AreOffered}
use Rattle.bgp_check_capture_tool.specs.Marks.{MarkValue, NumberedRecord}
use Rattle.bgp_report.specs.Ladders.{AreItsRows, IsPossible, end_pieces, start_by}

-- ---- words

-- which records these are: the session by its ends, and the local system as its answer names it
abbrev pub stretch_words : MarkValue → List ℕ
stretch_words mark =
    codes "session " ++ (address_text mark.addresses.local
    ++ (codes " with peer " ++ (address_text mark.addresses.peer
    ++ (codes ": records of " ++ end_text mark.name))))

-- ---- a ladder

-- the number of an entry in its session, and the fraction of its second
abbrev pub numbered_by : Entry → NumberedRecord
numbered_by entry = record { number = entry.packet; micro = entry.micro }

-- These entries have these records, with these numbers in their session and their own seconds.
pub record AreEntries (records : List ShownRecord) (numbers : List NumberedRecord)
    (entries : List Entry) : Type 0 where
  pub shown : map (λ (e : Entry). shown_of e.record) entries ≡ records
  pub numbered : map numbered_by entries ≡ numbers
  pub seconds : map (λ (e : Entry). e.second) entries ≡ map second_of records

-- the local system is the right end
abbrev pub stretch_ladder : MarkValue → Framings → Ladder
stretch_ladder mark framings = record {
  column = Right;
  first = mark.first;
  micro = mark.micro;
  framings = framings;
  numbering = Session;
  impossible = mark.no;
  asked = mark.no;
}

abbrev pub stretch_start : Bool → MarkValue → List Piece
stretch_start is_open mark =
    start_by is_open Right Session (codes "in the order of the file") (stretch_words mark)
    (address_text mark.addresses.peer) (address_text mark.addresses.local)

-- The records of a stretch as a ladder, with what could have come.
pub record IsStretch (is_open : Bool) (mark : MarkValue) (possible : List ℕ) (pieces : List Piece)
    : Type 0 where
  pub entries : List Entry
  pub framings : Framings
  pub are_entries : AreEntries mark.records mark.numbers entries
  pub are_offered : AreOffered mark.records framings
  pub is_whole : Bool
  pub rows : List Piece
  pub are_rows : AreItsRows (stretch_ladder mark framings) possible entries is_whole rows
  pub is : pieces ≡ stretch_start is_open mark ++ (rows ++ end_pieces is_whole)

-- what stands there if memory was refused before its first row
abbrev pub lost_pieces : List Piece
lost_pieces =
    Markup tags.Details ∷ Words (codes "records of a stretch") ∷ Markup tags.SummaryEnd
    ∷ Words (codes "There was no memory for these records.") ∷ Markup tags.DetailsEnd ∷ []

abbrev pub IsStretchOrLost : Bool → MarkValue → List ℕ → List Piece → Type 0
IsStretchOrLost is_open mark possible pieces =
    IsStretch is_open mark possible pieces ⊎ (pieces ≡ lost_pieces)

-- with what could have come by a text's answer behind so many
abbrev pub IsJudged : List ℕ → Bool → ℕ → MarkValue → List Piece → Type 0
IsJudged text is_open count mark pieces =
    ((possible : List ℕ) × IsPossible text count possible
    × IsStretch is_open mark possible pieces)
    ⊎ (pieces ≡ lost_pieces)

-- ---- which are open

abbrev pub has_no : MarkValue → Bool
has_no mark = is_some mark.no

-- of a file with these stretches the one with this number, from 0 on: each with a no is open; if
-- there is none, the first is
abbrev pub stretch_is_open : List MarkValue → ℕ → MarkValue → Bool
stretch_is_open marks number mark = if list_any has_no marks then has_no mark else number == 0

-- ---- one after another

module _ (text : List ℕ) (all : List MarkValue) where
  -- those of some of these, from the one with this number on: so many answers stand before it
  abbrev pub AreFrom : ℕ → List MarkValue → List Piece → Type 0
  AreFrom number [] pieces = pieces ≡ []
  AreFrom number (mark ∷ marks) pieces =
      (one rest : List Piece) × IsJudged text (stretch_is_open all number mark) number mark one
      × AreFrom (number + 1) marks rest × (pieces ≡ one ++ rest)

  -- those of all
  abbrev pub AreStretches : List Piece → Type 0
  AreStretches pieces = AreFrom 0 all pieces

-- ---- after the text

-- with what stands before and behind them
abbrev pub stretches_pieces : List Piece → List Piece
stretches_pieces ladders = Markup tags.Stretches ∷ (ladders ++ Markup tags.SectionEnd ∷ [])

-- what stands there if memory was refused for all
abbrev pub none_pieces : List Piece
none_pieces =
    Markup tags.Stretches ∷ Words (codes "There was no memory for the records.")
    ∷ Markup tags.SectionEnd ∷ []

-- the ladders of all stretches that are judged; nothing if there are none; or that memory was
-- refused
abbrev pub AreStretchesBehind : List ℕ → List MarkValue → List Piece → Type 0
AreStretchesBehind text marks behind =
    ((marks ≡ []) × (behind ≡ []))
    ⊎ (behind ≡ none_pieces)
    ⊎ ((0 < length marks) × (ladders : List Piece) × AreStretches text marks ladders
    × (behind ≡ stretches_pieces ladders))

-- they were put, and nothing that is printed as text
abbrev pub PutsStretches : {W : Type 0} {sink : sinks.Ghosts W} → List ℕ → List MarkValue
    → Lines W sink → Lines W sink → Type 0
PutsStretches text marks old new =
    (behind : List Piece) × AreStretchesBehind text marks behind × (printed_of behind ≡ [])
    × Writes old new (html_of behind)
