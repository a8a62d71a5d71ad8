-- What stands after the text of a report: the records of each end that is judged.
use Rattle.std.specs.Prelude.{◌≡◌, ◌⊎◌, ◌==◌, ◌+◌, ◌-◌, ◌++◌, ◌&&◌, ◌||◌, ℕ, Bool, true, false, List, [], ◌∷◌}
use Rattle.std.specs.Prelude.{Option, None, Some, codes, if◌then◌else◌, reverse}
use Rattle.std.specs.Fmt.{decimal}
use Rattle.std.specs.List.{list_any}
use Rattle.mrt.specs.Reader.{shown_of}
use Rattle.mrt.specs.declared.sink.Sink as sinks
use Rattle.packets.specs.Packet.{Recorded}
use Rattle.segments.specs.declared.found.Addresses.{Addresses}
use Rattle.segments.specs.declared.found.Endpoint.{Endpoint}
use Rattle.streams.specs.Choice.{IsAnswered}
use Rattle.streams.specs.Connections.{numbered}
use Rattle.streams.specs.Passed.{Segment}
use Rattle.streams.specs.declared.connection.Connection.{Connection}
use Rattle.streams.specs.declared.connection.Opening.{Opening}
use Rattle.streams.specs.declared.passed.Side.{Side}
use Rattle.streams.specs.declared.passed.Side.TheVariants.{Local, Peer}
use Rattle.bgp_prefix.specs.Shown.{ShownRecord, Received as In, Sent as Out, Changed}
use Rattle.bgp_prefix.specs.declared.session.Session.{Session}
use Rattle.bgp_recording.specs.declared.entry.Entry.{Entry}
use Rattle.bgp_recording.specs.declared.framing.Framings.{Framings}
use Rattle.bgp_recording.specs.declared.framing.Unshown.{Unshown}
use Rattle.bgp_import.specs.ListText.{end_of, other_side}
use Rattle.bgp_import.specs.Pairs.{AreOrdered, selection_of}
use Rattle.bgp_import.specs.Selecting.{AreTaken}
use Rattle.bgp_text.specs.Lines.{Writes}
use Rattle.bgp_text.specs.declared.lines.Lines.{Lines}
use Rattle.bgp_why.specs.Endpoint.{endpoint_text}
use Rattle.bgp_html.specs.Noted.{possible_of}
use Rattle.bgp_html.specs.Pieces.{Markup, Piece, Words, html_of, printed_of}
use Rattle.bgp_html.specs.declared.tag.Column.{Column}
use Rattle.bgp_html.specs.declared.tag.Column.TheVariants.{Left, Right}
use Rattle.bgp_html.specs.declared.tag.Tag.{Tag}
use Rattle.bgp_html.specs.declared.tag.Tag.TheVariants as tags
use Rattle.bgp_ladder.specs.Ladder.{AreRows, AreRowsBefore, head_pieces}
use Rattle.bgp_ladder.specs.declared.numbering.Numbering.{Numbering}
use Rattle.bgp_ladder.specs.declared.numbering.Numbering.TheVariants.{Packets}
use Rattle.bgp_ladder.specs.declared.rows.Ladder.{Ladder}
use Rattle.bgp_check_tool.specs.Made.{IsMade}
use Rattle.bgp_check_tool.specs.Seen.{seen_from}
use Rattle.bgp_check_tool.specs.declared.another.Order.{Order}
use Rattle.bgp_check_tool.specs.declared.another.Order.TheVariants as orders
use Rattle.bgp_check_tool.specs.declared.marks.BothMarks.{BothMarks}
use Rattle.bgp_check_tool.specs.declared.marks.EndMark.{EndMark}
use Rattle.bgp_check_tool.specs.declared.marks.NoAt.{NoAt}
use Rattle.bgp_check_tool.specs.declared.marks.NoAt.TheVariants as noes

-- ---- words

-- an end of a connection
abbrev pub end_words : Endpoint → List ℕ
end_words end = endpoint_text (record { address = end.address; port = Some end.port })

abbrev pub side_words : Session → Opening → Side → List ℕ
side_words session opening side = end_words (end_of side session opening)

-- which records these are: the connection by its number and its ends, and one of them
abbrev pub summary_words : Session → Opening → Side → List ℕ
summary_words session opening side =
    codes "connection " ++ (decimal opening.number
    ++ (codes ", " ++ (side_words session opening opening.opened_by
    ++ (codes " to " ++ (side_words session opening (other_side opening.opened_by)
    ++ (codes ": records of " ++ side_words session opening side))))))

-- in which order they stand
abbrev pub order_words : Order → List ℕ
order_words orders.Made = codes "in the order of bgp import"
order_words orders.Another = codes "in the order of bgp import; the yes is about another order"
order_words orders.All = codes "in the order of bgp import; the answer is about all orders"

-- ---- where a no stands among records

abbrev pub is_out : ShownRecord → Bool
is_out (In second octets) = false
is_out (Out second octets) = true
is_out (Changed second old new) = false

-- the place, counted on from this one, of the message behind so many that were sent
abbrev pub sent_at : ℕ → ℕ → List Entry → Option ℕ
sent_at place before [] = None
sent_at place before (entry ∷ entries) =
    if is_out (shown_of entry.record)
    then (if before == 0 then Some place else sent_at (place + 1) (before - 1) entries)
    else sent_at (place + 1) before entries

abbrev pub place_in : NoAt → List Entry → Option ℕ
place_in noes.Nowhere entries = None
place_in (noes.Record count) entries = Some count
place_in (noes.Message before) entries = sent_at 0 before entries

-- ---- what could have come

-- how many answers stand before an end's own, and before that of the next one
abbrev pub behind_end : ℕ → Option EndMark → ℕ
behind_end count None = count
behind_end count (Some mark) = count + 1

abbrev pub behind_both : ℕ → BothMarks → ℕ
behind_both count both = behind_end (behind_end count both.opener) both.other

-- the line that stands for those that memory was refused for
abbrev pub refused_line : List ℕ
refused_line = codes "There was no memory for what could have come.\n"

-- These lines say what could have come, or had to, where an answer of a text stands: those of the
-- text, of the answer behind so many.
abbrev pub IsPossible : List ℕ → ℕ → List ℕ → Type 0
IsPossible text count possible =
    (possible ≡ possible_of text (count + 1)) ⊎ (possible ≡ refused_line)

-- ---- a ladder

-- the end that opened the connection is the left one
abbrev pub column_of : Side → Side → Column
column_of Local Local = Left
column_of Local Peer = Right
column_of Peer Local = Right
column_of Peer Peer = Left

abbrev pub ladder_of : Connection → Framings → Opening → Side → EndMark → List Entry → Ladder
ladder_of connection framings opening side mark entries = record {
  column = column_of opening.opened_by side;
  first = connection.second;
  micro = connection.micro;
  framings = framings;
  numbering = Packets;
  impossible = place_in mark.no entries;
  asked = mark.asked;
}

-- it is open, or is opened when somebody asks for it
abbrev pub details_of : Bool → Tag
details_of true = tags.DetailsOpen
details_of false = tags.Details

abbrev pub start_by : Bool → Column → Numbering → List ℕ → List ℕ → List ℕ → List ℕ → List Piece
start_by is_open column numbering order summary left right =
    Markup (details_of is_open) ∷ Words summary ∷ Markup tags.SummaryEnd
    ∷ head_pieces column numbering order left right

abbrev pub start_pieces : Session → Opening → Side → Bool → Order → List Piece
start_pieces session opening side is_open order =
    start_by is_open (column_of opening.opened_by side) Packets (order_words order)
    (summary_words session opening side)
    (side_words session opening opening.opened_by)
    (side_words session opening (other_side opening.opened_by))

-- behind the rows it is said if memory was refused for some
abbrev pub end_pieces : Bool → List Piece
end_pieces true = Markup tags.LadderEnd ∷ Markup tags.DetailsEnd ∷ []
end_pieces false =
    Markup tags.LadderEnd ∷ Words (codes "There was no memory for the rows after these.")
    ∷ Markup tags.DetailsEnd ∷ []

-- these are the rows of all of them, or of the first
abbrev pub AreItsRows : Ladder → List ℕ → List Entry → Bool → List Piece → Type 0
AreItsRows ladder possible entries true rows = AreRows ladder possible entries rows
AreItsRows ladder possible entries false rows =
    (front behind : List Entry) × (entries ≡ front ++ behind)
    × AreRowsBefore ladder possible front behind rows

-- what was put of a ladder with these words: all rows, or the first
abbrev pub PutsLadder : {W : Type 0} {sink : sinks.Ghosts W} → Ladder → List ℕ → List Entry
    → List Piece → Lines W sink → Lines W sink → Type 0
PutsLadder ladder possible entries start old new =
    (is_whole : Bool) × (rows : List Piece) × AreItsRows ladder possible entries is_whole rows
    × Writes old new (html_of (start ++ (rows ++ end_pieces is_whole)))

-- The records that the end on this side of a connection has, in the made order, as a ladder; with
-- what could have come.
pub record IsLadder (within : ℕ) (connection : Connection) (session : Session) (opening : Opening)
    (side : Side) (is_open : Bool) (mark : EndMark) (possible : List ℕ) (pieces : List Piece)
    : Type 0 where
  pub entries : List Entry
  pub framings : Framings
  pub received : Unshown
  pub sent : Unshown
  pub made : IsMade within (seen_from side connection) framings entries received sent
  pub is_whole : Bool
  pub rows : List Piece
  pub are_rows : AreItsRows (ladder_of connection framings opening side mark entries) possible
      entries is_whole rows
  pub is : pieces
      ≡ start_pieces session opening side is_open mark.order ++ (rows ++ end_pieces is_whole)

-- Packets have this connection of a session, of which the lesser address is the local one.
abbrev pub addresses_of : Session → Addresses
addresses_of session = record { from = session.local; to = session.peer }

pub record IsHeard (port : ℕ) (packets : List Recorded) (session : Session) (number : ℕ)
    (connection : Connection) : Type 0 where
  pub segments : List Segment
  pub ordered : AreOrdered (addresses_of session)
  pub taken : AreTaken (selection_of (addresses_of session) port) 0 packets segments
  pub chosen : IsAnswered (Some number) 0 (numbered (reverse segments)) connection

-- what stands there if memory was refused before its first row
abbrev pub lacking_pieces : List Piece
lacking_pieces =
    Markup tags.Details ∷ Words (codes "records of an end") ∷ Markup tags.SummaryEnd
    ∷ Words (codes "There was no memory for these records.") ∷ Markup tags.DetailsEnd ∷ []

abbrev pub IsLadderOrLacking : ℕ → Connection → BothMarks → Side → Bool → EndMark → List ℕ
    → List Piece → Type 0
IsLadderOrLacking within connection both side is_open mark possible pieces =
    IsLadder within connection both.session both.opening side is_open mark possible pieces
    ⊎ (pieces ≡ lacking_pieces)

-- all of them, with what stands before and behind them
abbrev pub section_pieces : List Piece → List Piece
section_pieces ladders = Markup tags.Ladders ∷ (ladders ++ Markup tags.SectionEnd ∷ [])

-- ---- both ends of a connection

abbrev pub is_no : NoAt → Bool
is_no noes.Nowhere = false
is_no (noes.Record count) = true
is_no (noes.Message before) = true

abbrev pub has_no : Option EndMark → Bool
has_no None = false
has_no (Some mark) = is_no mark.no

abbrev pub is_judged : Option EndMark → Bool
is_judged None = false
is_judged (Some mark) = true

-- those of each end with a no are open, and if there is none, those of the first end
abbrev pub opener_is_open : BothMarks → Bool
opener_is_open both =
    if has_no both.other then has_no both.opener else true

abbrev pub other_is_open : BothMarks → Bool
other_is_open both =
    if is_judged both.opener then has_no both.other else true

abbrev pub some_judged : BothMarks → Bool
some_judged both = is_judged both.opener || is_judged both.other

-- what stands there if memory was refused for all
abbrev pub missing_pieces : List Piece
missing_pieces =
    Markup tags.Ladders ∷ Words (codes "There was no memory for the records.")
    ∷ Markup tags.SectionEnd ∷ []

module _ (port within : ℕ) (packets : List Recorded) (text : List ℕ) where
  abbrev pub IsJudgedEnd : BothMarks → Side → Bool → ℕ → EndMark → List Piece → Type 0
  IsJudgedEnd both side is_open count mark pieces =
      ((connection : Connection) × (possible : List ℕ)
      × IsHeard port packets both.session both.opening.number connection
      × IsPossible text count possible
      × IsLadder within connection both.session both.opening side is_open mark possible pieces)
      ⊎ (pieces ≡ lacking_pieces)

  -- so many answers stand before its own
  abbrev pub IsOfEnd : BothMarks → Side → Bool → ℕ → Option EndMark → List Piece → Type 0
  IsOfEnd both side is_open count None pieces = pieces ≡ []
  IsOfEnd both side is_open count (Some mark) pieces =
      IsJudgedEnd both side is_open count mark pieces

  abbrev pub AreOfBoth : ℕ → BothMarks → List Piece → Type 0
  AreOfBoth count both pieces =
      (opener other : List Piece)
      × IsOfEnd both both.opening.opened_by (opener_is_open both) count both.opener opener
      × IsOfEnd both (other_side both.opening.opened_by) (other_is_open both)
      (behind_end count both.opener) both.other other
      × (pieces ≡ opener ++ other)

  -- of each of these connections
  abbrev pub AreLadders : ℕ → List BothMarks → List Piece → Type 0
  AreLadders count [] pieces = pieces ≡ []
  AreLadders count (both ∷ marks) pieces =
      (one rest : List Piece) × AreOfBoth count both one
      × AreLadders (behind_both count both) marks rest × (pieces ≡ one ++ rest)

  -- ---- after the text

  -- the ladders of all ends that are judged; nothing if there are none; or that memory was refused
  abbrev pub AreBehind : List BothMarks → List Piece → Type 0
  AreBehind marks behind =
      ((list_any some_judged marks ≡ false) × (behind ≡ []))
      ⊎ (behind ≡ missing_pieces)
      ⊎ ((list_any some_judged marks ≡ true) × (ladders : List Piece)
      × AreLadders 0 marks ladders × (behind ≡ section_pieces ladders))

  -- they were put, and nothing that is printed as text
  abbrev pub PutsBehind : {W : Type 0} {sink : sinks.Ghosts W} → List BothMarks → Lines W sink
      → Lines W sink → Type 0
  PutsBehind marks old new =
      (behind : List Piece) × AreBehind marks behind × (printed_of behind ≡ [])
      × Writes old new (html_of behind)
