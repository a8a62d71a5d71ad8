-- The forms of the lines of messages, and the line of a message in each: it may depend on the
-- messages that came before.
use Rattle.std.specs.Prelude.{◌≡◌, ◌⊎◌, ◌++◌, ℕ, Bool, List, [], ◌∷◌, Option, None, Some}
use Rattle.std.specs.Prelude.{codes, length}
use Rattle.std.specs.Fmt.{decimal}
use Rattle.bgp_prefix.specs.Shown.{ShownRecord, Received as In, Sent as Out, Changed}
use Rattle.bgp_prefix.specs.declared.session.Session.{Session}
use Rattle.bgp_wire.specs.Framing.{IsFrame, IsFaulty}
use Rattle.bgp_wire.specs.Header.{header_of, limit_with}
use Rattle.bgp_wire.specs.Verdict.{AreFaults}
use Rattle.bgp_wire.specs.declared.header.HeaderFaults.{HeaderFaults}
use Rattle.bgp_wire.specs.declared.header.Limit.{Limit}
use Rattle.bgp_open.specs.RouteForm.{plain_form}
use Rattle.bgp_text.specs.Capture.{IsRecordLine}
use Rattle.bgp_text.specs.Message.{Message, Says}
use Rattle.bgp_text.specs.Text.{fault_line, line_of, rest_line}
use Rattle.bgp_values.specs.Opens.{AreOpens, reading_by, received_with, sent_with}
use Rattle.bgp_values.specs.declared.opens.Direction.{Direction}
use Rattle.bgp_values.specs.declared.opens.Direction.TheVariants.{Received, Sent}
use Rattle.bgp_values.specs.declared.opens.Opens.{Opens}
use Rattle.bgp_values.specs.declared.opens.Reading.{Reading}
use Rattle.bgp_lines.specs.MessageLine.{named_text}
use Rattle.bgp_lines.specs.Others.{named_change, named_fault, named_rest}
use Rattle.bgp_lines.specs.Others.{named_stream_fault}
use Rattle.bgp_lines.specs.declared.form.LineForm.{LineForm}
use Rattle.bgp_lines.specs.declared.form.LineForm.TheVariants.{Plain, Names}

-- the messages that came before, each way
pub record Before : Type 0 where
  pub received : List (List ℕ)
  pub sent : List (List ℕ)

abbrev pub nothing_before : Before
nothing_before = record { received = []; sent = [] }

-- and one more, which went this way
abbrev pub before_with : Direction → List ℕ → Before → Before
before_with direction octets before = record {
  received = received_with direction octets before.received;
  sent = sent_with direction octets before.sent;
}

-- how a message is read that goes this way, by the last OPEN each way before it
abbrev pub IsReadingAt : Before → Bool → Direction → Reading → Type 0
IsReadingAt before as2 direction reading =
    (opens : Opens) × AreOpens before.received before.sent opens
    × (reading ≡ reading_by as2 direction opens)

-- the text of a frame in words, where it is read so: of what it says
abbrev pub IsNamedFrame : Reading → List ℕ → List ℕ → Type 0
IsNamedFrame reading frame text =
    (message : Message) × Says reading.form frame message
    × (text ≡ named_text reading frame message)

-- the line of a frame of a stream
abbrev pub IsFrameLine : LineForm → Before → Direction → List ℕ → List ℕ → Type 0
IsFrameLine Plain before direction frame line =
    (message : Message) × Says plain_form frame message × (line ≡ line_of message)
IsFrameLine (Names as2) before direction frame line =
    (reading : Reading) × IsReadingAt before as2 direction reading
    × ((text : List ℕ) × IsNamedFrame reading frame text × (line ≡ text ++ codes "\n"))

-- the line of what a stream has behind its last frame
abbrev pub rest_line_in : LineForm → List ℕ → List ℕ
rest_line_in Plain rest = rest_line (length rest)
rest_line_in (Names as2) rest = named_rest rest ++ codes "\n"

-- the line of a header with faults, which stands at this offset
abbrev pub fault_line_in : LineForm → ℕ → HeaderFaults → List ℕ → List ℕ
fault_line_in Plain offset faults header = fault_line offset faults
fault_line_in (Names as2) offset faults header =
    named_stream_fault offset faults header ++ codes "\n"

-- ---- records of a capture or a recording

-- The text of a message's octets in words, where it may be so long: of what they say, or of a
-- header with faults.
abbrev pub IsNamedMessage : Reading → Limit → List ℕ → List ℕ → Type 0
IsNamedMessage reading limit octets text =
    (IsFrame limit octets × IsNamedFrame reading octets text)
    ⊎ (IsFaulty limit octets
    × ((faults : HeaderFaults) × AreFaults limit (header_of octets) faults
    × (text ≡ named_fault faults octets)))

-- the number of a packet, if there is one
abbrev pub packet_text : Option ℕ → List ℕ
packet_text None = []
packet_text (Some packet) = codes " packet " ++ decimal packet

-- a text behind its second, its packet and a word
unfoldable pub placed_text : ℕ → Option ℕ → List ℕ → List ℕ → List ℕ
placed_text second packet word text =
    codes "@" ++ (decimal second ++ (packet_text packet ++ (word ++ text)))

-- a record, and the packet that shows it, if that is known
pub record PlacedRecord : Type 0 where
  pub packet : Option ℕ
  pub shown : ShownRecord

-- the text of a message of the session in words
abbrev pub IsNamedMessageOf : Session → Before → Bool → Direction → List ℕ → List ℕ → Type 0
IsNamedMessageOf session before as2 direction octets text =
    (reading : Reading) × IsReadingAt before as2 direction reading
    × IsNamedMessage reading (limit_with session.extended) octets text

abbrev pub IsNamedRecord : Session → Before → Bool → Option ℕ → ShownRecord → List ℕ → Type 0
IsNamedRecord session before as2 packet (In second octets) text =
    (told : List ℕ) × IsNamedMessageOf session before as2 Received octets told
    × (text ≡ placed_text second packet (codes " received ") told)
IsNamedRecord session before as2 packet (Out second octets) text =
    (told : List ℕ) × IsNamedMessageOf session before as2 Sent octets told
    × (text ≡ placed_text second packet (codes " sent ") told)
IsNamedRecord session before as2 packet (Changed second old new) text =
    text ≡ placed_text second packet (codes " ") (named_change old new)

-- the line of a record of the session
abbrev pub IsPlacedLine : LineForm → Session → Before → PlacedRecord → List ℕ → Type 0
IsPlacedLine Plain session before placed line = IsRecordLine session placed.shown line
IsPlacedLine (Names as2) session before placed line =
    (text : List ℕ) × IsNamedRecord session before as2 placed.packet placed.shown text
    × (line ≡ text ++ codes "\n")

-- what came before the next record
abbrev pub before_behind : ShownRecord → Before → Before
before_behind (In second octets) before = before_with Received octets before
before_behind (Out second octets) before = before_with Sent octets before
before_behind (Changed second old new) before = before

-- the lines of records, one after another
abbrev pub ArePlacedLines : LineForm → Session → Before → List PlacedRecord → List ℕ → Type 0
ArePlacedLines form session before [] text = text ≡ []
ArePlacedLines form session before (placed ∷ records) text =
    (line rest : List ℕ) × IsPlacedLine form session before placed line
    × ArePlacedLines form session (before_behind placed.shown before) records rest
    × (text ≡ line ++ rest)
