-- Why the next record is impossible, or what may follow if there is none: the lines after the one
-- of that record.
use Rattle.std.specs.Prelude.{◌≡◌, ◌≤◌, ◌⊎◌, ◌++◌, ℕ, List, [], ◌∷◌, Option, None, Some, length}
use Rattle.std.specs.Prelude.{IsTrue, is_some}
use Rattle.bgp_prefix.specs.Shown.{ShownRecord, Received, Sent, Changed}
use Rattle.bgp_prefix.specs.declared.session.Session.{Session}
use Rattle.bgp_wire.specs.Framing.{IsFaulty, IsFrame}
use Rattle.bgp_open.specs.declared.config.Config.{Config}
use Rattle.bgp_open.specs.declared.link.Link.{Link}
use Rattle.bgp_open.specs.declared.route_form.RouteForm.{RouteForm}
use Rattle.bgp_open.specs.RouteForm.{plain_form}
use Rattle.bgp_machine.specs.declared.fsm.Fsm.{Fsm}
use Rattle.bgp_machine.specs.Heard.{received_limit}
use Rattle.bgp_reason.specs.declared.kinds.Possible.{Possible}
use Rattle.bgp_reason.specs.declared.told.Told.{Told}
use Rattle.bgp_why.specs.declared.asked.Asked.{Asked}
use Rattle.bgp_why.specs.declared.notes.Notes.{Notes}
use Rattle.bgp_why.specs.declared.place.Place.{Place}
use Rattle.bgp_why.specs.declared.state.SentAlready.{SentAlready}
use Rattle.bgp_why.specs.declared.style.Style.{Style}
use Rattle.bgp_why.specs.declared.whole.NotWhole.{NotWhole}
use Rattle.bgp_why.specs.Asked.{Asks, last_received_line}
use Rattle.bgp_why.specs.Message.{IsNamed}
use Rattle.bgp_why.specs.NoteLines.{note_lines}
use Rattle.bgp_why.specs.Notes.{AreEndNotes, AreNotes, judged_without}
use Rattle.bgp_why.specs.NotWhole.{IsWhyNotSent, not_whole_line}
use Rattle.bgp_why.specs.Possible.{other_lines, possible_lines}
use Rattle.bgp_why.specs.State.{already_line, another_as_line, state_line}
use Rattle.bgp_explain.specs.declared.left_out.LeftOut.{LeftOut}
use Rattle.bgp_explain.specs.declared.moments.Moments.{Moments}
use Rattle.bgp_explain.specs.declared.moments.SentNotification.{SentNotification}
use Rattle.bgp_explain.specs.declared.why.Received.{Received as LastReceived}
use Rattle.bgp_explain.specs.declared.why.Why.{Why}
use Rattle.bgp_explain.specs.Details.{AreLacksOf, IsAskedBy}
use Rattle.bgp_explain.specs.Lacked.{Lacked, following_lines}
use Rattle.bgp_explain.specs.Moments.{IsSentAs}
use Rattle.bgp_explain.specs.Places.{named_place}
use Rattle.bgp_explain.specs.SentLine.{IsSentLine}
use Rattle.bgp_explain.specs.Updates.{Asking, update_line}

-- ---- the message that was received last

-- how its routes are spelled, if this link is settled
abbrev pub received_form : Option Link → RouteForm
received_form None = plain_form
received_form (Some link) = link.received

-- octets that are a frame, or begin with a faulty header: such are those of each record
abbrev pub IsCaptured : Config → List ℕ → Type 0
IsCaptured config octets =
    IsFrame (received_limit config) octets ⊎ IsFaulty (received_limit config) octets

-- how the octets are called, and what they ask for in the state that is told
pub record AreAskedBy (config : Config) (link : Option Link) (told : Told) (octets : List ℕ)
    (asked : Asked) : Type 0 where
  pub state : asked.state ≡ told.state
  pub name : IsCaptured config octets
      → IsNamed (received_form link) (received_limit config) octets asked.name
  pub message : 19 ≤ length octets → Asks config octets asked.message

-- it stands there, if one was received since Idle was told
abbrev pub IsReceivedBy : Config → Option Link → Told → List ℕ → Option Place
    → Option LastReceived → Type 0
IsReceivedBy config link told octets None None = Unit {0}
IsReceivedBy config link told octets None (Some received) = ⊥
IsReceivedBy config link told octets (Some place) None = ⊥
IsReceivedBy config link told octets (Some place) (Some received) =
    (received.place ≡ place) × AreAskedBy config link told octets received.asked

-- its line: of an UPDATE in Established it has all that may become of it
abbrev pub received_line : Style → Option LastReceived → Option Asking → List ℕ
received_line style None asking = []
received_line style (Some received) None =
    last_received_line style received.place received.asked
received_line style (Some received) (Some asking) =
    update_line style received.place received.asked.name asking

-- ---- the records before

-- each message that was received is so
abbrev pub AreCaptured : Config → List ShownRecord → Type 0
AreCaptured config [] = Unit {0}
AreCaptured config (Received second octets ∷ records) =
    IsCaptured config octets × AreCaptured config records
AreCaptured config (Sent second octets ∷ records) = AreCaptured config records
AreCaptured config (Changed second old new ∷ records) = AreCaptured config records

-- the last one is, where one is told
abbrev pub IsHeard : Config → Told → List ℕ → Type 0
IsHeard config told octets = IsTrue (is_some told.last_received) → IsCaptured config octets

-- ---- the next record

-- why it isn't a whole message, where it was sent
abbrev pub IsUnwholeOf : Option Link → Option (ℕ × ShownRecord) → Option NotWhole → Type 0
IsUnwholeOf link None unwhole = unwhole ≡ None
IsUnwholeOf link (Some next) unwhole = IsWhyNotSent link next.1 unwhole

-- a NOTIFICATION that was sent, and where it stands
abbrev pub already_at : (ℕ → ℕ → Place) → SentNotification → SentAlready
already_at places sent = record {
  place = places sent.number sent.second;
  code = sent.code;
  subcode = sent.subcode;
}

-- the record is a whole NOTIFICATION that was sent on the link
abbrev pub ShowsSent : Option Link → ShownRecord → Type 0
ShowsSent link shown = (sent : SentNotification) × IsSentAs link shown sent

-- The last NOTIFICATION that was sent before, if there is one and the next record is another that
-- was sent.
abbrev pub IsAlreadyBy : (ℕ → ℕ → Place) → Option Link → ShownRecord → SentNotification
    → Option SentAlready → Type 0
IsAlreadyBy places link shown last None = ¬ ShowsSent link shown
IsAlreadyBy places link shown last (Some already) =
    ShowsSent link shown × (already ≡ already_at places last)

abbrev pub IsAlready : (ℕ → ℕ → Place) → Option Link → Option SentNotification
    → Option (ℕ × ShownRecord) → Option SentAlready → Type 0
IsAlready places link last None already = already ≡ None
IsAlready places link None (Some next) already = already ≡ None
IsAlready places link (Some last) (Some next) already =
    IsAlreadyBy places link next.1 last already

-- the notes by what the records tell, and by the next one, which is impossible, if there is one
abbrev pub AreNotesOn : Config → Told → Option Link → List ℕ → Possible
    → Option (ℕ × ShownRecord) → Notes → Type 0
AreNotesOn config told link octets possible None notes =
    AreEndNotes config told octets possible notes
AreNotesOn config told link octets possible (Some next) notes =
    AreNotes config told link octets possible next.0 next.1 notes

-- these, with the one that this is judged without what both OPENs offer
abbrev pub AreNotesOf : Config → Told → Option Link → LeftOut → List ℕ → Possible
    → Option (ℕ × ShownRecord) → Notes → Type 0
AreNotesOf config told link left_out octets possible next notes =
    (others : Notes) × AreNotesOn config told link octets possible next others
    × (notes ≡ judged_without left_out.without others)

-- what may stand in the next record's place, and what the record lacks of it, with what could have
-- been sent there in other orders; or what may follow
abbrev pub may_come : Style → Option (ℕ × ShownRecord) → Possible → Lacked → List ℕ
may_come style None possible lacked = possible_lines style possible
may_come style (Some next) possible lacked =
    following_lines style possible lacked
    ++ other_lines style.first possible style.other_orders

-- ---- all of it

-- What records tell, whose seconds are these, and of the next one, which is impossible, if there is
-- one. The records stand at these places.
pub record AreWhy (config : Config) (places : ℕ → ℕ → Place) (told : Told) (moments : Moments)
    (link : Option Link) (left_out : LeftOut) (octets : List ℕ) (possible : Possible)
    (next : Option (ℕ × ShownRecord)) (why : Why) : Type 0 where
  pub since : why.since ≡ named_place places told.told_by moments.told_by
  pub received : IsReceivedBy config link told octets
      (named_place places told.last_received moments.last_received) why.received
  pub unwhole : IsUnwholeOf link next why.unwhole
  pub already : IsAlready places link moments.notification next why.already
  pub notes : AreNotesOf config told link left_out octets possible next why.notes

-- the AS number of the peer that the configuration doesn't have, if it has any other
abbrev pub another_line : Option ℕ → List ℕ
another_line None = []
another_line (Some number) = another_as_line number

-- whether the next record is whole; what the records tell; the message received last; what may
-- follow, and what the next record lacks of it; what was sent already; and the notes
abbrev pub why_text : Style → Option ℕ → Fsm → Option (ℕ × ShownRecord) → Possible → Why
    → Option Asking → Lacked → List ℕ
why_text style another state next possible why asking lacked =
    not_whole_line why.unwhole ++ (another_line another
    ++ (state_line style.first state why.since ++ (received_line style why.received asking
    ++ (may_come style next possible lacked ++ (already_line style.first why.already
    ++ note_lines style.is_recording why.notes)))))

-- In this style. The records stand at these places, and the next one is given with its count among
-- them, and its line is that of a capture of the session.
pub record IsWhy (config : Config) (style : Style) (session : Session) (another : Option ℕ)
    (places : ℕ → ℕ → Place) (told : Told) (moments : Moments) (link : Option Link)
    (left_out : LeftOut) (octets : List ℕ) (possible : Possible)
    (next : Option (ℕ × ShownRecord)) (text : List ℕ) : Type 0 where
  pub sent : List ℕ
  pub why : Why
  pub asking : Option Asking
  pub lacked : Lacked
  pub is_sent : IsSentLine config session link next sent
  pub are_why : AreWhy config places told moments link left_out octets possible next why
  pub is_asked : IsAskedBy config told link octets asking
  pub are_lacks : AreLacksOf config link possible next lacked
  pub whole : text
      ≡ sent ++ why_text style another told.state next possible why asking lacked

-- the same of what is said of the records that takes no memory, wherever they stand
pub record IsWhyWith (config : Config) (style : Style) (session : Session) (another : Option ℕ)
    (told : Told) (link : Option Link) (octets : List ℕ) (possible : Possible)
    (next : Option (ℕ × ShownRecord)) (why : Why) (text : List ℕ) : Type 0 where
  pub sent : List ℕ
  pub asking : Option Asking
  pub lacked : Lacked
  pub is_sent : IsSentLine config session link next sent
  pub is_asked : IsAskedBy config told link octets asking
  pub are_lacks : AreLacksOf config link possible next lacked
  pub whole : text
      ≡ sent ++ why_text style another told.state next possible why asking lacked
