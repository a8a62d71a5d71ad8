-- What the laws say of the lines of a verdict and its reason: each is one whose object determines
-- its text, and whose texts are visible.
use Rattle.std.specs.Prelude.{◌++◌, ℕ, Bool, List, Option, All}
use Rattle.bgp_prefix.specs.Shown.{ShownRecord}
use Rattle.bgp_prefix.specs.declared.address.Address.{Address}
use Rattle.bgp_prefix.specs.declared.session.Session.{Session}
use Rattle.bgp_wire.specs.Octets.{AreOctets}
use Rattle.bgp_wire.specs.declared.header.Limit.{Limit}
use Rattle.bgp_open.specs.declared.route_form.RouteForm.{RouteForm}
use Rattle.bgp_path.specs.Fit.{IsFit}
use Rattle.bgp_path.specs.Path.{PathValue}
use Rattle.bgp_machine.specs.Run.{End}
use Rattle.bgp_machine.specs.declared.fsm.Fsm.{Fsm}
use Rattle.bgp_parts.specs.UpdateParts.{Part}
use Rattle.bgp_reason.specs.declared.kinds.Possible as reason
use Rattle.bgp_update.specs.declared.destination.Destination.{Destination}
use Rattle.bgp_update.specs.declared.subcodes.Subcodes.{Subcodes}
use Rattle.bgp_values.specs.ErrorData.{ErrorFields}
use Rattle.bgp_values.specs.declared.opens.Reading.{Reading}
use Rattle.bgp_lines.specs.Form.{IsNamedMessage}
use Rattle.bgp_lines.specs.Notifications.{error_data_text}
use Rattle.bgp_why_parts.specs.Cut.{cut}
use Rattle.bgp_why_parts.specs.declared.own_faults.OwnFaults.{OwnFaults}
use Rattle.bgp_why.specs.Applying.{update_asks}
use Rattle.bgp_why.specs.Asked.{asked_text}
use Rattle.bgp_why.specs.Deed.{IsDeed, cause_text}
use Rattle.bgp_why.specs.Lacks.{but_text}
use Rattle.bgp_why.specs.Message.{name_text}
use Rattle.bgp_why.specs.declared.applying.Applying.{Applying}
use Rattle.bgp_why.specs.declared.asked.Received.{Received}
use Rattle.bgp_why.specs.declared.endpoint.Endpoint.{Endpoint}
use Rattle.bgp_why.specs.declared.items.Item.{Item}
use Rattle.bgp_why.specs.declared.lacks.Lacks.{Lacks}
use Rattle.bgp_why.specs.declared.message.MessageName.{MessageName}
use Rattle.bgp_why.specs.declared.note_lines.Note.{Note}
use Rattle.bgp_why.specs.declared.place.Place.{Place}
use Rattle.bgp_json_verdicts.specs.At.{at_of}
use Rattle.bgp_json_verdicts.specs.Lines.{LastReceived, Reasons, TheData, TheMessage}
use Rattle.bgp_json_verdicts.specs.Lines.{TheRecord, end_lines, item_values, note_values}
use Rattle.bgp_json_verdicts.specs.Lines.{other_item_values}
use Rattle.bgp_verdict_laws.specs.Laws.{IsPlace}
use Rattle.bgp_verdict_laws.specs.Marks.{HasOutcome}
use Rattle.bgp_why_laws.specs.Octets.{AreLacks, HasOctets, IsItem, IsOctetIfAny}
use Rattle.bgp_why_laws.specs.Visible.{IsPutLine}

-- the impossible record
abbrev pub RecordsAreLines : {X : Type 0} → Lacks X → Type 0
RecordsAreLines lacks =
    (session : Session) (peer : Endpoint) (form : RouteForm) (shown : ShownRecord)
    (place : Place) (local : Address) (deed : List ℕ) (faults : Option OwnFaults)
    (p : reason.Possible) → IsPlace place → IsDeed session peer form shown deed
    → IsOctetIfAny p.header_errors.kind → AreLacks lacks
    → IsPutLine (Reasons (TheRecord place local (deed ++ cause_text faults p lacks)))

-- its message, and its data
abbrev pub MessagesAreLines : Type 0
MessagesAreLines =
    (reading : Reading) (limit : Limit) (octets text : List ℕ) → AreOctets octets
    → IsNamedMessage reading limit octets text → IsPutLine (Reasons (TheMessage (cut text)))

abbrev pub DataAreLines : Type 0
DataAreLines =
    (error : ErrorFields) → AreOctets error.detail
    → IsPutLine (Reasons (TheData (cut (error_data_text error))))

-- the message that was received last
abbrev pub ReceivedAreLines : Type 0
ReceivedAreLines =
    (first : ℕ) (place : Place) (name : MessageName) (is_free : Bool) (state : Fsm)
    (message : Received) → IsPlace place
    → IsPutLine (Reasons (LastReceived (at_of first place) (name_text name)
    (asked_text is_free state message)))

-- and if it is an UPDATE in Established
abbrev pub UpdatesAreLines : Type 0
UpdatesAreLines =
    (first : ℕ) (place : Place) (name : MessageName) (applied : Option Applying)
    (refused : Subcodes) (parts : List Part) → IsPlace place → All HasOctets parts
    → HasOutcome applied refused
    → IsPutLine (Reasons (LastReceived (at_of first place) (name_text name)
    (update_asks applied refused parts)))

-- what may come, and what may come in other orders
abbrev pub ItemsAreLines : {X : Type 0} → Lacks X → Type 0
ItemsAreLines lacks =
    (is_owed is_next is_first : Bool) (first : ℕ) (faults : Option OwnFaults)
    (items : List Item) → All IsItem items → AreLacks lacks
    → All IsPutLine (item_values is_owed is_next is_first first (but_text faults lacks) items)

abbrev pub OthersAreLines : Type 0
OthersAreLines =
    (first : ℕ) (items : List Item) → All IsItem items
    → All IsPutLine (other_item_values first items)

abbrev pub NotesAreLines : Type 0
NotesAreLines = (notes : List (Option Note)) → All IsPutLine (note_values notes)

-- an end with its routes, each with a path that fits a message: so is each `Path`
abbrev pub EndsAreLines : Type 0
EndsAreLines =
    (e : End) → All (λ (route : Destination × PathValue). IsFit route.1) e.routes.entries
    → All IsPutLine (end_lines e)
