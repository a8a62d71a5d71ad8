-- What the laws say of the texts in the lines of a reason: they are UTF-8, and have no control
-- character.
use Rattle.std.specs.Prelude.{ℕ, Bool, List, Option, All}
use Rattle.bgp_prefix.specs.Shown.{ShownRecord}
use Rattle.bgp_prefix.specs.declared.session.Session.{Session}
use Rattle.bgp_wire.specs.Octets.{AreOctets}
use Rattle.bgp_wire.specs.declared.header.Limit.{Limit}
use Rattle.bgp_open.specs.declared.route_form.RouteForm.{RouteForm}
use Rattle.bgp_machine.specs.declared.fsm.Fsm.{Fsm}
use Rattle.bgp_parts.specs.UpdateParts.{Part}
use Rattle.bgp_reason.specs.declared.kinds.Possible.{Possible}
use Rattle.bgp_update.specs.declared.subcodes.Subcodes.{Subcodes}
use Rattle.bgp_values.specs.ErrorData.{ErrorFields}
use Rattle.bgp_values.specs.declared.opens.Reading.{Reading}
use Rattle.bgp_lines.specs.Form.{IsNamedMessage}
use Rattle.bgp_lines.specs.Notifications.{error_data_text}
use Rattle.bgp_why_parts.specs.Cut.{cut}
use Rattle.bgp_why_parts.specs.declared.own_faults.OwnFaults.{OwnFaults}
use Rattle.bgp_why.specs.Applying.{update_asks}
use Rattle.bgp_why.specs.Asked.{asked_text}
use Rattle.bgp_why.specs.Deed.{IsDeed, cause_text}
use Rattle.bgp_why.specs.Items.{item_text}
use Rattle.bgp_why.specs.Lacks.{but_text}
use Rattle.bgp_why.specs.Message.{name_text}
use Rattle.bgp_why.specs.NoteLines.{note_text}
use Rattle.bgp_why.specs.declared.applying.Applying.{Applying}
use Rattle.bgp_why.specs.declared.asked.Received.{Received}
use Rattle.bgp_why.specs.declared.endpoint.Endpoint.{Endpoint}
use Rattle.bgp_why.specs.declared.items.Item.{Item}
use Rattle.bgp_why.specs.declared.lacks.Lacks.{Lacks}
use Rattle.bgp_why.specs.declared.message.MessageName.{MessageName}
use Rattle.bgp_why.specs.declared.note_lines.Note.{Note}
use Rattle.bgp_visible_laws.specs.Visible.{IsVisible}
use Rattle.bgp_why_laws.specs.Octets.{AreLacks, HasOctets, IsItem, IsOctetIfAny}

-- the front of a message's line in words, and that of what the data of a NOTIFICATION say: no
-- character is cut
abbrev pub CutsAreVisible : Type 0
CutsAreVisible =
    (reading : Reading) (limit : Limit) (octets text : List ℕ) → AreOctets octets
    → IsNamedMessage reading limit octets text → IsVisible (cut text)

abbrev pub DataAreVisible : Type 0
DataAreVisible =
    (error : ErrorFields) → AreOctets error.detail → IsVisible (cut (error_data_text error))

-- how a message is called, and what it asks for
abbrev pub NamesAreVisible : Type 0
NamesAreVisible = (name : MessageName) → IsVisible (name_text name)

abbrev pub AsksAreVisible : Type 0
AsksAreVisible =
    (is_free : Bool) (state : Fsm) (message : Received)
    → IsVisible (asked_text is_free state message)

abbrev pub UpdateAsksAreVisible : Type 0
UpdateAsksAreVisible =
    (applied : Option Applying) (refused : Subcodes) (parts : List Part) → All HasOctets parts
    → IsVisible (update_asks applied refused parts)

-- what may come, and what a record lacks of it
abbrev pub ItemsAreVisible : Type 0
ItemsAreVisible = (first : ℕ) (item : Item) → IsItem item → IsVisible (item_text first item)

abbrev pub LacksAreVisible : {X : Type 0} → Lacks X → Type 0
LacksAreVisible lacks =
    (faults : Option OwnFaults) (item : Item) → AreLacks lacks
    → IsVisible (but_text faults lacks item)

abbrev pub NotesAreVisible : Type 0
NotesAreVisible = (note : Note) → IsVisible (note_text note)

-- what was done, and what is wrong with it
abbrev pub DeedsAreVisible : Type 0
DeedsAreVisible =
    (session : Session) (peer : Endpoint) (form : RouteForm) (shown : ShownRecord)
    (text : List ℕ) → IsDeed session peer form shown text → IsVisible text

abbrev pub CausesAreVisible : {X : Type 0} → Lacks X → Type 0
CausesAreVisible lacks =
    (faults : Option OwnFaults) (p : Possible) → IsOctetIfAny p.header_errors.kind
    → AreLacks lacks → IsVisible (cause_text faults p lacks)
