-- The first line of a no: what was done, and what is wrong with it.
use Rattle.std.specs.Prelude.{◌≡◌, ◌++◌, ℕ, Bool, true, false, List, [], ◌∷◌, Option, None, Some}
use Rattle.std.specs.Prelude.{if◌then◌else◌, codes}
use Rattle.bgp_prefix.specs.Shown.{ShownRecord, Received, Sent, Changed}
use Rattle.bgp_prefix.specs.Text.{address_text}
use Rattle.bgp_prefix.specs.declared.address.Address.{Address}
use Rattle.bgp_prefix.specs.declared.session.Session.{Session}
use Rattle.bgp_wire.specs.Header.{limit_with}
use Rattle.bgp_open.specs.declared.link.Link.{Link}
use Rattle.bgp_open.specs.declared.route_form.RouteForm.{RouteForm}
use Rattle.bgp_open.specs.RouteForm.{plain_form}
use Rattle.bgp_why_parts.specs.NamesStates.{state_name}
use Rattle.bgp_why_parts.specs.DeclaredPossible.{Possible}
use Rattle.bgp_why_parts.specs.declared.own_faults.OwnFaults.{OwnFaults}
use Rattle.bgp_why.specs.declared.endpoint.Endpoint.{Endpoint}
use Rattle.bgp_why.specs.declared.items.Item.{Item}
use Rattle.bgp_why.specs.declared.items.Item.TheVariants as items
use Rattle.bgp_why.specs.declared.lacks.Lacks.{Lacks}
use Rattle.bgp_why.specs.declared.message.MessageName.{MessageName}
use Rattle.bgp_why.specs.declared.place.Place.{Place}
use Rattle.bgp_why.specs.Endpoint.{endpoint_text}
use Rattle.bgp_why.specs.Items.{all_items, due_text, those_possible}
use Rattle.bgp_why.specs.Lacks.{is_resembled, lacks_text}
use Rattle.bgp_why.specs.Message.{IsNamed, name_text}
use Rattle.bgp_why.specs.Place.{record_text}

-- How the routes of a record are spelled, if this link is settled: in the form of the record's
-- direction, since octets alone don't show whether prefixes have path identifiers (RFC 7911, 5)
abbrev pub form_on : Option Link → ShownRecord → RouteForm
form_on None shown = plain_form
form_on (Some link) (Received second octets) = link.received
form_on (Some link) (Sent second octets) = link.sent
form_on (Some link) (Changed second old new) = plain_form

-- a message was received from the peer, or sent to it
unfoldable pub received_deed : Endpoint → MessageName → List ℕ
received_deed peer name =
    codes "received " ++ (name_text name ++ (codes " from " ++ endpoint_text peer))

unfoldable pub sent_deed : Endpoint → MessageName → List ℕ
sent_deed peer name = codes "sent " ++ (name_text name ++ (codes " to " ++ endpoint_text peer))

-- the state changed
unfoldable pub changed_deed : ℕ → ℕ → List ℕ
changed_deed old new = codes "went from " ++ (state_name old ++ (codes " to " ++ state_name new))

-- What a record of the session with this peer shows was done, where routes are spelled in this
-- form. A message is named by the limit of the session, so that a longer one is a fault.
abbrev pub IsDeed : Session → Endpoint → RouteForm → ShownRecord → List ℕ → Type 0
IsDeed session peer form (Received second octets) text =
    (name : MessageName) × IsNamed form (limit_with session.extended) octets name
    × (text ≡ received_deed peer name)
IsDeed session peer form (Sent second octets) text =
    (name : MessageName) × IsNamed form (limit_with session.extended) octets name
    × (text ≡ sent_deed peer name)
IsDeed session peer form (Changed second old new) text = text ≡ changed_deed old new

-- the peer of a session, whose port isn't known
abbrev pub peer_of : Session → Endpoint
peer_of session = record { address = session.peer; port = None }

-- ---- what is wrong with it

-- a message is to be sent
abbrev pub is_message : Item → Bool
is_message items.ReceivedMessage = false
is_message (items.Change from to) = false
is_message item = true

abbrev pub messages_in : List Item → List Item
messages_in [] = []
messages_in (item ∷ items) =
    if is_message item then item ∷ messages_in items else messages_in items

-- the one message of a list, if there is just one
abbrev pub only : List Item → Option Item
only [] = None
only (item ∷ []) = Some item
only (item ∷ another ∷ items) = None

-- a message is due before the record, or something is
abbrev pub due_first : Option Item → List ℕ
due_first None = codes " before it did what was due"
due_first (Some item) = codes ", but " ++ (due_text item ++ codes " was due first")

-- the message that is due, if there is just one
abbrev pub message_due : Possible → Option Item
message_due p = only (messages_in (those_possible (all_items p)))

-- what the record lacks of what may come here, if it resembles something
abbrev pub resembled_text : {X : Type 0} → Option OwnFaults → Possible → Lacks X → List ℕ
resembled_text faults p lacks =
    if is_resembled p lacks then lacks_text (codes ": ") (codes ": ") faults lacks else []

abbrev pub not_allowed : {X : Type 0} → Option OwnFaults → Possible → Lacks X → List ℕ
not_allowed faults p lacks = codes ", not allowed here" ++ resembled_text faults p lacks

-- a message could be received here, and so nothing is due; or something is due first
abbrev pub cause_text : {X : Type 0} → Option OwnFaults → Possible → Lacks X → List ℕ
cause_text faults p lacks =
    if p.message then not_allowed faults p lacks else due_first (message_due p)

-- the record's place and time, whose it is, what was done, and what is wrong with it
unfoldable pub record_line : Place → Address → List ℕ → List ℕ → List ℕ
record_line place local deed cause =
    codes "  " ++ (record_text place ++ (address_text local ++ (codes " "
    ++ (deed ++ (cause ++ codes "\n")))))
