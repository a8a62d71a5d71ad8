-- What may follow a session's records, item by item: an item a line, in one order.
use Rattle.std.specs.Prelude.{◌++◌, ◌||◌, ◌==◌, ℕ, Bool, List, [], ◌∷◌, Option, None, Some}
use Rattle.std.specs.Prelude.{if◌then◌else◌, is_some, codes}
use Rattle.std.specs.Bool.{then_some}
use Rattle.bgp_wire.specs.declared.header.HeaderFaults.{HeaderFaults}
use Rattle.bgp_open.specs.declared.subcodes.OpenSubcodes.{OpenSubcodes}
use Rattle.bgp_update.specs.declared.subcodes.Subcodes.{Subcodes}
use Rattle.bgp_machine.specs.declared.fsm.Fsm.TheVariants as states
use Rattle.bgp_machine.specs.State.{number_of}
use Rattle.bgp_why_parts.specs.FsmErrors.{FsmErrors}
use Rattle.bgp_why_parts.specs.DeclaredPossible.{Possible}
use Rattle.bgp_why.specs.declared.items.Item.{Item}
use Rattle.bgp_why.specs.declared.items.Item.TheVariants.{ReceivedMessage, SentOpen}
use Rattle.bgp_why.specs.declared.items.Item.TheVariants.{SentKeepalive, SentUpdate}
use Rattle.bgp_why.specs.declared.items.Item.TheVariants.{HeaderErrors, OpenErrors}
use Rattle.bgp_why.specs.declared.items.Item.TheVariants.{UpdateErrors, HoldTimerExpired}
use Rattle.bgp_why.specs.declared.items.Item.TheVariants.{SendHoldTimerExpired}
use Rattle.bgp_why.specs.declared.items.Item.TheVariants.{StateErrors, Cease, Change}
use Rattle.bgp_clock.specs.When.{short_text}
use Rattle.bgp_why_parts.specs.NamesStates.{state_name}
use Rattle.bgp_why_parts.specs.Codes.{code_text}
use Rattle.bgp_why.specs.Errors.{any_of, header_errors, open_errors, update_errors_text}
use Rattle.bgp_why.specs.Errors.{fsm_errors}

-- some subcode is in the set
abbrev pub has_header_error : HeaderFaults → Bool
has_header_error errors = errors.marker || is_some errors.length || is_some errors.kind

abbrev pub has_open_error : OpenSubcodes → Bool
has_open_error errors =
    errors.unspecific || errors.version || errors.peer_as || errors.identifier
    || errors.parameter || errors.hold || errors.capability || errors.role

abbrev pub has_update_error : Subcodes → Bool
has_update_error errors =
    errors.malformed_attribute_list || errors.unrecognized_well_known
    || errors.missing_well_known || errors.attribute_flags || errors.attribute_length
    || errors.invalid_origin || errors.as_routing_loop || errors.invalid_next_hop
    || errors.optional_attribute || errors.invalid_network_field || errors.malformed_as_path

abbrev pub has_fsm_error : FsmErrors → Bool
has_fsm_error errors =
    errors.unspecified || errors.open_sent || errors.open_confirm || errors.established

-- some message may be sent
abbrev pub has_sent : Possible → Bool
has_sent p =
    p.own_open || p.keepalive || p.update || has_header_error p.header_errors
    || has_open_error p.open_errors || has_update_error p.update_errors
    || is_some p.hold_timer_expired || p.send_hold_timer_expired || has_fsm_error p.fsm_errors
    || p.cease

-- Hold Timer Expired, from a second on
abbrev pub expiry_item : Option ℕ → Option Item
expiry_item None = None
expiry_item (Some from) = Some (HoldTimerExpired from)

-- those items of a list that are possible
abbrev pub those_possible : List (Option Item) → List Item
those_possible [] = []
those_possible (None ∷ items) = those_possible items
those_possible (Some item ∷ items) = item ∷ those_possible items

-- each item that there is, or none in its place: what is received; what is sent, messages by their
-- type and NOTIFICATIONs by their code; changes by the new state
abbrev pub all_items : Possible → List (Option Item)
all_items p =
    then_some p.message ReceivedMessage
    ∷ then_some p.own_open SentOpen
    ∷ then_some p.keepalive SentKeepalive
    ∷ then_some p.update SentUpdate
    ∷ then_some (has_header_error p.header_errors) (HeaderErrors p.header_errors)
    ∷ then_some (has_open_error p.open_errors) (OpenErrors p.open_errors)
    ∷ then_some (has_update_error p.update_errors) (UpdateErrors p.update_errors)
    ∷ expiry_item p.hold_timer_expired
    ∷ then_some p.send_hold_timer_expired SendHoldTimerExpired
    ∷ then_some (has_fsm_error p.fsm_errors) (StateErrors p.fsm_errors)
    ∷ then_some p.cease Cease
    ∷ then_some p.changes.idle (Change p.state states.Idle)
    ∷ then_some p.changes.connect (Change p.state states.Connect)
    ∷ then_some p.changes.active (Change p.state states.Active)
    ∷ then_some p.changes.open_sent (Change p.state states.OpenSent)
    ∷ then_some p.changes.open_confirm (Change p.state states.OpenConfirm)
    ∷ then_some p.changes.established (Change p.state states.Established)
    ∷ []

-- ---- the text

-- the message that is to be sent; of the others nothing
unfoldable pub due_text : Item → List ℕ
due_text ReceivedMessage = []
due_text SentOpen = codes "OPEN"
due_text SentKeepalive = codes "KEEPALIVE"
due_text SentUpdate = codes "UPDATE without fault"
due_text (HeaderErrors errors) = codes "NOTIFICATION " ++ any_of (header_errors errors)
due_text (OpenErrors errors) = codes "NOTIFICATION " ++ any_of (open_errors errors)
due_text (UpdateErrors errors) = codes "NOTIFICATION " ++ update_errors_text errors
due_text (HoldTimerExpired from) = codes "NOTIFICATION " ++ code_text 4 0
due_text SendHoldTimerExpired = codes "NOTIFICATION " ++ code_text 8 0
due_text (StateErrors errors) = codes "NOTIFICATION " ++ any_of (fsm_errors errors)
due_text Cease = codes "NOTIFICATION 6 (Cease)"
due_text (Change from to) = []

-- from a second on; where it is 0 it is due, at whichever second
abbrev pub from_text : ℕ → ℕ → List ℕ
from_text first from =
    if from == 0 then [] else codes " at " ++ (short_text first from None ++ codes " or later")

-- a state that is recorded once more, the end of the session, and another change
abbrev pub same_text : ℕ → List ℕ
same_text state = codes "the same state once more, " ++ state_name state

abbrev pub end_text : ℕ → List ℕ
end_text old = codes "the session ends, " ++ (state_name old ++ codes " to Idle [RFC 4271 8.2.2]")

abbrev pub other_text : ℕ → ℕ → List ℕ
other_text old new =
    codes "change of state, " ++ (state_name old ++ (codes " to " ++ (state_name new
    ++ codes " [RFC 4271 8.2.2]")))

abbrev pub change_text : ℕ → ℕ → List ℕ
change_text old new =
    if old == new then same_text old
    else (if new == 1 then end_text old else other_text old new)

-- what follows the message that is to be sent, where times of the day of this second have no date;
-- of the others the whole text
unfoldable pub way_text : ℕ → Item → List ℕ
way_text first ReceivedMessage = codes "any message received"
way_text first SentOpen = codes " sent [RFC 4271 4.2]"
way_text first SentKeepalive = codes " sent [RFC 4271 4.4]"
way_text first SentUpdate = codes " sent [RFC 4271 4.3]"
way_text first (HeaderErrors errors) = codes " sent [RFC 4271 6.1]"
way_text first (OpenErrors errors) = codes " sent [RFC 4271 6.2]"
way_text first (UpdateErrors errors) = codes " sent [RFC 4271 6.3]"
way_text first (HoldTimerExpired from) =
    codes " sent" ++ (from_text first from ++ codes " [RFC 4271 6.5]")
way_text first SendHoldTimerExpired = codes " sent [RFC 9687 4]"
way_text first (StateErrors errors) = codes " sent [RFC 4271 6.6]"
way_text first Cease = codes " sent, any subcode [RFC 4271 6.7]"
way_text first (Change from to) = change_text (number_of from) (number_of to)

-- an item
abbrev pub item_text : ℕ → Item → List ℕ
item_text first item = due_text item ++ way_text first item

-- the words before the next line
abbrev pub next_word : List ℕ → Option Item → List ℕ
next_word word None = word
next_word word (Some item) = codes "or: "

-- a message may be received just where nothing is due; an item stands in a record's place, or
-- after all records
abbrev pub first_word : Bool → Bool → List ℕ
first_word message is_next =
    if message
    then (if is_next then codes "could come next: " else codes "could come here: ")
    else (if is_next then codes "had to come next: " else codes "had to come here: ")
