-- The rules by which a received message waits in the made order: what the local system seems to
-- have read when it sent what it sent. They choose one of the orders that are allowed.
use Rattle.std.specs.Prelude.{◌+◌, ◌*◌, ◌==◌, ◌&&◌, ◌||◌, ℕ, Bool, true, false, List, [], ◌∷◌, min}
use Rattle.std.specs.Prelude.{Option, None, Some, nat_le, nat_lt, if◌then◌else◌}
use Rattle.std.specs.List.{slice_get}
use Rattle.bgp_wire.specs.declared.header.MessageType.{MessageType}
use Rattle.bgp_wire.specs.declared.header.MessageType.TheVariants as types
use Rattle.streams.specs.Connections.{last_index}
use Rattle.bgp_recording.specs.declared.pending.Place.{Place}
use Rattle.bgp_recording.specs.declared.state.State.{State}
use Rattle.bgp_recording.specs.declared.state.State.TheVariants.{Connect, Active}
use Rattle.bgp_recording.specs.declared.state.State.TheVariants.{OpenSent, OpenConfirm, Established}
use Rattle.bgp_recording.specs.declared.waiting.FirstNotification.{FirstNotification}
use Rattle.bgp_recording.specs.declared.waiting.Foresight.{Foresight}
use Rattle.bgp_recording.specs.declared.waiting.Waiting.{Waiting}
use Rattle.bgp_recording.specs.declared.waiting.Waiting.TheVariants as why
use Rattle.bgp_recording.specs.Changes.{answers_before_open, is_open}
use Rattle.bgp_recording.specs.Values.{MessageValue, code_of}

-- ---- messages and states

abbrev pub is_update : Option MessageType → Bool
is_update (Some types.Update) = true
is_update kind = false

abbrev pub is_keepalive : Option MessageType → Bool
is_keepalive (Some types.Keepalive) = true
is_keepalive kind = false

abbrev pub is_notification : Option MessageType → Bool
is_notification (Some types.Notification) = true
is_notification kind = false

-- this Error code, of a NOTIFICATION
abbrev pub is_code : ℕ → Option ℕ → Bool
is_code code None = false
is_code code (Some other) = other == code

-- before the own OPEN
abbrev pub is_before_open : State → Bool
is_before_open Connect = true
is_before_open Active = true
is_before_open state = false

-- both OPENs are agreed on
abbrev pub has_link : State → Bool
has_link OpenConfirm = true
has_link Established = true
has_link state = false

abbrev pub is_established : State → Bool
is_established Established = true
is_established state = false

-- ---- what all messages of a session show

-- an OPEN, or a NOTIFICATION by which the local system ends a connection that it doesn't want
-- (Cease; RFC 4271, 6.7)
abbrev pub is_open_or_cease : MessageValue → Bool
is_open_or_cease message = is_open message.kind || is_code 6 (code_of message)

-- the first NOTIFICATION, and how many messages stand before it
abbrev pub notification_at : ℕ → MessageValue → Option ℕ → Option FirstNotification
    → Option FirstNotification
notification_at place message None later = later
notification_at place message (Some code) later = Some record {
  place = place;
  code = code;
  packet = message.packet;
  second = message.second;
}

abbrev pub notification_from : ℕ → List MessageValue → Option FirstNotification
notification_from place [] = None
notification_from place (message ∷ later) =
    notification_at place message (code_of message) (notification_from (place + 1) later)

-- The messages that a NOTIFICATION of this code can be about: UPDATEs (RFC 4271, 6.3), or OPENs
-- (6.2, 6.6).
abbrev pub blames : ℕ → Option MessageType → Bool
blames code kind =
    if code == 3 then is_update kind
    else (if (code == 2) || (code == 5) then is_open kind else false)

-- such a message, which came before the NOTIFICATION was made
abbrev pub is_blamed : FirstNotification → MessageValue → Bool
is_blamed first message = nat_lt message.packet first.packet && blames first.code message.kind

-- the cause of the first NOTIFICATION: the last such message, by how many were received before it
abbrev pub cause_of : List MessageValue → Option FirstNotification → Option ℕ
cause_of received None = None
cause_of received (Some first) = last_index (is_blamed first) received

-- the Hold Time of an OPEN (RFC 4271, 4.2): its octets 22 and 23
abbrev pub number_of : Option ℕ → Option ℕ → Option ℕ
number_of (Some high) (Some low) = Some (high * 256 + low)
number_of high low = None

abbrev pub hold_in : Option MessageType → List ℕ → Option ℕ
hold_in (Some types.Open) octets = number_of (slice_get octets 22) (slice_get octets 23)
hold_in kind octets = None

abbrev pub first_hold : List MessageValue → Option ℕ
first_hold [] = None
first_hold (message ∷ later) = hold_in message.kind message.octets

abbrev pub lesser : Option ℕ → Option ℕ → Option ℕ
lesser (Some one) (Some other) = Some (min one other)
lesser one other = None

-- What they show: the place of the last OPEN or Cease that is sent, the first NOTIFICATION, its
-- cause, and the lesser Hold Time of both first messages, if both are OPENs.
abbrev pub foresight_of : List MessageValue → List MessageValue → Foresight
foresight_of received sent = record {
  last_open_or_cease = last_index is_open_or_cease sent;
  notification = notification_from 0 sent;
  cause = cause_of received (notification_from 0 sent);
  hold = lesser (first_hold received) (first_hold sent);
}

-- ---- at a place in the order: so many messages of each direction stand in it

abbrev pub is_at : ℕ → Option ℕ → Bool
is_at place None = false
is_at place (Some other) = other == place

-- an OPEN or a Cease is still to be sent
abbrev pub isnt_after : ℕ → Option ℕ → Bool
isnt_after place None = false
isnt_after place (Some last) = nat_le place last

-- the first NOTIFICATION is still to be sent
abbrev pub isnt_after_first : ℕ → Option FirstNotification → Bool
isnt_after_first place None = false
isnt_after_first place (Some first) = nat_le place first.place

-- it is the next message that is sent
abbrev pub is_at_first : ℕ → Option FirstNotification → Bool
is_at_first place None = false
is_at_first place (Some first) = first.place == place

-- the message that is received next is the cause, and the NOTIFICATION is sent next
abbrev pub is_cause_answered : Foresight → Place → Bool
is_cause_answered foresight place =
    is_at place.received foresight.cause && is_at_first place.sent foresight.notification

-- The next message that is sent answers one that is received, by their types alone: before the own
-- OPEN a rejection, and to an OPEN that is accepted late the own one; in OpenSent to an OPEN a
-- KEEPALIVE or OPEN Message Error, to a faulty header Message Header Error, and to another message
-- Finite State Machine Error; and after both OPENs to a faulty header Message Header Error, in
-- Established also Finite State Machine Error, and to an UPDATE in OpenConfirm the latter.
abbrev pub answers : State → Option MessageType → MessageValue → Bool
answers Connect kind next = answers_before_open kind next.kind (code_of next)
answers Active kind next = answers_before_open kind next.kind (code_of next)
answers OpenSent (Some types.Open) next = is_keepalive next.kind || is_code 2 (code_of next)
answers OpenSent (Some kind) next = is_code 5 (code_of next)
answers OpenSent None next = is_code 1 (code_of next)
answers OpenConfirm (Some types.Update) next = is_code 5 (code_of next)
answers OpenConfirm None next = is_code 1 (code_of next)
answers Established None next = is_code 1 (code_of next) || is_code 5 (code_of next)
answers state kind next = false

-- it is an answer: so too, after both OPENs, the first NOTIFICATION to its cause
abbrev pub is_answered : Foresight → Place → State → Option MessageType → Option MessageValue
    → Bool
is_answered foresight place state kind None = false
is_answered foresight place state kind (Some next) =
    answers state kind next || (has_link state && is_cause_answered foresight place)

-- the session answers a message of this type in this state, whatever it says
abbrev pub would_be_answered : State → Option MessageType → Bool
would_be_answered OpenSent kind = true
would_be_answered OpenConfirm None = true
would_be_answered OpenConfirm (Some types.Update) = true
would_be_answered Established None = true
would_be_answered state kind = false

-- The HoldTimer seems to have expired though the message had come: the first NOTIFICATION says
-- Hold Timer Expired, and was made less than the Hold Time after it.
abbrev pub expired_within : Option FirstNotification → Option ℕ → ℕ → Bool
expired_within (Some first) (Some hold) second =
    first.code == 4 && nat_lt first.second (second + hold)
expired_within first hold second = false

abbrev pub came_unseen : Foresight → MessageValue → Bool
came_unseen foresight message =
    (is_keepalive message.kind || is_update message.kind)
    && expired_within foresight.notification foresight.hold message.second

-- Why a received message waits or doesn't: the first of these that holds.
abbrev pub reason_of : Foresight → Place → State → Bool → MessageValue → Option MessageValue
    → Waiting
reason_of foresight place state is_answering message next =
    if is_answering then why.AnAnswerIsUnderWay
    else (if is_before_open state then why.BeforeTheOwnOpen
    else (if is_answered foresight place state message.kind next then why.ItsAnswerIsNext
    else (if is_notification message.kind then why.ItEndsTheSession
    else (if would_be_answered state message.kind then why.ItWouldBeAnswered
    else (if has_link state && is_at place.received foresight.cause then why.ItIsTheCause
    else (if is_established state && came_unseen foresight message then why.ItCameUnseen
    else why.Nothing))))))

abbrev pub is_left : Option MessageValue → Bool
is_left None = false
is_left (Some next) = true

-- whether it waits for this reason, where this message is the next one that is sent
abbrev pub waits_for : Waiting → Foresight → Place → Option MessageValue → Bool
waits_for why.AnAnswerIsUnderWay foresight place next = true
waits_for why.BeforeTheOwnOpen foresight place next =
    isnt_after place.sent foresight.last_open_or_cease
waits_for why.ItsAnswerIsNext foresight place next = false
waits_for why.ItEndsTheSession foresight place next = is_left next
waits_for why.ItWouldBeAnswered foresight place next = true
waits_for why.ItIsTheCause foresight place next =
    isnt_after_first place.sent foresight.notification
waits_for why.ItCameUnseen foresight place next = true
waits_for why.Nothing foresight place next = false
