-- The changes of state to which a session's messages and its end lead (RFC 4271, 8.2.2).
use Rattle.std.specs.Prelude.{◌==◌, ◌&&◌, ◌||◌, if◌then◌else◌, ℕ, Bool, true, false, List, [], ◌∷◌}
use Rattle.std.specs.Prelude.{Option, None, Some}
use Rattle.std.specs.List.{slice_get}
use Rattle.bgp_wire.specs.declared.header.MessageType.{MessageType}
use Rattle.bgp_wire.specs.declared.header.MessageType.TheVariants as types
use Rattle.streams.specs.declared.passed.Side.{Side}
use Rattle.streams.specs.declared.passed.Side.TheVariants.{Local, Peer}
use Rattle.bgp_recording.specs.declared.message.Message.{Message}
use Rattle.bgp_recording.specs.declared.standing.Before.{Before}
use Rattle.bgp_recording.specs.declared.standing.Before.TheVariants.{PeersOpen, BothOpens, Other}
use Rattle.bgp_recording.specs.declared.state.State.{State}
use Rattle.bgp_recording.specs.declared.state.State.TheVariants.{Idle, Connect, Active}
use Rattle.bgp_recording.specs.declared.state.State.TheVariants.{OpenSent, OpenConfirm, Established}

-- the Error code, where it is a NOTIFICATION (RFC 4271, 4.5)
abbrev pub code_in : Option MessageType → List ℕ → Option ℕ
code_in (Some types.Notification) octets = slice_get octets 19
code_in kind octets = None

abbrev pub error_code : Message → Option ℕ
error_code message = code_in message.kind message.octets.now

-- Message Header Error or OPEN Message Error (RFC 4271, 6.1 and 6.2)
abbrev pub rejects : Option ℕ → Bool
rejects None = false
rejects (Some code) = (code == 1) || (code == 2)

-- some are left
abbrev pub are_left : List Message → Bool
are_left [] = false
are_left (next ∷ later) = true

abbrev pub is_open : Option MessageType → Bool
is_open (Some types.Open) = true
is_open kind = false

-- ---- before the own OPEN

-- A sent message answers one that is received before the own OPEN, by the type of that and its own
-- type and Error code: it rejects the connection; or both are OPENs, and the received one is
-- accepted late, since the own one was delayed (RFC 4271, 8.2.2, event 20).
abbrev pub answers_before_open : Option MessageType → Option MessageType → Option ℕ → Bool
answers_before_open kind next code = rejects code || (is_open kind && is_open next)

-- the next message that is sent answers one of this type
abbrev pub is_answered_before_open : Option MessageType → List Message → Bool
is_answered_before_open kind [] = false
is_answered_before_open kind (next ∷ later) =
    answers_before_open kind next.kind (error_code next)

-- what stands just before, after a received message of this type
abbrev pub just_received : Option MessageType → Before
just_received (Some types.Open) = PeersOpen
just_received kind = Other

-- and after a sent one, where this stood before that
abbrev pub just_sent : State → Option MessageType → Before → Before
just_sent Connect (Some types.Open) PeersOpen = BothOpens
just_sent Active (Some types.Open) PeersOpen = BothOpens
just_sent state kind before = Other

-- the own OPEN is sent for one that is accepted late, and the KEEPALIVE is to come
abbrev pub awaits_keepalive : Before → Bool
awaits_keepalive BothOpens = true
awaits_keepalive before = false

-- ---- to which state another leads, where it leads to one

-- A received message of this type: a NOTIFICATION to Idle; before the own OPEN any other to Idle
-- too, unless the next message that is sent answers it; a KEEPALIVE in OpenConfirm to Established.
abbrev pub led_by_received : State → Option MessageType → Bool → Option State
led_by_received Idle kind answered = None
led_by_received state (Some types.Notification) answered = Some Idle
led_by_received Connect kind answered = if answered then None else Some Idle
led_by_received Active kind answered = if answered then None else Some Idle
led_by_received OpenConfirm (Some types.Keepalive) answered = Some Established
led_by_received state kind answered = None

-- A sent message of this type: a NOTIFICATION to Idle; the own OPEN to OpenSent, unless it comes
-- right after an OPEN that is accepted late; and a KEEPALIVE to OpenConfirm, in OpenSent if a
-- received OPEN stands just before it, and before that if both OPENs do.
abbrev pub led_by_sent : State → Option MessageType → Before → Option State
led_by_sent Idle kind before = None
led_by_sent state (Some types.Notification) before = Some Idle
led_by_sent Connect (Some types.Open) PeersOpen = None
led_by_sent Connect (Some types.Open) before = Some OpenSent
led_by_sent Active (Some types.Open) PeersOpen = None
led_by_sent Active (Some types.Open) before = Some OpenSent
led_by_sent Connect (Some types.Keepalive) BothOpens = Some OpenConfirm
led_by_sent Active (Some types.Keepalive) BothOpens = Some OpenConfirm
led_by_sent OpenSent (Some types.Keepalive) PeersOpen = Some OpenConfirm
led_by_sent state kind before = None

-- the end: from OpenSent a connection is awaited again
abbrev pub led_by_end : State → Option State
led_by_end Idle = None
led_by_end OpenSent = Some Active
led_by_end state = Some Idle

-- and after the end in OpenSent, where received messages are left
abbrev pub led_by_left : State → Bool → Option State
led_by_left OpenSent true = Some Idle
led_by_left state left = None

-- the state before the own OPEN: Connect where the local system opened the connection, else Active
abbrev pub opened_state : Side → State
opened_state Local = Connect
opened_state Peer = Active

-- the state that is led to, or the same
abbrev pub state_then : State → Option State → State
state_then state None = state
state_then state (Some led) = led
