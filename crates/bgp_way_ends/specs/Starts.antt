-- The four starts of a session, in the standard's terms, but for one row: with the own OPEN delayed
-- in Connect, the end of the connection leads to Active (event 18), and here to Idle as from the
-- others. A way begins in one of two of them; that these are enough is a law.
use Rattle.std.specs.Prelude.{◌≡◌, ◌<◌, ◌+◌, ◌++◌, ◌↔◌, ◌||◌, if◌then◌else◌, ℕ, Bool, true, false}
use Rattle.std.specs.Prelude.{List, [], ◌∷◌, Option, None, Some, length}
use Rattle.bgp_prefix.specs.Shown as shown
use Rattle.bgp_prefix.specs.Shown.{ShownRecord}
use Rattle.streams.specs.declared.connection.Connection.{Connection}
use Rattle.bgp_wire.specs.declared.header.MessageType.{MessageType}
use Rattle.bgp_wire.specs.declared.header.MessageType.TheVariants as types
use Rattle.bgp_open.specs.declared.config.Config.{Config}
use Rattle.bgp_machine.specs.Run.{Begins, End, IsComplete}
use Rattle.bgp_recording.specs.declared.framing.Framings.{Framings}
use Rattle.bgp_recording.specs.declared.message.Message.{Message}
use Rattle.bgp_recording.specs.declared.ordering.Exchange.{Exchange}
use Rattle.bgp_recording.specs.declared.standing.Before.TheVariants.{Other}
use Rattle.bgp_recording.specs.declared.state.State.{State}
use Rattle.bgp_recording.specs.declared.state.State.TheVariants.{Idle, OpenSent, OpenConfirm}
use Rattle.bgp_recording.specs.Allowed.{Received, Sent, Ended, sent_in}
use Rattle.bgp_recording.specs.Changes.{error_code, just_received, rejects}
use Rattle.bgp_recording.specs.States.{state_number}
use Rattle.bgp_recording.specs.Tells.{Event, Passed, items_in}
use Rattle.bgp_orders.specs.Connections.{TellsConnection}
use Rattle.bgp_orders.specs.Explained.{HasVerdictOver, IsExplained, IsWhole, VerdictOver}
use Rattle.bgp_orders.specs.Explained.{No, Unfinished, Yes}
use Rattle.bgp_orders.specs.Ways.{IsWay, changed_to, received_records, records_in, sent_records}

-- How a session stands before the own OPEN (RFC 4271, 8.2.2): in Connect or in Active, and with its
-- own OPEN delayed or not. A delayed one (8.1.1, DelayOpen) waits for the peer's, and answers it.
pub record Start : Type 0 where
  pub state : State
  pub is_delayed : Bool

-- ---- to which state another leads, before the own OPEN

-- the next message that is sent rejects the connection (6.1, 6.2)
abbrev pub is_rejected_next : List Message → Bool
is_rejected_next [] = false
is_rejected_next (next ∷ later) = rejects (error_code next)

-- A received message of this type. A NOTIFICATION leads to Idle (events 24 and 25). So does any
-- other (events 19, 21, 22, 26 to 28), unless the next message that is sent rejects it, which then
-- leads there. But with the own OPEN delayed an OPEN is accepted (event 20), which shows where the
-- KEEPALIVE is sent, behind the own OPEN.
abbrev pub led_by_heard : Bool → Option MessageType → Bool → Option State
led_by_heard is_delayed (Some types.Notification) rejected = Some Idle
led_by_heard is_delayed (Some types.Open) rejected =
    if is_delayed || rejected then None else Some Idle
led_by_heard is_delayed kind rejected = if rejected then None else Some Idle

-- A sent message of this type. A NOTIFICATION leads to Idle; the own OPEN to OpenSent (events 12,
-- 16 and 17), unless it is delayed: then the KEEPALIVE leads to OpenConfirm (event 20).
abbrev pub led_by_said : Bool → Option MessageType → Option State
led_by_said is_delayed (Some types.Notification) = Some Idle
led_by_said false (Some types.Open) = Some OpenSent
led_by_said true (Some types.Keepalive) = Some OpenConfirm
led_by_said is_delayed kind = None

-- ---- the records

-- what stands behind a change to this state; where there is none, what stands here
abbrev pub behind : Option State → (State → List ShownRecord) → List ShownRecord
    → List ShownRecord
behind None there here = here
behind (Some state) there here = there state

-- The records of the front of an order, where the rest of it stands behind the front. Up to the
-- first change of state they are those of the start, from then on those of any way.
abbrev pub records_from : Start → List Event → List Event → List ShownRecord
records_from start [] later = []
records_from start (Passed second (Received m) ∷ front) later =
    let rejected = is_rejected_next (sent_in (items_in (front ++ later))) in
    let led = led_by_heard start.is_delayed m.kind rejected in
    received_records second start.state led m
    ++ behind led (λ state. records_in state (just_received m.kind) front later)
    (records_from start front later)
records_from start (Passed second (Sent m) ∷ front) later =
    let led = led_by_said start.is_delayed m.kind in
    sent_records second start.state led m
    ++ behind led (λ state. records_in state Other front later) (records_from start front later)
records_from start (Passed second (Ended e) ∷ front) later =
    changed_to second start.state (Some Idle) ++ records_in Idle Other front later

-- the same with the first record, the change from Idle
abbrev pub records_of_start : ℕ → Start → List Event → List Event → List ShownRecord
records_of_start second start front later =
    shown.Changed second 1 (state_number start.state) ∷ records_from start front later

-- ---- what all four say together

-- so many of the sent messages are explained, from one of the four
pub record IsExplainedFromAny (config : Config) (within : ℕ) (exchange : Exchange) (count : ℕ)
    : Type 0 where
  pub start : Start
  pub front : List Event
  pub later : List Event
  pub way : IsWay within exchange start.state (front ++ later)
  pub counts : length (sent_in (items_in front)) ≡ count
  pub begins : Begins config (records_of_start exchange.second start front later)

-- the session can have ended so, from one of the four
pub record IsWholeFromAny (config : Config) (within : ℕ) (exchange : Exchange) (e : End)
    : Type 0 where
  pub start : Start
  pub events : List Event
  pub way : IsWay within exchange start.state events
  pub complete : IsComplete config (records_of_start exchange.second start events []) e

-- this verdict over all ways from the four holds
abbrev pub HasVerdictFromAny : Config → ℕ → Exchange → VerdictOver → Type 0
HasVerdictFromAny config within exchange Yes = (e : End) × IsWholeFromAny config within exchange e
HasVerdictFromAny config within exchange (No count) =
    (count < length exchange.sent.now) × IsExplainedFromAny config within exchange count
    × (¬ IsExplainedFromAny config within exchange (count + 1))
HasVerdictFromAny config within exchange Unfinished =
    IsExplainedFromAny config within exchange (length exchange.sent.now)
    × ((e : End) → ¬ IsWholeFromAny config within exchange e)

-- ---- the laws, of what packets tell of a connection

-- from the four no more is explained than by the ways, and no less
abbrev pub TwoStartsExplainAll : Type 0
TwoStartsExplainAll =
    (config : Config) (within : ℕ) (framings : Framings) (connection : Connection)
    (exchange : Exchange) (count : ℕ) → TellsConnection framings connection exchange
    → IsExplainedFromAny config within exchange count ↔ IsExplained config within exchange count

-- the session can have ended so from the four exactly where it can by the ways
abbrev pub TwoStartsEndAll : Type 0
TwoStartsEndAll =
    (config : Config) (within : ℕ) (framings : Framings) (connection : Connection)
    (exchange : Exchange) (e : End) → TellsConnection framings connection exchange
    → IsWholeFromAny config within exchange e ↔ IsWhole config within exchange e

-- so the verdict over all ways is that from the four
abbrev pub TwoStartsDecide : Type 0
TwoStartsDecide =
    (config : Config) (within : ℕ) (framings : Framings) (connection : Connection)
    (exchange : Exchange) (verdict : VerdictOver) → TellsConnection framings connection exchange
    → HasVerdictFromAny config within exchange verdict
    ↔ HasVerdictOver config within exchange verdict
