-- Ways: how the local system may have gone through what packets tell of a session. A way has a
-- state in which the session began and an order of the messages and the end that the packets allow.
-- It settles the session's records.
use Rattle.std.specs.Prelude.{◌≡◌, ◌⊎◌, ◌++◌, ℕ, Bool, List, [], ◌∷◌, Option, None, Some, map}
use Rattle.bgp_prefix.specs.Shown as shown
use Rattle.bgp_prefix.specs.Shown.{ShownRecord}
use Rattle.bgp_recording.specs.declared.message.Message.{Message}
use Rattle.bgp_recording.specs.declared.ordering.Exchange.{Exchange}
use Rattle.bgp_recording.specs.declared.standing.Before.{Before}
use Rattle.bgp_recording.specs.declared.standing.Before.TheVariants.{Other}
use Rattle.bgp_recording.specs.declared.state.State.{State}
use Rattle.bgp_recording.specs.declared.state.State.TheVariants.{Connect, Active}
use Rattle.bgp_recording.specs.Allowed.{Received, Sent, Ended, IsAllowed, received_in, sent_in}
use Rattle.bgp_recording.specs.Changes.{led_by_received, led_by_sent, led_by_end, led_by_left}
use Rattle.bgp_recording.specs.Changes.{is_answered_before_open, just_received, just_sent}
use Rattle.bgp_recording.specs.Changes.{are_left, opened_state, state_then}
use Rattle.bgp_recording.specs.Moments.{opening_moment}
use Rattle.bgp_recording.specs.States.{state_number}
use Rattle.bgp_recording.specs.Tells.{Event, Passed, AreTimed, Tells, items_in}
use Rattle.bgp_recording.specs.Tells.{Numbered}
use Rattle.bgp_recording.specs.Told.{IsTold}

-- ---- ways

-- A session may begin in this state: Connect or Active, whoever opened the connection. Without any
-- message nothing looks at the state, and it is the one of the made order.
abbrev pub MayStart : Exchange → State → Type 0
MayStart exchange start =
    ((start ≡ Connect) ⊎ (start ≡ Active))
    × (exchange.received.now ≡ [] → exchange.sent.now ≡ []
    → start ≡ opened_state exchange.opened_by)

-- The session may begin so. The order is one that the packets allow if each received message is
-- handled within so many seconds after it came, and has its seconds.
pub record IsWay (within : ℕ) (exchange : Exchange) (start : State) (events : List Event)
    : Type 0 where
  pub starts : MayStart exchange start
  pub allowed : IsAllowed within exchange.received.now exchange.sent.now exchange.end
      (items_in events)
  pub timed : AreTimed exchange.second events

-- ---- the records of a way

-- the change to the state that is led to, if one is
abbrev pub changed_to : ℕ → State → Option State → List ShownRecord
changed_to second state None = []
changed_to second state (Some led) =
    shown.Changed second (state_number state) (state_number led) ∷ []

-- the records of a received message that leads to a state or to none
abbrev pub received_records : ℕ → State → Option State → Message → List ShownRecord
received_records second state led m =
    shown.Received second m.octets.now ∷ changed_to second state led

-- those of a sent one
abbrev pub sent_records : ℕ → State → Option State → Message → List ShownRecord
sent_records second state led m = shown.Sent second m.octets.now ∷ changed_to second state led

-- the state after the end, if received messages are left or not
abbrev pub state_after_end : State → Bool → State
state_after_end state left =
    state_then (state_then state (led_by_end state)) (led_by_left state left)

-- the records of the end: the changes to which it leads
abbrev pub end_records : ℕ → State → Bool → List ShownRecord
end_records second state left =
    changed_to second state (led_by_end state)
    ++ changed_to second (state_then state (led_by_end state)) (led_by_left state left)

-- The records of the front of an order, from a state on, where the rest of the order stands behind
-- the front. `before` is what stands just before.
abbrev pub records_in : State → Before → List Event → List Event → List ShownRecord
records_in state before [] later = []
records_in state before (Passed second (Received m) ∷ front) later =
    let answered = is_answered_before_open m.kind (sent_in (items_in (front ++ later))) in
    let led = led_by_received state m.kind answered in
    received_records second state led m
    ++ records_in (state_then state led) (just_received m.kind) front later
records_in state before (Passed second (Sent m) ∷ front) later =
    let led = led_by_sent state m.kind before in
    sent_records second state led m
    ++ records_in (state_then state led) (just_sent state m.kind before) front later
records_in state before (Passed second (Ended e) ∷ front) later =
    let left = are_left (received_in (items_in (front ++ later))) in
    end_records second state left
    ++ records_in (state_after_end state left) Other front later

-- The records of the front of a way that begins in this state, behind which the rest stands: the
-- change from Idle, and those of the messages and the end.
abbrev pub records_of_front : ℕ → State → List Event → List Event → List ShownRecord
records_of_front second start front later =
    shown.Changed second 1 (state_number start) ∷ records_in start Other front later

-- the records of a way
abbrev pub records_of_way : ℕ → State → List Event → List ShownRecord
records_of_way second start events = records_of_front second start events []

-- ---- the laws

-- Records that tell a session are those of a way, which begins in the state of the made order.
abbrev pub MadeIsAWay : Type 0
MadeIsAWay =
    (within : ℕ) (exchange : Exchange) (numbered : List Numbered)
    → Tells within exchange.opened_by (opening_moment exchange) exchange.received.now
    exchange.sent.now exchange.end numbered
    → (events : List Event) × IsWay within exchange (opened_state exchange.opened_by) events
    × (map (λ n. n.shown) numbered
    ≡ records_of_way exchange.second (opened_state exchange.opened_by) events)

-- the records of the front of a way begin those of the way
abbrev pub FrontsBeginWays : Type 0
FrontsBeginWays =
    (second : ℕ) (start : State) (front later : List Event)
    → (rest : List ShownRecord)
    × (records_of_front second start front later ++ rest
    ≡ records_of_way second start (front ++ later))

-- what packets tell by a clock has a way, from each state in which a session may begin
abbrev pub SomeWay : Type 0
SomeWay =
    (within : ℕ) (exchange : Exchange) (start : State) → IsTold exchange
    → MayStart exchange start → (events : List Event) × IsWay within exchange start events
