-- The records that tell a session: its messages in an allowed order, and the changes of state to
-- which that order leads.
use Rattle.std.specs.Prelude.{◌≡◌, ◌<◌, ◌≤◌, ◌^◌, ◌++◌, ℕ, List, [], ◌∷◌, max}
use Rattle.std.specs.Prelude.{Option, None, Some}
use Rattle.bgp_prefix.specs.Shown as shown
use Rattle.bgp_prefix.specs.Shown.{ShownRecord, second_of}
use Rattle.mrt.specs.Reader.{shown_of}
use Rattle.bgp_recording.specs.declared.message.Message.{Message}
use Rattle.bgp_recording.specs.declared.pending.Moment.{Moment}
use Rattle.bgp_recording.specs.declared.standing.Before.{Before}
use Rattle.bgp_recording.specs.declared.standing.Before.TheVariants.{Other}
use Rattle.bgp_recording.specs.declared.state.State.{State}
use Rattle.streams.specs.declared.connection.End.{End}
use Rattle.streams.specs.declared.passed.Side.{Side}
use Rattle.bgp_recording.specs.declared.entry.Entry.{Entry}
use Rattle.bgp_recording.specs.Allowed.{Item, Received, Sent, Ended, IsAllowed}
use Rattle.bgp_recording.specs.Allowed.{received_in, sent_in}
use Rattle.bgp_recording.specs.Moments.{end_moment, entry_moment, moment_in}
use Rattle.bgp_recording.specs.Changes.{led_by_received, led_by_sent, led_by_end, led_by_left}
use Rattle.bgp_recording.specs.Changes.{is_answered_before_open, just_received, just_sent}
use Rattle.bgp_recording.specs.Changes.{are_left, opened_state, state_then}
use Rattle.bgp_recording.specs.States.{state_number}

-- a record, and the packet that shows it, with its time
pub record Numbered : Type 0 where
  pub moment : Moment
  pub shown : ShownRecord

-- what an entry says
abbrev pub numbered_of : Entry → Numbered
numbered_of entry = record { moment = entry_moment entry; shown = shown_of entry.record }

-- its second has 32 bits, as a packet's
abbrev pub HasSecond : Entry → Type 0
HasSecond entry = second_of (shown_of entry.record) < 2 ^ 32

abbrev pub numbered_with : Moment → ShownRecord → Numbered
numbered_with moment shown = record { moment = moment; shown = shown }

-- what stands in an order, and the second at which it is shown
pub data Event : Type 0 where
  Passed : ℕ → Item → Event

abbrev pub items_in : List Event → List Item
items_in [] = []
items_in (Passed second item ∷ later) = item ∷ items_in later

-- the second of an item, after one of second `before`: that by which a sent message was made; that
-- by which a received one came, or that of the item before it, if that is greater, whether that is
-- a message or the end; likewise the end's
abbrev pub second_behind : ℕ → Item → ℕ
second_behind before (Received m) = max m.second before
second_behind before (Sent m) = m.second
second_behind before (Ended e) = max e.second before

-- the seconds are those of the items after this one, and never fall
abbrev pub AreTimed : ℕ → List Event → Type 0
AreTimed before [] = Unit {0}
AreTimed before (Passed second item ∷ later) =
    (before ≤ second) × (second ≡ second_behind before item) × AreTimed second later

-- the change to the state that is led to, if one is
abbrev pub change : Moment → ℕ → State → Option State → List Numbered
change moment second state None = []
change moment second state (Some led) =
    numbered_with moment (shown.Changed second (state_number state) (state_number led)) ∷ []

-- The records of an order from a state on, each with its packet: the messages, and right after each
-- message and the end the changes to which it leads, with its packet and at its second in the
-- order, which may be later than the packet's. The end itself has none. `before` is what stands
-- just before.
abbrev pub numbered_in : State → Before → List Event → List Numbered
numbered_in state before [] = []
numbered_in state before (Passed second (Received m) ∷ later) =
    let answered = is_answered_before_open m.kind (sent_in (items_in later)) in
    let led = led_by_received state m.kind answered in
    numbered_with (moment_in m) (shown.Received second m.octets.now)
    ∷ (change (moment_in m) second state led
    ++ numbered_in (state_then state led) (just_received m.kind) later)
numbered_in state before (Passed second (Sent m) ∷ later) =
    let led = led_by_sent state m.kind before in
    numbered_with (moment_in m) (shown.Sent second m.octets.now)
    ∷ (change (moment_in m) second state led
    ++ numbered_in (state_then state led) (just_sent state m.kind before) later)
numbered_in state before (Passed second (Ended e) ∷ later) =
    let ended = state_then state (led_by_end state) in
    let left = led_by_left state (are_left (received_in (items_in later))) in
    change (end_moment e) second state (led_by_end state)
    ++ (change (end_moment e) second ended left ++ numbered_in (state_then ended left) Other later)

-- the first record: the change from Idle to the state before the own OPEN
abbrev pub opening : Side → Moment → Numbered
opening opened_by first =
    numbered_with first (shown.Changed first.second 1 (state_number (opened_state opened_by)))

-- These records tell what packets tell of a session whose connection this side opened, by this
-- first packet: after the opening they are those of an order that is allowed where a message is
-- handled so many seconds after it came at the latest.
pub record Tells
    (within : ℕ) (opened_by : Side) (first : Moment) (received sent : List Message)
    (end : Option End) (numbered : List Numbered) : Type 0 where
  pub events : List Event
  pub allowed : IsAllowed within received sent end (items_in events)
  pub timed : AreTimed first.second events
  pub shown : numbered
      ≡ opening opened_by first ∷ numbered_in (opened_state opened_by) Other events
