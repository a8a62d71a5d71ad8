-- Entries of a way: its records, each with the packet that shows it.
use Rattle.std.specs.Prelude.{◌≡◌, ◌++◌, ℕ, List, [], ◌∷◌, drop, map}
use Rattle.bgp_prefix.specs.Shown as shown
use Rattle.bgp_open.specs.declared.config.Config.{Config}
use Rattle.bgp_machine.specs.Run.{End, IsComplete}
use Rattle.bgp_recording.specs.declared.entry.Entry.{Entry}
use Rattle.bgp_recording.specs.declared.ordering.Exchange.{Exchange}
use Rattle.bgp_recording.specs.declared.standing.Before.TheVariants.{Other}
use Rattle.bgp_recording.specs.declared.state.State.{State}
use Rattle.bgp_recording.specs.Allowed.{Item}
use Rattle.bgp_recording.specs.Captured.{records_of}
use Rattle.bgp_recording.specs.Moments.{opening_moment}
use Rattle.bgp_recording.specs.States.{state_number}
use Rattle.bgp_recording.specs.Tells.{Event, Passed, Numbered, second_behind}
use Rattle.bgp_recording.specs.Tells.{numbered_in, numbered_of, numbered_with}
use Rattle.bgp_orders.specs.declared.course.Course.{Course}
use Rattle.bgp_orders.specs.declared.node.Spot.{Spot}
use Rattle.bgp_orders.specs.Explained.{IsWhole}
use Rattle.bgp_orders.specs.Rows.{end_left}
use Rattle.bgp_orders.specs.Walks.{IsWalk}
use Rattle.bgp_orders.specs.Ways.{IsWay, records_of_way}

-- The records of a way that begins in this state, each with its packet: the change from Idle, with
-- the first packet, and those of the messages and the end.
abbrev pub numbered_of_way : Exchange → State → List Event → List Numbered
numbered_of_way exchange start events =
    numbered_with (opening_moment exchange) (shown.Changed exchange.second 1 (state_number start))
    ∷ numbered_in start Other events

-- the entries are those of some way
pub record AreOfAWay (within : ℕ) (exchange : Exchange) (entries : List Entry) : Type 0 where
  pub start : State
  pub events : List Event
  pub way : IsWay within exchange start events
  pub numbered : map numbered_of entries ≡ numbered_of_way exchange start events

-- ---- the laws

-- the records of a way's entries are the records of the way
abbrev pub EntriesShowTheWay : Type 0
EntriesShowTheWay =
    (within : ℕ) (exchange : Exchange) (entries : List Entry)
    (of : AreOfAWay within exchange entries)
    → records_of entries ≡ records_of_way exchange.second of.start of.events

-- if a run shows just the records of a way's entries, the session can have ended as that run does
abbrev pub RunsOfEntriesAreWhole : Type 0
RunsOfEntriesAreWhole =
    (config : Config) (within : ℕ) (exchange : Exchange) (entries : List Entry) (e : End)
    → AreOfAWay within exchange entries → IsComplete config (records_of entries) e
    → IsWhole config within exchange e

-- ---- entries while they are made

-- the events of an order, behind an item of this second
abbrev pub events_behind : ℕ → List Item → List Event
events_behind before [] = []
events_behind before (item ∷ later) =
    Passed (second_behind before item) item ∷ events_behind (second_behind before item) later

-- the items are a walk through what is left at the spot
abbrev pub IsWalkFrom : ℕ → Exchange → Spot → List Item → Type 0
IsWalkFrom within exchange spot order =
    IsWalk within (drop spot.place.received exchange.received.now)
    (drop spot.place.sent exchange.sent.now) (end_left spot.has_ended exchange.end) order

-- Whatever walk goes on from the spot, the records so far and those of that walk are the records of
-- a walk through the exchange that begins in this state.
abbrev pub AreUnderWay : ℕ → Exchange → State → Spot → List Numbered → Type 0
AreUnderWay within exchange start spot numbered =
    (later : List Item) → IsWalkFrom within exchange spot later
    → (order : List Item)
    × IsWalk within exchange.received.now exchange.sent.now exchange.end order
    × (numbered_of_way exchange start (events_behind exchange.second order)
    ≡ numbered ++ numbered_in spot.state spot.before (events_behind spot.last later))

-- if the records of the one course are under way, so are those of the other
abbrev pub StaysUnderWay : {X : Type 0} → ℕ → Exchange → Course X → Course X → Type 0
StaysUnderWay within exchange old new =
    (start : State)
    → AreUnderWay within exchange start old.spot (map numbered_of old.entries.items)
    → AreUnderWay within exchange start new.spot (map numbered_of new.entries.items)
