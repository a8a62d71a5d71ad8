-- How whole ways of an exchange end: those that end in one state end alike.
use Rattle.std.specs.Prelude.{◌≡◌, ◌↔◌, ℕ, List}
use Rattle.bgp_open.specs.declared.config.Config.{Config}
use Rattle.bgp_machine.specs.Lists.{Has}
use Rattle.bgp_machine.specs.Run.{End, IsComplete}
use Rattle.bgp_machine.specs.State.{fsm_of}
use Rattle.bgp_recording.specs.declared.entry.Entry.{Entry}
use Rattle.bgp_recording.specs.declared.ordering.Exchange.{Exchange}
use Rattle.bgp_recording.specs.declared.state.State.{State}
use Rattle.bgp_recording.specs.Allowed.{Item}
use Rattle.bgp_recording.specs.Captured.{records_of}
use Rattle.bgp_recording.specs.Tells.{Event}
use Rattle.bgp_orders.specs.Entries.{AreOfAWay}
use Rattle.bgp_orders.specs.Explained.{IsWhole}
use Rattle.bgp_orders.specs.Nodes.{IsLast, IsReachedBy, Node}
use Rattle.bgp_orders.specs.Ways.{IsWay, records_of_way}

-- a way, and an end of a run that shows just its records
pub record WholeWay (config : Config) (within : ℕ) (exchange : Exchange) : Type 0 where
  pub start : State
  pub events : List Event
  pub way : IsWay within exchange start events
  pub end : End
  pub complete : IsComplete config (records_of_way exchange.second start events) end

-- a run that shows just the records of the way ends so
abbrev pub EndsSo : {config : Config} {within : ℕ} {exchange : Exchange}
    → WholeWay config within exchange → End → Type 0
EndsSo {config} {within} {exchange} one e =
    IsComplete config (records_of_way exchange.second one.start one.events) e

-- ---- the laws

-- of two whole ways that end in one state, each end of the one is one of the other
abbrev pub WholeWaysEndAlike : Type 0
WholeWaysEndAlike =
    (config : Config) (within : ℕ) (exchange : Exchange)
    (one other : WholeWay config within exchange) → one.end.fsm ≡ other.end.fsm
    → (e : End) → EndsSo one e → EndsSo other e

-- the session can have ended so in the state in which a whole way ends, exactly where that ends so
abbrev pub OneWayTellsAllEnds : Type 0
OneWayTellsAllEnds =
    (config : Config) (within : ℕ) (exchange : Exchange) (one : WholeWay config within exchange)
    (e : End) → e.fsm ≡ one.end.fsm → IsWhole config within exchange e ↔ EndsSo one e

-- and where the records of the entries of a whole way end so
abbrev pub EntriesTellAllEnds : Type 0
EntriesTellAllEnds =
    (config : Config) (within : ℕ) (exchange : Exchange) (entries : List Entry) (one e : End)
    → AreOfAWay within exchange entries → IsComplete config (records_of entries) one
    → e.fsm ≡ one.fsm
    → IsWhole config within exchange e ↔ IsComplete config (records_of entries) e

-- For each node at which nothing is left, one of the ways ends in its state.
abbrev pub HaveEachState : (config : Config) (within : ℕ) (exchange : Exchange)
    → List (WholeWay config within exchange) → Type 0
HaveEachState config within exchange ways =
    (order : List Item) (n : Node) → IsReachedBy config within exchange order n → IsLast n
    → Has (λ one. one.end.fsm ≡ fsm_of n.member.state.head) ways

-- such ways have all ends
abbrev pub OneWayForEachState : Type 0
OneWayForEachState =
    (config : Config) (within : ℕ) (exchange : Exchange)
    (ways : List (WholeWay config within exchange)) → HaveEachState config within exchange ways
    → (e : End) → IsWhole config within exchange e ↔ Has (λ one. EndsSo one e) ways
