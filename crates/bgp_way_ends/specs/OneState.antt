-- All whole ways of an exchange end alike, in one state.
use Rattle.std.specs.Prelude.{◌≡◌, ◌↔◌, ℕ, Some}
use Rattle.std.specs.List.{AllByRecursion}
use Rattle.bgp_wire.specs.Header.{header_of, type_of}
use Rattle.bgp_wire.specs.declared.header.MessageType.TheVariants.{Notification}
use Rattle.bgp_open.specs.declared.config.Config.{Config}
use Rattle.bgp_machine.specs.Run.{End}
use Rattle.bgp_recording.specs.declared.message.Message.{Message}
use Rattle.bgp_recording.specs.declared.ordering.Exchange.{Exchange}
use Rattle.bgp_orders.specs.Explained.{IsWhole}
use Rattle.bgp_way_ends.specs.WayEnds.{EndsSo, WholeWay}

-- a message that is a NOTIFICATION by its kind is one by its octets: its type is 3
abbrev pub IsTyped : Message → Type 0
IsTyped m = m.kind ≡ Some Notification → type_of (header_of m.octets.now) ≡ 3

-- so are those of an exchange
pub record HasTypes (exchange : Exchange) : Type 0 where
  pub received : AllByRecursion IsTyped exchange.received.now
  pub sent : AllByRecursion IsTyped exchange.sent.now

-- ---- the laws

-- all whole ways of such an exchange end in one state
abbrev pub WholeWaysEndInOneState : Type 0
WholeWaysEndInOneState =
    (config : Config) (within : ℕ) (exchange : Exchange) → HasTypes exchange
    → (one other : WholeWay config within exchange) → one.end.fsm ≡ other.end.fsm

-- so the session can have ended so, exactly where a whole way ends so, whichever it is
abbrev pub EachWholeWayTellsAllEnds : Type 0
EachWholeWayTellsAllEnds =
    (config : Config) (within : ℕ) (exchange : Exchange) → HasTypes exchange
    → (one : WholeWay config within exchange) (e : End)
    → IsWhole config within exchange e ↔ EndsSo one e
