-- The verdict over all orders on a connection of a recording, and what a no says.
use Rattle.std.specs.Prelude.{◌≡◌, ◌<◌, ◌++◌, ℕ, List, length, IsSomeAnd, slice_get}
use Rattle.streams.specs.declared.connection.Connection.{Connection}
use Rattle.bgp_open.specs.declared.config.Config.{Config}
use Rattle.bgp_machine.specs.Run.{Begins}
use Rattle.bgp_recording.specs.declared.framing.Framings.{Framings}
use Rattle.bgp_recording.specs.declared.framing.Unshown.{Unshown}
use Rattle.bgp_recording.specs.declared.message.Message.{Message}
use Rattle.bgp_recording.specs.declared.ordering.Exchange.{Exchange}
use Rattle.bgp_recording.specs.declared.state.State.{State}
use Rattle.bgp_recording.specs.Allowed.{sent_in}
use Rattle.bgp_recording.specs.Gathered.{IsHeard, IsSaid}
use Rattle.bgp_recording.specs.Recorded.{IsExchangeOf}
use Rattle.bgp_recording.specs.Tells.{Event, items_in}
use Rattle.bgp_orders.specs.declared.connection.OverOrders.{OverOrders}
use Rattle.bgp_orders.specs.declared.connection.OverOrders.TheVariants as over
use Rattle.bgp_orders.specs.declared.connection.Unexplained.{Unexplained}
use Rattle.bgp_orders.specs.Explained.{HasVerdictOver, Yes, No, Unfinished}
use Rattle.bgp_orders.specs.Many.{AreTooMany}
use Rattle.bgp_orders.specs.Ways.{IsWay, records_of_front}

-- what packets tell of the session of the connection, the messages of either direction framed by
-- its rules
pub record TellsConnection (framings : Framings) (connection : Connection) (exchange : Exchange)
    : Type 0 where
  pub received : List Message
  pub sent : List Message
  pub received_unshown : Unshown
  pub sent_unshown : Unshown
  pub heard : IsHeard framings.received connection.received received received_unshown
  pub said : IsSaid framings.sent connection.sent connection.end sent sent_unshown
  pub is : IsExchangeOf connection received sent exchange

-- it is the packet of the sent message behind so many
abbrev pub IsPacketOf : Exchange → Unexplained → Type 0
IsPacketOf exchange u =
    IsSomeAnd (slice_get exchange.sent.now u.before) (λ m. m.packet ≡ u.packet)

-- The verdict over all ways holds, and of a no the packet is that of its message; if it isn't known,
-- there are too many nodes.
abbrev pub HoldsOver : Config → ℕ → Exchange → OverOrders → Type 0
HoldsOver config within exchange over.Yes = HasVerdictOver config within exchange Yes
HoldsOver config within exchange (over.No u) =
    HasVerdictOver config within exchange (No u.before) × IsPacketOf exchange u
HoldsOver config within exchange over.Unfinished = HasVerdictOver config within exchange Unfinished
HoldsOver config within exchange over.TooMany = AreTooMany config within exchange

-- this is the verdict over all orders of the connection's messages that the packets allow
pub record IsOverOrders (config : Config) (within : ℕ) (framings : Framings)
    (connection : Connection) (verdict : OverOrders) : Type 0 where
  pub exchange : Exchange
  pub tells : TellsConnection framings connection exchange
  pub holds : HoldsOver config within exchange verdict

-- ---- what a no says

-- the front of a way holds the message, and all sent ones before it
abbrev pub Holds : Unexplained → List Event → Type 0
Holds u front = u.before < length (sent_in (items_in front))

-- No way of the exchange, whichever state the session begins in, has a front with the message
-- whose records begin a run of the session machine.
abbrev pub NoWayExplains : Config → ℕ → Exchange → Unexplained → Type 0
NoWayExplains config within exchange u =
    (start : State) (front later : List Event) → IsWay within exchange start (front ++ later)
    → Holds u front → ¬ Begins config (records_of_front exchange.second start front later)

-- a no over all orders says so
abbrev pub NoOrderExplains : Type 0
NoOrderExplains =
    (config : Config) (within : ℕ) (framings : Framings) (connection : Connection)
    (u : Unexplained) (told : IsOverOrders config within framings connection (over.No u))
    → NoWayExplains config within told.exchange u
