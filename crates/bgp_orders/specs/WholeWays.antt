-- A way of a connection of a recording, and how its session can have ended.
use Rattle.std.specs.Prelude.{◌≡◌, ◌⊎◌, ℕ, List}
use Rattle.streams.specs.declared.connection.Connection.{Connection}
use Rattle.bgp_open.specs.declared.config.Config.{Config}
use Rattle.bgp_machine.specs.Run.{End}
use Rattle.bgp_recording.specs.declared.entry.Entry.{Entry}
use Rattle.bgp_recording.specs.declared.framing.Framings.{Framings}
use Rattle.bgp_recording.specs.declared.framing.Unshown.{Unshown}
use Rattle.bgp_recording.specs.declared.ordering.Exchange.{Exchange}
use Rattle.bgp_orders.specs.declared.connection.OverOrders.TheVariants as over
use Rattle.bgp_orders.specs.Connections.{IsOverOrders, TellsConnection}
use Rattle.bgp_orders.specs.Entries.{AreOfAWay}
use Rattle.bgp_orders.specs.Explained.{IsWhole, NoneIsWhole}

-- The entries are those of some way of the connection's messages, the messages of either direction
-- framed by its rules. And this of its streams is in none of them.
pub record AreOfAWayOver (framings : Framings) (within : ℕ) (connection : Connection)
    (entries : List Entry) (received sent : Unshown) : Type 0 where
  pub exchange : Exchange
  pub tells : TellsConnection framings connection exchange
  pub received_unshown : tells.received_unshown ≡ received
  pub sent_unshown : tells.sent_unshown ≡ sent
  pub of : AreOfAWay within exchange entries

-- the session can have ended so: some run shows just the records of some way of the connection's
-- messages, and ends so
pub record CanHaveEnded (config : Config) (within : ℕ) (framings : Framings)
    (connection : Connection) (e : End) : Type 0 where
  pub exchange : Exchange
  pub tells : TellsConnection framings connection exchange
  pub whole : IsWhole config within exchange e

-- no run shows just the records of a way of the connection's messages
pub record NoneIsWholeOver (config : Config) (within : ℕ) (framings : Framings)
    (connection : Connection) : Type 0 where
  pub exchange : Exchange
  pub tells : TellsConnection framings connection exchange
  pub none : NoneIsWhole config within exchange

-- so it is; or there are too many nodes, and it isn't known what all orders say
abbrev pub NoneIsFoundOver : Config → ℕ → Framings → Connection → Type 0
NoneIsFoundOver config within framings connection =
    NoneIsWholeOver config within framings connection
    ⊎ IsOverOrders config within framings connection over.TooMany
