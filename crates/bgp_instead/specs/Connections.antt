-- Which messages could have been sent on a connection of a recording.
use Rattle.std.specs.Prelude.{ℕ}
use Rattle.streams.specs.declared.connection.Connection.{Connection}
use Rattle.bgp_open.specs.declared.config.Config.{Config}
use Rattle.bgp_recording.specs.declared.framing.Framings.{Framings}
use Rattle.bgp_recording.specs.declared.ordering.Exchange.{Exchange}
use Rattle.bgp_orders.specs.Connections.{TellsConnection}
use Rattle.bgp_orders.specs.SentPlaces.{CouldBeSent}
use Rattle.bgp_instead.specs.declared.sendable.Sendable.{Sendable}
use Rattle.bgp_instead.specs.Places.{last_octets}
use Rattle.bgp_instead.specs.Sendable.{AreSendable}

-- they are those that could have been sent in place of the sent message behind so many, as packets
-- tell the session of the connection, the messages of either direction framed by its rules
pub record AreSendableOver (config : Config) (within : ℕ) (framings : Framings)
    (connection : Connection) (before : ℕ) (sendable : Sendable) : Type 0 where
  pub exchange : Exchange
  pub tells : TellsConnection framings connection exchange
  pub are : AreSendable (CouldBeSent config within exchange before) config
      (last_octets exchange.received.now) sendable
