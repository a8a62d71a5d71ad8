-- What a no over all orders says, and what a framed connection tells.
use Rattle.std.proofs.Common.{◌+◌, length, refl, arith}
use Rattle.streams.specs.declared.connection.Connection.{Connection}
use Rattle.bgp_recording.specs.declared.framing.Framings.{Framings}
use Rattle.bgp_recording.specs.declared.ordering.Exchange.{Exchange}
use Rattle.bgp_recording.specs.Allowed.{sent_in}
use Rattle.bgp_recording.specs.Gathered.{IsClocked}
use Rattle.bgp_recording.specs.Tells.{items_in}
use Rattle.bgp_recording.specs.Told.{IsTold}
use Rattle.bgp_recording.proofs.Recordings.{is_told_by}
use Rattle.bgp_orders.specs.Connections.{NoOrderExplains, TellsConnection}
use Rattle.bgp_orders.proofs.Over.{at_most_explained}

-- what packets tell of a connection that goes by a clock does so, too
pub connection_is_told : (framings : Framings) (connection : Connection) (exchange : Exchange) → TellsConnection framings connection exchange → IsClocked connection → IsTold exchange
connection_is_told framings connection exchange t clocked =
    is_told_by framings connection exchange t.received t.sent t.received_unshown t.sent_unshown t.is.packet t.is.second t.is.end t.is.received t.is.sent clocked t.heard t.said

pub no_order_explains : NoOrderExplains
no_order_explains config within framings connection u told start front later way holds begins =
    told.holds.0.2
    (at_most_explained config within told.exchange (u.before + 1) (length (sent_in (items_in front))) (omega (arith, holds))
    (record { start = start; front = front; later = later; way = way; counts = refl; begins = begins }))
