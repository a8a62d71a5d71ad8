-- What a reason says of other orders, of a no of the made order at a sent message that no order
-- explains.
use Rattle.std.specs.Prelude.{◌≡◌, ℕ, false, List, IsFalse, IsTrue}
use Rattle.std.specs.Bool.{then_some}
use Rattle.streams.specs.declared.connection.Connection.{Connection}
use Rattle.bgp_open.specs.declared.config.Config.{Config}
use Rattle.bgp_machine.specs.declared.fsm.Fsm.TheVariants.{Idle}
use Rattle.bgp_reason.specs.declared.kinds.Possible.{Possible}
use Rattle.bgp_recording.specs.declared.entry.Entry.{Entry}
use Rattle.bgp_recording.specs.declared.framing.Framings.{Framings}
use Rattle.bgp_why.specs.OtherOrders.{no_state}
use Rattle.bgp_why.specs.declared.other_orders.OtherOrders.{OtherOrders}
use Rattle.bgp_why.specs.declared.other_orders.OtherOrders.TheVariants.{Unasked, Unknown, Known}
use Rattle.bgp_instead.specs.declared.sendable.Sendable.{Sendable}
use Rattle.bgp_instead.specs.Connections.{AreSendableOver}
use Rattle.bgp_instead.specs.MessageAt.{is_message_at, second_at}

-- what could have been sent in place of a message with this second, and nothing else
abbrev pub possible_at : ℕ → Sendable → Possible
possible_at second sendable = record {
  state = Idle;
  message = false;
  own_open = sendable.own_open;
  keepalive = sendable.keepalive;
  update = sendable.update;
  header_errors = sendable.header_errors;
  open_errors = sendable.open_errors;
  update_errors = sendable.update_errors;
  hold_timer_expired = then_some sendable.hold_timer_expired second;
  send_hold_timer_expired = sendable.send_hold_timer_expired;
  fsm_errors = sendable.fsm_errors;
  cease = sendable.cease;
  changes = no_state;
}

-- If the record after so many of the made order is the sent message behind so many, it is said what
-- could have been sent in its place in some order, or that this isn't known; else nothing.
abbrev pub AreOtherOrders : Config → ℕ → Framings → Connection → ℕ → List Entry → ℕ → OtherOrders
    → Type 0
AreOtherOrders config within framings connection before entries count Unasked =
    IsFalse (is_message_at entries count before)
AreOtherOrders config within framings connection before entries count Unknown =
    IsTrue (is_message_at entries count before)
AreOtherOrders config within framings connection before entries count (Known possible) =
    IsTrue (is_message_at entries count before)
    × ((sendable : Sendable)
    × AreSendableOver config within framings connection before sendable
    × (possible ≡ possible_at (second_at entries count) sendable))
