-- Turns: what may stand next at a spot, and where it leads.
use Rattle.std.specs.Prelude.{◌≡◌, ◌+◌, ℕ, Bool, true, false, Option, Some, drop, max}
use Rattle.bgp_prefix.specs.Shown as shown
use Rattle.mrt.specs.Reader.{shown_of}
use Rattle.streams.specs.declared.connection.End.{End}
use Rattle.bgp_recording.specs.declared.message.Message.{Message}
use Rattle.bgp_recording.specs.declared.ordering.Exchange.{Exchange}
use Rattle.bgp_recording.specs.declared.standing.Before.TheVariants.{Other}
use Rattle.bgp_recording.specs.declared.state.State.{State}
use Rattle.bgp_recording.specs.Changes.{led_by_received, led_by_sent, are_left, state_then}
use Rattle.bgp_recording.specs.Changes.{is_answered_before_open, just_received, just_sent}
use Rattle.bgp_recording.specs.First.{IsFirst}
use Rattle.bgp_recording.specs.Leads.{MayReceiveNext, MaySendNext, MayEndNext}
use Rattle.bgp_recording.specs.Moments.{end_moment, moment_in}
use Rattle.bgp_orders.specs.declared.node.Spot.{Spot}
use Rattle.bgp_orders.specs.declared.search.Ending.{Ending}
use Rattle.bgp_orders.specs.declared.search.Turn.{Turn}
use Rattle.bgp_orders.specs.Rows.{pending_at}
use Rattle.bgp_orders.specs.Ways.{state_after_end}

-- ---- where a walk stands

-- behind the first record
abbrev pub first_spot : Exchange → State → Spot
first_spot exchange start = record {
  place = record { received = 0; sent = 0 };
  has_ended = false;
  last = exchange.second;
  state = start;
  before = Other;
}

-- the state to which a received message leads at a spot, if to another
abbrev pub led_at : Exchange → Spot → Message → Option State
led_at exchange spot x = led_by_received spot.state x.kind
    (is_answered_before_open x.kind (drop spot.place.sent exchange.sent.now))

-- behind a received message
abbrev pub heard_spot : Exchange → Spot → Message → Spot
heard_spot exchange spot x = record {
  place = record { received = spot.place.received + 1; sent = spot.place.sent };
  has_ended = spot.has_ended;
  last = max x.second spot.last;
  state = state_then spot.state (led_at exchange spot x);
  before = just_received x.kind;
}

-- behind a sent one
abbrev pub said_spot : Spot → Message → Spot
said_spot spot x = record {
  place = record { received = spot.place.received; sent = spot.place.sent + 1 };
  has_ended = spot.has_ended;
  last = x.second;
  state = state_then spot.state (led_by_sent spot.state x.kind spot.before);
  before = just_sent spot.state x.kind spot.before;
}

-- received messages are left at a spot
abbrev pub left_at : Exchange → Spot → Bool
left_at exchange spot = are_left (drop spot.place.received exchange.received.now)

-- behind the end
abbrev pub ended_spot : Exchange → Spot → End → Spot
ended_spot exchange spot e = record {
  place = spot.place;
  has_ended = true;
  last = max e.second spot.last;
  state = state_after_end spot.state (left_at exchange spot);
  before = Other;
}

-- ---- turns

-- the turn is the next received message, which may stand next
pub record Hearing (exchange : Exchange) (spot : Spot) (turn : Turn) : Type 0 where
  pub message : Message
  pub first : IsFirst (drop spot.place.received exchange.received.now) message
  pub may : MayReceiveNext (pending_at exchange spot)
  pub moment : turn.moment ≡ moment_in message
  pub shows : shown_of turn.record
      ≡ shown.Received (heard_spot exchange spot message).last message.octets.now
  pub led : turn.led ≡ led_at exchange spot message
  pub leads : turn.spot ≡ heard_spot exchange spot message

-- it is the next sent one
pub record Saying (within : ℕ) (exchange : Exchange) (spot : Spot) (turn : Turn) : Type 0 where
  pub message : Message
  pub first : IsFirst (drop spot.place.sent exchange.sent.now) message
  pub may : MaySendNext within (pending_at exchange spot)
  pub moment : turn.moment ≡ moment_in message
  pub shows : shown_of turn.record ≡ shown.Sent message.second message.octets.now
  pub led : turn.led ≡ led_by_sent spot.state message.kind spot.before
  pub leads : turn.spot ≡ said_spot spot message

-- it is the end
pub record Closing (within : ℕ) (exchange : Exchange) (spot : Spot) (ending : Ending)
    : Type 0 where
  pub end : End
  pub is : exchange.end ≡ Some end
  pub may : MayEndNext within (pending_at exchange spot)
  pub moment : ending.moment ≡ end_moment end
  pub left : ending.are_left ≡ left_at exchange spot
  pub leads : ending.spot ≡ ended_spot exchange spot end
