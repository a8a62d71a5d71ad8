-- Nodes: where a walk through an exchange stands, with a member of the judge that explains the
-- records so far. And that what is explained is what nodes are reached for.
use Rattle.std.specs.Prelude.{◌≡◌, ℕ, List, [], ◌∷◌, Option, None, Some, length, max}
use Rattle.bgp_prefix.specs.Shown as shown
use Rattle.streams.specs.declared.connection.End.{End as TheEnd}
use Rattle.bgp_open.specs.declared.config.Config.{Config}
use Rattle.bgp_machine.specs.Run.{End}
use Rattle.bgp_machine.specs.State.{fsm_of}
use Rattle.bgp_recording.specs.declared.message.Message.{Message}
use Rattle.bgp_recording.specs.declared.ordering.Exchange.{Exchange}
use Rattle.bgp_recording.specs.declared.standing.Before.{Before}
use Rattle.bgp_recording.specs.declared.standing.Before.TheVariants.{Other}
use Rattle.bgp_recording.specs.declared.state.State.{State}
use Rattle.bgp_recording.specs.Allowed.{Item, Received, Sent, Ended, sent_in}
use Rattle.bgp_recording.specs.Changes.{led_by_received, led_by_sent, are_left, state_then}
use Rattle.bgp_recording.specs.Changes.{is_answered_before_open, just_received, just_sent}
use Rattle.bgp_recording.specs.Leads.{MayReceive, MayPass}
use Rattle.bgp_recording.specs.States.{state_number}
use Rattle.bgp_recording.specs.Told.{IsTold}
use Rattle.bgp_judge.specs.Chains.{BareNext, BareReaches}
use Rattle.bgp_judge.specs.Member.{Member, IsFree, fresh_member}
use Rattle.bgp_orders.specs.Explained.{IsExplained, IsWhole}
use Rattle.bgp_orders.specs.Ways.{MayStart, received_records, sent_records, end_records}
use Rattle.bgp_orders.specs.Ways.{state_after_end}

pub record Node : Type 0 where
  -- what isn't in the order yet
  pub received : List Message
  pub sent : List Message
  pub end : Option TheEnd
  -- the second of the item before
  pub last : ℕ
  -- the state that the records so far tell, and what stands just before
  pub state : State
  pub before : Before
  -- one explanation of them, without its routes
  pub member : Member

-- the node behind the first record
abbrev pub first_node : Exchange → State → Member → Node
first_node exchange start m = record {
  received = exchange.received.now;
  sent = exchange.sent.now;
  end = exchange.end;
  last = exchange.second;
  state = start;
  before = Other;
  member = m;
}

abbrev pub IsFirstNode : Config → Exchange → Node → Type 0
IsFirstNode config exchange n =
    (start : State) × MayStart exchange start × (m : Member)
    × BareNext config (shown.Changed exchange.second 1 (state_number start)) fresh_member m
    × (n ≡ first_node exchange start m)

-- ---- the node behind an item

abbrev pub led_in : Node → Message → Option State
led_in n x = led_by_received n.state x.kind (is_answered_before_open x.kind n.sent)

abbrev pub after_received : Node → Message → List Message → Member → Node
after_received n x left m = record {
  received = left;
  sent = n.sent;
  end = n.end;
  last = max x.second n.last;
  state = state_then n.state (led_in n x);
  before = just_received x.kind;
  member = m;
}

abbrev pub led_out : Node → Message → Option State
led_out n x = led_by_sent n.state x.kind n.before

abbrev pub after_sent : Node → Message → List Message → Member → Node
after_sent n x left m = record {
  received = n.received;
  sent = left;
  end = n.end;
  last = x.second;
  state = state_then n.state (led_out n x);
  before = just_sent n.state x.kind n.before;
  member = m;
}

abbrev pub after_end : Node → TheEnd → Member → Node
after_end n e m = record {
  received = n.received;
  sent = n.sent;
  end = None;
  last = max e.second n.last;
  state = state_after_end n.state (are_left n.received);
  before = Other;
  member = m;
}

-- the next received message may stand next, and its records lead to the member
abbrev pub Hears : Config → Node → Message → Node → Type 0
Hears config n x n2 =
    (left : List Message) × (n.received ≡ x ∷ left) × MayReceive x n.sent n.end × (m : Member)
    × BareReaches config n.member (received_records (max x.second n.last) n.state (led_in n x) x) m
    × (n2 ≡ after_received n x left m)

-- the next sent one
abbrev pub Says : Config → ℕ → Node → Message → Node → Type 0
Says config within n x n2 =
    (left : List Message) × (n.sent ≡ x ∷ left) × MayPass within x.second n.received × (m : Member)
    × BareReaches config n.member (sent_records x.second n.state (led_out n x) x) m
    × (n2 ≡ after_sent n x left m)

-- the end
abbrev pub Ends : Config → ℕ → Node → TheEnd → Node → Type 0
Ends config within n e n2 =
    (n.end ≡ Some e) × (n.sent ≡ []) × MayPass within e.second n.received × (m : Member)
    × BareReaches config n.member (end_records (max e.second n.last) n.state (are_left n.received))
    m × (n2 ≡ after_end n e m)

abbrev pub Leads : Config → ℕ → Node → Item → Node → Type 0
Leads config within n (Received x) n2 = Hears config n x n2
Leads config within n (Sent x) n2 = Says config within n x n2
Leads config within n (Ended e) n2 = Ends config within n e n2

-- the items lead from the one node to the other
abbrev pub Goes : Config → ℕ → Node → List Item → Node → Type 0
Goes config within n [] n2 = n ≡ n2
Goes config within n (item ∷ later) n2 =
    (mid : Node) × Leads config within n item mid × Goes config within mid later n2

-- the node is reached by these items
abbrev pub IsReachedBy : Config → ℕ → Exchange → List Item → Node → Type 0
IsReachedBy config within exchange order n =
    (first : Node) × IsFirstNode config exchange first × Goes config within first order n

-- it is reached with so many sent messages
abbrev pub IsReached : Config → ℕ → Exchange → ℕ → Node → Type 0
IsReached config within exchange count n =
    (order : List Item) × IsReachedBy config within exchange order n
    × (length (sent_in order) ≡ count)

-- nothing is left, and the member has shown all
pub record IsLast (n : Node) : Type 0 where
  pub received : n.received ≡ []
  pub sent : n.sent ≡ []
  pub end : n.end ≡ None
  pub free : IsFree n.member

-- ---- the laws

-- if so many sent messages are explained, some node is reached with them
abbrev pub ExplainedIsReached : Type 0
ExplainedIsReached =
    (config : Config) (within : ℕ) (exchange : Exchange) (count : ℕ)
    → IsExplained config within exchange count
    → (n : Node) × IsReached config within exchange count n

-- and only then, if what packets tell goes by a clock
abbrev pub ReachedIsExplained : Type 0
ReachedIsExplained =
    (config : Config) (within : ℕ) (exchange : Exchange) (count : ℕ) (n : Node) → IsTold exchange
    → IsReached config within exchange count n → IsExplained config within exchange count

-- if the session can have ended so, some node is reached where nothing is left, in that state
abbrev pub WholeIsReached : Type 0
WholeIsReached =
    (config : Config) (within : ℕ) (exchange : Exchange) (e : End)
    → IsWhole config within exchange e
    → (order : List Item) × (n : Node) × IsReachedBy config within exchange order n × IsLast n
    × (fsm_of n.member.state.head ≡ e.fsm)

-- and only then, if what packets tell goes by a clock
abbrev pub ReachedIsWhole : Type 0
ReachedIsWhole =
    (config : Config) (within : ℕ) (exchange : Exchange) (order : List Item) (n : Node)
    → IsTold exchange → IsReachedBy config within exchange order n → IsLast n
    → (e : End) × IsWhole config within exchange e × (e.fsm ≡ fsm_of n.member.state.head)
