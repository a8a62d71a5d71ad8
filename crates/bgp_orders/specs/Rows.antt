-- Rows: the nodes that are reached with so many sent messages, and lists of them as the search
-- keeps them.
use Rattle.std.specs.Prelude.{◌≡◌, ◌≢◌, ◌⊎◌, ◌↔◌, ◌++◌, ℕ, zero, suc}
use Rattle.std.specs.Prelude.{Bool, true, false, List, [], ◌∷◌}
use Rattle.std.specs.Prelude.{Option, None, Some, IsSomeAnd, MatchOption, drop, slice_get}
use Rattle.bgp_prefix.specs.Shown as shown
use Rattle.bgp_prefix.specs.Shown.{ShownRecord}
use Rattle.streams.specs.declared.connection.End.{End}
use Rattle.bgp_open.specs.declared.config.Config.{Config}
use Rattle.bgp_machine.specs.Lists.{Has}
use Rattle.bgp_recording.specs.declared.message.Message.{Message}
use Rattle.bgp_recording.specs.declared.ordering.Exchange.{Exchange}
use Rattle.bgp_recording.specs.declared.state.State.{State}
use Rattle.bgp_recording.specs.Leads.{Pending}
use Rattle.bgp_recording.specs.States.{state_number}
use Rattle.bgp_judge.specs.declared.member.PlainMember.{PlainMember}
use Rattle.bgp_judge.specs.Chains.{BareNext, Reaches, bare}
use Rattle.bgp_judge.specs.Member.{Member, IsFree, fresh_member}
use Rattle.bgp_judge.specs.Plain.{Among}
use Rattle.bgp_orders.specs.declared.explained.Explained.{Explained}
use Rattle.bgp_orders.specs.declared.explained.Explained.TheVariants as answers
use Rattle.bgp_orders.specs.declared.node.Node.{Node as CodeNode}
use Rattle.bgp_orders.specs.declared.node.Spot.{Spot}
use Rattle.bgp_orders.specs.Explained.{VerdictOver, Yes, No, Unfinished, HasVerdictOver}
use Rattle.bgp_orders.specs.Many.{AreTooMany}
use Rattle.bgp_orders.specs.Nodes.{Node, Hears, Says, Ends, IsFirstNode, first_node}
use Rattle.bgp_orders.specs.Ways.{MayStart}

-- ---- rows

-- received messages alone lead from the one node to the other
abbrev pub HearsAll : Config → Node → List Message → Node → Type 0
HearsAll config n [] n2 = n ≡ n2
HearsAll config n (x ∷ later) n2 =
    (mid : Node) × Hears config n x mid × HearsAll config mid later n2

abbrev pub HearsOn : Config → Node → Node → Type 0
HearsOn config n n2 = (heard : List Message) × HearsAll config n heard n2

-- a sent message or the end leads from the one node to the other
abbrev pub Passes : Config → ℕ → Node → Node → Type 0
Passes config within n n2 =
    ((x : Message) × Says config within n x n2) ⊎ ((e : End) × Ends config within n e n2)

-- So many sent messages lead there, and received ones before, between and behind them. The end
-- counts as one more that is sent.
abbrev pub GoesBy : Config → ℕ → Node → ℕ → Node → Type 0
GoesBy config within n zero n2 = HearsOn config n n2
GoesBy config within n (suc count) n2 =
    (a : Node) × (b : Node) × GoesBy config within n count a × Passes config within a b
    × HearsOn config b n2

-- the node is in the row of so many sent messages
abbrev pub InRow : Config → ℕ → Exchange → ℕ → Node → Type 0
InRow config within exchange count n =
    (first : Node) × IsFirstNode config exchange first × GoesBy config within first count n

-- how many ends there are
abbrev pub count_of : Option End → ℕ
count_of None = 0
count_of (Some e) = 1

-- ---- lists of nodes

-- the end, if it is still to come
abbrev pub end_left : Bool → Option End → Option End
end_left true end = None
end_left false end = end

-- what isn't in the order yet at a spot
abbrev pub pending_at : Exchange → Spot → Pending
pending_at exchange spot = record {
  received = drop spot.place.received exchange.received.now;
  sent = drop spot.place.sent exchange.sent.now;
  end = end_left spot.has_ended exchange.end;
}

-- the node of a spot and a member
abbrev pub node_at : Exchange → Spot → Member → Node
node_at exchange spot m = record {
  received = drop spot.place.received exchange.received.now;
  sent = drop spot.place.sent exchange.sent.now;
  end = end_left spot.has_ended exchange.end;
  last = spot.last;
  state = spot.state;
  before = spot.before;
  member = bare m;
}

-- the node is one of those that the search keeps in one
abbrev pub IsOf : {X : Type 0} → Exchange → CodeNode X → Node → Type 0
IsOf exchange node n =
    (m : Member) × Among node.members.items m × (n ≡ node_at exchange node.spot m)

-- it is one of the list
abbrev pub IsIn : {X : Type 0} → Exchange → List (CodeNode X) → Node → Type 0
IsIn exchange nodes n = Has (λ node. IsOf exchange node n) nodes

-- it is one of those at this place of the list
abbrev pub IsOfPlace : {X : Type 0} → Exchange → List (CodeNode X) → ℕ → Node → Type 0
IsOfPlace exchange nodes place n = IsSomeAnd (slice_get nodes place) (λ node. IsOf exchange node n)

-- it is one of those that are made, if some are
abbrev pub IsMade : {X : Type 0} → Exchange → Option (CodeNode X) → Node → Type 0
IsMade exchange made n = IsSomeAnd made (λ node. IsOf exchange node n)

-- Nodes are appended to the list: only such ones, and all of them unless they stand in it.
pub record GainsNodes {X : Type 0} (exchange : Exchange) (old new : List (CodeNode X))
    (Also : Node → Type 0) : Type 0 where
  pub more : List (CodeNode X)
  pub joined : new ≡ old ++ more
  pub only : (n : Node) → IsIn exchange more n → Also n
  pub adds : (n : Node) → Also n → IsIn exchange new n

-- the records lead from the members to just these
abbrev pub LeadTo : {X : Type 0} → Config → List ShownRecord → List (PlainMember X)
    → List (PlainMember X) → Type 0
LeadTo config records members next =
    (m2 : Member) → Among next m2
    ↔ ((m : Member) × Among members m × Reaches config m records m2)

-- what received messages make of first nodes, and of those to which a row's nodes lead by what is
-- sent
abbrev pub InNextRow : {X : Type 0} → Config → ℕ → Exchange → List (CodeNode X)
    → List (CodeNode X) → Node → Type 0
InNextRow config within exchange row first n2 =
    (b : Node)
    × (IsIn exchange first b ⊎ ((a : Node) × IsIn exchange row a × Passes config within a b))
    × HearsOn config b n2

-- it is the first node of a way that begins in this state, if a session may
abbrev pub StartsIn : Config → Exchange → State → Node → Type 0
StartsIn config exchange start n =
    MayStart exchange start × (m : Member)
    × BareNext config (shown.Changed exchange.second 1 (state_number start)) fresh_member m
    × (n ≡ first_node exchange start m)

-- the list is the row of so many sent messages
abbrev pub IsRow : {X : Type 0} → Config → ℕ → Exchange → ℕ → List (CodeNode X) → Type 0
IsRow config within exchange count nodes =
    (n : Node) → IsIn exchange nodes n ↔ InRow config within exchange count n

-- a node of the list has a member
abbrev pub HasSome : {X : Type 0} → List (CodeNode X) → Type 0
HasSome nodes = Has (λ node. node.members.items ≢ []) nodes

-- a node of the list has no received message left, and its member has shown all
abbrev pub HasLast : {X : Type 0} → Exchange → List (CodeNode X) → Type 0
HasLast exchange nodes =
    (n : Node) × IsIn exchange nodes n × (n.received ≡ []) × IsFree n.member

-- ---- the answer

abbrev pub verdict_over : Explained → Option VerdictOver
verdict_over (answers.All true) = Some Yes
verdict_over (answers.All false) = Some Unfinished
verdict_over (answers.Only count) = Some (No count)
verdict_over answers.TooMany = None

-- the answer's verdict over all ways holds; if it has none, there are too many nodes
abbrev pub IsAnswer : Config → ℕ → Exchange → Explained → Type 0
IsAnswer config within exchange explained =
    MatchOption (verdict_over explained) (AreTooMany config within exchange)
    (HasVerdictOver config within exchange)
