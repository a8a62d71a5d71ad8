-- Lists of nodes as the search keeps them: in the order of how many received messages are behind
-- them, and no node twice.
use Rattle.std.specs.Prelude.{◌≡◌, ◌≢◌, ◌≤◌, ◌<◌, ◌++◌, ℕ, true, List, [], ◌∷◌, None}
use Rattle.std.specs.Prelude.{length}
use Rattle.bgp_machine.specs.Lists.{Each}
use Rattle.bgp_open.specs.declared.config.Config.{Config}
use Rattle.bgp_recording.specs.declared.ordering.Exchange.{Exchange}
use Rattle.bgp_judge.specs.Chains.{bare}
use Rattle.bgp_judge.specs.Member.{Member}
use Rattle.bgp_judge.specs.Plain.{Among}
use Rattle.bgp_orders.specs.declared.node.Node.{Node as CodeNode}
use Rattle.bgp_orders.specs.declared.node.Spot.{Spot}
use Rattle.bgp_orders.specs.Nodes.{Node}
use Rattle.bgp_orders.specs.Rows.{InNextRow, InRow, IsIn, IsOf}

-- at most so many received messages are behind each of them
abbrev pub AreUpTo : {X : Type 0} → ℕ → List (CodeNode X) → Type 0
AreUpTo most nodes = Each (λ c. c.spot.place.received ≤ most) nodes

abbrev pub AreInOrder : {X : Type 0} → List (CodeNode X) → Type 0
AreInOrder [] = Unit {0}
AreInOrder (c ∷ nodes) =
    Each (λ d. c.spot.place.received ≤ d.spot.place.received) nodes × AreInOrder nodes

-- no two of them keep one node
abbrev pub AreApart : {X : Type 0} → Exchange → List (CodeNode X) → Type 0
AreApart exchange [] = Unit {0}
AreApart exchange (c ∷ nodes) =
    ((n : Node) → IsOf exchange c n → ¬ IsIn exchange nodes n) × AreApart exchange nodes

-- the spot has no more behind it than the exchange has
pub record IsWithin (exchange : Exchange) (spot : Spot) : Type 0 where
  pub received : spot.place.received ≤ length exchange.received.now
  pub sent : spot.place.sent ≤ length exchange.sent.now
  pub ended : spot.has_ended ≡ true → exchange.end ≢ None

-- there are members, and none has routes
pub record IsPlain {X : Type 0} (exchange : Exchange) (c : CodeNode X) : Type 0 where
  pub spot : IsWithin exchange c.spot
  pub some : c.members.items ≢ []
  pub plain : (m : Member) → Among c.members.items m → bare m ≡ m

pub record IsTidy {X : Type 0} (exchange : Exchange) (nodes : List (CodeNode X)) : Type 0 where
  pub order : AreInOrder nodes
  pub apart : AreApart exchange nodes
  pub plain : Each (IsPlain exchange) nodes

-- nodes are appended that have so many received messages behind them, and it is tidy then
pub record StaysTidy {X : Type 0} (exchange : Exchange) (received : ℕ)
    (old new : List (CodeNode X)) : Type 0 where
  pub more : List (CodeNode X)
  pub joined : new ≡ old ++ more
  pub behind : Each (λ c. c.spot.place.received ≡ received) more
  pub tidy : IsTidy exchange new

-- a node of this spot and member is kept in it
abbrev pub KeepsOne : {X : Type 0} → Spot → Member → CodeNode X → Type 0
KeepsOne spot m c = (c.spot ≡ spot) × Among c.members.items m

-- ---- one step from a node

-- the node stands where so many received messages are behind it
abbrev pub StandsAt : {X : Type 0} → Exchange → ℕ → CodeNode X → Type 0
StandsAt exchange received c =
    IsWithin exchange c.spot × (c.spot.place.received ≡ received)

-- ---- rows

-- the next row, behind this one, has more nodes than so many
abbrev pub HasMoreNext : {X : Type 0} → Config → ℕ → Exchange → List (CodeNode X)
    → List (CodeNode X) → ℕ → Type 0
HasMoreNext {X} config within exchange row first most =
    (nodes : List (CodeNode X)) × IsTidy exchange nodes × (most < length nodes)
    × ((n : Node) → IsIn exchange nodes n → InNextRow config within exchange row first n)

-- the row of so many sent messages has more
abbrev pub HasMoreIn : Type 0 → Config → ℕ → Exchange → ℕ → ℕ → Type 0
HasMoreIn X config within exchange count most =
    (nodes : List (CodeNode X)) × IsTidy exchange nodes × (most < length nodes)
    × ((n : Node) → IsIn exchange nodes n → InRow config within exchange count n)
