-- What more patience reaches: no fewer nodes.
use Rattle.std.specs.Prelude.{◌≤◌, ℕ, List}
use Rattle.bgp_open.specs.declared.config.Config.{Config}
use Rattle.bgp_recording.specs.declared.ordering.Exchange.{Exchange}
use Rattle.bgp_recording.specs.Allowed.{Item}
use Rattle.bgp_orders.specs.Many.{AreMoreNodes, AreTooMany}
use Rattle.bgp_orders.specs.Nodes.{IsReachedBy, Node}

-- a node that is reached by these items is, with more patience
abbrev pub MorePatienceReaches : Type 0
MorePatienceReaches =
    (config : Config) (within more : ℕ) (exchange : Exchange) (order : List Item) (n : Node)
    → within ≤ more → IsReachedBy config within exchange order n
    → IsReachedBy config more exchange order n

-- if more nodes than so many are reached, no two of them equal, they are with more patience
abbrev pub MorePatienceKeepsNodes : Type 0
MorePatienceKeepsNodes =
    (config : Config) (within more most : ℕ) (exchange : Exchange) → within ≤ more
    → AreMoreNodes config within exchange most → AreMoreNodes config more exchange most

-- and if there are more than the search looks at, there are with more patience
abbrev pub MorePatienceStaysTooLong : Type 0
MorePatienceStaysTooLong =
    (config : Config) (within more : ℕ) (exchange : Exchange) → within ≤ more
    → AreTooMany config within exchange → AreTooMany config more exchange
