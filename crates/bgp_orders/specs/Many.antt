-- That more nodes are reached than the search looks at.
use Rattle.std.specs.Prelude.{◌<◌, ℕ, List, length}
use Rattle.bgp_open.specs.declared.config.Config.{Config}
use Rattle.bgp_machine.specs.Lists.{Each, NoneTwice}
use Rattle.bgp_recording.specs.declared.ordering.Exchange.{Exchange}
use Rattle.bgp_recording.specs.Allowed.{Item}
use Rattle.bgp_orders.specs.Nodes.{IsReachedBy, Node}

-- More nodes than so many are reached, no two of them equal.
pub record AreMoreNodes (config : Config) (within : ℕ) (exchange : Exchange) (most : ℕ) : Type 0
  where
    pub nodes : List Node
    pub none_twice : NoneTwice nodes
    pub reached : Each (λ n. (order : List Item) × IsReachedBy config within exchange order n)
        nodes
    pub more : most < length nodes

-- more than the search looks at
abbrev pub AreTooMany : Config → ℕ → Exchange → Type 0
AreTooMany config within exchange = AreMoreNodes config within exchange 1048576
