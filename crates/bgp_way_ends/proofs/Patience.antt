-- More patience reaches no fewer nodes.
use Rattle.std.proofs.Common.{◌≤◌, ℕ, List, [], ◌∷◌, arith}
use Rattle.bgp_open.specs.declared.config.Config.{Config}
use Rattle.bgp_machine.specs.Lists.{Each}
use Rattle.bgp_recording.specs.declared.message.Message.{Message}
use Rattle.bgp_recording.specs.declared.ordering.Exchange.{Exchange}
use Rattle.bgp_recording.specs.Allowed.{Ended, Item, Received, Sent}
use Rattle.bgp_recording.specs.Leads.{MayPass}
use Rattle.bgp_orders.specs.Nodes.{Goes, IsReachedBy, Leads, Node}
use Rattle.bgp_way_ends.specs.Patience.{MorePatienceKeepsNodes, MorePatienceReaches, MorePatienceStaysTooLong}

pass_more : (within more second : ℕ) (received : List Message) → within ≤ more → MayPass within second received → MayPass more second received
pass_more within more second [] le may = tt
pass_more within more second (r ∷ rs) le may = omega (arith, le, may)

leads_more : (config : Config) (within more : ℕ) (item : Item) (n n2 : Node) → within ≤ more → Leads config within n item n2 → Leads config more n item n2
leads_more config within more (Received x) n n2 le l = l
leads_more config within more (Sent x) n n2 le (left, is, may, m, reaches, same) = (left, is, pass_more within more x.second n.received le may, m, reaches, same)
leads_more config within more (Ended e) n n2 le (is, none, may, m, reaches, same) = (is, none, pass_more within more e.second n.received le may, m, reaches, same)

goes_more : (config : Config) (within more : ℕ) (items : List Item) (n n2 : Node) → within ≤ more → Goes config within n items n2 → Goes config more n items n2
goes_more config within more [] n n2 le e = e
goes_more config within more (item ∷ later) n n2 le (mid, leads, rest) =
    (mid, leads_more config within more item n mid le leads, goes_more config within more later mid n2 le rest)

pub more_reaches : MorePatienceReaches
more_reaches config within more exchange order n le (first, is, goes) = (first, is, goes_more config within more order first n le goes)

each_more : (config : Config) (within more : ℕ) (exchange : Exchange) (nodes : List Node) → within ≤ more
    → Each (λ n. (order : List Item) × IsReachedBy config within exchange order n) nodes → Each (λ n. (order : List Item) × IsReachedBy config more exchange order n) nodes
each_more config within more exchange [] le each = tt
each_more config within more exchange (n ∷ nodes) le ((order, (first, is, goes)), rest) =
    ((order, (first, is, goes_more config within more order first n le goes)), each_more config within more exchange nodes le rest)

pub keeps_nodes : MorePatienceKeepsNodes
keeps_nodes config within more most exchange le many = record {
  nodes = many.nodes;
  none_twice = many.none_twice;
  reached = each_more config within more exchange many.nodes le many.reached;
  more = many.more;
}

pub stays_too_long : MorePatienceStaysTooLong
stays_too_long config within more exchange le many = keeps_nodes config within more 1048576 exchange le many
