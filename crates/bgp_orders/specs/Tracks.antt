-- Tracks: the steps of a walk that leads to a node, and how the search keeps them: for each node that
-- it reaches from which one it came.
use Rattle.std.specs.Prelude.{◌≡◌, ◌<◌, ◌≤◌, ◌+◌, ◌++◌, ◌⊎◌, ℕ, Bool, List, [], ◌∷◌, Some}
use Rattle.std.specs.Prelude.{IsTrue, drop, length, map, slice_get}
use Rattle.bgp_prefix.specs.Shown.{ShownRecord}
use Rattle.bgp_open.specs.declared.config.Config.{Config}
use Rattle.bgp_machine.specs.Lists.{Each}
use Rattle.bgp_recording.specs.declared.message.Message.{Message}
use Rattle.bgp_recording.specs.declared.ordering.Exchange.{Exchange}
use Rattle.bgp_recording.specs.declared.state.State.{State}
use Rattle.bgp_recording.specs.Tells.{Numbered, numbered_of}
use Rattle.bgp_judge.specs.Chains.{BareReaches}
use Rattle.bgp_judge.specs.Member.{IsFree, Member, fresh_member}
use Rattle.bgp_judge.specs.Plain.{Among}
use Rattle.bgp_orders.specs.declared.course.Course.{Course}
use Rattle.bgp_orders.specs.declared.course.Step.{Step}
use Rattle.bgp_orders.specs.declared.course.Step.TheVariants as steps
use Rattle.bgp_orders.specs.declared.node.Node.{Node as CodeNode}
use Rattle.bgp_orders.specs.declared.node.Spot.{Spot}
use Rattle.bgp_orders.specs.declared.tracing.Origin.{Origin}
use Rattle.bgp_orders.specs.declared.tracing.Origin.TheVariants as origins
use Rattle.bgp_orders.specs.Explained.{NoneIsWhole}
use Rattle.bgp_orders.specs.Many.{AreTooMany}
use Rattle.bgp_orders.specs.Nodes.{Hears, IsLast, Node}
use Rattle.bgp_orders.specs.Rows.{IsOfPlace, Passes, StartsIn, end_left}

-- ---- steps

-- the step leads from the one node to the other
abbrev pub StepsTo : Config → ℕ → Step → Node → Node → Type 0
StepsTo config within steps.Receive n n2 = (x : Message) × Hears config n x n2
StepsTo config within steps.Pass n n2 = Passes config within n n2

-- the steps do, one after another
abbrev pub GoesAlong : Config → ℕ → Node → List Step → Node → Type 0
GoesAlong config within n [] n2 = n ≡ n2
GoesAlong config within n (step ∷ later) n2 =
    (mid : Node) × StepsTo config within step n mid × GoesAlong config within mid later n2

-- the steps of a walk that begins in this state lead to the node
abbrev pub LeadsAlong : Config → ℕ → Exchange → State → List Step → Node → Type 0
LeadsAlong config within exchange start walked n =
    (first : Node) × StartsIn config exchange start first
    × GoesAlong config within first walked n

-- they lead to a node where nothing is left, and its member has shown all
abbrev pub LeadsToLast : Config → ℕ → Exchange → State → List Step → Type 0
LeadsToLast config within exchange start walked =
    (n : Node) × LeadsAlong config within exchange start walked n × IsLast n

-- no way is whole; or too many nodes are reached for it to be known
abbrev pub NoneIsFound : Config → ℕ → Exchange → Type 0
NoneIsFound config within exchange =
    NoneIsWhole config within exchange ⊎ AreTooMany config within exchange

-- ---- steps as the search keeps them, the last one first

abbrev pub LeadsBack : Config → ℕ → Exchange → State → List Step → Node → Type 0
LeadsBack config within exchange start [] n = StartsIn config exchange start n
LeadsBack config within exchange start (step ∷ back) n =
    (m : Node) × LeadsBack config within exchange start back m × StepsTo config within step m n

-- Back from this place of the trail there are just these steps, the last one first, and then a walk
-- begins in this state.
abbrev pub TracksBack : List Origin → ℕ → State → List Step → Type 0
TracksBack trail place start [] = slice_get trail place ≡ Some (origins.Start start)
TracksBack trail place start (step ∷ back) =
    (before : ℕ) × (slice_get trail place ≡ Some (origins.Behind step before))
    × (before < place) × TracksBack trail before start back

-- some steps lead back from there
abbrev pub IsTracked : List Origin → ℕ → Type 0
IsTracked trail place = (start : State) × (back : List Step) × TracksBack trail place start back

-- the steps back from there are those of a walk to the node
abbrev pub IsTrackOf : Config → ℕ → Exchange → List Origin → ℕ → Node → Type 0
IsTrackOf config within exchange trail place n =
    (start : State) × (back : List Step) × TracksBack trail place start back
    × LeadsBack config within exchange start back n

-- they are for each node of a row whose first one has this place
abbrev pub AreTracked : {X : Type 0} → Config → ℕ → Exchange → List Origin → ℕ
    → List (CodeNode X) → Type 0
AreTracked config within exchange trail base nodes =
    (i : ℕ) (n : Node) → IsOfPlace exchange nodes i n
    → IsTrackOf config within exchange trail (base + i) n

-- and the trail ends with that row
pub record IsTrailTo {X : Type 0} (config : Config) (within : ℕ) (exchange : Exchange)
    (trail : List Origin) (base : ℕ) (nodes : List (CodeNode X)) : Type 0 where
  pub tracked : AreTracked config within exchange trail base nodes
  pub ends : length trail ≡ base + length nodes

-- the trail has an origin more for each node more of a row that begins at this place, all of them
-- this one
pub record AreNoted (old new : List Origin) (base count : ℕ) (origin : Origin) : Type 0 where
  pub more : List Origin
  pub joined : new ≡ old ++ more
  pub each : Each (λ o. o ≡ origin) more
  pub ends : length old ≤ base + count → length new ≡ base + count

-- the nodes that it keeps have no received message left, and a member of them has shown all
abbrev pub IsLastOf : {X : Type 0} → Exchange → CodeNode X → Type 0
IsLastOf exchange c =
    (length exchange.received.now ≤ c.spot.place.received)
    × ((m : Member) × Among c.members.items m × IsFree m)

-- the steps back from there lead to a node where nothing is left, and its member has shown all
abbrev pub IsTrailToLast : Config → ℕ → Exchange → List Origin → ℕ → Type 0
IsTrailToLast config within exchange trail last =
    (n : Node) × IsTrackOf config within exchange trail last n × IsLast n

-- the walk to a node begins there
abbrev pub start_of : {X : Type 0} → CodeNode X → Origin
start_of c = origins.Start c.spot.state

-- ---- entries along a walk

-- what is left at a spot, with a member
abbrev pub node_with : Exchange → Spot → Member → Node
node_with exchange spot m = record {
  received = drop spot.place.received exchange.received.now;
  sent = drop spot.place.sent exchange.sent.now;
  end = end_left spot.has_ended exchange.end;
  last = spot.last;
  state = spot.state;
  before = spot.before;
  member = m;
}

abbrev pub shown_in : List Numbered → List ShownRecord
shown_in numbered = map (λ n. n.shown) numbered

-- the node is what is left at the spot, and the records lead to its member
pub record IsAlong (config : Config) (exchange : Exchange) (spot : Spot)
    (numbered : List Numbered) (n : Node) : Type 0 where
  pub stands : n ≡ node_with exchange spot n.member
  pub reaches : BareReaches config fresh_member (shown_in numbered) n.member

-- the course's entries lead to the node
abbrev pub IsAt : {X : Type 0} → Config → Exchange → Course X → Node → Type 0
IsAt config exchange course n =
    IsAlong config exchange course.spot (map numbered_of course.entries.items) n

-- if this step leads on from where the one course is, it may come next, and the other one is there
abbrev pub GoesOnBy : {X : Type 0} → Config → ℕ → Exchange → Step → Bool → Course X → Course X
    → Type 0
GoesOnBy config within exchange step may old new =
    (n n2 : Node) → IsAt config exchange old n → StepsTo config within step n n2
    → IsTrue may × IsAt config exchange new n2
