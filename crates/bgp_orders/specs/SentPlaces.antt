-- The place of a sent message: what could have been sent in it, over all ways that explain the
-- messages before it.
use Rattle.std.specs.Prelude.{◌≡◌, ◌++◌, ℕ, List, [], ◌∷◌, drop, length}
use Rattle.bgp_prefix.specs.Shown as shown
use Rattle.bgp_open.specs.declared.config.Config.{Config}
use Rattle.bgp_machine.specs.Lists.{Each, NoneTwice}
use Rattle.bgp_machine.specs.Run.{Begins}
use Rattle.bgp_recording.specs.declared.message.Message.{Message}
use Rattle.bgp_recording.specs.declared.ordering.Exchange.{Exchange}
use Rattle.bgp_recording.specs.declared.state.State.{State}
use Rattle.bgp_recording.specs.Allowed.{Sent, sent_in}
use Rattle.bgp_recording.specs.First.{IsFirst}
use Rattle.bgp_recording.specs.Leads.{MaySendNext}
use Rattle.bgp_recording.specs.Tells.{Event, Passed, items_in}
use Rattle.bgp_judge.specs.Member.{Member}
use Rattle.bgp_judge.specs.Next.{Next}
use Rattle.bgp_judge.specs.Plain.{Among}
use Rattle.bgp_orders.specs.declared.node.Node.{Node as CodeNode}
use Rattle.bgp_orders.specs.declared.sent_place.SentPlace.{SentPlace}
use Rattle.bgp_orders.specs.Nodes.{Node}
use Rattle.bgp_orders.specs.Rows.{InRow, IsRow, pending_at}
use Rattle.bgp_orders.specs.Tidy.{IsTidy}
use Rattle.bgp_orders.specs.Ways.{IsWay, records_of_front}

-- These octets could have been sent in the place of the message behind so many sent ones, at its
-- second: up to that place the records of some way begin a run of the session machine, and with
-- these octets sent there they do, too.
pub record CouldBeSent (config : Config) (within : ℕ) (exchange : Exchange) (before : ℕ)
    (octets : List ℕ) : Type 0 where
  pub start : State
  pub front : List Event
  pub message : Message
  pub later : List Event
  pub way : IsWay within exchange start (front ++ Passed message.second (Sent message) ∷ later)
  pub counts : length (sent_in (items_in front)) ≡ before
  pub begins : Begins config
      (records_of_front exchange.second start front (Passed message.second (Sent message) ∷ later)
      ++ shown.Sent message.second octets ∷ [])

-- ---- nodes

-- the next message may be sent at the node, and these octets in its place lead a member on
pub record Takes {X : Type 0} (config : Config) (within : ℕ) (exchange : Exchange)
    (octets : List ℕ) (node : CodeNode X) : Type 0 where
  pub message : Message
  pub first : IsFirst (drop node.spot.place.sent exchange.sent.now) message
  pub may : MaySendNext within (pending_at exchange node.spot)
  pub member : Member
  pub among : Among node.members.items member
  pub next : Member
  pub leads : Next config (shown.Sent message.second octets) member next

-- its nodes are the row of so many sent messages, none of them twice
pub record IsSentPlace {X : Type 0} (config : Config) (within : ℕ) (exchange : Exchange)
    (before : ℕ) (place : SentPlace X) : Type 0 where
  pub same_config : place.search.config ≡ config
  pub same_within : place.search.within ≡ within
  pub same_exchange : place.search.exchange ≡ exchange
  pub row : IsRow config within exchange before place.nodes.items
  pub tidy : IsTidy exchange place.nodes.items

-- so many nodes are reached with so many sent messages, no two of them equal
pub record AreReached (config : Config) (within : ℕ) (exchange : Exchange) (before total : ℕ)
    : Type 0 where
  pub nodes : List Node
  pub none_twice : NoneTwice nodes
  pub in_row : Each (λ n. InRow config within exchange before n) nodes
  pub count : length nodes ≡ total
