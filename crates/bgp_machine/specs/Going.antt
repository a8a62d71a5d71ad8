-- Where a record leads that opens a step: all steps that it opens and that don't fall to Idle go
-- one way. They end in one head, with the same left to send; they differ alone in the families that
-- they disable.
use Rattle.std.specs.Prelude.{◌≡◌, ◌≢◌, ◌⊎◌, ◌==◌, if◌then◌else◌, ℕ, List, [], ◌∷◌, Option, None}
use Rattle.std.specs.Prelude.{Some, false}
use Rattle.bgp_open.specs.Shown.{ShownRecord, Changed, second_of}
use Rattle.bgp_open.specs.declared.config.Config.{Config}
use Rattle.bgp_open.specs.declared.families.Families.{Families}
use Rattle.bgp_rib.specs.Changes.{RouteChanges}
use Rattle.bgp_rib.specs.Outcome.{IsOutcome, Applied}
use Rattle.bgp_machine.specs.declared.fsm.Fsm.{Fsm}
use Rattle.bgp_machine.specs.declared.fsm.Fsm.TheVariants as fsms
use Rattle.bgp_machine.specs.declared.state.Head.{Head}
use Rattle.bgp_machine.specs.declared.state.Head.TheVariants.{Idle, Connect, Active, OpenSent}
use Rattle.bgp_machine.specs.declared.state.Head.TheVariants.{OpenConfirm, Established}
use Rattle.bgp_machine.specs.declared.hearing.Heard.{Heard}
use Rattle.bgp_machine.specs.declared.hearing.Heard.TheVariants as heard
use Rattle.bgp_machine.specs.declared.rows.HiddenRow.{HiddenRow}
use Rattle.bgp_machine.specs.declared.rows.ReceivedRow.{ReceivedRow}
use Rattle.bgp_machine.specs.declared.want.FaultSet.{FaultSet}
use Rattle.bgp_machine.specs.declared.want.Unexpected.TheVariants.{InOpenSent, InOpenConfirm}
use Rattle.bgp_machine.specs.declared.want.Unexpected.TheVariants.{InEstablished}
use Rattle.bgp_machine.specs.declared.want.Want.{Want}
use Rattle.bgp_machine.specs.declared.want.Want.TheVariants as wants
use Rattle.bgp_machine.specs.Shows.{Pays}
use Rattle.bgp_machine.specs.State.{RoutesTurn, Turn, Kept, Given, fsm_of, link_at, enters, falls}
use Rattle.bgp_machine.specs.State.{waiting, settled, renewed}
use Rattle.bgp_machine.specs.Step.{HiddenIn, ReceivedIn, changed, hidden_change}

-- the state with this number
abbrev pub fsm_at : ℕ → Option Fsm
fsm_at n =
    if n == 1 then Some fsms.Idle
    else if n == 2 then Some fsms.Connect
    else if n == 3 then Some fsms.Active
    else if n == 4 then Some fsms.OpenSent
    else if n == 5 then Some fsms.OpenConfirm
    else if n == 6 then Some fsms.Established
    else None

-- the state that a record tells, if it tells one
abbrev pub told : ShownRecord → Option Fsm
told (Changed t old new) = fsm_at new
told shown = None

-- the state that was shown last, after a record
abbrev pub shown_after : Fsm → Option Fsm → Fsm
shown_after old None = old
shown_after old (Some new) = new

-- without its delay
abbrev pub undelayed : Head → Head
undelayed (Connect delay) = Connect false
undelayed (Active delay) = Active false
undelayed head = head

-- ---- a record that isn't a received message

-- a change to Connect or Active leads there; else from Connect and Active the way leads to
-- OpenSent, and from OpenSent on the head stays
abbrev pub going : Config → Head → ℕ → Option Fsm → Head
going config head t (Some fsms.Connect) = Connect false
going config head t (Some fsms.Active) = Active false
going config (Connect delay) t change = waiting config t
going config (Active delay) t change = waiting config t
going config head t change = head

-- and the OPEN is still to be sent, where the change to OpenSent is told first
abbrev pub going_wants : Head → Option Fsm → List Want
going_wants (Connect delay) (Some fsms.OpenSent) = wants.OwnOpen ∷ []
going_wants (Active delay) (Some fsms.OpenSent) = wants.OwnOpen ∷ []
going_wants head change = []

-- ---- a received message

abbrev pub going_on : Head → ℕ → Heard → Head
going_on (Connect delay) t (heard.ValidOpen link errors) = OpenConfirm link (settled link t)
going_on (Active delay) t (heard.ValidOpen link errors) = OpenConfirm link (settled link t)
going_on (OpenSent timer) t (heard.ValidOpen link errors) = OpenConfirm link (settled link t)
going_on (OpenConfirm link timer) t heard.Keepalive = Established link (renewed timer t)
going_on (Established link timer) t heard.Keepalive = Established link (renewed timer t)
going_on (Established link timer) t heard.Update = Established link (renewed timer t)
going_on head t message = head

abbrev pub going_on_wants : Head → Heard → List Want
going_on_wants (Connect delay) message = wants.OwnOpen ∷ wants.KeepAlive ∷ []
going_on_wants (Active delay) message = wants.OwnOpen ∷ wants.KeepAlive ∷ []
going_on_wants (OpenSent timer) message = wants.KeepAlive ∷ []
going_on_wants head message = []

-- ---- the law

-- the error that a message is which the state doesn't expect
abbrev pub error_at : Head → List Want
error_at (OpenSent timer) = wants.MachineError InOpenSent ∷ []
error_at (OpenConfirm link timer) = wants.MachineError InOpenConfirm ∷ []
error_at (Established link timer) = wants.MachineError InEstablished ∷ []
error_at head = []

-- what a step to Idle still sends: nothing, or one of these
pub data Fall : Type 0 where
  Silently : Fall
  Ceased : Fall
  Expired : Fall
  SendExpired : Fall
  Erred : Fall
  Faulted : FaultSet → Fall

abbrev pub fall_wants : Head → Fall → List Want
fall_wants head Silently = []
fall_wants head Ceased = wants.Cease ∷ []
fall_wants head Expired = wants.HoldExpired ∷ []
fall_wants head SendExpired = wants.SendHoldExpired ∷ []
fall_wants head Erred = error_at head
fall_wants head (Faulted faults) = wants.Faults faults ∷ []

-- the step ends in the fresh state, or leaves Idle as it is
pub record Falling (head : Head) (left : List Want) (turn : Turn) : Type 0 where
  pub ends : (turn ≡ falls) ⊎ ((head ≡ Idle) × (turn ≡ enters Idle))
  pub fall : Fall
  pub wants : left ≡ fall_wants head fall

-- the step goes the one way; the routes stay
pub record Going (config : Config) (head : Head) (t : ℕ) (change : Option Fsm) (left : List Want)
    (turn : Turn) : Type 0 where
  pub head_after : undelayed turn.head ≡ going config head t change
  pub wants : left ≡ going_wants head change
  pub routes : turn.routes ≡ Kept
  pub is_up : fsm_of turn.head ≢ fsms.Idle

-- The routes stay; but an UPDATE in Established gives them its one list of changes, and then
-- disables families.
abbrev pub GoOnWith : Head → List ℕ → Heard → RoutesTurn → Type 0
GoOnWith (Established link timer) octets heard.Update routes =
    (changes : RouteChanges) × (families : Families)
    × IsOutcome link octets (Applied changes families) × (routes ≡ Given changes families)
GoOnWith head octets message routes = routes ≡ Kept

-- it goes the one way about a message
pub record GoingOn (head : Head) (t : ℕ) (octets : List ℕ) (message : Heard) (left : List Want)
    (turn : Turn) : Type 0 where
  pub head_after : turn.head ≡ going_on head t message
  pub wants : left ≡ going_on_wants head message
  pub routes : GoOnWith head octets message turn.routes
  pub is_up : fsm_of turn.head ≢ fsms.Idle

-- of a step which a record opens, and what it then owes
pub record Shape (config : Config) (head : Head) (shown : ShownRecord) (left : List Want)
    (change : Option (Fsm × Fsm)) (turn : Turn) : Type 0 where
  pub is_owed : change ≡ changed (shown_after (fsm_of head) (told shown)) (fsm_of turn.head)
  pub way : Falling head left turn ⊎ Going config head (second_of shown) (told shown) left turn

abbrev pub HiddenShape : Type 0
HiddenShape =
    (config : Config) (head : Head) (shown : ShownRecord) (row : HiddenRow)
    (sends left : List Want) (change : Option (Fsm × Fsm)) (turn : Turn)
    → HiddenIn head config (second_of shown) row sends turn
    → Pays config (link_at head) shown sends
    (hidden_change row (fsm_of head) (fsm_of turn.head)) left change
    → Shape config head shown left change turn

abbrev pub ReceivedShape : Type 0
ReceivedShape =
    (head : Head) (t : ℕ) (octets : List ℕ) (message : Heard) (row : ReceivedRow)
    (sends : List Want) (turn : Turn)
    → ReceivedIn head t octets message row sends turn
    → Falling head sends turn ⊎ GoingOn head t octets message sends turn
