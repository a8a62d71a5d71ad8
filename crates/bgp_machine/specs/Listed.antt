-- Lists of the steps that there are.
use Rattle.std.specs.Prelude.{◌≡◌, ℕ, List, [], Option, None, Some}
use Rattle.bgp_open.specs.declared.config.Config.{Config}
use Rattle.bgp_open.specs.declared.families.Families.{Families}
use Rattle.bgp_rib.specs.DeclaredChanges.{Changes}
use Rattle.bgp_rib.specs.Allowed.{changes_value}
use Rattle.bgp_rib.specs.Changes.{RouteChanges}
use Rattle.bgp_rib.specs.Outcome.{IsOnlyReset}
use Rattle.bgp_machine.specs.declared.step.After.{After}
use Rattle.bgp_machine.specs.declared.step.Routes.{Routes}
use Rattle.bgp_machine.specs.declared.step.Routes.TheVariants as routes
use Rattle.bgp_machine.specs.declared.step.Step.{Step}
use Rattle.bgp_machine.specs.declared.fsm.Fsm.{Fsm}
use Rattle.bgp_machine.specs.declared.state.Head.{Head}
use Rattle.bgp_machine.specs.declared.state.Head.TheVariants.{Established}
use Rattle.bgp_machine.specs.declared.rows.HiddenRow.{HiddenRow}
use Rattle.bgp_machine.specs.declared.want.Want.{Want}
use Rattle.bgp_machine.specs.Lists.{Has, Each, NoneTwice}
use Rattle.bgp_machine.specs.State.{RoutesTurn, Kept, Cleared, Given, Turn, fsm_of}
use Rattle.bgp_machine.specs.Step.{Event, Row, Hidden, Received, change_of}
use Rattle.bgp_machine.specs.Want.{wants_of}

-- no changes: those of a step without an UPDATE
abbrev pub no_changes : RouteChanges
no_changes = record { remove = []; put = [] }

-- how a step ends, where its message has these changes
abbrev pub routes_turn : RouteChanges → Routes → RoutesTurn
routes_turn changes routes.Kept = Kept
routes_turn changes routes.Cleared = Cleared
routes_turn changes (routes.Given families) = Given changes families

abbrev pub turn_of : RouteChanges → After → Turn
turn_of changes after = record { head = after.head; routes = routes_turn changes after.routes }

-- the step sends these, shows this change, and ends so
pub record IsStep (changes : RouteChanges) (step : Step) (wants : List Want)
    (change : Option (Fsm × Fsm)) (turn : Turn) : Type 0 where
  pub sends : wants_of step.wants ≡ wants
  pub shows : step.change ≡ change
  pub ends : turn_of changes step.after ≡ turn

-- The steps are those that send, show and end so, where the message has these changes: just those,
-- all of them, and none twice. Steps of equal effect are one.
pub record Lists (Is : List Want → Option (Fsm × Fsm) → Turn → Type 0) (changes : RouteChanges)
    (steps : List Step) : Type 0 where
  pub each : Each (λ x. (wants : List Want) × (change : Option (Fsm × Fsm)) × (turn : Turn)
      × Is wants change turn × IsStep changes x wants change turn) steps
  pub every : (wants : List Want) (change : Option (Fsm × Fsm)) (turn : Turn)
      → Is wants change turn → Has (λ x. IsStep changes x wants change turn) steps
  pub none_twice : NoneTwice steps

-- a row of the tables, and the change that it shows
abbrev pub IsShown : Head → Config → ℕ → Event → List Want → Option (Fsm × Fsm) → Turn → Type 0
IsShown head config t event wants change turn =
    Row head config t event wants turn
    × (change ≡ change_of event (fsm_of head) (fsm_of turn.head))

-- something is shown
abbrev pub ShowsSome : List Want → Option (Fsm × Fsm) → Type 0
ShowsSome [] None = ⊥
ShowsSome wants change = Unit {0}

-- the steps that a state takes by itself and that show a record
abbrev pub ListsHidden : Config → Head → ℕ → List Step → Type 0
ListsHidden config head t steps =
    Lists (λ wants change turn. (row : HiddenRow)
    × IsShown head config t (Hidden row) wants change turn × ShowsSome wants change)
    no_changes steps

-- the steps that a state takes about a message
abbrev pub ListsReceived : Config → Head → ℕ → List ℕ → RouteChanges → List Step → Type 0
ListsReceived config head t octets changes steps =
    Lists (IsShown head config t (Received octets)) changes steps

-- the step makes its message's changes
abbrev pub MakesChanges : Step → Type 0
MakesChanges step = (families : Families) × (step.after.routes ≡ routes.Given families)

-- the changes that stand beside a list of steps
abbrev pub changes_of : {X : Type 0} → Option (Changes X) → RouteChanges
changes_of None = no_changes
changes_of (Some changes) = changes_value changes

-- what a state does about octets takes memory: for an UPDATE in Established that may be applied
abbrev pub TakesMemory : Head → List ℕ → Type 0
TakesMemory (Established own timer) octets = ¬ IsOnlyReset own octets
TakesMemory head octets = ⊥
