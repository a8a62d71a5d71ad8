-- Runs of the session machine: finite lists of steps, and the records that they show, joined.
use Rattle.std.specs.Prelude.{◌≡◌, ◌++◌, ℕ, Bool, false, IsTrue, List, [], ◌∷◌}
use Rattle.bgp_open.specs.Shown.{ShownRecord}
use Rattle.bgp_open.specs.declared.config.Config.{Config}
use Rattle.bgp_rib.specs.Routes.{Routes}
use Rattle.bgp_machine.specs.declared.fsm.Fsm.{Fsm}
use Rattle.bgp_machine.specs.declared.state.Head.{Head}
use Rattle.bgp_machine.specs.declared.state.Head.TheVariants.{Connect, Active}
use Rattle.bgp_machine.specs.declared.want.Want.{Want}
use Rattle.bgp_machine.specs.Lists.{Has, Each, NoneTwice}
use Rattle.bgp_machine.specs.Shows.{Shows}
use Rattle.bgp_machine.specs.State.{SessionState, fsm_of, fresh_state, link_at}
use Rattle.bgp_machine.specs.Step.{Event, Step, change_of}

-- a step that is taken
pub record Taken : Type 0 where
  pub before : SessionState
  pub second : ℕ
  pub event : Event
  pub wants : List Want
  pub after : SessionState
  pub shown : List ShownRecord

-- it is one of the machine's, and shows these records
pub record IsTaken (config : Config) (x : Taken) : Type 0 where
  pub step : Step config x.before x.second x.event x.wants x.after
  pub shows : Shows config (link_at x.before.head) x.event x.second x.wants
      (change_of x.event (fsm_of x.before.head) (fsm_of x.after.head)) x.shown

-- the steps lead from one state to another, each from where the last one ended
abbrev pub AreSteps : Config → SessionState → List Taken → SessionState → Type 0
AreSteps config s [] e = s ≡ e
AreSteps config s (x ∷ xs) e = (x.before ≡ s) × IsTaken config x × AreSteps config x.after xs e

abbrev pub records_of : List Taken → List ShownRecord
records_of [] = []
records_of (x ∷ xs) = x.shown ++ records_of xs

-- a run from a state shows just these records, and ends in that state
pub record Run (config : Config) (s : SessionState) (records : List ShownRecord) (e : SessionState)
    : Type 0 where
  pub steps : List Taken
  pub are_steps : AreSteps config s steps e
  pub shows : records_of steps ≡ records

-- what is told of where a run ends: the state's name, the routes and the disabled families
pub record End : Type 0 where
  pub fsm : Fsm
  pub routes : Routes

abbrev pub end_of : SessionState → End
end_of s = record { fsm = fsm_of s.head; routes = s.routes }

-- a run from the fresh state shows just these records, and ends so
abbrev pub IsComplete : Config → List ShownRecord → End → Type 0
IsComplete config records end =
    (e : SessionState) × Run config fresh_state records e × (end_of e ≡ end)

-- the records begin those of a run
abbrev pub Begins : Config → List ShownRecord → Type 0
Begins config records =
    (rest : List ShownRecord) × (e : SessionState) × Run config fresh_state (records ++ rest) e

-- steps lead from one state to the other, and show no record
abbrev pub Silent : Config → SessionState → SessionState → Type 0
Silent config s e = Run config s [] e

-- the OPEN is delayed
abbrev pub is_delayed : Head → Bool
is_delayed (Connect delay) = delay
is_delayed (Active delay) = delay
is_delayed head = false

-- none with a delay stands before one without
abbrev pub AreDelayedLast : List Head → Type 0
AreDelayedLast [] = Unit {0}
AreDelayedLast (head ∷ heads) =
    (IsTrue (is_delayed head) → Each (λ x. IsTrue (is_delayed x)) heads) × AreDelayedLast heads

-- the heads are those to which steps lead that show no record: just those, all of them, none twice,
-- and those without a delay first; the routes stay
pub record ListsSilent (config : Config) (s : SessionState) (heads : List Head) : Type 0 where
  pub each : Each (λ head. Silent config s (record s { head = head })) heads
  pub every : (e : SessionState) → Silent config s e
      → Has (λ head. record s { head = head } ≡ e) heads
  pub none_twice : NoneTwice heads
  pub in_order : AreDelayedLast heads
