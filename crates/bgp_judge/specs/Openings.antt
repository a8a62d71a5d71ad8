-- Lists of the steps that a record opens.
use Rattle.std.specs.Prelude.{◌≡◌, ◌≤◌, ◌⊎◌, ◌++◌, List, [], ◌∷◌, Option, length}
use Rattle.bgp_prefix.specs.Shown.{ShownRecord, Received, Sent, Changed}
use Rattle.bgp_wire.specs.Header.{header_of, type_of}
use Rattle.bgp_open.specs.declared.config.Config.{Config}
use Rattle.bgp_machine.specs.Changes.{RouteChanges}
use Rattle.bgp_machine.specs.declared.fsm.Fsm.{Fsm}
use Rattle.bgp_machine.specs.declared.state.Head.{Head}
use Rattle.bgp_machine.specs.declared.state.Head.TheVariants.{Established}
use Rattle.bgp_machine.specs.declared.step.Step.{Step}
use Rattle.bgp_machine.specs.declared.want.Want.{Want}
use Rattle.bgp_machine.specs.Listed.{IsStep, TakesMemory, turn_of}
use Rattle.bgp_machine.specs.Lists.{Has, Each}
use Rattle.bgp_machine.specs.State.{Turn, link_at}
use Rattle.bgp_machine.specs.Want.{wants_of}
use Rattle.bgp_judge.specs.declared.unshown.Unshown.{Unshown}
use Rattle.bgp_judge.specs.Next.{Opens}
use Rattle.bgp_judge.specs.Unshown.{PaysNothing, Leaves}

-- The steps are those of which the record is the first that they show, with what each has left to
-- show then, where the record's message has these changes: just those, and all of them.
pub record ListsOpenings (config : Config) (head : Head) (shown : ShownRecord)
    (changes : RouteChanges) (steps : List Step) : Type 0 where
  pub each : Each (λ x. Opens config head shown (wants_of x.wants) x.change
      (turn_of changes x.after)) steps
  pub every : (left : List Want) (still : Option (Fsm × Fsm)) (turn : Turn)
      → Opens config head shown left still turn → Has (λ x. IsStep changes x left still turn) steps

-- what the step has to show, its own message apart
abbrev pub unshown_of : Step → Unshown
unshown_of step = record { wants = step.wants; change = step.change }

-- a step of which the record is the first that it shows, and the same with what is left then
pub record IsOpened (config : Config) (head : Head) (shown : ShownRecord) (x y : Step)
    : Type 0 where
  pub leaves : Leaves config (link_at head) shown (unshown_of x) (unshown_of y)
  pub ends : y.after ≡ x.after

-- the step is put behind others as the record leaves it, if the record opens it
abbrev pub Keeps : Config → Head → ShownRecord → Step → List Step → List Step → Type 0
Keeps config head shown x old new =
    (PaysNothing config (link_at head) shown (unshown_of x) × (new ≡ old))
    ⊎ ((y : Step) × IsOpened config head shown x y × (new ≡ old ++ y ∷ []))

-- no message that was received
abbrev pub IsOwn : ShownRecord → Type 0
IsOwn (Received t octets) = ⊥
IsOwn (Sent t octets) = Unit {0}
IsOwn (Changed t old new) = Unit {0}

-- a message sent in Established whose header has the type of an UPDATE
abbrev pub IsAnnouncement : Head → ShownRecord → Type 0
IsAnnouncement (Established link timer) (Sent t octets) =
    (19 ≤ length octets) × (type_of (header_of octets) ≡ 2)
IsAnnouncement head shown = ⊥

-- to list them takes memory: for an UPDATE received in Established that may be applied
abbrev pub ListTakesMemory : Head → ShownRecord → Type 0
ListTakesMemory head (Received t octets) = TakesMemory head octets
ListTakesMemory head (Sent t octets) = ⊥
ListTakesMemory head (Changed t old new) = ⊥
