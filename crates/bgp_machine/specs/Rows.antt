-- The steps of single rows, and which rows a state has: what the contracts of functions about a row
-- say, from which those of the lists of steps follow.
use Rattle.std.specs.Prelude.{if◌then◌else◌, ◌≡◌, ◌⊎◌, ◌++◌, ◌↔◌, ℕ, false, true, List, [], ◌∷◌}
use Rattle.std.specs.Prelude.{Option, MatchOption}
use Rattle.bgp_open.specs.declared.config.Config.{Config}
use Rattle.bgp_open.specs.declared.link.Link.{Link}
use Rattle.bgp_rib.specs.Outcomes.{Outcomes}
use Rattle.bgp_rib.specs.Allowed.{Allows}
use Rattle.bgp_rib.specs.Changes.{RouteChanges}
use Rattle.bgp_rib.specs.Outcome.{Outcome, IsOutcome}
use Rattle.bgp_machine.specs.declared.step.Step.{Step}
use Rattle.bgp_machine.specs.declared.fsm.Fsm.{Fsm}
use Rattle.bgp_machine.specs.declared.fsm.Fsm.TheVariants as fsms
use Rattle.bgp_machine.specs.declared.state.HoldTimer.{HoldTimer}
use Rattle.bgp_machine.specs.declared.state.Head.{Head}
use Rattle.bgp_machine.specs.declared.state.Head.TheVariants.{Idle, Connect, Active, OpenSent}
use Rattle.bgp_machine.specs.declared.state.Head.TheVariants.{OpenConfirm, Established}
use Rattle.bgp_machine.specs.declared.hearing.Heard.{Heard}
use Rattle.bgp_machine.specs.declared.hearing.Heard.TheVariants.{Update}
use Rattle.bgp_machine.specs.declared.rows.HiddenRow.{HiddenRow}
use Rattle.bgp_machine.specs.declared.rows.HiddenRow.TheVariants.{Starts, Listens, Stops, Ceases}
use Rattle.bgp_machine.specs.declared.rows.HiddenRow.TheVariants.{RetryExpires, HoldExpires}
use Rattle.bgp_machine.specs.declared.rows.HiddenRow.TheVariants.{SendHoldExpires, KeepaliveExpires}
use Rattle.bgp_machine.specs.declared.rows.HiddenRow.TheVariants.{DelayExpires, ConnectionOpens}
use Rattle.bgp_machine.specs.declared.rows.HiddenRow.TheVariants.{ConnectionFails}
use Rattle.bgp_machine.specs.declared.rows.HiddenRow.TheVariants.{Announces, Notes}
use Rattle.bgp_machine.specs.declared.rows.ReceivedRow.{ReceivedRow}
use Rattle.bgp_machine.specs.declared.rows.ReceivedRow.TheVariants.{Ignores, Accepts, Overlooks}
use Rattle.bgp_machine.specs.declared.rows.ReceivedRow.TheVariants.{Collides, Drops, NamesFault}
use Rattle.bgp_machine.specs.declared.rows.ReceivedRow.TheVariants.{ReportsError, Establishes}
use Rattle.bgp_machine.specs.declared.rows.ReceivedRow.TheVariants.{Renews, Applies}
use Rattle.bgp_machine.specs.declared.want.Want.{Want}
use Rattle.bgp_machine.specs.Lists.{Has, Each, NoneTwice}
use Rattle.bgp_machine.specs.State.{Turn, fsm_of}
use Rattle.bgp_machine.specs.Step.{HiddenIn, ReceivedIn, changed, hidden_change}
use Rattle.bgp_machine.specs.Listed.{no_changes, IsStep, ShowsSome, changes_of}

-- the heads in one list: in Connect and Active the OPEN may be delayed from now on, where that is
-- allowed, and in Connect another try ends the delay
abbrev pub silent_heads : Config → Head → List Head
silent_heads config (Connect true) = Connect false ∷ Connect true ∷ []
silent_heads config (Connect false) =
    if config.parts.delay_open then Connect false ∷ Connect true ∷ [] else Connect false ∷ []
silent_heads config (Active true) = Active true ∷ []
silent_heads config (Active false) =
    if config.parts.delay_open then Active false ∷ Active true ∷ [] else Active false ∷ []
silent_heads config head = head ∷ []

-- a hidden row that shows a record
abbrev pub HiddenShown : Config → Head → ℕ → HiddenRow
    → List Want → Option (Fsm × Fsm) → Turn → Type 0
HiddenShown config head t row wants change turn =
    HiddenIn head config t row wants turn
    × (change ≡ hidden_change row (fsm_of head) (fsm_of turn.head)) × ShowsSome wants change

-- a row about a message that is heard
abbrev pub HeardShown : Head → ℕ → List ℕ → Heard → ReceivedRow
    → List Want → Option (Fsm × Fsm) → Turn → Type 0
HeardShown head t octets heard row wants change turn =
    ReceivedIn head t octets heard row wants turn
    × (change ≡ changed (fsm_of head) (fsm_of turn.head))

-- no step sends, shows and ends so
abbrev pub NoStep : (List Want → Option (Fsm × Fsm) → Turn → Type 0) → Type 0
NoStep Is =
    (wants : List Want) (change : Option (Fsm × Fsm)) (turn : Turn) → ¬ Is wants change turn

-- this step alone does
pub record IsOnly (Is : List Want → Option (Fsm × Fsm) → Turn → Type 0) (changes : RouteChanges)
    (x : Step) : Type 0 where
  pub is : (wants : List Want) × (change : Option (Fsm × Fsm)) × (turn : Turn)
      × Is wants change turn × IsStep changes x wants change turn
  pub only : (wants : List Want) (change : Option (Fsm × Fsm)) (turn : Turn)
      → Is wants change turn → IsStep changes x wants change turn

-- the one step that a row makes, if it makes one
abbrev pub Makes : (List Want → Option (Fsm × Fsm) → Turn → Type 0) → RouteChanges → Option Step
    → Type 0
Makes Is changes made = MatchOption made (NoStep Is) (λ x. IsOnly Is changes x)

abbrev pub MakesHidden : Config → Head → ℕ → HiddenRow → Option Step → Type 0
MakesHidden config head t row made = Makes (HiddenShown config head t row) no_changes made

abbrev pub MakesHeard : Head → ℕ → List ℕ → Heard → ReceivedRow → Option Step → Type 0
MakesHeard head t octets heard row made = Makes (HeardShown head t octets heard row) no_changes made

-- the steps of these rows
pub record ListsRows {R : Type 0} (Is : R → List Want → Option (Fsm × Fsm) → Turn → Type 0)
    (changes : RouteChanges) (rows : List R) (steps : List Step) : Type 0 where
  pub each : Each (λ x. (row : R) × (wants : List Want) × (change : Option (Fsm × Fsm))
      × (turn : Turn) × Is row wants change turn × IsStep changes x wants change turn) steps
  pub every : (row : R) → Has (λ r. r ≡ row) rows
      → (wants : List Want) (change : Option (Fsm × Fsm)) (turn : Turn)
      → Is row wants change turn → Has (λ x. IsStep changes x wants change turn) steps
  pub none_twice : NoneTwice steps

-- the step stands there already, or it is put at the end
abbrev pub AddsOne : Step → List Step → List Step → Type 0
AddsOne step old new =
    ((new ≡ old) × Has (λ x. x ≡ step) old)
    ⊎ ((new ≡ old ++ step ∷ []) × (¬ Has (λ x. x ≡ step) old))

-- the rows by which a state shows a record
abbrev pub shown_rows : Head → List HiddenRow
shown_rows Idle = Starts ∷ Listens ∷ Notes ∷ []
shown_rows (Connect delay) =
    Stops ∷ DelayExpires ∷ ConnectionOpens ∷ ConnectionFails ∷ Notes ∷ []
shown_rows (Active delay) =
    Stops ∷ Ceases ∷ RetryExpires ∷ DelayExpires ∷ ConnectionOpens ∷ ConnectionFails ∷ Notes ∷ []
shown_rows (OpenSent timer) = Ceases ∷ HoldExpires ∷ ConnectionFails ∷ Notes ∷ []
shown_rows (OpenConfirm link timer) =
    Ceases ∷ HoldExpires ∷ KeepaliveExpires ∷ ConnectionFails ∷ Notes ∷ []
shown_rows (Established link timer) =
    Ceases ∷ HoldExpires ∷ SendHoldExpires ∷ KeepaliveExpires ∷ ConnectionFails ∷ Announces
    ∷ Notes ∷ []

-- what a state does about this message depends on what an UPDATE says
abbrev pub NeedsOutcomes : Head → Heard → Type 0
NeedsOutcomes head heard = (fsm_of head ≡ fsms.Established) × (heard ≡ Update)

-- the rows about other messages
abbrev pub heard_rows : Head → List ReceivedRow
heard_rows Idle = Ignores ∷ []
heard_rows (Connect delay) = Accepts ∷ Drops ∷ NamesFault ∷ []
heard_rows (Active delay) = Accepts ∷ Drops ∷ NamesFault ∷ []
heard_rows (OpenSent timer) = Accepts ∷ Collides ∷ Drops ∷ NamesFault ∷ ReportsError ∷ []
heard_rows (OpenConfirm own timer) =
    Overlooks ∷ Collides ∷ Drops ∷ NamesFault ∷ ReportsError ∷ Establishes ∷ []
heard_rows (Established own timer) =
    Overlooks ∷ Collides ∷ Drops ∷ NamesFault ∷ ReportsError ∷ Renews ∷ []

-- the outcomes are those of an UPDATE
abbrev pub AreOutcomes : {X : Type 0} → Link → List ℕ → Outcomes X → Type 0
AreOutcomes link octets o = (x : Outcome) → Allows o x ↔ IsOutcome link octets x

abbrev pub UpdateShown : Link → HoldTimer → ℕ → List ℕ → ReceivedRow
    → List Want → Option (Fsm × Fsm) → Turn → Type 0
UpdateShown own timer t octets row wants change turn =
    HeardShown (Established own timer) t octets Update row wants change turn

abbrev pub MakesUpdate : {X : Type 0} → Link → HoldTimer → ℕ → List ℕ → Outcomes X → ReceivedRow
    → Option Step → Type 0
MakesUpdate own timer t octets o row made =
    Makes (UpdateShown own timer t octets row) (changes_of o.changes) made

-- the rows about an UPDATE in Established: one for each set of families that may be disabled
abbrev pub update_rows : List ReceivedRow
update_rows =
    NamesFault ∷ Applies (record { v4 = false; v6 = false })
    ∷ Applies (record { v4 = true; v6 = false }) ∷ Applies (record { v4 = false; v6 = true })
    ∷ Applies (record { v4 = true; v6 = true }) ∷ []
