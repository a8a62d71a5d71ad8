-- What all ways of an exchange say together: how many of its sent messages some way explains, and
-- how the session can have ended.
use Rattle.std.specs.Prelude.{◌≡◌, ◌<◌, ◌≤◌, ◌+◌, ◌++◌, ℕ, List, length}
use Rattle.bgp_prefix.specs.Shown.{ShownRecord}
use Rattle.bgp_open.specs.declared.config.Config.{Config}
use Rattle.bgp_machine.specs.Run.{Begins, End, IsComplete}
use Rattle.bgp_recording.specs.declared.ordering.Exchange.{Exchange}
use Rattle.bgp_recording.specs.declared.state.State.{State}
use Rattle.bgp_recording.specs.Allowed.{sent_in}
use Rattle.bgp_recording.specs.Tells.{Event, items_in}
use Rattle.bgp_recording.specs.Told.{IsTold}
use Rattle.bgp_orders.specs.Ways.{IsWay, records_of_front, records_of_way}

-- So many of the sent messages are explained: the records of some way, up to and with those of the
-- last of these messages, begin a run of the session machine.
pub record IsExplained (config : Config) (within : ℕ) (exchange : Exchange) (count : ℕ)
    : Type 0 where
  pub start : State
  pub front : List Event
  pub later : List Event
  pub way : IsWay within exchange start (front ++ later)
  pub counts : length (sent_in (items_in front)) ≡ count
  pub begins : Begins config (records_of_front exchange.second start front later)

-- the session can have ended so: some run shows just the records of some way, and ends so
pub record IsWhole (config : Config) (within : ℕ) (exchange : Exchange) (e : End) : Type 0 where
  pub start : State
  pub events : List Event
  pub way : IsWay within exchange start events
  pub complete : IsComplete config (records_of_way exchange.second start events) e

-- no run shows just the records of a way
abbrev pub NoneIsWhole : Config → ℕ → Exchange → Type 0
NoneIsWhole config within exchange = (e : End) → ¬ IsWhole config within exchange e

-- some run shows just these records
abbrev pub ShowARun : Config → List ShownRecord → Type 0
ShowARun config records = (e : End) × IsComplete config records e

-- the verdict over all ways
pub data VerdictOver : Type 0 where
  Yes : VerdictOver
  -- how many sent messages come before the first that no way explains
  No : ℕ → VerdictOver
  Unfinished : VerdictOver

-- this verdict over all ways holds
abbrev pub HasVerdictOver : Config → ℕ → Exchange → VerdictOver → Type 0
-- some run shows just the records of some way
HasVerdictOver config within exchange Yes = (e : End) × IsWhole config within exchange e
-- so many sent messages are explained, and there is one more, with which they aren't
HasVerdictOver config within exchange (No count) =
    (count < length exchange.sent.now) × IsExplained config within exchange count
    × (¬ IsExplained config within exchange (count + 1))
-- all sent messages are explained, and no run shows just the records of a way
HasVerdictOver config within exchange Unfinished =
    IsExplained config within exchange (length exchange.sent.now)
    × NoneIsWhole config within exchange

-- ---- the laws

-- two verdicts over all ways that hold of the same exchange are one
abbrev pub HasOneVerdictOver : Type 0
HasOneVerdictOver =
    (config : Config) (within : ℕ) (exchange : Exchange) (one other : VerdictOver)
    → HasVerdictOver config within exchange one → HasVerdictOver config within exchange other
    → one ≡ other

-- if what packets tell goes by a clock, it isn't so that none holds
abbrev pub NeverNoneOver : Type 0
NeverNoneOver =
    (config : Config) (within : ℕ) (exchange : Exchange) → IsTold exchange
    → ¬ ((verdict : VerdictOver) → ¬ HasVerdictOver config within exchange verdict)

-- what some way explains, some way explains of which more patience is asked
abbrev pub MorePatienceExplains : Type 0
MorePatienceExplains =
    (config : Config) (within more : ℕ) (exchange : Exchange) (count : ℕ) → within ≤ more
    → IsExplained config within exchange count → IsExplained config more exchange count

-- more patience keeps each end
abbrev pub MorePatienceKeepsEnds : Type 0
MorePatienceKeepsEnds =
    (config : Config) (within more : ℕ) (exchange : Exchange) (e : End) → within ≤ more
    → IsWhole config within exchange e → IsWhole config more exchange e

-- if a message is explained, each sent message before it is
abbrev pub FewerAreExplained : Type 0
FewerAreExplained =
    (config : Config) (within : ℕ) (exchange : Exchange) (count : ℕ)
    → IsExplained config within exchange (count + 1) → IsExplained config within exchange count
