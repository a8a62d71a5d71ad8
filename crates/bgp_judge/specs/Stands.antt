-- Which records members stand for: those of which every continuation is one of theirs, and no
-- other.
use Rattle.std.specs.Prelude.{◌≡◌, ◌↔◌, ◌++◌, List}
use Rattle.bgp_prefix.specs.Shown.{ShownRecord}
use Rattle.bgp_open.specs.declared.config.Config.{Config}
use Rattle.bgp_machine.specs.Lists.{Each}
use Rattle.bgp_machine.specs.Owed.{CanBeMet}
use Rattle.bgp_machine.specs.Run.{Run}
use Rattle.bgp_machine.specs.Shows.{PaysAll}
use Rattle.bgp_machine.specs.State.{SessionState, fresh_state}
use Rattle.bgp_judge.specs.Member.{Member}

-- The member goes on with these records and ends in that state: the first of them pay what it has
-- left to show, and a run from its state shows the others.
pub record Goes (config : Config) (m : Member) (records : List ShownRecord) (e : SessionState)
    : Type 0 where
  pub paid : List ShownRecord
  pub later : List ShownRecord
  pub parts : paid ++ later ≡ records
  pub pays : PaysAll config m.link m.wants m.change paid
  pub run : Run config m.state later e

-- The members stand for the records. Whatever follows: a run shows the records and then that, and
-- ends in a state, exactly where some member goes on with that and ends there. And what a member
-- has left to send, some messages are.
pub record StandFor (config : Config) (Is : Member → Type 0) (records : List ShownRecord)
    : Type 0 where
  pub goes_on : (rest : List ShownRecord) (e : SessionState)
      → ((m : Member) × Is m × Goes config m rest e)
      ↔ Run config fresh_state (records ++ rest) e
  pub can_be_met : (m : Member) → Is m → Each (CanBeMet config m.link) m.wants
