-- Which records a compact tracker stands for.
use Rattle.std.specs.Prelude.{◌≡◌, ◌≢◌, true, false, List}
use Rattle.bgp_prefix.specs.Shown.{ShownRecord}
use Rattle.bgp_open.specs.declared.config.Config.{Config}
use Rattle.bgp_machine.specs.declared.fsm.Fsm.TheVariants as fsms
use Rattle.bgp_machine.specs.declared.state.Head.TheVariants as heads
use Rattle.bgp_machine.specs.declared.want.Wants.TheVariants.{Nothing}
use Rattle.bgp_rib.specs.Routes.{Routes, AreRoutes, no_routes}
use Rattle.bgp_judge.specs.Stands.{StandFor}
use Rattle.bgp_judge.specs.Told.{told}
use Rattle.bgp_compact.specs.declared.words.Words.{Words}
use Rattle.bgp_compact.specs.Disabled.{no_sets}
use Rattle.bgp_compact.specs.Members.{IsMember, no_falls}
use Rattle.bgp_compact.specs.Table.{IsTableMade}

-- the table disables no family, and is empty unless Established is shown
pub record IsTableOf (words : Words) (table : Routes) : Type 0 where
  pub are : AreRoutes table
  pub enabled : table.disabled ≡ record { v4 = false; v6 = false }
  pub empty : words.shown ≢ fsms.Established → table ≡ no_routes

-- Its members stand for the records, and its table is the one that these make.
pub record Stands (config : Config) (words : Words) (table : Routes) (records : List ShownRecord)
    : Type 0 where
  pub stand : StandFor config (IsMember words table) records
  pub is_table : IsTableOf words table
  pub shown_is : words.shown ≡ (told records).fsm
  pub made : IsTableMade config records table

-- a tracker that has this configuration stands for the records under that one
abbrev pub TrackerStands : Config → Words → Routes → Config → List ShownRecord → Type 0
TrackerStands own words table config records = (own ≡ config) × Stands config words table records

-- the words of the fresh state alone
abbrev pub fresh_words : Words
fresh_words = record {
  shown = fsms.Idle;
  left = fsms.Idle;
  head = heads.Idle;
  wants = Nothing;
  sets = no_sets;
  falls = record no_falls { silent = true };
}
