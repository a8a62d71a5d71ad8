-- The reason of a verdict: what could have stood in the place of a record that is impossible, and
-- whether something is owed.
use Rattle.std.specs.Prelude.{◌↔◌, ◌++◌, List, [], ◌∷◌, IsTrue}
use Rattle.bgp_prefix.specs.Shown.{ShownRecord}
use Rattle.bgp_open.specs.declared.config.Config.{Config}
use Rattle.bgp_machine.specs.Run.{Begins, End, IsComplete}
use Rattle.bgp_judge.specs.Verdict.{HasVerdict, Unfinished}
use Rattle.bgp_reason.specs.declared.kinds.Possible.{Possible}
use Rattle.bgp_reason.specs.Following.{MayFollow}
use Rattle.bgp_reason.specs.Possible.{ArePossible, IsAmong, IsCapturable}
use Rattle.bgp_reason.specs.Sending.{sending_link}

-- where records begin a run, something may follow that a capture can hold
abbrev pub SomethingMayFollow : Type 0
SomethingMayFollow =
    (config : Config) (records : List ShownRecord) → Begins config records
    → (shown : ShownRecord) × IsCapturable config records shown × MayFollow config records shown

-- A record with which records begin no run is none of those that are possible in its place; and
-- some other is.
abbrev pub NoHasAReason : Type 0
NoHasAReason =
    (config : Config) (records : List ShownRecord) (possible : Possible) (shown : ShownRecord)
    → ArePossible config records possible → Begins config records
    → IsCapturable config records shown → ¬ Begins config (records ++ shown ∷ [])
    → (¬ IsAmong config (sending_link config records) possible shown)
    × ((other : ShownRecord) × IsAmong config (sending_link config records) possible other)

-- a message may be received just where some run ends
abbrev pub MessageWhereARunEnds : Type 0
MessageWhereARunEnds =
    (config : Config) (records : List ShownRecord) (possible : Possible)
    → ArePossible config records possible
    → IsTrue possible.message ↔ ((e : End) × IsComplete config records e)

-- so something is owed just where the verdict on the records is unfinished
abbrev pub OwedWhereUnfinished : Type 0
OwedWhereUnfinished =
    (config : Config) (records : List ShownRecord) (possible : Possible)
    → ArePossible config records possible → Begins config records
    → (¬ IsTrue possible.message) ↔ HasVerdict config records Unfinished
