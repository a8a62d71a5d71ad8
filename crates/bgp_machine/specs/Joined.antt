-- Runs are joined: what stands above the definition of a run.
use Rattle.std.specs.Prelude.{◌++◌, List, []}
use Rattle.bgp_open.specs.Shown.{ShownRecord}
use Rattle.bgp_open.specs.declared.config.Config.{Config}
use Rattle.bgp_machine.specs.Run.{Taken, IsTaken, Run}
use Rattle.bgp_machine.specs.State.{SessionState}

-- a run, and then another from the state in which it ended, are one run: it shows the records of
-- the first, and then those of the second
abbrev pub RunsAreJoined : Type 0
RunsAreJoined =
    (config : Config) (s m e : SessionState) (records later : List ShownRecord)
    → Run config s records m → Run config m later e → Run config s (records ++ later) e

-- no step is a run from each state to itself, and shows nothing
abbrev pub NoStepIsARun : Type 0
NoStepIsARun = (config : Config) (s : SessionState) → Run config s [] s

-- a step that is taken, and then a run from the state in which it ended, are one run
abbrev pub StepAndRunAreJoined : Type 0
StepAndRunAreJoined =
    (config : Config) (x : Taken) (e : SessionState) (later : List ShownRecord)
    → IsTaken config x → Run config x.after later e → Run config x.before (x.shown ++ later) e
