-- A step that shows nothing lengthens a silent run.
use Rattle.std.proofs.Common.{◌≡◌, List, [], ◌∷◌, ◌++◌, refl, ap}
use Rattle.bgp_prefix.specs.Shown.{ShownRecord}
use Rattle.bgp_open.specs.declared.config.Config.{Config}
use Rattle.bgp_machine.specs.Run.{Taken, IsTaken, Silent}
use Rattle.bgp_machine.specs.State.{SessionState}
use Rattle.bgp_machine.proofs.JoinedRuns.{run_joined}

-- silence, and then one more step that shows nothing
pub silent_longer : (config : Config) (s : SessionState) (x : Taken) → Silent config s x.before → IsTaken config x → x.shown ≡ []
    → Silent config s x.after
silent_longer config s x silent taken none =
    run_joined config s x.before x.after [] [] silent (record {
      steps = x ∷ [];
      are_steps = (refl, taken, refl);
      shows = ap (λ (v : List ShownRecord). v ++ []) none;
    })
