-- Runs are joined.
use Rattle.std.proofs.Common.{◌≡◌, List, [], ◌∷◌, ◌++◌, refl, sym, ap, subst, ◌∙◌, append_assoc}
use Rattle.bgp_open.specs.Shown.{ShownRecord}
use Rattle.bgp_open.specs.declared.config.Config.{Config}
use Rattle.bgp_machine.specs.Joined.{RunsAreJoined, NoStepIsARun, StepAndRunAreJoined}
use Rattle.bgp_machine.specs.Run.{Taken, AreSteps, records_of}
use Rattle.bgp_machine.specs.State.{SessionState}

steps_joined : (config : Config) (xs ys : List Taken) (s m e : SessionState) → AreSteps config s xs m → AreSteps config m ys e
    → AreSteps config s (xs ++ ys) e
steps_joined config [] ys s m e p q = subst (λ (v : SessionState). AreSteps config v ys e) (sym p) q
steps_joined config (x ∷ xs) ys s m e p q = (p.0, p.1, steps_joined config xs ys x.after m e p.2 q)

records_joined : (xs ys : List Taken) → records_of (xs ++ ys) ≡ records_of xs ++ records_of ys
records_joined [] ys = refl
records_joined (x ∷ xs) ys =
    ap (λ (v : List ShownRecord). x.shown ++ v) (records_joined xs ys) ∙ sym (append_assoc x.shown (records_of xs) (records_of ys))

-- one run, and then another
pub run_joined : RunsAreJoined
run_joined config s m e xs ys p q = record {
  steps = p.steps ++ q.steps;
  are_steps = steps_joined config p.steps q.steps s m e p.are_steps q.are_steps;
  shows = records_joined p.steps q.steps ∙ (ap (λ (v : List ShownRecord). v ++ records_of q.steps) p.shows ∙ ap (λ (v : List ShownRecord). xs ++ v) q.shows);
}

-- no step
pub no_steps : NoStepIsARun
no_steps config s = record { steps = []; are_steps = refl; shows = refl }

-- one step, and then a run
pub step_first : StepAndRunAreJoined
step_first config x e later taken run = record {
  steps = x ∷ run.steps;
  are_steps = (refl, taken, run.are_steps);
  shows = ap (λ (v : List ShownRecord). x.shown ++ v) run.shows;
}
