-- A row that ends in one way makes one step, or none where its guard fails.
use Rattle.std.proofs.Common.{◌≡◌, ℕ, ◌↔◌, inl, inr, Bool, true, false, if◌then◌else◌, IsTrue, List, [], ◌∷◌, Option, None, Some, refl, ap, sym, subst, ◌∙◌}
use Rattle.bgp_open.specs.declared.config.Config.{Config}
use Rattle.bgp_machine.specs.declared.fsm.Fsm.TheVariants as fsms
use Rattle.bgp_machine.specs.declared.rows.HiddenRow.{HiddenRow}
use Rattle.bgp_machine.specs.declared.state.Head.{Head}
use Rattle.bgp_machine.specs.declared.step.Step.{Step}
use Rattle.bgp_machine.specs.declared.want.Want.{Want}
use Rattle.bgp_machine.specs.Lists.{Has}
use Rattle.bgp_machine.specs.State.{Turn, fsm_of, enters}
use Rattle.bgp_machine.specs.Step.{HiddenIn, changed, failed, hidden_change}
use Rattle.bgp_machine.specs.Listed.{IsStep, ShowsSome, no_changes}
use Rattle.bgp_machine.specs.Rows.{HiddenShown, IsOnly, MakesHidden, NoStep, shown_rows}
use Rattle.bgp_machine.proofs.EachRow.{each_shown}

-- the row ends in this way alone, where P holds
abbrev pub EndsOnly : Config → Head → ℕ → HiddenRow → Type 0 → List Want → Turn → Type 0
EndsOnly config head t row P ws u = (w : List Want) (v : Turn) → HiddenIn head config t row w v → P × (w ≡ ws) × (v ≡ u)

-- the step that such a row makes
pub one_step : (config : Config) (head : Head) (t : ℕ) (row is : HiddenRow) (x : Step) (ws : List Want) (u : Turn)
    → row ≡ is → HiddenIn head config t is ws u → ((w : List Want) (v : Turn) → HiddenIn head config t is w v → (w ≡ ws) × (v ≡ u))
    → ShowsSome ws (hidden_change is (fsm_of head) (fsm_of u.head))
    → IsStep no_changes x ws (hidden_change is (fsm_of head) (fsm_of u.head)) u
    → IsOnly (HiddenShown config head t row) no_changes x
one_step config head t row is x ws u e holds alone shows step =
    subst (λ (r : HiddenRow). IsOnly (HiddenShown config head t r) no_changes x) (sym e) (record {
      is = (ws, hidden_change is (fsm_of head) (fsm_of u.head), u, (holds, refl, shows), step);
      only = λ w c v h. let same = alone w v h.0 in record {
        sends = step.sends ∙ sym same.0;
        shows = step.shows ∙ sym (h.1 ∙ ap (λ (z : Turn). hidden_change is (fsm_of head) (fsm_of z.head)) same.1);
        ends = step.ends ∙ sym same.1;
      };
    })

-- and behind a guard
pub guarded_step : (config : Config) (head : Head) (t : ℕ) (row is : HiddenRow) (P : Type 0) (guard : Bool) (made : Option Step) (x : Step) (ws : List Want) (u : Turn)
    → row ≡ is → IsTrue guard ↔ P → made ≡ (if guard then Some x else None)
    → (P → HiddenIn head config t is ws u) → EndsOnly config head t is P ws u
    → ShowsSome ws (hidden_change is (fsm_of head) (fsm_of u.head))
    → IsStep no_changes x ws (hidden_change is (fsm_of head) (fsm_of u.head)) u
    → MakesHidden config head t row made
guarded_step config head t row is P true made x ws u e guards makes holds alone shows step =
    subst (MakesHidden config head t row) (sym makes) (one_step config head t row is x ws u e (holds (guards.0 refl)) (λ w v h. ((alone w v h).1, (alone w v h).2)) shows step)
guarded_step config head t row is P false made x ws u e guards makes holds alone shows step =
    subst (MakesHidden config head t row) (sym makes)
    (λ w c v h. let p = alone w v (subst (λ (r : HiddenRow). HiddenIn head config t r w v) e h.0) in let f : false ≡ true = guards.1 p.0 in absurd (cc))

-- the state is entered that was worked out
pub entered : (x : Step) (ws : List Want) (old after to : Head) → after ≡ to
    → IsStep no_changes x ws (changed (fsm_of old) (fsm_of after)) (enters after) → IsStep no_changes x ws (changed (fsm_of old) (fsm_of to)) (enters to)
entered x ws old after to e step = subst (λ (h : Head). IsStep no_changes x ws (changed (fsm_of old) (fsm_of h)) (enters h)) e step

-- a connection that fails in Connect is always shown
pub shows_failed : (delay : Bool) → ShowsSome [] (changed fsms.Connect (fsm_of (failed delay).head))
shows_failed true = tt
shows_failed false = tt

-- ---- the rows that a state doesn't have

abbrev pub NoneOf : HiddenRow → List HiddenRow → Type 0
NoneOf row [] = Unit {0}
NoneOf row (r ∷ rs) = (row ≡ r → ⊥) × NoneOf row rs

not_listed : (row : HiddenRow) (rows : List HiddenRow) → NoneOf row rows → Has (λ r. r ≡ row) rows → ⊥
not_listed row [] none h = absurd h
not_listed row (r ∷ rs) none h = elim h [ inl e ↦ none.0 (sym e) | inr k ↦ not_listed row rs none.1 k ]

pub no_step : (config : Config) (head : Head) (t : ℕ) (row : HiddenRow) → NoneOf row (shown_rows head) → NoStep (HiddenShown config head t row)
no_step config head t row none = λ w c u h. not_listed row (shown_rows head) none (each_shown config head t row w c u h)
