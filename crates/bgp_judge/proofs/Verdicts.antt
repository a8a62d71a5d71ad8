-- From a tracker's laws to the verdict.
use Rattle.std.proofs.Common.{◌≡◌, ℕ, ◌<◌, ◌≤◌, ◌+◌, ◌↔◌, Bool, false, IsTrue, List, [], ◌∷◌, ◌++◌, length, take, get_or, map, refl, sym, ap, subst, ◌∙◌}
use Rattle.std.proofs.lemmas.List.{take_more, take_all, take-map, length-map}
use Rattle.bgp_prefix.specs.Shown.{ShownRecord}
use Rattle.bgp_open.specs.declared.config.Config.{Config}
use Rattle.bgp_machine.specs.Lists.{Has}
use Rattle.bgp_machine.specs.Run.{End, Begins, IsComplete}
use Rattle.bgp_machine.specs.State.{fresh_state}
use Rattle.mrt.specs.declared.record.Record.{Record}
use Rattle.mrt.specs.Reader.{shown_of}
use Rattle.bgp_judge.specs.Ends.{ListsEnds}
use Rattle.bgp_machine.proofs.JoinedRuns.{no_steps}
use Rattle.bgp_judge.proofs.EndLists.{map_behind}

pub no_record_begins : (config : Config) → Begins config []
no_record_begins config = ([], fresh_state, no_steps config fresh_state)

-- the records so far, and one more
pub shown_more : (xs : List Record) (i : ℕ) (d : Record) → i < length xs
    → map shown_of (take i xs) ++ shown_of (get_or xs i d) ∷ [] ≡ map shown_of (take (i + 1) xs)
shown_more xs i d lt =
    sym (ap (λ (v : List Record). map shown_of v) (take_more xs i d lt) ∙ map_behind shown_of (take i xs) (get_or xs i d))

-- all records
pub shown_all : (xs : List Record) (i : ℕ) → length xs ≤ i → map shown_of (take i xs) ≡ map shown_of xs
shown_all xs i le = ap (λ (v : List Record). map shown_of v) (take_all i xs le)

pub map_none : {X Y : Type 0} (f : X → Y) (xs : List X) → map f xs ≡ [] → xs ≡ []
map_none f [] e = refl
map_none f (x ∷ xs) e = absurd (let k : ⊥ = cc in k)

pub empty : {X : Type 0} (xs : List X) → ((xs ≡ [] → ⊥) → ⊥) → xs ≡ []
empty [] f = refl
empty (x ∷ xs) f = absurd (f (λ e. let k : ⊥ = cc in k))

pub first_impossible : (config : Config) (xs : List Record) (i : ℕ) (d : Record) (alive : Bool) → i < length xs → Begins config (map shown_of (take i xs))
    → (IsTrue alive ↔ Begins config (map shown_of (take i xs) ++ shown_of (get_or xs i d) ∷ [])) → alive ≡ false
    → (i < length (map shown_of xs)) × Begins config (take i (map shown_of xs)) × (¬ Begins config (take (i + 1) (map shown_of xs)))
first_impossible config xs i d alive lt begins same dead = (
  subst (λ (n : ℕ). i < n) (sym (length-map xs shown_of)) lt,
  subst (λ (v : List ShownRecord). Begins config v) (sym (take-map shown_of i xs)) begins,
  λ b. let t : IsTrue alive = same.1 (subst (λ (v : List ShownRecord). Begins config v)
      (take-map shown_of (i + 1) xs ∙ sym (shown_more xs i d lt)) b) in cc,
)

pub no_end : (config : Config) (records : List ShownRecord) (ends : List End) → ListsEnds config records ends → ends ≡ [] → (e : End) → ¬ IsComplete config records e
no_end config records ends lists none e complete = subst (λ (v : List End). Has (λ x. x ≡ e) v) none (lists.every e complete)
