-- The packets that showed what was sent.
use Rattle.std.proofs.Common.{◌≡◌, ◌<◌, ◌≤◌, ◌∙◌, ℕ, Some, None, Option, true, cond, nat_lt, List, [], ◌∷◌, ◌++◌, refl, sym, ap, arith, zero, suc, inl, inr}
use Rattle.std.specs.Option.{option_or, is_some}
use Rattle.std.specs.List.{slice_get}
use Rattle.std.proofs.lemmas.Bool.{cases_lt, lt-ltb, le-ltb}
use Rattle.streams.specs.declared.direction.Shown.{Shown}
use Rattle.streams.specs.Directions.{first_above}

pub shown_at : (xs : List Shown) (k place : ℕ) (it : Shown) → Some it ≡ slice_get xs k → place < it.below → is_some (first_above xs place) ≡ true
shown_at [] k place it h lt = absurd (grind arith)
shown_at (x ∷ xs) zero place it h lt =
    let e : x ≡ it = cc in
    let t : nat_lt place x.below ≡ true = lt-ltb place x.below (omega (arith, ap (λ (s : Shown). s.below) e)) in
    rw t
shown_at (x ∷ xs) (suc k) place it h lt = elim (cases_lt place x.below) [
  | inl here ↦ rw (lt-ltb place x.below here)
  | inr past ↦ rw (le-ltb place x.below past) (shown_at xs k place it h lt)
]

pub above-push : (xs : List Shown) (it : Shown) (place : ℕ) → first_above (xs ++ it ∷ []) place ≡ option_or (first_above xs place) (cond (nat_lt place it.below) (Some it.packet) None)
above-push [] it place = refl
above-push (x ∷ xs) it place = elim (cases_lt place x.below) [
  | inl here ↦ rw (lt-ltb place x.below here)
  | inr past ↦ rw (le-ltb place x.below past) (above-push xs it place)
]

some_first : (o p : Option ℕ) → is_some o ≡ true → o ≡ option_or o p
some_first None p h = absurd (grind arith)
some_first (Some x) p h = refl

none_last : (o : Option ℕ) → o ≡ option_or o None
none_last None = refl
none_last (Some x) = refl

-- a packet that shows no more than what was shown
pub shows_no_more : (given : Option ℕ) (place below packet greatest : ℕ) → below ≤ greatest → (place < greatest → is_some given ≡ true) → given ≡ option_or given (cond (nat_lt place below) (Some packet) None)
shows_no_more given place below packet greatest le h = elim (cases_lt place below) [
  | inl lt ↦ some_first given _ (h (omega arith))
  | inr ge ↦ none_last given ∙ ap (λ o. option_or given o) (sym (rw (le-ltb place below ge)))
]
