-- Facts of which it is known that they are true or false.
use Rattle.std.proofs.Common.{◌≡◌, ◌⊎◌, ◌∷◌, [], All, ℕ, List, refl, inl, inr}
use Rattle.std.proofs.lemmas.List.Elements.{All-cons, All-nil, All-head, All-tail}
use Rattle.std.proofs.lemmas.Bool.{cases_eq}

abbrev pub Either : Type 0 → Type 0
Either P = P ⊎ (¬ P)

-- a fact of each element, where it is known of one
pub decided_all : {X : Type 0} (P : X → Type 0) → ((x : X) → Either (P x)) → (xs : List X) → Either (All P xs)
decided_all P decided [] = inl (All-nil P)
decided_all P decided (x ∷ xs) = elim (decided x) [
  | inl here ↦ elim (decided_all P decided xs) [
    | inl others ↦ inl (All-cons P x xs here others)
    | inr not_so ↦ inr (λ all. not_so (All-tail P x xs all))
  ]
  | inr not_so ↦ inr (λ all. not_so (All-head P x xs all))
]

-- two lists of numbers are equal or not
pub decided_equal : (xs ys : List ℕ) → Either (xs ≡ ys)
decided_equal [] [] = inl refl
decided_equal [] (y ∷ ys) = inr (λ e. absurd (cc))
decided_equal (x ∷ xs) [] = inr (λ e. absurd (cc))
decided_equal (x ∷ xs) (y ∷ ys) = elim (cases_eq x y) [
  | inl first ↦ elim (decided_equal xs ys) [
    | inl others ↦ inl (cc)
    | inr not_so ↦ inr (λ e. not_so (cc))
  ]
  | inr not_so ↦ inr (λ e. not_so (cc))
]
