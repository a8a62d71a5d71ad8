-- Facts of each element of a list, and its first one.
use Rattle.std.proofs.Common.{◌≡◌, ◌∙◌, ◌+◌, ◌++◌, ℕ, List, [], ◌∷◌, drop, ap}
use Rattle.std.proofs.lemmas.List.{drop-drop}
use Rattle.std.specs.List.{AllByRecursion}
use Rattle.bgp_recording.specs.First.{IsFirst}

pub all_weaker : {X : Type 0} (P Q : X → Type 0) → ((x : X) → P x → Q x) → (xs : List X) → AllByRecursion P xs → AllByRecursion Q xs
all_weaker P Q f [] h = tt
all_weaker P Q f (x ∷ xs) h = (f x h.0, all_weaker P Q f xs h.1)

pub all_always : {X : Type 0} (P : X → Type 0) → ((x : X) → P x) → (xs : List X) → AllByRecursion P xs
all_always P f [] = tt
all_always P f (x ∷ xs) = (f x, all_always P f xs)

pub all_both : {X : Type 0} (P Q : X → Type 0) (xs : List X) → AllByRecursion P xs → AllByRecursion Q xs → AllByRecursion (λ x. P x × Q x) xs
all_both P Q [] h k = tt
all_both P Q (x ∷ xs) h k = ((h.0, k.0), all_both P Q xs h.1 k.1)

pub all_append : {X : Type 0} (P : X → Type 0) (xs ys : List X) → AllByRecursion P xs → AllByRecursion P ys → AllByRecursion P (xs ++ ys)
all_append P [] ys h k = k
all_append P (x ∷ xs) ys h k = (h.0, all_append P xs ys h.1 k)

begins : {X : Type 0} (ys : List X) (m : X) → IsFirst ys m → ys ≡ m ∷ drop 1 ys
begins [] m h = absurd h
begins (y ∷ ys) m h = ap (λ x. x ∷ ys) h

pub first_is : {X : Type 0} (xs : List X) (k : ℕ) (m : X) → IsFirst (drop k xs) m → drop k xs ≡ m ∷ drop (k + 1) xs
first_is xs k m h = begins (drop k xs) m h ∙ ap (λ ys. m ∷ ys) (drop-drop 1 k xs)
