-- Lists whose objects are equal, one by one.
use Rattle.std.proofs.Common.{◌≡◌, ◌∙◌, ◌++◌, ℕ, List, [], ◌∷◌, refl, sym, ap, ap₂, map, All, drop}
use Rattle.std.specs.List.{flat_map}
use Rattle.std.proofs.lemmas.List.Elements.{All-head, All-tail}
use Rattle.json.specs.Json.{Json}
use Rattle.bgp_json_values.specs.Objects.{array_of}
use Rattle.bgp_json_laws.proofs.Lookups.{same_values}

abbrev head_or : {A : Type 0} → A → List A → A
head_or d [] = d
head_or d (x ∷ xs) = x

-- what each of two lists makes of its items is equal where their objects are
made_alike : {A B C : Type 0} (f : A → Json) (g : B → Json) (s : A → C) (t : B → C) (P : A → Type 0) (Q : B → Type 0)
    → ((a : A) (b : B) → P a → Q b → f a ≡ g b → s a ≡ t b)
    → (xs : List A) (ys : List B) → All P xs → All Q ys → map f xs ≡ map g ys → map s xs ≡ map t ys
made_alike f g s t P Q each [] [] all also e = refl
made_alike f g s t P Q each [] (y ∷ ys) all also e = cc
made_alike f g s t P Q each (x ∷ xs) [] all also e = cc
made_alike f g s t P Q each (x ∷ xs) (y ∷ ys) all also e =
    ap₂ ◌∷◌ (each x y (All-head P x xs all) (All-head Q y ys also) (ap (head_or (f x)) e))
    (made_alike f g s t P Q each xs ys (All-tail P x xs all) (All-tail Q y ys also) (ap (drop 1) e))

pub made_equal : {A B C : Type 0} (f : A → Json) (g : B → Json) (s : A → C) (t : B → C) (P : A → Type 0) (Q : B → Type 0)
    → ((a : A) (b : B) → P a → Q b → f a ≡ g b → s a ≡ t b)
    → (xs : List A) (ys : List B) → All P xs → All Q ys → array_of f xs ≡ array_of g ys → map s xs ≡ map t ys
made_equal f g s t P Q each xs ys all also e = made_alike f g s t P Q each xs ys all also (same_values f g xs ys e)

-- the octets that their items spell, one after another
joined_map : {A : Type 0} (s : A → List ℕ) (xs : List A) → flat_map (λ (o : List ℕ). o) (map s xs) ≡ flat_map s xs
joined_map s [] = refl
joined_map s (x ∷ xs) = ap (λ (o : List ℕ). s x ++ o) (joined_map s xs)

pub joined_equal : {A B : Type 0} (f : A → Json) (g : B → Json) (s : A → List ℕ) (t : B → List ℕ) (P : A → Type 0) (Q : B → Type 0)
    → ((a : A) (b : B) → P a → Q b → f a ≡ g b → s a ≡ t b)
    → (xs : List A) (ys : List B) → All P xs → All Q ys → array_of f xs ≡ array_of g ys → flat_map s xs ≡ flat_map t ys
joined_equal f g s t P Q each xs ys all also e =
    sym (joined_map s xs) ∙ ap (λ (os : List (List ℕ)). flat_map (λ (o : List ℕ). o) os) (made_equal f g s t P Q each xs ys all also e) ∙ joined_map t ys

map_itself : {A : Type 0} (xs : List A) → map (λ (x : A). x) xs ≡ xs
map_itself [] = refl
map_itself {A = A} (x ∷ xs) = ap (λ (l : List A). x ∷ l) (map_itself xs)

-- the lists themselves
pub lists_equal : {A : Type 0} (f g : A → Json) (P Q : A → Type 0) → ((a b : A) → P a → Q b → f a ≡ g b → a ≡ b)
    → (xs ys : List A) → All P xs → All Q ys → array_of f xs ≡ array_of g ys → xs ≡ ys
lists_equal {A = A} f g P Q each xs ys all also e =
    sym (map_itself xs) ∙ made_equal f g (λ (x : A). x) (λ (x : A). x) P Q each xs ys all also e ∙ map_itself ys
