-- Sentences that are said one after another.
use Rattle.std.proofs.Common.{◌≡◌, ◌∙◌, ◌++◌, ◌+◌, ◌<◌, ℕ, List, [], ◌∷◌, Option, None, Some, refl, sym, ap, length, take, get_or, map, option_to_list}
use Rattle.std.proofs.lemmas.List.{take_more}
use Rattle.bgp_commands.specs.Sentences.{some_of}

one_alone : {S : Type 0} (o : Option S) → some_of (o ∷ []) ≡ option_to_list o
one_alone None = refl
one_alone (Some s) = refl

one_before : {S : Type 0} (o : Option S) (xs ys : List (Option S)) (z : List S)
    → some_of xs ≡ some_of ys ++ z → some_of (o ∷ xs) ≡ some_of (o ∷ ys) ++ z
one_before None xs ys z is = is
one_before (Some s) xs ys z is = ap (λ rest. s ∷ rest) is

one_after : {X S : Type 0} (f : X → Option S) (ys : List X) (x : X)
    → some_of (map f (ys ++ x ∷ [])) ≡ some_of (map f ys) ++ option_to_list (f x)
one_after f [] x = one_alone (f x)
one_after f (y ∷ ys) x = one_before (f y) _ _ _ (one_after f ys x)

each_after : {S : Type 0} (ys : List (Option S)) (o : Option S)
    → some_of (ys ++ o ∷ []) ≡ some_of ys ++ option_to_list o
each_after [] o = one_alone o
each_after (y ∷ ys) o = one_before y _ _ _ (each_after ys o)

-- one more of a list is said
pub said_more : {X S : Type 0} (f : X → Option S) (xs : List X) (i : ℕ) (d : X) → i < length xs
    → some_of (map f (take i xs)) ++ option_to_list (f (get_or xs i d)) ≡ some_of (map f (take (i + 1) xs))
said_more f xs i d within =
    sym (one_after f (take i xs) (get_or xs i d)) ∙ ap (λ zs. some_of (map f zs)) (sym (take_more xs i d within))

pub each_more : {S : Type 0} (xs : List (Option S)) (i : ℕ) (d : Option S) → i < length xs
    → some_of (take i xs) ++ option_to_list (get_or xs i d) ≡ some_of (take (i + 1) xs)
each_more xs i d within =
    sym (each_after (take i xs) (get_or xs i d)) ∙ ap some_of (sym (take_more xs i d within))
