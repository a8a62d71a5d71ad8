-- An element of a list that is so.
use Rattle.std.proofs.Common.{◌≡◌, ◌∙◌, ◌+◌, ◌<◌, Bool, true, ℕ, List, ◌∷◌, add-one, ap, drop, get_or, length, map, refl, sym}
use Rattle.std.proofs.Math.Seq.{drop-cons}
use Rattle.std.specs.List.{list_any}

here : {X : Type 0} (xs : List X) (i : ℕ) (d : X) → i < length xs → drop i xs ≡ get_or xs i d ∷ drop (i + 1) xs
here xs i d within = rw add-one (drop-cons xs i d within)

pub any_here : {X Y : Type 0} (p : Y → Bool) (f : X → Y) (xs : List X) (i : ℕ) (d : X) (b : Bool) → i < length xs → p (f (get_or xs i d)) ≡ true
    → list_any p (map f (drop i xs)) ≡ b → true ≡ b
any_here p f xs i d b within holds is =
    let step : list_any p (f (get_or xs i d) ∷ map f (drop (i + 1) xs)) ≡ true = rw holds refl in
    sym step ∙ sym (ap (λ v. list_any p (map f v)) (here xs i d within)) ∙ is
