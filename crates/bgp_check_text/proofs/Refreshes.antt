-- Whether one of some records has a ROUTE-REFRESH.
use Rattle.std.proofs.Common.{◌≡◌, ◌↔◌, Bool, true, false, IsFalse, ℕ, ◌+◌, ◌<◌, zero, suc, List, [], ◌∷◌, ◌++◌, get_or, length, map, take, refl, sym, subst, arith}
use Rattle.std.proofs.lemmas.List.{take_more}
use Rattle.std.specs.List.{AllByRecursion}

-- ---- what a flag says

pub one_flag : (a b : Bool) (P : Type 0) → (IsFalse a ↔ P) → (IsFalse b ↔ P) → a ≡ b
one_flag true true P one other = refl
one_flag false false P one other = refl
one_flag true false P one other = let no = one.1 (other.0 refl) in cc
one_flag false true P one other = let no = other.1 (one.0 refl) in cc

-- ---- of records that are gone through

module _ {X Y : Type 0} (P : Y → Type 0) (f : X → Y) where
  all_push : (xs : List X) (x : X) → AllByRecursion P (map f xs) → P (f x) → AllByRecursion P (map f (xs ++ x ∷ []))
  all_push [] x all is = (is, tt)
  all_push (first ∷ xs) x all is = (all.0, all_push xs x all.1 is)

  pub all_more : (xs : List X) (i : ℕ) (d : X) → i < length xs → AllByRecursion P (map f (take i xs)) → P (f (get_or xs i d)) → AllByRecursion P (map f (take (i + 1) xs))
  all_more xs i d within all is =
      subst (λ (ls : List X). AllByRecursion P (map f ls)) (sym (take_more xs i d within)) (all_push (take i xs) (get_or xs i d) all is)

  pub at_each : (xs : List X) (i : ℕ) (d : X) → i < length xs → AllByRecursion P (map f xs) → P (f (get_or xs i d))
  at_each [] i d within all = absurd (omega (arith, within))
  at_each (first ∷ xs) zero d within all = all.0
  at_each (first ∷ xs) (suc i) d within all = at_each xs i d (omega (arith, within)) all.1
