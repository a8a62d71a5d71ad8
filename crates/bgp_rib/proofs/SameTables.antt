-- Tables are equal exactly where their routes are.
use Rattle.std.proofs.Common.{◌≡◌, ◌&&◌, suc, Bool, true, false, List, [], ◌∷◌, Option, None, Some, IsSome, length, refl, ap}
use Rattle.std.specs.Cmp.Lexicographic.{pointwise}
use Rattle.std.specs.List.{AllByRecursion}
use Rattle.std.specs.Option.{option_eq}
use Rattle.bgp_rib.specs.Rooms.{routes_in}

and_false : (b : Bool) → false ≡ (b && false)
and_false true = refl
and_false false = refl

pub unequal : {X : Type 0} (T : X → X → Bool) (xs ys : List X) → (length xs ≡ length ys → ⊥) → false ≡ pointwise T xs ys
unequal T [] [] h = absurd (h refl)
unequal T [] (y ∷ ys) h = refl
unequal T (x ∷ xs) [] h = refl
unequal T (x ∷ xs) (y ∷ ys) h = by (pointwise T xs ys) (unequal T xs ys (λ e. h (ap suc e)))
  where
    by : (b : Bool) → false ≡ b → false ≡ (T x y && b)
    by true e = absurd cc
    by false e = and_false (T x y)

module _ {K V : Type 0} (E : K → K → Bool) (F : V → V → Bool) where
  abbrev alike : K × V → K × V → Bool
  alike p q = E p.0 q.0 && F p.1 q.1

  abbrev seen_alike : K × Option V → K × Option V → Bool
  seen_alike p q = E p.0 q.0 && option_eq F p.1 q.1

  both_some : (k j : K) (x y : Option V) (es fs : List (K × Option V)) → IsSome x → IsSome y
      → pointwise seen_alike es fs ≡ pointwise alike (routes_in es) (routes_in fs)
      → pointwise seen_alike ((k, x) ∷ es) ((j, y) ∷ fs) ≡ pointwise alike (routes_in ((k, x) ∷ es)) (routes_in ((j, y) ∷ fs))
  both_some k j None y es fs h i more = absurd cc
  both_some k j (Some v) None es fs h i more = absurd cc
  both_some k j (Some v) (Some w) es fs h i more = ap (λ b. (E k j && F v w) && b) more

  one_longer : (k : K) (x : Option V) (es : List (K × Option V)) → IsSome x → false ≡ pointwise alike (routes_in ((k, x) ∷ es)) []
  one_longer k None es h = absurd cc
  one_longer k (Some v) es h = refl

  other_longer : (k : K) (x : Option V) (es : List (K × Option V)) → IsSome x → false ≡ pointwise alike [] (routes_in ((k, x) ∷ es))
  other_longer k None es h = absurd cc
  other_longer k (Some v) es h = refl

  pub same_seen : (es fs : List (K × Option V)) → AllByRecursion (λ e. IsSome e.1) es → AllByRecursion (λ e. IsSome e.1) fs
      → pointwise seen_alike es fs ≡ pointwise alike (routes_in es) (routes_in fs)
  same_seen [] [] s t = refl
  same_seen [] (f ∷ fs) s t = other_longer f.0 f.1 fs t.0
  same_seen (e ∷ es) [] s t = one_longer e.0 e.1 es s.0
  same_seen (e ∷ es) (f ∷ fs) s t = both_some e.0 f.0 e.1 f.1 es fs s.0 t.0 (same_seen es fs s.1 t.1)
