-- Steps in a loop, and what they make of members together.
use Rattle.std.proofs.Common.{suc, zero, ◌≡◌, ℕ, ◌+◌, ◌<◌, ◌≤◌, inl, inr, List, [], ◌∷◌, ◌++◌, length, take, get_or, sym, subst, arith}
use Rattle.std.proofs.lemmas.List.{take_more, take_all}
use Rattle.bgp_machine.specs.Lists.{Has, Each}
use Rattle.bgp_machine.proofs.RowByRow.{has_left, has_right, has_either}
use Rattle.bgp_rib.specs.Routes.{Routes}
use Rattle.bgp_judge.specs.Member.{Member}
use Rattle.bgp_compact.specs.declared.words.Words.{Words}
use Rattle.bgp_compact.specs.Steps.{Gains}

pub each_at : {X : Type 0} (P : X → Type 0) (xs : List X) (i : ℕ) (d : X) → Each P xs → i < length xs → P (get_or xs i d)
each_at P [] i d e h = absurd (omega arith)
each_at P (x ∷ xs) zero d e h = e.0
each_at P (x ∷ xs) (suc i) d e h = each_at P xs i d e.1 (omega arith)

pub has_each : {X : Type 0} (P Q : X → Type 0) (xs : List X) → Has P xs → Each Q xs → (x : X) × P x × Q x
has_each P Q [] h e = absurd h
has_each P Q (x ∷ xs) h e = elim h [ inl p ↦ (x, p, e.0) | inr q ↦ has_each P Q xs q e.1 ]

pub has_map : {X : Type 0} (P Q : X → Type 0) (xs : List X) → ((x : X) → P x → Q x) → Has P xs → Has Q xs
has_map P Q [] f h = h
has_map P Q (x ∷ xs) f h = elim h [ inl p ↦ inl (f x p) | inr q ↦ inr (has_map P Q xs f q) ]

pub each_from : {X : Type 0} (P Q : X → Type 0) (xs : List X) → Each P xs → ((x : X) → P x → Q x) → Each Q xs
each_from P Q [] e f = tt
each_from P Q (x ∷ xs) e f = (f x e.0, each_from P Q xs e.1 f)

pub gains_none : {X : Type 0} (n : Words) (t : Routes) (P : X → Member → Type 0) → Gains n n t (λ m. Has (λ x. P x m) [])
gains_none n t P = record { only = λ m h. inl h; keeps = λ m h. h; adds = λ m h. absurd h }

pub gains_more : {X : Type 0} (a b c : Words) (t : Routes) (P : X → Member → Type 0) (xs : List X) (i : ℕ) (d : X) → i < length xs
    → Gains a b t (λ m. Has (λ x. P x m) (take i xs)) → Gains b c t (P (get_or xs i d)) → Gains a c t (λ m. Has (λ x. P x m) (take (i + 1) xs))
gains_more a b c t P xs i d h g k =
    let e : take (i + 1) xs ≡ take i xs ++ (get_or xs i d ∷ []) = take_more xs i d h in
    record {
      only = λ m p. elim (k.only m p) [
        | inl q ↦ elim (g.only m q) [
          | inl r ↦ inl r
          | inr r ↦ inr (subst (λ v. Has (λ x. P x m) v) (sym e) (has_left (λ x. P x m) (take i xs) (get_or xs i d ∷ []) r))
        ]
        | inr q ↦ inr (subst (λ v. Has (λ x. P x m) v) (sym e) (has_right (λ x. P x m) (take i xs) (get_or xs i d ∷ []) (inl q)))
      ];
      keeps = λ m p. k.keeps m (g.keeps m p);
      adds = λ m p. elim (has_either (λ x. P x m) (take i xs) (get_or xs i d ∷ []) (subst (λ v. Has (λ x. P x m) v) e p)) [
        | inl q ↦ k.keeps m (g.adds m q)
        | inr q ↦ elim q [ inl r ↦ k.adds m r | inr r ↦ absurd r ]
      ];
    }

pub gains_all : {X : Type 0} (a c : Words) (t : Routes) (P : X → Member → Type 0) (xs : List X) (i : ℕ) → length xs ≤ i
    → Gains a c t (λ m. Has (λ x. P x m) (take i xs)) → Gains a c t (λ m. Has (λ x. P x m) xs)
gains_all a c t P xs i h g = subst (λ v. Gains a c t (λ m. Has (λ x. P x m) v)) (take_all i xs h) g
