-- Lists of members that grow, member by member.
use Rattle.std.proofs.Common.{◌≡◌, ℕ, ◌<◌, ◌≤◌, ◌+◌, ◌↔◌, inl, inr, List, [], ◌∷◌, ◌++◌, zero, suc, length, take, get_or, map, sym, subst, arith}
use Rattle.std.proofs.lemmas.List.{take_more, take_all}
use Rattle.bgp_machine.specs.Lists.{Has, NoneTwice}
use Rattle.bgp_machine.proofs.RowByRow.{has_left, has_right, has_either, none_twice_more}
use Rattle.bgp_judge.specs.declared.member.PlainMember.{PlainMember}
use Rattle.bgp_judge.specs.Member.{Member}
use Rattle.bgp_judge.specs.Plain.{member_value, Among, AreApart, Gains}
use Rattle.bgp_judge.proofs.EndLists.{has_map, map_behind}

-- an element has it, or none of those so far
pub has_here : {X : Type 0} (P : X → Type 0) (xs : List X) (i : ℕ) (d : X) → i < length xs → P (get_or xs i d) → Has P xs
has_here P [] i d h p = absurd (omega arith)
has_here P (x ∷ xs) zero d h p = inl p
has_here P (x ∷ xs) (suc i) d h p = inr (has_here P xs i d (omega arith) p)

pub none_more : {X : Type 0} (P : X → Type 0) (xs : List X) (i : ℕ) (d : X) → i < length xs → (Has P (take i xs) → ⊥) → (P (get_or xs i d) → ⊥)
    → Has P (take (i + 1) xs) → ⊥
none_more P xs i d h none not has =
    elim (has_either P (take i xs) (get_or xs i d ∷ []) (subst (λ v. Has P v) (take_more xs i d h) has)) [
      | inl a ↦ none a
      | inr b ↦ elim b [ inl p ↦ not p | inr z ↦ z ]
    ]

pub none_all : {X : Type 0} (P : X → Type 0) (xs : List X) (i : ℕ) → length xs ≤ i → (Has P (take i xs) → ⊥) → Has P xs → ⊥
none_all P xs i h none has = none (subst (λ v. Has P v) (sym (take_all i xs h)) has)

pub gains_nothing : {A : Type 0} (old : List (PlainMember A)) (Also : Member → Type 0) → ((m : Member) → Also m → ⊥) → Gains old old Also
gains_nothing old Also none = record { only = λ m h. inl h; keeps = λ m h. h; adds = λ m h. absurd (none m h); apart = λ k. k }

pub gains_same : {A : Type 0} (old new : List (PlainMember A)) (P Q : Member → Type 0) → Gains old new P → ((m : Member) → P m ↔ Q m) → Gains old new Q
gains_same old new P Q g same = record {
  only = λ m h. elim (g.only m h) [ inl a ↦ inl a | inr b ↦ inr ((same m).0 b) ];
  keeps = g.keeps;
  adds = λ m h. g.adds m ((same m).1 h);
  apart = g.apart;
}

pub gains_there : {A : Type 0} (old : List (PlainMember A)) (m2 : Member) → Among old m2 → Gains old old (λ m. m ≡ m2)
gains_there old m2 h = record {
  only = λ m k. inl k;
  keeps = λ m k. k;
  adds = λ m e. subst (λ (v : Member). Among old v) (sym e) h;
  apart = λ k. k;
}

-- one more that isn't there yet
apart_more : {A : Type 0} (old : List (PlainMember A)) (x : PlainMember A) → (Among old (member_value x) → ⊥) → AreApart old → AreApart (old ++ x ∷ [])
apart_more old x not apart =
    subst (λ (v : List Member). NoneTwice v) (sym (map_behind member_value old x))
    (none_twice_more (map member_value old) (member_value x) apart (λ h. not (has_map member_value (member_value x) old h)))

pub gains_here : {A : Type 0} (old new : List (PlainMember A)) (x : PlainMember A) → new ≡ old ++ x ∷ [] → (Among old (member_value x) → ⊥)
    → Gains old new (λ m. m ≡ member_value x)
gains_here old new x e not = subst (λ (v : List (PlainMember _)). Gains old v (λ m. m ≡ member_value x)) (sym e) (record {
  only = λ m k. elim (has_either (λ y. member_value y ≡ m) old (x ∷ []) k) [
    | inl a ↦ inl a
    | inr b ↦ elim b [ inl p ↦ inr (sym p) | inr z ↦ absurd z ]
  ];
  keeps = λ m k. has_left (λ y. member_value y ≡ m) old (x ∷ []) k;
  adds = λ m p. has_right (λ y. member_value y ≡ m) old (x ∷ []) (inl (sym p));
  apart = apart_more old x not;
})

-- a loop over what adds members
pub gains_none : {A X : Type 0} (old : List (PlainMember A)) (P : X → Member → Type 0) → Gains old old (λ m. Has (λ x. P x m) [])
gains_none old P = record { only = λ m h. inl h; keeps = λ m h. h; adds = λ m h. absurd h; apart = λ k. k }

pub gains_more : {A X : Type 0} (a b c : List (PlainMember A)) (P : X → Member → Type 0) (xs : List X) (i : ℕ) (d : X) → i < length xs
    → Gains a b (λ m. Has (λ x. P x m) (take i xs)) → Gains b c (P (get_or xs i d)) → Gains a c (λ m. Has (λ x. P x m) (take (i + 1) xs))
gains_more a b c P xs i d h g k =
    let e : take (i + 1) xs ≡ take i xs ++ (get_or xs i d ∷ []) = take_more xs i d h in
    record {
      only = λ m p. elim (k.only m p) [
        | inl q ↦ elim (g.only m q) [
          | inl r ↦ inl r
          | inr r ↦ inr (subst (λ v. Has (λ x. P x m) v) (sym e) (has_left (λ x. P x m) (take i xs) (get_or xs i d ∷ []) r))
        ]
        | inr q ↦ inr (subst (λ v. Has (λ x. P x m) v) (sym e) (has_right (λ x. P x m) (take i xs) (get_or xs i d ∷ []) (inl q)))
      ];
      keeps = λ m p. k.keeps m (g.keeps m p);
      adds = λ m p. elim (has_either (λ x. P x m) (take i xs) (get_or xs i d ∷ []) (subst (λ v. Has (λ x. P x m) v) e p)) [
        | inl q ↦ k.keeps m (g.adds m q)
        | inr q ↦ elim q [ inl r ↦ k.adds m r | inr r ↦ absurd r ]
      ];
      apart = λ p. k.apart (g.apart p);
    }

pub gains_all : {A X : Type 0} (a c : List (PlainMember A)) (P : X → Member → Type 0) (xs : List X) (i : ℕ) → length xs ≤ i
    → Gains a c (λ m. Has (λ x. P x m) (take i xs)) → Gains a c (λ m. Has (λ x. P x m) xs)
gains_all a c P xs i h g = subst (λ v. Gains a c (λ m. Has (λ x. P x m) v)) (take_all i xs h) g
