-- Lists of steps, row by row.
use Rattle.std.proofs.Common.{◌<◌, ◌≤◌, ◌+◌, length, take, drop, get_or}
use Rattle.std.proofs.lemmas.List.{take_more, take_all, take-append-drop}
use Rattle.std.proofs.Common.{◌≡◌, ℕ, ◌⊎◌, inl, inr, List, [], ◌∷◌, ◌++◌, Option, sym, subst}
use Rattle.bgp_rib.specs.Changes.{RouteChanges}
use Rattle.bgp_machine.specs.declared.step.Step.{Step}
use Rattle.bgp_machine.specs.declared.fsm.Fsm.{Fsm}
use Rattle.bgp_machine.specs.declared.want.Want.{Want}
use Rattle.bgp_machine.specs.Lists.{Has, Each, NoneTwice}
use Rattle.bgp_machine.specs.State.{Turn}
use Rattle.bgp_machine.specs.Listed.{IsStep, Lists}
use Rattle.bgp_machine.specs.Rows.{IsOnly, NoStep, ListsRows, AddsOne}

pub has_left : {X : Type 0} (P : X → Type 0) (xs ys : List X) → Has P xs → Has P (xs ++ ys)
has_left P [] ys h = absurd h
has_left P (x ∷ xs) ys h = elim h [ inl a ↦ inl a | inr b ↦ inr (has_left P xs ys b) ]

pub has_right : {X : Type 0} (P : X → Type 0) (xs ys : List X) → Has P ys → Has P (xs ++ ys)
has_right P [] ys h = h
has_right P (x ∷ xs) ys h = inr (has_right P xs ys h)

pub has_either : {X : Type 0} (P : X → Type 0) (xs ys : List X) → Has P (xs ++ ys) → Has P xs ⊎ Has P ys
has_either P [] ys h = inr h
has_either P (x ∷ xs) ys h = elim h [ inl a ↦ inl (inl a) | inr b ↦ elim (has_either P xs ys b) [ inl c ↦ inl (inr c) | inr d ↦ inr d ] ]

-- an element that stands there has it
pub has_at : {X : Type 0} (P : X → Type 0) (x : X) (xs : List X) → Has (λ y. y ≡ x) xs → P x → Has P xs
has_at P x [] h p = absurd h
has_at P x (y ∷ ys) h p = elim h [ inl e ↦ inl (subst P (sym e) p) | inr k ↦ inr (has_at P x ys k p) ]

pub listed_here : {X : Type 0} (xs : List X) (i : ℕ) (d x : X) → i < length xs → get_or xs i d ≡ x → Has (λ y. y ≡ x) xs
listed_here xs i d x lt e =
    let front : Has (λ y. y ≡ x) (take (i + 1) xs) = subst (Has (λ y. y ≡ x)) (sym (take_more xs i d lt)) (has_right (λ y. y ≡ x) (take i xs) (get_or xs i d ∷ []) (inl e)) in
    subst (Has (λ y. y ≡ x)) (take-append-drop (i + 1) xs) (has_left (λ y. y ≡ x) (take (i + 1) xs) (drop (i + 1) xs) front)

pub not_listed_more : {X : Type 0} (xs : List X) (i : ℕ) (d x : X) → i < length xs → (Has (λ y. y ≡ x) (take i xs) → ⊥) → (get_or xs i d ≡ x → ⊥)
    → Has (λ y. y ≡ x) (take (i + 1) xs) → ⊥
not_listed_more xs i d x lt n f h =
    elim (has_either (λ y. y ≡ x) (take i xs) (get_or xs i d ∷ []) (subst (Has (λ y. y ≡ x)) (take_more xs i d lt) h)) [
      | inl a ↦ n a
      | inr b ↦ elim b [ inl e ↦ f e | inr z ↦ absurd z ]
    ]

pub not_listed_all : {X : Type 0} (xs : List X) (i : ℕ) (x : X) → length xs ≤ i → (Has (λ y. y ≡ x) (take i xs) → ⊥) → Has (λ y. y ≡ x) xs → ⊥
not_listed_all xs i x le n h = n (subst (Has (λ y. y ≡ x)) (sym (take_all i xs le)) h)

pub each_more : {X : Type 0} (P : X → Type 0) (xs : List X) (y : X) → Each P xs → P y → Each P (xs ++ y ∷ [])
each_more P [] y e p = (p, tt)
each_more P (x ∷ xs) y e p = (e.0, each_more P xs y e.1 p)

pub none_twice_more : {X : Type 0} (xs : List X) (y : X) → NoneTwice xs → (Has (λ z. z ≡ y) xs → ⊥) → NoneTwice (xs ++ y ∷ [])
none_twice_more [] y n f = (λ h. h, tt)
none_twice_more (x ∷ xs) y n f = (
  λ h. elim (has_either (λ z. z ≡ x) xs (y ∷ []) h) [ inl a ↦ n.0 a | inr b ↦ elim b [ inl e ↦ f (inl (sym e)) | inr z ↦ absurd z ] ],
  none_twice_more xs y n.1 (λ h. f (inr h)),
)

-- each of a stronger kind is of a weaker one
pub each_weaker : {X : Type 0} (P Q : X → Type 0) → ((x : X) → P x → Q x) → (xs : List X) → Each P xs → Each Q xs
each_weaker P Q f [] e = tt
each_weaker P Q f (x ∷ xs) e = (f x e.0, each_weaker P Q f xs e.1)

pub no_rows : {R : Type 0} (Is : R → List Want → Option (Fsm × Fsm) → Turn → Type 0) (changes : RouteChanges) → ListsRows Is changes [] []
no_rows Is changes = record { each = tt; every = λ row h. absurd h; none_twice = tt }

-- a row that makes nothing
pub skips : {R : Type 0} (Is : R → List Want → Option (Fsm × Fsm) → Turn → Type 0) (changes : RouteChanges) (row : R) (rows : List R) (steps : List Step)
    → NoStep (Is row) → ListsRows Is changes rows steps → ListsRows Is changes (rows ++ row ∷ []) steps
skips {R} Is changes row rows steps none l = record {
  each = l.each;
  every = λ r h. elim (has_either (λ q. q ≡ r) rows (row ∷ []) h) [
    | inl a ↦ l.every r a
    | inr b ↦ elim b [ inl e ↦ λ ws c u s. absurd (none ws c u (subst (λ (q : R). Is q ws c u) (sym e) s)) | inr z ↦ absurd z ]
  ];
  none_twice = l.none_twice;
}

-- a row that makes one step
pub adds : {R : Type 0} (Is : R → List Want → Option (Fsm × Fsm) → Turn → Type 0) (changes : RouteChanges) (row : R) (rows : List R) (x : Step) (old new : List Step)
    → IsOnly (Is row) changes x → AddsOne x old new → ListsRows Is changes rows old → ListsRows Is changes (rows ++ row ∷ []) new
adds {R} Is changes row rows x old new only added l =
    let E : Step → Type 0 = λ (y : Step). (r : R) × (ws : List Want) × (c : Option (Fsm × Fsm)) × (u : Turn) × Is r ws c u × IsStep changes y ws c u in
    let is : E x = (row, only.is.0, only.is.1, only.is.2, only.is.3, only.is.4) in
    elim added [
      | inl a ↦ subst (λ (ys : List Step). ListsRows Is changes (rows ++ row ∷ []) ys) (sym a.0) (record {
        each = l.each;
        every = λ r h. elim (has_either (λ q. q ≡ r) rows (row ∷ []) h) [
          | inl b ↦ l.every r b
          | inr b ↦ elim b [
            | inl e ↦ λ ws c u s. has_at (λ y. IsStep changes y ws c u) x old a.1 (only.only ws c u (subst (λ (q : R). Is q ws c u) (sym e) s))
            | inr z ↦ absurd z
          ]
        ];
        none_twice = l.none_twice;
      })
      | inr a ↦ subst (λ (ys : List Step). ListsRows Is changes (rows ++ row ∷ []) ys) (sym a.0) (record {
        each = each_more E old x l.each is;
        every = λ r h. elim (has_either (λ q. q ≡ r) rows (row ∷ []) h) [
          | inl b ↦ λ ws c u s. has_left (λ y. IsStep changes y ws c u) old (x ∷ []) (l.every r b ws c u s)
          | inr b ↦ elim b [
            | inl e ↦ λ ws c u s. has_right (λ y. IsStep changes y ws c u) old (x ∷ []) (inl (only.only ws c u (subst (λ (q : R). Is q ws c u) (sym e) s)))
            | inr z ↦ absurd z
          ]
        ];
        none_twice = none_twice_more old x l.none_twice a.1;
      })
    ]

-- the rows are all that there are: what they list is what there is
pub all_rows : {R : Type 0} (Is : R → List Want → Option (Fsm × Fsm) → Turn → Type 0) (All : List Want → Option (Fsm × Fsm) → Turn → Type 0)
    (changes : RouteChanges) (rows : List R) (steps : List Step)
    → ((row : R) (ws : List Want) (c : Option (Fsm × Fsm)) (u : Turn) → Is row ws c u → All ws c u)
    → ((ws : List Want) (c : Option (Fsm × Fsm)) (u : Turn) → All ws c u → (row : R) × Has (λ r. r ≡ row) rows × Is row ws c u)
    → ListsRows Is changes rows steps → Lists All changes steps
all_rows {R} Is All changes rows steps to from l = record {
  each = each_weaker
      (λ (x : Step). (row : R) × (ws : List Want) × (c : Option (Fsm × Fsm)) × (u : Turn) × Is row ws c u × IsStep changes x ws c u)
      (λ (x : Step). (ws : List Want) × (c : Option (Fsm × Fsm)) × (u : Turn) × All ws c u × IsStep changes x ws c u)
      (λ x e. (e.1, e.2, e.3, to e.0 e.1 e.2 e.3 e.4, e.5)) steps l.each;
  every = λ ws c u s. let f = from ws c u s in l.every f.0 f.1 ws c u f.2;
  none_twice = l.none_twice;
}
