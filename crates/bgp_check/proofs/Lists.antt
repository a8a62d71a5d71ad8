-- Lists that are gone through one by one.
use Rattle.std.proofs.Common.{◌≡◌, ◌∙◌, ◌⊎◌, ◌+◌, ◌<◌, ◌≤◌, ◌++◌, ℕ, List, [], ◌∷◌, refl, sym, ap, subst, inl, inr, arith, drop, get_or, length, map, take, suc}
use Rattle.std.proofs.Math.Seq.{drop-cons}
use Rattle.std.proofs.lemmas.List.{length-map, length-take-le, map-append, take-append-drop, take_all, take_more}
use Rattle.bgp_prefix.specs.Shown.{ShownRecord}
use Rattle.bgp_machine.specs.Lists.{Each, Has}
use Rattle.mrt.specs.Reader.{shown_of}
use Rattle.mrt.specs.declared.record.Record.{Record}
use Rattle.bgp_check.specs.Stretch.{LeavesIdle}
use Rattle.bgp_check.specs.BeforeLeaving.{IsBeforeLeaving}

-- ---- none has it so far

has_more : {X : Type 0} (P : X → Type 0) (xs : List X) (x : X) → Has P (xs ++ x ∷ []) → Has P xs ⊎ P x
has_more P [] x (inl here) = inr here
has_more P [] x (inr none) = absurd none
has_more P (y ∷ xs) x (inl here) = inl (inl here)
has_more P (y ∷ xs) x (inr later) = elim (has_more P xs x later) [
  | inl among ↦ inl (inr among)
  | inr last ↦ inr last
]

has_front : {X : Type 0} (P : X → Type 0) (xs ys : List X) (x : X) → P x → Has P (xs ++ x ∷ ys)
has_front P [] ys x here = inl here
has_front P (y ∷ xs) ys x here = inr (has_front P xs ys x here)

pub more_at : {X Y : Type 0} (f : X → Y) (xs : List X) (i : ℕ) (d : X) → i < length xs → map f (take (i + 1) xs) ≡ map f (take i xs) ++ f (get_or xs i d) ∷ []
more_at f xs i d within = ap (map f) (take_more xs i d within) ∙ map-append f (take i xs) (get_or xs i d ∷ [])

cut_with : {X Y : Type 0} (f : X → Y) (xs : List X) (i : ℕ) (d : X) → i < length xs → map f xs ≡ map f (take i xs) ++ f (get_or xs i d) ∷ map f (drop (suc i) xs)
cut_with f xs i d within =
    sym (ap (λ ys. map f (take i xs) ++ ys) (sym (ap (map f) (drop-cons xs i d within)))
    ∙ sym (map-append f (take i xs) (drop i xs)) ∙ ap (map f) (take-append-drop i xs))

taken_more : {X Y : Type 0} (f : X → Y) (xs : List X) (i : ℕ) (x : X) → i < length xs → x ≡ get_or xs i x → map f (take (i + 1) xs) ≡ map f (take i xs) ++ f x ∷ []
taken_more f xs i x within is = more_at f xs i x within ∙ ap (λ y. map f (take i xs) ++ f y ∷ []) (sym is)

cut_at : {X Y : Type 0} (f : X → Y) (xs : List X) (i : ℕ) (x : X) → i < length xs → x ≡ get_or xs i x
    → map f xs ≡ map f (take i xs) ++ f x ∷ map f (drop (suc i) xs)
cut_at f xs i x within is = cut_with f xs i x within ∙ ap (λ y. map f (take i xs) ++ f y ∷ map f (drop (suc i) xs)) (sym is)

pub none_more : {X Y : Type 0} (P : Y → Type 0) (f : X → Y) (xs : List X) (i : ℕ) (x : X) → i < length xs → x ≡ get_or xs i x
    → (¬ Has P (map f (take i xs))) → (¬ P (f x)) → ¬ Has P (map f (take (i + 1) xs))
none_more P f xs i x within is none not has =
    elim (has_more P (map f (take i xs)) (f x) (subst (Has P) (taken_more f xs i x within is) has)) [
      | inl among ↦ none among
      | inr last ↦ not last
    ]

pub none_at_all : {X Y : Type 0} (P : Y → Type 0) (f : X → Y) (xs : List X) (i : ℕ) → length xs ≤ i → (¬ Has P (map f (take i xs))) → ¬ Has P (map f xs)
none_at_all P f xs i past none = subst (λ ys. ¬ Has P (map f ys)) (take_all i xs past) none

pub some_at : {X Y : Type 0} (P : Y → Type 0) (f : X → Y) (xs : List X) (i : ℕ) (x : X) → i < length xs → x ≡ get_or xs i x → P (f x) → Has P (map f xs)
some_at P f xs i x within is holds = subst (Has P) (sym (cut_at f xs i x within is)) (has_front P (map f (take i xs)) (map f (drop (suc i) xs)) (f x) holds)

-- ---- each has it so far

each_more : {X : Type 0} (P : X → Type 0) (xs : List X) (x : X) → Each P xs → P x → Each P (xs ++ x ∷ [])
each_more P [] x each is = (is, tt)
each_more P (y ∷ xs) x each is = (each.0, each_more P xs x each.1 is)

pub none_leaves : (records : List Record) (i : ℕ) (d : Record) → i < length records
    → Each (λ shown. ¬ LeavesIdle shown) (map shown_of (take i records)) → (¬ LeavesIdle (shown_of (get_or records i d)))
    → Each (λ shown. ¬ LeavesIdle shown) (map shown_of (take (i + 1) records))
none_leaves records i d within each not =
    subst (Each (λ shown. ¬ LeavesIdle shown)) (sym (more_at shown_of records i d within))
    (each_more (λ shown. ¬ LeavesIdle shown) (map shown_of (take i records)) (shown_of (get_or records i d)) each not)

pub many_taken : (records : List Record) (i : ℕ) → i ≤ length records → i ≡ length (map shown_of (take i records))
many_taken records i within = sym (length-map (take i records) shown_of ∙ length-take-le i records within)

pub leaves_at : (records : List Record) (i : ℕ) (d : Record) → i < length records
    → Each (λ shown. ¬ LeavesIdle shown) (map shown_of (take i records)) → LeavesIdle (shown_of (get_or records i d)) → IsBeforeLeaving (map shown_of records) i
leaves_at records i d within each leaves = record {
  front = map shown_of (take i records);
  rest = shown_of (get_or records i d) ∷ map shown_of (drop (suc i) records);
  whole = cut_with shown_of records i d within;
  many = many_taken records i (omega (arith, within));
  none = each;
  next = leaves;
}

pub none_at_the_end : (records : List Record) (i : ℕ) → length records ≤ i → i ≤ length records
    → Each (λ shown. ¬ LeavesIdle shown) (map shown_of (take i records)) → IsBeforeLeaving (map shown_of records) i
none_at_the_end records i past within each = record {
  front = map shown_of (take i records);
  rest = [];
  whole = ap (map shown_of) (sym (take_all i records past)) ∙ sym (append_nil (map shown_of (take i records)));
  many = many_taken records i within;
  none = each;
  next = tt;
} where
  append_nil : (xs : List ShownRecord) → xs ++ [] ≡ xs
  append_nil [] = refl
  append_nil (x ∷ xs) = ap (λ ys. x ∷ ys) (append_nil xs)
