-- For each configuration and list of records just one verdict holds.
use Rattle.std.proofs.Common.{◌≡◌, ◌≢◌, ◌∙◌, ◌⊎◌, ◌+◌, ◌≤◌, ◌<◌, ◌++◌, ◌∷◌, ℕ, zero, suc, List, [], Bool, true, false, arith, refl, sym, ap, subst, inl, inr, length, take, drop, append_assoc, append-nil}
use Rattle.std.proofs.Math.Dec.{ltb}
use Rattle.std.proofs.lemmas.Bool.{ltb-true, ltb-false}
use Rattle.std.proofs.lemmas.List.{take-append-drop, take-take, take_all}
use Rattle.bgp_prefix.specs.Shown.{ShownRecord}
use Rattle.bgp_open.specs.declared.config.Config.{Config}
use Rattle.bgp_open.specs.declared.families.Families.{Families}
use Rattle.bgp_machine.specs.Lists.{Has, Each, NoneTwice}
use Rattle.bgp_machine.specs.Run.{End, Begins, IsComplete, Run}
use Rattle.bgp_machine.specs.State.{fresh_state}
use Rattle.bgp_judge.specs.Ends.{ListsEnds, AreInOrder, place_of}
use Rattle.bgp_judge.specs.Verdict.{VerdictValue, Yes, No, Unfinished, HasVerdict}
use Rattle.bgp_judge.proofs.EndLists.{one_place}
use Rattle.bgp_judge.proofs.Telling.{one_end}
use Rattle.bgp_judge.proofs.Verdicts.{no_record_begins}

-- ---- lists of ends

-- what each element has, an element has
each_has : {X : Type 0} (P : X → Type 0) (x : X) (xs : List X) → Each P xs → Has (λ y. y ≡ x) xs → P x
each_has P x [] each there = elim there [ ]
each_has P x (y ∷ ys) each (inl is) = subst P is each.0
each_has P x (y ∷ ys) each (inr there) = each_has P x ys each.1 there

-- lists in order with the same elements, of which two with one place are equal
module _ (P : End → Type 0) (one : (x y : End) → P x → P y → place_of x.routes.disabled ≡ place_of y.routes.disabled → x ≡ y) where
  first_is : (x y : End) (xs ys : List End) → P x → P y
      → Each (λ z. place_of x.routes.disabled ≤ place_of z.routes.disabled) xs → Each (λ z. place_of y.routes.disabled ≤ place_of z.routes.disabled) ys
      → Has (λ z. z ≡ x) (y ∷ ys) → Has (λ z. z ≡ y) (x ∷ xs) → x ≡ y
  first_is x y xs ys px py below above (inl is) there = sym is
  first_is x y xs ys px py below above (inr here) (inl is) = is
  first_is x y xs ys px py below above (inr here) (inr there) =
      let up : place_of x.routes.disabled ≤ place_of y.routes.disabled = each_has (λ z. place_of x.routes.disabled ≤ place_of z.routes.disabled) y xs below there in
      let down : place_of y.routes.disabled ≤ place_of x.routes.disabled = each_has (λ z. place_of y.routes.disabled ≤ place_of z.routes.disabled) x ys above here in
      one x y px py (omega arith)

  -- an element of the tail is one of the other tail
  behind : (x y e : End) (xs ys : List End) → x ≡ y → (¬ Has (λ z. z ≡ x) xs) → Has (λ z. z ≡ e) xs → Has (λ z. z ≡ e) (y ∷ ys) → Has (λ z. z ≡ e) ys
  behind x y e xs ys is twice here (inl first) = absurd (twice (subst (λ v. Has (λ z. z ≡ v) xs) (sym (is ∙ first)) here))
  behind x y e xs ys is twice here (inr there) = there

  pub same_lists : (xs ys : List End) → Each P xs → Each P ys → NoneTwice xs → NoneTwice ys → AreInOrder xs → AreInOrder ys
      → ((e : End) → Has (λ z. z ≡ e) xs → Has (λ z. z ≡ e) ys) → ((e : End) → Has (λ z. z ≡ e) ys → Has (λ z. z ≡ e) xs) → xs ≡ ys
  same_lists [] [] ex ey nx ny ox oy to from = refl
  same_lists [] (y ∷ ys) ex ey nx ny ox oy to from = absurd (from y (inl refl))
  same_lists (x ∷ xs) [] ex ey nx ny ox oy to from = absurd (to x (inl refl))
  same_lists (x ∷ xs) (y ∷ ys) ex ey nx ny ox oy to from =
      let first : x ≡ y = first_is x y xs ys ex.0 ey.0 ox.0 oy.0 (to x (inl refl)) (from y (inl refl)) in
      let rest : xs ≡ ys =
      same_lists xs ys ex.1 ey.1 nx.1 ny.1 ox.1 oy.1
      (λ e here. behind x y e xs ys first nx.0 here (to e (inr here)))
      (λ e here. behind y x e ys xs (sym first) ny.0 here (from e (inr here)))
      in
      ap (λ v. v ∷ xs) first ∙ ap (λ (v : List End). y ∷ v) rest

-- ---- records

-- the front of records that begin a run begins one
front_begins : (config : Config) (records : List ShownRecord) (n : ℕ) → Begins config records → Begins config (take n records)
front_begins config records n (rest, e, run) = (
  drop n records ++ rest,
  e,
  subst (λ (v : List ShownRecord). Run config fresh_state v e)
      (sym (sym (append_assoc (take n records) (drop n records) rest) ∙ ap (λ (v : List ShownRecord). v ++ rest) (take-append-drop n records))) run,
)

-- a run shows just them, so they begin one
complete_begins : (config : Config) (records : List ShownRecord) (e : End) → IsComplete config records e → Begins config records
complete_begins config records e (s, run, is) =
    ([], s, subst (λ (v : List ShownRecord). Run config fresh_state v s) (sym (append-nil records)) run)

-- there is an end
first_end : (config : Config) (records : List ShownRecord) (ends : List End) → ends ≢ [] → Each (IsComplete config records) ends
    → (e : End) × IsComplete config records e
first_end config records [] some each = absurd (some refl)
first_end config records (e ∷ ends) some each = (e, each.0)

less_by : (n m : ℕ) (b : Bool) → ltb n m ≡ b → (n + 1 ≤ m) ⊎ (m ≤ n)
less_by n m true is = let lt = ltb-true n m is in inl (omega arith)
less_by n m false is = inr (ltb-false n m is)

-- the first impossible record is one
pub not_below : (config : Config) (records : List ShownRecord) (n m : ℕ) → (¬ Begins config (take (n + 1) records)) → Begins config (take m records) → m ≤ n
not_below config records n m behind before =
    elim (less_by n m (ltb n m) refl) as (λ v. m ≤ n) [
      | inl below ↦ absurd (behind (subst (λ (v : List ShownRecord). Begins config v) (take-take (n + 1) m records below) (front_begins config (take m records) (n + 1) before)))
      | inr above ↦ above
    ]

-- ---- two verdicts

module _ (config : Config) (records : List ShownRecord) where
  same_ends : (xs ys : List End) → ListsEnds config records xs → ListsEnds config records ys → xs ≡ ys
  same_ends xs ys lx ly =
      same_lists (IsComplete config records) (λ x y px py is. one_end config records x y px py (one_place x.routes.disabled y.routes.disabled is))
      xs ys lx.each ly.each lx.none_twice ly.none_twice lx.in_order ly.in_order
      (λ e here. ly.every e (each_has (IsComplete config records) e xs lx.each here))
      (λ e here. lx.every e (each_has (IsComplete config records) e ys ly.each here))

  begun : (ends : List End) → HasVerdict config records (Yes ends) → Begins config records
  begun ends says = let (e, complete) = first_end config records ends says.0 says.1.each in complete_begins config records e complete

  pub no_other : (count : ℕ) → HasVerdict config records (No count) → Begins config records → ⊥
  no_other count denies all = denies.2 (front_begins config records (count + 1) all)

  not_unfinished : (ends : List End) → HasVerdict config records (Yes ends) → HasVerdict config records Unfinished → ⊥
  not_unfinished ends says unfinished = let (e, complete) = first_end config records ends says.0 says.1.each in unfinished.1 e complete

  pub one_verdict : (one other : VerdictValue) → HasVerdict config records one → HasVerdict config records other → one ≡ other
  one_verdict (Yes xs) (Yes ys) says also = ap Yes (same_ends xs ys says.1 also.1)
  one_verdict (Yes xs) (No m) says denies = absurd (no_other m denies (begun xs says))
  one_verdict (Yes xs) Unfinished says unfinished = absurd (not_unfinished xs says unfinished)
  one_verdict (No n) (Yes ys) denies says = absurd (no_other n denies (begun ys says))
  one_verdict (No n) (No m) denies also =
      let up : n ≤ m = not_below config records m n also.2 denies.1 in
      let down : m ≤ n = not_below config records n m denies.2 also.1 in
      let same : n ≡ m = omega arith in ap No same
  one_verdict (No n) Unfinished denies unfinished = absurd (no_other n denies unfinished.0)
  one_verdict Unfinished (Yes ys) unfinished says = absurd (not_unfinished ys says unfinished)
  one_verdict Unfinished (No m) unfinished denies = absurd (no_other m denies unfinished.0)
  one_verdict Unfinished Unfinished unfinished also = refl

-- what each has, each has
each_also : {X : Type 0} (P Q : X → Type 0) → ((x : X) → P x → Q x) → (xs : List X) → Each P xs → Each Q xs
each_also P Q also [] each = tt
each_also P Q also (x ∷ xs) each = (also x each.0, each_also P Q also xs each.1)

-- sets, each before those behind it
abbrev Ascend : List Families → Type 0
Ascend [] = Unit {0}
Ascend (f ∷ fs) = Each (λ g. place_of f < place_of g) fs × Ascend fs

-- the four sets
abbrev all_sets : List Families
all_sets =
    record { v4 = false; v6 = false } ∷ record { v4 = true; v6 = false } ∷ record { v4 = false; v6 = true } ∷ record { v4 = true; v6 = true } ∷ []

among_by : (a b : Bool) → Has (λ g. g ≡ record { v4 = a; v6 = b }) all_sets
among_by false false = inl refl
among_by true false = inr (inl refl)
among_by false true = inr (inr (inl refl))
among_by true true = inr (inr (inr (inl refl)))

among : (f : Families) → Has (λ g. g ≡ f) all_sets
among f = among_by f.v4 f.v6

ascending : Ascend all_sets
ascending = ((omega arith, (omega arith, (omega arith, tt))), ((omega arith, (omega arith, tt)), ((omega arith, tt), (tt, tt))))

-- ---- some verdict

module _ (config : Config) (records : List ShownRecord) where
  -- the ends whose disabled families are among these, in order
  record Listed (fs : List Families) : Type 0 where
    ends : List End
    each : Each (λ e. IsComplete config records e × Has (λ g. g ≡ e.routes.disabled) fs) ends
    every : (e : End) → IsComplete config records e → Has (λ g. g ≡ e.routes.disabled) fs → Has (λ x. x ≡ e) ends
    none_twice : NoneTwice ends
    in_order : AreInOrder ends

  -- an end more, in front
  with_end : (f : Families) (fs : List Families) (e : End) → Each (λ g. place_of f < place_of g) fs → IsComplete config records e → e.routes.disabled ≡ f
      → Listed fs → Listed (f ∷ fs)
  with_end f fs e first complete is listed =
      let later : (x : End) → IsComplete config records x × Has (λ g. g ≡ x.routes.disabled) fs → place_of f < place_of x.routes.disabled =
      λ x has. each_has (λ g. place_of f < place_of g) x.routes.disabled fs first has.1
      in
      let behind : Each (λ x. place_of f < place_of x.routes.disabled) listed.ends =
      each_also (λ x. IsComplete config records x × Has (λ g. g ≡ x.routes.disabled) fs) (λ x. place_of f < place_of x.routes.disabled) later listed.ends listed.each
      in
      let same : place_of e.routes.disabled ≡ place_of f = ap place_of is in
      record {
        ends = e ∷ listed.ends;
        each = (
          (complete, inl (sym is)),
          each_also (λ x. IsComplete config records x × Has (λ g. g ≡ x.routes.disabled) fs) (λ x. IsComplete config records x × Has (λ g. g ≡ x.routes.disabled) (f ∷ fs))
              (λ x has. (has.0, inr has.1)) listed.ends listed.each,
        );
        every = λ x all among. elim among as (λ v. Has (λ y. y ≡ x) (e ∷ listed.ends)) [
          | inl here ↦ inl (one_end config records e x complete all (is ∙ here))
          | inr there ↦ inr (listed.every x all there)
        ];
        none_twice = (
          λ there. let far : place_of f < place_of e.routes.disabled = each_has (λ x. place_of f < place_of x.routes.disabled) e listed.ends behind there in absurd (omega arith),
          listed.none_twice,
        );
        in_order = (
          each_also (λ x. place_of f < place_of x.routes.disabled) (λ x. place_of e.routes.disabled ≤ place_of x.routes.disabled) (λ x far. omega arith) listed.ends behind,
          listed.in_order,
        );
      }

  without_end : (f : Families) (fs : List Families) → ((e : End) → IsComplete config records e → e.routes.disabled ≡ f → ⊥) → Listed fs → Listed (f ∷ fs)
  without_end f fs absent listed = record {
    ends = listed.ends;
    each = each_also (λ x. IsComplete config records x × Has (λ g. g ≡ x.routes.disabled) fs) (λ x. IsComplete config records x × Has (λ g. g ≡ x.routes.disabled) (f ∷ fs))
        (λ x has. (has.0, inr has.1)) listed.ends listed.each;
    every = λ x all among. elim among as (λ v. Has (λ y. y ≡ x) listed.ends) [
      | inl here ↦ absurd (absent x all (sym here))
      | inr there ↦ listed.every x all there
    ];
    none_twice = listed.none_twice;
    in_order = listed.in_order;
  }

  some_list : (fs : List Families) → Ascend fs → (Listed fs → ⊥) → ⊥
  some_list [] ascend none = none record {
    ends = [];
    each = tt;
    every = λ e all among. absurd among;
    none_twice = tt;
    in_order = tt;
  }
  some_list (f ∷ fs) ascend none =
      some_list fs ascend.1 (λ listed. none (without_end f fs (λ e all is. none (with_end f fs e ascend.0 all is listed)) listed))

  -- each front of the records begins a run
  front : ((v : VerdictValue) → ¬ HasVerdict config records v) → (n : ℕ) → n ≤ length records → (Begins config (take n records) → ⊥) → ⊥
  front none zero le none_begins = none_begins (no_record_begins config)
  front none (suc n) le none_begins =
      front none n (omega arith)
      (λ before. none (No n) (
        omega arith,
        before,
        λ behind. let e : n + 1 ≡ suc n = omega arith in none_begins (subst (λ (m : ℕ). Begins config (take m records)) e behind),
      ))

  not_empty : (e : End) (ends : List End) → Has (λ x. x ≡ e) ends → ends ≢ []
  not_empty e ends there empty = absurd (subst (λ (v : List End). Has (λ x. x ≡ e) v) empty there)

  pub some_verdict : ((v : VerdictValue) → ¬ HasVerdict config records v) → ⊥
  some_verdict none =
      front none (length records) (omega arith)
      (λ whole. none Unfinished (
        subst (λ (v : List ShownRecord). Begins config v) (take_all (length records) records (omega arith)) whole,
        λ e complete.
            some_list all_sets ascending
            (λ listed. none (Yes listed.ends) (
              not_empty e listed.ends (listed.every e complete (among e.routes.disabled)),
              record {
                each = each_also (λ x. IsComplete config records x × Has (λ g. g ≡ x.routes.disabled) all_sets) (IsComplete config records) (λ x has. has.0) listed.ends listed.each;
                every = λ x all. listed.every x all (among x.routes.disabled);
                none_twice = listed.none_twice;
                in_order = listed.in_order;
              },
            )),
      ))
