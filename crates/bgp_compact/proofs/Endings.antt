-- The ends of the members of the base, one for each set of disabled families.
use Rattle.std.proofs.Common.{◌≡◌, ◌≤◌, ◌<◌, ◌++◌, inl, inr, Bool, true, false, IsTrue, List, [], ◌∷◌, refl, sym, ap, subst, ◌∙◌, arith}
use Rattle.bgp_prefix.specs.Shown.{ShownRecord}
use Rattle.bgp_open.specs.declared.config.Config.{Config}
use Rattle.bgp_open.specs.declared.families.Families.{Families}
use Rattle.bgp_open.specs.Families.{union}
use Rattle.bgp_rib.specs.Routes.{Routes, routes_without}
use Rattle.bgp_machine.specs.Lists.{Has, Each, NoneTwice}
use Rattle.bgp_machine.specs.Run.{End, IsComplete, end_of}
use Rattle.bgp_judge.specs.Ends.{ListsEnds, AreInOrder, place_of}
use Rattle.bgp_judge.specs.Member.{Member}
use Rattle.bgp_judge.proofs.Standing.{ends_so}
use Rattle.bgp_compact.specs.declared.base.Base.{Base}
use Rattle.bgp_compact.specs.declared.words.Words.{Words}
use Rattle.bgp_compact.specs.Disabled.{holds}
use Rattle.bgp_compact.specs.Members.{IsMember}
use Rattle.bgp_compact.specs.Parts.{IsBase, HasNoBase, free_member, kept, end_at, ends_in}
use Rattle.bgp_compact.specs.Standing.{Stands}

each_kept : (P : End → Type 0) (b : Bool) (e : End) (rest : List End) → (IsTrue b → P e) → Each P rest → Each P (kept b e rest)
each_kept P true e rest f h = (f refl, h)
each_kept P false e rest f h = h

has_here : (P : End → Type 0) (b : Bool) (e : End) (rest : List End) → IsTrue b → P e → Has P (kept b e rest)
has_here P true e rest t h = inl h
has_here P false e rest t h = absurd (let k : ⊥ = cc in k)

has_rest : (P : End → Type 0) (b : Bool) (e : End) (rest : List End) → Has P rest → Has P (kept b e rest)
has_rest P true e rest h = inr h
has_rest P false e rest h = h

abbrev set : Bool → Bool → Families
set a b = record { v4 = a; v6 = b }

each_end : (P : End → Type 0) (base : Base) (table : Routes) → ((d : Families) → IsTrue (holds base.sets d) → P (end_at base table d)) → Each P (ends_in base table)
each_end P base table f =
    each_kept P base.sets.none (end_at base table (set false false)) _ (f (set false false))
    (each_kept P base.sets.v4 (end_at base table (set true false)) _ (f (set true false))
    (each_kept P base.sets.v6 (end_at base table (set false true)) _ (f (set false true))
    (each_kept P base.sets.both (end_at base table (set true true)) [] (f (set true true)) tt)))

has_end_by : (P : End → Type 0) (base : Base) (table : Routes) (a b : Bool) → IsTrue (holds base.sets (set a b)) → P (end_at base table (set a b)) → Has P (ends_in base table)
has_end_by P base table false false k p = has_here P base.sets.none _ _ k p
has_end_by P base table true false k p = has_rest P base.sets.none _ _ (has_here P base.sets.v4 _ _ k p)
has_end_by P base table false true k p = has_rest P base.sets.none _ _ (has_rest P base.sets.v4 _ _ (has_here P base.sets.v6 _ _ k p))
has_end_by P base table true true k p = has_rest P base.sets.none _ _ (has_rest P base.sets.v4 _ _ (has_rest P base.sets.v6 _ _ (has_here P base.sets.both _ _ k p)))

-- ---- their order

disabled_is : (table : Routes) (d : Families) → table.disabled ≡ set false false → (routes_without d table).disabled ≡ d
unfolding routes_without
disabled_is table d e = ap (λ (v : Families). union v d) e

abbrev Before : End → End → Type 0
Before x y = place_of x.routes.disabled < place_of y.routes.disabled

before : (base : Base) (table : Routes) (a b : Families) → table.disabled ≡ set false false → place_of a < place_of b → Before (end_at base table a) (end_at base table b)
before base table a b e h =
    subst (λ (v : Families). place_of v < place_of (routes_without b table).disabled) (sym (disabled_is table a e))
    (subst (λ (v : Families). place_of a < place_of v) (sym (disabled_is table b e)) h)

abbrev Ascend : List End → Type 0
Ascend [] = Unit {0}
Ascend (x ∷ xs) = Each (Before x) xs × Ascend xs

ascend_kept : (b : Bool) (e : End) (rest : List End) → Each (Before e) rest → Ascend rest → Ascend (kept b e rest)
ascend_kept true e rest h o = (h, o)
ascend_kept false e rest h o = o

ascend_ends : (base : Base) (table : Routes) → table.disabled ≡ set false false → Ascend (ends_in base table)
ascend_ends base table e =
    let n = end_at base table (set false false) in
    let v4 = end_at base table (set true false) in
    let v6 = end_at base table (set false true) in
    let both = end_at base table (set true true) in
    ascend_kept base.sets.none n _
    (each_kept (Before n) base.sets.v4 v4 _ (λ z. before base table (set false false) (set true false) e (omega arith))
    (each_kept (Before n) base.sets.v6 v6 _ (λ z. before base table (set false false) (set false true) e (omega arith))
    (each_kept (Before n) base.sets.both both [] (λ z. before base table (set false false) (set true true) e (omega arith)) tt)))
    (ascend_kept base.sets.v4 v4 _
    (each_kept (Before v4) base.sets.v6 v6 _ (λ z. before base table (set true false) (set false true) e (omega arith))
    (each_kept (Before v4) base.sets.both both [] (λ z. before base table (set true false) (set true true) e (omega arith)) tt))
    (ascend_kept base.sets.v6 v6 _
    (each_kept (Before v6) base.sets.both both [] (λ z. before base table (set false true) (set true true) e (omega arith)) tt)
    (ascend_kept base.sets.both both [] tt tt)))

each_at_most : (x : End) (xs : List End) → Each (Before x) xs → Each (λ y. place_of x.routes.disabled ≤ place_of y.routes.disabled) xs
each_at_most x [] h = tt
each_at_most x (y ∷ xs) h = ((let k : place_of x.routes.disabled < place_of y.routes.disabled = h.0 in omega arith), each_at_most x xs h.1)

in_order : (xs : List End) → Ascend xs → AreInOrder xs
in_order [] h = tt
in_order (x ∷ xs) h = (each_at_most x xs h.0, in_order xs h.1)

not_before_itself : (x : End) → Before x x → ⊥
not_before_itself x h = absurd (omega arith)

not_behind : (x : End) (xs : List End) → Each (Before x) xs → Has (λ y. y ≡ x) xs → ⊥
not_behind x [] h k = k
not_behind x (y ∷ xs) h k = elim k [
  | inl e ↦ not_before_itself x (subst (λ (v : End). Before x v) e h.0)
  | inr j ↦ not_behind x xs h.1 j
]

none_twice : (xs : List End) → Ascend xs → NoneTwice xs
none_twice [] h = tt
none_twice (x ∷ xs) h = (not_behind x xs h.0, none_twice xs h.1)

-- ---- they are the possible ends

pub lists_ends : (config : Config) (n : Words) (table : Routes) (base : Base) (records : List ShownRecord) → IsBase n base → Stands config n table records
    → ListsEnds config records (ends_in base table)
lists_ends config n table base records is s =
    let so = ends_so config (IsMember n table) records s.stand in
    record {
      each = each_end (IsComplete config records) base table (λ d held.
          (so (end_at base table d)).1 (free_member base.head table d, is.to table s.is_table d held, (refl, refl), refl));
      every = λ e c.
          let k = (so e).0 c in
          let b = is.from table s.is_table k.0 k.1 k.2 in
          has_end_by (λ x. x ≡ e) base table b.0.v4 b.0.v6 b.1 (sym (ap (λ (x : Member). end_of x.state) b.2) ∙ k.3);
      none_twice = none_twice (ends_in base table) (ascend_ends base table s.is_table.enabled);
      in_order = in_order (ends_in base table) (ascend_ends base table s.is_table.enabled);
    }

pub lists_none : (config : Config) (n : Words) (table : Routes) (records : List ShownRecord) → HasNoBase n → Stands config n table records → ListsEnds config records []
lists_none config n table records none s = record {
  each = tt;
  every = λ e c. let k = (ends_so config (IsMember n table) records s.stand e).0 c in absurd (none table k.0 k.1 k.2);
  none_twice = tt;
  in_order = tt;
}

-- ---- the list as it grows

pub grown : (a b c d : List End) (e1 e2 : List End) → b ≡ a ++ e1 → c ≡ b ++ e2 → c ≡ (a ++ e1) ++ e2
grown a b c d e1 e2 p q = q ∙ ap (λ (v : List End). v ++ e2) p

kept_behind : (b : Bool) (e : End) (rest : List End) → kept b e [] ++ rest ≡ kept b e rest
kept_behind true e rest = refl
kept_behind false e rest = refl

pub four_ends : (base : Base) (table : Routes) (l0 l1 l2 l3 l4 : List End) → l0 ≡ []
    → l1 ≡ l0 ++ kept base.sets.none (end_at base table (set false false)) [] → l2 ≡ l1 ++ kept base.sets.v4 (end_at base table (set true false)) []
    → l3 ≡ l2 ++ kept base.sets.v6 (end_at base table (set false true)) [] → l4 ≡ l3 ++ kept base.sets.both (end_at base table (set true true)) []
    → l4 ≡ ((kept base.sets.none (end_at base table (set false false)) [] ++ kept base.sets.v4 (end_at base table (set true false)) [])
    ++ kept base.sets.v6 (end_at base table (set false true)) []) ++ kept base.sets.both (end_at base table (set true true)) []
four_ends base table l0 l1 l2 l3 l4 e0 e1 e2 e3 e4 =
    e4 ∙ ap (λ (v : List End). v ++ kept base.sets.both (end_at base table (set true true)) [])
    (e3 ∙ ap (λ (v : List End). v ++ kept base.sets.v6 (end_at base table (set false true)) [])
    (e2 ∙ ap (λ (v : List End). v ++ kept base.sets.v4 (end_at base table (set true false)) [])
    (e1 ∙ ap (λ (v : List End). v ++ kept base.sets.none (end_at base table (set false false)) []) e0)))

joined : (a b c d : Bool) (w x y z : End) → ((kept a w [] ++ kept b x []) ++ kept c y []) ++ kept d z [] ≡ kept a w (kept b x (kept c y (kept d z [])))
joined true true true d w x y z = refl
joined true true false d w x y z = refl
joined true false true d w x y z = refl
joined true false false d w x y z = refl
joined false true true d w x y z = refl
joined false true false d w x y z = refl
joined false false true d w x y z = refl
joined false false false d w x y z = refl

pub all_ends : (base : Base) (table : Routes) (l0 l1 l2 l3 l4 : List End) → l0 ≡ []
    → l1 ≡ l0 ++ kept base.sets.none (end_at base table (set false false)) [] → l2 ≡ l1 ++ kept base.sets.v4 (end_at base table (set true false)) []
    → l3 ≡ l2 ++ kept base.sets.v6 (end_at base table (set false true)) [] → l4 ≡ l3 ++ kept base.sets.both (end_at base table (set true true)) []
    → l4 ≡ ends_in base table
all_ends base table l0 l1 l2 l3 l4 e0 e1 e2 e3 e4 =
    four_ends base table l0 l1 l2 l3 l4 e0 e1 e2 e3 e4
    ∙ joined base.sets.none base.sets.v4 base.sets.v6 base.sets.both (end_at base table (set false false)) (end_at base table (set true false)) (end_at base table (set false true)) (end_at base table (set true true))
