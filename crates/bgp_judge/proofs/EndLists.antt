-- The lists of ends, as they grow.
use Rattle.std.proofs.Common.{◌≡◌, ℕ, ◌<◌, ◌≤◌, ◌+◌, ◌⊎◌, inl, inr, Bool, true, false, List, [], ◌∷◌, ◌++◌, Result, Ok, Err, IfOk, length, take, get_or, map, refl, sym, ap, subst, ◌∙◌, arith}
use Rattle.std.proofs.lemmas.List.{take_more, take_all}
use Rattle.bgp_prefix.specs.Shown.{ShownRecord}
use Rattle.bgp_open.specs.declared.config.Config.{Config}
use Rattle.bgp_open.specs.declared.families.Families.{Families}
use Rattle.bgp_machine.specs.Lists.{Has, Each, NoneTwice}
use Rattle.bgp_machine.specs.Run.{End, IsComplete, end_of}
use Rattle.bgp_machine.proofs.RowByRow.{has_left, has_right, has_either, none_twice_more}
use Rattle.bgp_judge.specs.declared.member.PlainMember.{PlainMember}
use Rattle.bgp_judge.specs.Ends.{AreInOrder, ListsEnds, place_of}
use Rattle.bgp_judge.specs.Member.{Member, IsFree}
use Rattle.bgp_judge.specs.Plain.{member_value, Among, IsEndWith, AddsEnd, IsEndOf, ListsEndsBelow}
use Rattle.bgp_judge.specs.Stands.{StandFor}
use Rattle.bgp_judge.proofs.Standing.{ends_so}

pub if_ok_weaker : {T E : Type 0} (r : Result T E) (P Q : T → Type 0) → ((x : T) → P x → Q x) → IfOk r P → IfOk r Q
if_ok_weaker (Ok x) P Q f h = f x h
if_ok_weaker (Err x) P Q f h = tt

pub map_has : {X Y : Type 0} (f : X → Y) (e : Y) (xs : List X) → Has (λ x. f x ≡ e) xs → Has (λ y. y ≡ e) (map f xs)
map_has f e [] h = h
map_has f e (x ∷ xs) h = elim h [ inl a ↦ inl a | inr b ↦ inr (map_has f e xs b) ]

pub has_map : {X Y : Type 0} (f : X → Y) (e : Y) (xs : List X) → Has (λ y. y ≡ e) (map f xs) → Has (λ x. f x ≡ e) xs
has_map f e [] h = h
has_map f e (x ∷ xs) h = elim h [ inl a ↦ inl a | inr b ↦ inr (has_map f e xs b) ]

pub map_behind : {X Y : Type 0} (f : X → Y) (xs : List X) (x : X) → map f (xs ++ x ∷ []) ≡ map f xs ++ f x ∷ []
map_behind f [] x = refl
map_behind f (y ∷ xs) x = ap (λ v. f y ∷ v) (map_behind f xs x)

abbrev set : Bool → Bool → Families
set a b = record { v4 = a; v6 = b }

by_parts : (a b c d : Bool) → place_of (set a b) ≡ place_of (set c d) → set a b ≡ set c d
by_parts false false false false e = refl
by_parts false false true false e = absurd (omega (arith, e))
by_parts false false false true e = absurd (omega (arith, e))
by_parts false false true true e = absurd (omega (arith, e))
by_parts true false false false e = absurd (omega (arith, e))
by_parts true false true false e = refl
by_parts true false false true e = absurd (omega (arith, e))
by_parts true false true true e = absurd (omega (arith, e))
by_parts false true false false e = absurd (omega (arith, e))
by_parts false true true false e = absurd (omega (arith, e))
by_parts false true false true e = refl
by_parts false true true true e = absurd (omega (arith, e))
by_parts true true false false e = absurd (omega (arith, e))
by_parts true true true false e = absurd (omega (arith, e))
by_parts true true false true e = absurd (omega (arith, e))
by_parts true true true true e = refl

place_by : (a b : Bool) → place_of (set a b) < 4
place_by false false = omega arith
place_by true false = omega arith
place_by false true = omega arith
place_by true true = omega arith

place_below : (a : Families) → place_of a < 4
place_below a = place_by a.v4 a.v6

before_last : (a b c : ℕ) → a < b → c ≡ b → a ≤ c
before_last a b c h e = omega arith

at_last : (a b c : ℕ) → a ≡ b → c ≡ b → a ≤ c
at_last a b c h e = omega arith

one_less : (a b : ℕ) → a < b → a < b + 1
one_less a b h = omega arith

just_less : (a b : ℕ) → a ≡ b → a < b + 1
just_less a b h = omega arith

less_or_at : (a b : ℕ) → a < b + 1 → (a < b) ⊎ (a ≡ b)
less_or_at a b h = grind arith

-- each place is that of one set of families
pub one_place : (a b : Families) → place_of a ≡ place_of b → a ≡ b
one_place a b e = by_parts a.v4 a.v6 b.v4 b.v6 e

each_of : {X : Type 0} (P : X → Type 0) (xs : List X) → ((x : X) → Has (λ y. y ≡ x) xs → P x) → Each P xs
each_of P [] f = tt
each_of P (x ∷ xs) f = (f x (inl refl), each_of P xs (λ y h. f y (inr h)))

each_behind : {X : Type 0} (P : X → Type 0) (xs : List X) (x : X) → Each P xs → P x → Each P (xs ++ x ∷ [])
each_behind P [] x each p = (p, tt)
each_behind P (y ∷ xs) x each p = (each.0, each_behind P xs x each.1 p)

order_behind : (xs : List End) (x : End) → AreInOrder xs → Each (λ y. place_of y.routes.disabled ≤ place_of x.routes.disabled) xs → AreInOrder (xs ++ x ∷ [])
order_behind [] x order each = (tt, tt)
order_behind (y ∷ xs) x order each =
    (each_behind (λ z. place_of y.routes.disabled ≤ place_of z.routes.disabled) xs x order.0 each.0, order_behind xs x order.1 each.1)

-- the ends at places before this one, and those at this one of the members so far
pub record EndsSoFar {X : Type 0} (place : ℕ) (members so_far : List (PlainMember X)) (ends : List End) : Type 0 where
  pub only : (e : End) → Has (λ x. x ≡ e) ends
      → (IsEndOf members e × (place_of e.routes.disabled < place)) ⊎ (IsEndOf so_far e × (place_of e.routes.disabled ≡ place))
  pub before : (e : End) → IsEndOf members e → place_of e.routes.disabled < place → Has (λ x. x ≡ e) ends
  pub here : (e : End) → IsEndOf so_far e → place_of e.routes.disabled ≡ place → Has (λ x. x ≡ e) ends
  pub none_twice : NoneTwice ends
  pub in_order : AreInOrder ends

pub none_so_far : {A : Type 0} (place : ℕ) (members : List (PlainMember A)) (ends : List End) → ListsEndsBelow place members ends
    → EndsSoFar place members [] ends
none_so_far place members ends lists = record {
  only = λ e h. inl (lists.only e h);
  before = lists.every;
  here = λ e is p. absurd is.1;
  none_twice = lists.none_twice;
  in_order = lists.in_order;
}

-- an end of one member more is one of those so far, or that member's
one_of : {A : Type 0} (so_far : List (PlainMember A)) (x : PlainMember A) (e : End) → IsEndOf (so_far ++ x ∷ []) e
    → IsEndOf so_far e ⊎ (IsFree (member_value x) × (end_of (member_value x).state ≡ e))
one_of so_far x e is = elim (has_either (λ y. member_value y ≡ is.0) so_far (x ∷ []) is.1) [
  | inl a ↦ inl (is.0, a, is.2, is.3)
  | inr b ↦ elim b [
    | inl q ↦ inr (subst (λ (m : Member). IsFree m × (end_of m.state ≡ e)) (sym q) (is.2, is.3))
    | inr z ↦ absurd z
  ]
]

more_of : {A : Type 0} (so_far : List (PlainMember A)) (x : PlainMember A) (e : End) → IsEndOf so_far e → IsEndOf (so_far ++ x ∷ []) e
more_of so_far x e is = (is.0, has_left (λ y. member_value y ≡ is.0) so_far (x ∷ []) is.1, is.2, is.3)

last_of : {A : Type 0} (so_far : List (PlainMember A)) (x : PlainMember A) (e : End) → IsFree (member_value x) → end_of (member_value x).state ≡ e
    → IsEndOf (so_far ++ x ∷ []) e
last_of so_far x e free is = (member_value x, has_right (λ y. member_value y ≡ member_value x) so_far (x ∷ []) (inl refl), free, is)

end_more : {A : Type 0} (families : Families) (members so_far : List (PlainMember A)) (x : PlainMember A) (old new : List End)
    → EndsSoFar (place_of families) members so_far old → AddsEnd families (member_value x) old new
    → EndsSoFar (place_of families) members (so_far ++ x ∷ []) new
end_more families members so_far x old new so adds = elim adds [
  | inl k ↦ subst (λ (v : List End). EndsSoFar (place_of families) members (so_far ++ x ∷ []) v) (sym k.0) (record {
    only = λ e h. elim (so.only e h) [ inl a ↦ inl a | inr b ↦ inr (more_of so_far x e b.0, b.1) ];
    before = so.before;
    here = λ e is p. elim (one_of so_far x e is) [
      | inl a ↦ so.here e a p
      | inr b ↦ k.1 e (b.0, b.1, one_place e.routes.disabled families p)
    ];
    none_twice = so.none_twice;
    in_order = so.in_order;
  })
  | inr k ↦
      let last : End = k.0 in
      let is : IsEndWith families (member_value x) last = k.1 in
      let at : place_of last.routes.disabled ≡ place_of families = ap place_of is.2 in
      subst (λ (v : List End). EndsSoFar (place_of families) members (so_far ++ x ∷ []) v) (sym k.3) (record {
        only = λ e h. elim (has_either (λ y. y ≡ e) old (last ∷ []) h) [
          | inl a ↦ elim (so.only e a) [ inl b ↦ inl b | inr b ↦ inr (more_of so_far x e b.0, b.1) ]
          | inr b ↦ elim b [
            | inl q ↦ inr (subst (λ (v : End). IsEndOf (so_far ++ x ∷ []) v × (place_of v.routes.disabled ≡ place_of families)) q
                (last_of so_far x last is.0 is.1, at))
            | inr z ↦ absurd z
          ]
        ];
        before = λ e is2 p. has_left (λ y. y ≡ e) old (last ∷ []) (so.before e is2 p);
        here = λ e is2 p. elim (one_of so_far x e is2) [
          | inl a ↦ has_left (λ y. y ≡ e) old (last ∷ []) (so.here e a p)
          | inr b ↦ has_right (λ y. y ≡ e) old (last ∷ []) (inl (sym is.1 ∙ b.1))
        ];
        none_twice = none_twice_more old last so.none_twice k.2;
        in_order = order_behind old last so.in_order (each_of (λ y. place_of y.routes.disabled ≤ place_of last.routes.disabled) old
            (λ y h. elim (so.only y h) [ inl a ↦ before_last _ _ _ a.1 at | inr b ↦ at_last _ _ _ b.1 at ]));
      })
]

pub one_more_end : {A : Type 0} (families : Families) (members : List (PlainMember A)) (i : ℕ) (x : PlainMember A) (old new : List End) → i < length members
    → x ≡ get_or members i x → EndsSoFar (place_of families) members (take i members) old → AddsEnd families (member_value x) old new
    → EndsSoFar (place_of families) members (take (i + 1) members) new
one_more_end families members i x old new lt e so adds =
    subst (λ (v : List (PlainMember _)). EndsSoFar (place_of families) members v new) (sym (take_more members i x lt))
    (subst (λ (v : PlainMember _). EndsSoFar (place_of families) members (take i members ++ v ∷ []) new) e (end_more families members (take i members) x old new so adds))

pub all_ends : {A : Type 0} (place : ℕ) (members : List (PlainMember A)) (i : ℕ) (ends : List End) → length members ≤ i
    → EndsSoFar place members (take i members) ends → ListsEndsBelow (place + 1) members ends
all_ends place members i ends le so_far =
    let so : EndsSoFar place members members ends = subst (λ (v : List (PlainMember _)). EndsSoFar place members v ends) (take_all i members le) so_far in
    record {
      only = λ e h. elim (so.only e h) [ inl a ↦ (a.0, one_less _ _ a.1) | inr b ↦ (b.0, just_less _ _ b.1) ];
      every = λ e is p. elim (less_or_at _ _ p) [ inl a ↦ so.before e is a | inr b ↦ so.here e is b ];
      none_twice = so.none_twice;
      in_order = so.in_order;
    }

pub no_ends : {A : Type 0} (members : List (PlainMember A)) (ends : List End) → ends ≡ [] → ListsEndsBelow 0 members ends
no_ends members ends e = subst (λ (v : List End). ListsEndsBelow 0 members v) (sym e)
    (record { only = λ x h. absurd h; every = λ x is p. absurd (omega arith); none_twice = tt; in_order = tt })

pub lists_ends : {A : Type 0} (config : Config) (records : List ShownRecord) (members : List (PlainMember A)) (ends : List End)
    → StandFor config (Among members) records → ListsEndsBelow 4 members ends → ListsEnds config records ends
lists_ends config records members ends stand lists = record {
  each = each_of (IsComplete config records) ends (λ e h. (ends_so config (Among members) records stand e).1 (lists.only e h).0);
  every = λ e c. lists.every e ((ends_so config (Among members) records stand e).0 c) (place_below e.routes.disabled);
  none_twice = lists.none_twice;
  in_order = lists.in_order;
}
