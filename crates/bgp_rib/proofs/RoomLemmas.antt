-- What a write to a table with room is to its routes.
use Rattle.std.proofs.Common.{◌≡◌, ℕ, suc, length, IsSome, cond, Bool, true, false, not, List, [], ◌∷◌, Option, None, Some, is_some, filter, refl, sym, ap, subst, ◌∙◌}
use Rattle.std.specs.declared.cmp.Ordering.{Ordering}
use Rattle.std.specs.declared.cmp.Ordering.TheVariants.{Less, Equal, Greater}
use Rattle.std.specs.Cmp.{IsTotalOrder, Equal-is}
use Rattle.std.proofs.lemmas.Map.Entries.{lookup-filter-keys}
use Rattle.std.specs.Ordering.{is_eq}
use Rattle.std.specs.BTreeMap.{insert_entry, is_at}
use Rattle.std.specs.List.{AllByRecursion}
use Rattle.std.specs.Option.{option_flatten}
use Rattle.std.specs.List.Sorted.{IsStrictlySortedBy}
use Rattle.std.specs.Map.{lookup, keys_of, remove_entry}
use Rattle.std.proofs.lemmas.Cmp.{tied_itself, tied_back}
use Rattle.std.proofs.lemmas.Map.Keys.{sorted_head, sorted_tail}
use Rattle.std.proofs.lemmas.Map.Lookups.{CmpEqualImpliesEq}
use Rattle.bgp_rib.specs.Rooms.{with_route, routes_in, HasRoom, HasNoRoom}

pub some_none : {X : Type 0} (x : X) → Some x ≡ None → ⊥
some_none x e = absurd cc

pub absent_from : {X : Type 0} (x : Option X) (b : Bool) → b ≡ false → b ≡ is_some x → x ≡ None
absent_from None b e h = refl
absent_from (Some x) b e h = absurd cc

some_is : {X : Type 0} (x y : X) → Some x ≡ Some y → x ≡ y
some_is x y e = cc

greater : {K : Type 0} {R : K → K → Ordering} (o : IsTotalOrder R) (k j : K) → R k j ≡ Less → is_eq (R j k) ≡ false
greater o k j e = rw (o.antisymm j k, e) refl

found_in : {X : Type 0} (b : Bool) (x : Option X) (y : X) → cond b x None ≡ Some y → x ≡ Some y
found_in true x y h = h
found_in false x y h = absurd cc

module _ {K V : Type 0} {R : K → K → Ordering} (o : IsTotalOrder R) (exact : CmpEqualImpliesEq R) where
  -- below each key
  Below : K → List (K × Option V) → Type 0
  Below k es = AllByRecursion (λ y. R k y ≡ Less) (keys_of es)

  below_more : (k j : K) (es : List (K × Option V)) → R k j ≡ Less → AllByRecursion (λ y. R j y ≡ Less) (keys_of es) → AllByRecursion (λ y. R k y ≡ Less) (keys_of es)
  below_more k j [] e h = tt
  below_more k j (x ∷ es) e h = (o.trans k j x.0 e h.0, below_more k j es e h.1)

  -- a write without a route at k hides the route to k

  kept_by : (k p : K) (v : Option V) (es : List (K × Option V)) → is_eq (R p k) ≡ false
      → filter (λ e. not (is_eq (R e.0 k))) (routes_in es) ≡ routes_in es
      → filter (λ e. not (is_eq (R e.0 k))) (routes_in ((p, v) ∷ es)) ≡ routes_in ((p, v) ∷ es)
  kept_by k p None es e more = more
  kept_by k p (Some v) es e more = rw (e, more) refl

  unfiltered : (k : K) (es : List (K × Option V)) → AllByRecursion (λ y. R k y ≡ Less) (keys_of es)
      → filter (λ e. not (is_eq (R e.0 k))) (routes_in es) ≡ routes_in es
  unfiltered k [] h = refl
  unfiltered k (e ∷ es) h = kept_by k e.0 e.1 es (greater o k e.0 h.0) (unfiltered k es h.1)

  dropped_by : (k p : K) (v : Option V) (es : List (K × Option V)) → is_eq (R p k) ≡ true
      → filter (λ e. not (is_eq (R e.0 k))) (routes_in es) ≡ routes_in es
      → routes_in es ≡ filter (λ e. not (is_eq (R e.0 k))) (routes_in ((p, v) ∷ es))
  dropped_by k p None es e more = sym more
  dropped_by k p (Some v) es e more = rw (e, more) refl

  moved_by : (k p : K) (v : Option V) (es fs : List (K × Option V)) → is_eq (R p k) ≡ false
      → routes_in fs ≡ filter (λ e. not (is_eq (R e.0 k))) (routes_in es)
      → routes_in ((p, v) ∷ fs) ≡ filter (λ e. not (is_eq (R e.0 k))) (routes_in ((p, v) ∷ es))
  moved_by k p None es fs e more = more
  moved_by k p (Some v) es fs e more = rw (e, more) refl

  shadowed_by : (k p : K) (v : Option V) (es : List (K × Option V)) (r : Ordering) → R k p ≡ r
      → AllByRecursion (λ y. R p y ≡ Less) (keys_of es)
      → routes_in (insert_entry R es k None) ≡ filter (λ e. not (is_eq (R e.0 k))) (routes_in es)
      → routes_in (insert_entry R ((p, v) ∷ es) k None) ≡ filter (λ e. not (is_eq (R e.0 k))) (routes_in ((p, v) ∷ es))
  shadowed_by k p v es Less e above more = rw e (sym (unfiltered k ((p, v) ∷ es) (e, below_more k p es e above)))
  shadowed_by k p v es Equal e above more =
      rw e (dropped_by k p v es (ap is_eq (tied_back o k p e)) (unfiltered k es (subst (λ z. AllByRecursion (λ y. R z y ≡ Less) (keys_of es)) (sym (exact k p e)) above)))
  shadowed_by k p v es Greater e above more = rw e (moved_by k p v es (insert_entry R es k None) (rw (o.antisymm p k, e) refl) more)

  pub shadowed : (k : K) (es : List (K × Option V)) → IsStrictlySortedBy R (keys_of es)
      → routes_in (insert_entry R es k None) ≡ filter (λ e. not (is_eq (R e.0 k))) (routes_in es)
  shadowed k [] s = refl
  shadowed k (e ∷ es) s = shadowed_by k e.0 e.1 es (R k e.0) refl (sorted_head R e.0 (keys_of es) s) (shadowed k es (sorted_tail R e.0 (keys_of es) s))

  -- a write of a route puts it
  first_by : (k p : K) (w : V) (v : Option V) (es : List (K × Option V)) → R k p ≡ Less
      → insert_entry R (routes_in es) k w ≡ (k, w) ∷ routes_in es
      → insert_entry R (routes_in ((p, v) ∷ es)) k w ≡ (k, w) ∷ routes_in ((p, v) ∷ es)
  first_by k p w None es e more = more
  first_by k p w (Some v) es e more = rw e refl

  put_first : (k : K) (w : V) (es : List (K × Option V)) → AllByRecursion (λ y. R k y ≡ Less) (keys_of es)
      → insert_entry R (routes_in es) k w ≡ (k, w) ∷ routes_in es
  put_first k w [] h = refl
  put_first k w (e ∷ es) h = first_by k e.0 w e.1 es h.0 (put_first k w es h.1)

  put_here : (k p : K) (w : V) (v : Option V) (es : List (K × Option V)) → R k p ≡ Equal
      → insert_entry R (routes_in es) k w ≡ (k, w) ∷ routes_in es
      → (p, w) ∷ routes_in es ≡ insert_entry R (routes_in ((p, v) ∷ es)) k w
  put_here k p w None es e more = ap (λ z. (z, w) ∷ routes_in es) (sym (exact k p e)) ∙ sym more
  put_here k p w (Some v) es e more = rw e refl

  put_later : (k p : K) (w : V) (v : Option V) (es fs : List (K × Option V)) → R k p ≡ Greater
      → routes_in fs ≡ insert_entry R (routes_in es) k w
      → routes_in ((p, v) ∷ fs) ≡ insert_entry R (routes_in ((p, v) ∷ es)) k w
  put_later k p w None es fs e more = more
  put_later k p w (Some v) es fs e more = rw (e, more) refl

  put_by : (k p : K) (w : V) (v : Option V) (es : List (K × Option V)) (r : Ordering) → R k p ≡ r
      → AllByRecursion (λ y. R p y ≡ Less) (keys_of es)
      → routes_in (insert_entry R es k (Some w)) ≡ insert_entry R (routes_in es) k w
      → routes_in (insert_entry R ((p, v) ∷ es) k (Some w)) ≡ insert_entry R (routes_in ((p, v) ∷ es)) k w
  put_by k p w v es Less e above more = rw e (sym (put_first k w ((p, v) ∷ es) (e, below_more k p es e above)))
  put_by k p w v es Equal e above more =
      rw e (put_here k p w v es e (put_first k w es (subst (λ z. AllByRecursion (λ y. R z y ≡ Less) (keys_of es)) (sym (exact k p e)) above)))
  put_by k p w v es Greater e above more = rw e (put_later k p w v es (insert_entry R es k (Some w)) e more)

  pub put_in : (k : K) (w : V) (es : List (K × Option V)) → IsStrictlySortedBy R (keys_of es)
      → routes_in (insert_entry R es k (Some w)) ≡ insert_entry R (routes_in es) k w
  put_in k w [] s = refl
  put_in k w (e ∷ es) s = put_by k e.0 w e.1 es (R k e.0) refl (sorted_head R e.0 (keys_of es) s) (put_in k w es (sorted_tail R e.0 (keys_of es) s))

  -- room that goes takes no route with it
  swept_by : (k p : K) (v : Option V) (es : List (K × Option V)) (b : Bool) → is_at (R k) p ≡ b
      → lookup (is_at (R k)) ((p, v) ∷ es) ≡ Some None
      → (lookup (is_at (R k)) es ≡ Some None → routes_in (remove_entry (is_at (R k)) es) ≡ routes_in es)
      → routes_in (remove_entry (is_at (R k)) ((p, v) ∷ es)) ≡ routes_in ((p, v) ∷ es)
  swept_by k p v es true e room more = rw (e, some_is v None (rw e at room)) refl
  swept_by k p v es false e room more = rw (e, more (rw e at room)) refl

  pub swept : (k : K) (es : List (K × Option V)) → lookup (is_at (R k)) es ≡ Some None
      → routes_in (remove_entry (is_at (R k)) es) ≡ routes_in es
  swept k [] room = absurd cc
  swept k (e ∷ es) room = swept_by k e.0 e.1 es (is_at (R k) e.0) refl room (swept k es)

  -- an entry that goes takes the route to its key with it
  taken_by : (k p : K) (v : Option V) (es : List (K × Option V)) (r : Ordering) → R k p ≡ r
      → AllByRecursion (λ y. R p y ≡ Less) (keys_of es)
      → routes_in (remove_entry (is_at (R k)) es) ≡ filter (λ e. not (is_eq (R e.0 k))) (routes_in es)
      → routes_in (remove_entry (is_at (R k)) ((p, v) ∷ es)) ≡ filter (λ e. not (is_eq (R e.0 k))) (routes_in ((p, v) ∷ es))
  taken_by k p v es Less e above more = rw e (moved_by k p v es (remove_entry (is_at (R k)) es) (greater o k p e) more)
  taken_by k p v es Equal e above more =
      rw e (dropped_by k p v es (ap is_eq (tied_back o k p e)) (unfiltered k es (subst (λ z. AllByRecursion (λ y. R z y ≡ Less) (keys_of es)) (sym (exact k p e)) above)))
  taken_by k p v es Greater e above more = rw e (moved_by k p v es (remove_entry (is_at (R k)) es) (rw (o.antisymm p k, e) refl) more)

  pub taken : (k : K) (es : List (K × Option V)) → IsStrictlySortedBy R (keys_of es)
      → routes_in (remove_entry (is_at (R k)) es) ≡ filter (λ e. not (is_eq (R e.0 k))) (routes_in es)
  taken k [] s = refl
  taken k (e ∷ es) s = taken_by k e.0 e.1 es (R k e.0) refl (sorted_head R e.0 (keys_of es) s) (taken k es (sorted_tail R e.0 (keys_of es) s))

  -- no route at k, where there is no entry
  spared_by : (k p : K) (v : Option V) (es : List (K × Option V)) (r : Ordering) → R k p ≡ r
      → lookup (is_at (R k)) ((p, v) ∷ es) ≡ None
      → (lookup (is_at (R k)) es ≡ None → filter (λ e. not (is_eq (R e.0 k))) (routes_in es) ≡ routes_in es)
      → filter (λ e. not (is_eq (R e.0 k))) (routes_in ((p, v) ∷ es)) ≡ routes_in ((p, v) ∷ es)
  spared_by k p v es Less e absent more = kept_by k p v es (rw (o.antisymm p k, e) refl) (more (rw e at absent))
  spared_by k p v es Equal e absent more = absurd (some_none v (rw e at absent))
  spared_by k p v es Greater e absent more = kept_by k p v es (rw (o.antisymm p k, e) refl) (more (rw e at absent))

  pub spared : (k : K) (es : List (K × Option V)) → lookup (is_at (R k)) es ≡ None
      → filter (λ e. not (is_eq (R e.0 k))) (routes_in es) ≡ routes_in es
  spared k [] absent = refl
  spared k (e ∷ es) absent = spared_by k e.0 e.1 es (R k e.0) refl absent (spared k es)

  -- above a key there is no entry at it
  missing_below : (k : K) (es : List (K × Option V)) → AllByRecursion (λ y. R k y ≡ Less) (keys_of es) → lookup (is_at (R k)) es ≡ None
  missing_below k [] h = refl
  missing_below k (e ∷ es) h = rw (h.0, missing_below k es h.1) refl

  -- an entry that goes leaves no room, and gives none to others
  cut_room_by : (k q : K) (e : K × Option V) (es : List (K × Option V)) (b c : Bool) → is_at (R k) e.0 ≡ b → is_at (R q) e.0 ≡ c
      → AllByRecursion (λ y. R e.0 y ≡ Less) (keys_of es)
      → (HasRoom R (remove_entry (is_at (R k)) es) q → HasRoom R es q) → HasRoom R (remove_entry (is_at (R k)) (e ∷ es)) q → HasRoom R (e ∷ es) q
  cut_room_by k q e es true true t u above more h =
      absurd (some_none None (sym (rw t at h) ∙ missing_below q es (subst (λ z. AllByRecursion (λ y. R z y ≡ Less) (keys_of es)) (sym (exact q e.0 ((Equal-is _).0 u))) above)))
  cut_room_by k q e es true false t u above more h = rw u (rw t at h)
  cut_room_by k q e es false true t u above more h = rw u (rw (t, u) at h)
  cut_room_by k q e es false false t u above more h = rw u (more (rw (t, u) at h))

  pub cut_room : (k q : K) (es : List (K × Option V)) → IsStrictlySortedBy R (keys_of es) → HasRoom R (remove_entry (is_at (R k)) es) q → HasRoom R es q
  cut_room k q [] s h = h
  cut_room k q (e ∷ es) s h =
      cut_room_by k q e es (is_at (R k) e.0) (is_at (R q) e.0) refl refl (sorted_head R e.0 (keys_of es) s) (cut_room k q es (sorted_tail R e.0 (keys_of es) s)) h

  cut_gone_by : (k : K) (e : K × Option V) (es : List (K × Option V)) (b : Bool) → is_at (R k) e.0 ≡ b → AllByRecursion (λ y. R e.0 y ≡ Less) (keys_of es)
      → (HasRoom R (remove_entry (is_at (R k)) es) k → ⊥) → HasRoom R (remove_entry (is_at (R k)) (e ∷ es)) k → ⊥
  cut_gone_by k e es true t above more h =
      some_none None (sym (rw t at h) ∙ missing_below k es (subst (λ z. AllByRecursion (λ y. R z y ≡ Less) (keys_of es)) (sym (exact k e.0 ((Equal-is _).0 t))) above))
  cut_gone_by k e es false t above more h = more (rw (t, t) at h)

  pub cut_gone : (k : K) (es : List (K × Option V)) → IsStrictlySortedBy R (keys_of es) → HasRoom R (remove_entry (is_at (R k)) es) k → ⊥
  cut_gone k [] s h = absurd cc
  cut_gone k (e ∷ es) s h = cut_gone_by k e es (is_at (R k) e.0) refl (sorted_head R e.0 (keys_of es) s) (cut_gone k es (sorted_tail R e.0 (keys_of es) s)) h

  -- what a look-up finds among the routes
  found_with : (q p : K) (v : Option V) (es : List (K × Option V)) (b : Bool) → is_eq (R q p) ≡ b
      → AllByRecursion (λ y. R p y ≡ Less) (keys_of es)
      → lookup (is_at (R q)) (routes_in es) ≡ option_flatten (lookup (is_at (R q)) es)
      → lookup (is_at (R q)) (routes_in ((p, v) ∷ es)) ≡ option_flatten (lookup (is_at (R q)) ((p, v) ∷ es))
  found_with q p None es true t above more =
      rw t (more ∙ ap option_flatten (missing_below q es (subst (λ z. AllByRecursion (λ y. R z y ≡ Less) (keys_of es)) (sym (exact q p ((Equal-is _).0 t))) above)))
  found_with q p None es false t above more = rw t more
  found_with q p (Some v) es true t above more = rw t refl
  found_with q p (Some v) es false t above more = rw t more

  pub found_route : (q : K) (es : List (K × Option V)) → IsStrictlySortedBy R (keys_of es)
      → lookup (is_at (R q)) (routes_in es) ≡ option_flatten (lookup (is_at (R q)) es)
  found_route q [] s = refl
  found_route q (e ∷ es) s =
      found_with q e.0 e.1 es (is_eq (R q e.0)) refl (sorted_head R e.0 (keys_of es) s) (found_route q es (sorted_tail R e.0 (keys_of es) s))

  -- the entries that have a route
  kept_by_route : (k : K) (v : Option V) (es fs : List (K × Option V)) → routes_in fs ≡ routes_in es
      → routes_in (cond (is_some v) ((k, v) ∷ fs) fs) ≡ routes_in ((k, v) ∷ es)
  kept_by_route k None es fs more = more
  kept_by_route k (Some v) es fs more = ap (λ l. (k, v) ∷ l) more

  pub routed_kept : (es : List (K × Option V)) → routes_in (filter (λ e. is_some e.1) es) ≡ routes_in es
  routed_kept [] = refl
  routed_kept (e ∷ es) = kept_by_route e.0 e.1 es (filter (λ e. is_some e.1) es) (routed_kept es)

  no_room_by : (q k : K) (v : Option V) (fs : List (K × Option V)) (b : Bool) → is_eq (R q k) ≡ b → (HasRoom R fs q → ⊥)
      → HasRoom R (cond (is_some v) ((k, v) ∷ fs) fs) q → ⊥
  no_room_by q k None fs b t more h = more h
  no_room_by q k (Some v) fs true t more h = some_some v (rw t at h)
    where
      some_some : (v : V) → Some (Some v) ≡ Some None → ⊥
      some_some v e = absurd cc
  no_room_by q k (Some v) fs false t more h = more (rw t at h)

  pub routed_full : (es : List (K × Option V)) → HasNoRoom R (filter (λ e. is_some e.1) es)
  routed_full [] q h = absurd cc
  routed_full (e ∷ es) q h = no_room_by q e.0 e.1 (filter (λ e. is_some e.1) es) (is_eq (R q e.0)) refl (routed_full es q) h

  room_at_once : (e : K × Option V) (es : List (K × Option V)) → e.1 ≡ None → HasRoom R (e ∷ es) e.0
  room_at_once e es none = rw (tied_itself o e.0, none) refl

  room_behind : (e : K × Option V) (es : List (K × Option V)) (q : K) (r : Ordering) → R q e.0 ≡ r
      → AllByRecursion (λ y. R e.0 y ≡ Less) (keys_of es) → HasRoom R es q → HasRoom R (e ∷ es) q
  room_behind e es q Less t above h = rw (t, h) refl
  room_behind e es q Equal t above h = absurd (some_none None (sym h ∙ missing_below q es (subst (λ z. AllByRecursion (λ y. R z y ≡ Less) (keys_of es)) (sym (exact q e.0 t)) above)))
  room_behind e es q Greater t above h = rw (t, h) refl

  some_from : (x : Option V) → (x ≡ None → ⊥) → IsSome x
  some_from None h = absurd (h refl)
  some_from (Some v) h = refl

  -- where no key has room alone, each has a route
  pub all_routed : (es : List (K × Option V)) → IsStrictlySortedBy R (keys_of es) → HasNoRoom R es → AllByRecursion (λ e. IsSome e.1) es
  all_routed [] s full = tt
  all_routed (e ∷ es) s full = (
    some_from e.1 (λ none. full e.0 (room_at_once e es none)),
    all_routed es (sorted_tail R e.0 (keys_of es) s) (λ q h. full q (room_behind e es q (R q e.0) refl (sorted_head R e.0 (keys_of es) s) h)),
  )

  length_with : (k : K) (x : Option V) (es : List (K × Option V)) (n : ℕ) → IsSome x → length (routes_in es) ≡ n → length (with_route k x (routes_in es)) ≡ suc n
  length_with k None es n h e = absurd cc
  length_with k (Some v) es n h e = ap suc e

  pub length_routed : (es : List (K × Option V)) → AllByRecursion (λ e. IsSome e.1) es → length (routes_in es) ≡ length es
  length_routed [] h = refl
  length_routed (e ∷ es) h = length_with e.0 e.1 es (length es) h.0 (length_routed es h.1)

  above_with : (P : K → Type 0) (k : K) (x : Option V) (es : List (K × Option V)) → P k → AllByRecursion P (keys_of (routes_in es)) → AllByRecursion P (keys_of (with_route k x (routes_in es)))
  above_with P k None es h more = more
  above_with P k (Some v) es h more = (h, more)

  ordered_with : (k : K) (x : Option V) (es : List (K × Option V)) → AllByRecursion (λ y. R k y ≡ Less) (keys_of (routes_in es)) → IsStrictlySortedBy R (keys_of (routes_in es)) → IsStrictlySortedBy R (keys_of (with_route k x (routes_in es)))
  unfolding IsStrictlySortedBy
  ordered_with k None es h more = more
  ordered_with k (Some v) es h more = (h, more)

  -- the routes ascend as the entries do
  above_routes : (P : K → Type 0) (es : List (K × Option V)) → AllByRecursion P (keys_of es) → AllByRecursion P (keys_of (routes_in es))
  above_routes P [] h = tt
  above_routes P (e ∷ es) h = above_with P e.0 e.1 es h.0 (above_routes P es h.1)

  pub ordered_routes : (es : List (K × Option V)) → IsStrictlySortedBy R (keys_of es) → IsStrictlySortedBy R (keys_of (routes_in es))
  ordered_routes [] s = s
  ordered_routes (e ∷ es) s =
      ordered_with e.0 e.1 es (above_routes (λ y. R e.0 y ≡ Less) es (sorted_head R e.0 (keys_of es) s)) (ordered_routes es (sorted_tail R e.0 (keys_of es) s))

  -- a filter by the keys
  filtered_with : (p : K → Bool) (k : K) (x : Option V) (es fs : List (K × Option V)) (b : Bool) → p k ≡ b
      → routes_in fs ≡ filter (λ e. p e.0) (routes_in es)
      → routes_in (cond b ((k, x) ∷ fs) fs) ≡ filter (λ e. p e.0) (with_route k x (routes_in es))
  filtered_with p k None es fs true t h = h
  filtered_with p k None es fs false t h = h
  filtered_with p k (Some v) es fs true t h = rw (t, h) refl
  filtered_with p k (Some v) es fs false t h = rw (t, h) refl

  pub filtered_routes : (p : K → Bool) (es : List (K × Option V)) → routes_in (filter (λ e. p e.0) es) ≡ filter (λ e. p e.0) (routes_in es)
  filtered_routes p [] = refl
  filtered_routes p (e ∷ es) = filtered_with p e.0 e.1 es (filter (λ e. p e.0) es) (p e.0) refl (filtered_routes p es)

  pub filtered_room : (p : K → Bool) (es : List (K × Option V)) → HasNoRoom R es → HasNoRoom R (filter (λ e. p e.0) es)
  filtered_room p es full q h =
      full q (found_in (p q) _ _ (sym (lookup-filter-keys (is_at (R q)) p (p q) (λ k t. ap p (sym (exact q k ((Equal-is _).0 t)))) es) ∙ h))

-- a key that a route is written to has no room alone
pub unfilled : {X : Type 0} (b : Bool) (w : X) (v : Option (Option X)) → cond b (Some (Some w)) v ≡ Some None → v ≡ Some None
unfilled true w v h = absurd cc
unfilled false w v h = h
