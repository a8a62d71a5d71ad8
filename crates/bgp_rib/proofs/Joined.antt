-- Four maps, each of one kind of destinations, are one map of destinations.
use Rattle.std.proofs.Common.{◌≡◌, ◌&&◌, ◌++◌, ◌+◌, ◌==◌, suc, Bool, true, false, cond, List, [], ◌∷◌, Option, None, Some, is_some, filter, length, not, refl, sym, ap, subst, ◌∙◌, length-append, arith}
use Rattle.std.specs.declared.cmp.Ordering.{Ordering}
use Rattle.std.specs.declared.cmp.Ordering.TheVariants.{Less, Equal, Greater}
use Rattle.std.specs.BTreeMap.{insert_entry, is_at}
use Rattle.std.specs.Cmp.Lexicographic.{pointwise}
use Rattle.std.specs.List.{AllByRecursion}
use Rattle.std.specs.List.Sorted.{IsStrictlySortedBy}
use Rattle.std.specs.Map.{lookup, keys_of, remove_entry}
use Rattle.std.specs.Ordering.{is_eq, nat_cmp, on, ordering_then}
use Rattle.bgp_prefix.specs.declared.family.Family.{Family}
use Rattle.bgp_prefix.specs.declared.family.Family.TheVariants.{V4, V6}
use Rattle.bgp_prefix.specs.PrefixOrder.{prefix_cmp, prefix_eq}
use Rattle.bgp_update.specs.DeclaredFamilies.{Families}
use Rattle.bgp_update.specs.Families.{contains}
use Rattle.bgp_update.specs.declared.destination.Destination.{Destination}
use Rattle.bgp_rib.specs.DestinationOrder.{destination_cmp, destination_eq}
use Rattle.bgp_rib.specs.declared.keys.Identified.{Identified}
use Rattle.bgp_rib.specs.Keys.{bits_cmp, bits_eq, joined, keyed, v4_prefix, v6_prefix, v4_plain, v4_identified, v6_plain, v6_identified}
use Rattle.bgp_rib.proofs.DestinationKeys.{destinations_total, same_tie}

-- ---- one map whose keys stand for others, in the same order

module _ {J K V : Type 0} (f : J → K) (R : K → K → Ordering) where
  keyed_insert_by : (k : J) (v : V) (e : J × V) (es : List (J × V)) (r : Ordering) → R (f k) (f e.0) ≡ r
      → keyed f (insert_entry (on f R) es k v) ≡ insert_entry R (keyed f es) (f k) v
      → keyed f (insert_entry (on f R) (e ∷ es) k v) ≡ insert_entry R (keyed f (e ∷ es)) (f k) v
  keyed_insert_by k v e es Less t more = rw t refl
  keyed_insert_by k v e es Equal t more = rw t refl
  keyed_insert_by k v e es Greater t more = rw t (ap (λ l. (f e.0, e.1) ∷ l) more)

  pub keyed_insert : (k : J) (v : V) (es : List (J × V)) → keyed f (insert_entry (on f R) es k v) ≡ insert_entry R (keyed f es) (f k) v
  keyed_insert k v [] = refl
  keyed_insert k v (e ∷ es) = keyed_insert_by k v e es (R (f k) (f e.0)) refl (keyed_insert k v es)

  pub keyed_lookup : (k : J) (es : List (J × V)) → lookup (is_at (on f R k)) es ≡ lookup (is_at (R (f k))) (keyed f es)
  keyed_lookup k [] = refl
  keyed_lookup k (e ∷ es) = ap (cond (is_eq (R (f k) (f e.0))) (Some e.1)) (keyed_lookup k es)

  keyed_remove_by : (k : J) (e : J × V) (es : List (J × V)) (b : Bool) → is_eq (R (f k) (f e.0)) ≡ b
      → keyed f (remove_entry (is_at (on f R k)) es) ≡ remove_entry (is_at (R (f k))) (keyed f es)
      → keyed f (remove_entry (is_at (on f R k)) (e ∷ es)) ≡ remove_entry (is_at (R (f k))) (keyed f (e ∷ es))
  keyed_remove_by k e es true t more = rw t refl
  keyed_remove_by k e es false t more = rw t (ap (λ l. (f e.0, e.1) ∷ l) more)

  pub keyed_remove : (k : J) (es : List (J × V)) → keyed f (remove_entry (is_at (on f R k)) es) ≡ remove_entry (is_at (R (f k))) (keyed f es)
  keyed_remove k [] = refl
  keyed_remove k (e ∷ es) = keyed_remove_by k e es (is_eq (R (f k) (f e.0))) refl (keyed_remove k es)

  keyed_above : (k : J) (es : List (J × V)) → AllByRecursion (λ y. R (f k) (f y) ≡ Less) (keys_of es) → AllByRecursion (λ y. R (f k) y ≡ Less) (keys_of (keyed f es))
  keyed_above k [] h = tt
  keyed_above k (e ∷ es) h = (h.0, keyed_above k es h.1)

  pub keyed_ordered : (es : List (J × V)) → IsStrictlySortedBy (on f R) (keys_of es) → IsStrictlySortedBy R (keys_of (keyed f es))
  unfolding IsStrictlySortedBy
  keyed_ordered [] s = s
  keyed_ordered (e ∷ es) s = (keyed_above e.0 es s.0, keyed_ordered es s.1)

  -- what holds of each key
  pub all_keyed : (P : K → Type 0) (es : List (J × V)) → ((j : J) → P (f j)) → AllByRecursion P (keys_of (keyed f es))
  all_keyed P [] h = tt
  all_keyed P (e ∷ es) h = (h e.0, all_keyed P es h)

keyed_length : {J K V : Type 0} (f : J → K) (es : List (J × V)) → length (keyed f es) ≡ length es
keyed_length f [] = refl
keyed_length f (e ∷ es) = ap suc (keyed_length f es)

module _ {J K V : Type 0} (f : J → K) where
  keyed_routes_by : (e : J × Option V) (es : List (J × Option V)) (b : Bool) → is_some e.1 ≡ b
      → filter (λ e. is_some e.1) (keyed f es) ≡ keyed f (filter (λ e. is_some e.1) es)
      → filter (λ e. is_some e.1) (keyed f (e ∷ es)) ≡ keyed f (filter (λ e. is_some e.1) (e ∷ es))
  keyed_routes_by e es true t more = rw t (ap (λ l. (f e.0, e.1) ∷ l) more)
  keyed_routes_by e es false t more = rw t more

  keyed_routes : (es : List (J × Option V)) → filter (λ e. is_some e.1) (keyed f es) ≡ keyed f (filter (λ e. is_some e.1) es)
  keyed_routes [] = refl
  keyed_routes (e ∷ es) = keyed_routes_by e es (is_some e.1) refl (keyed_routes es)

module _ {J V : Type 0} (f : J → Destination) (families : Families) (family : Family) (of : (j : J) → (f j).prefix.family ≡ family) where
  kept : (es : List (J × V)) → contains families family ≡ false
      → filter (λ e. not (contains families e.0.prefix.family)) (keyed f es) ≡ keyed f es
  kept [] t = refl
  kept (e ∷ es) t = rw (of e.0, t, kept es t) refl

  gone : (es : List (J × V)) → contains families family ≡ true
      → filter (λ e. not (contains families e.0.prefix.family)) (keyed f es) ≡ []
  gone [] t = refl
  gone (e ∷ es) t = rw (of e.0, t, gone es t) refl

  kept_by : (b : Bool) (es : List (J × V)) → contains families family ≡ b
      → filter (λ e. not (contains families e.0.prefix.family)) (keyed f es) ≡ keyed f (cond b [] es)
  kept_by true es t = gone es t
  kept_by false es t = kept es t

-- ---- two maps, one behind the other

both_filter : {X : Type 0} (p : X → Bool) (xs ys : List X) → filter p (xs ++ ys) ≡ filter p xs ++ filter p ys
both_filter p [] ys = refl
both_filter p (x ∷ xs) ys = by (p x) refl (both_filter p xs ys)
  where
    by : (b : Bool) → p x ≡ b → filter p (xs ++ ys) ≡ filter p xs ++ filter p ys → filter p ((x ∷ xs) ++ ys) ≡ filter p (x ∷ xs) ++ filter p ys
    by true t more = rw (t, more) refl
    by false t more = rw (t, more) refl

module _ {K V : Type 0} (R : K → K → Ordering) where
  -- k stands before, or behind, each of the keys
  abbrev pub IsBefore : K → List (K × V) → Type 0
  IsBefore k es = AllByRecursion (λ y. R k y ≡ Less) (keys_of es)

  abbrev pub IsBehind : K → List (K × V) → Type 0
  IsBehind k es = AllByRecursion (λ y. R k y ≡ Greater) (keys_of es)

  -- each key of the one stands before each of the other
  abbrev pub AreBefore : List (K × V) → List (K × V) → Type 0
  AreBefore es bs = AllByRecursion (λ a. IsBefore a bs) (keys_of es)

  pub all_both : (P : K → Type 0) (es bs : List (K × V)) → AllByRecursion P (keys_of es) → AllByRecursion P (keys_of bs) → AllByRecursion P (keys_of (es ++ bs))
  all_both P [] bs h t = t
  all_both P (a ∷ es) bs h t = (h.0, all_both P es bs h.1 t)

  put_before : (k : K) (v : V) (bs : List (K × V)) → IsBefore k bs → insert_entry R bs k v ≡ (k, v) ∷ bs
  put_before k v [] h = refl
  put_before k v (b ∷ bs) h = rw h.0 refl

  insert_front_by : (k : K) (v : V) (a : K × V) (es bs : List (K × V)) (r : Ordering) → R k a.0 ≡ r
      → insert_entry R (es ++ bs) k v ≡ insert_entry R es k v ++ bs → insert_entry R ((a ∷ es) ++ bs) k v ≡ insert_entry R (a ∷ es) k v ++ bs
  insert_front_by k v a es bs Less t more = rw t refl
  insert_front_by k v a es bs Equal t more = rw t refl
  insert_front_by k v a es bs Greater t more = rw t (ap (λ l. a ∷ l) more)

  pub insert_front : (k : K) (v : V) (es bs : List (K × V)) → IsBefore k bs → insert_entry R (es ++ bs) k v ≡ insert_entry R es k v ++ bs
  insert_front k v [] bs h = put_before k v bs h
  insert_front k v (a ∷ es) bs h = insert_front_by k v a es bs (R k a.0) refl (insert_front k v es bs h)

  pub insert_back : (k : K) (v : V) (es bs : List (K × V)) → IsBehind k es → insert_entry R (es ++ bs) k v ≡ es ++ insert_entry R bs k v
  insert_back k v [] bs h = refl
  insert_back k v (a ∷ es) bs h = rw h.0 (ap (λ l. a ∷ l) (insert_back k v es bs h.1))

  none_before : (k : K) (bs : List (K × V)) → IsBefore k bs → lookup (is_at (R k)) bs ≡ None
  none_before k [] h = refl
  none_before k (b ∷ bs) h = rw (h.0, none_before k bs h.1) refl

  pub lookup_front : (k : K) (es bs : List (K × V)) → IsBefore k bs → lookup (is_at (R k)) (es ++ bs) ≡ lookup (is_at (R k)) es
  lookup_front k [] bs h = none_before k bs h
  lookup_front k (a ∷ es) bs h = ap (cond (is_eq (R k a.0)) (Some a.1)) (lookup_front k es bs h)

  pub lookup_back : (k : K) (es bs : List (K × V)) → IsBehind k es → lookup (is_at (R k)) (es ++ bs) ≡ lookup (is_at (R k)) bs
  lookup_back k [] bs h = refl
  lookup_back k (a ∷ es) bs h = rw (h.0, lookup_back k es bs h.1) refl

  untouched : (k : K) (bs : List (K × V)) → IsBefore k bs → remove_entry (is_at (R k)) bs ≡ bs
  untouched k [] h = refl
  untouched k (b ∷ bs) h = rw (h.0, untouched k bs h.1) refl

  remove_front_by : (k : K) (a : K × V) (es bs : List (K × V)) (b : Bool) → is_eq (R k a.0) ≡ b
      → remove_entry (is_at (R k)) (es ++ bs) ≡ remove_entry (is_at (R k)) es ++ bs
      → remove_entry (is_at (R k)) ((a ∷ es) ++ bs) ≡ remove_entry (is_at (R k)) (a ∷ es) ++ bs
  remove_front_by k a es bs true t more = rw t refl
  remove_front_by k a es bs false t more = rw t (ap (λ l. a ∷ l) more)

  pub remove_front : (k : K) (es bs : List (K × V)) → IsBefore k bs → remove_entry (is_at (R k)) (es ++ bs) ≡ remove_entry (is_at (R k)) es ++ bs
  remove_front k [] bs h = untouched k bs h
  remove_front k (a ∷ es) bs h = remove_front_by k a es bs (is_eq (R k a.0)) refl (remove_front k es bs h)

  pub remove_back : (k : K) (es bs : List (K × V)) → IsBehind k es → remove_entry (is_at (R k)) (es ++ bs) ≡ es ++ remove_entry (is_at (R k)) bs
  remove_back k [] bs h = refl
  remove_back k (a ∷ es) bs h = rw h.0 (ap (λ l. a ∷ l) (remove_back k es bs h.1))

  pub ordered_both : (es bs : List (K × V)) → IsStrictlySortedBy R (keys_of es) → IsStrictlySortedBy R (keys_of bs) → AreBefore es bs
      → IsStrictlySortedBy R (keys_of (es ++ bs))
  unfolding IsStrictlySortedBy
  ordered_both [] bs s t h = t
  ordered_both (a ∷ es) bs s t h = (all_both (λ y. R a.0 y ≡ Less) es bs s.0 h.0, ordered_both es bs s.1 t h.1)

-- ---- equality, map by map

and_assoc : (a b c : Bool) → (a && (b && c)) ≡ ((a && b) && c)
and_assoc true b c = refl
and_assoc false b c = refl

module _ {V : Type 0} (F : V → V → Bool) where
  abbrev pub alike : Destination × V → Destination × V → Bool
  alike p q = destination_eq p.0 q.0 && F p.1 q.1

  less_differs : (p q : Destination × V) → destination_cmp p.0 q.0 ≡ Less → alike p q ≡ false
  less_differs p q t = rw (same_tie p.0 q.0, t) refl

  greater_differs : (p q : Destination × V) → destination_cmp q.0 p.0 ≡ Less → alike p q ≡ false
  greater_differs p q t = rw (same_tie p.0 q.0, destinations_total.antisymm p.0 q.0, t) refl

  pub alike_both : (es bs cs ds : List (Destination × V)) → AreBefore destination_cmp es ds → AreBefore destination_cmp cs bs
      → pointwise alike (es ++ bs) (cs ++ ds) ≡ (pointwise alike es cs && pointwise alike bs ds)
  alike_both [] bs [] ds h i = refl
  alike_both [] [] (c ∷ cs) ds h i = refl
  alike_both [] (b ∷ bs) (c ∷ cs) ds h i = rw (greater_differs b c i.0.0) refl
  alike_both (a ∷ es) bs [] [] h i = refl
  alike_both (a ∷ es) bs [] (d ∷ ds) h i = rw (less_differs a d h.0.0) refl
  alike_both (a ∷ es) bs (c ∷ cs) ds h i =
      ap (λ b. alike a c && b) (alike_both es bs cs ds h.1 i.1) ∙ and_assoc (alike a c) (pointwise alike es cs) (pointwise alike bs ds)

  pub keyed_alike : {J : Type 0} (f : J → Destination) (T : J → J → Bool) (same : (i j : J) → T i j ≡ destination_eq (f i) (f j)) (es fs : List (J × V))
      → pointwise (λ p q. T p.0 q.0 && F p.1 q.1) es fs ≡ pointwise alike (keyed f es) (keyed f fs)
  keyed_alike f T same [] [] = refl
  keyed_alike f T same [] (d ∷ fs) = refl
  keyed_alike f T same (e ∷ es) [] = refl
  keyed_alike f T same (e ∷ es) (d ∷ fs) = rw (same e.0 d.0, keyed_alike f T same es fs) refl

-- ---- the four kinds

or_equal : (r : Ordering) → ordering_then r Equal ≡ r
or_equal Less = refl
or_equal Equal = refl
or_equal Greater = refl

and_true : (b : Bool) → b ≡ (b && true)
and_true true = refl
and_true false = refl

abbrev pub alike_by : {J V : Type 0} → (J → J → Bool) → (V → V → Bool) → J × V → J × V → Bool
alike_by T F p q = T p.0 q.0 && F p.1 q.1

abbrev pub identified_cmp : (List Bool → List Bool → Ordering) → Identified (List Bool) → Identified (List Bool) → Ordering
identified_cmp R a b = ordering_then (R a.prefix b.prefix) (nat_cmp a.id b.id)

abbrev pub identified_eq : (List Bool → List Bool → Bool) → Identified (List Bool) → Identified (List Bool) → Bool
identified_eq T a b = T a.prefix b.prefix && (a.id == b.id)

pub v4_plain_order : bits_cmp V4 ≡ on v4_plain destination_cmp
v4_plain_order = λ i a b. sym (or_equal (prefix_cmp (v4_prefix a) (v4_prefix b))) i

pub v6_plain_order : bits_cmp V6 ≡ on v6_plain destination_cmp
v6_plain_order = λ i a b. sym (or_equal (prefix_cmp (v6_prefix a) (v6_prefix b))) i

pub v4_identified_order : identified_cmp (bits_cmp V4) ≡ on v4_identified destination_cmp
v4_identified_order = refl

pub v6_identified_order : identified_cmp (bits_cmp V6) ≡ on v6_identified destination_cmp
v6_identified_order = refl

module _ {V : Type 0} where
  -- what stands before and behind the keys of each kind
  v4_plain_before : (k : List Bool) (fs : List (Identified (List Bool) × V)) (gs : List (List Bool × V)) (hs : List (Identified (List Bool) × V))
      → IsBefore destination_cmp (v4_plain k) (keyed v4_identified fs ++ (keyed v6_plain gs ++ keyed v6_identified hs))
  v4_plain_before k fs gs hs =
      let P : Destination → Type 0 = λ y. destination_cmp (v4_plain k) y ≡ Less in
      all_both destination_cmp P (keyed v4_identified fs) (keyed v6_plain gs ++ keyed v6_identified hs) (all_keyed v4_identified destination_cmp P fs (λ j. refl))
      (all_both destination_cmp P (keyed v6_plain gs) (keyed v6_identified hs) (all_keyed v6_plain destination_cmp P gs (λ j. refl)) (all_keyed v6_identified destination_cmp P hs (λ j. refl)))

  v4_identified_before : (k : Identified (List Bool)) (gs : List (List Bool × V)) (hs : List (Identified (List Bool) × V))
      → IsBefore destination_cmp (v4_identified k) (keyed v6_plain gs ++ keyed v6_identified hs)
  v4_identified_before k gs hs =
      let P : Destination → Type 0 = λ y. destination_cmp (v4_identified k) y ≡ Less in
      all_both destination_cmp P (keyed v6_plain gs) (keyed v6_identified hs) (all_keyed v6_plain destination_cmp P gs (λ j. refl)) (all_keyed v6_identified destination_cmp P hs (λ j. refl))

  v6_plain_before : (k : List Bool) (hs : List (Identified (List Bool) × V)) → IsBefore destination_cmp (v6_plain k) (keyed v6_identified hs)
  v6_plain_before k hs = all_keyed v6_identified destination_cmp (λ y. destination_cmp (v6_plain k) y ≡ Less) hs (λ j. refl)

  v4_identified_behind : (k : Identified (List Bool)) (es : List (List Bool × V)) → IsBehind destination_cmp (v4_identified k) (keyed v4_plain es)
  v4_identified_behind k es = all_keyed v4_plain destination_cmp (λ y. destination_cmp (v4_identified k) y ≡ Greater) es (λ j. refl)

  v6_plain_behind : (k : List Bool) (es : List (List Bool × V)) → IsBehind destination_cmp (v6_plain k) (keyed v4_plain es)
  v6_plain_behind k es = all_keyed v4_plain destination_cmp (λ y. destination_cmp (v6_plain k) y ≡ Greater) es (λ j. refl)

  v6_plain_behind_ids : (k : List Bool) (fs : List (Identified (List Bool) × V)) → IsBehind destination_cmp (v6_plain k) (keyed v4_identified fs)
  v6_plain_behind_ids k fs = all_keyed v4_identified destination_cmp (λ y. destination_cmp (v6_plain k) y ≡ Greater) fs (λ j. refl)

  v6_identified_behind : (k : Identified (List Bool)) (es : List (List Bool × V)) → IsBehind destination_cmp (v6_identified k) (keyed v4_plain es)
  v6_identified_behind k es = all_keyed v4_plain destination_cmp (λ y. destination_cmp (v6_identified k) y ≡ Greater) es (λ j. refl)

  v6_identified_behind_ids : (k : Identified (List Bool)) (fs : List (Identified (List Bool) × V)) → IsBehind destination_cmp (v6_identified k) (keyed v4_identified fs)
  v6_identified_behind_ids k fs = all_keyed v4_identified destination_cmp (λ y. destination_cmp (v6_identified k) y ≡ Greater) fs (λ j. refl)

  v6_identified_behind_v6 : (k : Identified (List Bool)) (gs : List (List Bool × V)) → IsBehind destination_cmp (v6_identified k) (keyed v6_plain gs)
  v6_identified_behind_v6 k gs = all_keyed v6_plain destination_cmp (λ y. destination_cmp (v6_identified k) y ≡ Greater) gs (λ j. refl)

module _ {V : Type 0} (es : List (List Bool × V)) (fs : List (Identified (List Bool) × V)) (gs : List (List Bool × V)) (hs : List (Identified (List Bool) × V)) where
  -- an entry that is put
  pub put_v4_plain : (k : List Bool) (v : V) → joined (insert_entry (bits_cmp V4) es k v) fs gs hs ≡ insert_entry destination_cmp (joined es fs gs hs) (v4_plain k) v
  put_v4_plain k v =
      let rest = keyed v4_identified fs ++ (keyed v6_plain gs ++ keyed v6_identified hs) in
      (λ i. keyed v4_plain (insert_entry (v4_plain_order i) es k v) ++ rest)
      ∙ ap (λ l. l ++ rest) (keyed_insert v4_plain destination_cmp k v es)
      ∙ sym (insert_front destination_cmp (v4_plain k) v (keyed v4_plain es) rest (v4_plain_before k fs gs hs))

  pub put_v4_identified : (k : Identified (List Bool)) (v : V) → joined es (insert_entry (identified_cmp (bits_cmp V4)) fs k v) gs hs ≡ insert_entry destination_cmp (joined es fs gs hs) (v4_identified k) v
  put_v4_identified k v =
      let rest = keyed v6_plain gs ++ keyed v6_identified hs in
      ap (λ l. keyed v4_plain es ++ (l ++ rest)) (keyed_insert v4_identified destination_cmp k v fs)
      ∙ ap (λ l. keyed v4_plain es ++ l) (sym (insert_front destination_cmp (v4_identified k) v (keyed v4_identified fs) rest (v4_identified_before k gs hs)))
      ∙ sym (insert_back destination_cmp (v4_identified k) v (keyed v4_plain es) (keyed v4_identified fs ++ rest) (v4_identified_behind k es))

  pub put_v6_plain : (k : List Bool) (v : V) → joined es fs (insert_entry (bits_cmp V6) gs k v) hs ≡ insert_entry destination_cmp (joined es fs gs hs) (v6_plain k) v
  put_v6_plain k v =
      let ds = keyed v6_identified hs in
      (λ i. keyed v4_plain es ++ (keyed v4_identified fs ++ (keyed v6_plain (insert_entry (v6_plain_order i) gs k v) ++ ds)))
      ∙ ap (λ l. keyed v4_plain es ++ (keyed v4_identified fs ++ (l ++ ds))) (keyed_insert v6_plain destination_cmp k v gs)
      ∙ ap (λ l. keyed v4_plain es ++ (keyed v4_identified fs ++ l)) (sym (insert_front destination_cmp (v6_plain k) v (keyed v6_plain gs) ds (v6_plain_before k hs)))
      ∙ ap (λ l. keyed v4_plain es ++ l) (sym (insert_back destination_cmp (v6_plain k) v (keyed v4_identified fs) (keyed v6_plain gs ++ ds) (v6_plain_behind_ids k fs)))
      ∙ sym (insert_back destination_cmp (v6_plain k) v (keyed v4_plain es) (keyed v4_identified fs ++ (keyed v6_plain gs ++ ds)) (v6_plain_behind k es))

  pub put_v6_identified : (k : Identified (List Bool)) (v : V) → joined es fs gs (insert_entry (identified_cmp (bits_cmp V6)) hs k v) ≡ insert_entry destination_cmp (joined es fs gs hs) (v6_identified k) v
  put_v6_identified k v =
      ap (λ l. keyed v4_plain es ++ (keyed v4_identified fs ++ (keyed v6_plain gs ++ l))) (keyed_insert v6_identified destination_cmp k v hs)
      ∙ ap (λ l. keyed v4_plain es ++ (keyed v4_identified fs ++ l)) (sym (insert_back destination_cmp (v6_identified k) v (keyed v6_plain gs) (keyed v6_identified hs) (v6_identified_behind_v6 k gs)))
      ∙ ap (λ l. keyed v4_plain es ++ l) (sym (insert_back destination_cmp (v6_identified k) v (keyed v4_identified fs) (keyed v6_plain gs ++ keyed v6_identified hs) (v6_identified_behind_ids k fs)))
      ∙ sym (insert_back destination_cmp (v6_identified k) v (keyed v4_plain es) (keyed v4_identified fs ++ (keyed v6_plain gs ++ keyed v6_identified hs)) (v6_identified_behind k es))

  -- one that is removed
  pub cut_v4_plain : (k : List Bool) → joined (remove_entry (is_at (bits_cmp V4 k)) es) fs gs hs ≡ remove_entry (is_at (destination_cmp (v4_plain k))) (joined es fs gs hs)
  cut_v4_plain k =
      let rest = keyed v4_identified fs ++ (keyed v6_plain gs ++ keyed v6_identified hs) in
      (λ i. keyed v4_plain (remove_entry (is_at (v4_plain_order i k)) es) ++ rest)
      ∙ ap (λ l. l ++ rest) (keyed_remove v4_plain destination_cmp k es)
      ∙ sym (remove_front destination_cmp (v4_plain k) (keyed v4_plain es) rest (v4_plain_before k fs gs hs))

  pub cut_v4_identified : (k : Identified (List Bool)) → joined es (remove_entry (is_at (identified_cmp (bits_cmp V4) k)) fs) gs hs ≡ remove_entry (is_at (destination_cmp (v4_identified k))) (joined es fs gs hs)
  cut_v4_identified k =
      let rest = keyed v6_plain gs ++ keyed v6_identified hs in
      ap (λ l. keyed v4_plain es ++ (l ++ rest)) (keyed_remove v4_identified destination_cmp k fs)
      ∙ ap (λ l. keyed v4_plain es ++ l) (sym (remove_front destination_cmp (v4_identified k) (keyed v4_identified fs) rest (v4_identified_before k gs hs)))
      ∙ sym (remove_back destination_cmp (v4_identified k) (keyed v4_plain es) (keyed v4_identified fs ++ rest) (v4_identified_behind k es))

  pub cut_v6_plain : (k : List Bool) → joined es fs (remove_entry (is_at (bits_cmp V6 k)) gs) hs ≡ remove_entry (is_at (destination_cmp (v6_plain k))) (joined es fs gs hs)
  cut_v6_plain k =
      let ds = keyed v6_identified hs in
      (λ i. keyed v4_plain es ++ (keyed v4_identified fs ++ (keyed v6_plain (remove_entry (is_at (v6_plain_order i k)) gs) ++ ds)))
      ∙ ap (λ l. keyed v4_plain es ++ (keyed v4_identified fs ++ (l ++ ds))) (keyed_remove v6_plain destination_cmp k gs)
      ∙ ap (λ l. keyed v4_plain es ++ (keyed v4_identified fs ++ l)) (sym (remove_front destination_cmp (v6_plain k) (keyed v6_plain gs) ds (v6_plain_before k hs)))
      ∙ ap (λ l. keyed v4_plain es ++ l) (sym (remove_back destination_cmp (v6_plain k) (keyed v4_identified fs) (keyed v6_plain gs ++ ds) (v6_plain_behind_ids k fs)))
      ∙ sym (remove_back destination_cmp (v6_plain k) (keyed v4_plain es) (keyed v4_identified fs ++ (keyed v6_plain gs ++ ds)) (v6_plain_behind k es))

  pub cut_v6_identified : (k : Identified (List Bool)) → joined es fs gs (remove_entry (is_at (identified_cmp (bits_cmp V6) k)) hs) ≡ remove_entry (is_at (destination_cmp (v6_identified k))) (joined es fs gs hs)
  cut_v6_identified k =
      ap (λ l. keyed v4_plain es ++ (keyed v4_identified fs ++ (keyed v6_plain gs ++ l))) (keyed_remove v6_identified destination_cmp k hs)
      ∙ ap (λ l. keyed v4_plain es ++ (keyed v4_identified fs ++ l)) (sym (remove_back destination_cmp (v6_identified k) (keyed v6_plain gs) (keyed v6_identified hs) (v6_identified_behind_v6 k gs)))
      ∙ ap (λ l. keyed v4_plain es ++ l) (sym (remove_back destination_cmp (v6_identified k) (keyed v4_identified fs) (keyed v6_plain gs ++ keyed v6_identified hs) (v6_identified_behind_ids k fs)))
      ∙ sym (remove_back destination_cmp (v6_identified k) (keyed v4_plain es) (keyed v4_identified fs ++ (keyed v6_plain gs ++ keyed v6_identified hs)) (v6_identified_behind k es))

  -- one that is looked up
  pub look_v4_plain : (k : List Bool) → lookup (is_at (bits_cmp V4 k)) es ≡ lookup (is_at (destination_cmp (v4_plain k))) (joined es fs gs hs)
  look_v4_plain k =
      (λ i. lookup (is_at (v4_plain_order i k)) es) ∙ keyed_lookup v4_plain destination_cmp k es
      ∙ sym (lookup_front destination_cmp (v4_plain k) (keyed v4_plain es) (keyed v4_identified fs ++ (keyed v6_plain gs ++ keyed v6_identified hs)) (v4_plain_before k fs gs hs))

  pub look_v4_identified : (k : Identified (List Bool)) → lookup (is_at (identified_cmp (bits_cmp V4) k)) fs ≡ lookup (is_at (destination_cmp (v4_identified k))) (joined es fs gs hs)
  look_v4_identified k =
      let rest = keyed v6_plain gs ++ keyed v6_identified hs in
      keyed_lookup v4_identified destination_cmp k fs
      ∙ sym (lookup_front destination_cmp (v4_identified k) (keyed v4_identified fs) rest (v4_identified_before k gs hs))
      ∙ sym (lookup_back destination_cmp (v4_identified k) (keyed v4_plain es) (keyed v4_identified fs ++ rest) (v4_identified_behind k es))

  pub look_v6_plain : (k : List Bool) → lookup (is_at (bits_cmp V6 k)) gs ≡ lookup (is_at (destination_cmp (v6_plain k))) (joined es fs gs hs)
  look_v6_plain k =
      let ds = keyed v6_identified hs in
      (λ i. lookup (is_at (v6_plain_order i k)) gs) ∙ keyed_lookup v6_plain destination_cmp k gs
      ∙ sym (lookup_front destination_cmp (v6_plain k) (keyed v6_plain gs) ds (v6_plain_before k hs))
      ∙ sym (lookup_back destination_cmp (v6_plain k) (keyed v4_identified fs) (keyed v6_plain gs ++ ds) (v6_plain_behind_ids k fs))
      ∙ sym (lookup_back destination_cmp (v6_plain k) (keyed v4_plain es) (keyed v4_identified fs ++ (keyed v6_plain gs ++ ds)) (v6_plain_behind k es))

  pub look_v6_identified : (k : Identified (List Bool)) → lookup (is_at (identified_cmp (bits_cmp V6) k)) hs ≡ lookup (is_at (destination_cmp (v6_identified k))) (joined es fs gs hs)
  look_v6_identified k =
      keyed_lookup v6_identified destination_cmp k hs
      ∙ sym (lookup_back destination_cmp (v6_identified k) (keyed v6_plain gs) (keyed v6_identified hs) (v6_identified_behind_v6 k gs))
      ∙ sym (lookup_back destination_cmp (v6_identified k) (keyed v4_identified fs) (keyed v6_plain gs ++ keyed v6_identified hs) (v6_identified_behind_ids k fs))
      ∙ sym (lookup_back destination_cmp (v6_identified k) (keyed v4_plain es) (keyed v4_identified fs ++ (keyed v6_plain gs ++ keyed v6_identified hs)) (v6_identified_behind k es))

  -- the destinations ascend, if the keys of each map do
  pub joined_ordered : IsStrictlySortedBy (bits_cmp V4) (keys_of es) → IsStrictlySortedBy (identified_cmp (bits_cmp V4)) (keys_of fs)
      → IsStrictlySortedBy (bits_cmp V6) (keys_of gs) → IsStrictlySortedBy (identified_cmp (bits_cmp V6)) (keys_of hs)
      → IsStrictlySortedBy destination_cmp (keys_of (joined es fs gs hs))
  joined_ordered s t u v =
      let first = keyed_ordered v4_plain destination_cmp es (subst (λ C. IsStrictlySortedBy C (keys_of es)) v4_plain_order s) in
      let second = keyed_ordered v4_identified destination_cmp fs t in
      let third = keyed_ordered v6_plain destination_cmp gs (subst (λ C. IsStrictlySortedBy C (keys_of gs)) v6_plain_order u) in
      let fourth = keyed_ordered v6_identified destination_cmp hs v in
      let rest = keyed v6_plain gs ++ keyed v6_identified hs in
      ordered_both destination_cmp (keyed v4_plain es) (keyed v4_identified fs ++ rest) first
      (ordered_both destination_cmp (keyed v4_identified fs) rest second
      (ordered_both destination_cmp (keyed v6_plain gs) (keyed v6_identified hs) third fourth
      (all_keyed v6_plain destination_cmp (λ d. IsBefore destination_cmp d (keyed v6_identified hs)) gs (λ k. v6_plain_before k hs)))
      (all_keyed v4_identified destination_cmp (λ d. IsBefore destination_cmp d rest) fs (λ k. v4_identified_before k gs hs)))
      (all_keyed v4_plain destination_cmp (λ d. IsBefore destination_cmp d (keyed v4_identified fs ++ rest)) es (λ k. v4_plain_before k fs gs hs))

  pub joined_length : length (joined es fs gs hs) ≡ length es + length fs + length gs + length hs
  joined_length =
      let a = keyed_length v4_plain es in
      let b = keyed_length v4_identified fs in
      let c = keyed_length v6_plain gs in
      let d = keyed_length v6_identified hs in
      let rest = keyed v6_plain gs ++ keyed v6_identified hs in
      let one = length-append (keyed v4_plain es) (keyed v4_identified fs ++ rest) in
      let two = length-append (keyed v4_identified fs) rest in
      let three = length-append (keyed v6_plain gs) (keyed v6_identified hs) in
      omega (arith, a, b, c, d, one, two, three)

  -- without the entries of some families
  pub joined_outside : (families : Families) → joined (cond families.v4 [] es) (cond families.v4 [] fs) (cond families.v6 [] gs) (cond families.v6 [] hs)
      ≡ filter (λ e. not (contains families e.0.prefix.family)) (joined es fs gs hs)
  joined_outside families =
      let p : Destination × V → Bool = λ e. not (contains families e.0.prefix.family) in
      let rest = keyed v6_plain gs ++ keyed v6_identified hs in
      let one = kept_by v4_plain families V4 (λ j. refl) families.v4 es refl in
      let two = kept_by v4_identified families V4 (λ j. refl) families.v4 fs refl in
      let three = kept_by v6_plain families V6 (λ j. refl) families.v6 gs refl in
      let four = kept_by v6_identified families V6 (λ j. refl) families.v6 hs refl in
      sym (both_filter p (keyed v4_plain es) (keyed v4_identified fs ++ rest)
      ∙ ap (λ l. filter p (keyed v4_plain es) ++ l) (both_filter p (keyed v4_identified fs) rest ∙ ap (λ l. filter p (keyed v4_identified fs) ++ l) (both_filter p (keyed v6_plain gs) (keyed v6_identified hs)))
      ∙ (λ i. one i ++ (two i ++ (three i ++ four i))))

module _ {V : Type 0} where
  -- without the entries that have no route
  pub joined_routes : (es : List (List Bool × Option V)) (fs : List (Identified (List Bool) × Option V)) (gs : List (List Bool × Option V)) (hs : List (Identified (List Bool) × Option V))
      → joined (filter (λ e. is_some e.1) es) (filter (λ e. is_some e.1) fs) (filter (λ e. is_some e.1) gs) (filter (λ e. is_some e.1) hs)
      ≡ filter (λ e. is_some e.1) (joined es fs gs hs)
  joined_routes es fs gs hs =
      let p : Destination × Option V → Bool = λ e. is_some e.1 in
      let rest = keyed v6_plain gs ++ keyed v6_identified hs in
      sym (both_filter p (keyed v4_plain es) (keyed v4_identified fs ++ rest)
      ∙ ap (λ l. filter p (keyed v4_plain es) ++ l) (both_filter p (keyed v4_identified fs) rest ∙ ap (λ l. filter p (keyed v4_identified fs) ++ l) (both_filter p (keyed v6_plain gs) (keyed v6_identified hs)))
      ∙ (λ i. keyed_routes v4_plain es i ++ (keyed_routes v4_identified fs i ++ (keyed_routes v6_plain gs i ++ keyed_routes v6_identified hs i))))

module _ {V : Type 0} (F : V → V → Bool) where
  -- equal, if each map is
  pub joined_alike : (es es' : List (List Bool × V)) (fs fs' : List (Identified (List Bool) × V)) (gs gs' : List (List Bool × V)) (hs hs' : List (Identified (List Bool) × V))
      → pointwise (alike F) (joined es fs gs hs) (joined es' fs' gs' hs')
      ≡ (pointwise (λ p q. bits_eq V4 p.0 q.0 && F p.1 q.1) es es' && (pointwise (λ p q. identified_eq (bits_eq V4) p.0 q.0 && F p.1 q.1) fs fs'
      && (pointwise (λ p q. bits_eq V6 p.0 q.0 && F p.1 q.1) gs gs' && pointwise (λ p q. identified_eq (bits_eq V6) p.0 q.0 && F p.1 q.1) hs hs')))
  joined_alike es es' fs fs' gs gs' hs hs' =
      let rest = keyed v6_plain gs ++ keyed v6_identified hs in
      let rest' = keyed v6_plain gs' ++ keyed v6_identified hs' in
      let first : (a : List (List Bool × V)) (b : List (Identified (List Bool) × V)) (c : List (List Bool × V)) (d : List (Identified (List Bool) × V)) → AreBefore destination_cmp (keyed v4_plain a) (keyed v4_identified b ++ (keyed v6_plain c ++ keyed v6_identified d)) =
      λ a b c d. all_keyed v4_plain destination_cmp (λ x. IsBefore destination_cmp x (keyed v4_identified b ++ (keyed v6_plain c ++ keyed v6_identified d))) a (λ k. v4_plain_before k b c d) in
      let second : (b : List (Identified (List Bool) × V)) (c : List (List Bool × V)) (d : List (Identified (List Bool) × V)) → AreBefore destination_cmp (keyed v4_identified b) (keyed v6_plain c ++ keyed v6_identified d) =
      λ b c d. all_keyed v4_identified destination_cmp (λ x. IsBefore destination_cmp x (keyed v6_plain c ++ keyed v6_identified d)) b (λ k. v4_identified_before k c d) in
      let third : (c : List (List Bool × V)) (d : List (Identified (List Bool) × V)) → AreBefore destination_cmp (keyed v6_plain c) (keyed v6_identified d) =
      λ c d. all_keyed v6_plain destination_cmp (λ x. IsBefore destination_cmp x (keyed v6_identified d)) c (λ k. v6_plain_before k d) in
      alike_both F (keyed v4_plain es) (keyed v4_identified fs ++ rest) (keyed v4_plain es') (keyed v4_identified fs' ++ rest') (first es fs' gs' hs') (first es' fs gs hs)
      ∙ ap (λ b. pointwise (alike F) (keyed v4_plain es) (keyed v4_plain es') && b)
      (alike_both F (keyed v4_identified fs) rest (keyed v4_identified fs') rest' (second fs gs' hs') (second fs' gs hs)
      ∙ ap (λ b. pointwise (alike F) (keyed v4_identified fs) (keyed v4_identified fs') && b)
      (alike_both F (keyed v6_plain gs) (keyed v6_identified hs) (keyed v6_plain gs') (keyed v6_identified hs') (third gs hs') (third gs' hs)))
      ∙ sym (λ i. keyed_alike F v4_plain (bits_eq V4) (λ a b. and_true (prefix_eq (v4_prefix a) (v4_prefix b))) es es' i
      && (keyed_alike F v4_identified (identified_eq (bits_eq V4)) (λ a b. refl) fs fs' i
      && (keyed_alike F v6_plain (bits_eq V6) (λ a b. and_true (prefix_eq (v6_prefix a) (v6_prefix b))) gs gs' i
      && keyed_alike F v6_identified (identified_eq (bits_eq V6)) (λ a b. refl) hs hs' i)))
