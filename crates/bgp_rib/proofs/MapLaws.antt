-- What puts, removals and filters are to a map whose keys ascend.
use Rattle.std.proofs.Common.{◌≡◌, Bool, true, false, cond, List, [], ◌∷◌, Option, None, Some, filter, fold, refl, sym, ap, subst, ◌∙◌}
use Rattle.std.specs.declared.cmp.Ordering.{Ordering}
use Rattle.std.specs.declared.cmp.Ordering.TheVariants.{Less, Equal, Greater}
use Rattle.std.specs.BTreeMap.{insert_entry, is_at}
use Rattle.std.specs.Cmp.{IsTotalOrder, Equal-is}
use Rattle.std.specs.List.{AllByRecursion}
use Rattle.std.specs.List.Sorted.{IsStrictlySortedBy}
use Rattle.std.specs.Map.{lookup, keys_of, update_all, update}
use Rattle.std.specs.Ordering.{is_eq, eq_by_cmp, ordering_reverse}
use Rattle.std.proofs.lemmas.Cmp.{tied_itself}
use Rattle.std.proofs.lemmas.Map.Keys.{sorted_head, sorted_tail}
use Rattle.std.proofs.lemmas.Map.Lookups.{CmpEqualImpliesEq}

-- two filters, and their order
pub filter_filter : {X : Type 0} (p q : X → Bool) (xs : List X) → filter p (filter q xs) ≡ filter (λ x. cond (q x) (p x) false) xs
filter_filter p q [] = refl
filter_filter p q (x ∷ xs) = by (q x) (p x) refl refl (filter_filter p q xs)
  where
    by : (a b : Bool) → q x ≡ a → p x ≡ b → filter p (filter q xs) ≡ filter (λ x. cond (q x) (p x) false) xs
        → filter p (filter q (x ∷ xs)) ≡ filter (λ x. cond (q x) (p x) false) (x ∷ xs)
    by true true s t more = rw (s, t, more) refl
    by true false s t more = rw (s, t, more) refl
    by false b s t more = rw (s, more) refl

pub filter_congr : {X : Type 0} (p q : X → Bool) (xs : List X) → ((x : X) → p x ≡ q x) → filter p xs ≡ filter q xs
filter_congr p q xs h = λ i. filter (λ x. h x i) xs

turned : (r : Ordering) → is_eq (ordering_reverse r) ≡ is_eq r
turned Less = refl
turned Equal = refl
turned Greater = refl

tie_turned : {K : Type 0} {R : K → K → Ordering} (o : IsTotalOrder R) (q k : K) → is_eq (R q k) ≡ is_eq (R k q)
tie_turned {R = R} o q k = ap is_eq (o.antisymm q k) ∙ turned (R k q)

module _ {K V : Type 0} {R : K → K → Ordering} (o : IsTotalOrder R) (exact : CmpEqualImpliesEq R) where
  above : (k j : K) (es : List (K × V)) → R k j ≡ Less → AllByRecursion (λ y. R j y ≡ Less) (keys_of es) → AllByRecursion (λ y. R k y ≡ Less) (keys_of es)
  above k j [] e h = tt
  above k j (x ∷ es) e h = (o.trans k j x.0 e h.0, above k j es e h.1)

  -- a put keeps the order
  below_put_by : (j k : K) (v : V) (e : K × V) (es : List (K × V)) (r : Ordering) → R k e.0 ≡ r → R j k ≡ Less → R j e.0 ≡ Less
      → AllByRecursion (λ y. R j y ≡ Less) (keys_of es) → AllByRecursion (λ y. R j y ≡ Less) (keys_of (insert_entry R es k v))
      → AllByRecursion (λ y. R j y ≡ Less) (keys_of (insert_entry R (e ∷ es) k v))
  below_put_by j k v e es Less t a b h more = rw t (a, (b, h))
  below_put_by j k v e es Equal t a b h more = rw t (b, h)
  below_put_by j k v e es Greater t a b h more = rw t (b, more)

  below_put : (j k : K) (v : V) (es : List (K × V)) → R j k ≡ Less → AllByRecursion (λ y. R j y ≡ Less) (keys_of es)
      → AllByRecursion (λ y. R j y ≡ Less) (keys_of (insert_entry R es k v))
  below_put j k v [] a h = (a, tt)
  below_put j k v (e ∷ es) a h = below_put_by j k v e es (R k e.0) refl a h.0 h.1 (below_put j k v es a h.1)

  put_ordered_by : (k : K) (v : V) (e : K × V) (es : List (K × V)) (r : Ordering) → R k e.0 ≡ r
      → AllByRecursion (λ y. R e.0 y ≡ Less) (keys_of es) → IsStrictlySortedBy R (keys_of es) → IsStrictlySortedBy R (keys_of (insert_entry R es k v))
      → IsStrictlySortedBy R (keys_of (insert_entry R (e ∷ es) k v))
  unfolding IsStrictlySortedBy
  put_ordered_by k v e es Less t h s more = rw t ((t, above k e.0 es t h), (h, s))
  put_ordered_by k v e es Equal t h s more = rw t (h, s)
  put_ordered_by k v e es Greater t h s more = rw t (below_put e.0 k v es (rw (o.antisymm e.0 k, t) refl) h, more)

  pub put_ordered : (k : K) (v : V) (es : List (K × V)) → IsStrictlySortedBy R (keys_of es) → IsStrictlySortedBy R (keys_of (insert_entry R es k v))
  unfolding IsStrictlySortedBy
  put_ordered k v [] s = (tt, tt)
  put_ordered k v (e ∷ es) s = put_ordered_by k v e es (R k e.0) refl s.0 s.1 (put_ordered k v es s.1)

  -- a filter keeps it
  above_filter_by : (P : K → Type 0) (p : K → Bool) (e : K × V) (es : List (K × V)) (b : Bool) → p e.0 ≡ b → P e.0
      → AllByRecursion P (keys_of (filter (λ e. p e.0) es)) → AllByRecursion P (keys_of (filter (λ e. p e.0) (e ∷ es)))
  above_filter_by P p e es true t h more = rw t (h, more)
  above_filter_by P p e es false t h more = rw t more

  above_filter : (P : K → Type 0) (p : K → Bool) (es : List (K × V)) → AllByRecursion P (keys_of es) → AllByRecursion P (keys_of (filter (λ e. p e.0) es))
  above_filter P p [] h = tt
  above_filter P p (e ∷ es) h = above_filter_by P p e es (p e.0) refl h.0 (above_filter P p es h.1)

  filter_ordered_by : (p : K → Bool) (e : K × V) (es : List (K × V)) (b : Bool) → p e.0 ≡ b
      → AllByRecursion (λ y. R e.0 y ≡ Less) (keys_of (filter (λ e. p e.0) es)) → IsStrictlySortedBy R (keys_of (filter (λ e. p e.0) es))
      → IsStrictlySortedBy R (keys_of (filter (λ e. p e.0) (e ∷ es)))
  unfolding IsStrictlySortedBy
  filter_ordered_by p e es true t h s = rw t (h, s)
  filter_ordered_by p e es false t h s = rw t s

  pub filter_ordered : (p : K → Bool) (es : List (K × V)) → IsStrictlySortedBy R (keys_of es) → IsStrictlySortedBy R (keys_of (filter (λ e. p e.0) es))
  filter_ordered p [] s = s
  filter_ordered p (e ∷ es) s =
      filter_ordered_by p e es (p e.0) refl (above_filter (λ y. R e.0 y ≡ Less) p es (sorted_head R e.0 (keys_of es) s)) (filter_ordered p es (sorted_tail R e.0 (keys_of es) s))

  -- puts in turn keep it
  pub puts_ordered : (puts es : List (K × V)) → IsStrictlySortedBy R (keys_of es)
      → IsStrictlySortedBy R (keys_of (fold (λ l x. insert_entry R l x.0 x.1) es puts))
  puts_ordered [] es s = s
  puts_ordered (x ∷ puts) es s = puts_ordered puts (insert_entry R es x.0 x.1) (put_ordered x.0 x.1 es s)

  -- a put below all keys comes first
  put_below : (k : K) (v : V) (es : List (K × V)) → AllByRecursion (λ y. R k y ≡ Less) (keys_of es) → insert_entry R es k v ≡ (k, v) ∷ es
  put_below k v [] h = refl
  put_below k v (e ∷ es) h = rw h.0 refl

  -- a filter that keeps the key commutes with its put
  kept_put_by : (p : K → Bool) (k : K) (v : V) (e : K × V) (es : List (K × V)) (r : Ordering) (b : Bool) → R k e.0 ≡ r → p e.0 ≡ b → p k ≡ true
      → AllByRecursion (λ y. R e.0 y ≡ Less) (keys_of (filter (λ e. p e.0) es))
      → filter (λ e. p e.0) (insert_entry R es k v) ≡ insert_entry R (filter (λ e. p e.0) es) k v
      → filter (λ e. p e.0) (insert_entry R (e ∷ es) k v) ≡ insert_entry R (filter (λ e. p e.0) (e ∷ es)) k v
  kept_put_by p k v e es Less true t b a h more = rw (t, a, b, t) refl
  kept_put_by p k v e es Less false t b a h more = rw (t, a, b) (sym (put_below k v (filter (λ e. p e.0) es) (above k e.0 (filter (λ e. p e.0) es) t h)))
  kept_put_by p k v e es Equal true t b a h more = rw (t, b, t) refl
  kept_put_by p k v e es Equal false t b a h more = absurd (true_false (sym a ∙ ap p (exact k e.0 t) ∙ b))
    where
      true_false : true ≡ false → ⊥
      true_false e = absurd cc
  kept_put_by p k v e es Greater true t b a h more = rw (t, b, t, more) refl
  kept_put_by p k v e es Greater false t b a h more = rw (t, b, more) refl

  kept_put : (p : K → Bool) (k : K) (v : V) (es : List (K × V)) → p k ≡ true → IsStrictlySortedBy R (keys_of es)
      → filter (λ e. p e.0) (insert_entry R es k v) ≡ insert_entry R (filter (λ e. p e.0) es) k v
  kept_put p k v [] a s = rw a refl
  kept_put p k v (e ∷ es) a s =
      kept_put_by p k v e es (R k e.0) (p e.0) refl refl a (above_filter (λ y. R e.0 y ≡ Less) p es (sorted_head R e.0 (keys_of es) s)) (kept_put p k v es a (sorted_tail R e.0 (keys_of es) s))

  -- a filter that drops the key drops its put
  dropped_put_by : (p : K → Bool) (k : K) (v : V) (e : K × V) (es : List (K × V)) (r : Ordering) → R k e.0 ≡ r → p k ≡ false
      → filter (λ e. p e.0) (insert_entry R es k v) ≡ filter (λ e. p e.0) es
      → filter (λ e. p e.0) (insert_entry R (e ∷ es) k v) ≡ filter (λ e. p e.0) (e ∷ es)
  dropped_put_by p k v e es Less t a more = rw (t, a) refl
  dropped_put_by p k v e es Equal t a more = let b : p e.0 ≡ false = ap p (sym (exact k e.0 t)) ∙ a in rw (t, b) refl
  dropped_put_by p k v e es Greater t a more = rw (t, more) refl

  dropped_put : (p : K → Bool) (k : K) (v : V) (es : List (K × V)) → p k ≡ false → filter (λ e. p e.0) (insert_entry R es k v) ≡ filter (λ e. p e.0) es
  dropped_put p k v [] a = rw a refl
  dropped_put p k v (e ∷ es) a = dropped_put_by p k v e es (R k e.0) refl a (dropped_put p k v es a)

  -- so a filter goes through puts
  filter_puts_by : (p : K → Bool) (x : K × V) (puts es : List (K × V)) (b : Bool) → p x.0 ≡ b → IsStrictlySortedBy R (keys_of es)
      → filter (λ e. p e.0) (fold (λ l x. insert_entry R l x.0 x.1) (insert_entry R es x.0 x.1) puts)
      ≡ fold (λ l x. insert_entry R l x.0 x.1) (filter (λ e. p e.0) (insert_entry R es x.0 x.1)) (filter (λ e. p e.0) puts)
      → filter (λ e. p e.0) (fold (λ l x. insert_entry R l x.0 x.1) es (x ∷ puts))
      ≡ fold (λ l x. insert_entry R l x.0 x.1) (filter (λ e. p e.0) es) (filter (λ e. p e.0) (x ∷ puts))
  filter_puts_by p x puts es true t s more = rw t (more ∙ ap (λ l. fold (λ l x. insert_entry R l x.0 x.1) l (filter (λ e. p e.0) puts)) (kept_put p x.0 x.1 es t s))
  filter_puts_by p x puts es false t s more = rw t (more ∙ ap (λ l. fold (λ l x. insert_entry R l x.0 x.1) l (filter (λ e. p e.0) puts)) (dropped_put p x.0 x.1 es t))

  pub filter_puts : (p : K → Bool) (puts es : List (K × V)) → IsStrictlySortedBy R (keys_of es)
      → filter (λ e. p e.0) (fold (λ l x. insert_entry R l x.0 x.1) es puts)
      ≡ fold (λ l x. insert_entry R l x.0 x.1) (filter (λ e. p e.0) es) (filter (λ e. p e.0) puts)
  filter_puts p [] es s = refl
  filter_puts p (x ∷ puts) es s = filter_puts_by p x puts es (p x.0) refl s (filter_puts p puts (insert_entry R es x.0 x.1) (put_ordered x.0 x.1 es s))

  -- what a look-up finds after a put
  swapped : (a b : Bool) (x y z : Option V) → (a ≡ true → b ≡ true → ⊥) → cond a x (cond b y z) ≡ cond b y (cond a x z)
  swapped true true x y z h = absurd (h refl refl)
  swapped true false x y z h = refl
  swapped false b x y z h = refl

  over : (a b : Bool) (x y z : Option V) → a ≡ b → cond a x z ≡ cond b x (cond a y z)
  over true b x y z e = rw (sym e) refl
  over false b x y z e = rw (sym e) refl

  found_put_by : (q k : K) (v : V) (e : K × V) (es : List (K × V)) (r : Ordering) → R k e.0 ≡ r
      → lookup (is_at (R q)) (insert_entry R es k v) ≡ cond (is_eq (R k q)) (Some v) (lookup (is_at (R q)) es)
      → lookup (is_at (R q)) (insert_entry R (e ∷ es) k v) ≡ cond (is_eq (R k q)) (Some v) (lookup (is_at (R q)) (e ∷ es))
  found_put_by q k v e es Less t more = rw t (ap (λ b. cond b (Some v) (lookup (is_at (R q)) (e ∷ es))) (tie_turned o q k))
  found_put_by q k v e es Equal t more =
      rw t (over (is_eq (R q e.0)) (is_eq (R k q)) (Some v) (Some e.1) (lookup (is_at (R q)) es) (subst (λ z. is_eq (R q z) ≡ is_eq (R k q)) (exact k e.0 t) (tie_turned o q k)))
  found_put_by q k v e es Greater t more =
      rw t (ap (λ l. cond (is_eq (R q e.0)) (Some e.1) l) more
      ∙ swapped (is_eq (R q e.0)) (is_eq (R k q)) (Some e.1) (Some v) (lookup (is_at (R q)) es)
      (λ a b. not_greater (R k e.0) (subst (λ z. R k z ≡ Equal) (exact q e.0 ((Equal-is _).0 a)) ((Equal-is _).0 b)) t))
    where
      not_greater : (r : Ordering) → r ≡ Equal → r ≡ Greater → ⊥
      not_greater r a b = absurd cc

  pub found_put : (q k : K) (v : V) (es : List (K × V))
      → lookup (is_at (R q)) (insert_entry R es k v) ≡ cond (is_eq (R k q)) (Some v) (lookup (is_at (R q)) es)
  found_put q k v [] = ap (λ b. cond b (Some v) None) (tie_turned o q k)
  found_put q k v (e ∷ es) = found_put_by q k v e es (R k e.0) refl (found_put q k v es)

  pub found_puts : (puts es : List (K × V)) (f : K → Option V) → ((q : K) → lookup (is_at (R q)) es ≡ f q) → (q : K)
      → lookup (is_at (R q)) (fold (λ l x. insert_entry R l x.0 x.1) es puts) ≡ update_all (eq_by_cmp R) f puts q
  found_puts [] es f h q = h q
  found_puts (x ∷ puts) es f h q =
      found_puts puts (insert_entry R es x.0 x.1) (update (eq_by_cmp R) f x.0 (Some x.1))
      (λ p. found_put p x.0 x.1 es ∙ ap (λ l. cond (is_eq (R x.0 p)) (Some x.1) l) (h p)) q

  -- maps in order that agree at each key are one
  none_above : (k : K) (es : List (K × V)) → AllByRecursion (λ y. R k y ≡ Less) (keys_of es) → lookup (is_at (R k)) es ≡ None
  none_above k [] h = refl
  none_above k (e ∷ es) h = rw (h.0, none_above k es h.1) refl

  at_head : (e : K × V) (es : List (K × V)) → lookup (is_at (R e.0)) (e ∷ es) ≡ Some e.1
  at_head e es = rw (tied_itself o e.0) refl

  behind : (e : K × V) (es : List (K × V)) (q : K) → is_eq (R q e.0) ≡ false → lookup (is_at (R q)) (e ∷ es) ≡ lookup (is_at (R q)) es
  behind e es q h = rw h refl

  some_not_none : (v : V) (x : Option V) → Some v ≡ x → x ≡ None → ⊥
  some_not_none v x a b = absurd cc

  some_same : (v w : V) → Some v ≡ Some w → v ≡ w
  some_same v w e = cc

  tails_by : (e f : K × V) (es fs : List (K × V)) → e.0 ≡ f.0 → AllByRecursion (λ y. R e.0 y ≡ Less) (keys_of es) → AllByRecursion (λ y. R f.0 y ≡ Less) (keys_of fs)
      → ((q : K) → lookup (is_at (R q)) (e ∷ es) ≡ lookup (is_at (R q)) (f ∷ fs)) → (q : K) (b : Bool) → is_eq (R q e.0) ≡ b
      → lookup (is_at (R q)) es ≡ lookup (is_at (R q)) fs
  tails_by e f es fs same s t h q true at =
      let here : q ≡ e.0 = exact q e.0 ((Equal-is _).0 at) in
      none_above q es (subst (λ z. AllByRecursion (λ y. R z y ≡ Less) (keys_of es)) (sym here) s)
      ∙ sym (none_above q fs (subst (λ z. AllByRecursion (λ y. R z y ≡ Less) (keys_of fs)) (sym (here ∙ same)) t))
  tails_by e f es fs same s t h q false at =
      sym (behind e es q at) ∙ h q ∙ behind f fs q (subst (λ z. is_eq (R q z) ≡ false) same at)

  one_by : (e f : K × V) (es fs : List (K × V)) (r : Ordering) → R e.0 f.0 ≡ r
      → AllByRecursion (λ y. R e.0 y ≡ Less) (keys_of es) → AllByRecursion (λ y. R f.0 y ≡ Less) (keys_of fs)
      → ((q : K) → lookup (is_at (R q)) (e ∷ es) ≡ lookup (is_at (R q)) (f ∷ fs))
      → (((q : K) → lookup (is_at (R q)) es ≡ lookup (is_at (R q)) fs) → es ≡ fs) → e ∷ es ≡ f ∷ fs
  one_by e f es fs Less d s t h more =
      absurd (some_not_none e.1 _ (sym (at_head e es) ∙ h e.0) (none_above e.0 (f ∷ fs) (d, above e.0 f.0 fs d t)))
  one_by e f es fs Greater d s t h more =
      let back : R f.0 e.0 ≡ Less = rw (o.antisymm f.0 e.0, d) refl in
      absurd (some_not_none f.1 _ (sym (at_head f fs) ∙ sym (h f.0)) (none_above f.0 (e ∷ es) (back, above f.0 e.0 es back s)))
  one_by e f es fs Equal d s t h more =
      let key : e.0 ≡ f.0 = exact e.0 f.0 d in
      let value = some_same e.1 f.1 (sym (at_head e es) ∙ h e.0 ∙ subst (λ z. lookup (is_at (R z)) (f ∷ fs) ≡ Some f.1) (sym key) (at_head f fs)) in
      let rest = more (λ q. tails_by e f es fs key s t h q (is_eq (R q e.0)) refl) in
      λ i. (key i, value i) ∷ rest i

  pub one_map : (es fs : List (K × V)) → IsStrictlySortedBy R (keys_of es) → IsStrictlySortedBy R (keys_of fs)
      → ((q : K) → lookup (is_at (R q)) es ≡ lookup (is_at (R q)) fs) → es ≡ fs
  one_map [] [] s t h = refl
  one_map [] (f ∷ fs) s t h = absurd (some_not_none f.1 _ (sym (at_head f fs) ∙ sym (h f.0)) refl)
  one_map (e ∷ es) [] s t h = absurd (some_not_none e.1 _ (sym (at_head e es) ∙ h e.0) refl)
  one_map (e ∷ es) (f ∷ fs) s t h =
      one_by e f es fs (R e.0 f.0) refl (sorted_head R e.0 (keys_of es) s) (sorted_head R f.0 (keys_of fs) t) h
      (one_map es fs (sorted_tail R e.0 (keys_of es) s) (sorted_tail R f.0 (keys_of fs) t))
