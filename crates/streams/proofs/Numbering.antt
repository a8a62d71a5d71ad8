-- The connections held, one by one, and those that hold octets.
use Rattle.std.proofs.Common.{◌≡◌, ◌<◌, ◌+◌, ◌∙◌, ℕ, Some, None, Option, Bool, true, false, cond, List, [], ◌∷◌, ◌++◌, refl, sym, ap, arith, zero, suc, length, get_or, set, drop, take, filter, subst, inl, inr}
use Rattle.std.specs.Option.{option_or, option_map}
use Rattle.std.proofs.lemmas.Bool.{cases_Bool}
use Rattle.std.proofs.lemmas.List.{drop_more, take_more, length-take-le}
use Rattle.streams.specs.declared.gathering.Gathering.{Gathering}
use Rattle.streams.specs.Passed.{Segment}
use Rattle.streams.specs.Connections.{last_index, is_between, has_ports, has_octets, first_in}
use Rattle.streams.specs.Held.{passes, holding, IsOne, AreEach}

-- the last that passes, of a list with one more
pub last-push : {X : Type 0} (test : X → Bool) (xs : List X) (x : X) → last_index test (xs ++ x ∷ []) ≡ cond (test x) (Some (length xs)) (last_index test xs)
last-push test [] x = elim (cases_Bool (test x)) [
  | inl e ↦ rw e
  | inr e ↦ rw e
]
last-push test (y ∷ ys) x =
    ap (λ (o : Option ℕ). option_or (option_map suc o) (cond (test y) (Some 0) None)) (last-push test ys x)
    ∙ elim (cases_Bool (test x)) [
      | inl e ↦ rw e
      | inr e ↦ rw e
    ]

pub last_here : {X : Type 0} (test : X → Bool) (xs : List X) (n : ℕ) (x : X) → n < length xs → x ≡ get_or xs n x → test x ≡ true → last_index test (take (n + 1) xs) ≡ Some n
last_here test xs n x lt is passes =
    let size : length (take n xs) ≡ n = length-take-le n xs (omega arith) in
    ap (last_index test) (take_more xs n x lt ∙ ap (λ (y : _). take n xs ++ y ∷ []) (sym is))
    ∙ last-push test (take n xs) x
    ∙ ap (λ (t : Bool). cond t (Some (length (take n xs))) (last_index test (take n xs))) passes
    ∙ ap (λ (k : ℕ). Some k) size

pub last_before : {X : Type 0} (test : X → Bool) (xs : List X) (n : ℕ) (x : X) → n < length xs → x ≡ get_or xs n x → test x ≡ false → last_index test (take n xs) ≡ last_index test (take (n + 1) xs)
last_before test xs n x lt is passes =
    sym (ap (last_index test) (take_more xs n x lt ∙ ap (λ (y : _). take n xs ++ y ∷ []) (sym is))
    ∙ last-push test (take n xs) x
    ∙ ap (λ (t : Bool). cond t (Some (length (take n xs))) (last_index test (take n xs))) passes)

-- those that hold octets, from one place on
pub holding_here : {Z : Type 0} (xs : List (Gathering Z)) (n : ℕ) (x : Gathering Z) → n < length xs → x ≡ get_or xs n x → x.has_octets ≡ true → holding (drop n xs) ≡ x ∷ holding (drop (n + 1) xs)
holding_here xs n x lt is holds =
    ap holding (drop_more xs n x lt ∙ ap (λ y. y ∷ drop (n + 1) xs) (sym is))
    ∙ ap (λ (t : Bool). cond t (x ∷ holding (drop (n + 1) xs)) (holding (drop (n + 1) xs))) holds

pub holding_after : {Z : Type 0} (xs : List (Gathering Z)) (n : ℕ) (x : Gathering Z) → n < length xs → x ≡ get_or xs n x → x.has_octets ≡ false → holding (drop n xs) ≡ holding (drop (n + 1) xs)
holding_after xs n x lt is holds =
    ap holding (drop_more xs n x lt ∙ ap (λ y. y ∷ drop (n + 1) xs) (sym is))
    ∙ ap (λ (t : Bool). cond t (x ∷ holding (drop (n + 1) xs)) (holding (drop (n + 1) xs))) holds

-- each held connection is told by its segments
ports_of : {Z : Type 0} (s : Segment) (segments : List Segment) (g : Gathering Z) → IsOne segments g → is_between s segments ≡ passes s g
ports_of s [] g one = absurd one
ports_of s (last ∷ before) g one =
    ap (λ (p : ℕ). has_ports s p (first_in last before).peer_port) (sym one.0.local_port)
    ∙ ap (λ (p : ℕ). has_ports s g.local_port p) (sym one.0.peer_port)

pub each_index : {Z : Type 0} (s : Segment) (cs : List (List Segment)) (gs : List (Gathering Z)) → AreEach cs gs → last_index (is_between s) cs ≡ last_index (passes s) gs
each_index s [] [] each = refl
each_index s [] (g ∷ gs) each = absurd each
each_index s (c ∷ cs) [] each = absurd each
each_index s (c ∷ cs) (g ∷ gs) each =
    ap (λ (o : Option ℕ). option_or (option_map suc o) (cond (is_between s c) (Some 0) None)) (each_index s cs gs each.1)
    ∙ ap (λ (t : Bool). option_or (option_map suc (last_index (passes s) gs)) (cond t (Some 0) None)) (ports_of s c g each.0)

pub each_at : {Z : Type 0} (cs : List (List Segment)) (gs : List (Gathering Z)) (i : ℕ) (d : Gathering Z) → AreEach cs gs → i < length gs → IsOne (get_or cs i []) (get_or gs i d)
each_at [] [] i d each lt = absurd (omega arith)
each_at [] (g ∷ gs) i d each lt = absurd each
each_at (c ∷ cs) [] i d each lt = absurd each
each_at (c ∷ cs) (g ∷ gs) zero d each lt = each.0
each_at (c ∷ cs) (g ∷ gs) (suc i) d each lt = each_at cs gs i d each.1 (omega arith)

pub each_set : {Z : Type 0} (cs : List (List Segment)) (gs : List (Gathering Z)) (i : ℕ) (c' : List Segment) (g' : Gathering Z) → AreEach cs gs → IsOne c' g' → AreEach (set cs i c') (set gs i g')
each_set [] [] i c' g' each one = tt
each_set [] (g ∷ gs) i c' g' each one = absurd each
each_set (c ∷ cs) [] i c' g' each one = absurd each
each_set (c ∷ cs) (g ∷ gs) zero c' g' each one = (one, each.1)
each_set (c ∷ cs) (g ∷ gs) (suc i) c' g' each one = (each.0, each_set cs gs i c' g' each.1 one)

pub each_push : {Z : Type 0} (cs : List (List Segment)) (gs : List (Gathering Z)) (c' : List Segment) (g' : Gathering Z) → AreEach cs gs → IsOne c' g' → AreEach (cs ++ c' ∷ []) (gs ++ g' ∷ [])
each_push [] [] c' g' each one = (one, tt)
each_push [] (g ∷ gs) c' g' each one = absurd each
each_push (c ∷ cs) [] c' g' each one = absurd each
each_push (c ∷ cs) (g ∷ gs) c' g' each one = (each.0, each_push cs gs c' g' each.1 one)

octets_of : {Z : Type 0} (segments : List Segment) (g : Gathering Z) → IsOne segments g → has_octets segments ≡ g.has_octets
octets_of [] g one = absurd one
octets_of (last ∷ before) g one = sym one.1.has_octets

-- those that hold octets are the numbered ones
pub each_holding : {Z : Type 0} (cs : List (List Segment)) (gs : List (Gathering Z)) → AreEach cs gs → AreEach (filter has_octets cs) (holding gs)
each_holding [] [] each = tt
each_holding [] (g ∷ gs) each = absurd each
each_holding (c ∷ cs) [] each = absurd each
each_holding (c ∷ cs) (g ∷ gs) each = elim (cases_Bool g.has_octets) [
  | inl here ↦
      let both : AreEach (c ∷ filter has_octets cs) (g ∷ holding gs) = (each.0, each_holding cs gs each.1) in
      subst (λ (t : Bool). AreEach (cond t (c ∷ filter has_octets cs) (filter has_octets cs)) (cond g.has_octets (g ∷ holding gs) (holding gs))) (sym (octets_of c g each.0 ∙ here))
      (subst (λ (t : Bool). AreEach (c ∷ filter has_octets cs) (cond t (g ∷ holding gs) (holding gs))) (sym here) both)
  | inr lacks ↦
      subst (λ (t : Bool). AreEach (cond t (c ∷ filter has_octets cs) (filter has_octets cs)) (cond g.has_octets (g ∷ holding gs) (holding gs))) (sym (octets_of c g each.0 ∙ lacks))
      (subst (λ (t : Bool). AreEach (filter has_octets cs) (cond t (g ∷ holding gs) (holding gs))) (sym lacks) (each_holding cs gs each.1))
]

pub each_length : {Z : Type 0} (cs : List (List Segment)) (gs : List (Gathering Z)) → AreEach cs gs → length cs ≡ length gs
each_length [] [] each = refl
each_length [] (g ∷ gs) each = absurd each
each_length (c ∷ cs) [] each = absurd each
each_length (c ∷ cs) (g ∷ gs) each = ap suc (each_length cs gs each.1)
