-- What a change is to routes and their families.
use Rattle.std.proofs.Common.{◌≡◌, ◌++◌, ◌||◌, Option, Bool, true, false, not, List, [], ◌∷◌, All, IsFalse, filter, map, refl, sym, ap, ◌∙◌}
use Rattle.std.proofs.lemmas.List.{map-append}
use Rattle.std.proofs.lemmas.List.Sums.{fold-append}
use Rattle.std.proofs.lemmas.List.Elements.{filter-append, All-nil, All-cons, All-head, All-tail}
use Rattle.std.proofs.lemmas.Map.Views.{All-keys-insert_entry}
use Rattle.std.specs.BTreeMap.{insert_entry}
use Rattle.std.specs.Map.{keys_of}
use Rattle.std.specs.Set.{is_member}
use Rattle.bgp_rib.specs.DestinationOrder.{destination_cmp, destination_eq}
use Rattle.bgp_prefix.specs.declared.family.Family.{Family}
use Rattle.bgp_prefix.specs.declared.family.Family.TheVariants.{V4, V6}
use Rattle.bgp_update.specs.declared.destination.Destination.{Destination}
use Rattle.bgp_update.specs.DeclaredFamilies.{Families}
use Rattle.bgp_update.specs.Families.{contains, union}
use Rattle.bgp_path.specs.Path.{PathValue}
use Rattle.bgp_update.specs.Changes.{Route, RouteChanges, routes_with}
use Rattle.bgp_rib.specs.Routes.{entries_outside, entries_with, entries_without, entry_of, only, AreOutside, AreRoutes, routes_after, routes_without}
use Rattle.std.specs.List.Sorted.{IsStrictlySortedBy}
use Rattle.bgp_rib.specs.Rooms.{routes_in}
use Rattle.bgp_rib.proofs.DestinationKeys.{destinations_total, exact_destinations}
use Rattle.bgp_rib.proofs.RoomLemmas.{ordered_routes}

in_none : (f : Family) → contains (record { v4 = false; v6 = false }) f ≡ false
in_none V4 = refl
in_none V6 = refl

-- no family hides nothing
pub outside_none : {V : Type 0} (es : List (Destination × V)) → entries_outside (record { v4 = false; v6 = false }) es ≡ es
outside_none [] = refl
outside_none (e ∷ es) = rw (in_none e.0.prefix.family, outside_none es) refl

pub in_union : (a b : Families) (f : Family) → contains (union a b) f ≡ (contains a f || contains b f)
in_union a b V4 = refl
in_union a b V6 = refl

-- the routes of one destination more
pub group_more : (d : Families) (path : PathValue) (ps : List Destination) (p : Destination)
    → entries_outside d (map entry_of (routes_with path (ps ++ p ∷ [])))
    ≡ entries_outside d (map entry_of (routes_with path ps)) ++ entries_outside d ((p, path) ∷ [])
group_more d path ps p =
    ap (λ l. entries_outside d (map entry_of l)) (map-append (λ q. record { destination = q; path = path }) ps (p ∷ []))
    ∙ ap (entries_outside d) (map-append entry_of (routes_with path ps) (routes_with path (p ∷ [])))
    ∙ filter-append (λ e. not (contains d e.0.prefix.family)) (map entry_of (routes_with path ps)) ((p, path) ∷ [])

-- the routes of one group more
pub groups_more : (d : Families) (rs ss : List Route)
    → entries_outside d (map entry_of (rs ++ ss)) ≡ entries_outside d (map entry_of rs) ++ entries_outside d (map entry_of ss)
groups_more d rs ss =
    ap (entries_outside d) (map-append entry_of rs ss) ∙ filter-append (λ e. not (contains d e.0.prefix.family)) (map entry_of rs) (map entry_of ss)

-- puts after puts
pub with_both : {V : Type 0} (puts more es : List (Destination × V)) → entries_with (puts ++ more) es ≡ entries_with more (entries_with puts es)
with_both puts more es = fold-append (λ l e. insert_entry destination_cmp l e.0 e.1) es puts more

-- the route of one destination more
pub route_put : (d : Families) (path : PathValue) (ps : List Destination) (p : Destination) (es : List (Destination × PathValue))
    → entries_with (entries_outside d ((p, path) ∷ [])) (entries_with (entries_outside d (map entry_of (routes_with path ps))) es)
    ≡ entries_with (entries_outside d (map entry_of (routes_with path (ps ++ p ∷ [])))) es
route_put d path ps p es =
    sym (with_both (entries_outside d (map entry_of (routes_with path ps))) (entries_outside d ((p, path) ∷ [])) es)
    ∙ ap (λ l. entries_with l es) (sym (group_more d path ps p))

-- a route of a family that is enabled, and of one that isn't
pub put_alone : (d : Families) (path : PathValue) (p : Destination) (es : List (Destination × PathValue)) → contains d p.prefix.family ≡ false
    → insert_entry destination_cmp es p path ≡ entries_with (entries_outside d ((p, path) ∷ [])) es
put_alone d path p es on = rw on refl

pub left_alone : (d : Families) (path : PathValue) (p : Destination) (es : List (Destination × PathValue)) → contains d p.prefix.family ≡ true
    → es ≡ entries_with (entries_outside d ((p, path) ∷ [])) es
left_alone d path p es off = rw off refl

-- the routes of group after group
pub groups_put : (d : Families) (rs ss : List Route) (es : List (Destination × PathValue))
    → entries_with (entries_outside d (map entry_of (rs ++ ss))) es
    ≡ entries_with (entries_outside d (map entry_of ss)) (entries_with (entries_outside d (map entry_of rs)) es)
groups_put d rs ss es =
    ap (λ l. entries_with l es) (groups_more d rs ss) ∙ with_both (entries_outside d (map entry_of rs)) (entries_outside d (map entry_of ss)) es

outside_by : {V : Type 0} (d f : Families) (e : Destination × V) (es : List (Destination × V)) (a b : Bool)
    → contains d e.0.prefix.family ≡ a → contains f e.0.prefix.family ≡ b → a ≡ false → AreOutside (union d f) (keys_of (entries_outside f es))
    → AreOutside (union d f) (keys_of (entries_outside f (e ∷ es)))
outside_by d f e es a true p q none more = rw q more
outside_by d f e es true false p q none more = absurd cc
outside_by d f e es false false p q none more = rw q (All-cons (λ p. IsFalse (contains (union d f) p.prefix.family)) e.0 (keys_of (entries_outside f es)) (rw (in_union d f e.0.prefix.family, p, q) refl) more)

-- what is disabled besides
pub outside_both : {V : Type 0} (d f : Families) (es : List (Destination × V)) → AreOutside d (keys_of es)
    → AreOutside (union d f) (keys_of (entries_outside f es))
outside_both d f [] h = All-nil _
outside_both d f (e ∷ es) h =
    outside_by d f e es (contains d e.0.prefix.family) (contains f e.0.prefix.family) refl refl (All-head (λ p. IsFalse (contains d p.prefix.family)) e.0 (keys_of es) h) (outside_both d f es (All-tail (λ p. IsFalse (contains d p.prefix.family)) e.0 (keys_of es) h))

-- a change keeps the families enabled
kept_by : {V : Type 0} (P : Destination → Type 0) (p : Destination → Bool) (e : Destination × V) (es : List (Destination × V)) (b : Bool) → p e.0 ≡ b
    → P e.0 → All P (keys_of (filter (λ e. p e.0) es)) → All P (keys_of (filter (λ e. p e.0) (e ∷ es)))
kept_by P p e es true t h more = rw t (All-cons P _ _ h more)
kept_by P p e es false t h more = rw t more

pub kept_keys : {V : Type 0} (P : Destination → Type 0) (p : Destination → Bool) (es : List (Destination × V)) → All P (keys_of es)
    → All P (keys_of (filter (λ e. p e.0) es))
kept_keys P p [] h = All-nil P
kept_keys P p (e ∷ es) h = kept_by P p e es (p e.0) refl (All-head P _ _ h) (kept_keys P p es (All-tail P _ _ h))

outside_own_by : {V : Type 0} (d : Families) (e : Destination × V) (es : List (Destination × V)) (b : Bool) → contains d e.0.prefix.family ≡ b
    → AreOutside d (keys_of (entries_outside d es)) → AreOutside d (keys_of (entries_outside d (e ∷ es)))
outside_own_by d e es true t more = rw t more
outside_own_by d e es false t more = rw t (All-cons (λ p. IsFalse (contains d p.prefix.family)) e.0 (keys_of (entries_outside d es)) t more)

pub outside_own : {V : Type 0} (d : Families) (es : List (Destination × V)) → AreOutside d (keys_of (entries_outside d es))
outside_own d [] = All-nil _
outside_own d (e ∷ es) = outside_own_by d e es (contains d e.0.prefix.family) refl (outside_own d es)

pub with_keys : {V : Type 0} (P : Destination → Type 0) (puts es : List (Destination × V)) → All P (keys_of puts) → All P (keys_of es)
    → All P (keys_of (entries_with puts es))
with_keys P [] es h k = k
with_keys P (x ∷ puts) es h k =
    with_keys P puts (insert_entry destination_cmp es x.0 x.1) (All-tail P _ _ h) (All-keys-insert_entry destination_cmp x.0 x.1 P es k (All-head P _ _ h))

pub change_outside : {V : Type 0} (d : Families) (ps : List Destination) (puts es : List (Destination × V)) → AreOutside d (keys_of es)
    → AreOutside d (keys_of (entries_with (entries_outside d puts) (entries_without ps es)))
change_outside d ps puts es h =
    with_keys (λ p. IsFalse (contains d p.prefix.family)) (entries_outside d puts) (entries_without ps es) (outside_own d puts)
    (kept_keys (λ p. IsFalse (contains d p.prefix.family)) (λ p. not (is_member destination_eq ps p)) es h)

-- routes as they are seen in a table
pub seen_are : (d : Families) (es : List (Destination × Option PathValue)) → IsStrictlySortedBy destination_cmp (keys_of es)
    → AreOutside d (keys_of (routes_in es)) → AreRoutes (record { entries = routes_in es; disabled = d })
seen_are d es s h = record { ordered = ordered_routes destinations_total exact_destinations es s; enabled = h }

-- a table whose routes changed is seen so
pub seen_changed : (changes : RouteChanges) (d : Families) (removes : List Destination) (puts es new : List (Destination × PathValue))
    → removes ≡ changes.remove → puts ≡ entries_outside d (map entry_of changes.put) → new ≡ entries_with puts (entries_without removes es)
    → record { entries = new; disabled = d } ≡ routes_after changes (record { entries = es; disabled = d })
unfolding routes_after
seen_changed changes d removes puts es new gone put e = λ i. record {
  entries = (e ∙ (λ j. entries_with (put j) (entries_without (gone j) es))) i;
  disabled = d;
}

pub seen_dropped : (d f : Families) (es new : List (Destination × PathValue)) → new ≡ entries_outside f es
    → record { entries = new; disabled = union d f } ≡ routes_without f (record { entries = es; disabled = d })
unfolding routes_without
seen_dropped d f es new e = λ i. record { entries = e i; disabled = union d f }

-- what is disabled has nothing to lose
or_true : (b : Bool) → (b || true) ≡ true
or_true true = refl
or_true false = refl

or_false : (b : Bool) → b ≡ (b || false)
or_false true = refl
or_false false = refl

union_has : (d : Families) (f : Family) → contains d f ≡ true → d ≡ union d (only f)
union_has d V4 has = λ i. record { v4 = (has ∙ sym (or_true d.v4)) i; v6 = or_false d.v6 i }
union_has d V6 has = λ i. record { v4 = or_false d.v4 i; v6 = (has ∙ sym (or_true d.v6)) i }

only_is : (f g : Family) → contains (only f) g ≡ true → g ≡ f
only_is V4 V4 e = refl
only_is V4 V6 e = absurd cc
only_is V6 V4 e = absurd cc
only_is V6 V6 e = refl

not_both : {b : Bool} → b ≡ true → b ≡ false → ⊥
not_both h k = absurd cc

nothing_by : {V : Type 0} (d : Families) (f : Family) (e : Destination × V) (es : List (Destination × V)) (b : Bool) → contains (only f) e.0.prefix.family ≡ b
    → contains d f ≡ true → IsFalse (contains d e.0.prefix.family) → es ≡ entries_outside (only f) es → e ∷ es ≡ entries_outside (only f) (e ∷ es)
nothing_by d f e es true t has off more = absurd (not_both (ap (contains d) (only_is f e.0.prefix.family t) ∙ has) off)
nothing_by {V} d f e es false t has off more = rw t (ap (λ (l : List (Destination × V)). e ∷ l) more)

nothing_left : {V : Type 0} (d : Families) (f : Family) (es : List (Destination × V)) → contains d f ≡ true → AreOutside d (keys_of es) → es ≡ entries_outside (only f) es
nothing_left d f [] has h = refl
nothing_left d f (e ∷ es) has h =
    nothing_by d f e es (contains (only f) e.0.prefix.family) refl has (All-head (λ p. IsFalse (contains d p.prefix.family)) e.0 (keys_of es) h)
    (nothing_left d f es has (All-tail (λ p. IsFalse (contains d p.prefix.family)) e.0 (keys_of es) h))

pub disabled_before : (d : Families) (f : Family) (es : List (Destination × PathValue)) → contains d f ≡ true → AreOutside d (keys_of es)
    → record { entries = es; disabled = d } ≡ routes_without (only f) (record { entries = es; disabled = d })
unfolding routes_without
disabled_before d f es has h = λ i. record { entries = nothing_left d f es has h i; disabled = union_has d f has i }
