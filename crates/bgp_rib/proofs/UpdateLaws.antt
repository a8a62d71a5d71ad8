-- UPDATEs one after another.
use Rattle.std.proofs.Common.{◌≡◌, ℕ, ◌+◌, ◌<◌, ◌++◌, ◌||◌, Bool, true, false, not, List, [], ◌∷◌, IsFalse, length, take, get_or, map, refl, sym, ap, ◌∙◌}
use Rattle.std.proofs.lemmas.List.{map-append}
use Rattle.std.proofs.lemmas.List.Concat.{flat_map-append}
use Rattle.std.proofs.lemmas.List.Elements.{All-nil, All-cons, All-head, All-tail}
use Rattle.std.proofs.lemmas.List.Folds.{list_any-append}
use Rattle.std.specs.List.Sorted.{IsStrictlySortedBy}
use Rattle.std.specs.Map.{keys_of}
use Rattle.std.specs.Set.{is_member}
use Rattle.bgp_prefix.specs.declared.family.Family.{Family}
use Rattle.bgp_update.specs.declared.destination.Destination.{Destination}
use Rattle.bgp_rib.specs.DestinationOrder.{destination_cmp, destination_eq}
use Rattle.bgp_update.specs.DeclaredFamilies.{Families}
use Rattle.bgp_update.specs.Families.{contains, union}
use Rattle.bgp_path.specs.Path.{PathValue}
use Rattle.bgp_update.specs.Changes.{RouteChanges}
use Rattle.bgp_rib.specs.declared.updates.Applied.{Applied}
use Rattle.bgp_rib.specs.Routes.{Routes, AreOutside, entry_of, entries_outside, entries_with, entries_without, no_routes, routes_after, routes_without}
use Rattle.bgp_rib.specs.Updates.{AppliedUpdate, applied_value, after_update, after_updates, removed_by}
use Rattle.bgp_rib.proofs.RouteLaws.{outside_union, outside_change}
use Rattle.bgp_rib.proofs.RouteLemmas.{in_union, outside_none, outside_own, kept_keys, with_keys}
use Rattle.bgp_rib.proofs.Turns.{taken_more}

pub joined : (updates others : List AppliedUpdate) (routes : Routes)
    → after_updates (updates ++ others) routes ≡ after_updates others (after_updates updates routes)
joined [] others routes = refl
joined (update ∷ updates) others routes = joined updates others (after_update update routes)

or_false : (b : Bool) → (b || false) ≡ b
or_false true = refl
or_false false = refl

or_itself : (b : Bool) → (b || b) ≡ b
or_itself true = refl
or_itself false = refl

pub none_disabled : (changes : RouteChanges) (routes : Routes)
    → after_updates (record { changes = changes; disabled = no_routes.disabled } ∷ []) routes ≡ routes_after changes routes
unfolding routes_without routes_after
none_disabled changes routes = λ i. record {
  entries = outside_none (entries_with (entries_outside routes.disabled (map entry_of changes.put)) (entries_without changes.remove routes.entries)) i;
  disabled = record { v4 = or_false routes.disabled.v4 i; v6 = or_false routes.disabled.v6 i };
}

union_itself : (d : Families) → union d d ≡ d
union_itself d = λ i. record { v4 = or_itself d.v4 i; v6 = or_itself d.v6 i }

-- a change to a table that has routes of disabled families too: it is seen without them as the change of what was seen
pub change_seen : (d f : Families) (changes : RouteChanges) (es new : List (Destination × PathValue)) → IsStrictlySortedBy destination_cmp (keys_of es)
    → new ≡ entries_with (entries_outside d (map entry_of changes.put)) (entries_without changes.remove es)
    → record { entries = entries_outside (union d f) new; disabled = union d f }
    ≡ routes_without f (routes_after changes (record { entries = entries_outside d es; disabled = d }))
unfolding routes_without routes_after
change_seen d f changes es new s e =
    let puts = map entry_of changes.put in
    let seen : entries_outside d new ≡ entries_with (entries_outside d puts) (entries_without changes.remove (entries_outside d es)) =
    ap (entries_outside d) e ∙ outside_change d d changes.remove puts es s
    ∙ (λ i. entries_with (entries_outside (union_itself d i) puts) (entries_without changes.remove (entries_outside d es))) in
    let entries = sym (outside_union d f new) ∙ ap (entries_outside f) seen in
    λ i. record { entries = entries i; disabled = union d f }

-- one UPDATE more
pub update_more : {X : Type 0} (us : List (Applied X)) (i : ℕ) (u : Applied X) (routes : Routes) → i < length us → u ≡ get_or us i u
    → after_update (applied_value u) (after_updates (map applied_value (take i us)) routes) ≡ after_updates (map applied_value (take (i + 1) us)) routes
update_more us i u routes lt is =
    sym (ap (λ l. after_updates (map applied_value l) routes) (taken_more us i u lt is)
    ∙ ap (λ l. after_updates l routes) (map-append applied_value (take i us) (u ∷ []))
    ∙ joined (map applied_value (take i us)) (applied_value u ∷ []) routes)

append_none : {X : Type 0} (xs : List X) → xs ++ [] ≡ xs
append_none [] = refl
append_none {X} (x ∷ xs) = ap (λ (l : List X). x ∷ l) (append_none xs)

pub removed_more : {X : Type 0} (us : List (Applied X)) (i : ℕ) (u : Applied X) → i < length us → u ≡ get_or us i u
    → removed_by (map applied_value (take i us)) ++ u.changes.remove.items ≡ removed_by (map applied_value (take (i + 1) us))
removed_more us i u lt is =
    sym (ap (λ l. removed_by (map applied_value l)) (taken_more us i u lt is)
    ∙ ap removed_by (map-append applied_value (take i us) (u ∷ []))
    ∙ flat_map-append (λ (a : AppliedUpdate). a.changes.remove) (map applied_value (take i us)) (applied_value u ∷ [])
    ∙ ap (λ l. removed_by (map applied_value (take i us)) ++ l) (append_none u.changes.remove.items))

either_true : (a b : Bool) → b ≡ true → (a || b) ≡ true
either_true true b e = refl
either_true false b e = e

-- a destination that is among some is among more
pub member_before : (ps qs : List Destination) (q : Destination) → is_member destination_eq ps q ≡ true → is_member destination_eq (ps ++ qs) q ≡ true
member_before ps qs q t = rw (list_any-append (destination_eq q) ps qs, t) refl

pub member_after : (ps qs : List Destination) (q : Destination) → is_member destination_eq qs q ≡ true → is_member destination_eq (ps ++ qs) q ≡ true
member_after ps qs q t = list_any-append (destination_eq q) ps qs ∙ either_true (is_member destination_eq ps q) (is_member destination_eq qs q) t

-- what is outside more families is outside fewer
not_either : (a b : Bool) → (a || b) ≡ false → a ≡ false
not_either true b e = absurd cc
not_either false b e = refl

pub within_union : (d f : Families) (g : Family) → IsFalse (contains (union d f) g) → IsFalse (contains d g)
within_union d f g h = not_either (contains d g) (contains f g) (sym (in_union d f g) ∙ h)

fewer : {V : Type 0} (d f : Families) (es : List (Destination × V)) → ((g : Family) → IsFalse (contains f g) → IsFalse (contains d g))
    → AreOutside f (keys_of es) → AreOutside d (keys_of es)
fewer d f [] within h = All-nil _
fewer d f (e ∷ es) within h =
    All-cons (λ p. IsFalse (contains d p.prefix.family)) e.0 (keys_of es) (within e.0.prefix.family (All-head (λ p. IsFalse (contains f p.prefix.family)) e.0 (keys_of es) h))
    (fewer d f es within (All-tail (λ p. IsFalse (contains f p.prefix.family)) e.0 (keys_of es) h))

pub change_within : {V : Type 0} (d f : Families) (ps : List Destination) (puts es : List (Destination × V)) → ((g : Family) → IsFalse (contains f g) → IsFalse (contains d g))
    → AreOutside d (keys_of es) → AreOutside d (keys_of (entries_with (entries_outside f puts) (entries_without ps es)))
change_within d f ps puts es within h =
    with_keys (λ p. IsFalse (contains d p.prefix.family)) (entries_outside f puts) (entries_without ps es) (fewer d f (entries_outside f puts) within (outside_own f puts))
    (kept_keys (λ p. IsFalse (contains d p.prefix.family)) (λ p. not (is_member destination_eq ps p)) es h)

-- what is outside has nothing to lose
pub outside_all : {V : Type 0} (d : Families) (es : List (Destination × V)) → AreOutside d (keys_of es) → entries_outside d es ≡ es
outside_all d [] h = refl
outside_all {V} d (e ∷ es) h =
    rw (All-head (λ p. IsFalse (contains d p.prefix.family)) e.0 (keys_of es) h)
    (ap (λ (l : List (Destination × V)). e ∷ l) (outside_all d es (All-tail (λ p. IsFalse (contains d p.prefix.family)) e.0 (keys_of es) h)))
