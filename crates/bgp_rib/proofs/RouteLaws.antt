-- The laws of incoming routes.
use Rattle.std.proofs.Common.{◌≡◌, ◌||◌, Bool, true, false, not, cond, List, Option, None, IsFalse, filter, map, refl, sym, ap, subst, ◌∙◌}
use Rattle.std.specs.Bool.{Decides}
use Rattle.std.proofs.lemmas.Bool.Decides.{Decides-and}
use Rattle.std.proofs.lemmas.List.Elements.{All-nil}
use Rattle.std.proofs.lemmas.Map.Entries.{lookup-filter-keys}
use Rattle.std.specs.BTreeMap.{is_at}
use Rattle.std.specs.Cmp.{Equal-is, booleans_Decides}
use Rattle.std.specs.Cmp.Lexicographic.{pointwise_decides}
use Rattle.std.specs.List.Sorted.{IsStrictlySortedBy}
use Rattle.std.specs.Map.{lookup, keys_of, update_all}
use Rattle.std.specs.Ordering.{eq_by_cmp}
use Rattle.std.specs.Set.{is_member}
use Rattle.bgp_update.specs.declared.destination.Destination.{Destination}
use Rattle.bgp_rib.specs.DestinationOrder.{destination_cmp, destination_eq}
use Rattle.bgp_update.specs.DeclaredFamilies.{Families}
use Rattle.bgp_update.specs.Families.{contains, union}
use Rattle.bgp_path.specs.Path.{PathValue}
use Rattle.bgp_path.specs.SamePathLaws.{same_value_decides}
use Rattle.bgp_update.specs.Changes.{RouteChanges}
use Rattle.bgp_rib.specs.Routes.{Routes, AreRoutes, path_to, entry_of, entries_outside, entries_with, entries_without, no_routes, routes_after, routes_without}
use Rattle.bgp_rib.specs.SameRoutes.{same_families, same_entry, same_routes}
use Rattle.bgp_rib.proofs.MapLaws.{filter_filter, filter_congr, filter_ordered, puts_ordered, filter_puts, found_puts, one_map}
use Rattle.bgp_rib.proofs.DestinationKeys.{destinations_total, exact_destinations, same_tie, same_itself, equal_destinations}
use Rattle.bgp_rib.proofs.RouteLemmas.{in_union, change_outside, outside_both}

-- a look-up in what a test of the destinations keeps
found_kept : {V : Type 0} (p : Destination → Bool) (q : Destination) (es : List (Destination × V))
    → lookup (is_at (destination_cmp q)) (filter (λ e. p e.0) es) ≡ cond (p q) (lookup (is_at (destination_cmp q)) es) None
found_kept p q es = lookup-filter-keys (is_at (destination_cmp q)) p (p q) (λ k t. ap p (sym (exact_destinations q k ((Equal-is _).0 t)))) es

turn_not : {X : Type 0} (b : Bool) (x y : X) → cond (not b) x y ≡ cond b y x
turn_not true x y = refl
turn_not false x y = refl

tie_same : (p q : Destination) → eq_by_cmp destination_cmp p q ≡ destination_eq p q
tie_same p q = sym (same_tie p q)

pub changed : (changes : RouteChanges) (routes : Routes) (destination : Destination)
    → path_to (routes_after changes routes) destination
    ≡ update_all destination_eq (λ p. cond (is_member destination_eq changes.remove p) None (path_to routes p)) (entries_outside routes.disabled (map entry_of changes.put)) destination
unfolding routes_after
changed changes routes destination =
    let puts = entries_outside routes.disabled (map entry_of changes.put) in
    let gone = λ (p : Destination). is_member destination_eq changes.remove p in
    let before : Destination → Option PathValue = λ p. cond (gone p) None (path_to routes p) in
    found_puts destinations_total exact_destinations puts (entries_without changes.remove routes.entries) before
    (λ q. found_kept (λ p. not (gone p)) q routes.entries ∙ turn_not (gone q) (path_to routes q) None) destination
    ∙ (λ i. update_all (λ x y. tie_same x y i) before puts destination)

pub disabled : (families : Families) (routes : Routes) (destination : Destination)
    → path_to (routes_without families routes) destination ≡ cond (contains families destination.prefix.family) None (path_to routes destination)
unfolding routes_without
disabled families routes destination =
    found_kept (λ p. not (contains families p.prefix.family)) destination routes.entries
    ∙ turn_not (contains families destination.prefix.family) (path_to routes destination) None

pub one : (routes others : Routes) → AreRoutes routes → AreRoutes others → ((destination : Destination) → path_to routes destination ≡ path_to others destination)
    → routes.disabled ≡ others.disabled → routes ≡ others
one routes others r s h d =
    let same = one_map destinations_total exact_destinations routes.entries others.entries r.ordered s.ordered h in
    λ i. record { entries = same i; disabled = d i }

pub none_are : AreRoutes no_routes
unfolding IsStrictlySortedBy
none_are = record { ordered = tt; enabled = All-nil (λ p. IsFalse (contains (record { v4 = false; v6 = false }) p.prefix.family)) }

pub changed_are : (changes : RouteChanges) (routes : Routes) → AreRoutes routes → AreRoutes (routes_after changes routes)
unfolding routes_after
changed_are changes routes r = record {
  ordered = puts_ordered destinations_total exact_destinations (entries_outside routes.disabled (map entry_of changes.put)) (entries_without changes.remove routes.entries)
      (filter_ordered destinations_total exact_destinations (λ p. not (is_member destination_eq changes.remove p)) routes.entries r.ordered);
  enabled = change_outside routes.disabled changes.remove (map entry_of changes.put) routes.entries r.enabled;
}

pub disabled_are : (families : Families) (routes : Routes) → AreRoutes routes → AreRoutes (routes_without families routes)
unfolding routes_without
disabled_are families routes r = record {
  ordered = filter_ordered destinations_total exact_destinations (λ p. not (contains families p.prefix.family)) routes.entries r.ordered;
  enabled = outside_both routes.disabled families routes.entries r.enabled;
}

-- two sets of families, one behind the other
neither : (a b : Bool) → cond (not a) (not b) false ≡ not (a || b)
neither true b = refl
neither false b = refl

pub outside_union : {V : Type 0} (a b : Families) (es : List (Destination × V)) → entries_outside b (entries_outside a es) ≡ entries_outside (union a b) es
outside_union {V} a b es =
    filter_filter (λ e. not (contains b e.0.prefix.family)) (λ e. not (contains a e.0.prefix.family)) es
    ∙ filter_congr (λ e. cond (not (contains a e.0.prefix.family)) (not (contains b e.0.prefix.family)) false) (λ e. not (contains (union a b) e.0.prefix.family)) es
    (λ (e : Destination × V). neither (contains a e.0.prefix.family) (contains b e.0.prefix.family) ∙ ap not (sym (in_union a b e.0.prefix.family)))

exchanged : (a b : Bool) → cond (not a) (not b) false ≡ cond (not b) (not a) false
exchanged true true = refl
exchanged true false = refl
exchanged false true = refl
exchanged false false = refl

outside_gone : {V : Type 0} (f : Families) (ps : List Destination) (es : List (Destination × V))
    → entries_outside f (entries_without ps es) ≡ entries_without ps (entries_outside f es)
outside_gone {V} f ps es =
    filter_filter (λ e. not (contains f e.0.prefix.family)) (λ e. not (is_member destination_eq ps e.0)) es
    ∙ filter_congr _ _ es (λ (e : Destination × V). exchanged (is_member destination_eq ps e.0) (contains f e.0.prefix.family))
    ∙ sym (filter_filter (λ e. not (is_member destination_eq ps e.0)) (λ e. not (contains f e.0.prefix.family)) es)

assoc : (a b c : Bool) → ((a || b) || c) ≡ (a || (b || c))
assoc true b c = refl
assoc false b c = refl

union_assoc : (a b c : Families) → union (union a b) c ≡ union a (union b c)
union_assoc a b c = λ i. record { v4 = assoc a.v4 b.v4 c.v4 i; v6 = assoc a.v6 b.v6 c.v6 i }

-- the families of a change's result
pub outside_change : (f : Families) (d : Families) (ps : List Destination) (puts es : List (Destination × PathValue)) → IsStrictlySortedBy destination_cmp (keys_of es)
    → entries_outside f (entries_with (entries_outside d puts) (entries_without ps es))
    ≡ entries_with (entries_outside (union d f) puts) (entries_without ps (entries_outside f es))
outside_change f d ps puts es s =
    filter_puts destinations_total exact_destinations (λ p. not (contains f p.prefix.family)) (entries_outside d puts) (entries_without ps es)
    (filter_ordered destinations_total exact_destinations (λ p. not (is_member destination_eq ps p)) es s)
    ∙ (λ i. entries_with (outside_union d f puts i) (outside_gone f ps es i))

pub left_out : (changes : RouteChanges) (families others : Families) (routes : Routes) → AreRoutes routes
    → routes_without others (routes_after changes (routes_without families routes))
    ≡ routes_without (union families others) (routes_after changes routes)
unfolding routes_after routes_without
left_out changes families others routes r =
    let d = routes.disabled in
    let puts = map entry_of changes.put in
    let es = routes.entries in
    let seen = entries_outside families es in
    let one_side = outside_change others (union d families) changes.remove puts seen
    (filter_ordered destinations_total exact_destinations (λ p. not (contains families p.prefix.family)) es r.ordered) in
    let other_side = outside_change (union families others) d changes.remove puts es r.ordered in
    let between : entries_with (entries_outside (union (union d families) others) puts) (entries_without changes.remove (entries_outside others seen)) ≡ entries_with (entries_outside (union d (union families others)) puts) (entries_without changes.remove (entries_outside (union families others) es)) =
    λ i. entries_with (entries_outside (union_assoc d families others i) puts) (entries_without changes.remove (outside_union families others es i)) in
    let entries = one_side ∙ between ∙ sym other_side in
    λ i. record { entries = entries i; disabled = union_assoc d families others i }

-- equality
families_decide : (a b : Families) → Decides (same_families a b) (a ≡ b)
families_decide a b =
    let both = Decides-and _ _ (booleans_Decides a.v4 b.v4) (booleans_Decides a.v6 b.v6) in
    (λ e. let p = both.0 e in λ i. record { v4 = p.0 i; v6 = p.1 i }, λ e. both.1 (λ i. (e i).v4, λ i. (e i).v6))

entry_decides : (a b : Destination × PathValue) → Decides (same_entry a b) (a ≡ b)
entry_decides a b =
    let keys : Decides (destination_eq a.0 b.0) (a.0 ≡ b.0) = (equal_destinations a.0 b.0, λ e. subst (λ z. destination_eq a.0 z ≡ true) e (same_itself a.0)) in
    let both = Decides-and _ _ keys (same_value_decides a.1 b.1) in
    (λ e. let p = both.0 e in λ i. (p.0 i, p.1 i), λ e. both.1 (λ i. (e i).0, λ i. (e i).1))

pub routes_decide : (a b : Routes) → Decides (same_routes a b) (a ≡ b)
routes_decide a b =
    let both = Decides-and _ _ (families_decide a.disabled b.disabled) (pointwise_decides entry_decides a.entries b.entries) in
    (λ e. let p = both.0 e in λ i. record { entries = p.1 i; disabled = p.0 i }, λ e. both.1 (λ i. (e i).disabled, λ i. (e i).entries))
