-- What it is to disable several families, and to make no changes.
use Rattle.std.proofs.Common.{◌≡◌, ◌∙◌, ◌||◌, ◌⊎◌, inl, inr, Bool, true, false, cond, not, List, refl, ap, sym}
use Rattle.bgp_open.specs.Family.TheVariants.{V4, V6}
use Rattle.bgp_rib.specs.Destination.{Destination}
use Rattle.bgp_open.specs.declared.families.Families.{Families}
use Rattle.bgp_open.specs.Families.{contains, union}
use Rattle.bgp_rib.specs.Routes.{Routes, entries_outside, only, routes_after, routes_without}
use Rattle.bgp_rib.proofs.MapLaws.{filter_filter, filter_congr}
use Rattle.bgp_rib.proofs.DestinationKeys.{without_none}
use Rattle.bgp_rib.proofs.RouteLemmas.{outside_none, in_union}
use Rattle.bgp_machine.specs.Listed.{no_changes}

or_false : (b : Bool) → (b || false) ≡ b
or_false true = refl
or_false false = refl

or_true : (b : Bool) → ((b || false) || true) ≡ (b || true)
or_true true = refl
or_true false = refl

neither : (a b : Bool) → cond (not a) (not b) false ≡ not (a || b)
neither true b = refl
neither false b = refl

outside_union : {V : Type 0} (a b : Families) (es : List (Destination × V)) → entries_outside b (entries_outside a es) ≡ entries_outside (union a b) es
outside_union {V} a b es =
    filter_filter (λ e. not (contains b e.0.prefix.family)) (λ e. not (contains a e.0.prefix.family)) es
    ∙ filter_congr (λ e. cond (not (contains a e.0.prefix.family)) (not (contains b e.0.prefix.family)) false) (λ e. not (contains (union a b) e.0.prefix.family)) es
    (λ (e : Destination × V). neither (contains a e.0.prefix.family) (contains b e.0.prefix.family) ∙ ap not (sym (in_union a b e.0.prefix.family)))

-- no family is disabled
pub without_no_family : (routes : Routes) → routes_without (record { v4 = false; v6 = false }) routes ≡ routes
unfolding routes_without
without_no_family routes = λ i. record {
  entries = outside_none routes.entries i;
  disabled = record { v4 = or_false routes.disabled.v4 i; v6 = or_false routes.disabled.v6 i };
}

-- one after the other is both
pub without_both : (routes : Routes) → routes_without (only V6) (routes_without (only V4) routes) ≡ routes_without (record { v4 = true; v6 = true }) routes
unfolding routes_without
without_both routes = λ i. record {
  entries = outside_union (only V4) (only V6) routes.entries i;
  disabled = record { v4 = or_false (routes.disabled.v4 || true) i; v6 = or_true routes.disabled.v6 i };
}

-- no changes are made
pub after_no_changes : (routes : Routes) → routes_after no_changes routes ≡ routes
unfolding routes_after
after_no_changes routes = λ i. record routes { entries = without_none routes.entries i }

-- families are disabled one after the other, each where it is in the set
pub disabled_each : (a b : Bool) (routes first both : Routes)
    → ((a ≡ true) × (first ≡ routes_without (only V4) routes)) ⊎ ((a ≡ false) × (first ≡ routes))
    → ((b ≡ true) × (both ≡ routes_without (only V6) first)) ⊎ ((b ≡ false) × (both ≡ first))
    → both ≡ routes_without (record { v4 = a; v6 = b }) routes
disabled_each true true routes first both (inl p) (inl q) = q.1 ∙ ap (routes_without (only V6)) p.1 ∙ without_both routes
disabled_each true false routes first both (inl p) (inr q) = q.1 ∙ p.1
disabled_each false true routes first both (inr p) (inl q) = q.1 ∙ ap (routes_without (only V6)) p.1
disabled_each false false routes first both (inr p) (inr q) = q.1 ∙ p.1 ∙ sym (without_no_family routes)
disabled_each true b routes first both (inr p) q = absurd (cc)
disabled_each false b routes first both (inl p) q = absurd (cc)
disabled_each a true routes first both p (inr q) = absurd (cc)
disabled_each a false routes first both p (inl q) = absurd (cc)
