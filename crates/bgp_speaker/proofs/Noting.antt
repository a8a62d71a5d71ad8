-- One UPDATE more that is to be applied.
use Rattle.std.proofs.Common.{◌≡◌, List, [], ◌∷◌, ◌++◌, map, refl, ap, ◌∙◌, if◌then◌else◌}
use Rattle.bgp_machine.specs.State.{routes_by}
use Rattle.bgp_machine.specs.Listed.{routes_turn}
use Rattle.bgp_machine.specs.declared.step.Routes.TheVariants as turns
use Rattle.bgp_rib.specs.declared.updates.Applied.{Applied}
use Rattle.bgp_rib.specs.Routes.{Routes, no_routes, routes_after, routes_without}
use Rattle.bgp_rib.specs.Updates.{after_update, after_updates, applied_value}
use Rattle.bgp_update.specs.Allowed.{changes_value}
use Rattle.bgp_update.specs.Changes.{RouteChanges}
use Rattle.bgp_speaker.specs.declared.pending.Pending.{Pending}
use Rattle.bgp_speaker.specs.Pending.{routes_pending}

each_more : {X : Type 0} (xs : List (Applied X)) (x : Applied X) (routes : Routes)
    → after_updates (map applied_value (xs ++ (x ∷ []))) routes ≡ after_update (applied_value x) (after_updates (map applied_value xs) routes)
each_more [] x routes = refl
each_more (y ∷ ys) x routes = each_more ys x (after_update (applied_value y) routes)

pub one_more_noted : {X : Type 0} (old : Pending X) (items : List (Applied X)) (x : Applied X) (changes : RouteChanges) (routes : Routes)
    → items ≡ old.updates.items ++ (x ∷ []) → changes_value x.changes ≡ changes
    → after_updates (map applied_value items) (if old.is_cleared then no_routes else routes) ≡ routes_by (routes_turn changes (turns.Given x.disabled)) (routes_pending old routes)
one_more_noted {X} old items x changes routes now is =
    let base : Routes = if old.is_cleared then no_routes else routes in
    ap (λ (v : List (Applied X)). after_updates (map applied_value v) base) now
    ∙ (each_more old.updates.items x base
    ∙ ap (λ (v : RouteChanges). routes_without x.disabled (routes_after v (after_updates (map applied_value old.updates.items) base))) is)
