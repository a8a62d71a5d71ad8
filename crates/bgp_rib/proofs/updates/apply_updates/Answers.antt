use Rattle.std.proofs.Common.{map, sym, subst, ap, ◌∙◌}
use Rattle.std.proofs.Math.Logic.{⊎_elim}
use Rattle.std.proofs.lemmas.List.Elements.{All-nil}
use Rattle.std.specs.Map.{keys_of}
use Rattle.bgp_rib.specs.DestinationOrder.{destination_cmp}
use Rattle.bgp_rib.specs.Rooms.{routes_in, route_to, undone, HasRoom, HasEach}
use Rattle.bgp_rib.specs.Routes.{AreOutside, entries_outside}
use Rattle.bgp_rib.specs.Updates.{applied_value, after_updates, removed_by}
use Rattle.bgp_rib.proofs.MapLaws.{one_map}
use Rattle.bgp_rib.proofs.DestinationKeys.{destinations_total, exact_destinations}
use Rattle.bgp_rib.proofs.RoomLemmas.{found_route, ordered_routes}
use Rattle.bgp_rib.proofs.RouteLemmas.{outside_own}
use Rattle.bgp_rib.proofs.Turns.{among}
use Rattle.bgp_rib.proofs.UpdateLaws.{outside_all}
use Rattle.bgp_rib.proofs.updates.apply_updates.Goals as goal

pub undo-requires : goal.undo-requires
undo-requires g c = record {
  noted = c.write_each.ensures.noted (subst (λ l. HasEach l c.args.table.now) (sym c.requires.unwritten) (All-nil _));
}

pub returns-in_default-clause-err : goal.returns-in_default-clause-err
returns-in_default-clause-err g c =
    let ds = c.args.table.now in
    let es = c.undo.new.table in
    one_map destinations_total exact_destinations (routes_in es) (routes_in ds)
    (ordered_routes destinations_total exact_destinations es c.undo.ensures.ordered)
    (ordered_routes destinations_total exact_destinations ds c.len.ensures.ordered)
    (λ q. found_route destinations_total exact_destinations q es c.undo.ensures.ordered
    ∙ c.undo.ensures.back q
    ∙ c.write_each.ensures.back q
    ∙ ap (λ l. undone l (route_to ds) q) c.requires.unwritten
    ∙ sym (found_route destinations_total exact_destinations q ds c.len.ensures.ordered))

pub drop_disabled-requires-clause-full : goal.drop_disabled-requires-clause-full
drop_disabled-requires-clause-full g c = λ q h.
    ⊎_elim (c.requires.full q)
    (λ t. among (λ p. HasRoom destination_cmp c.sweep_each.new.table p → ⊥) (removed_by (map applied_value c.args.updates.now)) q c.sweep_each.ensures.swept t h)
    (c.in-Ok.ensures.rooms q (c.sweep_each.ensures.rooms q h))

pub drop_disabled-requires-clause-outside : goal.drop_disabled-requires-clause-outside
drop_disabled-requires-clause-outside g c =
    subst (λ l. AreOutside c.args.disabled (keys_of l)) (sym c.sweep_each.ensures.same) (c.in-Ok.ensures.outside c.requires.outside)

pub returns-clause-ok : goal.returns-clause-ok
returns-clause-ok g c =
    let after = c.in-Ok.after in
    let left = c.drop_disabled.ensures.routes ∙ ap (entries_outside after) c.sweep_each.ensures.same in
    let before = outside_all c.args.disabled (routes_in c.args.table.now) c.requires.outside in
    (λ i. record { entries = left i; disabled = after })
    ∙ c.in-Ok.ensures.routes
    ∙ (λ i. after_updates (map applied_value c.args.updates.now) (record { entries = before i; disabled = c.args.disabled }))

pub returns-clause-outside : goal.returns-clause-outside
returns-clause-outside g c =
    subst (λ l. AreOutside c.in-Ok.after (keys_of l)) (sym c.drop_disabled.ensures.routes)
    (outside_own c.in-Ok.after (routes_in c.sweep_each.new.table))
