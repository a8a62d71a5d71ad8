use Rattle.std.proofs.Common.{◌≡◌, ◌∷◌, [], Some, ap, sym, subst, ◌∙◌, rules}
use Rattle.bgp_rib.specs.DestinationOrder.{destination_cmp}
use Rattle.bgp_rib.specs.Rooms.{routes_in, HasRoom}
use Rattle.bgp_rib.specs.Routes.{entries_outside, entries_with}
use Rattle.bgp_rib.proofs.DestinationKeys.{destinations_total, exact_destinations}
use Rattle.bgp_rib.proofs.RoomLemmas.{put_in, unfilled}
use Rattle.bgp_rib.proofs.RouteLemmas.{put_alone, left_alone}
use Rattle.bgp_rib.proofs.Turns.{either, on_both}
use Rattle.bgp_rib.proofs.Undoing.{put_writes}
use Rattle.bgp_rib.proofs.applying.put_route.Goals as goal

pub returns-then-contains-clause-routes : goal.returns-then-contains-clause-routes
returns-then-contains-clause-routes g c =
    left_alone c.args.disabled c.args.path.now c.args.destination.now (routes_in c.args.table.now) (search rules)

pub returns-clause-routes : goal.returns-clause-routes
returns-clause-routes g c =
    let p = c.args.destination.now in
    let w = c.in_ok-clone.field-0 in
    let es = c.args.table.now in
    let same : w ≡ c.args.path.now = search rules in
    on_both c.write.result c.write.ensures.entries c.write.ensures.ordered
    (λ e s. ap routes_in e
    ∙ put_in destinations_total exact_destinations p w es s
    ∙ put_alone c.args.disabled w p (routes_in es) (search rules)
    ∙ ap (λ x. entries_with (entries_outside c.args.disabled ((p, x) ∷ [])) (routes_in es)) same)

pub returns-clause-rooms : goal.returns-clause-rooms
returns-clause-rooms g c = λ q h.
    either c.write.result c.write.ensures.entries c.write.ensures.err
    (λ e. unfilled _ c.in_ok-clone.field-0 _ (sym (put_writes c.args.table.now c.args.destination.now (Some c.in_ok-clone.field-0) c.write.new.table e q) ∙ h))
    (λ e. subst (λ l. HasRoom destination_cmp l q) e h)
