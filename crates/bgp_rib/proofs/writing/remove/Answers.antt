use Rattle.std.proofs.Common.{ap, subst, ◌∙◌}
use Rattle.bgp_rib.specs.DestinationOrder.{destination_cmp}
use Rattle.bgp_rib.specs.Rooms.{routes_in, HasRoom}
use Rattle.bgp_rib.proofs.DestinationKeys.{destinations_total, exact_destinations, without_one}
use Rattle.bgp_rib.proofs.RoomLemmas.{cut_room, taken}
use Rattle.bgp_rib.proofs.writing.remove.Goals as goal

pub returns-clause-routes : goal.returns-clause-routes
returns-clause-routes g c =
    let es = c.args.table.now in
    ap routes_in c.remove.ensures
    ∙ taken destinations_total exact_destinations c.args.destination.now es c.len.ensures.ordered
    ∙ without_one c.args.destination.now (routes_in es)

pub returns-clause-rooms : goal.returns-clause-rooms
returns-clause-rooms g c = λ q h.
    cut_room destinations_total exact_destinations c.args.destination.now q c.args.table.now c.len.ensures.ordered
    (subst (λ l. HasRoom destination_cmp l q) c.remove.ensures h)
