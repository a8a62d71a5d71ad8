use Rattle.std.proofs.Common.{◌∙◌, Bool, not, ap, sym, subst}
use Rattle.bgp_update.specs.Families.{contains}
use Rattle.bgp_update.specs.declared.destination.Destination.{Destination}
use Rattle.bgp_rib.specs.DestinationOrder.{destination_cmp}
use Rattle.bgp_rib.specs.Rooms.{routes_in, HasNoRoom}
use Rattle.bgp_rib.proofs.DestinationKeys.{destinations_total, exact_destinations}
use Rattle.bgp_rib.proofs.RoomLemmas.{filtered_room, filtered_routes}
use Rattle.bgp_rib.proofs.writing.drop_families.Goals as goal

pub returns-clause-routes : goal.returns-clause-routes
returns-clause-routes g c =
    let p : Destination → Bool = λ (d : Destination). not (contains c.args.families d.prefix.family) in
    ap routes_in c.clear_families.ensures ∙ filtered_routes destinations_total exact_destinations p c.args.table.now

pub returns-clause-full : goal.returns-clause-full
returns-clause-full g c =
    let p : Destination → Bool = λ (d : Destination). not (contains c.args.families d.prefix.family) in
    subst (HasNoRoom destination_cmp) (sym c.clear_families.ensures) (filtered_room destinations_total exact_destinations p c.args.table.now c.requires.full)
