use Rattle.std.proofs.Common.{◌∙◌, ap, sym, subst}
use Rattle.bgp_rib.specs.DestinationOrder.{destination_cmp}
use Rattle.bgp_rib.specs.Rooms.{routes_in, HasNoRoom}
use Rattle.bgp_rib.proofs.DestinationKeys.{destinations_total, exact_destinations}
use Rattle.bgp_rib.proofs.RoomLemmas.{routed_kept, routed_full}
use Rattle.bgp_rib.proofs.writing.clear_room.Goals as goal

pub returns-clause-same : goal.returns-clause-same
returns-clause-same g c =
    ap routes_in c.clear_room.ensures.entries ∙ routed_kept destinations_total exact_destinations c.args.table.now

pub returns-clause-full : goal.returns-clause-full
returns-clause-full g c =
    subst (HasNoRoom destination_cmp) (sym c.clear_room.ensures.entries) (routed_full destinations_total exact_destinations c.args.table.now)
