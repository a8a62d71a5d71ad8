use Rattle.std.proofs.Common.{Some, ap, subst, sym, ◌∙◌}
use Rattle.std.specs.Option.{option_copied}
use Rattle.bgp_rib.specs.DestinationOrder.{destination_cmp}
use Rattle.bgp_rib.specs.Rooms.{routes_in, HasRoom}
use Rattle.bgp_rib.proofs.DestinationKeys.{destinations_total, exact_destinations}
use Rattle.bgp_rib.proofs.RoomLemmas.{cut_gone, cut_room, swept}
use Rattle.bgp_rib.proofs.writing.sweep.Goals as goal

pub returns-in-Some-None-clause-same : goal.returns-in-Some-None-clause-same
returns-in-Some-None-clause-same g c =
    ap routes_in c.remove.ensures
    ∙ swept destinations_total exact_destinations c.args.destination.now c.args.table.now
    (sym c.get.ensures ∙ ap option_copied c.in-Some-None.is ∙ ap Some c.in-Some-None.field-0-is)

pub returns-in-Some-None-clause-rooms : goal.returns-in-Some-None-clause-rooms
returns-in-Some-None-clause-rooms g c = λ q h.
    cut_room destinations_total exact_destinations c.args.destination.now q c.args.table.now c.len.ensures.ordered
    (subst (λ l. HasRoom destination_cmp l q) c.remove.ensures h)

pub returns-in-Some-None-clause-swept : goal.returns-in-Some-None-clause-swept
returns-in-Some-None-clause-swept g c = λ h.
    cut_gone destinations_total exact_destinations c.args.destination.now c.args.table.now c.len.ensures.ordered
    (subst (λ l. HasRoom destination_cmp l c.args.destination.now) c.remove.ensures h)
