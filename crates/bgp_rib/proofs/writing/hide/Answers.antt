use Rattle.std.proofs.Common.{ap, inl, subst, sym, ◌∙◌}
use Rattle.bgp_rib.specs.DestinationOrder.{destination_cmp}
use Rattle.bgp_rib.specs.Rooms.{routes_in, HasRoom}
use Rattle.bgp_rib.proofs.DestinationKeys.{destinations_total, exact_destinations, without_one}
use Rattle.bgp_rib.proofs.RoomLemmas.{shadowed, spared, absent_from}
use Rattle.bgp_rib.proofs.Turns.{either, on_both}
use Rattle.bgp_rib.proofs.Undoing.{hid_room}
use Rattle.bgp_rib.proofs.writing.hide.Goals as goal

pub returns-then-not-contains-clause-hidden : goal.returns-then-not-contains-clause-hidden
returns-then-not-contains-clause-hidden g c =
    sym (spared destinations_total exact_destinations c.args.destination.now c.args.table.now (absent_from _ _ c.if-not-contains.true c.contains.ensures))
    ∙ without_one c.args.destination.now (routes_in c.args.table.now)

pub returns-clause-hidden : goal.returns-clause-hidden
returns-clause-hidden g c =
    on_both c.write.result c.write.ensures.entries c.write.ensures.ordered
    (λ e s. ap routes_in e
    ∙ shadowed destinations_total exact_destinations c.args.destination.now c.args.table.now s
    ∙ without_one c.args.destination.now (routes_in c.args.table.now))

pub returns-clause-rooms : goal.returns-clause-rooms
returns-clause-rooms g c = λ q h.
    either c.write.result c.write.ensures.entries c.write.ensures.err
    (λ e. hid_room c.args.table.now c.args.destination.now c.write.new.table e q h)
    (λ e. inl (subst (λ l. HasRoom destination_cmp l q) e h))
