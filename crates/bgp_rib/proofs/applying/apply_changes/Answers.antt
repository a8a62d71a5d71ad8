use Rattle.std.proofs.Common.{◌≡◌, true, sym, subst, ap, ◌∙◌}
use Rattle.std.proofs.Math.Logic.{⊎_elim}
use Rattle.std.proofs.lemmas.List.Elements.{All-nil}
use Rattle.std.specs.Set.{is_member}
use Rattle.bgp_rib.specs.DestinationOrder.{destination_cmp, destination_eq}
use Rattle.bgp_rib.specs.Rooms.{routes_in, route_to, undone, HasRoom, HasEach}
use Rattle.bgp_rib.proofs.MapLaws.{one_map}
use Rattle.bgp_rib.proofs.DestinationKeys.{destinations_total, exact_destinations}
use Rattle.bgp_rib.proofs.RoomLemmas.{found_route, ordered_routes}
use Rattle.bgp_rib.proofs.Turns.{among}
use Rattle.bgp_rib.proofs.applying.apply_changes.Goals as goal

pub undo-requires : goal.undo-requires
undo-requires g c = record {
  noted = c.write_all.ensures.noted (subst (λ l. HasEach l c.args.table.now) (sym c.requires.unwritten) (All-nil _));
}

pub returns-then-is_err-clause-err : goal.returns-then-is_err-clause-err
returns-then-is_err-clause-err g c =
    let ds = c.args.table.now in
    let es = c.undo.new.table in
    one_map destinations_total exact_destinations (routes_in es) (routes_in ds)
    (ordered_routes destinations_total exact_destinations es c.undo.ensures.ordered)
    (ordered_routes destinations_total exact_destinations ds c.len.ensures.ordered)
    (λ q. found_route destinations_total exact_destinations q es c.undo.ensures.ordered
    ∙ c.undo.ensures.back q
    ∙ c.write_all.ensures.back q
    ∙ ap (λ l. undone l (route_to ds) q) c.requires.unwritten
    ∙ sym (found_route destinations_total exact_destinations q ds c.len.ensures.ordered))

pub returns-clause-full : goal.returns-clause-full
returns-clause-full g c = λ q h.
    ⊎_elim (c.requires.full q)
    (λ t. among (λ p. HasRoom destination_cmp c.sweep_all.new.table p → ⊥) c.deref-2.result.now q c.sweep_all.ensures.swept
    (subst (λ ps. is_member destination_eq ps q ≡ true) (sym c.deref-2.ensures.value) t) h)
    (c.write_all.ensures.rooms q (c.sweep_all.ensures.rooms q h))
