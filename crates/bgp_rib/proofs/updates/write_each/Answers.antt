use Rattle.std.proofs.Common.{◌≡◌, ◌∙◌, true, IsFalse, inl, inr, map, take, refl, ap, sym, subst}
use Rattle.std.proofs.Math.Logic.{⊎_elim}
use Rattle.std.proofs.lemmas.List.{take_all}
use Rattle.std.specs.Map.{keys_of}
use Rattle.std.specs.Set.{is_member}
use Rattle.bgp_rib.specs.DestinationOrder.{destination_eq}
use Rattle.bgp_update.specs.DeclaredFamilies.{Families}
use Rattle.bgp_update.specs.Families.{contains}
use Rattle.bgp_update.specs.Allowed.{changes_value}
use Rattle.bgp_rib.specs.Rooms.{routes_in}
use Rattle.bgp_rib.specs.Routes.{AreOutside, entry_of}
use Rattle.bgp_rib.specs.Updates.{applied_value, after_update, removed_by, enabled_in}
use Rattle.bgp_rib.proofs.DestinationKeys.{destinations_total, exact_destinations}
use Rattle.bgp_rib.proofs.RoomLemmas.{ordered_routes}
use Rattle.bgp_rib.proofs.UpdateLaws.{change_seen, change_within, update_more, removed_more, member_before, member_after, within_union}
use Rattle.bgp_rib.proofs.updates.write_each.Goals as goal

pub loop-update-init : goal.loop-update-init
loop-update-init g c = record {
  routes = refl;
  within = λ f h. h;
  outside = λ h. h;
  rooms = λ q h. inl h;
  back = λ q. refl;
  noted = λ h. h;
}

pub returns-in_err-write_all-clause-noted : goal.returns-in_err-write_all-clause-noted
returns-in_err-write_all-clause-noted g c = λ h. c.write_all.ensures.noted (c.loop-update.invariant.noted h)

pub loop-update-preserved : goal.loop-update-preserved
loop-update-preserved g c =
    let us = c.args.updates.now in
    let i = c.loop-update.update-index in
    let u = c.update-item.result in
    let d = c.loop-update.after in
    let changes = changes_value u.changes in
    let ds = c.loop-update.table in
    let es = c.write_all.new.table in
    let removed = removed_by (map applied_value (take i us)) in
    let more = removed_more us i u c.loop-update-test.true c.update-item.is in
    record {
      routes = (λ j. enabled_in (c.union-after.ensures j) es)
          ∙ change_seen d u.disabled changes (routes_in ds) (routes_in es) (ordered_routes destinations_total exact_destinations ds c.len.ensures.ordered) c.in_ok-write_all.ensures.routes
          ∙ ap (after_update (applied_value u)) c.loop-update.invariant.routes
          ∙ update_more us i u (enabled_in c.args.disabled c.args.table.now) c.loop-update-test.true c.update-item.is;
      within = λ f h. c.loop-update.invariant.within f (within_union d u.disabled f (subst (λ (x : Families). IsFalse (contains x f)) c.union-after.ensures h));
      outside = λ h. subst (λ l. AreOutside c.args.disabled (keys_of l)) (sym c.in_ok-write_all.ensures.routes)
          (change_within c.args.disabled d changes.remove (map entry_of changes.put) (routes_in ds) c.loop-update.invariant.within (c.loop-update.invariant.outside h));
      rooms = λ q h. ⊎_elim
          (λ t. ⊎_elim inl (λ m. inr (subst (λ ps. is_member destination_eq ps q ≡ true) more (member_before removed u.changes.remove.items q m))) (c.loop-update.invariant.rooms q t))
          (λ m. inr (subst (λ ps. is_member destination_eq ps q ≡ true) more (member_after removed u.changes.remove.items q m)))
          (c.write_all.ensures.rooms q h);
      back = λ q. c.write_all.ensures.back q ∙ c.loop-update.invariant.back q;
      noted = λ h. c.write_all.ensures.noted (c.loop-update.invariant.noted h);
    }

pub returns-in_err-write_all-clause-back : goal.returns-in_err-write_all-clause-back
returns-in_err-write_all-clause-back g c = λ q. c.write_all.ensures.back q ∙ c.loop-update.invariant.back q

pub returns-clause-rooms : goal.returns-clause-rooms
returns-clause-rooms g c = λ q h.
    ⊎_elim inl
    (λ m. inr (subst (λ us. is_member destination_eq (removed_by (map applied_value us)) q ≡ true) (take_all c.loop-update.update-index c.args.updates.now c.loop-update-test.false) m))
    (c.loop-update.invariant.rooms q h)
