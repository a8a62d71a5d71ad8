use Rattle.std.proofs.Common.{◌∙◌, All, map, take, subst}
use Rattle.std.proofs.lemmas.List.{take_all}
use Rattle.std.proofs.lemmas.List.Elements.{All-append}
use Rattle.bgp_rib.specs.DestinationOrder.{destination_cmp}
use Rattle.bgp_update.specs.declared.destination.Destination.{Destination}
use Rattle.bgp_rib.specs.Rooms.{HasRoom}
use Rattle.bgp_rib.specs.Updates.{applied_value, removed_by}
use Rattle.bgp_rib.proofs.UpdateLaws.{removed_more}
use Rattle.bgp_rib.proofs.updates.sweep_each.Goals as goal

pub loop-update-preserved : goal.loop-update-preserved
loop-update-preserved g c =
    let us = c.args.updates.now in
    let i = c.loop-update.update-index in
    let u = c.update-item.result in
    let P : Destination → Type 0 = λ p. HasRoom destination_cmp c.sweep_all.new.table p → ⊥ in
    let before : All P (removed_by (map applied_value (take i us))) = λ k d lt h. c.loop-update.invariant.swept k d lt (c.sweep_all.ensures.rooms _ h) in
    record {
      same = c.sweep_all.ensures.same ∙ c.loop-update.invariant.same;
      rooms = λ q h. c.loop-update.invariant.rooms q (c.sweep_all.ensures.rooms q h);
      swept = subst (All P) (removed_more us i u c.loop-update-test.true c.update-item.is)
          (All-append P (removed_by (map applied_value (take i us))) u.changes.remove.items before (subst (All P) c.deref.ensures.value c.sweep_all.ensures.swept));
    }

pub returns-clause-swept : goal.returns-clause-swept
returns-clause-swept g c =
    subst (λ us. All (λ p. HasRoom destination_cmp c.loop-update.table p → ⊥) (removed_by (map applied_value us)))
    (take_all c.loop-update.update-index c.args.updates.now c.loop-update-test.false) c.loop-update.invariant.swept
