use Rattle.std.proofs.Common.{◌∙◌, map, ap, sym, subst, refl}
use Rattle.std.specs.Map.{keys_of}
use Rattle.bgp_update.specs.Allowed.{changes_value}
use Rattle.bgp_rib.specs.Rooms.{routes_in}
use Rattle.bgp_rib.specs.Routes.{AreOutside, entries_outside, entry_of, routes_after}
use Rattle.bgp_rib.proofs.RouteLemmas.{change_outside, seen_changed}
use Rattle.bgp_rib.proofs.Turns.{either, on_ok}
use Rattle.bgp_rib.proofs.rib_in.RibIn.apply.Goals as goal

pub invariant_of-self : goal.invariant_of-self
invariant_of-self g c =
    let d = c.self.inside.disabled in
    let es = routes_in c.self.inside.table in
    let changes = changes_value c.args.changes.now in (
      c.apply_changes.ensures.full,
      either c.apply_changes.result c.apply_changes.ensures.ok c.apply_changes.ensures.err
          (λ e. subst (λ l. AreOutside d (keys_of l)) (sym e) (change_outside d changes.remove (map entry_of changes.put) es c.self.invariant.1))
          (λ e. subst (λ l. AreOutside d (keys_of l)) (sym e) c.self.invariant.1),
      c.apply_changes.ensures.unwritten,
    )

pub returns-clause-ok : goal.returns-clause-ok
returns-clause-ok g c =
    let d = c.self.inside.disabled in
    let es = routes_in c.self.inside.table in
    let changes = changes_value c.args.changes.now in
    on_ok c.apply_changes.result c.apply_changes.ensures.ok
    (λ e. seen_changed changes d changes.remove (entries_outside d (map entry_of changes.put)) es (routes_in c.apply_changes.new.table) refl refl e
    ∙ ap (routes_after changes) c.self.view_is)
