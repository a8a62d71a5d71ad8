use Rattle.std.proofs.Common.{◌∙◌, sym, ap, subst}
use Rattle.std.specs.Map.{keys_of}
use Rattle.bgp_update.specs.DeclaredFamilies.{Families}
use Rattle.bgp_rib.specs.Rooms.{routes_in}
use Rattle.bgp_update.specs.Families.{union}
use Rattle.bgp_rib.specs.Routes.{AreOutside, only, routes_without}
use Rattle.bgp_rib.proofs.RouteLemmas.{disabled_before, outside_both, seen_dropped}
use Rattle.bgp_rib.proofs.rib_in.RibIn.disable.Goals as goal

pub invariant_of-self : goal.invariant_of-self
invariant_of-self g c =
    let d = c.self.inside.disabled in
    let es = routes_in c.self.inside.table in (
      c.drop_families.ensures.full,
      subst (λ (f : Families). AreOutside f (keys_of (routes_in c.drop_families.new.table))) (sym c.union-self-inside.ensures)
          (subst (λ l. AreOutside (union d c.only-gone.result) (keys_of l)) (sym c.drop_families.ensures.routes) (outside_both d c.only-gone.result es c.self.invariant.1)),
      c.self.invariant.2,
    )

pub returns : goal.returns
returns g c =
    let d = c.self.inside.disabled in
    let es = routes_in c.self.inside.table in
    let new = routes_in c.drop_families.new.table in
    record {
      routes = (λ i. record { entries = new; disabled = c.union-self-inside.ensures i })
          ∙ seen_dropped d c.only-gone.result es new c.drop_families.ensures.routes
          ∙ (λ i. routes_without (c.only-gone.ensures i) (c.self.view_is i));
    }

pub returns-then-contains : goal.returns-then-contains
returns-then-contains g c =
    let f = c.args.family in
    record {
      routes = sym c.self.view_is ∙ disabled_before c.self.inside.disabled f (routes_in c.self.inside.table) (sym c.contains.ensures ∙ c.if-contains.true) c.self.invariant.1
          ∙ ap (routes_without (only f)) c.self.view_is;
    }
