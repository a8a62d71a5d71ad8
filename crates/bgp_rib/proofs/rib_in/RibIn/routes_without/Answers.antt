use Rattle.std.proofs.Common.{◌∙◌, ap, subst}
use Rattle.bgp_rib.specs.Routes.{Routes, AreRoutes, routes_without, entries_outside}
use Rattle.bgp_rib.proofs.RouteLemmas.{seen_are}
use Rattle.bgp_rib.proofs.rib_in.RibIn.routes_without.Goals as goal

pub returns-clause-rest : goal.returns-clause-rest
unfolding routes_without
returns-clause-rest g c =
    c.new.ensures.rest ∙ ap (λ (r : Routes). entries_outside c.args.families r.entries) c.self.view_is

pub returns-clause-are : goal.returns-clause-are
returns-clause-are g c =
    subst AreRoutes c.self.view_is (seen_are c.self.inside.disabled c.self.inside.table c.new.ensures.ordered c.self.invariant.1)
