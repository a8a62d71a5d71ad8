use Rattle.std.proofs.Common.{◌∙◌, ap, subst}
use Rattle.bgp_rib.specs.Rooms.{routes_in}
use Rattle.bgp_rib.specs.Routes.{Routes, AreRoutes}
use Rattle.bgp_rib.proofs.RouteLemmas.{outside_none, seen_are}
use Rattle.bgp_rib.proofs.rib_in.RibIn.routes.Goals as goal

pub returns-clause-rest : goal.returns-clause-rest
returns-clause-rest g c =
    c.new.ensures.rest ∙ outside_none (routes_in c.self.inside.table) ∙ ap (λ (r : Routes). r.entries) c.self.view_is

pub returns-clause-are : goal.returns-clause-are
returns-clause-are g c =
    subst AreRoutes c.self.view_is (seen_are c.self.inside.disabled c.self.inside.table c.new.ensures.ordered c.self.invariant.1)
