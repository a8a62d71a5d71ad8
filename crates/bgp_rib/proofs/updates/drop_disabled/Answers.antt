use Rattle.std.proofs.Common.{◌≡◌, sym, subst, rules}
use Rattle.std.specs.Map.{keys_of}
use Rattle.bgp_update.specs.DeclaredFamilies.{Families}
use Rattle.bgp_rib.specs.Rooms.{routes_in}
use Rattle.bgp_rib.specs.Routes.{AreOutside}
use Rattle.bgp_rib.proofs.UpdateLaws.{outside_all}
use Rattle.bgp_rib.proofs.updates.drop_disabled.Goals as goal

pub returns-else-ne-clause-routes : goal.returns-else-ne-clause-routes
returns-else-ne-clause-routes g c =
    let es = routes_in c.args.table.now in
    let same : c.args.before ≡ c.args.after = search rules in
    sym (outside_all c.args.after es (subst (λ (d : Families). AreOutside d (keys_of es)) same c.requires.outside))
