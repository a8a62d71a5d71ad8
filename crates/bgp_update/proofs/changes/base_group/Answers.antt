use Rattle.std.proofs.Common.{◌∙◌, sym}
use Rattle.bgp_attr.specs.declared.classes.Side.{Side}
use Rattle.bgp_attr.specs.First.{first_at, value_by_type}
use Rattle.bgp_update.proofs.Routes.{if_ok, same_routes, base_listed}
use Rattle.bgp_update.proofs.changes.base_group.Goals as goal

pub returns-clause-routes : goal.returns-clause-routes
returns-clause-routes g c =
    let used = sym c.contains.ensures ∙ c.if-not-contains.false in
    let same = same_routes (λ (side : Side). value_by_type side (first_at c.args.first.now)) c.side-side.result _ c.base_hop-next_hop.result _ _ c.side-side.ensures c.base_hop-next_hop.ensures (base_listed c.args.link.now _ used) in
    if_ok c.read_group.result _ _ (λ group e. e ∙ same) c.read_group.ensures.routes
