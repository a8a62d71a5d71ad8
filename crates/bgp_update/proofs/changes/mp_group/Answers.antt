use Rattle.std.proofs.Common.{◌∙◌, sym, ap}
use Rattle.bgp_attr.specs.declared.classes.Side.{Side}
use Rattle.bgp_attr.specs.First.{first_at, value_by_type}
use Rattle.bgp_update.specs.Changes.{mp_hop, mp_destinations}
use Rattle.bgp_update.specs.MpShown.{state_of}
use Rattle.bgp_update.proofs.Routes.{if_ok, mp_routes}
use Rattle.bgp_update.proofs.changes.mp_group.Goals as goal

pub returns-clause-routes : goal.returns-clause-routes
returns-clause-routes g c =
    let is = ap state_of c.in-Sound.is in
    let same = mp_routes (λ (side : Side). value_by_type side (first_at c.args.first.now)) c.side-side.result _ c.hop_or_none-next_hop.result _ (state_of c.args.found.now.reach.state) c.side-side.ensures
    (c.hop_or_none-next_hop.ensures ∙ sym (ap mp_hop is)) (sym (ap mp_destinations is)) in
    if_ok c.read_group.result _ _ (λ group e. e ∙ same) c.read_group.ensures.routes
