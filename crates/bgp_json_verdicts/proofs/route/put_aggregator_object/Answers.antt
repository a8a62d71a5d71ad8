use Rattle.std.proofs.Common.{◌∷◌, [], codes}
use Rattle.bgp_json_values.proofs.Chains.{one, then}
use Rattle.bgp_json_values.specs.Objects.{number_of}
use Rattle.bgp_json_values.proofs.Members.{object}
use Rattle.bgp_json_verdicts.specs.RouteJson.{router_json}
use Rattle.bgp_json_verdicts.proofs.route.put_aggregator_object.Goals as goal

pub returns : goal.returns
returns g c =
    let number = rw c.from.ensures at c.in_ok-put_number.ensures in
    object ((codes "as", number_of c.args.aggregator.as_number) ∷ (codes "address", router_json c.args.aggregator.address) ∷ []) c.in_ok-begin_object.ensures
    (then number (then (one c.in_ok-key.ensures) c.in_ok-put_router.ensures)) c.end_object.ensures
