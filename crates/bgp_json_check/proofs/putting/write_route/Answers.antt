use Rattle.std.proofs.Common.{◌∷◌, codes}
use Rattle.bgp_json.proofs.Tokens.{whole}
use Rattle.bgp_json_values.specs.Objects.{number_of}
use Rattle.bgp_json_values.proofs.Chains.{then}
use Rattle.bgp_json_verdicts.specs.RouteJson.{route_members}
use Rattle.bgp_json_check.proofs.putting.write_route.Goals as goal

pub returns : goal.returns
returns g c =
    whole c.args.kind.now ((codes "judged", number_of c.args.judged) ∷ (codes "end", number_of c.args.end) ∷ route_members c.args.destination c.args.path.now) c.in_ok-begin.ensures
    (then c.in_ok-put_number.ensures (then c.in_ok-put_number-2.ensures c.in_ok-put_route.ensures)) c.end_object.ensures
