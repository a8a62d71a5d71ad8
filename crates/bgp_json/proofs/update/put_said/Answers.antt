use Rattle.std.proofs.Common.{codes}
use Rattle.bgp_json_values.proofs.Chains.{one, then}
use Rattle.bgp_json_values.proofs.Members.{member}
use Rattle.bgp_json_values.specs.RoutesJson.{destinations_json}
use Rattle.bgp_json.proofs.update.put_said.Goals as goal

pub returns : goal.returns
returns g c =
    let nlri = member (codes "nlri") (destinations_json c.args.nlri.now) c.in_ok-key-3.ensures c.put_destinations-2.ensures in
    then (one c.in_ok-key.ensures) (then c.in_ok-put_destinations.ensures (then (one c.in_ok-key-2.ensures) (then c.in_ok-put_attributes.ensures nlri)))
