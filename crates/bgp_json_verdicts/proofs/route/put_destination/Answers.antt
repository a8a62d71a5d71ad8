use Rattle.std.proofs.Common.{◌∷◌, [], codes}
use Rattle.bgp_json_values.proofs.Members.{member}
use Rattle.bgp_json_values.proofs.Members.{then_members}
use Rattle.bgp_json_values.specs.RoutesJson.{destination_json}
use Rattle.bgp_json_verdicts.specs.At.{number_members}
use Rattle.bgp_json_verdicts.proofs.route.put_destination.Goals as goal

pub returns : goal.returns
returns g c =
    let destination = c.args.destination in
    let prefix = member (codes "prefix") (destination_json destination) c.in_ok-key.ensures c.in_ok-put_prefix.ensures in
    then_members ((codes "prefix", destination_json destination) ∷ []) (number_members (codes "path_id") destination.path) prefix c.put_path_id.ensures
