use Rattle.bgp_json_values.proofs.Members.{then_members}
use Rattle.bgp_json_verdicts.specs.RouteJson.{destination_members, path_members}
use Rattle.bgp_json_verdicts.proofs.route.put_route.Goals as goal

pub returns : goal.returns
returns g c = then_members (destination_members c.args.destination) (path_members c.args.path.now) c.in_ok-put_destination.ensures c.put_path.ensures
