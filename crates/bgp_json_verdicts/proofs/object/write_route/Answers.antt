use Rattle.std.proofs.Common.{codes}
use Rattle.bgp_json_verdicts.proofs.Counted.{of_end_whole}
use Rattle.bgp_json_verdicts.specs.RouteJson.{route_members}
use Rattle.bgp_json_verdicts.proofs.object.write_route.Goals as goal

pub returns : goal.returns
returns g c = of_end_whole (codes "route") c.args.counts (route_members c.args.destination c.args.path.now) c.in_ok-begin_of_end.ensures c.in_ok-put_route.ensures c.end_object.ensures
