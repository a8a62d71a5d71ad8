use Rattle.std.proofs.Common.{codes}
use Rattle.bgp_json_values.proofs.Members.{member}
use Rattle.bgp_json_verdicts.specs.RouteJson.{aggregator_json}
use Rattle.bgp_json_verdicts.proofs.route.put_aggregator.Goals as goal

pub returns-in_ok-key-in-Some : goal.returns-in_ok-key-in-Some
returns-in_ok-key-in-Some g c =
    rw c.in-Some.is (member (codes "aggregator") (aggregator_json c.in-Some.aggregator) c.in_ok-key-in-Some.ensures c.put_aggregator_object.ensures)
