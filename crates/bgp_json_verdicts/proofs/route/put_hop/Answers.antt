use Rattle.bgp_tool.proofs.Tokens.{array}
use Rattle.bgp_json_values.specs.RoutesJson.{hop_addresses}
use Rattle.bgp_json_values.specs.Texts.{address_json}
use Rattle.bgp_json_verdicts.proofs.route.put_hop.Goals as goal

pub returns : goal.returns
returns g c = array address_json (hop_addresses c.args.next_hop) c.in_ok-begin_array.ensures c.in_ok-put_hop_addresses.ensures c.end_array.ensures
