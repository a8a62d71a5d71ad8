use Rattle.bgp_json_values.proofs.Chains.{one, then}
use Rattle.bgp_list.proofs.members.put_end_members.Goals as goal

pub returns : goal.returns
returns g c = then (one c.in_ok-key.ensures) (then c.in_ok-put_address.ensures c.put_port.ensures)
