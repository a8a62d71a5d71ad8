use Rattle.bgp_json_values.proofs.Chains.{then}
use Rattle.bgp_list.proofs.session_json.put_counts_members.Goals as goal

pub returns : goal.returns
returns g c = then c.in_ok-put_number.ensures (then c.in_ok-put_number-2.ensures c.put_number-3.ensures)
