use Rattle.bgp_json_values.proofs.Chains.{then}
use Rattle.bgp_list.proofs.ended_json.put_notified.Goals as goal

pub returns : goal.returns
returns g c = then c.in_ok-put_text.ensures c.put_error.ensures
