use Rattle.bgp_json_values.proofs.Chains.{then}
use Rattle.bgp_json_verdicts.proofs.object.begin_of_end.Goals as goal

pub returns : goal.returns
returns g c = then c.in_ok-begin_of_verdict.ensures c.put_number.ensures
