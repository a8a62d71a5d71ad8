use Rattle.bgp_json_values.proofs.Chains.{then}
use Rattle.bgp_json_verdicts.proofs.reason.put_skipped.Goals as goal

pub returns : goal.returns
returns g c = then c.in_ok-put_number.ensures c.put_text.ensures
