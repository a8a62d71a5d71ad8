use Rattle.bgp_json_values.proofs.Chains.{then}
use Rattle.bgp_json_verdicts.proofs.reason.put_item_flags.Goals as goal

pub returns : goal.returns
returns g c = then c.in_ok-put_truth.ensures (then c.in_ok-put_truth-2.ensures c.put_truth-3.ensures)
