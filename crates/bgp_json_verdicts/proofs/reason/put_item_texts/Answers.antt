use Rattle.bgp_json_values.proofs.Chains.{then}
use Rattle.bgp_json_verdicts.proofs.reason.put_item_texts.Goals as goal

pub returns : goal.returns
returns g c = then c.in_ok-put_octets_text.ensures c.put_behind.ensures
