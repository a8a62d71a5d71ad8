use Rattle.bgp_explain.proofs.OneText.{one_reason}
use Rattle.bgp_explain.proofs.laws.each_reason_has_one_text.Goals as goal

pub returns : goal.returns
returns c = one_reason c.subcodes_are_sets.ensures c.each_record_is_allowed.ensures
