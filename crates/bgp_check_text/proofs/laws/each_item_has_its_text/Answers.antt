use Rattle.bgp_check_text.proofs.OneItem.{items_differ}
use Rattle.bgp_check_text.proofs.laws.each_item_has_its_text.Goals as goal

pub returns : goal.returns
returns c = items_differ c.each_second_reads_back.ensures.second
