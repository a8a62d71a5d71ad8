use Rattle.bgp_verdict_laws.proofs.Marks.{asks_marked, update_asks_marked}
use Rattle.bgp_verdict_laws.proofs.laws.each_text_has_its_mark.Goals as goal

pub returns-clause-asks : goal.returns-clause-asks
returns-clause-asks c = asks_marked

pub returns-clause-update : goal.returns-clause-update
returns-clause-update c = update_asks_marked
