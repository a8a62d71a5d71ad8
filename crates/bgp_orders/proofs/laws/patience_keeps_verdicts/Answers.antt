use Rattle.bgp_orders.proofs.Over.{more_patience_explains, more_patience_keeps_ends}
use Rattle.bgp_orders.proofs.laws.patience_keeps_verdicts.Goals as goal

pub returns-clause-explained : goal.returns-clause-explained
returns-clause-explained c = more_patience_explains

pub returns-clause-ends : goal.returns-clause-ends
returns-clause-ends c = more_patience_keeps_ends
