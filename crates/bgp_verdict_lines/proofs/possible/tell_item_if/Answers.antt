use Rattle.bgp_json_verdicts.proofs.Told.{nothing_told}
use Rattle.bgp_verdict_lines.proofs.possible.tell_item_if.Goals as goal

pub returns-in_default-clause-tells : goal.returns-in_default-clause-tells
returns-in_default-clause-tells g c = rw c.in_default.is (nothing_told g.met.W.Sink.nothing c.args.lines.now c.args.telling.now)

pub returns-clause-tells : goal.returns-clause-tells
returns-clause-tells g c = rw c.in-Some.is c.tell_item.ensures
