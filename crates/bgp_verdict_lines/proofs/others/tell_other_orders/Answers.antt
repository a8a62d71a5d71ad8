use Rattle.bgp_json_verdicts.proofs.Told.{nothing_told}
use Rattle.bgp_verdict_lines.proofs.others.tell_other_orders.Goals as goal

pub returns-in-Unasked : goal.returns-in-Unasked
returns-in-Unasked g c = rw c.in-Unasked.is (nothing_told g.met.W.Sink.nothing c.args.lines.now c.args.telling.now)
