use Rattle.bgp_json_check.proofs.Told.{nothing_told}
use Rattle.bgp_json_check.proofs.teller.CheckTeller.put_routes.Goals as goal

pub returns-else-are_asked : goal.returns-else-are_asked
returns-else-are_asked g c = rw c.if-are_asked.false (nothing_told g.met.W.Sink.nothing c.args.lines.now c.args.self.now)
