use Rattle.bgp_verdict_lines.proofs.Puts.{no_lines}
use Rattle.bgp_verdict_lines.proofs.reasons.put_not_whole.Goals as goal

pub returns-in-None : goal.returns-in-None
returns-in-None g c = rw c.in-None.is (no_lines g.met.W.Sink.nothing c.args.lines.now)
