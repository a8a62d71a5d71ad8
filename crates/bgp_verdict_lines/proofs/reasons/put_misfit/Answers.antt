use Rattle.bgp_verdict_lines.proofs.Puts.{no_lines}
use Rattle.bgp_verdict_lines.proofs.reasons.put_misfit.Goals as goal

pub returns-in-Faulty : goal.returns-in-Faulty
returns-in-Faulty g c = rw c.in-Faulty.is (no_lines g.met.W.Sink.nothing c.args.lines.now)
