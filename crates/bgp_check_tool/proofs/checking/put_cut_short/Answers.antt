use Rattle.bgp_check_lines.proofs.Puts.{no_lines}
use Rattle.bgp_check_tool.proofs.checking.put_cut_short.Goals as goal

pub returns-in-None : goal.returns-in-None
returns-in-None g c = rw c.in-None.is (no_lines g.met.W.Sink.nothing c.args.lines.now)
