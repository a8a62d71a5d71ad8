use Rattle.bgp_check_lines.proofs.Puts.{no_lines}
use Rattle.bgp_check_capture_tool.proofs.lines.put_lines_in.Goals as goal

pub returns-in-None : goal.returns-in-None
returns-in-None g c = rw c.in-None.is (no_lines g.met.W.Sink.nothing c.args.lines.now)
