use Rattle.bgp_check_lines.proofs.Puts.{no_lines}
use Rattle.bgp_check_capture_tool.proofs.told_end.put_if_open.Goals as goal

pub returns-then-is_over : goal.returns-then-is_over
returns-then-is_over g c = rw c.if-is_over.true (no_lines g.met.W.Sink.nothing c.args.lines.now)
