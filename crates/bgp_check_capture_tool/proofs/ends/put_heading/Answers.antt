use Rattle.bgp_check_lines.proofs.Puts.{no_lines}
use Rattle.bgp_check_capture_tool.proofs.ends.put_heading.Goals as goal

pub returns-then-is_headed : goal.returns-then-is_headed
returns-then-is_headed g c = rw c.if-is_headed.true (no_lines g.met.W.Sink.nothing c.args.lines.now)
