use Rattle.bgp_check_lines.proofs.Puts.{no_lines}
use Rattle.bgp_check_tool.proofs.checking.put_cut_behind.Goals as goal

pub returns-then-quiet : goal.returns-then-quiet
returns-then-quiet g c = rw c.if-quiet.true (no_lines g.met.W.Sink.nothing c.args.lines.now)
