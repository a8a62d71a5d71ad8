use Rattle.std.proofs.Common.{◌∙◌, sym}
use Rattle.bgp_check_lines.proofs.Puts.{no_lines}
use Rattle.bgp_check_capture_tool.proofs.checking.put_nothing.Goals as goal

pub returns-else-is_empty : goal.returns-else-is_empty
returns-else-is_empty g c = rw (sym c.is_empty.ensures ∙ c.if-is_empty.false) (no_lines g.met.W.Sink.nothing c.args.lines.now)
