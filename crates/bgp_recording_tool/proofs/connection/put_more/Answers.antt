use Rattle.std.proofs.Common.{[], refl}
use Rattle.bgp_verdict_lines.proofs.Puts.{no_lines}
use Rattle.bgp_recording_tool.proofs.connection.put_more.Goals as goal

pub returns-in-VerdictAlone : goal.returns-in-VerdictAlone
returns-in-VerdictAlone g c = rw c.in-VerdictAlone.is ([], refl, no_lines g.met.W.Sink.nothing c.args.lines.now)
