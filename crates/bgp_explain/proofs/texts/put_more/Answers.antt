use Rattle.std.proofs.Common.{[], refl}
use Rattle.bgp_verdict_lines.proofs.Puts.{no_lines}
use Rattle.bgp_explain.proofs.texts.put_more.Goals as goal

pub returns-in-Err : goal.returns-in-Err
returns-in-Err g c = rw c.in-Err.is ([], refl, no_lines g.met.W.Sink.nothing c.args.lines.now)
