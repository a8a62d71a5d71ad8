use Rattle.std.proofs.Common.{[], refl}
use Rattle.bgp_verdict_lines.proofs.Puts.{no_lines}
use Rattle.bgp_explain.proofs.sent_line.put_line_of.Goals as goal

pub put_sent-requires-clause-whole : goal.put_sent-requires-clause-whole
put_sent-requires-clause-whole g c =
    let allowed = rw c.in-Out.is at c.requires in allowed.1.0.3

pub returns-in-Out : goal.returns-in-Out
returns-in-Out g c =
    let (text, is, wrote) = c.put_sent.ensures in
    rw c.in-Out.is (text, is, wrote)

pub returns-in-In : goal.returns-in-In
returns-in-In g c = rw c.in-In.is ([], refl, no_lines g.met.W.Sink.nothing c.args.lines.now)

pub returns-in-Change : goal.returns-in-Change
returns-in-Change g c = rw c.in-Change.is ([], refl, no_lines g.met.W.Sink.nothing c.args.lines.now)
