use Rattle.bgp_text.proofs.Pieces.{Joins}
use Rattle.bgp_verdict_lines.proofs.Puts.{no_lines, then_lines}
use Rattle.bgp_explain.proofs.skipped.put_skipped.Goals as goal

pub returns-in-Some : goal.returns-in-Some
returns-in-Some g c =
    let law : Joins g.W.Sink = record { joined = g.met.W.Sink.joined } in
    rw c.in-Some.is (then_lines law c.put_sessions.ensures c.put_kinds.ensures)

pub returns-in_default : goal.returns-in_default
returns-in_default g c = rw c.in_default.is (no_lines g.met.W.Sink.nothing c.args.lines.now)
