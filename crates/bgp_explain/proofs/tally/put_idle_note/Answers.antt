use Rattle.bgp_verdict_lines.specs.JsonVerdictsLines.{line_text, reason_text}
use Rattle.bgp_verdict_lines.proofs.Puts.{no_lines}
use Rattle.bgp_explain.proofs.tally.put_idle_note.Goals as goal

pub returns-then-left_idle : goal.returns-then-left_idle
returns-then-left_idle g c = rw c.if-left_idle.true (no_lines g.met.W.Sink.nothing c.args.lines.now)

pub returns : goal.returns
unfolding line_text reason_text
returns g c = rw c.if-left_idle.false c.put_note.ensures
