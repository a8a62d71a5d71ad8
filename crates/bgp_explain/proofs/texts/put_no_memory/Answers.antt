use Rattle.bgp_verdict_lines.specs.JsonVerdictsLines.{line_text, reason_text}
use Rattle.bgp_explain.proofs.texts.put_no_memory.Goals as goal

pub returns : goal.returns
unfolding line_text reason_text
returns g c = c.put_note.ensures
