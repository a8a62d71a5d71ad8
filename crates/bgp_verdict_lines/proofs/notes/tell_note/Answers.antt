use Rattle.bgp_json_verdicts.proofs.Told.{nothing_told}
use Rattle.bgp_verdict_lines.proofs.notes.tell_note.Goals as goal

pub returns-in_default : goal.returns-in_default
returns-in_default g c = rw c.in_default.is (nothing_told g.met.W.Sink.nothing c.args.lines.now c.args.telling.now)
