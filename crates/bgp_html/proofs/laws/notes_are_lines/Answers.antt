use Rattle.bgp_html.proofs.InNotes.{notes_are_lines}
use Rattle.bgp_html.proofs.laws.notes_are_lines.Goals as goal

pub returns : goal.returns
returns c = notes_are_lines
