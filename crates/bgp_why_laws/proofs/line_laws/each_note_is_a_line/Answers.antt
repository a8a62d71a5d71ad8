use Rattle.bgp_why_laws.proofs.Lines.{notes}
use Rattle.bgp_why_laws.proofs.line_laws.each_note_is_a_line.Goals as goal

pub returns : goal.returns
returns c = notes
