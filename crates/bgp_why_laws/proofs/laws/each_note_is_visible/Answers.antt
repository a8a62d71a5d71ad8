use Rattle.bgp_why_laws.proofs.Reasons.{notes_visible}
use Rattle.bgp_why_laws.proofs.laws.each_note_is_visible.Goals as goal

pub returns : goal.returns
returns c = notes_visible
