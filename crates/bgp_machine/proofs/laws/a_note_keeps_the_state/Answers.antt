use Rattle.bgp_machine.proofs.OwedWants.{note_keeps}
use Rattle.bgp_machine.proofs.laws.a_note_keeps_the_state.Goals as goal

pub returns : goal.returns
returns c = note_keeps
