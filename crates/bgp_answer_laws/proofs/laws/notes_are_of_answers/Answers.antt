use Rattle.bgp_answer_laws.proofs.Notes.{notes_are_of_answers}
use Rattle.bgp_answer_laws.proofs.laws.notes_are_of_answers.Goals as goal

pub returns : goal.returns
returns c = notes_are_of_answers
