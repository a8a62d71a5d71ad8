use Rattle.bgp_answer_laws.proofs.Ends as recording
use Rattle.bgp_answer_laws.proofs.Stretches as capture
use Rattle.bgp_answer_laws.proofs.laws.each_mark_has_its_answer.Goals as goal

pub returns : goal.returns
returns c = record { recordings = recording.each_mark; captures = capture.each_mark }
