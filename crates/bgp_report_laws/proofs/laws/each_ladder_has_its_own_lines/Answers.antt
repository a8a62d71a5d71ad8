use Rattle.bgp_report_laws.proofs.Ladders as recording
use Rattle.bgp_report_laws.proofs.Stretches as capture
use Rattle.bgp_report_laws.proofs.laws.each_ladder_has_its_own_lines.Goals as goal

pub returns : goal.returns
returns c d = record {
  recordings = recording.each_ladder _ _ _ d.notes_are_of_answers.ensures d.each_mark_has_its_answer.ensures.recordings;
  captures = capture.each_ladder _ _ _ d.notes_are_of_answers.ensures d.each_mark_has_its_answer.ensures.captures;
}
