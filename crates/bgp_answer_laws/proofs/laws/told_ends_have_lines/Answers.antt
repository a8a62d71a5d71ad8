use Rattle.bgp_answer_laws.proofs.Ends.{ends_have_lines}
use Rattle.bgp_answer_laws.proofs.Stretches.{stretches_have_lines}
use Rattle.bgp_answer_laws.proofs.laws.told_ends_have_lines.Goals as goal

pub returns : goal.returns
returns c = record {
  recordings = ends_have_lines c.each_deed_is_visible.ensures.records c.each_deed_is_visible.ensures.messages;
  captures = stretches_have_lines c.each_deed_is_visible.ensures.records;
}
