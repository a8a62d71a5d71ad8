use Rattle.bgp_commands.proofs.reporting.report_over.Goals as goal

pub returns : goal.returns
returns g c = record {
  answer = c.report-answer.result;
  answers = rw c.html_checking.ensures at (rw c.check_options-options.ensures at c.report-answer.ensures);
  said = c.say.ensures;
  is_status = c.status.ensures;
}
