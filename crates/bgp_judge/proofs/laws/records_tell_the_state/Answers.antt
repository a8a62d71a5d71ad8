use Rattle.bgp_judge.proofs.Telling.{each_as_told, told_one_more, one_table}
use Rattle.bgp_judge.proofs.laws.records_tell_the_state.Goals as goal

pub returns-clause-each : goal.returns-clause-each
returns-clause-each c = each_as_told

pub returns-clause-one_more : goal.returns-clause-one_more
returns-clause-one_more c = told_one_more

pub returns-clause-one_table : goal.returns-clause-one_table
returns-clause-one_table c = one_table
