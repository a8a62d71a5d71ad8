use Rattle.mrt.proofs.TakenOut.{passed_over_are_taken_out, passed_over_are_whole, has_one_fault}
use Rattle.mrt.proofs.laws.passed_over_records_are_taken_out.Goals as goal

pub returns : goal.returns
returns c = record {
  taken_out = passed_over_are_taken_out;
  whole = passed_over_are_whole;
  one_fault = has_one_fault;
}
