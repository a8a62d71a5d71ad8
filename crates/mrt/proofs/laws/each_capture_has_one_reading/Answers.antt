use Rattle.mrt.proofs.OneReading.{one_text, one_spelling, one_fault, never_both}
use Rattle.mrt.proofs.SomeReading.{never_none}
use Rattle.mrt.proofs.laws.each_capture_has_one_reading.Goals as goal

pub returns : goal.returns
returns c = record {
  text = one_text;
  spelling = one_spelling;
  fault = one_fault;
  never_both = never_both;
  never_none = never_none;
}
