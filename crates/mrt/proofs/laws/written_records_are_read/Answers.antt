use Rattle.mrt.proofs.WrittenRecord.{reads_back}
use Rattle.mrt.proofs.laws.written_records_are_read.Goals as goal

pub returns : goal.returns
returns c = reads_back
