use Rattle.mrt.proofs.WrittenCapture.{captures_read_back}
use Rattle.mrt.proofs.laws.written_captures_are_read.Goals as goal

pub returns : goal.returns
returns c = captures_read_back
