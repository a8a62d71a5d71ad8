use Rattle.mrt.proofs.AllowedRecord.{each_allowed}
use Rattle.mrt.proofs.laws.each_record_is_allowed.Goals as goal

pub returns : goal.returns
returns c = each_allowed
