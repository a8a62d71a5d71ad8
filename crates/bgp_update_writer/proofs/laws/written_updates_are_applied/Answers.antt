use Rattle.bgp_update_writer.proofs.WrittenUpdate.{written_applied}
use Rattle.bgp_update_writer.proofs.laws.written_updates_are_applied.Goals as goal

pub returns : goal.returns
returns c = written_applied
