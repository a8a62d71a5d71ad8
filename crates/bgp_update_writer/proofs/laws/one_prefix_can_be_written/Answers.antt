use Rattle.bgp_update_writer.proofs.ShortUpdate.{one_can_be_written}
use Rattle.bgp_update_writer.proofs.laws.one_prefix_can_be_written.Goals as goal

pub returns : goal.returns
returns c = one_can_be_written
