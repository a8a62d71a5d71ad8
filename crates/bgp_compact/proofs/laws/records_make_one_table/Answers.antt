use Rattle.bgp_compact.proofs.OneTable.{one_table}
use Rattle.bgp_compact.proofs.laws.records_make_one_table.Goals as goal

pub returns : goal.returns
returns c = one_table
