use Rattle.bgp_compact.proofs.RunTables.{each_ends}
use Rattle.bgp_compact.proofs.laws.each_run_ends_with_the_table.Goals as goal

pub returns : goal.returns
returns c = each_ends
