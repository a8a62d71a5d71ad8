use Rattle.bgp_orders.proofs.Entries.{entries_show_the_way, runs_of_entries_are_whole}
use Rattle.bgp_orders.proofs.whole.runs_of_entries_are_whole.Goals as goal

pub returns-clause-records : goal.returns-clause-records
returns-clause-records c = entries_show_the_way

pub returns-clause-runs : goal.returns-clause-runs
returns-clause-runs c = runs_of_entries_are_whole
