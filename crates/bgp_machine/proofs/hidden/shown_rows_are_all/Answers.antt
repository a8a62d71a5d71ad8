use Rattle.bgp_machine.proofs.ShownRows.{lists_hidden}
use Rattle.bgp_machine.proofs.hidden.shown_rows_are_all.Goals as goal

pub returns : goal.returns
returns c = lists_hidden
