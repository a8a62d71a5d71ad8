use Rattle.bgp_way_ends.proofs.Patience.{keeps_nodes, more_reaches, stays_too_long}
use Rattle.bgp_way_ends.proofs.laws.more_patience_reaches_no_fewer_nodes.Goals as goal

pub returns : goal.returns
returns c = record { reached = more_reaches; nodes = keeps_nodes; too_long = stays_too_long }
