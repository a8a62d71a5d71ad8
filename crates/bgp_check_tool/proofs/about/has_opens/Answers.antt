use Rattle.std.proofs.Common.{map}
use Rattle.mrt.specs.Reader.{shown_of}
use Rattle.bgp_open.specs.OpenFault.{IsWellFormed}
use Rattle.bgp_parts.specs.Opens.{IsOpenMessage}
use Rattle.bgp_check_tool.specs.Orders.{own_of, peers_of}
use Rattle.bgp_check_tool.proofs.WayMessages.{one_received, one_sent}
use Rattle.bgp_check_tool.proofs.about.has_opens.Goals as goal

pub returns-then-is_same_open-clause-has : goal.returns-then-is_same_open-clause-has
returns-then-is_same_open-clause-has c = λ own peers.
    c.is_same_open-then-is_same_open.ensures.1
    (one_received IsOpenMessage (map shown_of c.args.records.now) _ (peers_of c.args.found.now) c.peers_open.ensures peers)

pub returns-else-is_same_open-clause-has : goal.returns-else-is_same_open-clause-has
returns-else-is_same_open-clause-has c = λ own peers.
    c.is_same_open.ensures.1 (one_sent IsWellFormed (map shown_of c.args.records.now) _ (own_of c.args.found.now) c.own_open.ensures.first own)
