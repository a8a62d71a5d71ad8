use Rattle.bgp_orders.proofs.Counts.{firsts_just}
use Rattle.bgp_orders.proofs.Tidy.{two_starts}
use Rattle.bgp_orders.proofs.counting.first_nodes.Goals as goal

pub returns-clause-nodes : goal.returns-clause-nodes
returns-clause-nodes g c =
    let s = c.args.search.now in
    firsts_just s.config s.exchange c.new-nodes.result.items c.add_start.new.nodes.items c.add_start-2.new.nodes.items c.new-nodes.ensures.items c.in_ok-add_start.ensures.gains c.in_ok-add_start-2.ensures.gains

pub returns-clause-tidy : goal.returns-clause-tidy
returns-clause-tidy g c =
    let s = c.args.search.now in
    two_starts s.exchange c.new-nodes.result.items c.add_start.new.nodes.items c.add_start-2.new.nodes.items c.new-nodes.ensures.items c.in_ok-add_start.ensures.tidy c.in_ok-add_start-2.ensures.tidy
