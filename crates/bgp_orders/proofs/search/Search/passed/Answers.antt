use Rattle.bgp_orders.specs.Rows.{IsMade}
use Rattle.bgp_orders.proofs.Steps.{if_ok, passes_ended, passes_said}
use Rattle.bgp_orders.proofs.search.Search.passed.Goals as goal

pub returns-then-are_left-clause-made : goal.returns-then-are_left-clause-made
returns-then-are_left-clause-made g c =
    let s = c.args.self.now in
    if_ok c.said.result _ _
    (λ made h. passes_said s.config s.within s.exchange c.args.node.now.spot c.args.node.now.members.items (IsMade s.exchange made) c.are_left.result c.are_left.ensures c.if-are_left.true h)
    c.said.ensures.made

pub returns-else-are_left-clause-made : goal.returns-else-are_left-clause-made
returns-else-are_left-clause-made g c =
    let s = c.args.self.now in
    if_ok c.ended.result _ _
    (λ made h. passes_ended s.config s.within s.exchange c.args.node.now.spot c.args.node.now.members.items (IsMade s.exchange made) c.are_left.result c.are_left.ensures c.if-are_left.false h)
    c.ended.ensures.made
