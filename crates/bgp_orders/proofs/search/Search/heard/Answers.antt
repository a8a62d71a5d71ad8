use Rattle.bgp_orders.proofs.Steps.{hears_by, hears_none}
use Rattle.bgp_orders.proofs.Tidy.{heard_within}
use Rattle.bgp_orders.proofs.search.Search.heard.Goals as goal

pub returns-in_default-clause-made : goal.returns-in_default-clause-made
returns-in_default-clause-made g c =
    let s = c.args.self.now in
    λ n2. (λ h. absurd h, λ h. absurd (hears_none s.config s.exchange c.args.node.now.spot c.args.node.now.members.items c.in_default.ensures.none n2 h))

pub returns-clause-made : goal.returns-clause-made
returns-clause-made g c =
    let s = c.args.self.now in
    hears_by s.config s.exchange c.args.node.now.spot c.in-Some.turn c.args.node.now.members.items c.in_ok-members.members.items c.in-Some.ensures.some c.in_ok-members.ensures

pub returns-clause-stands : goal.returns-clause-stands
returns-clause-stands g c = λ within.
    let s = c.args.self.now in
    heard_within s.exchange c.args.node.now.spot c.in-Some.turn c.in-Some.ensures.some within
