use Rattle.bgp_orders.proofs.Steps.{says_by, says_none}
use Rattle.bgp_orders.proofs.Tidy.{said_within}
use Rattle.bgp_orders.proofs.search.Search.said.Goals as goal

pub returns-in_default-clause-made : goal.returns-in_default-clause-made
returns-in_default-clause-made g c =
    let s = c.args.self.now in
    λ n2. (λ h. absurd h, λ h. absurd (says_none s.config s.within s.exchange c.args.node.now.spot c.args.node.now.members.items c.in_default.ensures.none n2 h))

pub returns-clause-made : goal.returns-clause-made
returns-clause-made g c =
    let s = c.args.self.now in
    says_by s.config s.within s.exchange c.args.node.now.spot c.in-Some.turn c.args.node.now.members.items c.in_ok-members.members.items c.in-Some.ensures.some c.in_ok-members.ensures

pub returns-clause-stands : goal.returns-clause-stands
returns-clause-stands g c = λ within.
    let s = c.args.self.now in
    said_within s.exchange c.args.node.now.spot s.within c.in-Some.turn c.in-Some.ensures.some within
