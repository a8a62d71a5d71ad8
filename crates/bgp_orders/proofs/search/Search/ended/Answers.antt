use Rattle.bgp_orders.proofs.Steps.{ends_by, ends_none}
use Rattle.bgp_orders.proofs.Tidy.{ended_within}
use Rattle.bgp_orders.proofs.search.Search.ended.Goals as goal

pub returns-in_default-clause-made : goal.returns-in_default-clause-made
returns-in_default-clause-made g c =
    let s = c.args.self.now in
    λ n2. (λ h. absurd h, λ h. absurd (ends_none s.config s.within s.exchange c.args.node.now.spot c.args.node.now.members.items c.in_default.ensures.none n2 h))

pub returns-clause-made : goal.returns-clause-made
returns-clause-made g c =
    let s = c.args.self.now in
    ends_by s.config s.within s.exchange c.args.node.now.spot c.in-Some.ending c.args.node.now.members.items c.as_slice-from.result.now c.in_ok-members.members.items c.in-Some.ensures.some
    c.as_slice-from.ensures.value c.in_ok-members.ensures

pub returns-clause-stands : goal.returns-clause-stands
returns-clause-stands g c = λ within.
    let s = c.args.self.now in
    ended_within s.exchange c.args.node.now.spot s.within c.in-Some.ending c.in-Some.ensures.some within
