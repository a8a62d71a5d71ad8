use Rattle.bgp_orders.proofs.SentPlaces.{takes_just}
use Rattle.bgp_orders.proofs.Steps.{if_ok}
use Rattle.bgp_orders.proofs.sent_place.SentPlace.may_send_at.Goals as goal

pub returns-in_default : goal.returns-in_default
returns-in_default g c = (λ t. absurd cc, λ h. absurd (c.in_default.ensures.none h.may))

pub returns : goal.returns
returns g c =
    let s = c.args.self.now.search in
    if_ok c.leads_on.result _ _
    (λ may h. takes_just s.config s.within s.exchange c.args.octets.now c.args.node.now c.in-Some.turn c.as_slice.result.now may c.in-Some.ensures.some c.as_slice.ensures.value h)
    c.leads_on.ensures
