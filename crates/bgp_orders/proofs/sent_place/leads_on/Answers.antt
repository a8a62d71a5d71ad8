use Rattle.mrt.specs.Reader.{shown_of}
use Rattle.bgp_orders.proofs.SentPlaces.{leads_just}
use Rattle.bgp_orders.proofs.sent_place.leads_on.Goals as goal

pub returns : goal.returns
returns g c =
    leads_just c.args.config.now (shown_of c.args.shown.now) c.args.members.now c.in_ok-next.next.items c.as_slice.result.now c.has_any.result c.as_slice.ensures.value
    c.in_ok-next.ensures.next c.has_any.ensures
