use Rattle.std.proofs.Common.{sym, subst}
use Rattle.bgp_machine.specs.Lists.{Has}
use Rattle.bgp_orders.specs.SentPlaces.{Takes}
use Rattle.bgp_orders.proofs.SentPlaces.{could_of_takes, takes_of_could}
use Rattle.bgp_orders.proofs.Steps.{if_ok}
use Rattle.bgp_orders.proofs.sent_place.SentPlace.could_be_sent.Goals as goal

pub returns : goal.returns
returns g c = λ config within exchange before told is.
    let place = c.args.self.now in
    let s = place.search in
    let law = c.each_owed_want_can_be_met.ensures.met in
    let octets = c.args.octets.now in
    let there = c.as_slice.ensures.value in
    if_ok c.may_send_at_some.result _ _
    (λ may h. (
      λ t. could_of_takes law config within exchange before octets place is told (subst (λ v. Has (λ node. Takes s.config s.within s.exchange octets node) v) there (h.0 t)),
      λ k. h.1 (subst (λ v. Has (λ node. Takes s.config s.within s.exchange octets node) v) (sym there) (takes_of_could law config within exchange before octets place is k)),
    ))
    c.may_send_at_some.ensures
