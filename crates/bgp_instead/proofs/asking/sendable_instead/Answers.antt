use Rattle.std.proofs.Common.{subst}
use Rattle.bgp_orders.specs.SentPlaces.{CouldBeSent, IsSentPlace}
use Rattle.bgp_orders.proofs.Counts.{some_is}
use Rattle.bgp_instead.specs.Sendable.{AreSendable}
use Rattle.bgp_instead.proofs.asking.sendable_instead.Goals as goal

pub returns : goal.returns
returns g c = λ told.
    let config = c.args.config.now in
    let exchange = c.args.exchange.now in
    let is = some_is c.in_ok-place.field-0 c.in-Some.place (λ place. IsSentPlace config c.args.within exchange c.args.before place) c.in-Some.is c.in_ok-place.ensures.place in
    subst (λ v. AreSendable (CouldBeSent config c.args.within exchange c.args.before) config v c.in_ok-sendable.sendable) c.last_octets.ensures
    (c.in_ok-sendable.ensures (record { config = config; within = c.args.within; exchange = exchange; before = c.args.before; told = told; is = is }))
