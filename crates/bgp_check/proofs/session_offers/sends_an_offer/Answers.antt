use Rattle.std.proofs.Common.{refl}
use Rattle.mrt_sessions.specs.Located.{located}
use Rattle.bgp_check.specs.SessionOffers.{SendsOffer}
use Rattle.bgp_check.proofs.Lists.{none_at_all, none_more, some_at}
use Rattle.bgp_check.proofs.session_offers.sends_an_offer.Goals as goal

pub loop-named-init : goal.loop-named-init
loop-named-init c = λ none. none

pub loop-named-preserved : goal.loop-named-preserved
loop-named-preserved c =
    none_more SendsOffer located c.args.records.now c.loop-named.named-index c.named-item.result c.loop-named-test.true c.named-item.is c.loop-named.invariant
    (λ offer. let k = c.sends_offer.ensures.1 offer in let f = c.if-sends_offer.false in cc)

pub returns-then-sends_offer : goal.returns-then-sends_offer
returns-then-sends_offer c = (
  (λ is. some_at SendsOffer located c.args.records.now c.loop-named.named-index c.named-item.result c.loop-named-test.true c.named-item.is (c.sends_offer.ensures.0 c.if-sends_offer.true)),
  (λ some. refl),
)

pub returns : goal.returns
returns c = (
  (λ is. absurd cc),
  (λ some. absurd (none_at_all SendsOffer located c.args.records.now c.loop-named.named-index c.loop-named-test.false c.loop-named.invariant some)),
)
