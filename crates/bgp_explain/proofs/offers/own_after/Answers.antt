use Rattle.mrt.specs.Reader.{shown_of}
use Rattle.bgp_explain.proofs.OffersKept.{own_now, own_then}
use Rattle.bgp_explain.proofs.offers.own_after.Goals as goal

pub returns-in-Some : goal.returns-in-Some
returns-in-Some c = λ records is. own_then records (shown_of c.args.shown.now) c.args.before c.in-Some.offer c.in-Some.is is

pub returns-in-None : goal.returns-in-None
returns-in-None c = λ records is.
    own_now records (shown_of c.args.shown.now) c.args.before c.sent_offer.result c.in-None.is is c.sent_offer.ensures.some c.sent_offer.ensures.none
