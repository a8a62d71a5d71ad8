use Rattle.std.proofs.Common.{map, take}
use Rattle.bgp_machine.specs.Lists.{Has}
use Rattle.bgp_check.specs.SessionOffers.{SendsOffer}
use Rattle.mrt_sessions.specs.Located.{located}
use Rattle.bgp_check.proofs.session_offers.sends_an_offer.Given as goal

-- none so far
abbrev pub invariant-loop-named : goal.invariant-loop-named
invariant-loop-named l = ¬ Has SendsOffer (map located (take l.named-index l.records))
