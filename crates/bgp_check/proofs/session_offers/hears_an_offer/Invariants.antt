use Rattle.std.proofs.Common.{map, take}
use Rattle.bgp_machine.specs.Lists.{Has}
use Rattle.bgp_check.specs.SessionOffers.{HearsOffer}
use Rattle.mrt_sessions.specs.Located.{located}
use Rattle.bgp_check.proofs.session_offers.hears_an_offer.Given as goal

-- none so far
abbrev pub invariant-loop-named : goal.invariant-loop-named
invariant-loop-named l = ¬ Has HearsOffer (map located (take l.named-index l.records))
