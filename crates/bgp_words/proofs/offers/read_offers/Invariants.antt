use Rattle.std.proofs.Common.{length}
use Rattle.std.specs.Prelude.{◌↔◌}
use denote.Text.{Utf8}
use denote.Shadow.{shadow}
use Rattle.bgp_open.specs.declared.route_offer.RouteOffer.{RouteOffer}
use Rattle.bgp_words.specs.Offers.{Adds, IsOffersText}
use Rattle.bgp_words.proofs.offers.read_offers.Given as goal

-- what is left adds to the offer so far what the whole text is to spell
abbrev pub invariant-loop-word : goal.invariant-loop-word
invariant-loop-word l =
    shadow (Utf8 l.rest) × ((w : RouteOffer) → Adds l.rest l.offers w ↔ IsOffersText l.text w)

abbrev pub decreases-loop-word : goal.decreases-loop-word
decreases-loop-word l = length l.rest
