-- What an OPEN offers about how routes are spelled, as words: several paths for a prefix (RFC 7911,
-- 4), and IPv6 next hops of IPv4 routes (RFC 8950, 4).
use Rattle.std.specs.Prelude.{◌||◌, ℕ, Bool, List, [], ◌∷◌, if◌then◌else◌, codes}
use Rattle.std.specs.Bool.{then_some}
use Rattle.bgp_open.specs.declared.route_offer.RouteOffer.{RouteOffer}
use Rattle.bgp_why_parts.specs.Pieces.{separated}

-- anything is offered
abbrev pub offers_something : RouteOffer → Bool
offers_something offer =
    offer.sends.v4 || offer.sends.v6 || offer.receives.v4 || offer.receives.v6 || offer.next_hops

-- a word for each family of which several paths are sent, or received, and one for next hops
abbrev pub words_text : RouteOffer → List ℕ
words_text offer =
    separated (codes ",") []
    (then_some offer.sends.v4 (codes "send-v4")
    ∷ then_some offer.sends.v6 (codes "send-v6")
    ∷ then_some offer.receives.v4 (codes "receive-v4")
    ∷ then_some offer.receives.v6 (codes "receive-v6")
    ∷ then_some offer.next_hops (codes "next-hops")
    ∷ [])

-- these, or that there are none
abbrev pub offer_text : RouteOffer → List ℕ
offer_text offer = if offers_something offer then words_text offer else codes "none"
