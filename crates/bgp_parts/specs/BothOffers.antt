-- What both OPENs of a session offer about routes, whatever is configured (RFC 7911, 5; RFC 8950,
-- 4).
use Rattle.std.specs.Prelude.{◌&&◌, ◌||◌, Bool}
use Rattle.bgp_open.specs.declared.families.Families.{Families}
use Rattle.bgp_open.specs.declared.route_offer.RouteOffer.{RouteOffer}
use Rattle.bgp_open.specs.RouteForm.{received_form, sent_form}

-- the families that are among one of both
abbrev pub either : Families → Families → Families
either a b = record { v4 = a.v4 || b.v4; v6 = a.v6 || b.v6 }

-- the families whose prefixes have path identifiers in one direction at least
abbrev pub identified_families : RouteOffer → RouteOffer → Families
identified_families own peers =
    either (received_form own peers).identified (sent_form own peers).identified

-- IPv4 routes may have IPv6 next hops in both directions
abbrev pub both_have_next_hops : RouteOffer → RouteOffer → Bool
both_have_next_hops own peers =
    (received_form own peers).ipv6_next_hops && (sent_form own peers).ipv6_next_hops

-- they settle one of both
abbrev pub settle_something : RouteOffer → RouteOffer → Bool
settle_something own peers =
    (identified_families own peers).v4
    || ((identified_families own peers).v6 || both_have_next_hops own peers)
