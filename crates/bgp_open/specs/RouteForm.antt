-- How routes are spelled in one direction of a session, by what both OPENs offer.
use Rattle.std.specs.Prelude.{false}
use Rattle.bgp_open.specs.Families.{intersection, no_families}
use Rattle.bgp_open.specs.declared.route_form.RouteForm.{RouteForm}
use Rattle.bgp_open.specs.declared.route_offer.RouteOffer.{RouteOffer}

-- no path identifiers, and IPv4 next hops of IPv4 routes alone (RFC 4271, 4.3; RFC 4760, 3)
abbrev pub plain_form : RouteForm
plain_form = record { identified = no_families; ipv6_next_hops = false }

-- From a sender to a receiver: path identifiers for the families of which the sender offers to send
-- several paths and the receiver to receive them (RFC 7911, 5); IPv6 next hops of IPv4 routes where
-- the receiver offers them, whatever the sender offers (RFC 8950, 4: who offers them can receive
-- them)
abbrev pub form_between : RouteOffer → RouteOffer → RouteForm
form_between sender receiver = record {
  identified = intersection sender.sends receiver.receives;
  ipv6_next_hops = receiver.next_hops;
}

-- what the local system receives, by its own offer and the peer's
abbrev pub received_form : RouteOffer → RouteOffer → RouteForm
received_form own peers = form_between peers own

-- what it sends
abbrev pub sent_form : RouteOffer → RouteOffer → RouteForm
sent_form own peers = form_between own peers
