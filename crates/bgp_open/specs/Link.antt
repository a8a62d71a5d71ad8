-- What both OPENs settle for a session: a function of the configuration and of the peer's OPEN.
use Rattle.std.specs.Prelude.{◌&&◌, is_some}
use Rattle.std.specs.Prelude.{min}
use Rattle.bgp_open.specs.declared.config.Config.{Config}
use Rattle.bgp_open.specs.declared.link.Link.{Link}
use Rattle.bgp_open.specs.Config.{is_internal}
use Rattle.bgp_open.specs.Families.{intersection}
use Rattle.bgp_open.specs.Offer.{families_of, as_number_of, offers_extended}
use Rattle.bgp_open.specs.Open.{OpenFields}
use Rattle.bgp_open.specs.RouteForm.{received_form, sent_form}
use Rattle.bgp_open.specs.RouteOffer.{route_offer_in}

-- The smaller Hold Time of both (RFC 4271, 4.2); four-octet AS numbers where both sides send that
-- capability, the peer with a length of 4 (RFC 6793, 4.1); the families that both offer (RFC 4760,
-- 8); whether the peer is internal; whether the peer offers extended messages, whatever the local
-- system offers (RFC 8654, 4: who offers that can receive them); and how routes are spelled in each
-- direction, by what both offer (RFC 7911, 5; RFC 8950, 4)
abbrev pub link_of : Config → OpenFields → Link
link_of config message = record {
  hold = min config.parts.hold message.hold;
  as4 = config.parts.as4 && is_some (as_number_of message.capabilities);
  families = intersection config.parts.families (families_of message.capabilities);
  internal = is_internal config.parts;
  extended = offers_extended message.capabilities;
  received = received_form config.parts.offers (route_offer_in message);
  sent = sent_form config.parts.offers (route_offer_in message);
}
