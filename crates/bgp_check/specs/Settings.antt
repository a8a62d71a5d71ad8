-- The settings that an OPEN tells, and the widest ones otherwise.
use Rattle.std.specs.Prelude.{◌<◌, ◌^◌, true, is_some, ℕ}
use Rattle.bgp_prefix.specs.declared.session.Session.{Session}
use Rattle.bgp_open.specs.declared.config.ConfigParts.{ConfigParts}
use Rattle.bgp_open.specs.Offer.{as_number_of, families_of, offers_extended}
use Rattle.bgp_open.specs.Open.{OpenFields}
use Rattle.bgp_open.specs.RouteOffer.{route_offer_in}
use Rattle.bgp_check.specs.Configurations.{as_of}

-- The settings of the end whose OPEN says this, where the peer has to have that AS number. What no
-- OPEN says is as wide as it can be: the OPEN may be delayed, and the peer's is waited for one
-- second.
abbrev pub settings_of : Session → OpenFields → ℕ → ConfigParts
settings_of session message peer_as = record {
  local_as = as_of message;
  peer_as = peer_as;
  local_id = message.id;
  hold = message.hold;
  families = families_of message.capabilities;
  as4 = is_some (as_number_of message.capabilities);
  delay_open = true;
  large_hold = 1;
  session = record session { extended = offers_extended message.capabilities };
  offers = route_offer_in message;
}

-- the numbers of an OPEN are such as its fields have room for, as those of each that is read
pub record FitFields (message : OpenFields) : Type 0 where
  pub as_number : as_of message < 2 ^ 32
  pub hold : message.hold < 2 ^ 16
  pub id : message.id < 2 ^ 32
