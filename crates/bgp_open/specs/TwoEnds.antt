-- Two systems that are configured for one another, and what each of them settles with the other.
use Rattle.std.specs.Prelude.{◌≡◌, ℕ, List}
use Rattle.bgp_open.specs.declared.config.Config.{Config}
use Rattle.bgp_open.specs.declared.link.Link.{Link}
use Rattle.bgp_open.specs.Link.{link_of}
use Rattle.bgp_open.specs.Open.{open_of}
use Rattle.bgp_open.specs.OwnOpen.{IsOwnOpen}
use Rattle.bgp_open.specs.RouteOffer.{route_offer_in}

-- each of two configurations has the other's AS number as the peer's, each system sent an OPEN that
-- it may send, and offers in it about routes just what is configured (where nothing is, an own OPEN
-- may offer something)
pub record ArePeers (config other : Config) (octets others : List ℕ) : Type 0 where
  pub peer_as : config.parts.peer_as ≡ other.parts.local_as
  pub others_peer_as : other.parts.peer_as ≡ config.parts.local_as
  pub own : IsOwnOpen config octets
  pub others_own : IsOwnOpen other others
  pub offers : route_offer_in (open_of octets) ≡ config.parts.offers
  pub others_offers : route_offer_in (open_of others) ≡ other.parts.offers

-- the two ends of a session: they have one Hold Time, one width of AS numbers and the same families
-- in use, both peers are internal or both external, and each receives what the other sends
pub record AreEnds (link other : Link) : Type 0 where
  pub hold : link.hold ≡ other.hold
  pub as4 : link.as4 ≡ other.as4
  pub families : link.families ≡ other.families
  pub internal : link.internal ≡ other.internal
  pub sent : link.sent ≡ other.received
  pub received : link.received ≡ other.sent

-- what each of the two settles by the other's OPEN are the ends of a session
abbrev pub SettleEnds : Type 0
SettleEnds =
    (config other : Config) (octets others : List ℕ) → ArePeers config other octets others
    → AreEnds (link_of config (open_of others)) (link_of other (open_of octets))
