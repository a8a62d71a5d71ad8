-- What an OPEN that was sent lacks of the local system's own, part by part (RFC 4271, 4.2; RFC
-- 4760, 8; RFC 6793, 4.1; RFC 8654, 4; RFC 7911, 4; RFC 8950, 4).
use Rattle.std.specs.Prelude.{◌≡◌, ◌≢◌, ◌↔◌, ◌⊎◌, if◌then◌else◌, ℕ, List, Option, None, Some}
use Rattle.std.specs.Prelude.{IsNone}
use Rattle.bgp_wire.specs.AsNumber.{two_octet_as}
use Rattle.bgp_open.specs.declared.config.Config.{Config}
use Rattle.bgp_open.specs.Offer.{families_of, as_number_of, offers_extended}
use Rattle.bgp_open.specs.Open.{OpenFields, open_of}
use Rattle.bgp_open.specs.OpenFault.{IsWellFormed, IsAnswered}
use Rattle.bgp_open.specs.OwnOpen.{IsOwnOpen}
use Rattle.bgp_open.specs.RouteOffer.{nothing, route_offer_in}
use Rattle.bgp_open.specs.declared.route_offer.RouteOffer.{RouteOffer}
use Rattle.bgp_parts.specs.declared.own_open.Differing.{Differing}
use Rattle.bgp_parts.specs.declared.own_open.OpenDifferences.{OpenDifferences}
use Rattle.bgp_parts.specs.declared.own_open.OwnOpenParts as declared
use Rattle.bgp_parts.specs.declared.own_open.OwnOpenParts.TheVariants as parts

-- a part is there exactly where what was sent isn't what is configured, and tells both
abbrev pub IsPart : {X : Type 0} → X → X → Option (Differing X) → Type 0
IsPart sent configured None = sent ≡ configured
IsPart sent configured (Some part) =
    (sent ≢ configured) × (part.sent ≡ sent) × (part.configured ≡ configured)

-- the part on what is offered about routes: there is none either where nothing is configured
abbrev pub IsOffersPart : RouteOffer → RouteOffer → Option (Differing RouteOffer) → Type 0
IsOffersPart sent configured None = (configured ≡ nothing) ⊎ (sent ≡ configured)
IsOffersPart sent configured (Some part) =
    (configured ≢ nothing) × IsPart sent configured (Some part)

-- each field of an OPEN that may differ
pub record AreDifferences (config : Config) (message : OpenFields) (told : OpenDifferences)
    : Type 0 where
  pub my_as : IsPart message.my_as (two_octet_as config.parts.local_as) told.my_as
  pub hold : IsPart message.hold config.parts.hold told.hold
  pub id : IsPart message.id config.parts.local_id told.id
  pub families : IsPart (families_of message.capabilities) config.parts.families told.families
  pub as_number : IsPart (as_number_of message.capabilities)
      (if config.parts.as4 then Some config.parts.local_as else None) told.as_number
  pub extended : IsPart (offers_extended message.capabilities) config.parts.session.extended
      told.extended
  pub offers : IsOffersPart (route_offer_in message) config.parts.offers told.offers

-- the fault that is answered, or what differs of an OPEN without one
abbrev pub AreOwnOpenParts : Config → List ℕ → declared.OwnOpenParts → Type 0
AreOwnOpenParts config octets (parts.Malformed fault) = IsAnswered octets fault
AreOwnOpenParts config octets (parts.Differing told) =
    IsWellFormed octets × AreDifferences config (open_of octets) told

-- no field differs
pub record HasNoDifference (told : OpenDifferences) : Type 0 where
  pub my_as : IsNone told.my_as
  pub hold : IsNone told.hold
  pub id : IsNone told.id
  pub families : IsNone told.families
  pub as_number : IsNone told.as_number
  pub extended : IsNone told.extended
  pub offers : IsNone told.offers

-- there is no part
abbrev pub LacksNothing : declared.OwnOpenParts → Type 0
LacksNothing (parts.Malformed fault) = ⊥
LacksNothing (parts.Differing told) = HasNoDifference told

-- there is no part exactly where it is the own OPEN
abbrev pub OwnOpenLacksNothing : Type 0
OwnOpenLacksNothing =
    (config : Config) (octets : List ℕ) (told : declared.OwnOpenParts)
    → AreOwnOpenParts config octets told → LacksNothing told ↔ IsOwnOpen config octets
