-- The configurations of an OPEN: those under which it is the local system's own. And why there is
-- none.
use Rattle.std.specs.Prelude.{◌≡◌, ◌≢◌, ◌⊎◌, Bool, false, if◌then◌else◌, unwrap_or, ℕ, List}
use Rattle.std.specs.Prelude.{Option, None, Some}
use Rattle.bgp_prefix.specs.declared.session.Session.{Session}
use Rattle.bgp_wire.specs.AsNumber.{two_octet_as}
use Rattle.bgp_open.specs.declared.config.Config.{Config}
use Rattle.bgp_open.specs.declared.route_offer.RouteOffer.{RouteOffer}
use Rattle.bgp_open.specs.Config.{IsBadHold}
use Rattle.bgp_open.specs.Offer.{as_number_of, offers_extended}
use Rattle.bgp_open.specs.Open.{OpenFields, open_of}
use Rattle.bgp_open.specs.OwnOpen.{IsOwnOpen}
use Rattle.bgp_open.specs.RouteOffer.{nothing, route_offer_in}
use Rattle.bgp_check.specs.declared.own_fault.OwnFault.{OwnFault}
use Rattle.bgp_check.specs.declared.own_fault.OwnFault.TheVariants.{AsNumber, Identifier, Hold}

-- the session as the end has it that sent this OPEN: it may receive extended messages where the
-- OPEN offers those (RFC 8654, 4)
abbrev pub session_of : Session → Option (List ℕ) → Session
session_of session None = record session { extended = false }
session_of session (Some own) =
    record session { extended = offers_extended (open_of own).capabilities }

-- what the end offers about routes that sent this OPEN: just what the OPEN offers (RFC 7911, 4;
-- RFC 8950, 4), and nothing without one
abbrev pub offers_of : Option (List ℕ) → RouteOffer
offers_of None = nothing
offers_of (Some own) = route_offer_in (open_of own)

-- The configurations of the end whose OPEN this is: those of its session under which it may send
-- the OPEN, and which offer about routes what the OPEN does; where it sent none, all of its session
-- that offer nothing. They agree in whatever an OPEN says, and are free in the AS number that the
-- peer has to have, in DelayOpen (RFC 4271, 8.1.1) and in the large value of the HoldTimer
-- (RFC 4271, 8.2.2).
abbrev pub IsOf : Session → Option (List ℕ) → Config → Type 0
IsOf session None config =
    (config.parts.session ≡ session_of session None) × (config.parts.offers ≡ offers_of None)
IsOf session (Some own) config =
    (config.parts.session ≡ session_of session (Some own)) × IsOwnOpen config own
    × (config.parts.offers ≡ offers_of (Some own))

-- ---- why an OPEN is none's own

-- the AS number that an OPEN says its sender has (RFC 6793, 4.1): that of the capability of
-- four-octet AS numbers, or else My Autonomous System
abbrev pub as_of : OpenFields → ℕ
as_of message = unwrap_or (as_number_of message.capabilities) message.my_as

-- and the one that it says to a system that sends that capability, or doesn't
abbrev pub as_to : Bool → OpenFields → ℕ
as_to as4 message = if as4 then as_of message else message.my_as

-- The AS number is 0 (RFC 7607, 2), or My Autonomous System isn't what stands for the one in the
-- capability: itself, or AS_TRANS above 65535 (RFC 6793, 9)
abbrev pub HasOddAs : OpenFields → Type 0
HasOddAs message = (as_of message ≡ 0) ⊎ (message.my_as ≢ two_octet_as (as_of message))

-- The own faults of an OPEN, for each of which no configuration has it as its own: one of its AS
-- number, a BGP Identifier of 0 (RFC 6286, 2.1), and a Hold Time of 1 or 2 (RFC 4271, 4.2)
abbrev pub own_faults : OpenFields → OwnFault → Type 0
own_faults message AsNumber = HasOddAs message
own_faults message Identifier = message.id ≡ 0
own_faults message Hold = IsBadHold message.hold
