-- What the OPENs of a session offer of messages that aren't those of every session.
use Rattle.std.specs.Prelude.{◌≡◌, Bool, false, IsTrue, List, ℕ, Option, None, Some}
use Rattle.bgp_open.specs.Offer as offer
use Rattle.bgp_open.specs.Open.{open_of}
use Rattle.bgp_open.specs.OpenFault.{IsWellFormed}
use Rattle.mrt.specs.Layout.{body_of, content_in, form_of, header_of}
use Rattle.mrt.specs.declared.layout.Form.TheVariants as forms
use Rattle.mrt_sessions.specs.File.{Located}
use Rattle.bgp_check.specs.Refresh.{offers_refresh}

-- ---- extended messages (RFC 8654)

-- a whole and well-formed OPEN offers them
abbrev pub OffersExtended : List ℕ → Type 0
OffersExtended octets =
    IsWellFormed octets × IsTrue (offer.offers_extended (open_of octets).capabilities)

abbrev pub content_of : Located → List ℕ
content_of named = content_in (header_of named.octets) (body_of named.octets)

-- and the local system sent it, or received it
abbrev pub SendsOffer : Located → Type 0
SendsOffer named =
    (form_of (header_of named.octets).subtype ≡ Some forms.Sent) × OffersExtended (content_of named)

abbrev pub HearsOffer : Located → Type 0
HearsOffer named =
    (form_of (header_of named.octets).subtype ≡ Some forms.Received)
    × OffersExtended (content_of named)

-- there is an OPEN, and it offers them
abbrev pub extended_in : Option (List ℕ) → Bool
extended_in None = false
extended_in (Some octets) = offer.offers_extended (open_of octets).capabilities

-- ---- route refresh (RFC 2918, 2)

-- there is an OPEN, and it offers that
abbrev pub refresh_in : Option (List ℕ) → Bool
refresh_in None = false
refresh_in (Some octets) = offers_refresh (open_of octets).capabilities
