-- What a message shows was done that was sent, wherever it stands among the records of its session.
use Rattle.std.specs.Prelude.{◌≡◌, ◌⊎◌, ℕ, List, [], Option, None, Some}
use Rattle.bgp_prefix.specs.Shown.{Sent, ShownRecord}
use Rattle.bgp_prefix.specs.declared.session.Session.{Session}
use Rattle.bgp_open.specs.RouteForm.{plain_form, sent_form}
use Rattle.bgp_open.specs.RouteOffer.{IsRouteOffer}
use Rattle.bgp_open.specs.declared.route_form.RouteForm.{RouteForm}
use Rattle.bgp_open.specs.declared.route_offer.RouteOffer.{RouteOffer}
use Rattle.bgp_parts.specs.Opens.{HasHeardOpen, HasOwnOpen}
use Rattle.bgp_why.specs.Deed.{IsDeed}
use Rattle.bgp_why.specs.declared.endpoint.Endpoint.{Endpoint}
use Rattle.bgp_wire.specs.declared.header.Limit.{Limit}
use Rattle.bgp_check_text.specs.Shown.{CanBeTold, session_for}

-- ---- how the routes are spelled that an end sends

-- by what both OPENs offer, as no OPEN offers it unless there are both
abbrev pub IsFormBy : Option (List ℕ) → Option (List ℕ) → RouteForm → Type 0
IsFormBy None heard form = form ≡ plain_form
IsFormBy (Some own) None form = form ≡ plain_form
IsFormBy (Some own) (Some heard) form =
    (its : RouteOffer) × (peers : RouteOffer) × IsRouteOffer own its × IsRouteOffer heard peers
    × (form ≡ sent_form its peers)

-- the first well-formed OPENs that these records show as sent and as received
abbrev pub IsSentForm : List ShownRecord → RouteForm → Type 0
IsSentForm records form =
    (own : Option (List ℕ)) × (heard : Option (List ℕ)) × HasOwnOpen records own
    × HasHeardOpen records heard × IsFormBy own heard form

-- ---- the text

-- `sent UPDATE to 192.0.2.1:179`, by the limit of the receiver; nothing of a message that no
-- capture can hold
abbrev pub IsSentDeed : Session → Limit → Endpoint → RouteForm → ℕ → List ℕ → List ℕ → Type 0
IsSentDeed session sent peer form second octets text =
    (CanBeTold session sent (Sent second octets)
    × IsDeed (session_for session sent (Sent second octets)) peer form (Sent second octets) text)
    ⊎ ((¬ CanBeTold session sent (Sent second octets)) × (text ≡ []))
