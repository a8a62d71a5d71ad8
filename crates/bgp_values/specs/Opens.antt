-- What the OPENs of a session settle about how its UPDATEs are read: in each direction the last one
-- before a message counts.
use Rattle.std.specs.Prelude.{◌≡◌, ◌++◌, ◌&&◌, not, Bool, true, ℕ, List, [], ◌∷◌, All}
use Rattle.std.specs.Prelude.{Option, None, Some}
use Rattle.std.specs.List.{list_any}
use Rattle.bgp_open.specs.declared.route_form.RouteForm.{RouteForm}
use Rattle.bgp_open.specs.Offer.{is_as4}
use Rattle.bgp_open.specs.Open.{OpenFields, open_of}
use Rattle.bgp_open.specs.OpenFault.{IsWellFormed}
use Rattle.bgp_open.specs.RouteForm.{plain_form, received_form, sent_form}
use Rattle.bgp_open.specs.RouteOffer.{route_offer_in}
use Rattle.bgp_values.specs.declared.opens.Direction.{Direction}
use Rattle.bgp_values.specs.declared.opens.Direction.TheVariants.{Received, Sent}
use Rattle.bgp_values.specs.declared.opens.Offered.{Offered}
use Rattle.bgp_values.specs.declared.opens.Opens.{Opens}
use Rattle.bgp_values.specs.declared.opens.Reading.{Reading}

-- what an OPEN offers: how routes are spelled (RFC 7911, 4; RFC 8950, 4), and AS numbers of four
-- octets (RFC 6793, 3)
abbrev pub offered_by : OpenFields → Offered
offered_by fields = record {
  routes = route_offer_in fields;
  as4 = list_any is_as4 fields.capabilities;
}

-- Of the messages that went one way: what the last OPEN offers that is well-formed, if there is one.
-- One of another version, or whose parameters are malformed or unknown, doesn't count.
abbrev pub IsLastOffer : List (List ℕ) → Option Offered → Type 0
IsLastOffer messages None = All (λ message. ¬ IsWellFormed message) messages
IsLastOffer messages (Some offered) =
    (before after : List (List ℕ)) × (octets : List ℕ)
    × (messages ≡ before ++ octets ∷ after) × IsWellFormed octets
    × All (λ message. ¬ IsWellFormed message) after × (offered ≡ offered_by (open_of octets))

-- of the messages that were received, and of those that were sent
pub record AreOpens (received sent : List (List ℕ)) (opens : Opens) : Type 0 where
  pub last_received : IsLastOffer received opens.received
  pub last_sent : IsLastOffer sent opens.sent

-- a message went one way
abbrev pub received_with : Direction → List ℕ → List (List ℕ) → List (List ℕ)
received_with Received octets received = received ++ octets ∷ []
received_with Sent octets received = received

abbrev pub sent_with : Direction → List ℕ → List (List ℕ) → List (List ℕ)
sent_with Received octets sent = sent
sent_with Sent octets sent = sent ++ octets ∷ []

-- no OPEN that went this way lacks AS numbers of four octets
abbrev pub may_have_as4 : Option Offered → Bool
may_have_as4 None = true
may_have_as4 (Some offered) = offered.as4

-- how routes are spelled that go this way, by what both OPENs offer
abbrev pub form_between : Offered → Offered → Direction → RouteForm
form_between received sent Received = received_form sent.routes received.routes
form_between received sent Sent = sent_form sent.routes received.routes

-- no OPEN settles anything alone
abbrev pub form_by : Option Offered → Option Offered → Direction → RouteForm
form_by None sent direction = plain_form
form_by (Some received) None direction = plain_form
form_by (Some received) (Some sent) direction = form_between received sent direction

-- How a message is read that goes this way. AS numbers have two octets if that is given, or an OPEN
-- lacks four.
abbrev pub reading_by : Bool → Direction → Opens → Reading
reading_by as2 direction opens = record {
  form = form_by opens.received opens.sent direction;
  as4 = (not as2 && may_have_as4 opens.received) && may_have_as4 opens.sent;
}
