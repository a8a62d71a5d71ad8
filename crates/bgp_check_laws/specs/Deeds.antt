-- What the laws say of what was done at a no: its text is visible.
use Rattle.std.specs.Prelude.{ℕ, Bool, List, All}
use Rattle.bgp_prefix.specs.Shown.{ShownRecord}
use Rattle.bgp_prefix.specs.declared.session.Session.{Session}
use Rattle.bgp_wire.specs.declared.header.Limit.{Limit}
use Rattle.bgp_open.specs.declared.route_form.RouteForm.{RouteForm}
use Rattle.bgp_check.specs.Answered.{AnswerValue}
use Rattle.bgp_why.specs.declared.endpoint.Endpoint.{Endpoint}
use Rattle.bgp_why.specs.declared.other_orders.OtherOrders.{OtherOrders}
use Rattle.bgp_why.specs.declared.place.Place.{Place}
use Rattle.bgp_check_text.specs.Reason.{IsReasonTo}
use Rattle.bgp_check_text.specs.SentDeed.{IsSentDeed}
use Rattle.bgp_visible_laws.specs.Laws.{HasOctets}
use Rattle.bgp_visible_laws.specs.Visible.{IsVisible}

-- what the impossible record shows was done, and what is wrong with it
abbrev pub DeedsAreVisible : Type 0
DeedsAreVisible =
    (session : Session) (sent : Limit) (first : ℕ) (is_recording : Bool) (peer : Endpoint)
    (places : ℕ → ℕ → Place) (instead : OtherOrders) (records : List ShownRecord)
    (answer : AnswerValue) (deed lines : List ℕ) → All HasOctets records
    → IsReasonTo session sent first is_recording peer places instead records answer deed lines
    → IsVisible deed

-- what a message shows was done that no order explains
abbrev pub SentDeedsAreVisible : Type 0
SentDeedsAreVisible =
    (session : Session) (sent : Limit) (peer : Endpoint) (form : RouteForm) (second : ℕ)
    (octets text : List ℕ) → IsSentDeed session sent peer form second octets text
    → IsVisible text
