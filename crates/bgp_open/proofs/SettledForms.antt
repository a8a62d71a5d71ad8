-- How routes are spelled where little is offered.
use Rattle.std.proofs.Common.{◌≡◌, ◌∙◌, Bool, true, false, IsTrue, refl, ap}
use Rattle.std.proofs.Math.Bool.{and_comm}
use Rattle.bgp_open.specs.declared.config.Config.{Config}
use Rattle.bgp_open.specs.declared.families.Families.{Families}
use Rattle.bgp_open.specs.declared.route_form.RouteForm.{RouteForm}
use Rattle.bgp_open.specs.declared.route_offer.RouteOffer.{RouteOffer}
use Rattle.bgp_open.specs.Families.{intersection, no_families}
use Rattle.bgp_open.specs.Link.{link_of}
use Rattle.bgp_open.specs.Open.{OpenFields}
use Rattle.bgp_open.specs.RouteForm.{plain_form, received_form, sent_form}
use Rattle.bgp_open.specs.RouteOffer.{nothing, offers_next_hops, route_offer_in}

is_false : (b : Bool) → (IsTrue b → ⊥) → b ≡ false
is_false true h = absurd (h refl)
is_false false h = refl

pub none_shared : (families : Families) → intersection families no_families ≡ no_families
none_shared families = λ i. record { v4 = and_comm families.v4 false i; v6 = and_comm families.v6 false i }

abbrev pub without_next_hops : Families → RouteForm
without_next_hops families = record { identified = families; ipv6_next_hops = false }

pub forms_are_plain : (config : Config) (message : OpenFields) → config.parts.offers ≡ nothing → (¬ IsTrue (offers_next_hops message.capabilities))
    → ((link_of config message).received ≡ plain_form) × ((link_of config message).sent ≡ plain_form)
forms_are_plain config message none without = (
  ap (λ (own : RouteOffer). received_form own (route_offer_in message)) none ∙ ap without_next_hops (none_shared (route_offer_in message).sends),
  ap (λ (own : RouteOffer). sent_form own (route_offer_in message)) none
      ∙ ap (λ (b : Bool). let form : RouteForm = record { identified = record { v4 = false; v6 = false }; ipv6_next_hops = b } in form)
      (is_false (offers_next_hops message.capabilities) without),
)
