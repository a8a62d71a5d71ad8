-- No part is told of an OPEN exactly where it is the local system's own.
use Rattle.std.proofs.Common.{◌≡◌, ◌≢◌, ◌∙◌, ◌⊎◌, inl, inr, Bool, true, false, Option, None, Some, refl, sym}
use Rattle.std.specs.Prelude.{IsNone, IfSome, IfNone}
use Rattle.bgp_open.specs.declared.route_offer.RouteOffer.{RouteOffer}
use Rattle.bgp_open.specs.RouteOffer.{nothing}
use Rattle.bgp_open.proofs.LeastFault.{none_if_well_formed}
use Rattle.bgp_parts.specs.declared.own_open.Differing.{Differing}
use Rattle.bgp_parts.specs.declared.own_open.OwnOpenParts.TheVariants as parts
use Rattle.bgp_parts.specs.OwnOpenParts.{IsOffersPart, IsPart, OwnOpenLacksNothing}

-- where no part is told, what was sent is what is configured, and the other way
is_configured : {X : Type 0} (sent configured : X) (part : Option (Differing X))
    → IsPart sent configured part → IsNone part → sent ≡ configured
is_configured sent configured None same none = same
is_configured sent configured (Some part) differs none = absurd (cc)

is_none : {X : Type 0} (sent configured : X) (part : Option (Differing X))
    → IsPart sent configured part → sent ≡ configured → IsNone part
is_none sent configured None told same = refl
is_none sent configured (Some part) told same = absurd (told.0 same)

pub true_or_false : true ≡ false → ⊥
true_or_false e = absurd cc

-- and of what is offered about routes
is_offered : (sent configured : RouteOffer) (part : Option (Differing RouteOffer))
    → IsOffersPart sent configured part → IsNone part → (configured ≡ nothing) ⊎ (sent ≡ configured)
is_offered sent configured None same none = same
is_offered sent configured (Some part) differs none = absurd (cc)

no_offers_part : (sent configured : RouteOffer) (part : Option (Differing RouteOffer))
    → IsOffersPart sent configured part → (configured ≡ nothing) ⊎ (sent ≡ configured) → IsNone part
no_offers_part sent configured None told own = refl
no_offers_part sent configured (Some part) told (inl none) = absurd (told.0 none)
no_offers_part sent configured (Some part) told (inr same) = absurd (told.1.0 same)

pub own_open_lacks_nothing : OwnOpenLacksNothing
own_open_lacks_nothing config octets (parts.Malformed fault) answered =
    (λ nothing. absurd nothing, λ own. absurd (none_if_well_formed octets fault own.form answered))
own_open_lacks_nothing config octets (parts.Differing told) (well, are) = (
  λ none. record {
    form = well;
    my_as = is_configured _ _ told.my_as are.my_as none.my_as;
    hold = is_configured _ _ told.hold are.hold none.hold;
    id = is_configured _ _ told.id are.id none.id;
    families = is_configured _ _ told.families are.families none.families;
    as_number = is_configured _ _ told.as_number are.as_number none.as_number;
    extended = is_configured _ _ told.extended are.extended none.extended;
    offers = is_offered _ _ told.offers are.offers none.offers;
  },
  λ own. record {
    my_as = is_none _ _ told.my_as are.my_as own.my_as;
    hold = is_none _ _ told.hold are.hold own.hold;
    id = is_none _ _ told.id are.id own.id;
    families = is_none _ _ told.families are.families own.families;
    as_number = is_none _ _ told.as_number are.as_number own.as_number;
    extended = is_none _ _ told.extended are.extended own.extended;
    offers = no_offers_part _ _ told.offers are.offers own.offers;
  },
)

-- what a comparison tells is the part
pub is_part : {X : Type 0} (same : Bool) (sent configured said wanted : X) (told : Option (Differing X))
    → sent ≡ said → configured ≡ wanted
    → IfSome told (λ d. same ≡ false)
    → IfSome told (λ d. d.sent ≡ sent) → IfSome told (λ d. d.configured ≡ configured)
    → IfNone told (same ≡ true)
    → (same ≡ true → sent ≡ configured) → (same ≡ false → sent ≢ configured)
    → IsPart said wanted told
is_part same sent configured said wanted None is_said is_wanted some of_sent of_configured none equal other =
    sym is_said ∙ equal none ∙ is_wanted
is_part same sent configured said wanted (Some d) is_said is_wanted some of_sent of_configured none equal other =
    (λ e. other some (is_said ∙ e ∙ sym is_wanted), of_sent ∙ is_said, of_configured ∙ is_wanted)

-- the part on what is offered about routes, where something is configured
pub is_offers_part : (sent configured : RouteOffer) (told : Option (Differing RouteOffer)) → configured ≢ nothing → IsPart sent configured told
    → IsOffersPart sent configured told
is_offers_part sent configured None some part = inr part
is_offers_part sent configured (Some d) some part = (some, part)
