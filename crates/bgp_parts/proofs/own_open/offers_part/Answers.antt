use Rattle.std.proofs.Common.{◌≡◌, sym, ◌∙◌, true, false, refl}
use Rattle.bgp_open.specs.RouteOffer.{nothing}
use Rattle.bgp_open.proofs.OneOffer.{same_parts}
use Rattle.bgp_parts.proofs.OwnOpen.{is_offers_part, is_part, true_or_false}
use Rattle.bgp_parts.proofs.own_open.offers_part.Goals as goal

pub returns : goal.returns
returns c =
    let configured = c.args.config.now.parts.offers in
    let same = same_parts c.in_open.result configured in
    is_offers_part _ configured c.unless_equal.result (λ none. true_or_false (sym (c.is_nothing.ensures.1 none) ∙ c.if-is_nothing.false))
    (is_part _ _ _ _ _ c.unless_equal.result c.in_open.ensures refl
    c.unless_equal.ensures.some c.unless_equal.ensures.sent c.unless_equal.ensures.configured c.unless_equal.ensures.none
    same.0 (λ other is. true_or_false (sym (same.1 is) ∙ other)))
