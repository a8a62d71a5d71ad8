use Rattle.std.proofs.Common.{rules, refl}
use Rattle.bgp_parts.proofs.OwnOpen.{is_part}
use Rattle.bgp_parts.proofs.own_open.differences.Goals as goal

pub returns : goal.returns
returns c = record {
  my_as = is_part _ _ _ _ _ _ c.my_as.ensures c.two_octet_as.ensures
      c.unless_equal.ensures.some c.unless_equal.ensures.sent c.unless_equal.ensures.configured c.unless_equal.ensures.none
      (λ e. search rules) (λ e. search rules);
  hold = is_part _ _ _ _ _ _ c.hold.ensures refl
      c.unless_equal-2.ensures.some c.unless_equal-2.ensures.sent c.unless_equal-2.ensures.configured c.unless_equal-2.ensures.none
      (λ e. search rules) (λ e. search rules);
  id = is_part _ _ _ _ _ _ c.id.ensures refl
      c.unless_equal-3.ensures.some c.unless_equal-3.ensures.sent c.unless_equal-3.ensures.configured c.unless_equal-3.ensures.none
      (λ e. search rules) (λ e. search rules);
  families = is_part _ _ _ _ _ _ c.offered_families.ensures refl
      c.unless_equal-4.ensures.some c.unless_equal-4.ensures.sent c.unless_equal-4.ensures.configured c.unless_equal-4.ensures.none
      (λ e. search rules) (λ e. search rules);
  as_number = is_part _ _ _ _ _ _ c.offered_as_number.ensures c.own_as_number.ensures
      c.unless_equal-5.ensures.some c.unless_equal-5.ensures.sent c.unless_equal-5.ensures.configured c.unless_equal-5.ensures.none
      (λ e. search rules) (λ e. search rules);
  extended = is_part _ _ _ _ _ _ c.offers_extended.ensures refl
      c.unless_equal-6.ensures.some c.unless_equal-6.ensures.sent c.unless_equal-6.ensures.configured c.unless_equal-6.ensures.none
      (λ e. search rules) (λ e. search rules);
  offers = c.offers_part.ensures;
}
