-- Either nothing is offered, or something.
use Rattle.std.proofs.Common.{◌≡◌, ◌++◌, Bool, true, false, codes, refl}
use Rattle.bgp_open.specs.declared.route_offer.RouteOffer.{RouteOffer}
use Rattle.bgp_open.specs.RouteOffer.{nothing}
use Rattle.bgp_why_parts.specs.Offers.{offer_text, offers_something}
use Rattle.bgp_check_text.specs.JudgeLine.{offers_option}

abbrev offering : (a b c d e : Bool) → RouteOffer
offering a b c d e = record { sends = record { v4 = a; v6 = b }; receives = record { v4 = c; v6 = d }; next_hops = e }

by_each : (a b c d e : Bool) → ¬ (offering a b c d e ≡ nothing) → offers_something (offering a b c d e) ≡ true
by_each true b c d e some = refl
by_each false true c d e some = refl
by_each false false true d e some = refl
by_each false false false true e some = refl
by_each false false false false true some = refl
by_each false false false false false some = absurd (some refl)

something : (offers : RouteOffer) → ¬ (offers ≡ nothing) → offers_something offers ≡ true
something offers some = by_each offers.sends.v4 offers.sends.v6 offers.receives.v4 offers.receives.v6 offers.next_hops some

text_by : (offers : RouteOffer) → offers_something offers ≡ true → offers_option offers ≡ codes " --offers " ++ offer_text offers
unfolding offers_option
text_by offers some = rw some refl

pub something_text : (offers : RouteOffer) → ¬ (offers ≡ nothing) → offers_option offers ≡ codes " --offers " ++ offer_text offers
something_text offers some = text_by offers (something offers some)
