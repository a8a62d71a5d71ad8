-- Offers are the same where each of their parts is.
use Rattle.std.proofs.Common.{◌≡◌, ◌↔◌, ◌∙◌, Bool, true, false, IsTrue, ◌&&◌, refl, ap, subst}
use Rattle.std.proofs.lemmas.Bool.{and_parts, and_from}
use Rattle.std.proofs.Math.Bool.{beq}
use Rattle.bgp_open.specs.declared.route_offer.RouteOffer.{RouteOffer}

same_bit : (x y : Bool) → beq x y ≡ true → x ≡ y
same_bit true true e = refl
same_bit true false e = absurd (cc)
same_bit false true e = absurd (cc)
same_bit false false e = refl

itself : (x : Bool) → beq x x ≡ true
itself true = refl
itself false = refl

-- each part is the same
abbrev have_same_parts : RouteOffer → RouteOffer → Bool
have_same_parts a b =
    (beq a.sends.v4 b.sends.v4 && beq a.sends.v6 b.sends.v6)
    && ((beq a.receives.v4 b.receives.v4 && beq a.receives.v6 b.receives.v6) && beq a.next_hops b.next_hops)

abbrev offer_with : Bool → Bool → Bool → Bool → Bool → RouteOffer
offer_with s4 s6 r4 r6 hops =
    record { sends = record { v4 = s4; v6 = s6 }; receives = record { v4 = r4; v6 = r6 }; next_hops = hops }

pub same_parts : (a b : RouteOffer) → (IsTrue (have_same_parts a b) ↔ (a ≡ b))
same_parts a b = (
  λ e.
      let both = and_parts _ _ e in
      let sends = and_parts _ _ both.0 in
      let rest = and_parts _ _ both.1 in
      let receives = and_parts _ _ rest.0 in
      ap (λ (x : Bool). offer_with x a.sends.v6 a.receives.v4 a.receives.v6 a.next_hops) (same_bit a.sends.v4 b.sends.v4 sends.0)
      ∙ ap (λ (x : Bool). offer_with b.sends.v4 x a.receives.v4 a.receives.v6 a.next_hops) (same_bit a.sends.v6 b.sends.v6 sends.1)
      ∙ ap (λ (x : Bool). offer_with b.sends.v4 b.sends.v6 x a.receives.v6 a.next_hops) (same_bit a.receives.v4 b.receives.v4 receives.0)
      ∙ ap (λ (x : Bool). offer_with b.sends.v4 b.sends.v6 b.receives.v4 x a.next_hops) (same_bit a.receives.v6 b.receives.v6 receives.1)
      ∙ ap (λ (x : Bool). offer_with b.sends.v4 b.sends.v6 b.receives.v4 b.receives.v6 x) (same_bit a.next_hops b.next_hops rest.1),
  λ same.
      subst (λ (o : RouteOffer). have_same_parts a o ≡ true) same
      (and_from _ _ (and_from _ _ (itself a.sends.v4) (itself a.sends.v6))
      (and_from _ _ (and_from _ _ (itself a.receives.v4) (itself a.receives.v6)) (itself a.next_hops))),
)
