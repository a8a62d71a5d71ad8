-- What two systems settle that are configured for one another.
use Rattle.std.proofs.Common.{◌≡◌, ◌∙◌, ℕ, ◌==◌, Bool, true, false, ◌&&◌, if◌then◌else◌, List, Option, None, Some, is_some, min, refl, sym, ap, arith}
use Rattle.std.proofs.Math.Bool.{and_comm}
use Rattle.std.proofs.Math.Nat.{min_comm}
use Rattle.std.proofs.lemmas.Bool.{cases_Bool}
use Rattle.bgp_open.specs.declared.config.Config.{Config}
use Rattle.bgp_open.specs.declared.families.Families.{Families}
use Rattle.bgp_open.specs.declared.link.Link.{Link}
use Rattle.bgp_open.specs.declared.route_offer.RouteOffer.{RouteOffer}
use Rattle.bgp_open.specs.Families.{intersection}
use Rattle.bgp_open.specs.Link.{link_of}
use Rattle.bgp_open.specs.Open.{open_of}
use Rattle.bgp_open.specs.RouteForm.{form_between}
use Rattle.bgp_open.specs.TwoEnds.{AreEnds, ArePeers, SettleEnds}

is_there : (b : Bool) (n : ℕ) → is_some (if b then Some n else None) ≡ b
is_there true n = refl
is_there false n = refl

exchanged : (a b : Families) → intersection a b ≡ intersection b a
exchanged a b = λ i. record { v4 = and_comm a.v4 b.v4 i; v6 = and_comm a.v6 b.v6 i }

pub settle_ends : SettleEnds
settle_ends config other octets others p = record {
  hold = ap (min config.parts.hold) p.others_own.hold ∙ min_comm config.parts.hold other.parts.hold ∙ ap (min other.parts.hold) (sym p.own.hold);
  as4 =
      ap (λ (n : Option ℕ). config.parts.as4 && is_some n) p.others_own.as_number
      ∙ ap (λ (b : Bool). config.parts.as4 && b) (is_there other.parts.as4 other.parts.local_as)
      ∙ and_comm config.parts.as4 other.parts.as4
      ∙ ap (λ (b : Bool). other.parts.as4 && b) (sym (is_there config.parts.as4 config.parts.local_as))
      ∙ ap (λ (n : Option ℕ). other.parts.as4 && is_some n) (sym p.own.as_number);
  families =
      ap (intersection config.parts.families) p.others_own.families
      ∙ exchanged config.parts.families other.parts.families
      ∙ ap (intersection other.parts.families) (sym p.own.families);
  internal =
      ap (λ (n : ℕ). config.parts.local_as == n) p.peer_as
      ∙ same_test config.parts.local_as other.parts.local_as
      ∙ ap (λ (n : ℕ). other.parts.local_as == n) (sym p.others_peer_as);
  sent =
      ap (λ (offer : RouteOffer). form_between config.parts.offers offer) p.others_offers
      ∙ ap (λ (offer : RouteOffer). form_between offer other.parts.offers) (sym p.offers);
  received =
      ap (λ (offer : RouteOffer). form_between offer config.parts.offers) p.others_offers
      ∙ ap (λ (offer : RouteOffer). form_between other.parts.offers offer) (sym p.offers);
}
  where
    same_test : (a b : ℕ) → (a == b) ≡ (b == a)
    same_test a b = grind (arith)
