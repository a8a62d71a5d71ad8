-- A message that a capture of a session can hold.
use Rattle.std.proofs.Common.{◌≡◌, Bool, true, false, not, IsTrue, ℕ, List, refl}
use Rattle.bgp_prefix.specs.declared.session.RouteRefresh.{RouteRefresh}
use Rattle.bgp_prefix.specs.declared.session.RouteRefresh.TheVariants.{NotOffered, PassedOver, Refused}
use Rattle.mrt.specs.Rules.{IsRouteRefresh, IsWholeRefresh}
use Rattle.bgp_check_text.specs.Shown.{IsNotHeld}

pub each_not : (refresh : RouteRefresh) (octets : List ℕ) → ¬ IsNotHeld refresh octets
    → (refresh ≡ Refused → ¬ IsRouteRefresh octets) × (refresh ≡ PassedOver → ¬ IsWholeRefresh octets)
each_not NotOffered octets never = (λ is. absurd (cc), λ is. absurd (cc))
each_not Refused octets never = (λ is. never, λ is. absurd (cc))
each_not PassedOver octets never = (λ is. absurd (cc), λ is. never)

pub none_held : (refresh : RouteRefresh) (octets : List ℕ) → (refresh ≡ Refused → ¬ IsRouteRefresh octets)
    → (refresh ≡ PassedOver → ¬ IsWholeRefresh octets) → ¬ IsNotHeld refresh octets
none_held NotOffered octets refused passed held = held
none_held Refused octets refused passed held = refused refl held
none_held PassedOver octets refused passed held = passed refl held

pub not_true : (b : Bool) → IsTrue (not b) → ¬ IsTrue b
not_true true is so = let k : ⊥ = cc in k
not_true false is so = let k : ⊥ = cc in k

pub true_not : (b : Bool) → ¬ IsTrue b → IsTrue (not b)
true_not true never = absurd (never refl)
true_not false never = refl

pub false_not : (b : Bool) → b ≡ false → ¬ IsTrue b
false_not true is so = let k : ⊥ = cc in k
false_not false is so = let k : ⊥ = cc in k
