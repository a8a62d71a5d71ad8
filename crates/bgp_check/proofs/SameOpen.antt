-- Configurations of one OPEN differ in what no OPEN says alone.
use Rattle.std.proofs.Common.{◌≡◌, Bool, true, false, IsTrue, ℕ, List, Option, None, Some, if◌then◌else◌, refl, sym, subst, ◌∙◌}
use Rattle.bgp_prefix.specs.declared.session.Session.{Session}
use Rattle.bgp_wire.specs.AsNumber.{needs_four_octets, two_octet_as}
use Rattle.bgp_open.specs.declared.config.Config.{Config}
use Rattle.bgp_check.specs.Alike.{AreAlike}
use Rattle.bgp_check.specs.Configurations.{IsOf}

abbrev pub said : Bool → ℕ → Option ℕ
said as4 number = if as4 then Some number else None

same_said : (a b : Bool) (x y : ℕ) → said a x ≡ said b y → a ≡ b
same_said true true x y e = refl
same_said true false x y e = absurd (cc)
same_said false true x y e = absurd (cc)
same_said false false x y e = refl

number_said : (a : Bool) (x y : ℕ) → said a x ≡ said a y → a ≡ true → x ≡ y
number_said true x y e is = cc
number_said false x y e is = absurd (cc)

pub by_cases : (a : Bool) (P : Type 0) → (a ≡ true → P) → (a ≡ false → P) → P
by_cases true P four two = four refl
by_cases false P four two = two refl

else_of : (b : Bool) (x y : ℕ) → ¬ IsTrue b → (if b then x else y) ≡ y
else_of true x y none = absurd (none refl)
else_of false x y none = refl

pub two_octets : (config : Config) → config.parts.as4 ≡ false → two_octet_as config.parts.local_as ≡ config.parts.local_as
two_octets config is = else_of (needs_four_octets config.parts.local_as) 23456 config.parts.local_as (config.valid.two_octets is).0

pub alike_of : (session : Session) (own : List ℕ) (c d : Config) → IsOf session (Some own) c → IsOf session (Some own) d → AreAlike c d
alike_of session own c d x y =
    let as4 : d.parts.as4 ≡ c.parts.as4 = same_said d.parts.as4 c.parts.as4 d.parts.local_as c.parts.local_as (sym y.1.as_number ∙ x.1.as_number) in
    let four : c.parts.as4 ≡ true → d.parts.local_as ≡ c.parts.local_as =
    number_said c.parts.as4 d.parts.local_as c.parts.local_as
    (subst (λ (v : Bool). said v d.parts.local_as ≡ said c.parts.as4 c.parts.local_as) as4 (sym y.1.as_number ∙ x.1.as_number)) in
    let two : c.parts.as4 ≡ false → d.parts.local_as ≡ c.parts.local_as =
    λ is. sym (two_octets d (as4 ∙ is)) ∙ sym y.1.my_as ∙ x.1.my_as ∙ two_octets c is in
    let local_as : d.parts.local_as ≡ c.parts.local_as = by_cases c.parts.as4 (d.parts.local_as ≡ c.parts.local_as) four two in
    let local_id : d.parts.local_id ≡ c.parts.local_id = sym y.1.id ∙ x.1.id in
    let hold : d.parts.hold ≡ c.parts.hold = sym y.1.hold ∙ x.1.hold in
    let families = sym y.1.families ∙ x.1.families in
    let session = y.0 ∙ sym x.0 in
    let offers = y.2 ∙ sym x.2 in
    λ i. record {
      local_as = local_as i;
      peer_as = d.parts.peer_as;
      local_id = local_id i;
      hold = hold i;
      families = families i;
      as4 = as4 i;
      delay_open = d.parts.delay_open;
      large_hold = d.parts.large_hold;
      session = session i;
      offers = offers i;
    }
