-- An OPEN that offers a family is some configuration's own exactly where it has no own fault.
use Rattle.std.proofs.Common.{◌≡◌, Bool, true, false, IsTrue, ℕ, List, Option, None, Some, if◌then◌else◌, is_some, unwrap_or, inl, inr, refl, sym, ap, subst, ◌∙◌, arith}
use Rattle.std.proofs.lemmas.Bool.{cases_eq}
use Rattle.bgp_prefix.specs.declared.session.Session.{Session}
use Rattle.bgp_wire.specs.AsNumber.{needs_four_octets, two_octet_as}
use Rattle.bgp_open.specs.Config.{IsBadHold}
use Rattle.bgp_open.specs.Families.{IsEmpty}
use Rattle.bgp_open.specs.Offer.{as_number_of, families_of}
use Rattle.bgp_open.specs.Open.{OpenFields, open_of}
use Rattle.bgp_open.specs.OpenFault.{IsWellFormed}
use Rattle.bgp_open.specs.OwnOpen.{IsOwnOpen}
use Rattle.bgp_open.specs.declared.config.Config.{Config}
use Rattle.bgp_check.specs.declared.own_fault.OwnFault.{OwnFault}
use Rattle.bgp_check.specs.declared.own_fault.OwnFault.TheVariants.{AsNumber, Identifier, Hold}
use Rattle.bgp_check.specs.Configurations.{HasOddAs, IsOf, as_of, own_faults}
use Rattle.bgp_check.specs.OwnFaults.{OwnFaultsAreAll}
use Rattle.bgp_check.specs.Settings.{FitFields, settings_of}
use Rattle.bgp_check.proofs.Exist.{CanBePeers}
use Rattle.bgp_check.proofs.SameOpen.{by_cases, said, two_octets}

-- ---- an own OPEN has none of the faults

said_true : (as4 : Bool) (number : ℕ) → as4 ≡ true → said as4 number ≡ Some number
said_true true number is = refl
said_true false number is = absurd (cc)

said_false : (as4 : Bool) (number : ℕ) → as4 ≡ false → said as4 number ≡ None
said_false true number is = absurd (cc)
said_false false number is = refl

-- the AS number that it says is the one that is configured
pub as_is : (config : Config) (own : List ℕ) → IsOwnOpen config own → as_of (open_of own) ≡ config.parts.local_as
as_is config own o = by_cases config.parts.as4 (as_of (open_of own) ≡ config.parts.local_as)
    (λ is. ap (λ (v : Option ℕ). unwrap_or v (open_of own).my_as) (o.as_number ∙ said_true config.parts.as4 config.parts.local_as is))
    (λ is. ap (λ (v : Option ℕ). unwrap_or v (open_of own).my_as) (o.as_number ∙ said_false config.parts.as4 config.parts.local_as is)
    ∙ o.my_as ∙ two_octets config is)

never_odd : (config : Config) (own : List ℕ) → IsOwnOpen config own → ¬ HasOddAs (open_of own)
never_odd config own o odd = elim odd [
  | inl none ↦ config.valid.local_as (sym (as_is config own o) ∙ none)
  | inr differs ↦ differs (o.my_as ∙ ap two_octet_as (sym (as_is config own o)))
]

pub none_if_own : (config : Config) (own : List ℕ) → IsOwnOpen config own → (fault : OwnFault) → ¬ own_faults (open_of own) fault
none_if_own config own o AsNumber fault = never_odd config own o fault
none_if_own config own o Identifier fault = config.valid.local_id (sym o.id ∙ fault)
none_if_own config own o Hold fault = config.valid.hold (subst (λ (v : ℕ). IsBadHold v) o.hold fault)

-- ---- without one there is a configuration

-- nothing is wrong with the AS number
pub even_as : (message : OpenFields) → ¬ HasOddAs message → message.my_as ≡ two_octet_as (as_of message)
even_as message never = elim (cases_eq message.my_as (two_octet_as (as_of message))) [
  | inl same ↦ same
  | inr differs ↦ absurd (never (inr differs))
]

pub large_as : (number : ℕ) → IsTrue (needs_four_octets number) → number ≡ two_octet_as number → number ≡ 23456
large_as number large is = is ∙ (let k : two_octet_as number ≡ 23456 = cc in k)

pub few_octets : (number : ℕ) → number ≡ two_octet_as number → ¬ IsTrue (needs_four_octets number)
few_octets number is large = let k = large_as number large is in let x : IsTrue (needs_four_octets 23456) = subst (λ (v : ℕ). IsTrue (needs_four_octets v)) k large in absurd (let z : ⊥ = cc in z)

pub absent : (number : Option ℕ) (otherwise : ℕ) → is_some number ≡ false → unwrap_or number otherwise ≡ otherwise
absent None otherwise is = refl
absent (Some x) otherwise is = absurd (cc)

-- where no capability has it, My Autonomous System does, in two octets
pub two_octets_do : (message : OpenFields) → ¬ HasOddAs message → is_some (as_number_of message.capabilities) ≡ false
    → ¬ IsTrue (needs_four_octets (as_of message))
two_octets_do message never is =
    let same = absent (as_number_of message.capabilities) message.my_as is in
    few_octets (as_of message) (same ∙ even_as message never)

-- the configuration with the settings of the OPEN, where the peer has to have this AS number
pub of_settings : (session : Session) (message : OpenFields) (peer : ℕ) → FitFields message → ¬ IsEmpty (families_of message.capabilities)
    → ((fault : OwnFault) → ¬ own_faults message fault) → CanBePeers (is_some (as_number_of message.capabilities)) peer → Config
of_settings session message peer fit some none can = record {
  parts = settings_of session message peer;
  valid = record {
    local_as = λ e. none AsNumber (inl e);
    peer_as = can.some;
    local_id = none Identifier;
    hold = none Hold;
    families = some;
    large_hold = λ e. absurd (omega arith);
    two_octets = λ e. (two_octets_do message (none AsNumber) e, can.two e);
  };
  fits = record {
    local_as = fit.as_number;
    peer_as = can.fits;
    local_id = fit.id;
    hold = fit.hold;
    large_hold = omega arith;
  };
}

same_number : (number : Option ℕ) (otherwise : ℕ) → number ≡ (if is_some number then Some (unwrap_or number otherwise) else None)
same_number None otherwise = refl
same_number (Some x) otherwise = refl

pub own_if_none : (session : Session) (own : List ℕ) (config : Config) → IsWellFormed own → config.parts ≡ settings_of session (open_of own) config.parts.peer_as
    → ¬ HasOddAs (open_of own) → IsOf session (Some own) config
own_if_none session own config form is never = (
  ap (λ p. p.session) is,
  record {
    form = form;
    my_as = even_as (open_of own) never ∙ ap (λ p. two_octet_as p.local_as) (sym is);
    hold = ap (λ p. p.hold) (sym is);
    id = ap (λ p. p.local_id) (sym is);
    families = ap (λ p. p.families) (sym is);
    as_number = same_number (as_number_of (open_of own).capabilities) (open_of own).my_as ∙ ap (λ p. said p.as4 p.local_as) (sym is);
    extended = ap (λ p. p.session.extended) (sym is);
    offers = inr (ap (λ p. p.offers) (sym is));
  },
  ap (λ p. p.offers) is,
)

itself_can : (message : OpenFields) → FitFields message → ((fault : OwnFault) → ¬ own_faults message fault)
    → CanBePeers (is_some (as_number_of message.capabilities)) (as_of message)
itself_can message fit none = record {
  some = λ e. none AsNumber (inl e);
  fits = fit.as_number;
  two = two_octets_do message (none AsNumber);
}

pub faults : OwnFaultsAreAll
unfolding of_settings
faults session own fit form some = (
  λ x. none_if_own x.0 own x.1.1,
  λ none.
      let message = open_of own in
      let config = of_settings session message (as_of message) fit some none (itself_can message fit none) in
      (config, own_if_none session own config form refl (none AsNumber)),
)
