-- The widest settings of an OPEN make a configuration where it offers a family.
use Rattle.std.proofs.Common.{◌≡◌, ◌≢◌, ◌||◌, ◌==◌, ◌∙◌, not, Bool, true, false, IsTrue, ℕ, if◌then◌else◌, is_some, Option, None, Some, inl, inr, refl, IfNone, subst, arith}
use Rattle.std.proofs.lemmas.Bool.{cases_eq}
use Rattle.bgp_prefix.specs.declared.session.Session.{Session}
use Rattle.bgp_wire.specs.AsNumber.{needs_four_octets, two_octet_as}
use Rattle.bgp_open.specs.Config.{IsBadHold, IsConfig}
use Rattle.bgp_open.specs.Families.{IsEmpty}
use Rattle.bgp_open.specs.Offer.{as_number_of, families_of}
use Rattle.bgp_open.specs.Open.{OpenFields}
use Rattle.bgp_open.specs.declared.config.ConfigParts.{ConfigParts}
use Rattle.bgp_check.specs.Configurations.{as_of}
use Rattle.bgp_check.proofs.OwnSettings.{absent, few_octets}
use Rattle.bgp_check.specs.WidestOf.{is_odd_as, other_than, own_as, own_hold, own_settings, some_id}

-- ---- the AS number

odd_or_not : (a b : ℕ) (c : ℕ) → (a == 0) || not (b == c) ≡ false → (a ≢ 0) × (b ≡ c)
odd_or_not a b c is = elim (cases_eq a 0) [
  | inl none ↦ absurd (let k : ⊥ = cc in k)
  | inr some ↦ elim (cases_eq b c) [ inl same ↦ (some, same) | inr differs ↦ absurd (grind arith) ]
]

pub even_if : (message : OpenFields) → is_odd_as message ≡ false → (as_of message ≢ 0) × (message.my_as ≡ two_octet_as (as_of message))
even_if message is = odd_or_not (as_of message) message.my_as (two_octet_as (as_of message)) is

choice : (b : Bool) (x : ℕ) (P : ℕ → Type 0) → P 1 → (b ≡ false → P x) → P (if b then 1 else x)
choice true x P one other = one
choice false x P one other = other refl

one_is_some : (n : ℕ) → n ≡ 1 → n ≢ 0
one_is_some n is e = absurd (omega arith)

pub own_as_is_some : (message : OpenFields) → own_as message ≢ 0
own_as_is_some message = choice (is_odd_as message) (as_of message) (λ (v : ℕ). v ≢ 0) (one_is_some 1 refl) (λ is. (even_if message is).0)

pub own_as_fits : (message : OpenFields) → is_some (as_number_of message.capabilities) ≡ false → ¬ IsTrue (needs_four_octets (own_as message))
own_as_fits message none = choice (is_odd_as message) (as_of message) (λ (v : ℕ). ¬ IsTrue (needs_four_octets v)) (λ t. absurd (let z : ⊥ = cc in z))
    (λ is. few_octets (as_of message) (absent (as_number_of message.capabilities) message.my_as none ∙ (even_if message is).1))

-- ---- identifier and Hold Time

pub some_id_is_some : (message : OpenFields) → some_id message ≢ 0
some_id_is_some message = choice (message.id == 0) message.id (λ (v : ℕ). v ≢ 0) (one_is_some 1 refl) (λ is e. absurd (grind arith))

pub own_hold_is_good : (message : OpenFields) → ¬ IsBadHold (own_hold message)
own_hold_is_good message bad = grind arith

-- ---- the configuration

pub is_config : (session : Session) (message : OpenFields) (peer : ℕ) → ¬ IsEmpty (families_of message.capabilities) → peer ≢ 0
    → (is_some (as_number_of message.capabilities) ≡ false → ¬ IsTrue (needs_four_octets peer)) → IsConfig (own_settings session message peer)
is_config session message peer some is two = record {
  local_as = own_as_is_some message;
  peer_as = is;
  local_id = some_id_is_some message;
  hold = own_hold_is_good message;
  families = some;
  large_hold = λ e. absurd (omega arith);
  two_octets = λ e. (own_as_fits message e, two e);
}

-- where they make none, it offers no family
pub offers_none : (session : Session) (message : OpenFields) (peer : ℕ) → peer ≢ 0
    → (is_some (as_number_of message.capabilities) ≡ false → ¬ IsTrue (needs_four_octets peer)) → ¬ IsConfig (own_settings session message peer)
    → IsEmpty (families_of message.capabilities)
offers_none session message peer is two never = (
  λ t. never (is_config session message peer (λ empty. empty.0 t) is two),
  λ t. never (is_config session message peer (λ empty. empty.1 t) is two),
)

-- the AS number of another peer is one that a configuration can have
pub another_is_some : (number own : ℕ) → own ≢ 0 → (if number == own then other_than number else own) ≢ 0
another_is_some number own is e = grind arith

pub another_fits : (number own : ℕ) → ¬ IsTrue (needs_four_octets own) → ¬ IsTrue (needs_four_octets (if number == own then other_than number else own))
another_fits number own fits large = grind arith

-- what is told of no answer
pub none_by : {A : Type 0} (o : Option A) (P Q : Type 0) → (P → Q) → IfNone o P → IfNone o Q
none_by None P Q f h = f h
none_by (Some x) P Q f h = h

-- parts that are these settings of what an OPEN says
pub none_of : {A : Type 0} (o : Option A) (session : Session) (message said : OpenFields) (peer : ℕ) (parts : ConfigParts) → message ≡ said → peer ≢ 0
    → (is_some (as_number_of message.capabilities) ≡ false → ¬ IsTrue (needs_four_octets peer)) → parts ≡ own_settings session message peer
    → IfNone o (¬ IsConfig parts) → IfNone o (IsEmpty (families_of said.capabilities))
none_of o session message said peer parts same some two is none = none_by o (¬ IsConfig parts) (IsEmpty (families_of said.capabilities))
    (λ never. subst (λ (v : OpenFields). IsEmpty (families_of v.capabilities)) same
    (offers_none session message peer some two (subst (λ (v : ConfigParts). ¬ IsConfig v) is never))) none
