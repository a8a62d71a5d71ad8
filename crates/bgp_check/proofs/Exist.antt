-- The widest configurations: made of one that there is, or of nothing but the peer's OPEN.
use Rattle.std.proofs.Common.{◌≡◌, ◌≢◌, ◌<◌, ◌≤◌, ◌⊎◌, ◌^◌, Bool, true, false, IsTrue, ℕ, List, [], ◌∷◌, Option, None, Some, inl, inr, refl, sym, ap, subst, ◌∙◌, length, arith}
use Rattle.std.proofs.lemmas.Bool.{cases_eq, cases_lt, eq-eqb}
use Rattle.bgp_prefix.specs.declared.session.Session.{Session}
use Rattle.bgp_wire.proofs.Decided.{Either}
use Rattle.bgp_wire.specs.AsNumber.{needs_four_octets}
use Rattle.bgp_open.specs.Config.{is_internal}
use Rattle.bgp_open.specs.Open.{open_of}
use Rattle.bgp_open.specs.OpenFault.{IsReadable}
use Rattle.bgp_open.specs.OpenSubcodes.{peer_as_of}
use Rattle.bgp_open.specs.declared.config.Config.{Config}
use Rattle.bgp_open.specs.declared.config.ConfigParts.{ConfigParts}
use Rattle.bgp_machine.specs.Lists.{Each, Has}
use Rattle.bgp_check.specs.Another.{CanBeTold, WantsAnother}
use Rattle.bgp_check.specs.Exist.{WidestExist}
use Rattle.bgp_check.specs.Configurations.{IsOf}
use Rattle.bgp_check.specs.Widest.{IsItsOwn, IsWidest, WantsIt}
use Rattle.bgp_check.proofs.EachHeard.{readable_or_not, true_or_not}
use Rattle.bgp_check.proofs.OtherParts.{own_alike}
use Rattle.bgp_check.proofs.SameOpen.{alike_of}
use Rattle.bgp_check.proofs.WidestRuns.{peer_as_alike}

-- what an AS number has to be for the peer's in a configuration
pub record CanBePeers (as4 : Bool) (number : ℕ) : Type 0 where
  pub some : number ≢ 0
  pub fits : number < 2 ^ 32
  pub two : as4 ≡ false → ¬ IsTrue (needs_four_octets number)

-- the configuration with this AS number of the peer, and otherwise widest
widened : (config : Config) (number : ℕ) → CanBePeers config.parts.as4 number → Config
widened config number can = record {
  parts = record config.parts { peer_as = number; delay_open = true; large_hold = 1 };
  valid = record {
    local_as = config.valid.local_as;
    peer_as = can.some;
    local_id = config.valid.local_id;
    hold = config.valid.hold;
    families = config.valid.families;
    large_hold = λ e. absurd (omega arith);
    two_octets = λ e. ((config.valid.two_octets e).0, can.two e);
  };
  fits = record {
    local_as = config.fits.local_as;
    peer_as = can.fits;
    local_id = config.fits.local_id;
    hold = config.fits.hold;
    large_hold = omega arith;
  };
}

is_of : (session : Session) (own : List ℕ) (config : Config) (number : ℕ) (can : CanBePeers config.parts.as4 number) → IsOf session (Some own) config
    → IsOf session (Some own) (widened config number can)
unfolding widened
is_of session own config number can of = (of.0, own_alike config (widened config number can) refl own of.1, of.2)

is_widest : (config : Config) (number : ℕ) (can : CanBePeers config.parts.as4 number) → IsWidest (widened config number can)
unfolding widened
is_widest config number can = record { delay = refl; hold = refl }

pub own_can : (config : Config) → CanBePeers config.parts.as4 config.parts.local_as
own_can config = record { some = config.valid.local_as; fits = config.fits.local_as; two = λ e. (config.valid.two_octets e).0 }

one_can : (as4 : Bool) → CanBePeers as4 1
one_can as4 = record { some = λ e. absurd (omega arith); fits = omega arith; two = λ e t. absurd (let k : ⊥ = cc in k) }

two_can : (as4 : Bool) → CanBePeers as4 2
two_can as4 = record { some = λ e. absurd (omega arith); fits = omega arith; two = λ e t. absurd (let k : ⊥ = cc in k) }

-- a number that isn't this one
pub another_can : (as4 : Bool) (number : ℕ) → (other : ℕ) × (other ≢ number) × CanBePeers as4 other
another_can as4 number = elim (cases_eq number 1) [
  | inl is ↦ (2, λ e. absurd (omega arith), two_can as4)
  | inr not_so ↦ (1, λ e. absurd (not_so (sym e)), one_can as4)
]

two_or_not : (as4 : Bool) (number : ℕ) → Either (as4 ≡ false → ¬ IsTrue (needs_four_octets number))
two_or_not true number = inl (λ e. absurd (cc))
two_or_not false number = elim (true_or_not (needs_four_octets number)) [ inl t ↦ inr (λ h. h refl t) | inr never ↦ inl (λ e. never) ]

pub can_or_not : (as4 : Bool) (number : ℕ) → Either (CanBePeers as4 number)
can_or_not as4 number = elim (cases_eq number 0) [
  | inl none ↦ inr (λ can. can.some none)
  | inr some ↦ elim (cases_lt number (2 ^ 32)) [
    | inr large ↦ inr (λ can. let f = can.fits in absurd (omega arith))
    | inl fits ↦ elim (two_or_not as4 number) [
      | inl two ↦ inl (record { some = some; fits = fits; two = two })
      | inr never ↦ inr (λ can. never can.two)
    ]
  ]
]

-- ---- one that wants another AS number than the peer's

abbrev AnotherIs : Config → Option (List ℕ) → Type 0
AnotherIs config peers = (number : ℕ) × (can : CanBePeers config.parts.as4 number)
    × WantsAnother (widened config number can) peers × (CanBeTold peers → IsTrue (is_internal (widened config number can).parts) ⊎ IsItsOwn (widened config number can) peers)

internal : (config : Config) → IsTrue (is_internal (widened config config.parts.local_as (own_can config)).parts)
unfolding widened
internal config = eq-eqb config.parts.local_as config.parts.local_as refl

another_is : (config : Config) (peers : Option (List ℕ)) → AnotherIs config peers
unfolding widened
another_is config None = (config.parts.local_as, own_can config, tt, λ told. inl (internal config))
another_is config (Some octets) = elim (readable_or_not config octets) [
  | inr never ↦ (config.parts.local_as, own_can config, λ readable. absurd (never readable), λ told. inl (internal config))
  | inl readable ↦ elim (cases_eq (peer_as_of config (open_of octets)) config.parts.local_as) [
    | inr differs ↦ (config.parts.local_as, own_can config, λ is. differs, λ told. inl (internal config))
    | inl same ↦ (let k = another_can config.parts.as4 config.parts.local_as in
        (k.0, k.2, λ is e. k.1 (sym e ∙ same), λ told. inr (readable, same)))
  ]
]

-- ---- one that wants the peer's

-- a configuration of the OPEN that wants the peer's AS number, where one can
record FirstIs (session : Session) (own : List ℕ) (peers : Option (List ℕ)) (widest : List Config) : Type 0 where
  pub each : Each (λ c. IsOf session (Some own) c × IsWidest c) widest
  pub few : length widest ≤ 1
  pub first : (c : Config) → IsOf session (Some own) c → WantsIt c peers → Has (λ a. WantsIt a peers) widest

wants_it : (config : Config) (octets : List ℕ) (can : CanBePeers config.parts.as4 (peer_as_of config (open_of octets))) → IsReadable octets
    → WantsIt (widened config (peer_as_of config (open_of octets)) can) (Some octets)
unfolding widened
wants_it config octets can readable = (readable, refl)

-- what one of that OPEN wants, it can
can_by : (session : Session) (own octets : List ℕ) (config c : Config) → IsOf session (Some own) config → IsOf session (Some own) c → WantsIt c (Some octets)
    → CanBePeers config.parts.as4 (peer_as_of config (open_of octets))
can_by session own octets config c x y wants =
    let same = alike_of session own config c x y in
    let e : peer_as_of config (open_of octets) ≡ c.parts.peer_as = sym (peer_as_alike config c same octets) ∙ wants.1 in
    let as4 : c.parts.as4 ≡ config.parts.as4 = ap (λ (p : ConfigParts). p.as4) same in
    subst (λ (v : ℕ). CanBePeers config.parts.as4 v) (sym e)
    (record { some = c.valid.peer_as; fits = c.fits.peer_as; two = λ is. (c.valid.two_octets (as4 ∙ is)).1 })

first_is : (session : Session) (own : List ℕ) (peers : Option (List ℕ)) (config : Config) → IsOf session (Some own) config
    → (widest : List Config) × FirstIs session own peers widest
first_is session own None config of = ([], record { each = tt; few = omega arith; first = λ c is wants. wants })
first_is session own (Some octets) config of = elim (readable_or_not config octets) [
  | inr never ↦ ([], record { each = tt; few = omega arith; first = λ c is wants. never wants.0 })
  | inl readable ↦ elim (can_or_not config.parts.as4 (peer_as_of config (open_of octets))) [
    | inr never ↦ ([], record { each = tt; few = omega arith; first = λ c is wants. never (can_by session own octets config c of is wants) })
    | inl can ↦ (
      widened config (peer_as_of config (open_of octets)) can ∷ [],
      record {
        each = ((is_of session own config (peer_as_of config (open_of octets)) can of, is_widest config (peer_as_of config (open_of octets)) can), tt);
        few = omega arith;
        first = λ c is wants. inl (wants_it config octets can readable);
      },
    )
  ]
]

pub exist : WidestExist
exist session own peers config of =
    let f = first_is session own peers config of in
    let k = another_is config peers in
    let b = widened config k.0 k.1 in
    let few = f.1.few in (
      b ∷ f.0,
      record {
        each = ((is_of session own config k.0 k.1 of, is_widest config k.0 k.1), f.1.each);
        first = λ c is wants. inr (f.1.first c is wants);
        another = inl (k.2, k.3);
      },
      omega arith,
    )
