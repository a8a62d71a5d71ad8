-- The widest configurations of an end that sends no OPEN: made of the peer's alone.
use Rattle.std.proofs.Common.{◌≡◌, ◌≢◌, ◌<◌, ◌≤◌, ◌⊎◌, ◌^◌, Bool, true, false, IsTrue, ℕ, List, [], ◌∷◌, Option, None, Some, inl, inr, refl, sym, subst, length, if◌then◌else◌, unwrap_or, arith}
use Rattle.std.proofs.lemmas.Bool.{cases_eq, eq-eqb, eqb-true}
use Rattle.bgp_prefix.specs.declared.session.Session.{Session}
use Rattle.bgp_open.specs.Config.{is_internal}
use Rattle.bgp_open.specs.Offer.{as_number_of}
use Rattle.bgp_open.specs.Open.{OpenFields, open_of}
use Rattle.bgp_open.specs.OpenSubcodes.{IsValid, peer_as_of}
use Rattle.bgp_open.specs.RouteOffer.{nothing}
use Rattle.bgp_open.specs.declared.config.Config.{Config}
use Rattle.bgp_open.proofs.NamedSubcodes.{valid_is_well_formed}
use Rattle.bgp_machine.specs.Lists.{Each, Has}
use Rattle.bgp_check.specs.Configurations.{session_of}
use Rattle.bgp_check.specs.Exist.{HasIdentifier, WidestExistWithout}
use Rattle.bgp_check.specs.Widest.{IsWidest}
use Rattle.bgp_check.specs.Without.{FaultsIt}
use Rattle.bgp_check.proofs.Exist.{CanBePeers, another_can, can_or_not}
use Rattle.bgp_check.proofs.SameOpen.{by_cases}

-- the AS number that an OPEN has, where four-octet ones are sent, and where they aren't
abbrev number_of : Bool → OpenFields → ℕ
number_of as4 message = if as4 then unwrap_or (as_number_of message.capabilities) message.my_as else message.my_as

-- an identifier that a configuration can have
record CanBeIdentifier (id : ℕ) : Type 0 where
  pub some : id ≢ 0
  pub fits : id < 2 ^ 32

-- a widest configuration with these numbers
made : (session : Session) (as4 : Bool) (local peer id : ℕ) → CanBePeers as4 local → CanBePeers as4 peer → CanBeIdentifier id → Config
made session as4 local peer id can_local can_peer can_id = record {
  parts = record {
    local_as = local;
    peer_as = peer;
    local_id = id;
    hold = 90;
    families = record { v4 = true; v6 = false };
    as4 = as4;
    delay_open = true;
    large_hold = 1;
    session = session;
    offers = nothing;
  };
  valid = record {
    local_as = can_local.some;
    peer_as = can_peer.some;
    local_id = can_id.some;
    hold = λ bad. elim bad [ inl e ↦ absurd (omega arith) | inr e ↦ absurd (omega arith) ];
    families = λ empty. empty.0 refl;
    large_hold = λ e. absurd (omega arith);
    two_octets = λ e. (can_local.two e, can_peer.two e);
  };
  fits = record {
    local_as = can_local.fits;
    peer_as = can_peer.fits;
    local_id = can_id.fits;
    hold = omega arith;
    large_hold = omega arith;
  };
}

abbrev Widest : Session → Config → Type 0
Widest session config = ((config.parts.session ≡ session) × (config.parts.offers ≡ nothing)) × IsWidest config

made_widest : (session : Session) (as4 : Bool) (local peer id : ℕ) (can_local : CanBePeers as4 local) (can_peer : CanBePeers as4 peer)
    (can_id : CanBeIdentifier id) → Widest session (made session as4 local peer id can_local can_peer can_id)
unfolding made
made_widest session as4 local peer id can_local can_peer can_id = ((refl, refl), record { delay = refl; hold = refl })

one_id : CanBeIdentifier 1
one_id = record { some = λ e. absurd (omega arith); fits = omega arith }

-- ---- one for which the peer's OPEN has each fault

-- the peer's identifier, or any where that is 0
id_for : (id : ℕ) → id < 2 ^ 32 → (own : ℕ) × CanBeIdentifier own × ((id ≡ 0) ⊎ (id ≡ own))
id_for id fits = elim (cases_eq id 0) [
  | inl none ↦ (1, one_id, inl none)
  | inr some ↦ (id, record { some = some; fits = fits }, inr refl)
]

faulting : (session : Session) (peers : Option (List ℕ)) → HasIdentifier peers → (b : Config) × Widest session b × FaultsIt b peers
unfolding made
faulting session None has =
    let k = another_can true 1 in
    (made session true k.0 k.0 1 k.2 k.2 one_id, made_widest session true k.0 k.0 1 k.2 k.2 one_id, tt)
faulting session (Some octets) has =
    let number = number_of true (open_of octets) in
    let k = another_can true number in
    let i = id_for (open_of octets).id has in (
      made session true k.0 k.0 i.0 k.2 k.2 i.1,
      made_widest session true k.0 k.0 i.0 k.2 k.2 i.1,
      λ readable. (λ e. k.1 (sym e), elim i.2 [ inl none ↦ inl none | inr same ↦ inr (eq-eqb k.0 k.0 refl, same) ]),
    )

-- ---- one under which it is valid, where it can be

-- an OPEN that is valid under one configuration is valid under one that isn't internal and wants its AS number
pub valid_under : (config a : Config) (octets : List ℕ) → IsValid config octets → peer_as_of a (open_of octets) ≡ a.parts.peer_as
    → ¬ IsTrue (is_internal a.parts) → IsValid a octets
valid_under config a octets valid same external subcode detail fault = elim fault [
  | inl version ↦ valid subcode detail (inl version)
  | inr m ↦ elim m [
    | inl malformed ↦ valid subcode detail (inr (inl malformed))
    | inr r ↦ elim r.1 [
      | inl parameter ↦ valid subcode detail (inr (inr (r.0, inl parameter)))
      | inr p ↦ elim p [
        | inl peer ↦ peer.1 same
        | inr i ↦ elim i [
          | inl identifier ↦ elim identifier.1 [
            | inl none ↦ valid subcode detail (inr (inr (r.0, inr (inr (inl (identifier.0, inl none))))))
            | inr own ↦ external own.0
          ]
          | inr hold ↦ valid subcode detail (inr (inr (r.0, inr (inr (inr hold)))))
        ]
      ]
    ]
  ]
]

-- the AS number of a valid OPEN is the one that is configured
pub wanted : (config : Config) (octets : List ℕ) → IsValid config octets → peer_as_of config (open_of octets) ≡ config.parts.peer_as
wanted config octets valid = elim (cases_eq (peer_as_of config (open_of octets)) config.parts.peer_as) [
  | inl same ↦ same
  | inr differs ↦ absurd (valid 2 [] (inr (inr ((valid_is_well_formed config octets valid).readable, inr (inl (refl, differs))))))
]

can_by : (config : Config) (octets : List ℕ) → IsValid config octets → CanBePeers config.parts.as4 (number_of config.parts.as4 (open_of octets))
can_by config octets valid = subst (λ (v : ℕ). CanBePeers config.parts.as4 v) (sym (wanted config octets valid))
    (record { some = config.valid.peer_as; fits = config.fits.peer_as; two = λ e. (config.valid.two_octets e).1 })

record TakesIs (session : Session) (octets : List ℕ) (widest : List Config) : Type 0 where
  pub each : Each (Widest session) widest
  pub few : length widest ≤ 1
  pub takes : (config : Config) → IsValid config octets → Has (λ a. IsValid a octets) widest

-- with four-octet AS numbers, or without
taking : (session : Session) (octets : List ℕ) (as4 : Bool) → CanBePeers as4 (number_of as4 (open_of octets))
    → (widest : List Config) × TakesIs session octets widest
unfolding made
taking session octets as4 can =
    let number = number_of as4 (open_of octets) in
    let k = another_can as4 number in
    let a = made session as4 k.0 number 1 k.2 can one_id in (
      a ∷ [],
      record {
        each = (made_widest session as4 k.0 number 1 k.2 can one_id, tt);
        few = omega arith;
        takes = λ config valid. inl (valid_under config a octets valid refl (λ internal. k.1 (eqb-true k.0 number internal)));
      },
    )

takes_is : (session : Session) (octets : List ℕ) → (widest : List Config) × TakesIs session octets widest
takes_is session octets = elim (can_or_not true (number_of true (open_of octets))) [
  | inl can ↦ taking session octets true can
  | inr never ↦ elim (can_or_not false (number_of false (open_of octets))) [
    | inl can ↦ taking session octets false can
    | inr none ↦ (
      [],
      record {
        each = tt;
        few = omega arith;
        takes = λ config valid. absurd (by_cases config.parts.as4 ⊥
            (λ is. never (subst (λ (v : Bool). CanBePeers v (number_of v (open_of octets))) is (can_by config octets valid)))
            (λ is. none (subst (λ (v : Bool). CanBePeers v (number_of v (open_of octets))) is (can_by config octets valid))));
      },
    )
  ]
]

pub exist : WidestExistWithout
exist session None has =
    let b = faulting (session_of session None) None has in
    (b.0 ∷ [], record { each = (b.1, tt); takes = λ config is takes. absurd takes; faults = inl b.2 }, omega arith)
exist session (Some octets) has =
    let b = faulting (session_of session None) (Some octets) has in
    let t = takes_is (session_of session None) octets in
    let few = t.1.few in
    (b.0 ∷ t.0, record { each = (b.1, t.1.each); takes = λ config is takes. inr (t.1.takes config takes); faults = inl b.2 }, omega arith)
