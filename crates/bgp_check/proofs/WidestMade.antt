-- Configurations with the widest settings of an end are its widest configurations.
use Rattle.std.proofs.Common.{◌≡◌, ◌≢◌, ◌⊎◌, ◌==◌, ◌||◌, ◌∙◌, not, Bool, true, false, IsTrue, ℕ, zero, suc, List, [], ◌∷◌, Option, None, Some, option_map, if◌then◌else◌, is_some, inl, inr, refl, sym, ap, subst, arith}
use Rattle.std.proofs.lemmas.Bool.{cases_eq, eq-eqb}
use Rattle.std.proofs.lemmas.Map.Views.{exact_unsigned_eq}
use Rattle.bgp_prefix.specs.declared.session.Session.{Session}
use Rattle.bgp_wire.specs.AsNumber.{two_octet_as}
use Rattle.bgp_open.specs.Config.{IsBadHold, is_internal}
use Rattle.bgp_open.specs.Offer.{as_number_of}
use Rattle.bgp_open.specs.Open.{OpenFields, open_of}
use Rattle.bgp_open.specs.OpenFault.{IsReadable, IsWellFormed}
use Rattle.bgp_open.specs.OpenSubcodes.{IsValid}
use Rattle.bgp_open.specs.OwnOpen.{IsOwnOpen}
use Rattle.bgp_open.specs.declared.config.Config.{Config}
use Rattle.bgp_open.specs.declared.config.ConfigParts.{ConfigParts}
use Rattle.bgp_open.proofs.NamedSubcodes.{valid_is_well_formed}
use Rattle.bgp_check.specs.declared.own_fault.OwnFault.{OwnFault}
use Rattle.bgp_check.specs.declared.own_fault.OwnFault.TheVariants.{AsNumber, Identifier, Hold}
use Rattle.bgp_check.specs.declared.widest.Widest.{Widest}
use Rattle.bgp_check.specs.Another.{CanBeTold, WantsAnother}
use Rattle.bgp_check.specs.Configurations.{IsOf, as_of, as_to, own_faults}
use Rattle.bgp_check.specs.Settings.{settings_of}
use Rattle.bgp_check.specs.Widest.{AreWidestWith, IsItsOwn, IsWidest, WantsIt}
use Rattle.bgp_check.specs.WidestMade.{WidestAreMade, both_of}
use Rattle.bgp_check.specs.WidestOf.{BothParts, free_settings, is_odd_as, other_than, own_as, own_hold, own_settings, parts_of, some_id, where_some, widest_of}
use Rattle.bgp_check.specs.Without.{AreWidestWithout, FaultsIt, TakesIt}
use Rattle.bgp_check.proofs.ExistWithout.{valid_under, wanted}
use Rattle.bgp_check.proofs.OwnSettings.{own_if_none}
use Rattle.bgp_check.proofs.SameOpen.{said}

-- ---- where there is no own fault nothing is mended

same_choice : (b : Bool) (one x : ℕ) → b ≡ false → (if b then one else x) ≡ x
same_choice true one x is = absurd (cc)
same_choice false one x is = refl

even_as : (a b c : ℕ) → a ≢ 0 → b ≡ c → (a == 0) || not (b == c) ≡ false
even_as a b c some same = grind arith

never_so : (b : Bool) → ¬ IsTrue b → b ≡ false
never_so true never = absurd (never refl)
never_so false never = refl

odd_as : (message : OpenFields) → ((fault : OwnFault) → ¬ own_faults message fault) → is_odd_as message ≡ false
odd_as message none = even_as (as_of message) message.my_as (two_octet_as (as_of message)) (λ e. none AsNumber (inl e))
    (elim (cases_eq message.my_as (two_octet_as (as_of message))) [ inl same ↦ same | inr differs ↦ absurd (none AsNumber (inr differs)) ])

good_hold : (hold : ℕ) → ¬ IsBadHold hold → (hold == 1) || (hold == 2) ≡ false
good_hold hold good = elim (cases_eq hold 1) [
  | inl one ↦ absurd (good (inl one))
  | inr not_one ↦ elim (cases_eq hold 2) [ inl two ↦ absurd (good (inr two)) | inr not_two ↦ grind arith ]
]

some_number : (number : ℕ) → number ≢ 0 → (number == 0) ≡ false
some_number number some = grind arith

unmended : (session : Session) (message : OpenFields) (peer : ℕ) → ((fault : OwnFault) → ¬ own_faults message fault)
    → own_settings session message peer ≡ settings_of session message peer
unmended session message peer none =
    let local = same_choice (is_odd_as message) 1 (as_of message) (odd_as message none) in
    let id = same_choice (message.id == 0) 1 message.id (some_number message.id (none Identifier)) in
    let hold = same_choice ((message.hold == 1) || (message.hold == 2)) 90 message.hold (good_hold message.hold (none Hold)) in
    λ i. record (settings_of session message peer) { local_as = local i; local_id = id i; hold = hold i }

-- ---- an AS number or none

zero_if : (b : Bool) (parts : ConfigParts) → None ≡ (if b then None else Some parts) → b ≡ true
zero_if true parts is = refl
zero_if false parts is = absurd (let k : ⊥ = cc in k)

some_if : (b : Bool) (its parts : ConfigParts) → Some its ≡ (if b then None else Some parts) → (b ≡ false) × (its ≡ parts)
some_if true its parts is = absurd (let k : ⊥ = cc in k)
some_if false its parts is = (refl, cc)

true_or_false : (b : Bool) → b ≡ true → b ≡ false → ⊥
true_or_false b t f = let k : ⊥ = cc in k

where_zero : (number : ℕ) (parts : ConfigParts) → None ≡ where_some number parts → number ≡ 0
where_zero number parts is = elim (cases_eq number 0) [
  | inl none ↦ none
  | inr some ↦ absurd (true_or_false (number == 0) (zero_if (number == 0) parts is) (some_number number some))
]

where_suc : (number : ℕ) (parts its : ConfigParts) → Some its ≡ where_some number parts → its ≡ parts
where_suc number parts its is = (some_if (number == 0) its parts is).1

another_differs : (number own : ℕ) → number ≢ (if number == own then other_than number else own)
another_differs number own is = absurd (grind arith)

own_if_differs : (number own : ℕ) → number ≢ own → (if number == own then other_than number else own) ≡ own
own_if_differs number own differs = same_choice (number == own) (other_than number) own (grind arith)

-- ---- an end that sent an OPEN

module _ (session : Session) (own : List ℕ) (form : IsWellFormed own) (none : (fault : OwnFault) → ¬ own_faults (open_of own) fault) where
  plain : (config : Config) (peer : ℕ) → config.parts ≡ own_settings session (open_of own) peer → config.parts ≡ settings_of session (open_of own) peer
  plain config peer is = is ∙ unmended session (open_of own) peer none

  own_of : (config : Config) (peer : ℕ) → config.parts ≡ own_settings session (open_of own) peer → IsOf session (Some own) config × IsWidest config
  own_of config peer is =
      let e = plain config peer is in
      let same : config.parts ≡ settings_of session (open_of own) config.parts.peer_as =
      e ∙ ap (settings_of session (open_of own)) (sym (ap (λ (p : ConfigParts). p.peer_as) e)) in (
        own_if_none session own config form same (none AsNumber),
        record { delay = subst (λ (v : Bool). IsTrue v) (sym (ap (λ (p : ConfigParts). p.delay_open) e)) refl; hold = ap (λ (p : ConfigParts). p.large_hold) e },
      )

  heard_as : (config : Config) (peer : ℕ) → config.parts ≡ own_settings session (open_of own) peer → (message : OpenFields)
      → as_to config.parts.as4 message ≡ as_to (is_some (as_number_of (open_of own).capabilities)) message
  heard_as config peer is message = ap (λ (p : ConfigParts). as_to p.as4 message) is

  some_said : (as4 : Bool) (number : ℕ) → is_some (said as4 number) ≡ as4
  some_said true number = refl
  some_said false number = refl

  heard_by : (config : Config) → IsOf session (Some own) config → (message : OpenFields)
      → as_to config.parts.as4 message ≡ as_to (is_some (as_number_of (open_of own).capabilities)) message
  heard_by config of message =
      ap (λ (v : Bool). as_to v message) (sym (some_said config.parts.as4 config.parts.local_as) ∙ sym (ap (λ (v : Option ℕ). is_some v) of.1.as_number))

  unwanted : (config : Config) (peers : Option (List ℕ)) → ¬ CanBeTold peers → WantsAnother config peers
  unwanted config None never = tt
  unwanted config (Some octets) never = λ readable. absurd (never readable)

  wanted_told : (config : Config) (peers : Option (List ℕ)) → WantsIt config peers → CanBeTold peers
  wanted_told config None wants = wants
  wanted_told config (Some octets) wants = wants.0

  untold : (peers : Option (List ℕ)) (another : Config) → ¬ CanBeTold peers
      → another.parts ≡ own_settings session (open_of own) (own_as (open_of own)) → AreWidestWith session own peers (another ∷ [])
  untold peers another never is = record {
    each = (own_of another (own_as (open_of own)) is, tt);
    first = λ config of wants. absurd (never (wanted_told config peers wants));
    another = inl (unwanted another peers never, λ told. absurd (never told));
  }

  module _ (octets : List ℕ) (readable : IsReadable octets) where
    abbrev number : ℕ
    number = as_to (is_some (as_number_of (open_of own).capabilities)) (open_of octets)

    abbrev other : ℕ
    other = if number == own_as (open_of own) then other_than number else own_as (open_of own)

    another_is : (b : Config) → b.parts ≡ own_settings session (open_of own) other
        → WantsAnother b (Some octets) × (CanBeTold (Some octets) → IsTrue (is_internal b.parts) ⊎ IsItsOwn b (Some octets))
    another_is b is =
        let heard = heard_as b other is (open_of octets) in
        let peer = ap (λ (p : ConfigParts). p.peer_as) is in
        let local = ap (λ (p : ConfigParts). p.local_as) is in (
          λ told same. another_differs number (own_as (open_of own)) (sym heard ∙ same ∙ peer),
          λ told. elim (cases_eq number (own_as (open_of own))) [
            | inl same ↦ inr (readable, heard ∙ same ∙ sym local)
            | inr differs ↦ inl (eq-eqb b.parts.local_as b.parts.peer_as (local ∙ sym (own_if_differs number (own_as (open_of own)) differs) ∙ sym peer))
          ],
        )

    two : (wanting : Option Config) (b : Config) → option_map (λ (c : Config). c.parts) wanting ≡ where_some number (own_settings session (open_of own) number)
        → b.parts ≡ own_settings session (open_of own) other → AreWidestWith session own (Some octets) (both_of wanting b)
    two None b w is = record {
      each = (own_of b other is, tt);
      first = λ config of wants.
          absurd (config.valid.peer_as (sym wants.1 ∙ heard_by config of (open_of octets) ∙ where_zero number (own_settings session (open_of own) number) w));
      another = inl (another_is b is);
    }
    two (Some a) b w is =
        let it = where_suc number (own_settings session (open_of own) number) a.parts w in
        record {
          each = (own_of a number it, (own_of b other is, tt));
          first = λ config of wants. inl (readable, heard_as a number it (open_of octets) ∙ sym (ap (λ (p : ConfigParts). p.peer_as) it));
          another = inr (inl (another_is b is));
        }

-- ---- an end that sent none

module _ (session : Session) where
  free_of : (config : Config) (local peer id : ℕ) (as4 : Bool) → config.parts ≡ free_settings session local peer id as4
      → IsOf session None config × IsWidest config
  free_of config local peer id as4 is = (
    (ap (λ (p : ConfigParts). p.session) is, ap (λ (p : ConfigParts). p.offers) is),
    record { delay = subst (λ (v : Bool). IsTrue v) (sym (ap (λ (p : ConfigParts). p.delay_open) is)) refl; hold = ap (λ (p : ConfigParts). p.large_hold) is },
  )

  faults_untold : (config : Config) (peers : Option (List ℕ)) → ¬ CanBeTold peers → FaultsIt config peers
  faults_untold config None never = tt
  faults_untold config (Some octets) never = λ readable. absurd (never readable)

  taken_told : (config : Config) (peers : Option (List ℕ)) → TakesIt config peers → CanBeTold peers
  taken_told config None takes = takes
  taken_told config (Some octets) valid = (valid_is_well_formed config octets valid).readable

  untold_without : (peers : Option (List ℕ)) (another : Config) → ¬ CanBeTold peers → another.parts ≡ free_settings session 1 1 1 true
      → AreWidestWithout session peers (another ∷ [])
  untold_without peers another never is = record {
    each = (free_of another 1 1 1 true is, tt);
    takes = λ config of takes. absurd (never (taken_told config peers takes));
    faults = inl (faults_untold another peers never);
  }

  other_differs : (number : ℕ) → other_than number ≢ number
  other_differs number is = absurd (grind arith)

  other_is_some : (number : ℕ) → other_than number ≢ 0
  other_is_some number is = absurd (grind arith)

  -- no AS number can be told
  nothing_said : (b : Bool) (message : OpenFields) → as_to (not (as_of message == 0)) message ≡ 0 → as_to b message ≡ 0
  nothing_said true message is = elim (cases_eq (as_of message) 0) [
    | inl zero_as ↦ zero_as
    | inr some ↦ subst (λ (v : Bool). as_to (not v) message ≡ 0) (some_number (as_of message) some) is
  ]
  nothing_said false message is = elim (cases_eq (as_of message) 0) [
    | inl zero_as ↦ subst (λ (v : ℕ). as_to (not (v == 0)) message ≡ 0) zero_as is
    | inr some ↦ absurd (some (subst (λ (v : Bool). as_to (not v) message ≡ 0) (some_number (as_of message) some) is))
  ]

  same_id : (message : OpenFields) (id : ℕ) → id ≡ some_id message → (message.id ≡ 0) ⊎ (message.id ≡ id)
  same_id message id is = elim (cases_eq message.id 0) [
    | inl none ↦ inl none
    | inr some ↦ inr (sym (is ∙ same_choice (message.id == 0) 1 message.id (some_number message.id some)))
  ]

  module _ (octets : List ℕ) where
    abbrev message : OpenFields
    message = open_of octets

    abbrev as4 : Bool
    as4 = not (as_of message == 0)

    abbrev told_number : ℕ
    told_number = as_to as4 message

    -- the AS number of both
    abbrev local_as : ℕ
    local_as = other_than told_number

    not_the_peers : local_as ≢ as_of message
    not_the_peers is = elim (cases_eq (as_of message) 0) [
      | inl zero_as ↦ other_is_some told_number (is ∙ zero_as)
      | inr some ↦ other_differs (as_of message)
          (sym (ap (λ (v : Bool). other_than (as_to (not v) message)) (some_number (as_of message) some)) ∙ is)
    ]

    faults_it : (b : Config) → b.parts ≡ free_settings session local_as local_as (some_id message) true → FaultsIt b (Some octets)
    faults_it b is readable =
        let peer = ap (λ (p : ConfigParts). p.peer_as) is in
        let local = ap (λ (p : ConfigParts). p.local_as) is in
        let id = ap (λ (p : ConfigParts). p.local_id) is in
        let heard : as_to b.parts.as4 message ≡ as_of message = ap (λ (p : ConfigParts). as_to p.as4 message) is in (
          λ same. not_the_peers (sym (sym heard ∙ same ∙ peer)),
          elim (same_id message b.parts.local_id id) [
            | inl none ↦ inl none
            | inr same ↦ inr (eq-eqb b.parts.local_as b.parts.peer_as (local ∙ sym peer), same)
          ],
        )

    takes_it : (config a : Config) → a.parts ≡ free_settings session (other_than told_number) told_number (other_than message.id) as4 → IsValid config octets → IsValid a octets
    takes_it config a is valid =
        let peer = ap (λ (p : ConfigParts). p.peer_as) is in
        let local = ap (λ (p : ConfigParts). p.local_as) is in
        let heard : as_to a.parts.as4 message ≡ told_number = ap (λ (p : ConfigParts). as_to p.as4 message) is in
        valid_under config a octets valid (heard ∙ sym peer)
        (λ same. other_differs told_number (sym local ∙ exact_unsigned_eq a.parts.local_as a.parts.peer_as same ∙ peer))

    two_without : (wanting : Option Config) (b : Config)
        → option_map (λ (c : Config). c.parts) wanting ≡ where_some told_number (free_settings session (other_than told_number) told_number (other_than message.id) as4)
        → b.parts ≡ free_settings session local_as local_as (some_id message) true → AreWidestWithout session (Some octets) (both_of wanting b)
    two_without None b w is = record {
      each = (free_of b local_as local_as (some_id message) true is, tt);
      takes = λ config of valid. absurd (config.valid.peer_as (sym (wanted config octets valid)
          ∙ nothing_said config.parts.as4 message (where_zero told_number (free_settings session (other_than told_number) told_number (other_than message.id) as4) w)));
      faults = inl (faults_it b is);
    }
    two_without (Some a) b w is =
        let it = where_suc told_number (free_settings session (other_than told_number) told_number (other_than message.id) as4) a.parts w in
        record {
          each = (free_of a (other_than told_number) told_number (other_than message.id) as4 it, (free_of b local_as local_as (some_id message) true is, tt));
          takes = λ config of valid. inl (takes_it config a it valid);
          faults = inr (inl (faults_it b is));
        }

-- ---- the law

alone : (P : List Config → Type 0) (wanting : Option Config) (b : Config) → option_map (λ (c : Config). c.parts) wanting ≡ None → P (b ∷ []) → P (both_of wanting b)
alone P None b is p = p
alone P (Some a) b is p = absurd (cc)

by_told : (P : Option OpenFields → Type 0) (told its : Option OpenFields) → told ≡ its → P told → P its
by_told P told its is p = subst P is p

pub made : WidestAreMade
made session (Some own) None told widest faultless are is =
    let e = subst (λ (v : Option OpenFields). parts_of widest ≡ widest_of session (Some (open_of own)) v) are is in
    alone (λ (v : List Config). AreWidestWith session own None v) widest.wanting widest.another (ap (λ (p : BothParts). p.wanting) e)
    (untold session own faultless.0 faultless.1 None widest.another (λ h. h) (ap (λ (p : BothParts). p.another) e))
made session (Some own) (Some octets) told widest faultless are is = elim are [
  | inl this ↦ (
      let e = subst (λ (v : Option OpenFields). parts_of widest ≡ widest_of session (Some (open_of own)) v) this.1 is in
      two session own faultless.0 faultless.1 octets this.0 widest.wanting widest.another (ap (λ (p : BothParts). p.wanting) e) (ap (λ (p : BothParts). p.another) e)
      )
  | inr never ↦ (
      let e = subst (λ (v : Option OpenFields). parts_of widest ≡ widest_of session (Some (open_of own)) v) never.1 is in
      alone (λ (v : List Config). AreWidestWith session own (Some octets) v) widest.wanting widest.another (ap (λ (p : BothParts). p.wanting) e)
      (untold session own faultless.0 faultless.1 (Some octets) widest.another never.0 (ap (λ (p : BothParts). p.another) e))
      )
]
made session None None told widest faultless are is =
    let e = subst (λ (v : Option OpenFields). parts_of widest ≡ widest_of session None v) are is in
    alone (λ (v : List Config). AreWidestWithout session None v) widest.wanting widest.another (ap (λ (p : BothParts). p.wanting) e)
    (untold_without session None widest.another (λ h. h) (ap (λ (p : BothParts). p.another) e))
made session None (Some octets) told widest faultless are is = elim are [
  | inl this ↦ (
      let e = subst (λ (v : Option OpenFields). parts_of widest ≡ widest_of session None v) this.1 is in
      two_without session octets widest.wanting widest.another (ap (λ (p : BothParts). p.wanting) e) (ap (λ (p : BothParts). p.another) e)
      )
  | inr never ↦ (
      let e = subst (λ (v : Option OpenFields). parts_of widest ≡ widest_of session None v) never.1 is in
      alone (λ (v : List Config). AreWidestWithout session (Some octets) v) widest.wanting widest.another (ap (λ (p : BothParts). p.wanting) e)
      (untold_without session (Some octets) widest.another never.0 (ap (λ (p : BothParts). p.another) e))
      )
]
