-- Why an end isn't judged: nothing shows what it does, or both OPENs offer or its UPDATEs have what
-- isn't known here, so that a no would be wrong.
use Rattle.std.specs.Prelude.{◌≡◌, ◌≢◌, ◌↔◌, ◌⊎◌, ◌==◌, ◌&&◌, ◌||◌, Bool, not, IsTrue}
use Rattle.std.specs.Prelude.{if◌then◌else◌, ℕ, List, [], ◌∷◌, Option, None, Some, option_map}
use Rattle.std.specs.Prelude.{slice_index}
use Rattle.std.specs.List.{list_any}
use Rattle.std.specs.Option.{option_or}
use Rattle.bgp_prefix.specs.Shown.{ShownRecord, Sent}
use Rattle.bgp_open.specs.Offer.{families_of}
use Rattle.bgp_open.specs.Open.{OpenFields, open_of}
use Rattle.bgp_open.specs.Triplet.{Triplet}
use Rattle.bgp_check.specs.declared.not_judged.NotJudged.{NotJudged}
use Rattle.bgp_check.specs.declared.not_judged.NotJudged.TheVariants.{NothingSent}
use Rattle.bgp_check.specs.declared.not_judged.NotJudged.TheVariants.{ExtendedParameters, NoFamily}
use Rattle.bgp_check.specs.declared.not_judged.NotJudged.TheVariants.{DynamicCapabilities}
use Rattle.bgp_check.specs.declared.not_judged.NotJudged.TheVariants.{Confederations}
use Rattle.bgp_parts.specs.Confederations.{SomeShowConfederations}
use Rattle.bgp_parts.specs.Opens.{HasOwnOpen, HasPeersOpen, HasWholeOpen}
use Rattle.bgp_check.specs.WidestOf.{AreTold}

-- a message is sent
abbrev pub SendsSome : List ShownRecord → Type 0
SendsSome [] = ⊥
SendsSome (Sent t octets ∷ records) = Unit {0}
SendsSome (shown ∷ records) = SendsSome records

-- The parameters of an OPEN have an extended length (RFC 9072, 2): Optional Parameters Length, octet
-- 28 of the message, isn't 0, and the type of what seems to be the first parameter is 255.
abbrev pub HasExtendedLength : Option (List ℕ) → Type 0
HasExtendedLength None = ⊥
HasExtendedLength (Some octets) =
    (slice_index octets 28 ≢ 0) × (slice_index octets 29 ≡ 255)

-- ---- dynamic capabilities, capability 67: with it in both OPENs a session has messages of type 6

abbrev pub is_dynamic : Triplet → Bool
is_dynamic capability = capability.code == 67

abbrev pub offers_dynamic : OpenFields → Bool
offers_dynamic message = list_any is_dynamic message.capabilities

-- ---- the reasons

-- the one of both OPENs, where their fields can be told
abbrev pub why_by_both : OpenFields → OpenFields → Option NotJudged
why_by_both own peers =
    if offers_dynamic own && offers_dynamic peers then Some DynamicCapabilities else None

-- the peer's may be missing
abbrev pub why_with : OpenFields → Option OpenFields → Option NotJudged
why_with own None = None
why_with own (Some peers) = why_by_both own peers

abbrev pub why_by_opens : Option OpenFields → Option OpenFields → Option NotJudged
why_by_opens None peers = None
why_by_opens (Some own) peers =
    let families = families_of own.capabilities in
    if families.v4 || families.v6 then why_with own peers else Some NoFamily

-- that some UPDATE has segments of a confederation (RFC 5065)
abbrev pub why_by_paths : Bool → Option NotJudged
why_by_paths confederated = if confederated then Some Confederations else None

-- the first that holds of a stretch in which a message is sent or not, an OPEN has an extended
-- length or not, both OPENs say this, and some UPDATE has segments of a confederation or none
abbrev pub why_not : Bool → Bool → Option OpenFields → Option OpenFields → Bool → Option NotJudged
why_not sends extended own peers confederated =
    if not sends then Some NothingSent
    else if extended then Some ExtendedParameters
    else option_or (why_by_opens own peers) (why_by_paths confederated)

-- why the local system of these records isn't judged, if it isn't
pub record IsWhyNot (records : List ShownRecord) (why : Option NotJudged) : Type 0 where
  pub own : Option (List ℕ)
  pub peers : Option (List ℕ)
  pub whole : Option (List ℕ)
  pub has_own : HasOwnOpen records own
  pub has_peers : HasPeersOpen records peers
  pub has_whole : HasWholeOpen records whole
  pub told : Option OpenFields
  pub is_told : AreTold peers told
  pub sends : Bool
  pub is_sends : IsTrue sends ↔ SendsSome records
  pub extended : Bool
  pub is_extended : IsTrue extended ↔ (HasExtendedLength peers ⊎ HasExtendedLength whole)
  pub confederated : Bool
  pub is_confederated : IsTrue confederated ↔ SomeShowConfederations records
  pub is_why : why ≡ why_not sends extended (option_map open_of own) told confederated
