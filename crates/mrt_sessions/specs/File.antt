-- A file of records, whichever sessions it has (RFC 6396, 2): records one after another, each of
-- which is one of a session or is skipped, and then the end or the first fault.
use Rattle.std.specs.Prelude.{◌≡◌, ◌≢◌, ◌<◌, ◌≤◌, ◌↔◌, ◌+◌, ◌++◌, ℕ, List, [], ◌∷◌, length}
use Rattle.std.specs.Prelude.{Option, None, Some}
use Rattle.std.specs.Prelude.{◌==◌, Bool, true, IsTrue, if◌then◌else◌, option_map}
use Rattle.std.specs.List.{AllByRecursion, flat_map}
use Rattle.bgp_prefix.specs.declared.session.Session.{Session}
use Rattle.mrt.specs.Fault.{fault_number}
use Rattle.mrt.specs.Layout.{IsBgp4mp, IsRecord, LacksFields, body_of, form_of, header_of}
use Rattle.mrt.specs.Layout.{is_of, local_in, peer_in}
use Rattle.mrt.specs.Rules.{IsJudged, Judgement, Refused}
use Rattle.mrt.specs.Rules as rules
use Rattle.mrt.specs.declared.fault.CaptureFault.{CaptureFault}
use Rattle.mrt.specs.declared.fault.FaultKind.{FaultKind}
use Rattle.mrt.specs.declared.fault.FaultKind.TheVariants as kinds
use Rattle.mrt_sessions.specs.declared.addresses.Addresses.{Addresses}
use Rattle.mrt_sessions.specs.declared.holding.Ending.{Ending}
use Rattle.mrt_sessions.specs.declared.holding.Ending.TheVariants as endings

-- ---- what stands at a place, for all sessions alike

-- Whatever session is asked for, the octets that are left are judged so, if its messages may be
-- extended ones (RFC 8654): so bodies are as long as any that is read.
abbrev pub IsJudgedForAll : List ℕ → Judgement → Type 0
IsJudgedForAll octets judgement =
    (session : Session) (last : Option ℕ) → IsTrue session.extended
    → IsJudged session last octets judgement

-- A record of some session: of type BGP4MP or BGP4MP_ET, of a subtype that is known, and with a
-- body that isn't too long and has its fields. So it names two addresses.
pub record NamesSession (octets : List ℕ) : Type 0 where
  pub whole : IsRecord octets
  pub kind : IsTrue (is_of (header_of octets).kind (16 ∷ 17 ∷ []))
  pub fits : (header_of octets).count ≤ 65583
  pub form : form_of (header_of octets).subtype ≢ None
  pub fields : ¬ LacksFields (header_of octets) (body_of octets)

-- those that it names
abbrev pub addresses_of : List ℕ → Addresses
addresses_of octets = record {
  peer = peer_in (header_of octets) (body_of octets);
  local = local_in (header_of octets) (body_of octets);
}

-- ---- the file

-- one record's octets: skipped for its type or subtype, or one of a session
pub data Part : Type 0 where
  Other : List ℕ → Part
  Named : List ℕ → Part

abbrev pub octets_of : Part → List ℕ
octets_of (Other octets) = octets
octets_of (Named octets) = octets

abbrev pub IsPart : Part → Type 0
IsPart (Other octets) = IsRecord octets × IsJudgedForAll octets rules.Skipped
IsPart (Named octets) = NamesSession octets

abbrev pub joined : List Part → List ℕ
joined parts = flat_map octets_of parts

-- nothing is left, where the file isn't refused; or what it is refused for, whatever session is
-- asked for
abbrev pub StopsBy : List ℕ → Option FaultKind → Type 0
StopsBy rest None = rest ≡ []
StopsBy rest (Some kind) = IsJudgedForAll rest (Refused kind)

-- The octets are these parts, and then such a rest.
pub record IsFileText (octets : List ℕ) (parts : List Part) (rest : List ℕ)
    (refusal : Option FaultKind) : Type 0 where
  pub whole : octets ≡ joined parts ++ rest
  pub each : AllByRecursion IsPart parts
  pub stops : StopsBy rest refusal

-- ---- its records

-- a record of a session, and the offset of its first octet
pub record Located : Type 0 where
  pub offset : ℕ
  pub octets : List ℕ

-- those of these parts, the first of which begins at this offset
abbrev pub named_from : ℕ → List Part → List Located
named_from at [] = []
named_from at (Other octets ∷ parts) = named_from (at + length octets) parts
named_from at (Named octets ∷ parts) =
    record { offset = at; octets = octets } ∷ named_from (at + length octets) parts

-- The octets have these records of sessions, and then the end, or what the file is refused for, at
-- this offset.
pub record HasRecords (octets : List ℕ) (named : List Located) (offset : ℕ)
    (refusal : Option FaultKind) : Type 0 where
  pub parts : List Part
  pub rest : List ℕ
  pub text : IsFileText octets parts rest refusal
  pub are : named ≡ named_from 0 parts
  pub place : offset ≡ length (joined parts)

-- ---- how long its bodies are

-- A record of type BGP4MP or BGP4MP_ET has a longer body than is read where the local system offers
-- no extended messages (RFC 8654).
abbrev pub HasExtendedBody : List ℕ → Type 0
HasExtendedBody octets = IsBgp4mp (header_of octets).kind × (8192 < (header_of octets).count)

-- the part has none, so that it is read there, too, or skipped
abbrev pub FitsPlain : Part → Type 0
FitsPlain part = ¬ HasExtendedBody (octets_of part)

-- The octets have these records, and it is told whether each record of the file, up to where it
-- stops, is read or skipped there, too.
pub record HasSuchRecords (octets : List ℕ) (named : List Located) (offset : ℕ)
    (refusal : Option FaultKind) (is_plain : Bool) : Type 0 where
  pub has : HasRecords octets named offset refusal
  pub plain : IsTrue is_plain ↔ AllByRecursion FitsPlain has.parts

-- ---- why it isn't read to its end

-- the file ends where a record could begin, or inside of one
abbrev pub wants_more : Option FaultKind → Bool
wants_more None = true
wants_more (Some kind) = fault_number kind == 1

-- Where more octets are wanted than were read, that is so for what kept them from being read.
abbrev pub kind_by : Ending → Option FaultKind → Option FaultKind
kind_by endings.End refusal = refusal
kind_by endings.Device refusal = if wants_more refusal then Some kinds.Device else refusal
kind_by endings.Memory refusal = if wants_more refusal then Some kinds.Memory else refusal

abbrev pub fault_by : Ending → Option FaultKind → ℕ → Option CaptureFault
fault_by ending refusal offset =
    option_map (λ (kind : FaultKind). record { kind = kind; offset = offset })
    (kind_by ending refusal)
