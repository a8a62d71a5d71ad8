-- Laws of captures: what stands above the definitions.
use Rattle.std.specs.Prelude.{◌≡◌, ℕ, List, Option}
use Rattle.std.specs.List.{AllByRecursion}
use Rattle.bgp_prefix.specs.Shown.{ShownRecord}
use Rattle.bgp_prefix.specs.declared.session.Session.{Session}
use Rattle.mrt.specs.Rules.{Judgement}
use Rattle.mrt.specs.Capture.{Piece, IsCaptureText, IsPiece, Shown, shown_of, Spells, IsFirstFault}
use Rattle.mrt.specs.Written.{IsWritable, FitsFields, IsAllowed, record_octets, capture_octets}
use Rattle.mrt.specs.Written.{CanBeCaptured, AreInOrder}
use Rattle.mrt.specs.declared.fault.FaultKind.{FaultKind}

-- octets are a capture in one way
abbrev pub OneText : Type 0
OneText =
    (session : Session) (octets : List ℕ) (pieces also : List Piece) (rest left : List ℕ)
    (judgement other : Judgement) →
    IsCaptureText session octets pieces rest judgement →
    IsCaptureText session octets also left other →
    (pieces ≡ also) × (rest ≡ left) × (judgement ≡ other)

-- they spell one list of records
abbrev pub OneSpelling : Type 0
OneSpelling =
    (session : Session) (octets : List ℕ) (records also : List ShownRecord) →
    Spells session octets records → Spells session octets also → records ≡ also

-- or have one first fault, at one place and behind one list of records
abbrev pub OneFault : Type 0
OneFault =
    (session : Session) (octets : List ℕ) (records also : List ShownRecord)
    (kind other : FaultKind) (offset place : ℕ) →
    IsFirstFault session octets records kind offset →
    IsFirstFault session octets also other place →
    (records ≡ also) × (kind ≡ other) × (offset ≡ place)

-- and never both
abbrev pub NeverBoth : Type 0
NeverBoth =
    (session : Session) (octets : List ℕ) (records also : List ShownRecord) (kind : FaultKind)
    (offset : ℕ) →
    Spells session octets records → ¬ IsFirstFault session octets also kind offset

-- and always one of them: that there is neither leads to a contradiction
abbrev pub NeverNone : Type 0
NeverNone =
    (session : Session) (octets : List ℕ) →
    ((records : List ShownRecord) → ¬ Spells session octets records) →
    ((records : List ShownRecord) (kind : FaultKind) (offset : ℕ) →
    ¬ IsFirstFault session octets records kind offset) → ⊥

-- what is written reads as the record, wherever a capture may have it
abbrev pub ReadsBack : Type 0
ReadsBack =
    (session : Session) (peer_as local_as : ℕ) (shown : ShownRecord) (last : Option ℕ) →
    IsWritable session shown → FitsFields session shown → IsAllowed session last shown →
    IsPiece session last (Shown (record_octets session peer_as local_as shown))
    × (shown_of (record_octets session peer_as local_as shown) ≡ shown)

-- records that are written one after another spell just these records: nothing is skipped, and
-- nothing is left
abbrev pub CapturesReadBack : Type 0
CapturesReadBack =
    (session : Session) (peer_as local_as : ℕ) (records : List ShownRecord) →
    AllByRecursion (CanBeCaptured session) records → AreInOrder 0 records →
    Spells session (capture_octets session peer_as local_as records) records

-- a record of the session is one that a capture may have there
abbrev pub EachAllowed : Type 0
EachAllowed =
    (session : Session) (last : Option ℕ) (octets : List ℕ) →
    IsPiece session last (Shown octets) → IsAllowed session last (shown_of octets)
