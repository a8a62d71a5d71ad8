-- What judging a capture reads and answers: the verdict on the session's records, or why there is
-- none.
use Rattle.std.specs.Prelude.{◌≡◌, ◌<◌, ◌+◌, ◌⊎◌, ◌++◌, ℕ, Bool, List, [], length, take, IsTrue}
use Rattle.std.specs.Prelude.{Option, None, Some, Result, Ok, Err}
use Rattle.bgp_prefix.specs.Shown.{ShownRecord}
use Rattle.bgp_prefix.specs.declared.session.Session.{Session}
use Rattle.bgp_open.specs.declared.config.Config.{Config}
use Rattle.bgp_machine.specs.Run.{Begins}
use Rattle.mrt.specs.Capture.{Piece, Shown, ArePieces, IsBegun, IsFirstFault, IsPiece, Spells}
use Rattle.mrt.specs.Capture.{joined, last_of, records_of, shown_of}
use Rattle.mrt.specs.ReadBy.{ReadBy}
use Rattle.mrt.specs.Reader.{ReaderState}
use Rattle.mrt.specs.declared.fault.CaptureFault.{CaptureFault}
use Rattle.mrt.specs.declared.fault.FaultKind.TheVariants as kinds
use Rattle.bgp_judge.specs.declared.verdict.Verdict.{Verdict}
use Rattle.bgp_judge.specs.Verdict.{IsVerdict}

-- The source goes from `old` to `new`. The members are the source's.
module _ {S : Type 0} (gives : S → S → List ℕ → Type 0) (has_ended : S → Bool) (config : Config)
    (old new : S) where
  -- The source was read to its end. Its octets spell these records, whose verdict this is.
  pub record IsJudged {X : Type 0} (answer : Verdict X) : Type 0 where
    pub octets : List ℕ
    pub records : List ShownRecord
    pub gave : gives old new octets
    pub ended : IsTrue (has_ended new)
    pub spells : Spells config.parts.session octets records
    pub verdict : IsVerdict config records answer

  -- The octets that it gave have this first fault behind these records, whatever follows them.
  pub record IsRefusedFor (fault : CaptureFault) : Type 0 where
    pub octets : List ℕ
    pub records : List ShownRecord
    pub gave : gives old new octets
    pub first : (more : List ℕ) → (IsTrue (has_ended new) → more ≡ [])
        → IsFirstFault config.parts.session (octets ++ more) records fault.kind fault.offset

  -- The source failed. What it gave is pieces of a capture and a record that has begun, at whose
  -- first octet the fault is.
  pub record HasFailed (fault : CaptureFault) : Type 0 where
    pub pieces : List Piece
    pub rest : List ℕ
    pub gave : gives old new (joined pieces ++ rest)
    pub each : ArePieces config.parts.session None pieces
    pub kind : fault.kind ≡ kinds.Device
    pub offset : fault.offset ≡ length (joined pieces)
    pub begun : IsBegun config.parts.session rest

  -- A tracker may lack memory for one record more by `may_lack`: under a configuration, after these
  -- records.
  module _ (may_lack : Config → List ShownRecord → ShownRecord → Type 0) where
    -- Memory was refused: before anything was read; or at a record of the session for which the
    -- tracker may lack it, or at the end, and then the records before begin a run.
    pub record LacksMemory (fault : CaptureFault) : Type 0 where
      pub pieces : List Piece
      pub rest : List ℕ
      pub gave : gives old new (joined pieces ++ rest)
      pub each : ArePieces config.parts.session None pieces
      pub kind : fault.kind ≡ kinds.Memory
      pub offset : fault.offset ≡ length (joined pieces)
      pub place : ((pieces ≡ []) × (rest ≡ []))
          ⊎ (IsPiece config.parts.session (last_of None pieces) (Shown rest)
          × Begins config (records_of pieces)
          × may_lack config (records_of pieces) (shown_of rest))
          ⊎ ((rest ≡ []) × IsTrue (has_ended new) × Begins config (records_of pieces))

    -- why there is no verdict
    abbrev pub IsRefusal : CaptureFault → Type 0
    IsRefusal fault = IsRefusedFor fault ⊎ HasFailed fault ⊎ LacksMemory fault

    abbrev pub Judges : {X : Type 0} → Result (Verdict X) CaptureFault → Type 0
    Judges (Ok verdict) = IsJudged verdict
    Judges (Err fault) = IsRefusal fault

-- the fault that is answered, if one is
abbrev pub fault_in : {X : Type 0} → Result X CaptureFault → Option CaptureFault
fault_in (Ok x) = None
fault_in (Err fault) = Some fault

-- the pieces go as far as was read, or to the fault
abbrev pub EndsBy : List Piece → List ℕ → Option CaptureFault → Type 0
EndsBy pieces rest None = rest ≡ []
EndsBy pieces rest (Some fault) = (rest ≡ []) ⊎ (fault.offset ≡ length (joined pieces))

-- A reader knows all pieces of what was read, to the end or to this fault. And something holds of a
-- source that gave just those octets.
abbrev pub ReadsWith : {S : Type 0} → (S → S → List ℕ → Type 0) → Session → S → S → ReaderState
    → Option CaptureFault → ((S → S → List ℕ → Type 0) → Type 0) → Type 0
ReadsWith gives session old new reader' fault Holds =
    (read : ReadBy gives session old new reader' Holds) × EndsBy read.pieces read.rest fault

-- How far a tracker has come with these records, which stands for records by `stands`: for all of
-- them, and they begin a run; or the first impossible one was found.
abbrev pub IsAt : (Config → List ShownRecord → Type 0) → Config → List ShownRecord → Option ℕ
    → Type 0
IsAt stands config records None = stands config records × Begins config records
IsAt stands config records (Some count) =
    (count < length records) × Begins config (take count records)
    × (¬ Begins config (take (count + 1) records))

-- a capture was read to its end, or as far as a fault
module _ {S : Type 0} (gives : S → S → List ℕ → Type 0) (has_ended : S → Bool) (config : Config)
    (old new : S) (may_lack : Config → List ShownRecord → ShownRecord → Type 0)
    (stands : Config → List ShownRecord → Type 0) (last : ℕ) where
  pub record ReadsAll (impossible : Option ℕ) : Type 0 where
    pub pieces : List Piece
    pub gave : gives old new (joined pieces)
    pub ended : IsTrue (has_ended new)
    pub each : ArePieces config.parts.session None pieces
    pub place : last ≡ length (joined pieces)
    pub tracked : IsAt stands config (records_of pieces) impossible

  abbrev pub Follows : Result (Option ℕ) CaptureFault → Type 0
  Follows (Ok impossible) = ReadsAll impossible
  Follows (Err fault) = IsRefusal gives has_ended config old new may_lack fault
