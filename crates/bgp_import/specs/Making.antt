-- What is made of the connections that were gathered.
use Rattle.std.specs.Prelude.{◌≡◌, ◌⊎◌, ℕ, List, length, reverse, Option, Result, Ok, Err}
use Rattle.std.specs.List.{AllByRecursion}
use Rattle.mrt.specs.Sink.{TakesBeginning}
use Rattle.packets.specs.Packet.{Recorded}
use Rattle.streams.specs.Choice.{IsAnswered}
use Rattle.streams.specs.Connections.{numbered}
use Rattle.streams.specs.Passed.{Segment}
use Rattle.streams.specs.declared.connection.Connection.{Connection}
use Rattle.bgp_recording.specs.Pieces.{framings_of}
use Rattle.bgp_recording.specs.Recorded.{IsRecordedInOrder}
use Rattle.bgp_recording.specs.declared.making.Recording.{Recording}
use Rattle.bgp_import.specs.Captures.{CanBeWritten}
use Rattle.bgp_import.specs.Gathers.{HoldsSession, IsNotChosen}
use Rattle.bgp_import.specs.Importing.{IsConnection, IsCaptureOf}
use Rattle.bgp_import.specs.Selecting.{AreTaken}
use Rattle.bgp_import.specs.declared.gathering.Gathered.{Gathered}
use Rattle.bgp_import.specs.declared.importing.Import.{Import}
use Rattle.bgp_import.specs.declared.importing.Stopped.{Stopped}
use Rattle.bgp_import.specs.declared.importing.Stopped.TheVariants.{Refused, Unwritten}
use Rattle.bgp_import.specs.declared.note.Notes.{Notes}
use Rattle.bgp_import.specs.declared.refusal.Refusal.{Refusal}
use Rattle.bgp_import.specs.declared.refusal.Refusal.TheVariants as refusals
use Rattle.bgp_import.specs.declared.selection.Selection.{Selection}

-- what is gathered is the connections of some packets
pub record HoldsTaken {Z : Type 0} (selection : Selection) (gathered : Gathered Z) : Type 0 where
  pub packets : List Recorded
  pub segments : List Segment
  pub taken : AreTaken selection 0 packets segments
  pub holds : HoldsSession (reverse segments) (length packets) gathered

-- What is made of these packets, which have these segments: these records tell the connection that
-- is asked for, and can be written.
pub record TellsOne {Z : Type 0} (wanted : Import) (number : Option ℕ) (packets : List Recorded)
    (segments : List Segment) (made : Recording Z) : Type 0 where
  pub connection : Connection
  pub answered : IsAnswered number (length packets) (numbered (reverse segments)) connection
  pub recorded : IsRecordedInOrder (framings_of wanted.selection.session) wanted.within connection
      made.entries.items made.received made.sent
  pub writable : AllByRecursion (CanBeWritten wanted.selection.session) made.entries.items

-- the connection that is asked for can't be told, or there was no memory
abbrev pub IsTurnedDown : Option ℕ → List Recorded → List Segment → Refusal → Type 0
IsTurnedDown number packets segments refusal =
    IsNotChosen number (length packets) (reverse segments) refusal
    ⊎ (refusal ≡ refusals.Memory (length packets))

-- What is written to a sink that goes from `empty` to `filled`. The member is the sink's.
module _ {T : Type 0} (takes : T → T → List ℕ → Type 0) (wanted : Import)
    (packets : List Recorded) (segments : List Segment) (empty filled : T) where
  -- this capture is made of the connection that is meant
  pub record IsCaptured (notes : Notes) (capture : List ℕ) : Type 0 where
    pub connection : Connection
    pub is_connection : IsConnection wanted packets connection
    pub made : IsCaptureOf wanted connection capture notes

  pub record IsWritten (notes : Notes) : Type 0 where
    pub capture : List ℕ
    pub captured : IsCaptured notes capture
    pub written : takes empty filled capture

  -- nothing is written
  pub record IsNotMade (refusal : Refusal) : Type 0 where
    pub nothing : filled ≡ empty
    pub why : IsTurnedDown wanted.connection packets segments refusal

  pub record IsUnwritten : Type 0 where
    pub notes : Notes
    pub capture : List ℕ
    pub captured : IsCaptured notes capture
    pub begun : TakesBeginning takes empty filled capture

  abbrev pub ImportsTaken : Result Notes Stopped → Type 0
  ImportsTaken (Ok notes) = IsWritten notes
  ImportsTaken (Err (Refused refusal)) = IsNotMade refusal
  ImportsTaken (Err Unwritten) = IsUnwritten
