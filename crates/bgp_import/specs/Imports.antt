-- What an import does: it reads a recording, and writes the capture of one connection, or nothing.
use Rattle.std.specs.Prelude.{◌≡◌, ◌⊎◌, ℕ, Bool, List, length, Option, None, Result, Ok, Err}
use Rattle.packets.specs.Packet.{Recorded}
use Rattle.mrt.specs.Sink.{TakesBeginning}
use Rattle.streams.specs.Passed.{Segment}
use Rattle.bgp_import.specs.Gathers.{HasReadAll, IsStopped, cut_short_by, failures_by}
use Rattle.bgp_import.specs.Importing.{IsImported, IsConnectionRefused}
use Rattle.bgp_import.specs.declared.cut_short.CutShort.{CutShort}
use Rattle.bgp_import.specs.declared.importing.Import.{Import}
use Rattle.bgp_import.specs.declared.importing.Imported.{Imported}
use Rattle.bgp_import.specs.declared.importing.Stopped.{Stopped}
use Rattle.bgp_import.specs.declared.importing.Stopped.TheVariants.{Refused, Unwritten}
use Rattle.bgp_import.specs.declared.note.Notes.{Notes}
use Rattle.bgp_import.specs.declared.refusal.Refusal.{Refusal}
use Rattle.bgp_import.specs.declared.refusal.Refusal.TheVariants as refusals

-- What is done by a source that goes from `old` to `new`, and a sink that goes from `empty` to
-- `filled`; and that the recording was cut short, where it was. The members are theirs.
module _ {S T : Type 0} (gives : S → S → List ℕ → Type 0) (has_ended : S → Bool)
    (takes : T → T → List ℕ → Type 0) (wanted : Import) (old new : S) (empty filled : T)
    (cut_short : Option CutShort) where
  -- the whole recording was read, and this capture is made of it
  pub record IsMade (notes : Notes) (capture : List ℕ) : Type 0 where
    pub octets : List ℕ
    pub packets : List Recorded
    pub segments : List Segment
    pub cut : Bool
    pub all : HasReadAll gives has_ended wanted.selection old new octets packets segments cut
    pub is_cut : cut_short ≡ cut_short_by cut (length packets)
    pub imported : IsImported wanted octets capture notes

  -- it was written
  pub record IsWritten (notes : Notes) : Type 0 where
    pub capture : List ℕ
    pub made : IsMade notes capture
    pub written : takes empty filled capture

  -- it was read, and is refused; or there was no memory for what is made of a connection
  pub record IsTurnedDown (refusal : Refusal) : Type 0 where
    pub octets : List ℕ
    pub packets : List Recorded
    pub segments : List Segment
    pub cut : Bool
    pub all : HasReadAll gives has_ended wanted.selection old new octets packets segments cut
    pub is_cut : cut_short ≡ cut_short_by cut (length packets)
    pub why : IsConnectionRefused wanted octets refusal
        ⊎ (refusal ≡ refusals.Memory (length packets))

  -- nothing was written: the recording is refused, or was not read to its end
  pub record IsRefused (refusal : Refusal) : Type 0 where
    pub nothing : filled ≡ empty
    pub why : (IsStopped gives has_ended wanted.selection old new refusal × (cut_short ≡ None))
        ⊎ IsTurnedDown refusal

  -- the sink failed, and a beginning of the capture was written
  pub record IsUnwritten : Type 0 where
    pub notes : Notes
    pub capture : List ℕ
    pub made : IsMade notes capture
    pub begun : TakesBeginning takes empty filled capture

  abbrev pub ImportsAs : Result Notes Stopped → Type 0
  ImportsAs (Ok notes) = IsWritten notes
  ImportsAs (Err (Refused refusal)) = IsRefused refusal
  ImportsAs (Err Unwritten) = IsUnwritten

abbrev pub Imports : {S T : Type 0} → (S → S → List ℕ → Type 0) → (S → Bool)
    → (T → T → List ℕ → Type 0) → Import → S → S → T → T → Imported → Type 0
Imports gives has_ended takes wanted old new empty filled imported =
    ImportsAs gives has_ended takes wanted old new empty filled imported.cut_short imported.ended

-- how many failures of the source and of the sink an answer tells
abbrev pub source_failures : Result Notes Stopped → ℕ
source_failures (Ok notes) = 0
source_failures (Err (Refused refusal)) = failures_by refusal
source_failures (Err Unwritten) = 0

abbrev pub sink_failures : Result Notes Stopped → ℕ
sink_failures (Ok notes) = 0
sink_failures (Err (Refused refusal)) = 0
sink_failures (Err Unwritten) = 1
