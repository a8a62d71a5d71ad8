-- What a command over a file does that is a recording or a capture: its first four octets tell
-- which it is. And what is told of its end on standard error.
use Rattle.std.specs.Prelude.{◌≡◌, ◌<◌, ◌+◌, ◌||◌, ◌⊎◌, ℕ, Bool, List, [], length}
use Rattle.std.specs.Prelude.{Option, None, Some, IsSome, IsTrue, IsFalse}
use Rattle.std.specs.Borrow.{Bor}
use Rattle.std.specs.Io.KnownBytes.{Consumes, IsAtEnd, prepend_known}
use Rattle.bgp_prefix.specs.Shown.{ShownRecord}
use Rattle.bgp_open.specs.declared.config.Config.{Config}
use Rattle.mrt.specs.FromRead.{ReaderState, fresh_reader, reader_state, Gives}
use Rattle.mrt.specs.FromWrite.{WriterState, writer_state, Takes}
use Rattle.mrt.specs.declared.source.FromRead.{FromRead}
use Rattle.mrt.specs.declared.sink.FromWrite.{FromWrite}
use Rattle.bgp_tool.specs.Front.{is_pcap, is_pcapng}
use Rattle.bgp_tool.specs.Opened.{TellsWriter}
use Rattle.bgp_tool.specs.OpenedCapture.{DecodesOpened}
use Rattle.bgp_tool.specs.declared.note.Note.{Note}
use Rattle.bgp_tool.specs.declared.note.Note.TheVariants.{Unread, OutOfMemory}
use Rattle.bgp_tool.specs.declared.session_options.SessionOptions.{SessionOptions}
use Rattle.bgp_verdict_lines.specs.declared.form.VerdictForm.{VerdictForm}
use Rattle.bgp_explain.specs.LeftOut.{nothing_left_out}
use Rattle.bgp_explain.specs.Opened.{ReportsOpened}
use Rattle.bgp_explain.specs.declared.report.Report.{Report}
use Rattle.bgp_recording_tool.specs.declared.files.FileOutcome.{FileOutcome}
use Rattle.bgp_recording_tool.specs.declared.judging.Judged.{Judged}
use Rattle.bgp_import.specs.declared.options.RecordingOptions.{RecordingOptions}
use Rattle.bgp_recording_tool.specs.declared.peeked.Peeked.{Peeked}
use Rattle.bgp_recording_tool.specs.Decoding.{DecodesRecording}
use Rattle.bgp_recording_tool.specs.Judging.{JudgesRecording}

-- a recording begins so: with one of pcap's four magic numbers, or with a Section Header Block
abbrev pub is_recording : List ℕ → Bool
is_recording front = is_pcap front || is_pcapng front

-- what a reader gives whose first octets were looked at
abbrev pub peeked_remaining : {R : Type 0} → (R → Option (List ℕ)) → Peeked R → Option (List ℕ)
peeked_remaining remaining peeked =
    prepend_known peeked.front.items (remaining peeked.reader)

-- The first octets of a reader were looked at: four, or fewer where it ends or failed.
pub record IsPeeked {R : Type 0} (remaining : R → Option (List ℕ)) (reader : R) (peeked : Peeked R)
    : Type 0 where
  pub same : Consumes (remaining reader) (remaining peeked.reader) peeked.front.items
  pub whole : (length peeked.front.items ≡ 4)
      ⊎ IsAtEnd (remaining peeked.reader) ⊎ IsSome peeked.error

-- What is told of a recording whose reading ended with this status: of the writer, where it failed,
-- and else of the reader or of memory.
pub record TellsRead {R W : Type 0} (file : Bor (List ℕ)) (source : ReaderState R)
    (old new : WriterState W) (status : ℕ) (note : Option Note) : Type 0 where
  pub writer : new.failures ≡ old.failures + 1 → TellsWriter new note
  pub quiet : new.failures ≡ old.failures → ((status < 4) ⊎ (5 < status)) → note ≡ None
  pub memory : new.failures ≡ old.failures → status ≡ 4 →
      note ≡ Some (OutOfMemory file source.given)
  pub reader : new.failures ≡ old.failures → status ≡ 5 →
      note ≡ Some (Unread file source.given source.last_error)

-- It is read as a recording, by a source that had given nothing.
pub record ReadsRecording {R W : Type 0} (file : Bor (List ℕ)) (peeked : Peeked R)
    (old new : FromWrite W) (status : ℕ) (note : Option Note)
    (IsRead : FromRead (Peeked R) → FromRead (Peeked R) → Type 0) : Type 0 where
  pub begun : FromRead (Peeked R)
  pub read : FromRead (Peeked R)
  pub fresh : reader_state begun ≡ fresh_reader peeked
  pub is_read : IsRead begun read
  pub told : TellsRead file (reader_state read) (writer_state old) (writer_state new) status note

-- what is answered of a recording
abbrev pub judged_by : {X : Type 0} → FileOutcome X → Judged X
judged_by outcome = record {
  status = outcome.status;
  cut_short = outcome.cut_short;
  remarks = outcome.remarks;
}

-- It is read as a recording or as a capture, by a reader that gives just the same octets.
pub record ReadsFile {R W X : Type 0} (remaining : R → Option (List ℕ)) (file : Bor (List ℕ))
    (reader : R) (old new : FromWrite W) (outcome : FileOutcome X)
    (IsRecording : FromRead (Peeked R) → FromRead (Peeked R) → Type 0)
    (IsCapture : Peeked R → Type 0) : Type 0 where
  pub peeked : Peeked R
  pub is_peeked : IsPeeked remaining reader peeked
  pub is : (IsTrue (is_recording peeked.front.items)
      × ReadsRecording file peeked old new outcome.status outcome.note IsRecording
      × (outcome.skipped ≡ None) × IsFalse outcome.confederation
      × (outcome.left_out ≡ nothing_left_out))
      ⊎ (IsFalse (is_recording peeked.front.items) × IsCapture peeked
      × (outcome.cut_short ≡ None) × (outcome.remarks.items ≡ []))

module _ {R W X : Type 0} (remaining : R → Option (List ℕ)) (contents : W → Option (List ℕ))
    (recording : RecordingOptions) (file : Bor (List ℕ)) (reader : R) (old new : FromWrite W)
    (outcome : FileOutcome X) where
  abbrev pub GivesRead : FromRead (Peeked R) → FromRead (Peeked R) → List ℕ → Type 0
  GivesRead from to octets =
      Gives (peeked_remaining remaining) (reader_state from) (reader_state to) octets

  abbrev pub TakesWritten : FromWrite W → FromWrite W → List ℕ → Type 0
  TakesWritten from to octets = Takes contents (writer_state from) (writer_state to) octets

  abbrev pub JudgesFile : Config → Report → VerdictForm
      → (Config → List ShownRecord → ShownRecord → Type 0) → Type 0
  JudgesFile config report form may_lack = ReadsFile remaining file reader old new outcome
      (λ from to. JudgesRecording GivesRead (λ source. (reader_state source).has_ended)
      TakesWritten (λ source. (reader_state source).failures)
      (λ sink. (writer_state sink).failures) config report form recording from to old new
      (judged_by outcome))
      (λ peeked. ReportsOpened form (peeked_remaining remaining) contents config may_lack file peeked
      (writer_state old) (writer_state new) (record {
        outcome = record {
          status = outcome.status;
          skipped = outcome.skipped;
          note = outcome.note;
        };
        confederation = outcome.confederation;
        left_out = outcome.left_out;
      }) report)

  abbrev pub DecodesFile : SessionOptions → Type 0
  DecodesFile options = ReadsFile remaining file reader old new outcome
      (λ from to. DecodesRecording GivesRead (λ source. (reader_state source).has_ended)
      TakesWritten (λ source. (reader_state source).failures)
      (λ sink. (writer_state sink).failures) options recording from to old new
      (judged_by outcome))
      (λ peeked. DecodesOpened (peeked_remaining remaining) contents options file peeked
      (writer_state old) (writer_state new)
      (record { status = outcome.status; skipped = outcome.skipped; note = outcome.note })
      × IsFalse outcome.confederation × (outcome.left_out ≡ nothing_left_out))
