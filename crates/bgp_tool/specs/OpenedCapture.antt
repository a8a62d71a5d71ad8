-- What a decoding of a capture that a reader gives leaves in a writer, as far as both tell their
-- octets, and what is told of its end on standard error.
use Rattle.std.specs.Prelude.{◌≡◌, ◌<◌, ◌+◌, ◌++◌, ◌==◌, ℕ, Bool, true, false, List}
use Rattle.std.specs.Prelude.{Option, None, Some, is_some, option_map, if◌then◌else◌}
use Rattle.std.specs.Prelude.{slice_get}
use Rattle.std.specs.Borrow.{Bor}
use Rattle.mrt.specs.Capture.{joined}
use Rattle.mrt.specs.declared.fault.CaptureFault.{CaptureFault}
use Rattle.mrt.specs.declared.fault.FaultKind.{FaultKind}
use Rattle.mrt.specs.declared.fault.FaultKind.TheVariants as kinds
use Rattle.mrt.specs.declared.record.Endpoints.{Endpoints}
use Rattle.mrt.specs.FromRead.{ReaderState, fresh_reader, Gives}
use Rattle.mrt.specs.FromWrite.{WriterState, Takes}
use Rattle.mrt.specs.Reader as records
use Rattle.bgp_judge.specs.Judging.{fault_in}
use Rattle.bgp_tool.specs.declared.front.Form.{Form}
use Rattle.bgp_tool.specs.declared.note.CaptureCommand.{CaptureCommand}
use Rattle.bgp_tool.specs.declared.note.CaptureCommand.TheVariants.{Decode}
use Rattle.bgp_tool.specs.declared.note.Note.{Note}
use Rattle.bgp_tool.specs.declared.note.Note.TheVariants.{Unread, OutOfMemory, NoSession}
use Rattle.bgp_tool.specs.declared.note.Note.TheVariants.{NoCapture, NothingDone, Refused}
use Rattle.bgp_tool.specs.declared.note.Unmet.{Unmet}
use Rattle.bgp_tool.specs.declared.opened.Outcome.{Outcome}
use Rattle.bgp_tool.specs.declared.seen.Seen.{Seen}
use Rattle.bgp_tool.specs.declared.session_options.SessionOptions.{SessionOptions}
use Rattle.bgp_tool.specs.CaptureDecoding.{DecodesCapture}
use Rattle.bgp_tool.specs.Front.{kept, no_capture}
use Rattle.bgp_tool.specs.Opened.{TellsWriter}

-- A record that is refused so may be one of the session: it is, where its addresses come before
-- what is refused (the rules of mrt's specs/Rules, in their order); and it isn't known to be one,
-- where its length is refused first.
abbrev pub may_be_of_session : FaultKind → Bool
may_be_of_session kinds.Truncated = false
may_be_of_session kinds.TooLong = false
may_be_of_session kinds.Body = true
may_be_of_session kinds.BadState = true
may_be_of_session kinds.NotAMessage = true
may_be_of_session kinds.TimeBack = true
may_be_of_session kinds.RouteRefresh = true
may_be_of_session kinds.AddPath = true
may_be_of_session kinds.Device = false
may_be_of_session kinds.Memory = false

-- no record of the session was met, and those of others are between these addresses
abbrev pub unmet_by : Bool → List (Option Endpoints) → Option Unmet
unmet_by true others = None
unmet_by false others = Some (record { others = others })

-- a record is refused that may be one of the session
abbrev pub refuses_of_session : Option CaptureFault → Bool
refuses_of_session None = false
refuses_of_session (Some fault) = may_be_of_session fault.kind

-- What a file is that begins as no capture does: a capture all the same, if a record of another
-- session was met, or one that may be of this session is refused.
abbrev pub unless_met : Option Endpoints → Bool → Option Form → Option Form
unless_met None false form = form
unless_met None true form = None
unless_met (Some other) of_session form = None

-- What is told of what was read of a capture, by whether a record of the session was read, what the
-- file is if it is no capture, why it is refused if it is, what is lacking in it if it is judged
-- yes, and the addresses for which records of other sessions were skipped.
module _ (command : CaptureCommand) (file : Bor (List ℕ)) where
  abbrev pub told_where : Bool → Option Form → Option CaptureFault → Option Seen
      → List (Option Endpoints) → Option Note
  told_where true form None lacking others = option_map (NothingDone file) lacking
  told_where true form (Some fault) lacking others = Some (Refused file fault None)
  told_where false (Some form) fault lacking others = Some (NoCapture file form command)
  told_where false None None lacking others = Some (NoSession file others)
  told_where false None (Some fault) lacking others =
      Some (Refused file fault (unmet_by (may_be_of_session fault.kind) others))

  abbrev pub told_by : Bool → Option Form → Option CaptureFault → Option Seen → List Endpoints
      → Option Note
  told_by found form fault lacking others =
      told_where found (unless_met (slice_get others 0) (refuses_of_session fault) form) fault
      lacking (records.places_of others)

  -- by the first octets and what was found
  abbrev pub told_of : List ℕ → records.ReaderState → Option CaptureFault → Option Seen
      → Option Note
  told_of octets found fault lacking =
      told_by (is_some found.last) (no_capture (kept octets)) fault lacking found.others

-- what is told of messages that were passed over, by how many they are: nothing where none was
abbrev pub counted : (ℕ → Note) → ℕ → Option Note
counted note count = if count == 0 then None else Some (note count)

-- What is told of a command that ended with this status: of the writer, where it failed, and else
-- of the octets that were read.
pub record TellsCapture {R W : Type 0} (command : CaptureCommand) (file : Bor (List ℕ))
    (source : ReaderState R) (octets : List ℕ) (found : records.ReaderState)
    (fault : Option CaptureFault) (lacking : Option Seen) (old new : WriterState W) (status : ℕ)
    (note : Option Note) : Type 0 where
  pub writer : new.failures ≡ old.failures + 1 → TellsWriter new note
  pub read : status < 4 → note ≡ told_of command file octets found fault lacking
  pub memory : status ≡ 4 → note ≡ Some (OutOfMemory file source.given)
  -- the writer took all of the text, so that it was the reader that failed
  pub reader : status ≡ 5 → new.failures ≡ old.failures →
      note ≡ Some (Unread file source.given source.last_error)

-- From one state of a writer to another a reader's octets were decoded, from a source that had
-- given nothing, and it is told how that ended.
pub record DecodesOpened {R W : Type 0} (remaining : R → Option (List ℕ))
    (contents : W → Option (List ℕ)) (options : SessionOptions) (file : Bor (List ℕ)) (reader : R)
    (old new : WriterState W) (outcome : Outcome) : Type 0 where
  pub source : ReaderState R
  pub found : records.ReaderState
  pub decoded : DecodesCapture (Gives remaining) (λ state. state.has_ended) (Takes contents)
      (λ state. state.failures) (λ state. state.failures) options (fresh_reader reader) source
      old new found outcome.status
  pub told : TellsCapture Decode file source (joined decoded.pieces ++ decoded.rest) found
      (fault_in decoded.answer) None old new outcome.status outcome.note
  pub skipped : outcome.skipped ≡ Some found.skipped
