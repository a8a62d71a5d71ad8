-- What each command that reads a file does: which call it is, and with which options.
use Rattle.std.specs.Prelude.{◌≡◌, ◌≢◌, ◌<◌, ◌⊎◌, ◌++◌, ℕ, Bool, true, false, List, [], Option, None, codes}
use Rattle.std.specs.Prelude.{Result, Ok, Err, IfOk, IfErr, IsTrue, IsFalse, if◌then◌else◌}
use Rattle.std.specs.Borrow.{Bor}
use Rattle.std.specs.IoError.{error_kind}
use Rattle.std.specs.declared.io.Error.{Error}
use Rattle.mrt.specs.FromRead.{fresh_reader, reader_state, Gives}
use Rattle.mrt.specs.FromWrite.{writer_state, Takes}
use Rattle.mrt.specs.declared.fault.CaptureFault.{CaptureFault}
use Rattle.mrt.specs.declared.sink.FromWrite.{FromWrite}
use Rattle.mrt.specs.declared.source.FromRead.{FromRead}
use Rattle.bgp_wire.specs.Header.{limit_with}
use Rattle.bgp_prefix.specs.Shown.{ShownRecord}
use Rattle.bgp_prefix.specs.declared.session.Session.{Session}
use Rattle.bgp_open.specs.declared.config.Config.{Config}
use Rattle.bgp_import.specs.declared.options.RecordingOptions.{RecordingOptions}
use Rattle.bgp_words.specs.declared.check.CheckForm.{CheckForm}
use Rattle.bgp_words.specs.declared.check.CheckForm.TheVariants as forms
use Rattle.bgp_words.specs.declared.check.Checking.{Checking}
use Rattle.bgp_words.specs.declared.words.Command.{Command}
use Rattle.bgp_words.specs.declared.words.Command.TheVariants as words
use Rattle.bgp_tool.specs.Front.{kept, no_capture, no_recording}
use Rattle.bgp_tool.specs.NothingFound.{without_packets_by, without_records_by}
use Rattle.bgp_tool.specs.Opened.{DecodesReader, IsUnopened}
use Rattle.bgp_tool.specs.declared.front.WithFront.{WithFront}
use Rattle.bgp_tool.specs.declared.note.CaptureCommand.{CaptureCommand}
use Rattle.bgp_tool.specs.declared.note.CaptureCommand.TheVariants as commands
use Rattle.bgp_tool.specs.declared.note.Note.{Note}
use Rattle.bgp_tool.specs.declared.session_options.SessionOptions.{SessionOptions}
use Rattle.bgp_tool.specs.declared.stream_options.StreamOptions.{StreamOptions}
use Rattle.bgp_json.specs.declared.output_form.OutputForm.{OutputForm}
use Rattle.bgp_tool.specs.declared.opened.Outcome.{Outcome}
use Rattle.bgp_verdict_lines.specs.declared.form.VerdictForm.{VerdictForm}
use Rattle.bgp_verdict_lines.specs.declared.form.VerdictForm.TheVariants as verdicts
use Rattle.bgp_explain.specs.declared.report.Report.{Report}
use Rattle.bgp_explain.specs.declared.report.Report.TheVariants.{VerdictAlone, WithReason}
use Rattle.bgp_import.specs.Imports.{Imports}
use Rattle.bgp_import.specs.Refusals.{cause_of}
use Rattle.bgp_import.specs.declared.importing.Imported.{Imported}
use Rattle.bgp_import.specs.declared.importing.Stopped.{Stopped}
use Rattle.bgp_import.specs.declared.importing.Stopped.TheVariants.{Refused, Unwritten}
use Rattle.bgp_import.specs.declared.note.Notes.{Notes}
use Rattle.bgp_import.specs.declared.refusal.Cause.{Cause}
use Rattle.bgp_import.specs.declared.refusal.Cause.TheVariants as causes
use Rattle.bgp_list.specs.Capture.{ListsCapture}
use Rattle.bgp_list.specs.Recording.{ListsRecording}
use Rattle.bgp_list.specs.declared.capture.ListedCapture.{ListedCapture}
use Rattle.bgp_list.specs.declared.form.ListForm.{ListForm}
use Rattle.bgp_list.specs.declared.form.ListForm.TheVariants.{Json, Text}
use Rattle.bgp_list.specs.declared.listed.ListedRecording.{ListedRecording}
use Rattle.bgp_report.specs.Options.{Settings}
use Rattle.bgp_report.specs.Options.{Always, Never}
use Rattle.bgp_report.specs.Recordings.{ChecksRecording}
use Rattle.bgp_report.specs.Recordings as recordings
use Rattle.bgp_report.specs.Recordings.{CheckedRecording}
use Rattle.bgp_report.specs.Recordings.{CheckOptions}
use Rattle.bgp_report.specs.Captures.{ChecksCapture}
use Rattle.bgp_report.specs.Captures as captures
use Rattle.bgp_report.specs.Captures.{CheckedCapture}
use Rattle.bgp_report.specs.Captures.{CaptureOptions}
use Rattle.bgp_report.specs.Pieces.{Piece}
use Rattle.bgp_report.specs.Report.{Beside, ChecksWithLadders, ChecksWithStretches, Reports}
use Rattle.bgp_report.specs.Report.{TakesText, never_fails, recording_options}
use Rattle.bgp_report.specs.Report.{capture_options as report_options}
use Rattle.bgp_recording_tool.specs.Files.{DecodesFile, IsPeeked, JudgesFile, is_recording}
use Rattle.bgp_recording_tool.specs.Files.{peeked_remaining}
use Rattle.bgp_recording_tool.specs.Options.{import_of}
use Rattle.bgp_recording_tool.specs.declared.files.FileOutcome.{FileOutcome}
use Rattle.bgp_recording_tool.specs.declared.peeked.Peeked.{Peeked}
use Rattle.bgp_commands.specs.Ends.{AreEnds}
use Rattle.bgp_commands.specs.declared.answer.Answer.{Answer}
use Rattle.bgp_commands.specs.declared.answer.Answer.TheVariants as answers
use Rattle.bgp_commands.specs.declared.answer.Destination.{Destination}
use Rattle.bgp_commands.specs.declared.answer.Destination.TheVariants.{StandardOutput, File}
use Rattle.bgp_commands.specs.declared.ends.Ends.{Ends}

-- ---- commands

-- how a stream is read and told
abbrev pub stream_options : OutputForm → Bool → StreamOptions
stream_options form extended = record { limit = limit_with extended; form = form }

-- which session's records are told, and how
abbrev pub session_options : OutputForm → Session → SessionOptions
session_options form session = record { session = session; form = form }

-- the file that a command reads, or else the one that it writes
abbrev pub file_of : Command → Bor (List ℕ)
file_of (words.Decode form extended file) = file
file_of (words.Capture form session recording file) = file
file_of (words.Judge config recording reporting file) = file
file_of (words.Import session recording file out) = file
file_of (words.List port json file) = file
file_of (words.Check checking file) = file
file_of (words.Speak config speaking file) = file
file_of (words.Pair file) = file

-- a command reads a file
abbrev pub reads_file : Command → Bool
reads_file (words.Decode form extended file) = true
reads_file (words.Capture form session recording file) = true
reads_file (words.Judge config recording reporting file) = true
reads_file (words.Import session recording file out) = true
reads_file (words.List port json file) = true
reads_file (words.Check checking file) = true
reads_file (words.Speak config speaking file) = false
reads_file (words.Pair file) = false

-- a command is an import of a file to itself
abbrev pub IsOneName : Command → Type 0
IsOneName (words.Decode form extended file) = ⊥
IsOneName (words.Capture form session recording file) = ⊥
IsOneName (words.Judge config recording reporting file) = ⊥
IsOneName (words.Import session recording file out) =
    (file.now ≡ out.now) × (file.now ≢ codes "-")
IsOneName (words.List port json file) = ⊥
IsOneName (words.Check checking file) = ⊥
IsOneName (words.Speak config speaking file) = ⊥
IsOneName (words.Pair file) = ⊥

-- ---- options

abbrev pub list_form : Bool → ListForm
list_form json = if json then Json else Text

abbrev pub report_with : Bool → Report
report_with explain = if explain then WithReason else VerdictAlone

abbrev pub form_with : Bool → VerdictForm
form_with json = if json then verdicts.Json else verdicts.Text

abbrev pub settings_with : Bool → Settings
settings_with settings = if settings then Always else Never

-- a report is made of text
abbrev pub form_in : CheckForm → VerdictForm
form_in forms.Text = verdicts.Text
form_in forms.Json = verdicts.Json
form_in forms.Html = verdicts.Text

abbrev pub check_options : Checking → CheckOptions
check_options checking = record {
  port = checking.port;
  within = checking.within;
  printing = record { routes = checking.routes; quiet = checking.quiet };
  settings = settings_with checking.settings;
  form = form_in checking.form;
}

-- of a capture: its messages have no port, and were handled when their records were written
abbrev pub capture_options : CheckOptions → CaptureOptions
capture_options options = record {
  printing = options.printing;
  settings = options.settings;
  form = options.form;
}

-- an MRT file is written to standard output or to the file of this name
abbrev pub IsDestination : Bor (List ℕ) → Destination → Type 0
IsDestination out to = ((out.now ≡ codes "-") × (to ≡ StandardOutput))
    ⊎ ((out.now ≢ codes "-") × (to ≡ File out))

-- ---- calls over a reader and a writer

-- what a source over a reader gives, and what a sink over a writer takes
abbrev pub GivesRead : {R : Type 0} → (R → Option (List ℕ)) → FromRead R → FromRead R → List ℕ
    → Type 0
GivesRead remaining from to octets = Gives remaining (reader_state from) (reader_state to) octets

abbrev pub has_ended : {R : Type 0} → FromRead R → Bool
has_ended source = (reader_state source).has_ended

abbrev pub read_failures : {R : Type 0} → FromRead R → ℕ
read_failures source = (reader_state source).failures

abbrev pub TakesWritten : {W : Type 0} → (W → Option (List ℕ)) → FromWrite W → FromWrite W
    → List ℕ → Type 0
TakesWritten contents from to octets =
    Takes contents (writer_state from) (writer_state to) octets

abbrev pub write_failures : {W : Type 0} → FromWrite W → ℕ
write_failures sink = (writer_state sink).failures

-- A reader was read by a call, from a source that had given nothing into the sink, and both came as
-- far as is answered.
pub record IsCalled {R W : Type 0} (file : Bor (List ℕ)) (reader : R) (old new : FromWrite W)
    (ends : Ends) (IsCall : FromRead R → FromRead R → Type 0) : Type 0 where
  pub begun : FromRead R
  pub read : FromRead R
  pub fresh : reader_state begun ≡ fresh_reader reader
  pub is_call : IsCall begun read
  pub are_ends : AreEnds file (reader_state read) (writer_state new) (write_failures old) None
      ends

-- ---- the same of a source that keeps its first octets

abbrev pub GivesFront : {R : Type 0} → (R → Option (List ℕ)) → WithFront (FromRead R)
    → WithFront (FromRead R) → List ℕ → Type 0
GivesFront remaining from to octets = GivesRead remaining from.source to.source octets
    × (to.front.items ≡ kept (from.front.items ++ octets))

abbrev pub front_ended : {R : Type 0} → WithFront (FromRead R) → Bool
front_ended source = has_ended source.source

abbrev pub front_failures : {R : Type 0} → WithFront (FromRead R) → ℕ
front_failures source = read_failures source.source

-- It is called so, and this is what the file is by what is kept.
pub record IsCalledWithFront {R W : Type 0} (file : Bor (List ℕ)) (reader : R)
    (old new : FromWrite W) (ends : Ends)
    (IsCall : WithFront (FromRead R) → WithFront (FromRead R) → Type 0)
    (IsNote : WithFront (FromRead R) → Option Note → Type 0) : Type 0 where
  pub begun : WithFront (FromRead R)
  pub read : WithFront (FromRead R)
  pub fresh : reader_state begun.source ≡ fresh_reader reader
  pub no_front : begun.front.items ≡ []
  pub is_call : IsCall begun read
  pub note : Option Note
  pub is_note : IsNote read note
  pub are_ends : AreEnds file (reader_state read.source) (writer_state new) (write_failures old)
      note ends

-- what a file is in which so many sessions were found
pub record IsFileNote {R : Type 0} (command : CaptureCommand) (file : Bor (List ℕ)) (sessions : ℕ)
    (fault : Option CaptureFault) (read : WithFront (FromRead R)) (note : Option Note) : Type 0
  where
    pub some : 0 < sessions → note ≡ None
    pub none : sessions ≡ 0
        → note ≡ without_records_by command file (no_capture read.front.items) fault

-- what a file is of which a recording was to be imported, by what is kept after more was asked for
pub record IsFrontNote {R : Type 0} (remaining : R → Option (List ℕ)) (file : Bor (List ℕ))
    (read after : WithFront (FromRead R)) (note : Option Note) : Type 0 where
  pub goes_on : (after ≡ read) ⊎ ((more : List ℕ) × GivesFront remaining read after more)
  pub is_note : note
      ≡ without_packets_by commands.Import file (no_recording after.front.items)

abbrev pub IsCauseNote : {R : Type 0} → (R → Option (List ℕ)) → Bor (List ℕ)
    → WithFront (FromRead R) → WithFront (FromRead R) → Cause → Option Note → Type 0
IsCauseNote remaining file read after causes.Recording note =
    IsFrontNote remaining file read after note
IsCauseNote remaining file read after causes.Memory note = note ≡ None
IsCauseNote remaining file read after causes.Device note = note ≡ None

abbrev pub IsImportNote : {R : Type 0} → (R → Option (List ℕ)) → Bor (List ℕ)
    → WithFront (FromRead R) → WithFront (FromRead R) → Result Notes Stopped → Option Note → Type 0
IsImportNote remaining file read after (Ok made) note = note ≡ None
IsImportNote remaining file read after (Err Unwritten) note = note ≡ None
IsImportNote remaining file read after (Err (Refused refusal)) note =
    IsCauseNote remaining file read after (cause_of refusal) note

module _ {R W : Type 0} (remaining : R → Option (List ℕ)) (contents : W → Option (List ℕ))
    (file : Bor (List ℕ)) (reader : R) (old new : FromWrite W) where
  -- the one connection that is meant of a recording is written as a capture
  abbrev pub ImportsFile : Session → RecordingOptions → Imported → Ends → Type 0
  ImportsFile session recording imported ends = IsCalledWithFront file reader old new ends
      (λ begun read. Imports (GivesFront remaining) front_ended (TakesWritten contents)
      (import_of session recording) begun read old new imported)
      (λ read note. (after : WithFront (FromRead R))
      × IsImportNote remaining file read after imported.ended note)

  -- the connections at this port are listed, in this form
  abbrev pub ListsPackets : ℕ → ListForm → ListedRecording → Ends → Type 0
  ListsPackets port form listed ends = IsCalled file reader old new ends
      (λ begun read. ListsRecording (GivesRead remaining) has_ended (TakesWritten contents)
      read_failures write_failures port form begun read old new listed)

  -- the sessions of a capture are listed, in this form
  abbrev pub ListsRecords : ListForm → ListedCapture → Ends → Type 0
  ListsRecords form listed ends = IsCalledWithFront file reader old new ends
      (λ begun read. ListsCapture (GivesFront remaining) front_ended (TakesWritten contents)
      front_failures write_failures form begun read old new listed.status listed.sessions
      listed.fault)
      (IsFileNote commands.List file listed.sessions listed.fault)

  -- a text is printed so, and its report under the name of the file was written
  abbrev pub Reported : ℕ → (List ℕ → ℕ → List Piece → Type 0) → Type 0
  Reported status Prints =
      Reports (TakesWritten contents) write_failures file.now Prints old new status

  -- both ends of each connection are checked
  abbrev pub ChecksPackets : CheckOptions → CheckedRecording → Ends → Type 0
  ChecksPackets options checked ends = IsCalled file reader old new ends
      (λ begun read. recordings.PrintsTrue recordings.NoesAreTrue (GivesRead remaining) has_ended
      (TakesWritten contents) write_failures options begun read old new checked.status
      checked.cut_short
      × recordings.PrintsTrue recordings.YesesAreTrue (GivesRead remaining) has_ended
      (TakesWritten contents) write_failures options begun read old new checked.status
      checked.cut_short
      × recordings.PrintsTrue recordings.UnfinishedAreTrue (GivesRead remaining) has_ended
      (TakesWritten contents) write_failures options begun read old new checked.status
      checked.cut_short
      × ChecksRecording (GivesRead remaining) has_ended (TakesWritten contents) read_failures
      write_failures options begun read old new checked.status checked.cut_short
      checked.refusals.items checked.refusal checked.nothing)

  -- the local system of each session of a capture is checked
  abbrev pub ChecksRecords : CaptureOptions → CheckedCapture → Ends → Type 0
  ChecksRecords options checked ends = IsCalledWithFront file reader old new ends
      (λ begun read. captures.PrintsTrueNoes (GivesFront remaining) front_ended
      (TakesWritten contents) write_failures options begun read old new checked.status
      checked.fault
      × ChecksCapture (GivesFront remaining) front_ended (TakesWritten contents) front_failures
      write_failures options begun read old new checked.status checked.refusals.items
      checked.sessions checked.fault checked.nothing)
      (IsFileNote commands.Check file checked.sessions checked.fault)

  -- a report is made of what is printed of a recording, as text with routes and settings: of the
  -- same answers, in the same words; after the text stand the ladders of the ends
  abbrev pub ReportsPackets : CheckOptions → CheckedRecording → Ends → Type 0
  ReportsPackets options checked ends = IsCalled file reader old new ends
      (λ begun read. Reported checked.status (Beside (λ (text : List ℕ) (code : ℕ).
      recordings.PrintsTrue recordings.NoesAreTrue (GivesRead remaining) has_ended TakesText
      never_fails (recording_options options) begun read [] text code checked.cut_short))
      × Reported checked.status (Beside (λ (text : List ℕ) (code : ℕ).
      recordings.PrintsTrue recordings.YesesAreTrue (GivesRead remaining) has_ended TakesText
      never_fails (recording_options options) begun read [] text code checked.cut_short))
      × Reported checked.status (Beside (λ (text : List ℕ) (code : ℕ).
      recordings.PrintsTrue recordings.UnfinishedAreTrue (GivesRead remaining) has_ended TakesText
      never_fails (recording_options options) begun read [] text code checked.cut_short))
      × Reported checked.status (ChecksWithLadders (GivesRead remaining) has_ended read_failures
      (recording_options options) begun read checked.cut_short checked.refusals.items
      checked.refusal checked.nothing))

  -- and of a capture; after the text stand the ladders of the stretches
  abbrev pub ReportsRecords : CaptureOptions → CheckedCapture → Ends → Type 0
  ReportsRecords options checked ends = IsCalledWithFront file reader old new ends
      (λ begun read. Reported checked.status (Beside (λ (text : List ℕ) (code : ℕ).
      captures.PrintsTrueNoes (GivesFront remaining) front_ended TakesText never_fails
      (report_options options) begun read [] text code checked.fault))
      × Reported checked.status (ChecksWithStretches (GivesFront remaining) front_ended
      front_failures (report_options options) begun read checked.refusals.items checked.sessions
      checked.fault checked.nothing))
      (IsFileNote commands.Check file checked.sessions checked.fault)

-- ---- by the first four octets

-- A file is a recording, and this is answered of it, or a capture, and that is.
pub record ByFront {R : Type 0} (remaining : R → Option (List ℕ)) (reader : R)
    (OfRecording OfCapture : Peeked R → Type 0) : Type 0 where
  pub peeked : Peeked R
  pub is_peeked : IsPeeked remaining reader peeked
  pub is : (IsTrue (is_recording peeked.front.items) × OfRecording peeked)
      ⊎ (IsFalse (is_recording peeked.front.items) × OfCapture peeked)

module _ {R W X : Type 0} (remaining : R → Option (List ℕ)) (contents : W → Option (List ℕ))
    (file : Bor (List ℕ)) (reader : R) (old new : FromWrite W) (answer : Answer X) where
  abbrev pub ListsFile : ℕ → ListForm → Type 0
  ListsFile port form = ByFront remaining reader
      (λ peeked. (listed : ListedRecording) × ((ends : Ends)
      × ((answer ≡ answers.ListedRecording listed ends)
      × ListsPackets (peeked_remaining remaining) contents file peeked old new port form listed
      ends)))
      (λ peeked. (listed : ListedCapture) × ((ends : Ends)
      × ((answer ≡ answers.ListedCapture listed ends)
      × ListsRecords (peeked_remaining remaining) contents file peeked old new form listed ends)))

  abbrev pub ChecksFile : CheckOptions → Type 0
  ChecksFile options = ByFront remaining reader
      (λ peeked. (checked : CheckedRecording) × ((ends : Ends)
      × ((answer ≡ answers.CheckedRecording checked ends)
      × ChecksPackets (peeked_remaining remaining) contents file peeked old new options checked
      ends)))
      (λ peeked. (checked : CheckedCapture) × ((ends : Ends)
      × ((answer ≡ answers.CheckedCapture checked ends)
      × ChecksRecords (peeked_remaining remaining) contents file peeked old new
      (capture_options options) checked ends)))

  -- a report is written of it
  abbrev pub ReportsFile : CheckOptions → Type 0
  ReportsFile options = ByFront remaining reader
      (λ peeked. (checked : CheckedRecording) × ((ends : Ends)
      × ((answer ≡ answers.CheckedRecording checked ends)
      × ReportsPackets (peeked_remaining remaining) contents file peeked old new options checked
      ends)))
      (λ peeked. (checked : CheckedCapture) × ((ends : Ends)
      × ((answer ≡ answers.CheckedCapture checked ends)
      × ReportsRecords (peeked_remaining remaining) contents file peeked old new
      (capture_options options) checked ends)))

  abbrev pub ChecksIn : CheckForm → CheckOptions → Type 0
  ChecksIn forms.Text options = ChecksFile options
  ChecksIn forms.Json options = ChecksFile options
  ChecksIn forms.Html options = ReportsFile options

-- ---- each command

module _ {R W X : Type 0} (may_lack : Config → List ShownRecord → ShownRecord → Type 0)
    (remaining : R → Option (List ℕ)) (contents : W → Option (List ℕ)) (reader : R)
    (old new : FromWrite W) (answer : Answer X) where
  abbrev pub Answers : Command → Type 0
  Answers (words.Decode form extended file) = (outcome : Outcome)
      × ((answer ≡ answers.Ended outcome)
      × DecodesReader (stream_options form extended) remaining contents file reader (writer_state old)
      (writer_state new) outcome)
  Answers (words.Capture form session recording file) = (outcome : FileOutcome X)
      × ((answer ≡ answers.Read outcome)
      × DecodesFile remaining contents recording file reader old new outcome
      (session_options form session))
  Answers (words.Judge config recording reporting file) = (outcome : FileOutcome X)
      × ((answer ≡ answers.Read outcome)
      × JudgesFile remaining contents recording file reader old new outcome config
      (report_with reporting.explain) (form_with reporting.json) may_lack)
  Answers (words.Import session recording file out) = (imported : Imported) × ((to : Destination)
      × ((ends : Ends) × ((answer ≡ answers.Imported imported to ends) × IsDestination out to
      × ImportsFile remaining contents file reader old new session recording imported ends)))
  Answers (words.List port json file) = ListsFile remaining contents file reader old new answer
      port (list_form json)
  Answers (words.Check checking file) = ChecksIn remaining contents file
      reader old new answer checking.form (check_options checking)
  Answers (words.Speak config speaking file) = ⊥
  Answers (words.Pair file) = ⊥

-- ---- a command and its file

-- A command is answered over a file that could be opened; or it is said that it couldn't, or that
-- `import` names one file twice, and then nothing is written.
pub record AnswersTo {R W X : Type 0} (may_lack : Config → List ShownRecord → ShownRecord → Type 0)
    (remaining : R → Option (List ℕ)) (contents : W → Option (List ℕ))
    (opened : Result R Error) (old new : FromWrite W) (command : Command) (answer : Answer X)
    : Type 0 where
  pub one_name : IsOneName command
      → (answer ≡ answers.OneName (file_of command)) × (new ≡ old)
  pub unopened : ¬ IsOneName command → IfErr opened (λ error. (outcome : Outcome)
      × ((answer ≡ answers.Ended outcome)
      × IsUnopened (file_of command) (error_kind error) outcome × (new ≡ old)))
  pub answered : ¬ IsOneName command → IfOk opened (λ reader. Answers may_lack remaining
      contents reader old new answer command)
