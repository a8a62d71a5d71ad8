-- What is said of each answer on standard error, sentence by sentence, and the exit status.
use Rattle.std.specs.Prelude.{ℕ, ◌==◌, ◌&&◌, ◌++◌, Bool, true, false, List, [], ◌∷◌, map}
use Rattle.std.specs.Prelude.{Option, None, Some, Result, Ok, Err, is_none, option_map, option_to_list}
use Rattle.std.specs.Prelude.{if◌then◌else◌}
use Rattle.std.specs.Borrow.{Bor}
use Rattle.std.specs.declared.io.ErrorKind.{ErrorKind}
use Rattle.std.specs.declared.io.ErrorKind.TheVariants as errors
use Rattle.mrt.specs.declared.fault.CaptureFault.{CaptureFault}
use Rattle.mrt.specs.declared.fault.FaultKind.{FaultKind}
use Rattle.mrt.specs.declared.fault.FaultKind.TheVariants as kinds
use Rattle.mrt.specs.declared.skipped.SkippedRecords.{SkippedRecords}
use Rattle.bgp_import.specs.Wrapped.{told_in_order}
use Rattle.bgp_import.specs.declared.wrapped.NotLookedInto.{NotLookedInto}
use Rattle.bgp_import.specs.declared.wrapped.Wrapped.{Wrapped}
use Rattle.bgp_import.specs.Notes.{notes_in_order}
use Rattle.bgp_import.specs.Refusals.{cause_of}
use Rattle.bgp_import.specs.declared.importing.Imported.{Imported as ImportedOne}
use Rattle.bgp_import.specs.declared.importing.Stopped.{Stopped}
use Rattle.bgp_import.specs.declared.importing.Stopped.TheVariants as stops
use Rattle.bgp_import.specs.declared.note.Note.{Note as MadeNote}
use Rattle.bgp_import.specs.declared.note.Notes.{Notes}
use Rattle.bgp_import.specs.declared.refusal.Cause.{Cause}
use Rattle.bgp_import.specs.declared.refusal.Cause.TheVariants as causes
use Rattle.bgp_import.specs.declared.refusal.Refusal.{Refusal}
use Rattle.bgp_list.specs.declared.capture.ListedCapture.{ListedCapture as CaptureList}
use Rattle.bgp_list.specs.declared.listed.ListedRecording.{ListedRecording as RecordingList}
use Rattle.bgp_list.specs.declared.listed.NothingListed.{NothingListed as NoList}
use Rattle.bgp_report.specs.Recordings.{CheckedRecording as RecordingCheck}
use Rattle.bgp_report.specs.Captures.{CheckedCapture as CaptureCheck}
use Rattle.bgp_open.specs.declared.route_offer.RouteOffer.{RouteOffer}
use Rattle.bgp_recording_tool.specs.Told.{refused_status}
use Rattle.bgp_recording_tool.specs.declared.files.FileOutcome.{FileOutcome}
use Rattle.bgp_recording_tool.specs.declared.remark.Remark.{Remark as AnyRemark}
use Rattle.bgp_tool.specs.OpenedCapture.{counted}
use Rattle.bgp_tool.specs.declared.note.Note.{Note as FileNote}
use Rattle.bgp_tool.specs.declared.note.Note.TheVariants as notes
use Rattle.bgp_tool.specs.declared.opened.Outcome.{Outcome}
use Rattle.bgp_commands.specs.declared.answer.Answer.{Answer}
use Rattle.bgp_commands.specs.declared.answer.Answer.TheVariants as answers
use Rattle.bgp_commands.specs.declared.answer.Destination.{Destination}
use Rattle.bgp_commands.specs.declared.answer.Destination.TheVariants as destinations
use Rattle.bgp_commands.specs.declared.ends.Ends.{Ends}
use Rattle.bgp_commands.specs.declared.ends.Output.{Output}
use Rattle.bgp_commands.specs.declared.ends.Output.TheVariants as outputs
use Rattle.bgp_commands.specs.declared.sentence.Sentence.{Sentence}
use Rattle.bgp_commands.specs.declared.sentence.Sentence.TheVariants.{Note, CutShort, Remark}
use Rattle.bgp_commands.specs.declared.sentence.Sentence.TheVariants.{Refused, Help, Made}
use Rattle.bgp_commands.specs.declared.sentence.Sentence.TheVariants.{NoRecord, NothingListed}
use Rattle.bgp_commands.specs.declared.sentence.Sentence.TheVariants.{NotLookedInto as IsWrapped}
use Rattle.bgp_commands.specs.declared.sentence.Sentence.TheVariants.{NoEndOfRecording}
use Rattle.bgp_commands.specs.declared.sentence.Sentence.TheVariants.{NoEndOfCapture, OneName}
use Rattle.bgp_commands.specs.declared.sentence.Sentence.TheVariants.{Unwritten}

-- those that there are
abbrev pub some_of : {X : Type 0} → List (Option X) → List X
some_of [] = []
some_of (None ∷ more) = some_of more
some_of (Some x ∷ more) = x ∷ some_of more

-- ---- single sentences

abbrev pub of_remark : AnyRemark → Option Sentence
of_remark remark = Some (Remark remark)

abbrev pub made_sentence : Option MadeNote → Option Sentence
made_sentence note = option_map Made note

abbrev pub wrapped_sentence : Option NotLookedInto → Option Sentence
wrapped_sentence wrapped = option_map IsWrapped wrapped

-- how many ROUTE-REFRESH messages of a capture were passed over
abbrev pub received_sentence : Option SkippedRecords → Option Sentence
received_sentence None = None
received_sentence (Some skipped) =
    option_map Note (counted notes.ReceivedPassedOver skipped.received_refreshes)

abbrev pub sent_sentence : Option SkippedRecords → Option Sentence
sent_sentence None = None
sent_sentence (Some skipped) =
    option_map Note (counted notes.SentPassedOver skipped.sent_refreshes)

-- what helps: nothing is known to where a read failed
abbrev pub help_by : Cause → Refusal → Option Sentence
help_by causes.Recording refusal = Some (Help (record { refusal = refusal }))
help_by causes.Memory refusal = Some (Help (record { refusal = refusal }))
help_by causes.Device refusal = None

abbrev pub help_sentence : Refusal → Option Sentence
help_sentence refusal = help_by (cause_of refusal) refusal

abbrev pub one_help : Option Refusal → Option Sentence
one_help None = None
one_help (Some refusal) = help_sentence refusal

-- that memory was refused, or that the file can't be read
abbrev pub cause_by : Ends → Cause → Option Sentence
cause_by ends causes.Recording = None
cause_by ends causes.Memory = Some (Note (notes.OutOfMemory ends.file ends.octet))
cause_by ends causes.Device = Some (Note (notes.Unread ends.file ends.octet ends.error))

abbrev pub cause_sentence : Ends → Option Refusal → Option Sentence
cause_sentence ends None = None
cause_sentence ends (Some refusal) = cause_by ends (cause_of refusal)

-- what is wrong with an MRT file
abbrev pub refused_capture : Ends → CaptureFault → Sentence
refused_capture ends fault = Note (notes.Refused ends.file fault None)

abbrev pub fault_by : Ends → CaptureFault → FaultKind → Sentence
fault_by ends fault kinds.Truncated = refused_capture ends fault
fault_by ends fault kinds.TooLong = NoRecord ends.file fault.offset
fault_by ends fault kinds.Body = refused_capture ends fault
fault_by ends fault kinds.BadState = refused_capture ends fault
fault_by ends fault kinds.NotAMessage = refused_capture ends fault
fault_by ends fault kinds.TimeBack = refused_capture ends fault
fault_by ends fault kinds.RouteRefresh = refused_capture ends fault
fault_by ends fault kinds.AddPath = refused_capture ends fault
fault_by ends fault kinds.Device = Note (notes.Unread ends.file ends.octet ends.error)
fault_by ends fault kinds.Memory = Note (notes.OutOfMemory ends.file ends.octet)

abbrev pub fault_sentence : Ends → Option CaptureFault → Option Sentence
fault_sentence ends None = None
fault_sentence ends (Some fault) = Some (fault_by ends fault fault.kind)

-- that standard output failed: nothing where it is a pipe that was closed
abbrev pub unwritten_sentence : Output → Option Sentence
unwritten_sentence outputs.Whole = None
unwritten_sentence (outputs.Closed octet) = None
unwritten_sentence (outputs.Failed octet error) = Some (Note (notes.Unwritten octet error))

-- that a file can't be made, or not be written further
abbrev pub broken_sentence : Bor (List ℕ) → ℕ → ErrorKind → Sentence
broken_sentence file octet error =
    if octet == 0 then Note (notes.Unopened file error) else Unwritten file octet (Some error)

abbrev pub file_sentence : Bor (List ℕ) → Output → Option Sentence
file_sentence file outputs.Whole = None
file_sentence file (outputs.Closed octet) =
    Some (broken_sentence file octet errors.BrokenPipe)
file_sentence file (outputs.Failed octet (Some error)) = Some (broken_sentence file octet error)
file_sentence file (outputs.Failed octet None) = Some (Unwritten file octet None)

abbrev pub unmade_sentence : Destination → Output → Option Sentence
unmade_sentence destinations.StandardOutput output = unwritten_sentence output
unmade_sentence (destinations.File file) output = file_sentence file output

-- that nothing is listed of a recording that was read to its end
abbrev pub nothing_by : Bool → ℕ → ℕ → Option NoList
nothing_by true port packets = Some (record { port = port; packets = packets })
nothing_by false port packets = None

abbrev pub nothing_of : RecordingList → Option NoList
nothing_of listed =
    nothing_by (listed.lines == 0 && is_none listed.refusal) listed.port listed.packets

-- ---- all of them

abbrev pub ended_sentences : Outcome → List Sentence
ended_sentences outcome = some_of (received_sentence outcome.skipped
    ∷ sent_sentence outcome.skipped ∷ option_map Note outcome.note ∷ [])

abbrev pub confederation_sentence : Bool → Option Sentence
confederation_sentence true = Some (Note notes.Confederation)
confederation_sentence false = None

abbrev pub without_sentence : Option RouteOffer → Option Sentence
without_sentence None = None
without_sentence (Some offer) = Some (Note (notes.Without offer))

abbrev pub record_sentences : {X : Type 0} → FileOutcome X → List Sentence
record_sentences outcome = some_of (option_map CutShort outcome.cut_short
    ∷ received_sentence outcome.skipped ∷ sent_sentence outcome.skipped
    ∷ confederation_sentence outcome.confederation
    ∷ without_sentence outcome.left_out.without ∷ [])

abbrev pub read_sentences : {X : Type 0} → FileOutcome X → List Sentence
read_sentences outcome = record_sentences outcome
    ++ (some_of (map of_remark outcome.remarks.items)
    ++ option_to_list (option_map Note outcome.note))

-- of an import
abbrev pub made_sentences : Option Sentence → Notes → List Sentence
made_sentences cut_short made =
    option_to_list cut_short ++ some_of (map made_sentence (notes_in_order made))

-- what the file is, or else this
abbrev pub note_by : Option FileNote → Option Sentence → Option Sentence
note_by None other = other
note_by (Some note) other = Some (Note note)

abbrev pub note_or : Ends → Option Sentence → Option Sentence
note_or ends other = note_by ends.note other

abbrev pub refused_sentences : Option Sentence → Refusal → Ends → List Sentence
refused_sentences cut_short refusal ends = some_of (cut_short ∷ Some (Refused refusal)
    ∷ note_or ends (help_sentence refusal) ∷ cause_sentence ends (Some refusal) ∷ [])

abbrev pub import_by : Option Sentence → Result Notes Stopped → Destination → Ends
    → List Sentence
import_by cut_short (Ok made) to ends = made_sentences cut_short made
import_by cut_short (Err (stops.Refused refusal)) to ends =
    refused_sentences cut_short refusal ends
import_by cut_short (Err stops.Unwritten) to ends =
    some_of (unmade_sentence to ends.output ∷ cut_short ∷ [])

abbrev pub import_sentences : ImportedOne → Destination → Ends → List Sentence
import_sentences imported to ends =
    import_by (option_map CutShort imported.cut_short) imported.ended to ends

-- where output failed that alone is said
abbrev pub by_output : Output → List Sentence → List Sentence
by_output outputs.Whole sentences = sentences
by_output (outputs.Closed octet) sentences =
    option_to_list (unwritten_sentence (outputs.Closed octet))
by_output (outputs.Failed octet error) sentences =
    option_to_list (unwritten_sentence (outputs.Failed octet error))

-- of a list
abbrev pub nothing_sentences : Option NoList → Wrapped → List Sentence
nothing_sentences None wrapped = []
nothing_sentences (Some nothing) wrapped =
    (NothingListed nothing ∷ []) ++ some_of (map wrapped_sentence (told_in_order wrapped))

abbrev pub listed_sentences : RecordingList → Ends → List Sentence
listed_sentences listed ends = option_to_list (option_map CutShort listed.cut_short)
    ++ (some_of (map one_help listed.refusals.items)
    ++ (nothing_sentences (nothing_of listed) listed.wrapped
    ++ option_to_list (cause_sentence ends listed.refusal)))

abbrev pub listed_recording_sentences : RecordingList → Ends → List Sentence
listed_recording_sentences listed ends = by_output ends.output (listed_sentences listed ends)

abbrev pub listed_capture_sentences : CaptureList → Ends → List Sentence
listed_capture_sentences listed ends =
    by_output ends.output
    (option_to_list (note_or ends (fault_sentence ends listed.fault)))

-- of a check
abbrev pub recording_sentences : RecordingCheck → Ends → List Sentence
recording_sentences checked ends = some_of (map one_help checked.refusals.items)
    ++ some_of (cause_sentence ends checked.refusal
    ∷ option_map NoEndOfRecording checked.nothing ∷ [])

abbrev pub checked_recording_sentences : RecordingCheck → Ends → List Sentence
checked_recording_sentences checked ends =
    by_output ends.output (recording_sentences checked ends)

abbrev pub capture_sentences : CaptureCheck → Ends → List Sentence
capture_sentences checked ends = some_of (map (fault_sentence ends) checked.refusals.items)
    ++ option_to_list (option_map NoEndOfCapture checked.nothing)

abbrev pub noted_capture : CaptureCheck → Ends → Option FileNote → List Sentence
noted_capture checked ends None = capture_sentences checked ends
noted_capture checked ends (Some note) = Note note ∷ []

abbrev pub checked_capture_sentences : CaptureCheck → Ends → List Sentence
checked_capture_sentences checked ends =
    by_output ends.output (noted_capture checked ends ends.note)

abbrev pub sentences_of : {X : Type 0} → Answer X → List Sentence
sentences_of (answers.Ended outcome) = ended_sentences outcome
sentences_of (answers.Read outcome) = read_sentences outcome
sentences_of (answers.Imported imported to ends) = import_sentences imported to ends
sentences_of (answers.OneName file) = OneName file ∷ []
sentences_of (answers.ListedRecording listed ends) = listed_recording_sentences listed ends
sentences_of (answers.ListedCapture listed ends) = listed_capture_sentences listed ends
sentences_of (answers.CheckedRecording checked ends) = checked_recording_sentences checked ends
sentences_of (answers.CheckedCapture checked ends) = checked_capture_sentences checked ends

-- ---- the exit status

abbrev pub import_status : Result Notes Stopped → ℕ
import_status (Ok made) = 0
import_status (Err (stops.Refused refusal)) = refused_status refusal
import_status (Err stops.Unwritten) = 5

abbrev pub status_of : {X : Type 0} → Answer X → ℕ
status_of (answers.Ended outcome) = outcome.status
status_of (answers.Read outcome) = outcome.status
status_of (answers.Imported imported to ends) = import_status imported.ended
status_of (answers.OneName file) = 64
status_of (answers.ListedRecording listed ends) = listed.status
status_of (answers.ListedCapture listed ends) = listed.status
status_of (answers.CheckedRecording checked ends) = checked.status
status_of (answers.CheckedCapture checked ends) = checked.status
