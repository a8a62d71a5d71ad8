-- What decoding a recording reads, writes and answers: the lines of the records that are made of
-- one connection.
use Rattle.std.specs.Prelude.{◌≡◌, ◌⊎◌, ◌↔◌, ◌+◌, ◌++◌, ℕ, Bool, List, [], ◌∷◌, Option, None, Some}
use Rattle.std.specs.Prelude.{length, map, reverse}
use Rattle.packets.specs.Packet.{Recorded}
use Rattle.streams.specs.Choice.{IsAnswered}
use Rattle.streams.specs.Connections.{numbered}
use Rattle.streams.specs.Passed.{Segment}
use Rattle.streams.specs.declared.connection.Connection.{Connection}
use Rattle.streams.specs.declared.fault.Fault.{Fault}
use Rattle.streams.specs.declared.fault.Fault.TheVariants as faults
use Rattle.streams.specs.declared.passed.Side.{Side}
use Rattle.streams.specs.declared.passed.Side.TheVariants.{Local, Peer}
use Rattle.bgp_prefix.specs.declared.session.Session.{Session}
use Rattle.mrt.specs.RefreshLaws.{without_refresh}
use Rattle.mrt.specs.Written.{IsAllowed}
use Rattle.bgp_recording.specs.Captured.{records_of}
use Rattle.bgp_recording.specs.declared.entry.Entry.{Entry}
use Rattle.bgp_text.specs.Capture.{AreRecordLines}
use Rattle.bgp_values.specs.declared.opens.Direction.{Direction}
use Rattle.bgp_values.specs.declared.opens.Direction.TheVariants.{Received, Sent}
use Rattle.bgp_lines.specs.Form.{PlacedRecord, nothing_before}
use Rattle.bgp_lines.specs.Telling.{placed_as}
use Rattle.bgp_lines.specs.declared.form.LineForm.TheVariants.{Plain}
use Rattle.bgp_json.specs.Object.{json_line}
use Rattle.bgp_json.specs.Others.{recording_json}
use Rattle.bgp_json.specs.Output.{AreRecordOutputs, IsJson}
use Rattle.bgp_json.specs.declared.output_form.OutputForm.{OutputForm}
use Rattle.bgp_json.specs.declared.output_form.OutputForm.TheVariants.{Text, Json}
use Rattle.bgp_tool.specs.Answer.{IsWritten}
use Rattle.bgp_tool.specs.declared.session_options.SessionOptions.{SessionOptions}
use Rattle.bgp_import.specs.Captures.{shown_by}
use Rattle.bgp_import.specs.Gathers.{HasReadAll, IsStopped, cut_short_by, failures_by}
use Rattle.bgp_import.specs.Importing.{IsMadeOf}
use Rattle.bgp_import.specs.Making.{IsTurnedDown}
use Rattle.bgp_import.specs.Refusals.{refusal_line, refusal_name, refusal_number}
use Rattle.bgp_import.specs.Refusals.{refusal_packet}
use Rattle.bgp_import.specs.declared.cut_short.CutShort.{CutShort}
use Rattle.bgp_import.specs.declared.importing.Import.{Import}
use Rattle.bgp_import.specs.declared.note.Notes.{Notes}
use Rattle.bgp_import.specs.declared.refusal.Refusal.{Refusal}
use Rattle.bgp_import.specs.declared.refusal.Refusal.TheVariants as refusals
use Rattle.bgp_recording_tool.specs.declared.judging.Judged.{Judged}
use Rattle.bgp_import.specs.declared.options.RecordingOptions.{RecordingOptions}
use Rattle.bgp_recording_tool.specs.declared.remark.Remark.{Remark}
use Rattle.bgp_recording_tool.specs.Judging.{IsUnmeant}
use Rattle.bgp_recording_tool.specs.Options.{IsMisfit, import_of}
use Rattle.bgp_recording_tool.specs.Remarks.{IsHelp, making_remarks, some_of}
use Rattle.bgp_recording_tool.specs.Told.{refused_status}

-- a capture of the session may have such a record, where no ROUTE-REFRESH is refused
abbrev pub HasLine : Session → Entry → Type 0
HasLine session entry = IsAllowed (without_refresh session) None (shown_by entry)

-- an entry's record, and the packet that shows it
abbrev pub placed_by : Entry → PlacedRecord
placed_by entry = placed_as (Some entry.packet) (shown_by entry)

-- the lines of the records of all entries of a session, one after another, numbered from 1
abbrev pub AreEntryLines : OutputForm → Session → List Entry → List ℕ → Type 0
AreEntryLines form session entries text =
    AreRecordOutputs form session nothing_before 1 (map placed_by entries) text

-- in the plain form they are the lines of the records by themselves
abbrev pub PlainLines : Type 0
PlainLines = (session : Session) (entries : List Entry) (text : List ℕ)
    → AreEntryLines (Text Plain) session entries text
    ↔ AreRecordLines session (records_of entries) text

-- the lines of the entries before one of these
pub record AreLinesBeforeOne (form : OutputForm) (session : Session) (entries : List Entry)
    (text : List ℕ) : Type 0 where
  pub before : List Entry
  pub one : Entry
  pub behind : List Entry
  pub split : entries ≡ before ++ one ∷ behind
  pub are_lines : AreEntryLines form session before text

-- The lines of all entries, and the exit status 0. In JSON memory can be refused for the line of an
-- entry: then the lines of those before it, and the status 4.
abbrev pub AreLinesWith : OutputForm → Session → List Entry → List ℕ → ℕ → Type 0
AreLinesWith form session entries text code =
    (AreEntryLines form session entries text × (code ≡ 0))
    ⊎ (IsJson form × AreLinesBeforeOne form session entries text × (code ≡ 4))

-- ---- what is told of a recording that is refused

-- which way the octets went of the stream that this system sends
abbrev pub direction_from : Side → Direction
direction_from Local = Sent
direction_from Peer = Received

-- the octet that a refusal names, by its direction and its place
abbrev pub octet_in : Fault → Option (Direction × ℕ)
octet_in (faults.Cut number) = None
octet_in (faults.TimeBack number) = None
octet_in (faults.NoConnection number) = None
octet_in (faults.Several number) = None
octet_in (faults.NoStart number) = None
octet_in (faults.Conflict number from place) = Some (direction_from from, place)
octet_in (faults.Missing number from place) = Some (direction_from from, place)
octet_in (faults.AfterReset number from place) = Some (direction_from from, place)

abbrev pub octet_of : Refusal → Option (Direction × ℕ)
octet_of (refusals.File fault) = None
octet_of (refusals.Packet fault number) = None
octet_of (refusals.Connection fault) = octet_in fault
octet_of (refusals.Memory number) = None
octet_of (refusals.RouteRefresh number from place) = Some (direction_from from, place)

-- its line
abbrev pub refusal_output : OutputForm → Refusal → List ℕ
refusal_output (Text form) refusal = refusal_line refusal
refusal_output (Json as2) refusal =
    json_line (recording_json (refusal_number refusal) (refusal_name refusal)
    (refusal_packet refusal) (octet_of refusal))

-- Its line, and its exit status. In JSON memory can be refused for it: then nothing, and the status
-- 4.
abbrev pub IsRefusalWith : OutputForm → Refusal → List ℕ → ℕ → Type 0
IsRefusalWith form refusal text code =
    ((text ≡ refusal_output form refusal) × (code ≡ refused_status refusal))
    ⊎ (IsJson form × (text ≡ []) × (code ≡ 4))

-- it was written
abbrev pub WritesRefusal : {T : Type 0} → (T → T → List ℕ → Type 0) → (T → ℕ) → OutputForm
    → Refusal → T → T → ℕ → Type 0
WritesRefusal takes failures form refusal empty filled status =
    (text : List ℕ) × ((code : ℕ) × IsRefusalWith form refusal text code
    × IsWritten takes failures text code empty filled status)

-- ---- one connection

-- The session's packets have these segments, none of which is refused; and the sink goes from
-- `empty` to `filled`.
module _ {T : Type 0} (takes : T → T → List ℕ → Type 0) (failures : T → ℕ) (form : OutputForm)
    (wanted : Import) (packets : List Recorded) (segments : List Segment) (empty filled : T)
    (status : ℕ) (remarks : List Remark) where
  -- these entries are made of the connection that is meant, and their lines were written
  pub record DecodesMade : Type 0 where
    pub connection : Connection
    pub entries : List Entry
    pub notes : Notes
    pub text : List ℕ
    pub code : ℕ
    pub chosen : IsAnswered wanted.connection (length packets) (numbered (reverse segments))
        connection
    pub made : IsMadeOf wanted connection entries notes
    pub are_lines : AreLinesWith form wanted.selection.session entries text code
    pub written : IsWritten takes failures text code empty filled status
    pub remarked : remarks ≡ some_of (making_remarks None notes)

  -- or the connection is refused; or memory was refused
  pub record TellsTurnedDown : Type 0 where
    pub refusal : Refusal
    pub turned_down : IsTurnedDown wanted.connection packets segments refusal
    pub written : WritesRefusal takes failures form refusal empty filled status
    pub helps : IsHelp None refusal remarks

  abbrev pub DecodesOne : Type 0
  DecodesOne = DecodesMade ⊎ TellsTurnedDown

-- And the source goes from `old` to `new`. The members are the source's and the sink's.
module _ {S T : Type 0} (gives : S → S → List ℕ → Type 0) (has_ended : S → Bool)
    (takes : T → T → List ℕ → Type 0) (source_failures : S → ℕ) (failures : T → ℕ)
    (form : OutputForm) (wanted : Import) (old new : S) (empty filled : T) (status : ℕ)
    (cut_short : Option CutShort) (remarks : List Remark) where
  -- it was read to its end, or to where it was cut short, and the connection that is meant was
  -- decoded or refused
  pub record DecodesRead : Type 0 where
    pub octets : List ℕ
    pub packets : List Recorded
    pub segments : List Segment
    pub cut : Bool
    pub all : HasReadAll gives has_ended wanted.selection old new octets packets segments cut
    pub is_cut : cut_short ≡ cut_short_by cut (length packets)
    pub decodes : DecodesOne takes failures form wanted packets segments empty filled status
        remarks
    pub counted : source_failures new ≡ source_failures old

  -- or the recording is refused
  pub record TellsRefusal : Type 0 where
    pub refusal : Refusal
    pub stopped : IsStopped gives has_ended wanted.selection old new refusal
    pub written : WritesRefusal takes failures form refusal empty filled status
    pub helps : IsHelp None refusal remarks
    pub uncut : cut_short ≡ None
    -- one failure more, where a device failed
    pub counted : source_failures new ≡ source_failures old + failures_by refusal

abbrev pub DecodesRecording : {S T X : Type 0} → (S → S → List ℕ → Type 0) → (S → Bool)
    → (T → T → List ℕ → Type 0) → (S → ℕ) → (T → ℕ) → SessionOptions → RecordingOptions → S → S
    → T → T → Judged X → Type 0
DecodesRecording gives has_ended takes source_failures failures options recording old new
    empty filled judged =
    let wanted = import_of options.session recording in
    IsUnmeant wanted old new empty filled judged.status judged.cut_short judged.remarks.items
    ⊎ (IsMisfit wanted None
    × (DecodesRead gives has_ended takes source_failures failures options.form wanted old new empty
    filled judged.status judged.cut_short judged.remarks.items
    ⊎ TellsRefusal gives has_ended takes source_failures failures options.form wanted old new empty
    filled judged.status judged.cut_short judged.remarks.items))
