-- The objects of lines. Those that belong to a verdict have its number among the output's, and those
-- of an end the number of that among the verdict's.
use Rattle.std.specs.Prelude.{◌++◌, ◌+◌, ℕ, Bool, List, [], ◌∷◌, Option, None, Some, codes}
use Rattle.std.specs.Prelude.{drop, length, nat_lt, if◌then◌else◌}
use Rattle.std.specs.Str.Lossy.{utf8_lossy}
use Rattle.json.specs.Json.{Json, boolean, string}
use Rattle.bgp_prefix.specs.declared.session.Session.{Session}
use Rattle.mrt.specs.declared.record.Endpoints.{Endpoints}
use Rattle.segments.specs.declared.found.Endpoint.{Endpoint}
use Rattle.streams.specs.declared.connection.Opening.{Opening}
use Rattle.streams.specs.declared.fault.Fault.{Fault}
use Rattle.streams.specs.declared.fault.Fault.TheVariants as faults
use Rattle.streams.specs.declared.passed.Side.{Side}
use Rattle.streams.specs.declared.passed.Side.TheVariants.{Local, Peer}
use Rattle.bgp_open.specs.declared.families.Families.{Families}
use Rattle.bgp_machine.specs.State.{number_of as state_number}
use Rattle.bgp_machine.specs.declared.fsm.Fsm.{Fsm}
use Rattle.bgp_names.specs.States.{state_name}
use Rattle.bgp_values.specs.declared.opens.Direction.{Direction}
use Rattle.bgp_values.specs.declared.opens.Direction.TheVariants.{Received, Sent}
use Rattle.bgp_import.specs.ListText.{end_of, other_side}
use Rattle.bgp_import.specs.Refusals.{refusal_name, refusal_number, refusal_packet}
use Rattle.bgp_import.specs.declared.refusal.Refusal.{Refusal}
use Rattle.bgp_import.specs.declared.refusal.Refusal.TheVariants as refusals
use Rattle.bgp_why.specs.NotWhole.{unfit_text}
use Rattle.bgp_json_values.specs.ErrorJson.{error_name_json}
use Rattle.bgp_json_values.specs.Objects.{array_of, number_of, object_of}
use Rattle.bgp_json_values.specs.Texts.{address_json}
use Rattle.bgp_json_values.specs.Times.{time_members}
use Rattle.bgp_tool.specs.Object.{typed}
use Rattle.bgp_tool.specs.Others.{capture_json, recording_json}
use Rattle.bgp_json_verdicts.specs.At.{at_members, place_members, since_members}
use Rattle.bgp_json_verdicts.specs.Lines.{LineValue, Opens, Answers, Ends, HasRoute, Reasons}
use Rattle.bgp_json_verdicts.specs.Lines.{RefusesCapture, Refuses}
use Rattle.bgp_json_verdicts.specs.Lines.{ReasonValue, TheRecord, TheMessage, TheData, IsUnfit}
use Rattle.bgp_json_verdicts.specs.Lines.{AnotherAs, TheState, LastReceived, Possible}
use Rattle.bgp_json_verdicts.specs.Lines.{InAnotherOrder, OtherOrdersUnknown}
use Rattle.bgp_json_verdicts.specs.Lines.{SentAlready, Note, Records, Ignored, OtherSessions}
use Rattle.bgp_json_verdicts.specs.Lines.{OtherKinds}
use Rattle.bgp_json_verdicts.specs.RouteJson.{route_members}
use Rattle.bgp_json_verdicts.specs.declared.answer.Answer.{Answer}
use Rattle.bgp_json_verdicts.specs.declared.answer.Answer.TheVariants as answers
use Rattle.bgp_json_verdicts.specs.declared.telling.Counts.{Counts}

-- ---- members

-- a text: what isn't UTF-8 in it is U+FFFD
abbrev pub text_json : List ℕ → Json
text_json text = string (utf8_lossy text)

-- a text under this key, behind so many octets, if it has as many and more
abbrev pub text_behind : ℕ → List ℕ → List ℕ → List (List ℕ × Json)
text_behind count name text =
    if nat_lt count (length text) then (name, text_json (drop count text)) ∷ [] else []

abbrev pub state_member : Fsm → List ℕ × Json
state_member state = (codes "state", string (state_name (state_number state)))

-- ---- the verdict, its ends and their routes

abbrev pub answer_members : Answer → List (List ℕ × Json)
answer_members answers.Yes = (codes "answer", string (codes "yes")) ∷ []
answer_members (answers.NoAt number) =
    (codes "answer", string (codes "no")) ∷ (codes "record", number_of number) ∷ []
answer_members (answers.NoAtPacket packet) =
    (codes "answer", string (codes "no")) ∷ (codes "packet", number_of packet) ∷ []
answer_members answers.Unfinished = (codes "answer", string (codes "unfinished")) ∷ []

-- families as the text names them
abbrev pub family_texts : Families → List (List ℕ)
family_texts families =
    (if families.v4 then codes "v4" ∷ [] else []) ++ (if families.v6 then codes "v6" ∷ [] else [])

abbrev pub end_members : Fsm → Families → List (List ℕ × Json)
end_members state disabled =
    state_member state ∷ (codes "disabled", array_of string (family_texts disabled)) ∷ []

-- ---- a reason

abbrev pub first_members : Option Endpoints → List (List ℕ × Json)
first_members None = []
first_members (Some ends) = (
  codes "first",
  object_of ((codes "peer", address_json ends.peer) ∷ (codes "local", address_json ends.local)
      ∷ []),
) ∷ []

abbrev pub skipped_members : List ℕ → ℕ → List (List ℕ × Json)
skipped_members of count =
    (codes "count", number_of count) ∷ (codes "of", string of) ∷ []

abbrev pub flag_members : Bool → Bool → Bool → List (List ℕ × Json)
flag_members is_owed is_next is_first =
    (codes "owed", boolean is_owed) ∷ (codes "next", boolean is_next)
    ∷ (codes "first", boolean is_first) ∷ []

-- what the record lacks stands behind a semicolon and a blank
abbrev pub item_members : List ℕ → List ℕ → List (List ℕ × Json)
item_members item but = (codes "item", text_json item) ∷ text_behind 2 (codes "but") but

-- the type, and what stands behind the number of the verdict
abbrev pub reason_type : ReasonValue → List ℕ
reason_type (TheRecord place local deed) = codes "record"
reason_type (TheMessage text) = codes "message"
reason_type (TheData text) = codes "data"
reason_type (IsUnfit why) = codes "not_whole"
reason_type (AnotherAs number) = codes "configured"
reason_type (TheState state since) = codes "state"
reason_type (LastReceived at name asked) = codes "last_received"
reason_type (Possible is_owed is_next is_first item but) = codes "possible"
reason_type (InAnotherOrder item) = codes "possible_in_another_order"
reason_type OtherOrdersUnknown = codes "other_orders_unknown"
reason_type (SentAlready code subcode at) = codes "sent_already"
reason_type (Note text) = codes "note"
reason_type (Records received sent changes) = codes "records"
reason_type (Ignored count) = codes "ignored"
reason_type (OtherSessions count first) = codes "skipped"
reason_type (OtherKinds count) = codes "skipped"

abbrev pub reason_members : ReasonValue → List (List ℕ × Json)
reason_members (TheRecord place local deed) =
    place_members place
    ++ (codes "address", address_json local) ∷ (codes "deed", text_json deed) ∷ []
reason_members (TheMessage text) = (codes "line", text_json text) ∷ []
reason_members (TheData text) = (codes "line", text_json text) ∷ []
reason_members (IsUnfit why) = (codes "text", string (unfit_text why)) ∷ []
reason_members (AnotherAs number) = (codes "peer_as_not", number_of number) ∷ []
reason_members (TheState state since) = state_member state ∷ since_members since
-- what it asks for stands behind a colon and a blank
reason_members (LastReceived at name asked) =
    at_members at ++ (codes "message", text_json name) ∷ text_behind 2 (codes "asked") asked
reason_members (Possible is_owed is_next is_first item but) =
    flag_members is_owed is_next is_first ++ item_members item but
reason_members (InAnotherOrder item) = (codes "item", text_json item) ∷ []
reason_members OtherOrdersUnknown = []
reason_members (SentAlready code subcode at) =
    at_members at
    ++ (codes "code", number_of code) ∷ (codes "subcode", number_of subcode)
    ∷ (codes "name", error_name_json code subcode) ∷ []
reason_members (Note text) = (codes "text", text_json text) ∷ []
reason_members (Records received sent changes) =
    (codes "records", number_of (received + sent + changes))
    ∷ (codes "received", number_of received) ∷ (codes "sent", number_of sent)
    ∷ (codes "changes", number_of changes) ∷ []
reason_members (Ignored count) = (codes "count", number_of count) ∷ []
reason_members (OtherSessions count first) =
    skipped_members (codes "sessions") count ++ first_members first
reason_members (OtherKinds count) = skipped_members (codes "kinds") count

-- ---- a connection, and what is refused

-- one of both ends
abbrev pub end_at : List ℕ → List ℕ → Endpoint → List (List ℕ × Json)
end_at name port_name end =
    (name, address_json end.address) ∷ (port_name, number_of end.port) ∷ []

-- its number, both ends, whoever opened it first, and the time of its first packet
abbrev pub opening_members : Session → Opening → List (List ℕ × Json)
opening_members session opening =
    (codes "connection", number_of opening.number)
    ∷ (end_at (codes "from") (codes "from_port") (end_of opening.opened_by session opening)
    ++ (end_at (codes "to") (codes "to_port")
    (end_of (other_side opening.opened_by) session opening)
    ++ time_members opening.second opening.micro))

-- which way the octets went of the stream that this system sends
abbrev pub direction_from : Side → Direction
direction_from Local = Sent
direction_from Peer = Received

-- the octet that a refusal names, by its direction and its place
abbrev pub octet_in : Fault → Option (Direction × ℕ)
octet_in (faults.Cut number) = None
octet_in (faults.TimeBack number) = None
octet_in (faults.NoConnection number) = None
octet_in (faults.Several number) = None
octet_in (faults.NoStart number) = None
octet_in (faults.Conflict number from place) = Some (direction_from from, place)
octet_in (faults.Missing number from place) = Some (direction_from from, place)
octet_in (faults.AfterReset number from place) = Some (direction_from from, place)

abbrev pub octet_of : Refusal → Option (Direction × ℕ)
octet_of (refusals.File fault) = None
octet_of (refusals.Packet fault number) = None
octet_of (refusals.Connection fault) = octet_in fault
octet_of (refusals.Memory number) = None
octet_of (refusals.RouteRefresh number from place) = Some (direction_from from, place)

-- the object that `bgp decode --json` has for it
abbrev pub refusal_json : Refusal → Json
refusal_json refusal =
    recording_json (refusal_number refusal) (refusal_name refusal) (refusal_packet refusal)
    (octet_of refusal)

-- ---- lines

-- how many verdicts there are up to a line, and how many ends of the last one
abbrev pub counted_with : Counts → LineValue → Counts
counted_with counts (Opens session opening) = counts
counted_with counts (Answers answer) = record { judged = counts.judged + 1; end = 0 }
counted_with counts (Ends state disabled) = record counts { end = counts.end + 1 }
counted_with counts (HasRoute destination path) = counts
counted_with counts (Reasons reason) = counts
counted_with counts (RefusesCapture fault) = counts
counted_with counts (Refuses refusal) = counts

-- of a verdict
abbrev pub of_verdict : List ℕ → Counts → List (List ℕ × Json) → Json
of_verdict kind counts members = typed kind ((codes "judged", number_of counts.judged) ∷ members)

-- of one of its ends
abbrev pub of_end : List ℕ → Counts → List (List ℕ × Json) → Json
of_end kind counts members = of_verdict kind counts ((codes "end", number_of counts.end) ∷ members)

-- a line up to which there are so many
abbrev pub line_json : Counts → LineValue → Json
line_json counts (Opens session opening) =
    typed (codes "connection") (opening_members session opening)
line_json counts (Answers answer) = of_verdict (codes "verdict") counts (answer_members answer)
line_json counts (Ends state disabled) = of_end (codes "end") counts (end_members state disabled)
line_json counts (HasRoute destination path) =
    of_end (codes "route") counts (route_members destination path)
line_json counts (Reasons reason) = of_verdict (reason_type reason) counts (reason_members reason)
line_json counts (RefusesCapture fault) = capture_json fault
line_json counts (Refuses refusal) = refusal_json refusal

-- lines behind others with so many
abbrev pub counted_from : Counts → List LineValue → Counts
counted_from counts [] = counts
counted_from counts (line ∷ lines) = counted_from (counted_with counts line) lines

abbrev pub objects_from : Counts → List LineValue → List Json
objects_from counts [] = []
objects_from counts (line ∷ lines) =
    line_json (counted_with counts line) line ∷ objects_from (counted_with counts line) lines

-- all lines of an output
abbrev pub no_counts : Counts
no_counts = record { judged = 0; end = 0 }

-- behind so many verdicts, the last of which has no ends yet
abbrev pub counts_behind : ℕ → Counts
counts_behind judged = record { judged = judged; end = 0 }

abbrev pub objects_of : List LineValue → List Json
objects_of lines = objects_from no_counts lines
