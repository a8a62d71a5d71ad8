-- The lines of `check` by their values, the text that each has where it isn't told in JSON, and its
-- objects.
use Rattle.std.specs.Prelude.{◌++◌, ◌+◌, ℕ, Bool, true, false, List, [], ◌∷◌, Option, None, Some}
use Rattle.std.specs.Prelude.{codes, if◌then◌else◌, nat_lt}
use Rattle.std.specs.List.{flat_map}
use Rattle.std.specs.Fmt.{decimal}
use Rattle.json.specs.Json.{Json, string}
use Rattle.mrt.specs.declared.fault.CaptureFault.{CaptureFault}
use Rattle.mrt_sessions.specs.File.{Located}
use Rattle.mrt_sessions.specs.declared.addresses.Addresses.{Addresses}
use Rattle.bgp_clock.specs.When.{short_text}
use Rattle.bgp_machine.specs.Run.{End}
use Rattle.bgp_values.specs.declared.opens.Direction.{Direction}
use Rattle.bgp_recording.specs.declared.framing.Rest.{Rest}
use Rattle.bgp_recording.specs.declared.framing.Rest.TheVariants.{BehindFault, Short}
use Rattle.bgp_import.specs.declared.refusal.Refusal.{Refusal}
use Rattle.bgp_check_text.specs.NotJudged.{NotJudged}
use Rattle.bgp_check_text.specs.PeerAs.{PeerAs}
use Rattle.bgp_why.specs.Endpoint.{endpoint_text}
use Rattle.bgp_why.specs.Place.{place_text}
use Rattle.bgp_why.specs.declared.endpoint.Endpoint.{Endpoint}
use Rattle.bgp_why.specs.declared.place.Place.{Place}
use Rattle.bgp_json.specs.Object.{typed}
use Rattle.bgp_json.specs.Others.{capture_json}
use Rattle.bgp_json_values.specs.Objects.{number_of}
use Rattle.bgp_json_check.specs.At.{at_of}
use Rattle.bgp_json_check.specs.JsonVerdictsLines as verdicts
use Rattle.bgp_json_check.specs.JsonVerdictsObjects as objects
use Rattle.bgp_json_check.specs.JsonVerdictsObjects.{text_json}
use Rattle.bgp_json_check.specs.Members.{deed_members, direction_word, end_members}
use Rattle.bgp_json_check.specs.Members.{known_members}
use Rattle.bgp_json_check.specs.Objects.{ended_json, in_made_members, judged_json}
use Rattle.bgp_json_check.specs.Objects.{unjudged_members, yes_json}
use Rattle.bgp_json_check.specs.declared.member.JudgedEnd.{JudgedEnd}
use Rattle.bgp_check_text.specs.EndedLine.{ended_stretch_line}
use Rattle.bgp_check_text.specs.Stretch.{EndedStretchValue}
use Rattle.bgp_json_check.specs.ConnectionJson.{refused_json}
use Rattle.bgp_json_check.specs.Connections.{refused_text}
use Rattle.bgp_json_check.specs.Forms.{line_json}
use Rattle.bgp_json_check.specs.Lines.{LineValue, line_text}
use Rattle.bgp_json_check.specs.SessionJson.{session_json}
use Rattle.bgp_json_check.specs.Sessions as sessions
use Rattle.bgp_json_check.specs.Sessions.{session_line}
use Rattle.bgp_check_text.specs.End.{part_end_text}
use Rattle.bgp_check_text.specs.JudgeLine.{command_text, judge_line}
use Rattle.bgp_check_text.specs.Reached.{ReachedValue}
use Rattle.bgp_check_text.specs.Tally.{tally_line}
use Rattle.bgp_check_text.specs.Text.{no_line, not_judged_line, unfinished_line, why_text, yes_lines}
use Rattle.bgp_check_text.specs.Unshown.{behind_note, end_name, passed_note, short_note}
use Rattle.bgp_check_text.specs.declared.end.EndName.{EndName}
use Rattle.bgp_check_text.specs.declared.options.JudgeOptions.{JudgeOptions}
use Rattle.bgp_check_text.specs.declared.tally.Tally.{Tally}

pub data CheckValue : Type 0 where
  -- a yes with its possible ends, and with their routes and the ends before, if these are told
  IsYes : Bool → EndName → PeerAs → ReachedValue → List End → CheckValue
  -- a no: where it stands, and what was done there; and an unfinished
  IsNo : Place → EndName → List ℕ → CheckValue
  IsUnfinished : Place → EndName → CheckValue
  -- an end that isn't judged; and one without an AS number, for another reason
  IsUnjudged : EndName → NotJudged → CheckValue
  IsUnnamed : Endpoint → Option (ℕ × ℕ) → List ℕ → CheckValue
  -- the lines of a reason
  Explains : List verdicts.LineValue → CheckValue
  -- so many ROUTE-REFRESH messages of a direction aren't judged, if some aren't
  PassesOver : Direction → ℕ → CheckValue
  -- so many octets of a direction are of an incomplete last message, if some are; or aren't read,
  -- behind what stands at this octet
  IsIncomplete : Direction → ℕ → CheckValue
  IsNotRead : Direction → ℕ → ℕ → Bool → CheckValue
  -- what the impossible record of the made order shows was done, where it stands
  InMadeOrder : ℕ → List ℕ → Place → CheckValue
  -- one order was judged, in which so many messages are delayed; a yes is that of another order than
  -- the made one; or what is unfinished is so over all
  OneOrder : ℕ → CheckValue
  AnotherOrder : CheckValue
  AllOrders : CheckValue
  -- more patience than so many seconds makes it a yes, or unfinished
  IsLate : ℕ → Bool → CheckValue
  -- how a session ended, whose first record has that second: the record with this number shows it,
  -- with this fraction, by whom and how; or it is open at the end of the file
  IsEnded : ℕ → ℕ → Option ℕ → Endpoint → EndedStretchValue → CheckValue
  IsOpen : CheckValue
  -- the command that reproduces the verdict
  Repeats : JudgeOptions → CheckValue
  -- a connection, and what is refused of a recording; a session of a capture
  Lists : LineValue → CheckValue
  HasSession : Addresses → List Located → CheckValue
  RefusesFile : Refusal → CheckValue
  RefusesCapture : CaptureFault → CheckValue
  -- the recording is cut short in this packet
  IsCutShort : ℕ → CheckValue
  -- no connection at this port holds octets; or there is no record of a session
  NothingAt : ℕ → CheckValue
  NoRecord : CheckValue
  -- how many ends there are of each verdict
  Counts : Tally → CheckValue

-- ---- their texts

-- an end without an AS number, and which of its records these are, if that is said
abbrev pub unnamed_text : Endpoint → Option (ℕ × ℕ) → List ℕ
unnamed_text end None = endpoint_text end
unnamed_text end (Some part) = part_end_text end part

unfoldable pub unnamed_line : Endpoint → Option (ℕ × ℕ) → List ℕ → List ℕ
unnamed_line end part why =
    codes "not judged: " ++ (unnamed_text end part ++ (codes ": " ++ (why ++ codes "\n")))

unfoldable pub in_made_order_line : ℕ → List ℕ → Place → List ℕ
in_made_order_line first deed place =
    codes "  in the order of bgp import, " ++ (place_text place ++ (codes ", "
    ++ (short_text first place.second place.micro ++ (codes ": " ++ (deed ++ codes "\n")))))

-- unless none is
abbrev pub delayed_text : ℕ → List ℕ
delayed_text count =
    if nat_lt 0 count then codes "; messages delayed in it: " ++ decimal count else []

unfoldable pub one_order_line : ℕ → List ℕ
one_order_line count =
    codes "  note: packets do not show when a router handled what it received, "
    ++ (codes "so this is one possible order" ++ (delayed_text count ++ codes "\n"))

unfoldable pub another_order_line : List ℕ
another_order_line = codes "  note: the order that bgp import makes is not a yes: "
    ++ codes "another that these packets allow is\n"

unfoldable pub all_orders_line : List ℕ
all_orders_line = codes "  note: the order that bgp import makes is a no: "
    ++ codes "over all that these packets allow it is unfinished\n"

unfoldable pub open_line : List ℕ
open_line = codes "  open at the end of the file\n"

abbrev pub later_answer : Bool → List ℕ
later_answer is_yes = if is_yes then codes "yes" else codes "unfinished"

unfoldable pub late_line : ℕ → Bool → List ℕ
late_line within is_yes = codes "  note: a router that handles what it received more than "
    ++ (decimal within ++ (codes " s late may do this: with --within 65535 the answer is "
    ++ (later_answer is_yes ++ codes "\n")))

unfoldable pub cut_short_line : ℕ → List ℕ
cut_short_line packet =
    codes "note: the recording is cut short in packet " ++ (decimal packet ++ codes "\n")

unfoldable pub nothing_at_line : ℕ → List ℕ
nothing_at_line port =
    codes "not judged: no connection at port " ++ (decimal port ++ codes " holds octets\n")

unfoldable pub no_record_line : List ℕ
no_record_line = codes "not judged: no record of a session\n"

unfoldable pub value_text : CheckValue → List ℕ
value_text (IsYes routes name peer reached ends) = yes_lines routes name peer reached ends
value_text (IsNo place name deed) = no_line place name deed
value_text (IsUnfinished place name) = unfinished_line place name
value_text (IsUnjudged name why) = not_judged_line name why
value_text (IsUnnamed end part why) = unnamed_line end part why
value_text (Explains lines) = flat_map verdicts.line_text lines
value_text (PassesOver direction count) = passed_note (direction_word direction) count
value_text (IsIncomplete direction count) = short_note (direction_word direction) count
value_text (IsNotRead direction at count is_refresh) =
    behind_note (direction_word direction) at count is_refresh
value_text (InMadeOrder first deed place) = in_made_order_line first deed place
value_text (OneOrder count) = one_order_line count
value_text AnotherOrder = another_order_line
value_text AllOrders = all_orders_line
value_text (IsLate within is_yes) = late_line within is_yes
value_text (IsEnded first number micro by ended) =
    ended_stretch_line first number micro by ended
value_text IsOpen = open_line
value_text (Repeats options) = judge_line options
value_text (Lists line) = line_text line
value_text (HasSession addresses named) = session_line addresses named
value_text (RefusesFile refusal) = refused_text refusal
value_text (RefusesCapture fault) = sessions.refused_text fault
value_text (IsCutShort packet) = cut_short_line packet
value_text (NothingAt port) = nothing_at_line port
value_text NoRecord = no_record_line
value_text (Counts tally) = tally_line tally

-- ---- their objects

abbrev pub judged_end : EndName → JudgedEnd
judged_end name = record { end = name.end; as_number = name.as_number; part = name.part }

abbrev pub unnamed_end : Endpoint → Option (ℕ × ℕ) → JudgedEnd
unnamed_end end part = record { end = end; as_number = None; part = part }

-- a verdict with these members behind its answer
abbrev pub answer_json : ℕ → List ℕ → List (List ℕ × Json) → Json
answer_json judged answer members =
    judged_json (codes "verdict") judged ((codes "answer", string answer) ∷ members)

-- an end that isn't judged, whether its line leaves out its AS number, and why
abbrev pub unjudged_json : ℕ → JudgedEnd → Bool → List ℕ → Json
unjudged_json judged end is_left_out why =
    judged_json (codes "verdict") judged (unjudged_members end is_left_out why)

abbrev pub direction_member : Direction → List ℕ × Json
direction_member direction = (codes "direction", string (direction_word direction))

abbrev pub tally_json : Tally → Json
tally_json tally =
    typed (codes "summary")
    ((codes "ends", number_of (tally.yes + tally.no + tally.unfinished + tally.not_judged))
    ∷ (codes "yes", number_of tally.yes) ∷ (codes "no", number_of tally.no)
    ∷ (codes "unfinished", number_of tally.unfinished)
    ∷ (codes "not_judged", number_of tally.not_judged)
    ∷ (codes "refused", number_of tally.refused) ∷ [])

-- where the record stands that shows how a session ended
abbrev pub place_of : ℕ → Option ℕ → EndedStretchValue → Place
place_of number micro ended =
    record { number = number; packet = None; second = ended.second; micro = micro }

-- an object, if there is something to tell
abbrev pub if_some : ℕ → Json → List Json
if_some count json = if nat_lt 0 count then json ∷ [] else []

-- how many verdicts there are up to a line, behind so many
abbrev pub counted_with : ℕ → CheckValue → ℕ
counted_with judged (IsYes routes name peer reached ends) = judged + 1
counted_with judged (IsNo place name deed) = judged + 1
counted_with judged (IsUnfinished place name) = judged + 1
counted_with judged (IsUnjudged name why) = judged + 1
counted_with judged (IsUnnamed end part why) = judged + 1
counted_with judged value = judged

-- those of a line up to which there are so many
abbrev pub value_objects : ℕ → CheckValue → List Json
value_objects judged (IsYes routes name peer reached ends) =
    yes_json routes judged (judged_end name) peer reached.highest reached.counts ends
    reached.before
value_objects judged (IsNo place name deed) =
    answer_json judged (codes "no")
    (known_members place ++ (end_members (judged_end name) ++ deed_members deed)) ∷ []
value_objects judged (IsUnfinished place name) =
    answer_json judged (codes "unfinished")
    (known_members place ++ end_members (judged_end name)) ∷ []
value_objects judged (IsUnjudged name why) =
    unjudged_json judged (judged_end name) false (why_text why) ∷ []
value_objects judged (IsUnnamed end part why) =
    unjudged_json judged (unnamed_end end part) true why ∷ []
value_objects judged (Explains lines) = objects.objects_from (objects.counts_behind judged) lines
value_objects judged (PassesOver direction count) =
    if_some count (judged_json (codes "refresh_not_judged") judged
    (direction_member direction ∷ (codes "count", number_of count) ∷ []))
value_objects judged (IsIncomplete direction count) =
    if_some count (judged_json (codes "incomplete") judged
    (direction_member direction ∷ (codes "octets", number_of count) ∷ []))
value_objects judged (IsNotRead direction at count is_refresh) =
    if_some count (judged_json (codes "not_read") judged
    (direction_member direction ∷ (codes "behind", string (end_name is_refresh))
    ∷ (codes "at", number_of at) ∷ (codes "octets", number_of count) ∷ []))
value_objects judged (InMadeOrder first deed place) =
    judged_json (codes "in_made_order") judged
    (in_made_members (at_of first place) deed) ∷ []
value_objects judged (OneOrder count) =
    judged_json (codes "one_order") judged ((codes "delayed", number_of count) ∷ []) ∷ []
value_objects judged AnotherOrder = judged_json (codes "another_order") judged [] ∷ []
value_objects judged AllOrders = judged_json (codes "all_orders") judged [] ∷ []
value_objects judged (IsLate within is_yes) =
    judged_json (codes "late") judged
    ((codes "within", number_of within) ∷ (codes "answer", string (later_answer is_yes)) ∷ [])
    ∷ []
value_objects judged (IsEnded first number micro by ended) =
    ended_json judged (at_of first (place_of number micro ended)) by ended.how ∷ []
value_objects judged IsOpen = judged_json (codes "open_at_end") judged [] ∷ []
value_objects judged (Repeats options) =
    judged_json (codes "repeat") judged
    ((codes "command", text_json (command_text options)) ∷ []) ∷ []
value_objects judged (Lists line) = line_json line ∷ []
value_objects judged (HasSession addresses named) = session_json addresses named ∷ []
value_objects judged (RefusesFile refusal) = refused_json refusal ∷ []
value_objects judged (RefusesCapture fault) = capture_json fault ∷ []
value_objects judged (IsCutShort packet) =
    typed (codes "cut_short") ((codes "packet", number_of packet) ∷ []) ∷ []
value_objects judged (NothingAt port) =
    typed (codes "nothing") ((codes "port", number_of port) ∷ []) ∷ []
value_objects judged NoRecord = typed (codes "nothing") [] ∷ []
value_objects judged (Counts tally) = tally_json tally ∷ []

-- what is left of a direction's octets
abbrev pub rest_value : Direction → Rest → CheckValue
rest_value direction (Short count) = IsIncomplete direction count
rest_value direction (BehindFault place count is_refresh) =
    IsNotRead direction place count is_refresh

-- ---- all lines of an output, behind others with so many verdicts

abbrev pub counted_from : ℕ → List CheckValue → ℕ
counted_from judged [] = judged
counted_from judged (value ∷ values) = counted_from (counted_with judged value) values

abbrev pub objects_from : ℕ → List CheckValue → List Json
objects_from judged [] = []
objects_from judged (value ∷ values) =
    value_objects (counted_with judged value) value
    ++ objects_from (counted_with judged value) values

abbrev pub objects_of : List CheckValue → List Json
objects_of values = objects_from 0 values
