-- The lines of a verdict and of its reason by their values, and the text that each has where it
-- isn't told in JSON.
use Rattle.std.specs.Prelude.{◌++◌, ◌+◌, ℕ, Bool, true, false, List, [], ◌∷◌, Option, None, Some}
use Rattle.std.specs.Prelude.{codes, if◌then◌else◌, map, not}
use Rattle.std.specs.List.{flat_map}
use Rattle.std.specs.Fmt.{decimal}
use Rattle.bgp_prefix.specs.Text.{address_text}
use Rattle.bgp_prefix.specs.declared.address.Address.{Address}
use Rattle.bgp_prefix.specs.declared.session.Session.{Session}
use Rattle.mrt.specs.declared.fault.CaptureFault.{CaptureFault}
use Rattle.mrt.specs.declared.record.Endpoints.{Endpoints}
use Rattle.streams.specs.declared.connection.Opening.{Opening}
use Rattle.bgp_open.specs.declared.families.Families.{Families}
use Rattle.bgp_path.specs.Path.{PathValue}
use Rattle.bgp_machine.specs.Run.{End}
use Rattle.bgp_machine.specs.State.{number_of}
use Rattle.bgp_machine.specs.declared.fsm.Fsm.{Fsm}
use Rattle.bgp_update.specs.declared.destination.Destination.{Destination}
use Rattle.bgp_judge.specs.Verdict.{VerdictValue, Yes, No, Unfinished}
use Rattle.bgp_why.specs.DeclaredPossible as possible
use Rattle.bgp_names.specs.States.{state_name}
use Rattle.bgp_text.specs.Capture.{refused_line}
use Rattle.bgp_import.specs.ListText.{opening_text}
use Rattle.bgp_import.specs.Refusals.{refusal_line}
use Rattle.bgp_import.specs.declared.refusal.Refusal.{Refusal}
use Rattle.bgp_tool.specs.VerdictText.{families_text, route_line, state_text}
use Rattle.bgp_tool.specs.VerdictText.{unfinished_line}
use Rattle.bgp_why.specs.Codes.{full_code_text}
use Rattle.bgp_why.specs.Items.{all_items, first_word, item_text, those_possible}
use Rattle.bgp_why.specs.NoteLines.{note_text}
use Rattle.bgp_why.specs.NotWhole.{unfit_line}
use Rattle.bgp_why.specs.Place.{record_text}
use Rattle.bgp_why.specs.OtherOrders.{besides}
use Rattle.bgp_why.specs.Possible.{possible_shown, unknown_line}
use Rattle.bgp_why.specs.declared.other_orders.OtherOrders.{OtherOrders}
use Rattle.bgp_why.specs.declared.other_orders.OtherOrders.TheVariants as others
use Rattle.bgp_why.specs.State.{another_as_line}
use Rattle.bgp_why.specs.declared.items.Item.{Item}
use Rattle.bgp_why.specs.declared.note_lines.Note as notes
use Rattle.bgp_why.specs.declared.place.Place.{Place}
use Rattle.bgp_why.specs.declared.style.Style.{Style}
use Rattle.bgp_why.specs.declared.whole.NotWhole.{NotWhole}
use Rattle.bgp_json_verdicts.specs.At.{at_text}
use Rattle.bgp_json_verdicts.specs.declared.at.At.{At}
use Rattle.bgp_json_verdicts.specs.declared.answer.Answer.{Answer}
use Rattle.bgp_json_verdicts.specs.declared.answer.Answer.TheVariants as answers
use Rattle.bgp_json_verdicts.specs.declared.reason_line.ReasonLine.{ReasonLine}
use Rattle.bgp_json_verdicts.specs.declared.reason_line.ReasonLine.TheVariants as reasons
use Rattle.bgp_json_verdicts.specs.declared.verdict_line.VerdictLine.{VerdictLine}
use Rattle.bgp_json_verdicts.specs.declared.verdict_line.VerdictLine.TheVariants as lines

-- ---- the lines of a reason, wherever their octets lie

pub data ReasonValue : Type 0 where
  -- the impossible record: where it stands, whose it is, what was done and what is wrong with it
  TheRecord : Place → Address → List ℕ → ReasonValue
  -- its message in words, or what the data of its NOTIFICATION say
  TheMessage : List ℕ → ReasonValue
  TheData : List ℕ → ReasonValue
  -- why it is no whole message
  IsUnfit : NotWhole → ReasonValue
  -- the lines below are about any other AS number of the peer than this
  AnotherAs : ℕ → ReasonValue
  -- the state, and the record that shows the change to it
  TheState : Fsm → Option At → ReasonValue
  -- the message received last: its name, and what it asks for, with a colon and a blank in front
  LastReceived : At → List ℕ → List ℕ → ReasonValue
  -- What may come: whether something is owed, whether it comes after all records, whether it is the
  -- first item; the item; and what the record lacks of it, with a semicolon and a blank in front.
  Possible : Bool → Bool → Bool → List ℕ → List ℕ → ReasonValue
  -- what could have been sent in another order, or that this isn't known
  InAnotherOrder : List ℕ → ReasonValue
  OtherOrdersUnknown : ReasonValue
  -- a NOTIFICATION that was sent already
  SentAlready : ℕ → ℕ → At → ReasonValue
  Note : List ℕ → ReasonValue
  -- how many records there are: received, sent, and changes of state
  Records : ℕ → ℕ → ℕ → ReasonValue
  -- how many were received in Idle
  Ignored : ℕ → ReasonValue
  -- how many records of other sessions there are, and the addresses of the first of them
  OtherSessions : ℕ → Option Endpoints → ReasonValue
  OtherKinds : ℕ → ReasonValue

abbrev pub reason_value : ReasonLine → ReasonValue
reason_value (reasons.Record place local deed) = TheRecord place local deed.now
reason_value (reasons.Message text) = TheMessage text.now
reason_value (reasons.Data text) = TheData text.now
reason_value (reasons.NotWhole why) = IsUnfit why
reason_value (reasons.AnotherAs number) = AnotherAs number
reason_value (reasons.State state since) = TheState state since
reason_value (reasons.LastReceived at name asked) = LastReceived at name.now asked.now
reason_value (reasons.Possible is_owed is_next is_first item but) =
    Possible is_owed is_next is_first item.now but.now
reason_value (reasons.InAnotherOrder item) = InAnotherOrder item.now
reason_value reasons.OtherOrdersUnknown = OtherOrdersUnknown
reason_value (reasons.SentAlready code subcode at) = SentAlready code subcode at
reason_value (reasons.Note text) = Note text.now
reason_value (reasons.Records received sent changes) = Records received sent changes
reason_value (reasons.Ignored count) = Ignored count
reason_value (reasons.OtherSessions count first) = OtherSessions count first
reason_value (reasons.OtherKinds count) = OtherKinds count

-- ---- their texts

abbrev pub since_text : Option At → List ℕ
since_text None = []
since_text (Some at) = codes " since " ++ at_text at

-- the words before an item
abbrev pub item_word : Bool → Bool → Bool → List ℕ
item_word is_owed is_next is_first =
    if is_first then first_word (not is_owed) is_next else codes "or: "

abbrev pub ends_text : Option Endpoints → List ℕ
ends_text None = []
ends_text (Some ends) =
    codes ", the first of --peer " ++ (address_text ends.peer ++ (codes " --local "
    ++ address_text ends.local))

unfoldable pub reason_text : ReasonValue → List ℕ
reason_text (TheRecord place local deed) =
    codes "  " ++ (record_text place ++ (address_text local ++ (codes " "
    ++ (deed ++ codes "\n"))))
reason_text (TheMessage text) = codes "  message: " ++ (text ++ codes "\n")
reason_text (TheData text) = codes "  data: " ++ (text ++ codes "\n")
reason_text (IsUnfit why) = unfit_line why
reason_text (AnotherAs number) = another_as_line number
reason_text (TheState state since) =
    codes "  state: " ++ (state_name (number_of state) ++ (since_text since ++ codes "\n"))
reason_text (LastReceived at name asked) =
    codes "  last received: " ++ (at_text at ++ (codes ", " ++ (name ++ (asked ++ codes "\n"))))
reason_text (Possible is_owed is_next is_first item but) =
    codes "  " ++ (item_word is_owed is_next is_first ++ (item ++ (but ++ codes "\n")))
reason_text (InAnotherOrder item) =
    codes "  or: in another order, " ++ (item ++ codes "\n")
reason_text OtherOrdersUnknown = unknown_line
reason_text (SentAlready code subcode at) =
    codes "  note: it had sent NOTIFICATION " ++ (full_code_text code subcode
    ++ (codes " already, at " ++ (at_text at ++ codes "\n")))
reason_text (Note text) = codes "  note: " ++ (text ++ codes "\n")
reason_text (Records received sent changes) =
    codes "  records of the session: " ++ (decimal (received + sent + changes)
    ++ (codes " (received " ++ (decimal received ++ (codes ", sent " ++ (decimal sent
    ++ (codes ", changes of state " ++ (decimal changes ++ codes ")\n")))))))
reason_text (Ignored count) =
    codes "  received in Idle, and ignored: " ++ (decimal count ++ codes "\n")
reason_text (OtherSessions count first) =
    codes "  records of other sessions: " ++ (decimal count ++ (ends_text first ++ codes "\n"))
reason_text (OtherKinds count) =
    codes "  records of other kinds: " ++ (decimal count ++ codes "\n")

-- ---- all lines

pub data LineValue : Type 0 where
  -- one of several connections, which is judged then
  Opens : Session → Opening → LineValue
  Answers : Answer → LineValue
  -- an end: the state, and the families that are disabled; its routes follow
  Ends : Fsm → Families → LineValue
  HasRoute : Destination → PathValue → LineValue
  Reasons : ReasonValue → LineValue
  -- a capture, or a recording or one of its connections, that is refused
  RefusesCapture : CaptureFault → LineValue
  Refuses : Refusal → LineValue

abbrev pub line_value : VerdictLine → LineValue
line_value (lines.Opening session opening) = Opens session opening
line_value (lines.Answer answer) = Answers answer
line_value (lines.End state disabled) = Ends state disabled
line_value (lines.Reason reason) = Reasons (reason_value reason)

abbrev pub answer_text : Answer → List ℕ
answer_text answers.Yes = codes "yes\n"
answer_text (answers.NoAt number) =
    codes "no at record " ++ (decimal number ++ codes "\n")
answer_text (answers.NoAtPacket packet) =
    codes "no at packet " ++ (decimal packet ++ codes "\n")
answer_text answers.Unfinished = unfinished_line

-- ---- of verdicts

-- an end with its routes
abbrev pub route_value : Destination × PathValue → LineValue
route_value route = HasRoute route.0 route.1

abbrev pub end_lines : End → List LineValue
end_lines e = Ends e.fsm e.routes.disabled ∷ map route_value e.routes.entries

abbrev pub verdict_lines : VerdictValue → List LineValue
verdict_lines (Yes ends) = Answers answers.Yes ∷ flat_map end_lines ends
verdict_lines (No count) = Answers (answers.NoAt (count + 1)) ∷ []
verdict_lines Unfinished = Answers answers.Unfinished ∷ []

-- ---- of a reason

-- what may come, item by item
abbrev pub item_values : Bool → Bool → Bool → ℕ → (Item → List ℕ) → List Item → List LineValue
item_values is_owed is_next is_first first but [] = []
item_values is_owed is_next is_first first but (item ∷ items) =
    Reasons (Possible is_owed is_next is_first (item_text first item) (but item))
    ∷ item_values is_owed is_next false first but items

abbrev pub possible_values : Style → Bool → (Item → List ℕ) → possible.Possible → List LineValue
possible_values style is_next but p =
    item_values (not p.message) is_next true style.first but
    (those_possible (all_items (possible_shown style.is_recording p)))

-- what could have been sent in other orders, beside what may come
abbrev pub other_item_values : ℕ → List Item → List LineValue
other_item_values first [] = []
other_item_values first (item ∷ items) =
    Reasons (InAnotherOrder (item_text first item)) ∷ other_item_values first items

abbrev pub other_values : ℕ → possible.Possible → OtherOrders → List LineValue
other_values first p others.Unasked = []
other_values first p others.Unknown = Reasons OtherOrdersUnknown ∷ []
other_values first p (others.Known those) =
    other_item_values first (those_possible (all_items (besides p those)))

-- whether the next item is the first
abbrev pub still_first : Bool → Option Item → Bool
still_first is_first None = is_first
still_first is_first (Some item) = false

-- the notes that there are
abbrev pub note_values : List (Option notes.Note) → List LineValue
note_values [] = []
note_values (None ∷ others) = note_values others
note_values (Some note ∷ others) = Reasons (Note (note_text note)) ∷ note_values others

-- ---- the text of a line

unfoldable pub line_text : LineValue → List ℕ
line_text (Opens session opening) = opening_text session opening ++ codes "\n"
line_text (Answers answer) = answer_text answer
line_text (Ends state disabled) =
    codes "end " ++ (state_text state ++ (codes " disabled " ++ (families_text disabled
    ++ codes "\n")))
line_text (HasRoute destination path) = route_line (destination, path)
line_text (Reasons reason) = reason_text reason
line_text (RefusesCapture fault) = refused_line fault.kind fault.offset
line_text (Refuses refusal) = refusal_line refusal
