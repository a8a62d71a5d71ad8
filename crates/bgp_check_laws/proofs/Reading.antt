-- What is read of the objects of an output: its text.
use Rattle.std.proofs.Common.{◌≡◌, ◌++◌, ◌==◌, ◌||◌, ℕ, Bool, true, false, not, List, [], ◌∷◌, Option, None, Some, bytes_eq, codes, drop, length, refl, if◌then◌else◌}
use Rattle.std.specs.List.{flat_map}
use Rattle.std.specs.Prelude.{nat_lt}
use Rattle.std.specs.Str.Parse.{digits_value}
use Rattle.json.specs.Json.{Json, string}
use Rattle.bgp_open.specs.declared.families.Families.{Families}
use Rattle.bgp_names.specs.States.{state_names}
use Rattle.bgp_json.specs.Object.{typed}
use Rattle.bgp_json_values.specs.Objects.{object_of}
use Rattle.bgp_check_lines.specs.Values.{all_orders_line, another_order_line, cut_short_line, late_line, no_record_line, nothing_at_line, one_order_line, open_line}
use Rattle.bgp_check_text.specs.States.{disabled_text}
use Rattle.bgp_json_laws.proofs.Lookups.{members_of, paired, text_of, valued, value_at}
use Rattle.bgp_verdict_laws.proofs.Reading.{as_in as number_text_in, at, behind, list_in}
use Rattle.bgp_verdict_laws.proofs.Reading.{plain as reason_plain}
use Rattle.bgp_verdict_laws.proofs.Shapes.{IsMade, are_distinct, found, found_in, having}
use Rattle.bgp_verdict_laws.proofs.Times.{is_so, number_in, said, when_in}
use Rattle.bgp_list_laws.proofs.Causes.{capture_cause_in}
use Rattle.bgp_list_laws.proofs.Endpoints.{as_in, endpoint_in}
use Rattle.bgp_list_laws.proofs.Ended.{how_keys, who_and_how_in}
use Rattle.bgp_list_laws.proofs.Reading.{plain as listed_plain, refused_in}
use Rattle.bgp_list_laws.proofs.Sessions.{session_plain}
use Rattle.bgp_check_laws.proofs.Members.{end_keys, known_keys, moment_in, pair_in, place_in}

-- ---- what an object is of: those of a list and of a reason have no keys of their own here

pub data Kind : Type 0 where
  Verdict : Kind
  EndLine : Kind
  BeforeLine : Kind
  RouteLine : Kind
  RouteBefore : Kind
  Passed : Kind
  Incomplete : Kind
  NotRead : Kind
  InMade : Kind
  One : Kind
  Another : Kind
  Every : Kind
  Late : Kind
  Repeat : Kind
  OpenAtEnd : Kind
  Ended : Kind
  CutShort : Kind
  Nothing : Kind
  Summary : Kind
  Connection : Kind
  Session : Kind
  Refused : Kind
  OfReason : Kind

abbrev pub name : Kind → List ℕ
name Verdict = codes "verdict"
name EndLine = codes "end"
name BeforeLine = codes "end_before"
name RouteLine = codes "route"
name RouteBefore = codes "route_before"
name Passed = codes "refresh_not_judged"
name Incomplete = codes "incomplete"
name NotRead = codes "not_read"
name InMade = codes "in_made_order"
name One = codes "one_order"
name Another = codes "another_order"
name Every = codes "all_orders"
name Late = codes "late"
name Repeat = codes "repeat"
name OpenAtEnd = codes "open_at_end"
name Ended = codes "ended"
name CutShort = codes "cut_short"
name Nothing = codes "nothing"
name Summary = codes "summary"
name Connection = codes "connection"
name Session = codes "session"
name Refused = codes "refused"
name OfReason = []

abbrev kinds : List Kind
kinds =
    Verdict ∷ EndLine ∷ BeforeLine ∷ RouteLine ∷ RouteBefore ∷ Passed ∷ Incomplete ∷ NotRead ∷ InMade ∷ One ∷ Another ∷ Every ∷ Late ∷ Repeat
    ∷ OpenAtEnd ∷ Ended ∷ CutShort ∷ Nothing ∷ Summary ∷ Connection ∷ Session ∷ Refused ∷ []

-- the first of these with a name
abbrev named_in : List Kind → List ℕ → Kind
named_in [] text = OfReason
named_in (kind ∷ others) text = if bytes_eq (name kind) text then kind else named_in others text

abbrev pub kind_named : List ℕ → Kind
kind_named text = named_in kinds text

abbrev pub kind_of : Json → Kind
kind_of j = kind_named (text_of (value_at (codes "type") j))

-- ---- the keys of each, behind the type

abbrev verdict_keys : List (List ℕ)
verdict_keys =
    codes "judged" ∷ codes "answer" ∷ (known_keys ++ (end_keys ++ codes "peer_as" ∷ codes "peer_as_not" ∷ codes "reached" ∷ codes "before"
    ∷ codes "with_routes" ∷ codes "as_left_out" ∷ codes "deed" ∷ codes "why" ∷ []))

abbrev pub keys_behind : Kind → List (List ℕ)
keys_behind Verdict = verdict_keys
keys_behind EndLine = codes "judged" ∷ codes "end" ∷ codes "state" ∷ codes "disabled" ∷ codes "routes" ∷ []
keys_behind BeforeLine = codes "judged" ∷ codes "end" ∷ codes "disabled" ∷ codes "routes" ∷ []
keys_behind RouteLine = []
keys_behind RouteBefore = []
keys_behind Passed = codes "judged" ∷ codes "direction" ∷ codes "count" ∷ []
keys_behind Incomplete = codes "judged" ∷ codes "direction" ∷ codes "octets" ∷ []
keys_behind NotRead = codes "judged" ∷ codes "direction" ∷ codes "behind" ∷ codes "at" ∷ codes "octets" ∷ []
keys_behind InMade = codes "judged" ∷ (known_keys ++ codes "dated" ∷ codes "deed" ∷ [])
keys_behind One = codes "judged" ∷ codes "delayed" ∷ []
keys_behind Another = codes "judged" ∷ []
keys_behind Every = codes "judged" ∷ []
keys_behind Late = codes "judged" ∷ codes "within" ∷ codes "answer" ∷ []
keys_behind Repeat = codes "judged" ∷ codes "command" ∷ []
keys_behind OpenAtEnd = codes "judged" ∷ []
keys_behind Ended = codes "judged" ∷ (known_keys ++ codes "dated" ∷ codes "by" ∷ codes "by_port" ∷ how_keys)
keys_behind CutShort = codes "packet" ∷ []
keys_behind Nothing = codes "port" ∷ []
keys_behind Summary = codes "ends" ∷ codes "yes" ∷ codes "no" ∷ codes "unfinished" ∷ codes "not_judged" ∷ codes "refused" ∷ []
keys_behind Connection = []
keys_behind Session = []
keys_behind Refused = []
keys_behind OfReason = []

abbrev pub keys : Kind → List (List ℕ)
keys kind = codes "type" ∷ keys_behind kind

abbrev pub values_of : Kind → Json → List (Option Json)
values_of kind j = found (keys kind) (paired (members_of j))

distinct : (kind : Kind) → are_distinct (keys kind) ≡ true
distinct Verdict = refl
distinct EndLine = refl
distinct BeforeLine = refl
distinct RouteLine = refl
distinct RouteBefore = refl
distinct Passed = refl
distinct Incomplete = refl
distinct NotRead = refl
distinct InMade = refl
distinct One = refl
distinct Another = refl
distinct Every = refl
distinct Late = refl
distinct Repeat = refl
distinct OpenAtEnd = refl
distinct Ended = refl
distinct CutShort = refl
distinct Nothing = refl
distinct Summary = refl
distinct Connection = refl
distinct Session = refl
distinct Refused = refl
distinct OfReason = refl

-- of an object with the members of its kind these are the values
pub values_back : (kind : Kind) (values : List (Option Json)) (ms : List (List ℕ × Json)) → IsMade (keys_behind kind) values ms
    → values_of kind (typed (name kind) ms) ≡ Some (string (name kind)) ∷ values
values_back kind values ms made_of = found_in (having (codes "type") (string (name kind)) made_of) (distinct kind)

-- ---- an end, and where it stands

abbrev pub part_in : Option Json → List ℕ
part_in None = []
part_in (Some part) = codes ", " ++ pair_in (list_in (Some part))

abbrev pub end_in : List (Option Json) → List ℕ
end_in os =
    endpoint_in (at os 7) (at os 8) ++ (codes " (" ++ (as_in (at os 9) ++ (part_in (at os 10) ++ codes ")")))

abbrev pub unnamed_by : Option Json → List ℕ → List ℕ
unnamed_by None end = end
unnamed_by (Some part) end = end ++ (codes " (" ++ (pair_in (list_in (Some part)) ++ codes ")"))

abbrev pub unnamed_in : List (Option Json) → List ℕ
unnamed_in os = unnamed_by (at os 10) (endpoint_in (at os 7) (at os 8))

abbrev pub place_when_in : List (Option Json) → List ℕ
place_when_in os = place_in (at os 3) (at os 4) ++ (codes ", " ++ (when_in (at os 5) (at os 6) ++ codes " UTC: "))

-- ---- states, by their names

abbrev rank_in : List (ℕ × List ℕ) → List ℕ → ℕ
rank_in [] text = digits_value 10 (drop 6 text)
rank_in (row ∷ rows) text = if bytes_eq row.1 text then row.0 else rank_in rows text

abbrev pub rank : List ℕ → ℕ
rank text = rank_in state_names text

-- families that are disabled
abbrev has : List ℕ → List Json → Bool
has word [] = false
has word (j ∷ js) = bytes_eq word (text_of j) || has word js

abbrev pub families_in : List Json → Families
families_in js = record { v4 = has (codes "v4") js; v6 = has (codes "v6") js }

abbrev pub disabled_in : Option Json → List ℕ
disabled_in value = disabled_text (families_in (list_in value))

abbrev pub or_count_in : Json → List ℕ
or_count_in count = codes " or " ++ text_of count

abbrev pub counts_in : List Json → List ℕ
counts_in [] = []
counts_in (count ∷ others) =
    codes ", routes from its peer before that: " ++ (text_of count ++ flat_map or_count_in others)

abbrev pub after_in : List ℕ → List ℕ → List ℕ
after_in state highest = if nat_lt (rank state) (rank highest) then codes " after " ++ highest else []

-- a state below Established, by the highest one and the routes before
abbrev pub lower_in : List ℕ → List ℕ → Option Json → List ℕ
lower_in state highest before =
    if rank highest == 6 then state ++ (codes " after Established" ++ counts_in (list_in before))
    else state ++ (after_in state highest ++ codes ", never Established")

-- the state of an end with these values, by those of its verdict
abbrev pub state_in : List (Option Json) → List (Option Json) → List ℕ
state_in os es =
    if rank (said (at es 3)) == 6
    then codes "Established" ++ (disabled_in (at es 4) ++ (codes ", routes from its peer: " ++ said (at es 5)))
    else lower_in (said (at es 3)) (said (at os 13)) (at os 14)

-- ---- a yes, with the objects behind it

-- of its ends, of the ends before, and of their routes
abbrev pub in_group : Kind → Bool
in_group Verdict = false
in_group EndLine = true
in_group BeforeLine = true
in_group RouteLine = true
in_group RouteBefore = true
in_group Passed = false
in_group Incomplete = false
in_group NotRead = false
in_group InMade = false
in_group One = false
in_group Another = false
in_group Every = false
in_group Late = false
in_group Repeat = false
in_group OpenAtEnd = false
in_group Ended = false
in_group CutShort = false
in_group Nothing = false
in_group Summary = false
in_group Connection = false
in_group Session = false
in_group Refused = false
in_group OfReason = false

abbrev pub group : List Json → List Json
group [] = []
group (j ∷ js) = if in_group (kind_of j) then j ∷ group js else []

abbrev pub is_end : Json → Bool
is_end j = bytes_eq (codes "end") (text_of (value_at (codes "type") j))

abbrev pub ends_in : List Json → List Json
ends_in [] = []
ends_in (j ∷ js) = if is_end j then j ∷ ends_in js else ends_in js

abbrev pub or_state_in : List (Option Json) → Json → List ℕ
or_state_in os j = codes ", or " ++ state_in os (values_of EndLine j)

abbrev pub states_in : List (Option Json) → List Json → List ℕ
states_in os [] = []
states_in os (j ∷ js) = state_in os (values_of EndLine j) ++ flat_map (or_state_in os) js

-- for which peer the end has to be configured
abbrev pub peer_in : Option Json → Option Json → List ℕ
peer_in (Some value) other = []
peer_in None None = codes ", with no readable OPEN from its peer"
peer_in None (Some value) =
    codes ", if configured for a peer in another AS than " ++ number_text_in (number_in (Some value))

-- the line of a route before is that of a route
abbrev pub as_route : Json → Json
as_route j = object_of ((codes "type", string (codes "route")) ∷ drop 1 (paired (members_of j)))

-- the lines of a group's object: that of an end, if there are several; of a route; of an end before
abbrev pub group_text : Bool → List (Option Json) → Kind → Json → List ℕ
group_text several os EndLine j =
    if several then codes "  " ++ (state_in os (values_of EndLine j) ++ codes "\n") else []
group_text several os BeforeLine j =
    codes "  before that" ++ (disabled_in (at (values_of BeforeLine j) 3) ++ (codes ", routes from its peer: "
    ++ (said (at (values_of BeforeLine j) 4) ++ codes "\n")))
group_text several os RouteLine j = codes "  " ++ reason_plain j
group_text several os RouteBefore j = codes "  " ++ reason_plain (as_route j)
group_text several os kind j = []

abbrev pub group_line : Bool → List (Option Json) → Json → List ℕ
group_line several os j = group_text several os (kind_of j) j

abbrev pub yes_in : List (Option Json) → List Json → List ℕ
yes_in os js =
    (codes "yes: " ++ (end_in os ++ (peer_in (at os 11) (at os 12) ++ (codes ": " ++ (states_in os (ends_in js) ++ codes "\n")))))
    ++ (if is_so (at os 15) then flat_map (group_line (not (length (ends_in js) == 1)) os) js else [])

-- ---- the other answers

abbrev pub no_in : List (Option Json) → List ℕ
no_in os =
    codes "no at " ++ (place_when_in os ++ (end_in os ++ (behind (codes " ") (at os 17) ++ codes "\n")))

abbrev pub unfinished_in : List (Option Json) → List ℕ
unfinished_in os =
    codes "unfinished after " ++ (place_when_in os ++ (end_in os ++ codes " has not done what is due\n"))

abbrev pub unjudged_in : List (Option Json) → List ℕ
unjudged_in os =
    codes "not judged: " ++ ((if is_so (at os 16) then unnamed_in os else end_in os) ++ (codes ": " ++ (said (at os 18) ++ codes "\n")))

abbrev pub verdict_by : List ℕ → List (Option Json) → List Json → List ℕ
verdict_by answer os js =
    if bytes_eq (codes "yes") answer then yes_in os js
    else if bytes_eq (codes "no") answer then no_in os
    else if bytes_eq (codes "unfinished") answer then unfinished_in os
    else unjudged_in os

abbrev pub verdict_in : List (Option Json) → List Json → List ℕ
verdict_in os js = verdict_by (said (at os 2)) os js

-- ---- refusals, sessions, and what is said of a whole file

abbrev pub fault_in : Json → List ℕ
fault_in j =
    codes "refused at octet " ++ (text_of (value_at (codes "at") j) ++ (codes ": " ++ (text_of (value_at (codes "number") j)
    ++ (codes " " ++ (text_of (value_at (codes "name") j) ++ (codes ", "
    ++ (capture_cause_in (text_of (value_at (codes "number") j)) ++ codes "\n")))))))

abbrev pub refusal_in : Json → List ℕ
refusal_in j =
    if bytes_eq (codes "capture") (text_of (value_at (codes "what") j)) then fault_in j else refused_in j

abbrev session_by : Option Json → Json → List ℕ
session_by None j = session_plain j
session_by (Some addresses) j = listed_plain j

abbrev pub session_in : Json → List ℕ
session_in j = session_by (valued (codes "addresses") (paired (members_of j))) j

abbrev nothing_in : Option Json → List ℕ
nothing_in None = no_record_line
nothing_in (Some port) = nothing_at_line (number_in (Some port))

abbrev pub summary_in : List (Option Json) → List ℕ
summary_in os =
    codes "ends " ++ (said (at os 1) ++ (codes ": " ++ (said (at os 2) ++ (codes " yes, " ++ (said (at os 3)
    ++ (codes " no, " ++ (said (at os 4) ++ (codes " unfinished, " ++ (said (at os 5) ++ (codes " not judged; refused "
    ++ (said (at os 6) ++ codes "\n")))))))))))

-- ---- all

-- the text of an object with these values, of a kind that has keys here
abbrev pub plain_by : Kind → List (Option Json) → List ℕ
plain_by Passed os =
    codes "  note: ROUTE-REFRESH messages " ++ (said (at os 2) ++ (codes ", not judged: " ++ (said (at os 3) ++ codes "\n")))
plain_by Incomplete os =
    codes "  note: octets " ++ (said (at os 2) ++ (codes " of an incomplete last message: " ++ (said (at os 3) ++ codes "\n")))
plain_by NotRead os =
    codes "  note: octets " ++ (said (at os 2) ++ (codes " after the " ++ (said (at os 3) ++ (codes " at octet "
    ++ (said (at os 4) ++ (codes ", not read: " ++ (said (at os 5) ++ codes "\n")))))))
plain_by InMade os =
    codes "  in the order of bgp import, " ++ (place_in (at os 2) (at os 3) ++ (codes ", "
    ++ (moment_in (at os 4) (at os 5) (at os 6) ++ (codes ": " ++ (said (at os 7) ++ codes "\n")))))
plain_by One os = one_order_line (number_in (at os 2))
plain_by Another os = another_order_line
plain_by Every os = all_orders_line
plain_by Late os = late_line (number_in (at os 2)) (bytes_eq (codes "yes") (said (at os 3)))
plain_by Repeat os = codes "  repeat: " ++ (said (at os 2) ++ codes " FILE\n")
plain_by OpenAtEnd os = open_line
plain_by Ended os =
    codes "  ended at record " ++ (said (at os 2) ++ (codes ", " ++ (moment_in (at os 4) (at os 5) (at os 6) ++ who_and_how_in (drop 4 os))))
plain_by CutShort os = cut_short_line (number_in (at os 1))
plain_by Nothing os = nothing_in (at os 1)
plain_by Summary os = summary_in os
plain_by kind os = []

-- that of any object, with those behind it
abbrev pub text_by : Kind → Json → List Json → List ℕ
text_by Verdict j js = verdict_in (values_of Verdict j) (group js)
text_by EndLine j js = []
text_by BeforeLine j js = []
text_by RouteLine j js = []
text_by RouteBefore j js = []
text_by Connection j js = listed_plain j
text_by Session j js = session_in j
text_by Refused j js = refusal_in j
text_by OfReason j js = reason_plain j
text_by Passed j js = plain_by Passed (values_of Passed j)
text_by Incomplete j js = plain_by Incomplete (values_of Incomplete j)
text_by NotRead j js = plain_by NotRead (values_of NotRead j)
text_by InMade j js = plain_by InMade (values_of InMade j)
text_by One j js = plain_by One (values_of One j)
text_by Another j js = plain_by Another (values_of Another j)
text_by Every j js = plain_by Every (values_of Every j)
text_by Late j js = plain_by Late (values_of Late j)
text_by Repeat j js = plain_by Repeat (values_of Repeat j)
text_by OpenAtEnd j js = plain_by OpenAtEnd (values_of OpenAtEnd j)
text_by Ended j js = plain_by Ended (values_of Ended j)
text_by CutShort j js = plain_by CutShort (values_of CutShort j)
text_by Nothing j js = plain_by Nothing (values_of Nothing j)
text_by Summary j js = plain_by Summary (values_of Summary j)

unfoldable pub own_text : Json → List Json → List ℕ
own_text j js = text_by (kind_of j) j js

-- all of it
abbrev pub text_in : List Json → List ℕ
text_in [] = []
text_in (j ∷ js) = own_text j js ++ text_in js
