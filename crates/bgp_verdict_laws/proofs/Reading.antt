-- What is read of an object: the plain line.
use Rattle.std.proofs.Common.{◌≡◌, ◌∙◌, ◌++◌, ◌==◌, ℕ, Bool, true, List, [], ◌∷◌, Option, None, Some, bytes_eq, codes, get_or, map, refl, ap, if◌then◌else◌, not}
use Rattle.std.specs.Fmt.{decimal}
use Rattle.std.specs.List.{join_with_byte}
use Rattle.json.specs.Json.{Json, null, boolean, number, string, array, object}
use Rattle.bgp_text.specs.RouteText.{list_text}
use Rattle.bgp_why.specs.Items.{first_word}
use Rattle.bgp_why.specs.Possible.{unknown_line}
use Rattle.bgp_json_values.specs.Objects.{object_of}
use Rattle.bgp_json_laws.proofs.Lookups.{items_of, listed, members_of, paired, text_of, value_at}
use Rattle.bgp_verdict_laws.proofs.Shapes.{IsMade, are_distinct, found, found_in, having}
use Rattle.bgp_verdict_laws.proofs.Times.{at_in, at_keys, is_so, number_in, packet_in, place_keys, said, when_in}

-- what an object is of
pub data Kind : Type 0 where
  Connection : Kind
  Verdict : Kind
  EndLine : Kind
  Route : Kind
  Record : Kind
  Message : Kind
  Data : Kind
  Unfit : Kind
  Configured : Kind
  State : Kind
  Last : Kind
  Possible : Kind
  Elsewhere : Kind
  Unknown : Kind
  Already : Kind
  Note : Kind
  Counted : Kind
  Ignored : Kind
  Skipped : Kind
  Refused : Kind

abbrev pub name : Kind → List ℕ
name Connection = codes "connection"
name Verdict = codes "verdict"
name EndLine = codes "end"
name Route = codes "route"
name Record = codes "record"
name Message = codes "message"
name Data = codes "data"
name Unfit = codes "not_whole"
name Configured = codes "configured"
name State = codes "state"
name Last = codes "last_received"
name Possible = codes "possible"
name Elsewhere = codes "possible_in_another_order"
name Unknown = codes "other_orders_unknown"
name Already = codes "sent_already"
name Note = codes "note"
name Counted = codes "records"
name Ignored = codes "ignored"
name Skipped = codes "skipped"
name Refused = codes "refused"

abbrev kinds : List Kind
kinds =
    Connection ∷ Verdict ∷ EndLine ∷ Route ∷ Record ∷ Message ∷ Data ∷ Unfit ∷ Configured ∷ State ∷ Last ∷ Possible ∷ Elsewhere ∷ Unknown ∷ Already
    ∷ Note ∷ Counted ∷ Ignored ∷ Skipped ∷ Refused ∷ []

-- the first of these with a name
abbrev named_in : List Kind → List ℕ → Kind
named_in [] text = Refused
named_in (kind ∷ others) text = if bytes_eq (name kind) text then kind else named_in others text

kind_back : (kind : Kind) → named_in kinds (name kind) ≡ kind
kind_back Connection = refl
kind_back Verdict = refl
kind_back EndLine = refl
kind_back Route = refl
kind_back Record = refl
kind_back Message = refl
kind_back Data = refl
kind_back Unfit = refl
kind_back Configured = refl
kind_back State = refl
kind_back Last = refl
kind_back Possible = refl
kind_back Elsewhere = refl
kind_back Unknown = refl
kind_back Already = refl
kind_back Note = refl
kind_back Counted = refl
kind_back Ignored = refl
kind_back Skipped = refl
kind_back Refused = refl

-- ---- the keys of each, behind the type

abbrev pub keys_behind : Kind → List (List ℕ)
keys_behind Connection = codes "connection" ∷ codes "from" ∷ codes "from_port" ∷ codes "to" ∷ codes "to_port" ∷ codes "second" ∷ codes "micro" ∷ []
keys_behind Verdict = codes "judged" ∷ codes "answer" ∷ codes "record" ∷ codes "packet" ∷ []
keys_behind EndLine = codes "judged" ∷ codes "end" ∷ codes "state" ∷ codes "disabled" ∷ []
keys_behind Route =
    codes "judged" ∷ codes "end" ∷ codes "prefix" ∷ codes "path_id" ∷ codes "next_hop" ∷ codes "path" ∷ codes "origin" ∷ codes "med" ∷ codes "pref"
    ∷ codes "atomic" ∷ codes "aggregator" ∷ codes "communities" ∷ codes "extended" ∷ codes "large" ∷ codes "originator" ∷ codes "clusters" ∷ []
keys_behind Record = codes "judged" ∷ (place_keys ++ codes "address" ∷ codes "deed" ∷ [])
keys_behind Message = codes "judged" ∷ codes "line" ∷ []
keys_behind Data = codes "judged" ∷ codes "line" ∷ []
keys_behind Unfit = codes "judged" ∷ codes "text" ∷ []
keys_behind Configured = codes "judged" ∷ codes "peer_as_not" ∷ []
keys_behind State = codes "judged" ∷ codes "state" ∷ at_keys
keys_behind Last = codes "judged" ∷ (at_keys ++ codes "message" ∷ codes "asked" ∷ [])
keys_behind Possible = codes "judged" ∷ codes "owed" ∷ codes "next" ∷ codes "first" ∷ codes "item" ∷ codes "but" ∷ []
keys_behind Elsewhere = codes "judged" ∷ codes "item" ∷ []
keys_behind Unknown = codes "judged" ∷ []
keys_behind Already = codes "judged" ∷ (at_keys ++ codes "code" ∷ codes "subcode" ∷ codes "name" ∷ [])
keys_behind Note = codes "judged" ∷ codes "text" ∷ []
keys_behind Counted = codes "judged" ∷ codes "records" ∷ codes "received" ∷ codes "sent" ∷ codes "changes" ∷ []
keys_behind Ignored = codes "judged" ∷ codes "count" ∷ []
keys_behind Skipped = codes "judged" ∷ codes "count" ∷ codes "of" ∷ codes "first" ∷ []
keys_behind Refused = codes "what" ∷ codes "number" ∷ codes "name" ∷ codes "at" ∷ codes "packet" ∷ codes "direction" ∷ codes "octet" ∷ []

abbrev pub keys : Kind → List (List ℕ)
keys kind = codes "type" ∷ keys_behind kind

distinct : (kind : Kind) → are_distinct (keys kind) ≡ true
distinct Connection = refl
distinct Verdict = refl
distinct EndLine = refl
distinct Route = refl
distinct Record = refl
distinct Message = refl
distinct Data = refl
distinct Unfit = refl
distinct Configured = refl
distinct State = refl
distinct Last = refl
distinct Possible = refl
distinct Elsewhere = refl
distinct Unknown = refl
distinct Already = refl
distinct Note = refl
distinct Counted = refl
distinct Ignored = refl
distinct Skipped = refl
distinct Refused = refl

-- ---- the plain line by the values of these keys, the type among them

abbrev pub at : List (Option Json) → ℕ → Option Json
at values place = get_or values place None

-- a value of a key behind a text, if there is one
abbrev pub behind : List ℕ → Option Json → List ℕ
behind before None = []
behind before (Some value) = before ++ text_of value

abbrev pub if_any : List ℕ → Option Json → List ℕ
if_any text None = []
if_any text (Some value) = text

abbrev pub list_in : Option Json → List Json
list_in None = []
list_in (Some value) = listed (items_of value)

abbrev pub answer_in : Option Json → Option Json → List ℕ → List ℕ
answer_in None None answer = answer ++ codes "\n"
answer_in (Some place) packet answer = answer ++ (codes " at record " ++ (text_of place ++ codes "\n"))
answer_in None (Some packet) answer = answer ++ (codes " at packet " ++ (text_of packet ++ codes "\n"))

abbrev pub families_in : List Json → List ℕ
families_in [] = codes "-"
families_in (family ∷ []) = text_of family
families_in (family ∷ other ∷ families) = text_of family ++ (codes "," ++ text_of other)

abbrev pub as_in : ℕ → List ℕ
as_in n = decimal n ++ (if n == 23456 then codes " (AS_TRANS)" else [])

abbrev pub since_in : Option Json → List ℕ → List ℕ
since_in None text = []
since_in (Some value) text = codes " since " ++ text

abbrev pub item_in : Bool → Bool → Bool → List ℕ
item_in is_owed is_next is_first = if is_first then first_word (not is_owed) is_next else codes "or: "

abbrev pub ends_in : Option Json → List ℕ
ends_in None = []
ends_in (Some ends) =
    codes ", the first of --peer " ++ (text_of (value_at (codes "peer") ends) ++ (codes " --local " ++ text_of (value_at (codes "local") ends)))

-- ---- routes

abbrev pub hop_in : List Json → List ℕ
hop_in [] = []
hop_in (hop ∷ []) = text_of hop
hop_in (hop ∷ local ∷ hops) = text_of hop ++ (codes "," ++ text_of local)

-- a number, or a set of numbers
abbrev pub step_in : Json → List ℕ
step_in null = []
step_in (boolean b) = []
step_in (number s) = s
step_in (string s) = s
step_in (array js) = codes "{" ++ (join_with_byte 44 (map text_of (listed js)) ++ codes "}")
step_in (object ms) = []

abbrev pub path_in : List Json → List ℕ
path_in [] = codes "-"
path_in (step ∷ steps) = join_with_byte 32 (map step_in (step ∷ steps))

abbrev pub origin_in : List ℕ → List ℕ
origin_in origin =
    if bytes_eq origin (codes "IGP") then decimal 0 else if bytes_eq origin (codes "EGP") then decimal 1 else decimal 2

abbrev pub aggregator_in : Option Json → List ℕ
aggregator_in None = []
aggregator_in (Some a) =
    codes " aggregator " ++ (text_of (value_at (codes "as") a) ++ (codes " " ++ text_of (value_at (codes "address") a)))

abbrev pub values_in : List ℕ → Option Json → List ℕ
values_in word o = list_text word text_of (list_in o)

abbrev pub optional_in : List (Option Json) → List ℕ
optional_in os =
    behind (codes " med ") (at os 8)
    ++ (behind (codes " pref ") (at os 9)
    ++ (if_any (codes " atomic") (at os 10)
    ++ (aggregator_in (at os 11)
    ++ (values_in (codes " communities") (at os 12)
    ++ (values_in (codes " extended") (at os 13)
    ++ (values_in (codes " large") (at os 14)
    ++ (behind (codes " originator ") (at os 15)
    ++ values_in (codes " clusters") (at os 16))))))))

abbrev pub route_in : List (Option Json) → List ℕ
route_in os =
    codes "route " ++ (((said (at os 3) ++ behind (codes "#") (at os 4)) ++ (codes " via " ++ (hop_in (list_in (at os 5))
    ++ (codes " path " ++ (path_in (list_in (at os 6)) ++ (codes " origin " ++ (origin_in (said (at os 7)) ++ optional_in os)))))))
    ++ codes "\n")

-- ---- refusals

abbrev pub place_of_octet : Option Json → Option Json → List ℕ
place_of_octet None octet = []
place_of_octet (Some direction) octet = codes " " ++ (text_of direction ++ (codes " octet " ++ said octet))

abbrev capture_in : List (Option Json) → List ℕ
capture_in os =
    codes "capture refused: " ++ (said (at os 2) ++ (codes " " ++ (said (at os 3) ++ (codes " at " ++ (said (at os 4) ++ codes "\n")))))

abbrev recording_in : List (Option Json) → List ℕ
recording_in os =
    codes "recording refused: " ++ ((said (at os 2) ++ (codes " " ++ (said (at os 3) ++ (codes " at packet " ++ said (at os 5)))))
    ++ (place_of_octet (at os 6) (at os 7) ++ codes "\n"))

abbrev sessions_in : List (Option Json) → List ℕ
sessions_in os = codes "  records of other sessions: " ++ (said (at os 2) ++ (ends_in (at os 4) ++ codes "\n"))

abbrev others_in : List (Option Json) → List ℕ
others_in os = codes "  records of other kinds: " ++ (said (at os 2) ++ codes "\n")

-- ---- all

abbrev pub plain_by : Kind → List (Option Json) → List ℕ
plain_by Connection os =
    (codes "connection " ++ (said (at os 1) ++ (codes " from " ++ ((said (at os 2) ++ (codes " " ++ said (at os 3)))
    ++ (codes " to " ++ ((said (at os 4) ++ (codes " " ++ said (at os 5))) ++ (codes " at " ++ said (at os 6)))))))) ++ codes "\n"
plain_by Verdict os = answer_in (at os 3) (at os 4) (said (at os 2))
plain_by EndLine os =
    codes "end " ++ (said (at os 3) ++ (codes " disabled " ++ (families_in (list_in (at os 4)) ++ codes "\n")))
plain_by Route os = route_in os
plain_by Record os =
    codes "  " ++ ((codes "record " ++ (said (at os 2) ++ (packet_in (at os 3) ++ (codes ", " ++ (when_in (at os 4) (at os 5) ++ codes " UTC: ")))))
    ++ (said (at os 6) ++ (codes " " ++ (said (at os 7) ++ codes "\n"))))
plain_by Message os = codes "  message: " ++ (said (at os 2) ++ codes "\n")
plain_by Data os = codes "  data: " ++ (said (at os 2) ++ codes "\n")
plain_by Unfit os = codes "  " ++ ((codes "not a whole message: " ++ said (at os 2)) ++ codes "\n")
plain_by Configured os =
    codes "  the lines below are for a router configured for a peer in another AS than " ++ (as_in (number_in (at os 2)) ++ codes "\n")
plain_by State os =
    codes "  state: " ++ (said (at os 2) ++ (since_in (at os 3) (at_in (at os 3) (at os 4) (at os 5) (at os 6) (at os 7)) ++ codes "\n"))
plain_by Last os =
    codes "  last received: " ++ (at_in (at os 2) (at os 3) (at os 4) (at os 5) (at os 6) ++ (codes ", " ++ (said (at os 7)
    ++ (behind (codes ": ") (at os 8) ++ codes "\n"))))
plain_by Possible os =
    codes "  " ++ (item_in (is_so (at os 2)) (is_so (at os 3)) (is_so (at os 4)) ++ (said (at os 5) ++ (behind (codes "; ") (at os 6) ++ codes "\n")))
plain_by Elsewhere os = codes "  or: in another order, " ++ (said (at os 2) ++ codes "\n")
plain_by Unknown os = unknown_line
plain_by Already os =
    codes "  note: it had sent NOTIFICATION " ++ ((said (at os 7) ++ (codes "/" ++ (said (at os 8) ++ (codes " (" ++ (said (at os 9) ++ codes ")")))))
    ++ (codes " already, at " ++ (at_in (at os 2) (at os 3) (at os 4) (at os 5) (at os 6) ++ codes "\n")))
plain_by Note os = codes "  note: " ++ (said (at os 2) ++ codes "\n")
plain_by Counted os =
    codes "  records of the session: " ++ (said (at os 2) ++ (codes " (received " ++ (said (at os 3) ++ (codes ", sent " ++ (said (at os 4)
    ++ (codes ", changes of state " ++ (said (at os 5) ++ codes ")\n")))))))
plain_by Ignored os = codes "  received in Idle, and ignored: " ++ (said (at os 2) ++ codes "\n")
plain_by Skipped os = if bytes_eq (said (at os 3)) (codes "sessions") then sessions_in os else others_in os
plain_by Refused os = if bytes_eq (said (at os 1)) (codes "capture") then capture_in os else recording_in os

-- an object by its type
abbrev plain_of : Json → Kind → List ℕ
plain_of j kind = plain_by kind (found (keys kind) (paired (members_of j)))

unfoldable pub plain : Json → List ℕ
plain j = plain_of j (named_in kinds (text_of (value_at (codes "type") j)))

-- an object with the members of its kind is read by their values
pub reads : (kind : Kind) (values : List (Option Json)) (ms : List (List ℕ × Json)) → IsMade (keys_behind kind) values ms
    → plain (object_of ((codes "type", string (name kind)) ∷ ms)) ≡ plain_by kind (Some (string (name kind)) ∷ values)
unfolding plain
reads kind values ms made_of =
    let whole = having (codes "type") (string (name kind)) made_of in
    ap (plain_of (object_of ((codes "type", string (name kind)) ∷ ms))) (kind_back kind) ∙ ap (plain_by kind) (found_in whole (distinct kind))
