-- Numbers of 64 bits, in decimal, are numbers of JSON: those of each line's object.
use Rattle.std.proofs.Common.{◌++◌, ◌+◌, ◌<◌, ◌^◌, ℕ, Bool, true, false, List, [], ◌∷◌, All, Option, None, Some, codes, drop, length, nat_lt, arith, if◌then◌else◌, inl, inr}
use Rattle.std.proofs.lemmas.Bool.{cases_Bool, ltb-true}
use Rattle.std.proofs.lemmas.List.Elements.{All-cons, All-head, All-nil, All-tail}
use Rattle.json.specs.Json.{Json, string}
use Rattle.json.specs.Tree.{HasNumbers}
use Rattle.mrt.specs.declared.record.Endpoints.{Endpoints}
use Rattle.bgp_prefix.specs.declared.session.Session.{Session}
use Rattle.streams.specs.declared.connection.Opening.{Opening}
use Rattle.streams.specs.declared.passed.Side.{Side}
use Rattle.streams.specs.declared.passed.Side.TheVariants.{Local, Peer}
use Rattle.bgp_path.specs.AsPath.{PathSegment}
use Rattle.bgp_path.specs.Path.{PathValue}
use Rattle.bgp_path.specs.declared.as_path.SegmentKind.{SegmentKind}
use Rattle.bgp_path.specs.declared.as_path.SegmentKind.TheVariants.{Set, Sequence}
use Rattle.bgp_path.specs.declared.path.Aggregator.{Aggregator}
use Rattle.bgp_values.specs.declared.opens.Direction.{Direction}
use Rattle.bgp_import.specs.ListText.{end_of, other_side}
use Rattle.bgp_import.specs.Refusals.{refusal_name, refusal_number, refusal_packet}
use Rattle.bgp_import.specs.declared.refusal.Refusal.{Refusal}
use Rattle.bgp_why.specs.declared.place.Place.{Place}
use Rattle.bgp_json_values.specs.Objects.{array_of, in_array, number_of}
use Rattle.bgp_json_values.specs.RoutesJson.{hop_addresses}
use Rattle.bgp_json_values.specs.Texts.{address_json}
use Rattle.bgp_json_values.specs.Times.{micro_members, time_members}
use Rattle.bgp_json.specs.Object.{typed}
use Rattle.bgp_json.specs.Others.{octet_members}
use Rattle.bgp_json_verdicts.specs.At.{at_members, dated_members, number_members, place_members, since_members}
use Rattle.bgp_json_verdicts.specs.Lines.{LineValue, Opens, Answers, Ends, HasRoute, Reasons, RefusesCapture, Refuses, ReasonValue, TheRecord, TheMessage, TheData, IsUnfit, AnotherAs, TheState, LastReceived, Possible, InAnotherOrder, OtherOrdersUnknown, SentAlready, Note, Records, Ignored, OtherSessions, OtherKinds}
use Rattle.bgp_json_verdicts.specs.Objects.{answer_members, counted_with, end_members, family_texts, of_end, of_verdict, refusal_json, first_members, line_json, no_counts, objects_from, octet_of, opening_members, reason_members, reason_type, text_behind, text_json}
use Rattle.bgp_json_verdicts.specs.RouteJson.{aggregator_members, community_json, community_members, destination_members, extended_json, kind_values, large_json, list_members, mandatory_members, member_if, path_members, path_values, reflection_members, route_members, router_json, router_members, single_members}
use Rattle.bgp_json_verdicts.specs.declared.answer.Answer.{Answer}
use Rattle.bgp_json_verdicts.specs.declared.answer.Answer.TheVariants as answers
use Rattle.bgp_json_verdicts.specs.declared.at.At.{At}
use Rattle.bgp_json_verdicts.specs.declared.telling.Counts.{Counts}
use Rattle.bgp_json_laws.proofs.Captures.{refusal_printed}
use Rattle.bgp_json_laws.proofs.Decimals.{HasDecimals, HaveDecimals, ItemsHaveDecimals, of_both, of_number, of_object, of_texts}
use Rattle.bgp_json_laws.proofs.Printing.{has_numbers}
use Rattle.bgp_verdict_laws.specs.Numbers.{Fits, FitsAggregator, FitsAnswer, FitsAtIfAny, FitsIfAny, FitsLine, FitsOctet, FitsPath, FitsPlace, FitsReason, FitsSegment, LinesHaveNumbers}

-- ---- members

if_any : (name : List ℕ) (number : Option ℕ) → FitsIfAny number → HaveDecimals (number_members name number)
if_any name None fits = tt
if_any name (Some number) fits = (of_number number fits, tt)

micro_fits : (micro : Option ℕ) → HaveDecimals (micro_members micro)
micro_fits None = tt
micro_fits (Some micro) = elim (cases_Bool (nat_lt micro 1000000)) [
  | inl is ↦ let small = ltb-true micro 1000000 is in rw is (of_number micro (omega (arith, small)), tt)
  | inr isnt ↦ rw isnt tt
]

time_fits : (second : ℕ) (micro : Option ℕ) → Fits second → HaveDecimals (time_members second micro)
time_fits second micro fits = (of_number second fits, micro_fits micro)

pub place_fits : (place : Place) → FitsPlace place → HaveDecimals (place_members place)
place_fits place fits = (
  of_number place.number fits.0,
  of_both (number_members (codes "packet") place.packet) (time_members place.second place.micro) (if_any (codes "packet") place.packet fits.1) (time_fits place.second place.micro fits.2),
)

dated_fits : (is_dated : Bool) → HaveDecimals (dated_members is_dated)
dated_fits true = (tt, tt)
dated_fits false = tt

at_fits : (at : At) → FitsPlace at.place → HaveDecimals (at_members at)
at_fits at fits = of_both (place_members at.place) (dated_members at.is_dated) (place_fits at.place fits) (dated_fits at.is_dated)

since_fits : (since : Option At) → FitsAtIfAny since → HaveDecimals (since_members since)
since_fits None fits = tt
since_fits (Some at) fits = at_fits at fits

unless : (is_so : Bool) (name text : List ℕ) → HaveDecimals (if is_so then (name, text_json text) ∷ [] else [])
unless true name text = (tt, tt)
unless false name text = tt

behind_fits : (name text : List ℕ) → HaveDecimals (text_behind 2 name text)
behind_fits name text = unless (nat_lt 2 (length text)) name (drop 2 text)

first_fits : (first : Option Endpoints) → HaveDecimals (first_members first)
first_fits None = tt
first_fits (Some ends) = ((tt, (tt, tt)), tt)

-- ---- lines of a reason

reason_fits : (reason : ReasonValue) → FitsReason reason → HaveDecimals (reason_members reason)
reason_fits (TheRecord place local deed) fits = of_both (place_members place) ((codes "address", address_json local) ∷ (codes "deed", text_json deed) ∷ []) (place_fits place fits) (tt, (tt, tt))
reason_fits (TheMessage text) fits = (tt, tt)
reason_fits (TheData text) fits = (tt, tt)
reason_fits (IsUnfit why) fits = (tt, tt)
reason_fits (AnotherAs number) fits = (of_number number fits, tt)
reason_fits (TheState state since) fits = (tt, since_fits since fits)
reason_fits (LastReceived at name asked) fits =
    of_both (at_members at) ((codes "message", text_json name) ∷ text_behind 2 (codes "asked") asked) (at_fits at fits) (tt, behind_fits (codes "asked") asked)
reason_fits (Possible is_owed is_next is_first item but) fits = (tt, (tt, (tt, (tt, behind_fits (codes "but") but))))
reason_fits (InAnotherOrder item) fits = (tt, tt)
reason_fits OtherOrdersUnknown fits = tt
reason_fits (SentAlready code subcode at) fits = of_both (at_members at) _ (at_fits at fits.0) (of_number code fits.1, (of_number subcode fits.2, (tt, tt)))
reason_fits (Note text) fits = (tt, tt)
reason_fits (Records received sent changes) fits =
    let r : Fits received = omega (arith, fits) in
    let s : Fits sent = omega (arith, fits) in
    let c : Fits changes = omega (arith, fits) in
    (of_number (received + sent + changes) fits, (of_number received r, (of_number sent s, (of_number changes c, tt))))
reason_fits (Ignored count) fits = (of_number count fits, tt)
reason_fits (OtherSessions count first) fits = (of_number count fits, (tt, first_fits first))
reason_fits (OtherKinds count) fits = (of_number count fits, (tt, tt))

-- ---- routes

values_both : (xs ys : List Json) → ItemsHaveDecimals (in_array xs) → ItemsHaveDecimals (in_array ys) → ItemsHaveDecimals (in_array (xs ++ ys))
values_both [] ys first second = second
values_both (x ∷ xs) ys first second = (first.0, values_both xs ys first.1 second)

sequence_fits : (numbers : List ℕ) → All Fits numbers → ItemsHaveDecimals (in_array (kind_values Sequence numbers))
sequence_fits [] all = tt
sequence_fits (n ∷ numbers) all = (of_number n (All-head Fits n numbers all), sequence_fits numbers (All-tail Fits n numbers all))

set_fits : (numbers : List ℕ) → All Fits numbers → HasDecimals (array_of number_of numbers)
set_fits [] all = tt
set_fits (n ∷ numbers) all = (of_number n (All-head Fits n numbers all), set_fits numbers (All-tail Fits n numbers all))

kind_fits : (kind : SegmentKind) (numbers : List ℕ) → All Fits numbers → ItemsHaveDecimals (in_array (kind_values kind numbers))
kind_fits Sequence numbers all = sequence_fits numbers all
kind_fits Set numbers all = (set_fits numbers all, tt)

steps_fit : (segments : List PathSegment) → All FitsSegment segments → ItemsHaveDecimals (in_array (path_values segments))
steps_fit [] all = tt
steps_fit (s ∷ segments) all =
    values_both (kind_values s.kind s.numbers) (path_values segments) (kind_fits s.kind s.numbers (All-head FitsSegment s segments all))
    (steps_fit segments (All-tail FitsSegment s segments all))

flag_fits : (is_so : Bool) (name : List ℕ) (value : Json) → HasDecimals value → HaveDecimals (member_if is_so name value)
flag_fits true name value has = (has, tt)
flag_fits false name value has = tt

aggregator_fits : (a : Option Aggregator) → FitsAggregator a → HaveDecimals (aggregator_members a)
aggregator_fits None fits = tt
aggregator_fits (Some a) fits = ((of_number a.as_number fits, (tt, tt)), tt)

list_fits : {X : Type 0} (name : List ℕ) (json : X → Json) → ((x : X) → HasDecimals (json x)) → (xs : List X) → HaveDecimals (list_members name json xs)
list_fits name json each [] = tt
list_fits name json each (x ∷ xs) = (of_texts json each (x ∷ xs), tt)

router_fits : (name : List ℕ) (number : Option ℕ) → HaveDecimals (router_members name number)
router_fits name None = tt
router_fits name (Some number) = (tt, tt)

path_fits : (p : PathValue) → FitsPath p → HaveDecimals (path_members p)
path_fits p fits =
    of_both (mandatory_members p) (single_members p ++ (community_members p ++ reflection_members p))
    (of_texts address_json (λ a. tt) (hop_addresses p.next_hop), (steps_fit p.as_path fits.0, (tt, tt)))
    (of_both (single_members p) (community_members p ++ reflection_members p)
    (of_both (number_members (codes "med") p.multi_exit_disc) _ (if_any (codes "med") p.multi_exit_disc fits.1)
    (of_both (number_members (codes "pref") p.local_pref) _ (if_any (codes "pref") p.local_pref fits.2)
    (of_both (member_if p.atomic_aggregate (codes "atomic") _) (aggregator_members p.aggregator) (flag_fits p.atomic_aggregate (codes "atomic") _ tt) (aggregator_fits p.aggregator fits.3))))
    (of_both (community_members p) (reflection_members p)
    (of_both (list_members (codes "communities") community_json p.communities) _ (list_fits (codes "communities") community_json (λ v. tt) p.communities)
    (of_both (list_members (codes "extended") extended_json p.extended_communities) (list_members (codes "large") large_json p.large_communities)
    (list_fits (codes "extended") extended_json (λ v. tt) p.extended_communities) (list_fits (codes "large") large_json (λ v. tt) p.large_communities)))
    (of_both (router_members (codes "originator") p.originator_id) (list_members (codes "clusters") router_json p.cluster_list)
    (router_fits (codes "originator") p.originator_id) (list_fits (codes "clusters") router_json (λ v. tt) p.cluster_list))))

-- ---- lines

port_fits : (side : Side) (session : Session) (opening : Opening) → Fits opening.local_port → Fits opening.peer_port → Fits (end_of side session opening).port
port_fits Local session opening local peer = local
port_fits Peer session opening local peer = peer

octet_fits : (place : Option (Direction × ℕ)) → FitsOctet place → HaveDecimals (octet_members place)
octet_fits None fits = tt
octet_fits (Some place) fits = (tt, (of_number place.1 fits, tt))

answer_fits : (answer : Answer) → FitsAnswer answer → HaveDecimals (answer_members answer)
answer_fits answers.Yes fits = (tt, tt)
answer_fits (answers.NoAt number) fits = (tt, (of_number number fits, tt))
answer_fits (answers.NoAtPacket packet) fits = (tt, (of_number packet fits, tt))
answer_fits answers.Unfinished fits = (tt, tt)

opening_fits : (session : Session) (opening : Opening) → FitsLine (Opens session opening) → HaveDecimals (opening_members session opening)
opening_fits session opening fits =
    let from = of_number (end_of opening.opened_by session opening).port (port_fits opening.opened_by session opening fits.1 fits.2) in
    let to = of_number (end_of (other_side opening.opened_by) session opening).port (port_fits (other_side opening.opened_by) session opening fits.1 fits.2) in
    (of_number opening.number fits.0, (tt, (from, (tt, (to, time_fits opening.second opening.micro fits.3)))))

typed_fits : (kind : List ℕ) (members : List (List ℕ × Json)) → HaveDecimals members → HasDecimals (typed kind members)
typed_fits kind members each = of_object ((codes "type", string kind) ∷ members) (tt, each)

verdict_fits : (kind : List ℕ) (counts : Counts) (members : List (List ℕ × Json)) → Fits counts.judged → HaveDecimals members → HasDecimals (of_verdict kind counts members)
verdict_fits kind counts members judged each = typed_fits kind ((codes "judged", number_of counts.judged) ∷ members) (of_number counts.judged judged, each)

end_fits : (kind : List ℕ) (counts : Counts) (members : List (List ℕ × Json)) → Fits counts.judged → Fits counts.end → HaveDecimals members → HasDecimals (of_end kind counts members)
end_fits kind counts members judged end each =
    verdict_fits kind counts ((codes "end", number_of counts.end) ∷ members) judged (of_number counts.end end, each)

refusal_fits : (refusal : Refusal) → FitsLine (Refuses refusal) → HasDecimals (refusal_json refusal)
refusal_fits refusal fits =
    let ms = (codes "what", string (codes "recording")) ∷ (codes "number", number_of (refusal_number refusal)) ∷ (codes "name", string (refusal_name refusal))
    ∷ (codes "packet", number_of (refusal_packet refusal)) ∷ octet_members (octet_of refusal) in
    typed_fits (codes "refused") ms (tt, (of_number (refusal_number refusal) fits.0, (tt, (of_number (refusal_packet refusal) fits.1, octet_fits (octet_of refusal) fits.2))))

pub line_fits : (counts : Counts) (line : LineValue) → Fits counts.judged → Fits counts.end → FitsLine line → HasDecimals (line_json counts line)
line_fits counts (Opens session opening) judged end fits = typed_fits (codes "connection") (opening_members session opening) (opening_fits session opening fits)
line_fits counts (Answers answer) judged end fits = verdict_fits (codes "verdict") counts (answer_members answer) judged (answer_fits answer fits)
line_fits counts (Ends state disabled) judged end fits =
    end_fits (codes "end") counts (end_members state disabled) judged end (tt, (of_texts string (λ t. tt) (family_texts disabled), tt))
line_fits counts (HasRoute destination path) judged end fits =
    end_fits (codes "route") counts (route_members destination path) judged end
    (of_both (destination_members destination) (path_members path) (tt, if_any (codes "path_id") destination.path fits.0) (path_fits path fits.1))
line_fits counts (Reasons reason) judged end fits = verdict_fits (reason_type reason) counts (reason_members reason) judged (reason_fits reason fits)
line_fits counts (RefusesCapture fault) judged end fits = (refusal_printed fault fits).decimals
line_fits counts (Refuses refusal) judged end fits = refusal_fits refusal fits

-- ---- all lines

judged_least : (counts : Counts) (line : LineValue) → (counted_with counts line).judged < counts.judged + 2
judged_least counts (Opens session opening) = omega arith
judged_least counts (Answers answer) = omega arith
judged_least counts (Ends state disabled) = omega arith
judged_least counts (HasRoute destination path) = omega arith
judged_least counts (Reasons reason) = omega arith
judged_least counts (RefusesCapture fault) = omega arith
judged_least counts (Refuses refusal) = omega arith

end_least : (counts : Counts) (line : LineValue) → (counted_with counts line).end < counts.end + 2
end_least counts (Opens session opening) = omega arith
end_least counts (Answers answer) = omega arith
end_least counts (Ends state disabled) = omega arith
end_least counts (HasRoute destination path) = omega arith
end_least counts (Reasons reason) = omega arith
end_least counts (RefusesCapture fault) = omega arith
end_least counts (Refuses refusal) = omega arith

all_fit : (counts : Counts) (lines : List LineValue) → counts.judged + length lines < 2 ^ 64 → counts.end + length lines < 2 ^ 64 → All FitsLine lines
    → All HasNumbers (objects_from counts lines)
all_fit counts [] judged end all = All-nil HasNumbers
all_fit counts (line ∷ lines) judged end all =
    let next = counted_with counts line in
    let more = judged_least counts line in
    let last = end_least counts line in
    let few : next.judged + length lines < 2 ^ 64 = omega (arith, judged, more) in
    let ends : next.end + length lines < 2 ^ 64 = omega (arith, end, last) in
    let value = line_json next line in
    let has = has_numbers value (line_fits next line (omega (arith, few)) (omega (arith, ends)) (All-head FitsLine line lines all)) in
    All-cons HasNumbers value (objects_from next lines) has (all_fit next lines few ends (All-tail FitsLine line lines all))

pub have_numbers : LinesHaveNumbers
have_numbers lines few all = all_fit no_counts lines (omega (arith, few)) (omega (arith, few)) all
