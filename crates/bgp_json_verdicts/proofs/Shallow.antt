-- The objects of lines nest less deep than a reader of JSON goes.
use Rattle.std.proofs.Common.{◌≤◌, ◌++◌, ℕ, Bool, true, false, List, [], ◌∷◌, Option, None, Some, arith, codes, drop, if◌then◌else◌, length}
use Rattle.std.specs.Prelude.{nat_lt}
use Rattle.std.proofs.Math.Nat.{le-max_left, le-max_right, max-le}
use Rattle.json.specs.Json.{Json, boolean, max_depth, string}
use Rattle.json.specs.Tree as tree
use Rattle.json.specs.Tree.{depth}
use Rattle.bgp_prefix.specs.declared.session.Session.{Session}
use Rattle.mrt.specs.declared.record.Endpoints.{Endpoints}
use Rattle.segments.specs.declared.found.Endpoint.{Endpoint}
use Rattle.streams.specs.declared.connection.Opening.{Opening}
use Rattle.bgp_import.specs.ListText.{end_of, other_side}
use Rattle.bgp_import.specs.Refusals.{refusal_name, refusal_number, refusal_packet}
use Rattle.bgp_import.specs.declared.refusal.Refusal.{Refusal}
use Rattle.bgp_open.specs.declared.families.Families.{Families}
use Rattle.bgp_machine.specs.declared.fsm.Fsm.{Fsm}
use Rattle.bgp_path.specs.AsPath.{PathSegment}
use Rattle.bgp_path.specs.Path.{PathValue}
use Rattle.bgp_path.specs.declared.as_path.SegmentKind.{SegmentKind}
use Rattle.bgp_path.specs.declared.as_path.SegmentKind.TheVariants.{Set, Sequence}
use Rattle.bgp_path.specs.declared.path.Aggregator.{Aggregator}
use Rattle.bgp_update.specs.declared.destination.Destination.{Destination}
use Rattle.bgp_why.specs.declared.place.Place.{Place}
use Rattle.bgp_tool.specs.Object.{typed}
use Rattle.bgp_tool.proofs.Shallow.{capture_shallow, recording_shallow}
use Rattle.bgp_json_values.proofs.Depths.{AreWithin, array_depth, both_within, object_depth, time_within}
use Rattle.bgp_json_values.specs.Objects.{in_array, number_of}
use Rattle.bgp_json_values.specs.RoutesJson.{hop_addresses}
use Rattle.bgp_json_values.specs.Texts.{address_json}
use Rattle.bgp_json_values.specs.Times.{time_members}
use Rattle.bgp_json_verdicts.specs.At.{at_members, dated_members, number_members, place_members, since_members}
use Rattle.bgp_json_verdicts.specs.Lines.{LineValue, Opens, Answers, Ends, HasRoute, Reasons, RefusesCapture, Refuses, ReasonValue, TheRecord, TheMessage, TheData, IsUnfit, AnotherAs, TheState, LastReceived, Possible, InAnotherOrder, OtherOrdersUnknown, SentAlready, Note, Records, Ignored, OtherSessions, OtherKinds}
use Rattle.bgp_json_verdicts.specs.Objects.{answer_members, end_at, end_members, family_texts, first_members, flag_members, item_members, line_json, octet_of, of_end, of_verdict, opening_members, reason_members, reason_type, refusal_json, skipped_members, text_behind, text_json}
use Rattle.bgp_json_verdicts.specs.RouteJson.{aggregator_members, community_json, community_members, destination_members, extended_json, kind_values, large_json, list_members, mandatory_members, member_if, path_members, path_values, reflection_members, route_members, router_json, router_members, single_members}
use Rattle.bgp_json_verdicts.specs.declared.answer.Answer.{Answer}
use Rattle.bgp_json_verdicts.specs.declared.answer.Answer.TheVariants as answers
use Rattle.bgp_json_verdicts.specs.declared.at.At.{At}
use Rattle.bgp_json_verdicts.specs.declared.telling.Counts.{Counts}

pub shallow : (kind : List ℕ) (members : List (List ℕ × Json)) → AreWithin 6 members → depth (typed kind members) ≤ max_depth
shallow kind members each =
    let d = object_depth 6 ((codes "type", string kind) ∷ members) (omega arith, each) in omega (arith, d)

verdict_shallow : (kind : List ℕ) (counts : Counts) (members : List (List ℕ × Json)) → AreWithin 6 members → depth (of_verdict kind counts members) ≤ max_depth
verdict_shallow kind counts members each = shallow kind ((codes "judged", number_of counts.judged) ∷ members) (omega arith, each)

end_shallow : (kind : List ℕ) (counts : Counts) (members : List (List ℕ × Json)) → AreWithin 6 members → depth (of_end kind counts members) ≤ max_depth
end_shallow kind counts members each = verdict_shallow kind counts ((codes "end", number_of counts.end) ∷ members) (omega arith, each)

-- ---- members

pub number_within : (name : List ℕ) (number : Option ℕ) → AreWithin 6 (number_members name number)
number_within name None = tt
number_within name (Some number) = (omega arith, tt)

pub place_within : (place : Place) → AreWithin 6 (place_members place)
place_within place =
    (omega arith, both_within 6 (number_members (codes "packet") place.packet) (time_members place.second place.micro) (number_within (codes "packet") place.packet) (time_within 6 place.second place.micro))

dated_within : (is_dated : Bool) → AreWithin 6 (dated_members is_dated)
dated_within true = (omega arith, tt)
dated_within false = tt

at_within : (at : At) → AreWithin 6 (at_members at)
at_within at = both_within 6 (place_members at.place) (dated_members at.is_dated) (place_within at.place) (dated_within at.is_dated)

since_within : (since : Option At) → AreWithin 6 (since_members since)
since_within None = tt
since_within (Some at) = at_within at

if_within : (is_so : Bool) (members : List (List ℕ × Json)) → AreWithin 6 members → AreWithin 6 (if is_so then members else [])
if_within true members each = each
if_within false members each = tt

behind_within : (count : ℕ) (name text : List ℕ) → AreWithin 6 (text_behind count name text)
behind_within count name text = if_within (nat_lt count (length text)) ((name, text_json (drop count text)) ∷ []) (omega arith, tt)

answer_within : (answer : Answer) → AreWithin 6 (answer_members answer)
answer_within answers.Yes = (omega arith, tt)
answer_within (answers.NoAt number) = (omega arith, (omega arith, tt))
answer_within (answers.NoAtPacket packet) = (omega arith, (omega arith, tt))
answer_within answers.Unfinished = (omega arith, tt)

end_within : (state : Fsm) (disabled : Families) → AreWithin 6 (end_members state disabled)
end_within state disabled =
    let d = array_depth 0 string (family_texts disabled) (λ t. omega arith) in (omega arith, (omega (arith, d), tt))

first_within : (first : Option Endpoints) → AreWithin 6 (first_members first)
first_within None = tt
first_within (Some ends) =
    let d = object_depth 0 ((codes "peer", address_json ends.peer) ∷ (codes "local", address_json ends.local) ∷ []) (omega arith, (omega arith, tt)) in (omega (arith, d), tt)

pub reason_within : (reason : ReasonValue) → AreWithin 6 (reason_members reason)
reason_within (TheRecord place local deed) =
    both_within 6 (place_members place) ((codes "address", address_json local) ∷ (codes "deed", text_json deed) ∷ []) (place_within place) (omega arith, (omega arith, tt))
reason_within (TheMessage text) = (omega arith, tt)
reason_within (TheData text) = (omega arith, tt)
reason_within (IsUnfit why) = (omega arith, tt)
reason_within (AnotherAs number) = (omega arith, tt)
reason_within (TheState state since) = (omega arith, since_within since)
reason_within (LastReceived at name asked) =
    both_within 6 (at_members at) ((codes "message", text_json name) ∷ text_behind 2 (codes "asked") asked) (at_within at) (omega arith, behind_within 2 (codes "asked") asked)
reason_within (Possible is_owed is_next is_first item but) =
    both_within 6 (flag_members is_owed is_next is_first) (item_members item but) (omega arith, (omega arith, (omega arith, tt))) (omega arith, behind_within 2 (codes "but") but)
reason_within (InAnotherOrder item) = (omega arith, tt)
reason_within OtherOrdersUnknown = tt
reason_within (SentAlready code subcode at) = both_within 6 (at_members at) _ (at_within at) (omega arith, (omega arith, (omega arith, tt)))
reason_within (Note text) = (omega arith, tt)
reason_within (Records received sent changes) = (omega arith, (omega arith, (omega arith, (omega arith, tt))))
reason_within (Ignored count) = (omega arith, tt)
reason_within (OtherSessions count first) = both_within 6 (skipped_members (codes "sessions") count) (first_members first) (omega arith, (omega arith, tt)) (first_within first)
reason_within (OtherKinds count) = (omega arith, (omega arith, tt))

-- ---- routes

kind_depth : (kind : SegmentKind) (numbers : List ℕ) → tree.items_depth (in_array (kind_values kind numbers)) ≤ 1
kind_depth Sequence [] = omega arith
kind_depth Sequence (number ∷ numbers) = max-le (let e : depth (number_of number) ≤ 1 = omega arith in e) (kind_depth Sequence numbers)
kind_depth Set numbers = max-le (array_depth 0 number_of numbers (λ n. omega arith)) (let e : 0 ≤ 1 = omega arith in e)

both_depth : (n : ℕ) (xs ys : List Json) → tree.items_depth (in_array xs) ≤ n → tree.items_depth (in_array ys) ≤ n → tree.items_depth (in_array (xs ++ ys)) ≤ n
both_depth n [] ys first second = second
both_depth n (x ∷ xs) ys first second =
    let a = le-max_left (depth x) (tree.items_depth (in_array xs)) in
    let b = le-max_right (depth x) (tree.items_depth (in_array xs)) in
    max-le (omega (arith, a, first)) (both_depth n xs ys (omega (arith, b, first)) second)

segments_depth : (segments : List PathSegment) → tree.items_depth (in_array (path_values segments)) ≤ 1
segments_depth [] = omega arith
segments_depth (s ∷ segments) = both_depth 1 (kind_values s.kind s.numbers) (path_values segments) (kind_depth s.kind s.numbers) (segments_depth segments)

list_within : {X : Type 0} (name : List ℕ) (json : X → Json) (xs : List X) → ((x : X) → depth (json x) ≤ 0) → AreWithin 6 (list_members name json xs)
list_within name json [] each = tt
list_within name json (x ∷ xs) each = let d = array_depth 0 json (x ∷ xs) each in (omega (arith, d), tt)

router_within : (name : List ℕ) (router : Option ℕ) → AreWithin 6 (router_members name router)
router_within name None = tt
router_within name (Some number) = (omega arith, tt)

aggregator_within : (aggregator : Option Aggregator) → AreWithin 6 (aggregator_members aggregator)
aggregator_within None = tt
aggregator_within (Some a) =
    let d = object_depth 0 ((codes "as", number_of a.as_number) ∷ (codes "address", router_json a.address) ∷ []) (omega arith, (omega arith, tt)) in (omega (arith, d), tt)

mandatory_within : (p : PathValue) → AreWithin 6 (mandatory_members p)
mandatory_within p =
    let hop = array_depth 0 address_json (hop_addresses p.next_hop) (λ a. omega arith) in
    let path = segments_depth p.as_path in (omega (arith, hop), (omega (arith, path), (omega arith, tt)))

single_within : (p : PathValue) → AreWithin 6 (single_members p)
single_within p =
    both_within 6 (number_members (codes "med") p.multi_exit_disc) _ (number_within (codes "med") p.multi_exit_disc)
    (both_within 6 (number_members (codes "pref") p.local_pref) _ (number_within (codes "pref") p.local_pref)
    (both_within 6 (member_if p.atomic_aggregate (codes "atomic") (boolean true)) (aggregator_members p.aggregator)
    (if_within p.atomic_aggregate ((codes "atomic", boolean true) ∷ []) (omega arith, tt)) (aggregator_within p.aggregator)))

communities_within : (p : PathValue) → AreWithin 6 (community_members p)
communities_within p =
    both_within 6 (list_members (codes "communities") community_json p.communities) _ (list_within (codes "communities") community_json p.communities (λ v. omega arith))
    (both_within 6 (list_members (codes "extended") extended_json p.extended_communities) (list_members (codes "large") large_json p.large_communities)
    (list_within (codes "extended") extended_json p.extended_communities (λ v. omega arith)) (list_within (codes "large") large_json p.large_communities (λ v. omega arith)))

reflection_within : (p : PathValue) → AreWithin 6 (reflection_members p)
reflection_within p =
    both_within 6 (router_members (codes "originator") p.originator_id) (list_members (codes "clusters") router_json p.cluster_list)
    (router_within (codes "originator") p.originator_id) (list_within (codes "clusters") router_json p.cluster_list (λ v. omega arith))

path_within : (p : PathValue) → AreWithin 6 (path_members p)
path_within p =
    both_within 6 (mandatory_members p) _ (mandatory_within p)
    (both_within 6 (single_members p) _ (single_within p) (both_within 6 (community_members p) (reflection_members p) (communities_within p) (reflection_within p)))

pub route_within : (destination : Destination) (p : PathValue) → AreWithin 6 (route_members destination p)
route_within destination p =
    both_within 6 (destination_members destination) (path_members p) (omega arith, number_within (codes "path_id") destination.path) (path_within p)

-- ---- lines

ends_within : (name port_name : List ℕ) (end : Endpoint) → AreWithin 6 (end_at name port_name end)
ends_within name port_name end = (omega arith, (omega arith, tt))

opening_within : (session : Session) (opening : Opening) → AreWithin 6 (opening_members session opening)
opening_within session opening =
    let from = end_of opening.opened_by session opening in
    let to = end_of (other_side opening.opened_by) session opening in
    let time = time_members opening.second opening.micro in (
      omega arith,
      both_within 6 (end_at (codes "from") (codes "from_port") from) (end_at (codes "to") (codes "to_port") to ++ time) (ends_within (codes "from") (codes "from_port") from)
          (both_within 6 (end_at (codes "to") (codes "to_port") to) time (ends_within (codes "to") (codes "to_port") to) (time_within 6 opening.second opening.micro)),
    )

pub refusal_shallow : (refusal : Refusal) → depth (refusal_json refusal) ≤ max_depth
refusal_shallow refusal = recording_shallow (refusal_number refusal) (refusal_name refusal) (refusal_packet refusal) (octet_of refusal)

opening_shallow : (counts : Counts) (session : Session) (opening : Opening) → depth (line_json counts (Opens session opening)) ≤ max_depth
opening_shallow counts session opening = shallow (codes "connection") (opening_members session opening) (opening_within session opening)

answer_shallow : (counts : Counts) (answer : Answer) → depth (line_json counts (Answers answer)) ≤ max_depth
answer_shallow counts answer = verdict_shallow (codes "verdict") counts (answer_members answer) (answer_within answer)

ends_shallow : (counts : Counts) (state : Fsm) (disabled : Families) → depth (line_json counts (Ends state disabled)) ≤ max_depth
ends_shallow counts state disabled = end_shallow (codes "end") counts (end_members state disabled) (end_within state disabled)

route_shallow : (counts : Counts) (destination : Destination) (p : PathValue) → depth (line_json counts (HasRoute destination p)) ≤ max_depth
route_shallow counts destination p = end_shallow (codes "route") counts (route_members destination p) (route_within destination p)

reason_shallow : (counts : Counts) (reason : ReasonValue) → depth (line_json counts (Reasons reason)) ≤ max_depth
reason_shallow counts reason = verdict_shallow (reason_type reason) counts (reason_members reason) (reason_within reason)

pub line_shallow : (counts : Counts) (line : LineValue) → depth (line_json counts line) ≤ max_depth
line_shallow counts (Opens session opening) = opening_shallow counts session opening
line_shallow counts (Answers answer) = answer_shallow counts answer
line_shallow counts (Ends state disabled) = ends_shallow counts state disabled
line_shallow counts (HasRoute destination p) = route_shallow counts destination p
line_shallow counts (Reasons reason) = reason_shallow counts reason
line_shallow counts (RefusesCapture fault) = capture_shallow fault
line_shallow counts (Refuses refusal) = refusal_shallow refusal
