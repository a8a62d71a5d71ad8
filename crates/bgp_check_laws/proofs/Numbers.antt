-- The objects of lines can be read from their lines: their numbers are in decimal, and they nest less
-- deep than a reader of JSON goes.
use Rattle.std.proofs.Common.{◌++◌, ◌+◌, ◌<◌, ◌^◌, ℕ, Bool, true, false, List, [], ◌∷◌, All, Option, None, Some, codes, length, map, nat_lt, arith, if◌then◌else◌}
use Rattle.std.specs.Bool.{⊤}
use Rattle.std.proofs.lemmas.List.Elements.{All-head, All-tail}
use Rattle.json.specs.Json.{Json, string}
use Rattle.bgp_path.specs.Path.{PathValue}
use Rattle.bgp_update.specs.declared.destination.Destination.{Destination}
use Rattle.bgp_open.specs.declared.families.Families.{Families}
use Rattle.bgp_machine.specs.Run.{End}
use Rattle.bgp_check.specs.declared.peer_as.PeerAs.{PeerAs}
use Rattle.bgp_check.specs.declared.peer_as.PeerAs.TheVariants as peers
use Rattle.bgp_ended.specs.Stretch.{EndedStretchValue}
use Rattle.bgp_why.specs.declared.endpoint.Endpoint.{Endpoint}
use Rattle.bgp_why.specs.declared.place.Place.{Place}
use Rattle.bgp_json.specs.Object.{typed}
use Rattle.bgp_json_values.specs.Objects.{array_of, number_of}
use Rattle.bgp_json_values.specs.Times.{time_members}
use Rattle.bgp_json_values.proofs.Depths.{AreWithin, both_within}
use Rattle.bgp_json_verdicts.specs.At.{at_of, place_members}
use Rattle.bgp_json_verdicts.specs.At.{number_members as some_number}
use Rattle.bgp_json_verdicts.specs.Lines as verdicts
use Rattle.bgp_json_verdicts.specs.Objects as objects
use Rattle.bgp_json_verdicts.specs.Objects.{family_texts, text_json}
use Rattle.bgp_json_verdicts.proofs.Shallow.{line_shallow, shallow}
use Rattle.bgp_json_check.specs.Members.{before_members, deed_members, disabled_members, end_members, flag_members, known_members, part_members, peer_members, record_members}
use Rattle.bgp_json_check.specs.Objects.{before_end_members, before_json as before_objects, befores_json, end_json, ended_json, ending_members, in_made_members, judged_json, numbered_json, route_json, routes_json, unjudged_members, yes_json, yes_members}
use Rattle.bgp_json_check.specs.declared.member.JudgedEnd.{JudgedEnd}
use Rattle.bgp_json_check.proofs.Shallow.{before_within, deed_within, disabled_within, end_within, ended_shallow, flag_within, known_within, peer_within, route_shallow}
use Rattle.bgp_list.specs.EndedJson.{how_members}
use Rattle.bgp_list.specs.JsonMembers.{endpoint_members, number_members}
use Rattle.bgp_check_text.specs.JudgeLine.{command_text}
use Rattle.bgp_check_text.specs.Reached.{ReachedValue}
use Rattle.bgp_check_text.specs.Unshown.{end_name}
use Rattle.bgp_check_text.specs.declared.end.EndName.{EndName}
use Rattle.bgp_check_text.specs.declared.tally.Tally.{Tally}
use Rattle.bgp_check_lines.specs.Values.{CheckValue, IsYes, IsNo, IsUnfinished, IsUnjudged, IsUnnamed, Explains, PassesOver, IsIncomplete, IsNotRead, InMadeOrder, OneOrder, AnotherOrder, AllOrders, IsLate, IsEnded, IsOpen, Repeats, Lists, HasSession, RefusesFile, RefusesCapture, IsCutShort, NothingAt, NoRecord, Counts as Counted, counted_with, direction_member, if_some, judged_end, later_answer, objects_from, place_of, tally_json, unnamed_end, value_objects}
use Rattle.bgp_json_laws.proofs.Captures.{refusal_printed}
use Rattle.bgp_json_laws.proofs.Decimals.{HasDecimals, HaveDecimals, of_array, of_both, of_number, of_texts}
use Rattle.bgp_json_laws.proofs.Printing.{IsPrinted}
use Rattle.bgp_verdict_laws.specs.Numbers.{Fits, FitsIfAny, FitsPlace}
use Rattle.bgp_verdict_laws.proofs.Numbers.{line_fits, place_fits}
use Rattle.bgp_list_laws.specs.Ranges.{IsHow}
use Rattle.bgp_list_laws.proofs.Numbers.{endpoint_fits, how_fits, line_printed, number_fits, pair_fits, refused_printed, time_fits, typed_fits}
use Rattle.bgp_list_laws.proofs.Sessions.{session_printed}
use Rattle.bgp_check_laws.specs.Ranges.{AreEndings, FitsPart, FitsPeer, IsEnding, IsLine, IsName, IsOfReason, IsReached, IsRoute, IsTally}

-- ---- objects that can be read

abbrev pub ArePrinted : List Json → Type 0
ArePrinted [] = ⊤
ArePrinted (v ∷ vs) = IsPrinted v × ArePrinted vs

pub both_printed : (vs ws : List Json) → ArePrinted vs → ArePrinted ws → ArePrinted (vs ++ ws)
both_printed [] ws first second = second
both_printed (v ∷ vs) ws first second = (first.0, both_printed vs ws first.1 second)

judged_printed : (kind : List ℕ) (judged : ℕ) (ms : List (List ℕ × Json)) → Fits judged → HaveDecimals ms → AreWithin 6 ms → IsPrinted (judged_json kind judged ms)
judged_printed kind judged ms fits have within = record {
  decimals = typed_fits kind ((codes "judged", number_of judged) ∷ ms) (of_number judged fits, have);
  shallow = shallow kind ((codes "judged", number_of judged) ∷ ms) (omega arith, within);
}

plain_printed : (kind : List ℕ) (ms : List (List ℕ × Json)) → HaveDecimals ms → AreWithin 6 ms → IsPrinted (typed kind ms)
plain_printed kind ms have within = record { decimals = typed_fits kind ms have; shallow = shallow kind ms within }

-- ---- members

flag_fits : (key : List ℕ) (is : Bool) → HaveDecimals (flag_members key is)
flag_fits key true = (tt, tt)
flag_fits key false = tt

record_fits : (number : ℕ) → Fits number → HaveDecimals (record_members number)
record_fits number fits = by (nat_lt 0 number) where
  by : (b : Bool) → HaveDecimals (if b then (codes "record", number_of number) ∷ [] else [])
  by true = (of_number number fits, tt)
  by false = tt

packet_fits : (packet : Option ℕ) → FitsIfAny packet → HaveDecimals (some_number (codes "packet") packet)
packet_fits None fits = tt
packet_fits (Some packet) fits = (of_number packet fits, tt)

known_fits : (place : Place) → FitsPlace place → HaveDecimals (known_members place)
known_fits place fits =
    let packet = some_number (codes "packet") place.packet in
    let time = time_members place.second place.micro in
    of_both (record_members place.number) (packet ++ time) (record_fits place.number fits.0)
    (of_both packet time (packet_fits place.packet fits.1) (time_fits place.second place.micro fits.2))

part_fits : (part : Option (ℕ × ℕ)) → FitsPart part → HaveDecimals (part_members part)
part_fits None fits = tt
part_fits (Some part) fits = (pair_fits part.0 part.1 fits.0 fits.1, tt)

end_fits : (name : JudgedEnd) → FitsIfAny name.end.port → FitsIfAny name.as_number → FitsPart name.part → HaveDecimals (end_members name)
end_fits name port number part =
    let ends = endpoint_members (codes "address") (codes "port") name.end in
    let numbers = number_members (codes "as") name.as_number in
    of_both ends (numbers ++ part_members name.part) (endpoint_fits (codes "address") (codes "port") name.end port)
    (of_both numbers (part_members name.part) (number_fits (codes "as") name.as_number number) (part_fits name.part part))

named_fits : (name : EndName) → IsName name → HaveDecimals (end_members (judged_end name))
named_fits name is = end_fits (judged_end name) is.port is.as_number is.part

peer_fits : (peer : PeerAs) → FitsPeer peer → HaveDecimals (peer_members peer)
peer_fits peers.Any fits = tt
peer_fits (peers.Is number) fits = (of_number number fits, tt)
peer_fits (peers.OtherThan number) fits = (of_number number fits, tt)

deed_fits : (deed : List ℕ) → HaveDecimals (deed_members deed)
deed_fits [] = tt
deed_fits (x ∷ deed) = (tt, tt)

before_fits : (counts : List ℕ) → All Fits counts → HaveDecimals (before_members counts)
before_fits [] all = tt
before_fits (count ∷ counts) all = (of_array number_of Fits of_number (count ∷ counts) all, tt)

disabled_fits : (families : Families) → HasDecimals (array_of string (family_texts families))
disabled_fits families = of_texts string (λ t. tt) (family_texts families)

-- ---- a yes

module _ (judged : ℕ) (small : Fits judged) where
  verdict_printed : (routes : Bool) (name : EndName) (peer : PeerAs) (reached : ReachedValue) → IsName name → FitsPeer peer → IsReached reached
      → IsPrinted (judged_json (codes "verdict") judged (yes_members (judged_end name) peer reached.highest reached.counts routes))
  verdict_printed routes name peer reached is fits so_far =
      let ends = end_members (judged_end name) in
      let peers = peer_members peer in
      let before = before_members reached.counts in
      let flag = flag_members (codes "with_routes") routes in
      judged_printed (codes "verdict") judged (yes_members (judged_end name) peer reached.highest reached.counts routes) small
      (tt, of_both ends _ (named_fits name is) (of_both peers _ (peer_fits peer fits) (tt, of_both before flag (before_fits reached.counts so_far.counts) (flag_fits (codes "with_routes") routes)))) (
        omega arith,
        both_within 6 ends _ (end_within (judged_end name)) (both_within 6 peers _ (peer_within peer)
            (omega arith, both_within 6 before flag (before_within reached.counts) (flag_within (codes "with_routes") routes))),
      )

  end_printed : (number : ℕ) (e : End) → Fits number → IsEnding e
      → IsPrinted (judged_json (codes "end") judged (ending_members number e.fsm e.routes.disabled (length e.routes.entries)))
  end_printed number e fits is =
      judged_printed (codes "end") judged (ending_members number e.fsm e.routes.disabled (length e.routes.entries)) small (of_number number fits, (tt, (disabled_fits e.routes.disabled, (of_number (length e.routes.entries) is.count, tt))))
      (omega arith, (omega arith, both_within 6 (disabled_members e.routes.disabled) ((codes "routes", number_of (length e.routes.entries)) ∷ []) (disabled_within e.routes.disabled) (omega arith, tt)))

  before_printed : (number : ℕ) (e : End) → Fits number → IsEnding e
      → IsPrinted (judged_json (codes "end_before") judged (before_end_members number e.routes.disabled (length e.routes.entries)))
  before_printed number e fits is =
      judged_printed (codes "end_before") judged (before_end_members number e.routes.disabled (length e.routes.entries)) small (of_number number fits, (disabled_fits e.routes.disabled, (of_number (length e.routes.entries) is.count, tt)))
      (omega arith, both_within 6 (disabled_members e.routes.disabled) ((codes "routes", number_of (length e.routes.entries)) ∷ []) (disabled_within e.routes.disabled) (omega arith, tt))

  route_decimals : (number : ℕ) (r : Destination × PathValue) → Fits number → IsRoute r → HasDecimals (route_json (codes "route") judged number r)
  route_decimals number r fits is =
      line_fits record { judged = judged; end = number } (verdicts.HasRoute r.0 r.1) small fits (is.path_id, is.numbers)

  routes_printed : (number : ℕ) (routes : List (Destination × PathValue)) → Fits number → All IsRoute routes → ArePrinted (map (route_json (codes "route") judged number) routes)
  routes_printed number [] fits all = tt
  routes_printed number (r ∷ routes) fits all = (
    record {
      decimals = route_decimals number r fits (All-head IsRoute r routes all);
      shallow = route_shallow (codes "route") judged number r.0 r.1;
    },
    routes_printed number routes fits (All-tail IsRoute r routes all),
  )

  before_routes_printed : (number : ℕ) (routes : List (Destination × PathValue)) → Fits number → All IsRoute routes
      → ArePrinted (map (route_json (codes "route_before") judged number) routes)
  before_routes_printed number [] fits all = tt
  before_routes_printed number (r ∷ routes) fits all = (
    record {
      decimals = route_decimals number r fits (All-head IsRoute r routes all);
      shallow = route_shallow (codes "route_before") judged number r.0 r.1;
    },
    before_routes_printed number routes fits (All-tail IsRoute r routes all),
  )

  asked_printed : (asked : Bool) (number : ℕ) (routes : List (Destination × PathValue)) → Fits number → All IsRoute routes
      → ArePrinted (routes_json asked (codes "route") judged number routes)
  asked_printed true number routes fits all = routes_printed number routes fits all
  asked_printed false number routes fits all = tt

  ends_printed : (routes : Bool) (number : ℕ) (ends : List End) → number + length ends < 2 ^ 64 + 1 → All IsEnding ends
      → ArePrinted (numbered_json (end_json routes judged) number ends)
  ends_printed routes number [] few all = tt
  ends_printed routes number (e ∷ ends) few all =
      let one = All-head IsEnding e ends all in
      let fits : Fits number = omega (arith, few) in
      both_printed (end_json routes judged number e) (numbered_json (end_json routes judged) (number + 1) ends)
      (end_printed number e fits one, asked_printed routes number e.routes.entries fits one.routes)
      (ends_printed routes (number + 1) ends (omega (arith, few)) (All-tail IsEnding e ends all))

  all_before_printed : (number : ℕ) (before : List End) → number + length before < 2 ^ 64 + 1 → All IsEnding before
      → ArePrinted (numbered_json (before_objects true judged) number before)
  all_before_printed number [] few all = tt
  all_before_printed number (e ∷ before) few all =
      let one = All-head IsEnding e before all in
      let fits : Fits number = omega (arith, few) in
      both_printed (before_objects true judged number e) (numbered_json (before_objects true judged) (number + 1) before)
      (before_printed number e fits one, before_routes_printed number e.routes.entries fits one.routes)
      (all_before_printed (number + 1) before (omega (arith, few)) (All-tail IsEnding e before all))

  befores_printed : (routes : Bool) (before : List End) → AreEndings before → ArePrinted (befores_json routes judged before)
  befores_printed true before are = let few = are.count in all_before_printed 1 before (omega (arith, few)) are.each
  befores_printed false before are = tt

  yes_printed : (routes : Bool) (name : EndName) (peer : PeerAs) (reached : ReachedValue) (ends : List End) → IsName name → FitsPeer peer → IsReached reached → AreEndings ends
      → ArePrinted (yes_json routes judged (judged_end name) peer reached.highest reached.counts ends reached.before)
  yes_printed routes name peer reached ends is fits so_far are =
      let few = are.count in (
        verdict_printed routes name peer reached is fits so_far,
        both_printed (numbered_json (end_json routes judged) 1 ends) (befores_json routes judged reached.before)
            (ends_printed routes 1 ends (omega (arith, few)) are.each) (befores_printed routes reached.before so_far.before),
      )

  -- ---- the other verdicts

  no_printed : (place : Place) (name : EndName) (deed : List ℕ) → FitsPlace place → IsName name
      → IsPrinted (judged_json (codes "verdict") judged ((codes "answer", string (codes "no")) ∷ (known_members place ++ (end_members (judged_end name) ++ deed_members deed))))
  no_printed place name deed fits is =
      let ends = end_members (judged_end name) in
      judged_printed (codes "verdict") judged ((codes "answer", string (codes "no")) ∷ (known_members place ++ (ends ++ deed_members deed))) small
      (tt, of_both (known_members place) (ends ++ deed_members deed) (known_fits place fits) (of_both ends (deed_members deed) (named_fits name is) (deed_fits deed)))
      (omega arith, both_within 6 (known_members place) (ends ++ deed_members deed) (known_within place) (both_within 6 ends (deed_members deed) (end_within (judged_end name)) (deed_within deed)))

  unfinished_printed : (place : Place) (name : EndName) → FitsPlace place → IsName name
      → IsPrinted (judged_json (codes "verdict") judged ((codes "answer", string (codes "unfinished")) ∷ (known_members place ++ end_members (judged_end name))))
  unfinished_printed place name fits is =
      let ends = end_members (judged_end name) in
      judged_printed (codes "verdict") judged ((codes "answer", string (codes "unfinished")) ∷ (known_members place ++ ends)) small
      (tt, of_both (known_members place) ends (known_fits place fits) (named_fits name is))
      (omega arith, both_within 6 (known_members place) ends (known_within place) (end_within (judged_end name)))

  unjudged_printed : (end : JudgedEnd) (is_left_out : Bool) (why : List ℕ) → FitsIfAny end.end.port → FitsIfAny end.as_number → FitsPart end.part
      → IsPrinted (judged_json (codes "verdict") judged (unjudged_members end is_left_out why))
  unjudged_printed end is_left_out why port number part =
      let flag = flag_members (codes "as_left_out") is_left_out in
      let last : List (List ℕ × Json) = (codes "why", string why) ∷ [] in
      judged_printed (codes "verdict") judged (unjudged_members end is_left_out why) small
      (tt, of_both (end_members end) (flag ++ last) (end_fits end port number part) (of_both flag last (flag_fits (codes "as_left_out") is_left_out) (tt, tt)))
      (omega arith, both_within 6 (end_members end) (flag ++ last) (end_within end) (both_within 6 flag last (flag_within (codes "as_left_out") is_left_out) (omega arith, tt)))

  -- ---- what is said beside them

  if_printed : (count : ℕ) (json : Json) → IsPrinted json → ArePrinted (if_some count json)
  if_printed count json is = by (nat_lt 0 count) where
    by : (b : Bool) → ArePrinted (if b then json ∷ [] else [])
    by true = (is, tt)
    by false = tt

  in_made_printed : (first : ℕ) (deed : List ℕ) (place : Place) → FitsPlace place → IsPrinted (judged_json (codes "in_made_order") judged (in_made_members (at_of first place) deed))
  in_made_printed first deed place fits =
      let flag = flag_members (codes "dated") (at_of first place).is_dated in
      let last : List (List ℕ × Json) = (codes "deed", text_json deed) ∷ [] in
      judged_printed (codes "in_made_order") judged (in_made_members (at_of first place) deed) small
      (of_both (known_members place) (flag ++ last) (known_fits place fits) (of_both flag last (flag_fits (codes "dated") (at_of first place).is_dated) (tt, tt)))
      (both_within 6 (known_members place) (flag ++ last) (known_within place) (both_within 6 flag last (flag_within (codes "dated") (at_of first place).is_dated) (omega arith, tt)))

  ended_printed : (first number : ℕ) (micro : Option ℕ) (by : Endpoint) (ended : EndedStretchValue) → Fits number → Fits ended.second → FitsIfAny by.port → IsHow ended.how
      → IsPrinted (ended_json judged (at_of first (place_of number micro ended)) by ended.how)
  ended_printed first number micro by ended fits second port is =
      let at = at_of first (place_of number micro ended) in
      let flag = flag_members (codes "dated") at.is_dated in
      let ends = endpoint_members (codes "by") (codes "by_port") by in
      record {
        decimals = typed_fits (codes "ended") ((codes "judged", number_of judged) ∷ (place_members at.place ++ (flag ++ (ends ++ how_members ended.how)))) (
          of_number judged small,
          of_both (place_members at.place) (flag ++ (ends ++ how_members ended.how)) (place_fits at.place (fits, tt, second))
              (of_both flag (ends ++ how_members ended.how) (flag_fits (codes "dated") at.is_dated)
              (of_both ends (how_members ended.how) (endpoint_fits (codes "by") (codes "by_port") by port) (how_fits ended.how is))),
        );
        shallow = ended_shallow judged at by ended.how;
      }

  -- ---- a reason

  of_line : (line : verdicts.LineValue) (lines : List verdicts.LineValue) → IsOfReason line → ArePrinted (objects.objects_from (objects.counts_behind judged) lines)
      → ArePrinted (objects.objects_from (objects.counts_behind judged) (line ∷ lines))
  of_line (verdicts.Opens session opening) lines is rest = absurd is
  of_line (verdicts.Answers answer) lines is rest = absurd is
  of_line (verdicts.Ends state disabled) lines is rest = absurd is
  of_line (verdicts.HasRoute destination path) lines is rest = absurd is
  of_line (verdicts.Reasons reason) lines is rest =
      let counts = objects.counts_behind judged in (
        record {
          decimals = line_fits counts (verdicts.Reasons reason) small (omega arith) is.1;
          shallow = line_shallow counts (verdicts.Reasons reason);
        },
        rest,
      )
  of_line (verdicts.RefusesCapture fault) lines is rest = absurd is
  of_line (verdicts.Refuses refusal) lines is rest = absurd is

  explained_printed : (lines : List verdicts.LineValue) → All IsOfReason lines → ArePrinted (objects.objects_from (objects.counts_behind judged) lines)
  explained_printed [] are = tt
  explained_printed (line ∷ lines) are =
      of_line line lines (All-head IsOfReason line lines are) (explained_printed lines (All-tail IsOfReason line lines are))

-- ---- the whole file

tally_printed : (tally : Tally) → IsTally tally → IsPrinted (tally_json tally)
tally_printed tally is =
    let ends = is.ends in
    plain_printed (codes "summary") ((codes "ends", number_of (tally.yes + tally.no + tally.unfinished + tally.not_judged)) ∷ (codes "yes", number_of tally.yes) ∷ (codes "no", number_of tally.no) ∷ (codes "unfinished", number_of tally.unfinished) ∷ (codes "not_judged", number_of tally.not_judged) ∷ (codes "refused", number_of tally.refused) ∷ []) (
      of_number (tally.yes + tally.no + tally.unfinished + tally.not_judged) is.ends,
      (
        of_number tally.yes (omega (arith, ends)),
        (
          of_number tally.no (omega (arith, ends)),
          (of_number tally.unfinished (omega (arith, ends)), (of_number tally.not_judged (omega (arith, ends)), (of_number tally.refused is.refused, tt))),
        ),
      ),
    )
    (omega arith, (omega arith, (omega arith, (omega arith, (omega arith, (omega arith, tt))))))

-- ---- each line

each_printed : (judged : ℕ) (line : CheckValue) → Fits judged → IsLine line → ArePrinted (value_objects judged line)
each_printed judged (IsYes routes name peer reached ends) small is = yes_printed judged small routes name peer reached ends is.0 is.1 is.2 is.3
each_printed judged (IsNo place name deed) small is = (no_printed judged small place name deed is.0 is.1, tt)
each_printed judged (IsUnfinished place name) small is = (unfinished_printed judged small place name is.0 is.1, tt)
each_printed judged (IsUnjudged name why) small is = (unjudged_printed judged small (judged_end name) false _ is.port is.as_number is.part, tt)
each_printed judged (IsUnnamed end part why) small is = (unjudged_printed judged small (unnamed_end end part) true why is.0 tt is.1, tt)
each_printed judged (Explains lines) small is = explained_printed judged small lines is
each_printed judged (PassesOver direction count) small is =
    if_printed judged small count _ (judged_printed (codes "refresh_not_judged") judged (direction_member direction ∷ (codes "count", number_of count) ∷ []) small (tt, (of_number count is, tt)) (omega arith, (omega arith, tt)))
each_printed judged (IsIncomplete direction count) small is =
    if_printed judged small count _ (judged_printed (codes "incomplete") judged (direction_member direction ∷ (codes "octets", number_of count) ∷ []) small (tt, (of_number count is, tt)) (omega arith, (omega arith, tt)))
each_printed judged (IsNotRead direction at count is_refresh) small is =
    if_printed judged small count _ (judged_printed (codes "not_read") judged (direction_member direction ∷ (codes "behind", string (end_name is_refresh)) ∷ (codes "at", number_of at) ∷ (codes "octets", number_of count) ∷ []) small (tt, (tt, (of_number at is.0, (of_number count is.1, tt))))
    (omega arith, (omega arith, (omega arith, (omega arith, tt)))))
each_printed judged (InMadeOrder first deed place) small is = (in_made_printed judged small first deed place is.0, tt)
each_printed judged (OneOrder count) small is = (judged_printed (codes "one_order") judged ((codes "delayed", number_of count) ∷ []) small (of_number count is, tt) (omega arith, tt), tt)
each_printed judged AnotherOrder small is = (judged_printed (codes "another_order") judged [] small tt tt, tt)
each_printed judged AllOrders small is = (judged_printed (codes "all_orders") judged [] small tt tt, tt)
each_printed judged (IsLate within is_yes) small is = (judged_printed (codes "late") judged ((codes "within", number_of within) ∷ (codes "answer", string (later_answer is_yes)) ∷ []) small (of_number within is, (tt, tt)) (omega arith, (omega arith, tt)), tt)
each_printed judged (IsEnded first number micro by ended) small is = (ended_printed judged small first number micro by ended is.0 is.1 is.2 is.3, tt)
each_printed judged IsOpen small is = (judged_printed (codes "open_at_end") judged [] small tt tt, tt)
each_printed judged (Repeats options) small is = (judged_printed (codes "repeat") judged ((codes "command", text_json (command_text options)) ∷ []) small (tt, tt) (omega arith, tt), tt)
each_printed judged (Lists line) small is = (line_printed line is, tt)
each_printed judged (HasSession addresses named) small is = (session_printed addresses named is, tt)
each_printed judged (RefusesFile refusal) small is = (refused_printed refusal is, tt)
each_printed judged (RefusesCapture fault) small is = (refusal_printed fault is, tt)
each_printed judged (IsCutShort packet) small is = (plain_printed (codes "cut_short") ((codes "packet", number_of packet) ∷ []) (of_number packet is, tt) (omega arith, tt), tt)
each_printed judged (NothingAt port) small is = (plain_printed (codes "nothing") ((codes "port", number_of port) ∷ []) (of_number port is, tt) (omega arith, tt), tt)
each_printed judged NoRecord small is = (plain_printed (codes "nothing") [] tt tt, tt)
each_printed judged (Counted tally) small is = (tally_printed tally is, tt)

-- ---- all lines

one_more : (judged : ℕ) (line : CheckValue) → counted_with judged line < judged + 2
one_more judged (IsYes routes name peer reached ends) = omega arith
one_more judged (IsNo place name deed) = omega arith
one_more judged (IsUnfinished place name) = omega arith
one_more judged (IsUnjudged name why) = omega arith
one_more judged (IsUnnamed end part why) = omega arith
one_more judged (Explains lines) = omega arith
one_more judged (PassesOver direction count) = omega arith
one_more judged (IsIncomplete direction count) = omega arith
one_more judged (IsNotRead direction at count is_refresh) = omega arith
one_more judged (InMadeOrder first deed place) = omega arith
one_more judged (OneOrder count) = omega arith
one_more judged AnotherOrder = omega arith
one_more judged AllOrders = omega arith
one_more judged (IsLate within is_yes) = omega arith
one_more judged (IsEnded first number micro by ended) = omega arith
one_more judged IsOpen = omega arith
one_more judged (Repeats options) = omega arith
one_more judged (Lists line) = omega arith
one_more judged (HasSession addresses named) = omega arith
one_more judged (RefusesFile refusal) = omega arith
one_more judged (RefusesCapture fault) = omega arith
one_more judged (IsCutShort packet) = omega arith
one_more judged (NothingAt port) = omega arith
one_more judged NoRecord = omega arith
one_more judged (Counted tally) = omega arith

pub all_printed : (judged : ℕ) (lines : List CheckValue) → judged + length lines < 2 ^ 64 → All IsLine lines → ArePrinted (objects_from judged lines)
all_printed judged [] few all = tt
all_printed judged (line ∷ lines) few all =
    let next = counted_with judged line in
    let more = one_more judged line in
    let rest : next + length lines < 2 ^ 64 = omega (arith, few, more) in
    both_printed (value_objects next line) (objects_from next lines) (each_printed next line (omega (arith, rest)) (All-head IsLine line lines all))
    (all_printed next lines rest (All-tail IsLine line lines all))
