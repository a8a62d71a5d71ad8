-- Lines of `check` in JSON have no control characters but the line feed at their end.
use Rattle.std.proofs.Common.{◌≡◌, ◌++◌, ◌+◌, ℕ, Bool, true, false, List, [], ◌∷◌, All, Option, codes, if◌then◌else◌, length, map, nat_lt, refl}
use Rattle.std.specs.Bool.{⊤}
use Rattle.std.proofs.lemmas.List.Elements.{All-append, All-cons, All-head, All-nil, All-tail}
use Rattle.json.specs.Json.{Json, string}
use Rattle.bgp_path.specs.Path.{PathValue}
use Rattle.bgp_update.specs.declared.destination.Destination.{Destination}
use Rattle.bgp_machine.specs.Run.{End}
use Rattle.bgp_check.specs.declared.not_judged.NotJudged.{NotJudged}
use Rattle.bgp_check.specs.declared.not_judged.NotJudged.TheVariants as unjudged
use Rattle.bgp_check.specs.declared.peer_as.PeerAs.{PeerAs}
use Rattle.bgp_ended.specs.Stretch.{EndedStretchValue}
use Rattle.bgp_why.specs.declared.endpoint.Endpoint.{Endpoint}
use Rattle.bgp_why.specs.declared.place.Place.{Place}
use Rattle.bgp_json.specs.Object.{json_line}
use Rattle.bgp_json_values.specs.Objects.{number_of}
use Rattle.bgp_json_verdicts.specs.At.{at_of, place_members}
use Rattle.bgp_json_verdicts.specs.Lines as verdicts
use Rattle.bgp_json_verdicts.specs.Objects as objects
use Rattle.bgp_json_verdicts.specs.Objects.{text_json}
use Rattle.bgp_json_verdicts.specs.RouteJson.{route_members}
use Rattle.bgp_json_check.specs.Members.{before_members, deed_members, disabled_members, end_members, flag_members, known_members, peer_members, reached_members}
use Rattle.bgp_json_check.specs.Objects.{before_end_members, before_json as before_objects, befores_json, end_json, ended_json, ending_members, in_made_members, judged_json, numbered_json, route_json, routes_json, unjudged_members, yes_json, yes_members}
use Rattle.bgp_json_check.specs.declared.member.JudgedEnd.{JudgedEnd}
use Rattle.bgp_list.specs.EndedJson.{how_members}
use Rattle.bgp_list.specs.JsonMembers.{endpoint_members}
use Rattle.bgp_check_text.specs.JudgeLine.{command_text}
use Rattle.bgp_check_text.specs.Reached.{ReachedValue}
use Rattle.bgp_check_text.specs.Text.{why_text}
use Rattle.bgp_check_text.specs.Unshown.{end_name}
use Rattle.bgp_check_text.specs.declared.end.EndName.{EndName}
use Rattle.bgp_check_text.specs.declared.tally.Tally.{Tally}
use Rattle.bgp_check_lines.specs.Values.{CheckValue, IsYes, IsNo, IsUnfinished, IsUnjudged, IsUnnamed, Explains, PassesOver, IsIncomplete, IsNotRead, InMadeOrder, OneOrder, AnotherOrder, AllOrders, IsLate, IsEnded, IsOpen, Repeats, Lists, HasSession, RefusesFile, RefusesCapture, IsCutShort, NothingAt, NoRecord, Counts as Counted, answer_json, counted_with, direction_member, if_some, judged_end, later_answer, objects_from, objects_of, place_of, tally_json, unnamed_end, value_objects}
use Rattle.bgp_list_laws.specs.Ranges.{IsHow}
use Rattle.bgp_list_laws.proofs.VisibleLists as lists
use Rattle.bgp_list_laws.proofs.VisibleMembers.{of_endpoint, of_how}
use Rattle.bgp_visible_laws.specs.Visible.{IsVisible, IsVisibleLine}
use Rattle.bgp_visible_laws.proofs.JsonLines.{line_of, refusal_texts, typed_texts}
use Rattle.bgp_visible_laws.proofs.JsonTexts.{AreTexts, HaveTexts, field, of_both, of_number, of_text}
use Rattle.bgp_visible_laws.proofs.Printed.{all_of}
use Rattle.bgp_visible_laws.proofs.Visible.{is_word, word}
use Rattle.bgp_why_laws.specs.Visible as reasons
use Rattle.bgp_why_laws.proofs.JsonLines.{either_visible, line_texts}
use Rattle.bgp_why_laws.proofs.JsonMembers.{of_given, of_place, with_state}
use Rattle.bgp_why_laws.proofs.JsonRoutes.{of_route}
use Rattle.bgp_check_laws.specs.Ranges.{IsLine, IsOfReason}
use Rattle.bgp_check_laws.specs.Visible.{HasVisibleTexts, IsPutLine, LinesAreVisible, OutputsAreVisible, PrintedIsVisible}
use Rattle.bgp_check_laws.proofs.Commands.{command_visible}
use Rattle.bgp_check_laws.proofs.VisibleMembers.{of_before, of_deed, of_disabled, of_end, of_flag, of_known, of_peer, of_reached, with_direction}

-- ---- objects with such texts

abbrev AllAreTexts : List Json → Type 0
AllAreTexts [] = ⊤
AllAreTexts (v ∷ vs) = AreTexts v × AllAreTexts vs

of_all : (vs ws : List Json) → AllAreTexts vs → AllAreTexts ws → AllAreTexts (vs ++ ws)
of_all [] ws first second = second
of_all (v ∷ vs) ws first second = (first.0, of_all vs ws first.1 second)

judged_texts : (kind : List ℕ) → is_word kind ≡ true → (judged : ℕ) (ms : List (List ℕ × Json)) → HaveTexts ms → AreTexts (judged_json kind judged ms)
judged_texts kind is judged ms each = typed_texts kind is ((codes "judged", number_of judged) ∷ ms) (field (codes "judged") refl (of_number judged) each)

module _ (judged : ℕ) where
  -- ---- a yes

  verdict_texts : (routes : Bool) (name : EndName) (peer : PeerAs) (reached : ReachedValue)
      → AreTexts (judged_json (codes "verdict") judged (yes_members (judged_end name) peer reached.highest reached.counts routes))
  verdict_texts routes name peer reached =
      let ends = end_members (judged_end name) in
      let peers = peer_members peer in
      let highest = reached_members reached.highest in
      let before = before_members reached.counts in
      let flag = flag_members (codes "with_routes") routes in
      judged_texts (codes "verdict") refl judged (yes_members (judged_end name) peer reached.highest reached.counts routes)
      (field (codes "answer") refl (of_text (word (codes "yes") refl))
      (of_both ends (peers ++ (highest ++ (before ++ flag))) (of_end (judged_end name))
      (of_both peers (highest ++ (before ++ flag)) (of_peer peer)
      (of_both highest (before ++ flag) (of_reached reached.highest)
      (of_both before flag (of_before reached.counts) (of_flag (codes "with_routes") refl routes))))))

  end_texts : (number : ℕ) (e : End) → AreTexts (judged_json (codes "end") judged (ending_members number e.fsm e.routes.disabled (length e.routes.entries)))
  end_texts number e =
      judged_texts (codes "end") refl judged (ending_members number e.fsm e.routes.disabled (length e.routes.entries))
      (field (codes "end") refl (of_number number)
      (with_state e.fsm (disabled_members e.routes.disabled ++ (codes "routes", number_of (length e.routes.entries)) ∷ [])
      (of_both (disabled_members e.routes.disabled) ((codes "routes", number_of (length e.routes.entries)) ∷ []) (of_disabled e.routes.disabled)
      (field (codes "routes") refl (of_number (length e.routes.entries)) tt))))

  before_texts : (number : ℕ) (e : End) → AreTexts (judged_json (codes "end_before") judged (before_end_members number e.routes.disabled (length e.routes.entries)))
  before_texts number e =
      judged_texts (codes "end_before") refl judged (before_end_members number e.routes.disabled (length e.routes.entries))
      (field (codes "end") refl (of_number number)
      (of_both (disabled_members e.routes.disabled) ((codes "routes", number_of (length e.routes.entries)) ∷ []) (of_disabled e.routes.disabled)
      (field (codes "routes") refl (of_number (length e.routes.entries)) tt)))

  routes_texts : (kind : List ℕ) → is_word kind ≡ true → (number : ℕ) (routes : List (Destination × PathValue)) → AllAreTexts (map (route_json kind judged number) routes)
  routes_texts kind is number [] = tt
  routes_texts kind is number (r ∷ routes) = (
    judged_texts kind is judged ((codes "end", number_of number) ∷ route_members r.0 r.1) (field (codes "end") refl (of_number number) (of_route r.0 r.1)),
    routes_texts kind is number routes,
  )

  asked_texts : (asked : Bool) (number : ℕ) (routes : List (Destination × PathValue)) → AllAreTexts (routes_json asked (codes "route") judged number routes)
  asked_texts true number routes = routes_texts (codes "route") refl number routes
  asked_texts false number routes = tt

  ends_texts : (routes : Bool) (number : ℕ) (ends : List End) → AllAreTexts (numbered_json (end_json routes judged) number ends)
  ends_texts routes number [] = tt
  ends_texts routes number (e ∷ ends) =
      of_all (end_json routes judged number e) (numbered_json (end_json routes judged) (number + 1) ends)
      (end_texts number e, asked_texts routes number e.routes.entries) (ends_texts routes (number + 1) ends)

  all_before_texts : (number : ℕ) (before : List End) → AllAreTexts (numbered_json (before_objects true judged) number before)
  all_before_texts number [] = tt
  all_before_texts number (e ∷ before) =
      of_all (before_objects true judged number e) (numbered_json (before_objects true judged) (number + 1) before)
      (before_texts number e, routes_texts (codes "route_before") refl number e.routes.entries) (all_before_texts (number + 1) before)

  befores_texts : (routes : Bool) (before : List End) → AllAreTexts (befores_json routes judged before)
  befores_texts true before = all_before_texts 1 before
  befores_texts false before = tt

  yes_texts : (routes : Bool) (name : EndName) (peer : PeerAs) (reached : ReachedValue) (ends : List End)
      → AllAreTexts (yes_json routes judged (judged_end name) peer reached.highest reached.counts ends reached.before)
  yes_texts routes name peer reached ends = (
    verdict_texts routes name peer reached,
    of_all (numbered_json (end_json routes judged) 1 ends) (befores_json routes judged reached.before) (ends_texts routes 1 ends) (befores_texts routes reached.before),
  )

  -- ---- the other verdicts

  no_texts : (place : Place) (name : EndName) (deed : List ℕ) → IsVisible deed
      → AreTexts (answer_json judged (codes "no") (known_members place ++ (end_members (judged_end name) ++ deed_members deed)))
  no_texts place name deed visible =
      let ends = end_members (judged_end name) in
      judged_texts (codes "verdict") refl judged ((codes "answer", string (codes "no")) ∷ (known_members place ++ (ends ++ deed_members deed)))
      (field (codes "answer") refl (of_text (word (codes "no") refl))
      (of_both (known_members place) (ends ++ deed_members deed) (of_known place)
      (of_both ends (deed_members deed) (of_end (judged_end name)) (of_deed deed visible))))

  unfinished_texts : (place : Place) (name : EndName) → AreTexts (answer_json judged (codes "unfinished") (known_members place ++ end_members (judged_end name)))
  unfinished_texts place name =
      let ends = end_members (judged_end name) in
      judged_texts (codes "verdict") refl judged ((codes "answer", string (codes "unfinished")) ∷ (known_members place ++ ends))
      (field (codes "answer") refl (of_text (word (codes "unfinished") refl)) (of_both (known_members place) ends (of_known place) (of_end (judged_end name))))

  unjudged_texts : (end : JudgedEnd) (is_left_out : Bool) (why : List ℕ) → IsVisible why → AreTexts (judged_json (codes "verdict") judged (unjudged_members end is_left_out why))
  unjudged_texts end is_left_out why visible =
      let flag = flag_members (codes "as_left_out") is_left_out in
      let last : List (List ℕ × Json) = (codes "why", string why) ∷ [] in
      judged_texts (codes "verdict") refl judged (unjudged_members end is_left_out why)
      (field (codes "answer") refl (of_text (word (codes "not judged") refl))
      (of_both (end_members end) (flag ++ last) (of_end end)
      (of_both flag last (of_flag (codes "as_left_out") refl is_left_out) (field (codes "why") refl (of_text visible) tt))))

  why_word : (why : NotJudged) → is_word (why_text why) ≡ true
  why_word unjudged.NothingSent = refl
  why_word unjudged.ExtendedParameters = refl
  why_word unjudged.NoFamily = refl
  why_word unjudged.DynamicCapabilities = refl
  why_word unjudged.Confederations = refl

  -- ---- what is said beside them

  if_texts : (count : ℕ) (value : Json) → AreTexts value → AllAreTexts (if_some count value)
  if_texts count value is = by (nat_lt 0 count) where
    by : (b : Bool) → AllAreTexts (if b then value ∷ [] else [])
    by true = (is, tt)
    by false = tt

  fault_word : (is_refresh : Bool) → is_word (end_name is_refresh) ≡ true
  fault_word true = refl
  fault_word false = refl

  answer_word : (is_yes : Bool) → is_word (later_answer is_yes) ≡ true
  answer_word true = refl
  answer_word false = refl

  in_made_texts : (first : ℕ) (deed : List ℕ) (place : Place) → IsVisible deed → AreTexts (judged_json (codes "in_made_order") judged (in_made_members (at_of first place) deed))
  in_made_texts first deed place visible =
      let flag = flag_members (codes "dated") (at_of first place).is_dated in
      let last : List (List ℕ × Json) = (codes "deed", text_json deed) ∷ [] in
      judged_texts (codes "in_made_order") refl judged (in_made_members (at_of first place) deed)
      (of_both (known_members place) (flag ++ last) (of_known place)
      (of_both flag last (of_flag (codes "dated") refl (at_of first place).is_dated) (field (codes "deed") refl (of_given deed visible) tt)))

  ended_texts : (first number : ℕ) (micro : Option ℕ) (by : Endpoint) (ended : EndedStretchValue) → IsHow ended.how
      → AreTexts (ended_json judged (at_of first (place_of number micro ended)) by ended.how)
  ended_texts first number micro by ended is =
      let at = at_of first (place_of number micro ended) in
      let flag = flag_members (codes "dated") at.is_dated in
      let ends = endpoint_members (codes "by") (codes "by_port") by in
      judged_texts (codes "ended") refl judged (place_members at.place ++ (flag ++ (ends ++ how_members ended.how)))
      (of_both (place_members at.place) (flag ++ (ends ++ how_members ended.how)) (of_place at.place)
      (of_both flag (ends ++ how_members ended.how) (of_flag (codes "dated") refl at.is_dated)
      (of_both ends (how_members ended.how) (of_endpoint (codes "by") (codes "by_port") refl refl by) (of_how ended.how is))))

  -- ---- a reason

  of_line : (line : verdicts.LineValue) (lines : List verdicts.LineValue) → IsOfReason line → reasons.HasVisibleTexts line
      → AllAreTexts (objects.objects_from (objects.counts_behind judged) lines) → AllAreTexts (objects.objects_from (objects.counts_behind judged) (line ∷ lines))
  of_line (verdicts.Opens session opening) lines is visible rest = absurd is
  of_line (verdicts.Answers answer) lines is visible rest = absurd is
  of_line (verdicts.Ends state disabled) lines is visible rest = absurd is
  of_line (verdicts.HasRoute destination path) lines is visible rest = absurd is
  of_line (verdicts.Reasons reason) lines is visible rest =
      (line_texts (objects.counts_behind judged) (verdicts.Reasons reason) record { determined = is.0; visible = visible }, rest)
  of_line (verdicts.RefusesCapture fault) lines is visible rest = absurd is
  of_line (verdicts.Refuses refusal) lines is visible rest = absurd is

  explained_texts : (lines : List verdicts.LineValue) → All IsOfReason lines → All reasons.HasVisibleTexts lines
      → AllAreTexts (objects.objects_from (objects.counts_behind judged) lines)
  explained_texts [] are visible = tt
  explained_texts (line ∷ lines) are visible =
      of_line line lines (All-head IsOfReason line lines are) (All-head reasons.HasVisibleTexts line lines visible)
      (explained_texts lines (All-tail IsOfReason line lines are) (All-tail reasons.HasVisibleTexts line lines visible))

-- ---- the whole file

tally_texts : (tally : Tally) → AreTexts (tally_json tally)
tally_texts tally =
    typed_texts (codes "summary") refl
    ((codes "ends", number_of (tally.yes + tally.no + tally.unfinished + tally.not_judged)) ∷ (codes "yes", number_of tally.yes) ∷ (codes "no", number_of tally.no)
    ∷ (codes "unfinished", number_of tally.unfinished) ∷ (codes "not_judged", number_of tally.not_judged) ∷ (codes "refused", number_of tally.refused) ∷ [])
    (field (codes "ends") refl (of_number (tally.yes + tally.no + tally.unfinished + tally.not_judged)) (field (codes "yes") refl (of_number tally.yes)
    (field (codes "no") refl (of_number tally.no) (field (codes "unfinished") refl (of_number tally.unfinished)
    (field (codes "not_judged") refl (of_number tally.not_judged) (field (codes "refused") refl (of_number tally.refused) tt))))))

-- ---- each line

each_texts : (judged : ℕ) (line : CheckValue) → IsLine line → HasVisibleTexts line → AllAreTexts (value_objects judged line)
each_texts judged (IsYes routes name peer reached ends) is visible = yes_texts judged routes name peer reached ends
each_texts judged (IsNo place name deed) is visible = (no_texts judged place name deed visible, tt)
each_texts judged (IsUnfinished place name) is visible = (unfinished_texts judged place name, tt)
each_texts judged (IsUnjudged name why) is visible = (unjudged_texts judged (judged_end name) false (why_text why) (word (why_text why) (why_word judged why)), tt)
each_texts judged (IsUnnamed end part why) is visible = (unjudged_texts judged (unnamed_end end part) true why visible, tt)
each_texts judged (Explains lines) is visible = explained_texts judged lines is visible
each_texts judged (PassesOver direction count) is visible =
    let last : List (List ℕ × Json) = (codes "count", number_of count) ∷ [] in
    if_texts judged count (judged_json (codes "refresh_not_judged") judged (direction_member direction ∷ last))
    (judged_texts (codes "refresh_not_judged") refl judged (direction_member direction ∷ last) (with_direction direction last (field (codes "count") refl (of_number count) tt)))
each_texts judged (IsIncomplete direction count) is visible =
    let last : List (List ℕ × Json) = (codes "octets", number_of count) ∷ [] in
    if_texts judged count (judged_json (codes "incomplete") judged (direction_member direction ∷ last))
    (judged_texts (codes "incomplete") refl judged (direction_member direction ∷ last) (with_direction direction last (field (codes "octets") refl (of_number count) tt)))
each_texts judged (IsNotRead direction at count is_refresh) is visible =
    let last : List (List ℕ × Json) = (codes "behind", string (end_name is_refresh)) ∷ (codes "at", number_of at) ∷ (codes "octets", number_of count) ∷ [] in
    if_texts judged count (judged_json (codes "not_read") judged (direction_member direction ∷ last))
    (judged_texts (codes "not_read") refl judged (direction_member direction ∷ last)
    (with_direction direction last (field (codes "behind") refl (of_text (word (end_name is_refresh) (fault_word judged is_refresh)))
    (field (codes "at") refl (of_number at) (field (codes "octets") refl (of_number count) tt)))))
each_texts judged (InMadeOrder first deed place) is visible = (in_made_texts judged first deed place visible, tt)
each_texts judged (OneOrder count) is visible = (judged_texts (codes "one_order") refl judged ((codes "delayed", number_of count) ∷ []) (field (codes "delayed") refl (of_number count) tt), tt)
each_texts judged AnotherOrder is visible = (judged_texts (codes "another_order") refl judged [] tt, tt)
each_texts judged AllOrders is visible = (judged_texts (codes "all_orders") refl judged [] tt, tt)
each_texts judged (IsLate within is_yes) is visible = (
  judged_texts (codes "late") refl judged ((codes "within", number_of within) ∷ (codes "answer", string (later_answer is_yes)) ∷ [])
      (field (codes "within") refl (of_number within) (field (codes "answer") refl (of_text (word (later_answer is_yes) (answer_word judged is_yes))) tt)),
  tt,
)
each_texts judged (IsEnded first number micro by ended) is visible = (ended_texts judged first number micro by ended is.3, tt)
each_texts judged IsOpen is visible = (judged_texts (codes "open_at_end") refl judged [] tt, tt)
each_texts judged (Repeats options) is visible = (
  judged_texts (codes "repeat") refl judged ((codes "command", text_json (command_text options)) ∷ [])
      (field (codes "command") refl (of_given (command_text options) (command_visible options)) tt),
  tt,
)
each_texts judged (Lists line) is visible = (lists.line_texts line is, tt)
each_texts judged (HasSession addresses named) is visible = (lists.session_texts addresses named, tt)
each_texts judged (RefusesFile refusal) is visible = (lists.refused_texts refusal, tt)
each_texts judged (RefusesCapture fault) is visible = (refusal_texts fault, tt)
each_texts judged (IsCutShort packet) is visible = (typed_texts (codes "cut_short") refl ((codes "packet", number_of packet) ∷ []) (field (codes "packet") refl (of_number packet) tt), tt)
each_texts judged (NothingAt port) is visible = (typed_texts (codes "nothing") refl ((codes "port", number_of port) ∷ []) (field (codes "port") refl (of_number port) tt), tt)
each_texts judged NoRecord is visible = (typed_texts (codes "nothing") refl [] tt, tt)
each_texts judged (Counted tally) is visible = (tally_texts tally, tt)

-- ---- laws

abbrev IsShown : Json → Type 0
IsShown value = IsVisibleLine (json_line value)

all_shown : (values : List Json) → AllAreTexts values → All IsShown values
all_shown [] are = All-nil IsShown
all_shown (v ∷ values) are = All-cons IsShown v values (line_of v _ refl are.0) (all_shown values are.1)

each_shown : (judged : ℕ) (line : CheckValue) → IsPutLine line → All IsShown (value_objects judged line)
each_shown judged line is = all_shown (value_objects judged line) (each_texts judged line is.determined is.visible)

pub lines_visible : LinesAreVisible
lines_visible judged line is = all_of json_line (value_objects judged line) (each_shown judged line is)

those_shown : (judged : ℕ) (lines : List CheckValue) → All IsPutLine lines → All IsShown (objects_from judged lines)
those_shown judged [] all = All-nil IsShown
those_shown judged (line ∷ lines) all =
    let next = counted_with judged line in
    All-append IsShown (value_objects next line) (objects_from next lines) (each_shown next line (All-head IsPutLine line lines all))
    (those_shown next lines (All-tail IsPutLine line lines all))

pub outputs_visible : OutputsAreVisible
outputs_visible lines all = all_of json_line (objects_of lines) (those_shown 0 lines all)

pub printed_visible : PrintedIsVisible
printed_visible text printed code status told all = either_visible (objects_of told.values) printed code status (those_shown 0 told.values all) told.told
