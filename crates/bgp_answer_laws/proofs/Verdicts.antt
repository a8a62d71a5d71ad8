-- The lines of an end: its verdict's is an answer, and no other is; nor does one of them say what could
-- have come.
use Rattle.std.proofs.Common.{◌≡◌, ◌++◌, ◌+◌, ◌==◌, ◌&&◌, ℕ, Bool, true, false, List, [], ◌∷◌, Option, None, Some, codes, if◌then◌else◌, length, nat_lt, not, refl}
use Rattle.std.specs.Fmt.{decimal}
use Rattle.std.specs.List.{flat_map, list_any}
use Rattle.bgp_update.specs.declared.destination.Destination.{Destination}
use Rattle.bgp_path.specs.Path.{PathValue}
use Rattle.bgp_open.specs.declared.families.Families.{Families}
use Rattle.bgp_machine.specs.Run.{End}
use Rattle.bgp_machine.specs.State.{number_of}
use Rattle.bgp_machine.specs.declared.fsm.Fsm.{Fsm}
use Rattle.bgp_machine.specs.declared.fsm.Fsm.TheVariants as states
use Rattle.bgp_recording.specs.declared.framing.Rest.{Rest}
use Rattle.bgp_recording.specs.declared.framing.Rest.TheVariants.{BehindFault, Short}
use Rattle.bgp_recording.specs.declared.framing.Unshown.{Unshown}
use Rattle.bgp_names.specs.Families.{families_name}
use Rattle.bgp_names.specs.States.{state_name}
use Rattle.bgp_check.specs.declared.not_judged.NotJudged.{NotJudged}
use Rattle.bgp_check.specs.declared.not_judged.NotJudged.TheVariants as reasons
use Rattle.bgp_check.specs.declared.peer_as.PeerAs.{PeerAs}
use Rattle.bgp_check.specs.declared.peer_as.PeerAs.TheVariants as peers
use Rattle.bgp_why.specs.declared.endpoint.Endpoint.{Endpoint}
use Rattle.bgp_why.specs.declared.place.Place.{Place}
use Rattle.bgp_check_text.specs.End as ends_named
use Rattle.bgp_check_text.specs.End.{end_text, part_by, part_end_text, part_text}
use Rattle.bgp_check_text.specs.JudgeLine.{addresses_text, asked_text, choices_text, command_text, judge_line, needs_text, refresh_text}
use Rattle.bgp_check_text.specs.Reached.{ReachedValue}
use Rattle.bgp_check_text.specs.States.{after_text, all_routes, before_line, before_routes, counts_text, disabled_by, disabled_text, established_text, left_text, lower_text, never_text, or_count, or_state, route_line, routes_if, routes_text, state_line, state_routes, state_text, states_text, with_text}
use Rattle.bgp_check_text.specs.Tally.{has_trouble, last_text, tally_line}
use Rattle.bgp_check_text.specs.Text.{deed_if, no_line, not_judged_line, peer_text, place_when, unfinished_line, why_text, yes_line}
use Rattle.bgp_check_text.specs.Unshown.{behind_note, end_name, passed_note, passed_notes, rest_note, short_note, unshown_notes}
use Rattle.bgp_check_text.specs.declared.end.EndName.{EndName}
use Rattle.bgp_check_text.specs.declared.options.JudgeOptions.{JudgeOptions}
use Rattle.bgp_check_text.specs.declared.tally.Tally.{Tally}
use Rattle.bgp_check_lines.specs.Values.{all_orders_line, another_order_line, cut_short_line, in_made_order_line, late_line, no_record_line, nothing_at_line, one_order_line, open_line, unnamed_line, unnamed_text}
use Rattle.bgp_html.specs.Kinds.{kind_of}
use Rattle.bgp_html.specs.Taking.{HasNoEnd}
use Rattle.bgp_html.specs.declared.printed.Kind.TheVariants as kinds
use Rattle.bgp_visible_laws.proofs.Texts.{state_visible}
use Rattle.bgp_visible_laws.proofs.Visible.{neither, or_false}
use Rattle.bgp_why_laws.proofs.Parts.{families_visible}
use Rattle.bgp_check_laws.proofs.Commands.{command_visible}
use Rattle.bgp_answer_laws.specs.Answers.{Says}
use Rattle.bgp_answer_laws.proofs.Lines.{IsPlain, IsWhole, behind, both, ends, if_plain, none_both, nothing, says_aside, says_beside, says_nothing, word}
use Rattle.bgp_answer_laws.proofs.Plain.{plain}
use Rattle.bgp_answer_laws.proofs.Routes.{each, route_plain}
use Rattle.bgp_answer_laws.proofs.Times.{end, number, place, short, when}

-- ---- which end

as_plain : (its : Option ℕ) → IsPlain (ends_named.as_text its)
as_plain None = word (codes "AS unknown") refl
as_plain (Some n) = both (word (codes "AS ") refl) (number n)

part_plain : (part : ℕ × ℕ) → IsPlain (part_text part)
unfolding part_text
part_plain part = both (word (codes "records ") refl) (both (number part.0) (both (word (codes " to ") refl) (number part.1)))

part_by_plain : (part : Option (ℕ × ℕ)) → IsPlain (part_by part)
part_by_plain None = nothing
part_by_plain (Some part) = both (word (codes ", ") refl) (part_plain part)

pub name_plain : (name : EndName) → IsPlain (end_text name)
unfolding end_text
name_plain name = both (end name.end) (both (word (codes " (") refl) (both (as_plain name.as_number) (both (part_by_plain name.part) (word (codes ")") refl))))

-- ---- one that isn't judged

why_plain : (why : NotJudged) → IsPlain (why_text why)
why_plain reasons.NothingSent = word _ refl
why_plain reasons.ExtendedParameters = word _ refl
why_plain reasons.NoFamily = word _ refl
why_plain reasons.DynamicCapabilities = word _ refl
why_plain reasons.Confederations = word _ refl

pub not_judged_says : (name : EndName) (why : NotJudged) → Says (not_judged_line name why) []
unfolding not_judged_line
not_judged_says name why =
    says_aside kinds.NotJudged refl refl (not_judged_line name why)
    (behind (word (codes "not judged: ") refl) (behind (name_plain name) (behind (word (codes ": ") refl) (ends (why_plain why))))) refl

unnamed_plain : (its : Endpoint) (part : Option (ℕ × ℕ)) → IsPlain (unnamed_text its part)
unfolding part_end_text
unnamed_plain its None = end its
unnamed_plain its (Some part) = both (end its) (both (word (codes " (") refl) (both (part_plain part) (word (codes ")") refl)))

pub unnamed_says : (its : Endpoint) (part : Option (ℕ × ℕ)) (why : List ℕ) → IsPlain why → Says (unnamed_line its part why) []
unfolding unnamed_line
unnamed_says its part why is =
    says_aside kinds.NotJudged refl refl (unnamed_line its part why)
    (behind (word (codes "not judged: ") refl) (behind (unnamed_plain its part) (behind (word (codes ": ") refl) (ends is)))) refl

pub silent_plain : IsPlain (why_text reasons.NothingSent)
silent_plain = why_plain reasons.NothingSent

-- ---- a yes

disabled_plain : (v4 v6 : Bool) (names : List ℕ) → IsPlain names → IsPlain (disabled_by v4 v6 names)
unfolding with_text
disabled_plain false false names is = nothing
disabled_plain true v6 names is = both (word (codes " with ") refl) (both is (word (codes " disabled") refl))
disabled_plain false true names is = both (word (codes " with ") refl) (both is (word (codes " disabled") refl))

families_plain : (families : Families) → IsPlain (disabled_text families)
families_plain families = disabled_plain families.v4 families.v6 (families_name families) (plain (families_visible families))

established_plain : (disabled : Families) (count : ℕ) → IsPlain (established_text disabled count)
unfolding established_text
established_plain disabled count =
    both (word (codes "Established") refl) (both (families_plain disabled) (both (word (codes ", routes from its peer: ") refl) (number count)))

counts_plain : (counts : List ℕ) → IsPlain (counts_text counts)
counts_plain [] = nothing
counts_plain (count ∷ others) =
    both (word (codes ", routes from its peer before that: ") refl) (both (number count) (each or_count (λ n. both (word (codes " or ") refl) (number n)) others))

state_plain : (n : ℕ) → IsPlain (state_name n)
state_plain n = plain (state_visible n)

after_plain : (n highest : ℕ) → IsPlain (after_text n highest)
after_plain n highest = if_plain (nat_lt n highest) (codes " after " ++ state_name highest) [] (both (word (codes " after ") refl) (state_plain highest)) nothing

lower_plain : (n : ℕ) (reached : ReachedValue) → IsPlain (lower_text n reached)
unfolding left_text never_text
lower_plain n reached =
    if_plain (reached.highest == 6) (left_text n reached.counts) (never_text n reached.highest)
    (both (state_plain n) (both (word (codes " after Established") refl) (counts_plain reached.counts)))
    (both (state_plain n) (both (after_plain n reached.highest) (word (codes ", never Established") refl)))

end_plain : (reached : ReachedValue) (e : End) → IsPlain (state_text reached e)
end_plain reached e =
    if_plain (number_of e.fsm == 6) (established_text e.routes.disabled (length e.routes.entries)) (lower_text (number_of e.fsm) reached)
    (established_plain e.routes.disabled (length e.routes.entries)) (lower_plain (number_of e.fsm) reached)

ends_plain : (reached : ReachedValue) (its : List End) → IsPlain (states_text reached its)
ends_plain reached [] = nothing
ends_plain reached (e ∷ its) = both (end_plain reached e) (each (or_state reached) (λ e. both (word (codes ", or ") refl) (end_plain reached e)) its)

peer_plain : (peer : PeerAs) → IsPlain (peer_text peer)
peer_plain peers.Any = word (codes ", with no readable OPEN from its peer") refl
peer_plain (peers.Is n) = nothing
peer_plain (peers.OtherThan n) =
    both (word (codes ", if configured for a peer in another AS than ") refl) (both (number n) (if_plain (n == 23456) (codes " (AS_TRANS)") [] (word (codes " (AS_TRANS)") refl) nothing))

pub yes_whole : (name : EndName) (peer : PeerAs) (reached : ReachedValue) (its : List End) → IsWhole (yes_line name peer reached its)
unfolding yes_line
yes_whole name peer reached its =
    behind (word (codes "yes: ") refl) (behind (name_plain name) (behind (peer_plain peer) (behind (word (codes ": ") refl) (ends (ends_plain reached its)))))

pub yes_kind : (name : EndName) (peer : PeerAs) (reached : ReachedValue) (its : List End) → kind_of (yes_line name peer reached its) ≡ kinds.Yes
unfolding yes_line
yes_kind name peer reached its = refl

-- ---- routes

none_each : {X : Type 0} (text : X → List ℕ) → ((x : X) → Says (text x) []) → (xs : List X) → Says (flat_map text xs) []
none_each text says [] = says_nothing
none_each text says (x ∷ xs) = none_both (says x) (none_each text says xs)

route_says : (route : Destination × PathValue) → Says (route_line route) []
unfolding route_line
route_says route = says_beside (route_line route) (behind (word (codes "  route ") refl) (ends (route_plain route.0 route.1))) refl

routes_say : (e : End) → Says (routes_text e) []
routes_say e = none_each route_line route_says e.routes.entries

-- the line of a state begins with the state's name
lower_kind : (fsm : Fsm) (reached : ReachedValue) (established after : List ℕ) (above : Bool)
    → kind_of (codes "  " ++ ((if number_of fsm == 6 then codes "Established" ++ established
    else if above then state_name (number_of fsm) ++ (codes " after Established" ++ counts_text reached.counts)
    else state_name (number_of fsm) ++ (after_text (number_of fsm) reached.highest ++ codes ", never Established")) ++ after)) ≡ kinds.Beside
lower_kind states.Idle reached established after true = refl
lower_kind states.Connect reached established after true = refl
lower_kind states.Active reached established after true = refl
lower_kind states.OpenSent reached established after true = refl
lower_kind states.OpenConfirm reached established after true = refl
lower_kind states.Established reached established after true = refl
lower_kind states.Idle reached established after false = refl
lower_kind states.Connect reached established after false = refl
lower_kind states.Active reached established after false = refl
lower_kind states.OpenSent reached established after false = refl
lower_kind states.OpenConfirm reached established after false = refl
lower_kind states.Established reached established after false = refl

state_says : (reached : ReachedValue) (e : End) → Says (state_line reached e) []
unfolding state_line established_text left_text never_text
state_says reached e =
    says_beside (state_line reached e) (behind (word (codes "  ") refl) (ends (end_plain reached e)))
    (lower_kind e.fsm reached (disabled_text e.routes.disabled ++ (codes ", routes from its peer: " ++ decimal (length e.routes.entries))) (codes "\n") (reached.highest == 6))

before_says : (disabled : Families) (count : ℕ) → Says (before_line disabled count) []
unfolding before_line
before_says disabled count =
    says_beside (before_line disabled count)
    (behind (word (codes "  before that") refl) (behind (families_plain disabled) (behind (word (codes ", routes from its peer: ") refl) (ends (number count))))) refl

all_say : (reached : ReachedValue) (its : List End) → Says (all_routes reached its) []
all_say reached its =
    none_both (of_ends (length its == 1)) (none_each before_routes (λ e. none_both (before_says e.routes.disabled (length e.routes.entries)) (routes_say e)) reached.before)
  where
    of_ends : (alone : Bool) → Says (if alone then flat_map routes_text its else flat_map (state_routes reached) its) []
    of_ends true = none_each routes_text routes_say its
    of_ends false = none_each (state_routes reached) (λ e. none_both (state_says reached e) (routes_say e)) its

pub routes_if_say : (routes : Bool) (reached : ReachedValue) (its : List End) → Says (routes_if routes reached its) []
routes_if_say true reached its = all_say reached its
routes_if_say false reached its = says_nothing

-- ---- a no, and what is unfinished

when_plain : (its : Place) → IsPlain (place_when its)
unfolding place_when
when_plain its = both (place its) (both (word (codes ", ") refl) (both (when its.second its.micro) (word (codes " UTC: ") refl)))

deed_plain : (deed : List ℕ) → IsPlain deed → IsPlain (deed_if deed)
deed_plain [] is = nothing
deed_plain (x ∷ deed) is = both (word (codes " ") refl) is

pub no_whole : (its : Place) (name : EndName) (deed : List ℕ) → IsPlain deed → IsWhole (no_line its name deed)
unfolding no_line
no_whole its name deed is = behind (word (codes "no at ") refl) (behind (when_plain its) (behind (name_plain name) (ends (deed_plain deed is))))

pub no_kind : (its : Place) (name : EndName) (deed : List ℕ) → kind_of (no_line its name deed) ≡ kinds.No
unfolding no_line
no_kind its name deed = refl

pub unfinished_whole : (its : Place) (name : EndName) → IsWhole (unfinished_line its name)
unfolding unfinished_line
unfinished_whole its name =
    behind (word (codes "unfinished after ") refl) (behind (when_plain its) (behind (name_plain name) (ends (word (codes " has not done what is due") refl))))

pub unfinished_kind : (its : Place) (name : EndName) → kind_of (unfinished_line its name) ≡ kinds.Unfinished
unfolding unfinished_line
unfinished_kind its name = refl

-- ---- what is said beside

pub in_made_says : (first : ℕ) (deed : List ℕ) (its : Place) → IsPlain deed → Says (in_made_order_line first deed its) []
unfolding in_made_order_line
in_made_says first deed its is =
    says_beside (in_made_order_line first deed its)
    (behind (word (codes "  in the order of bgp import, ") refl) (behind (place its) (behind (word (codes ", ") refl)
    (behind (short first its.second its.micro) (behind (word (codes ": ") refl) (ends is)))))) refl

pub one_order_says : (count : ℕ) → Says (one_order_line count) []
unfolding one_order_line
one_order_says count =
    says_beside (one_order_line count)
    (behind (word (codes "  note: packets do not show when a router handled what it received, ") refl) (behind (word (codes "so this is one possible order") refl)
    (ends (if_plain (nat_lt 0 count) (codes "; messages delayed in it: " ++ decimal count) [] (both (word (codes "; messages delayed in it: ") refl) (number count)) nothing)))) refl

pub another_order_says : Says another_order_line []
unfolding another_order_line
another_order_says =
    says_beside another_order_line
    (behind (word (codes "  note: the order that bgp import makes is not a yes: ") refl) (ends (word (codes "another that these packets allow is") refl))) refl

pub all_orders_say : Says all_orders_line []
unfolding all_orders_line
all_orders_say =
    says_beside all_orders_line
    (behind (word (codes "  note: the order that bgp import makes is a no: ") refl) (ends (word (codes "over all that these packets allow it is unfinished") refl))) refl

pub late_says : (within : ℕ) (is_yes : Bool) → Says (late_line within is_yes) []
unfolding late_line
late_says within is_yes =
    says_beside (late_line within is_yes)
    (behind (word (codes "  note: a router that handles what it received more than ") refl) (behind (number within)
    (behind (word (codes " s late may do this: with --within 65535 the answer is ") refl)
    (ends (if_plain is_yes (codes "yes") (codes "unfinished") (word (codes "yes") refl) (word (codes "unfinished") refl)))))) refl

pub open_says : Says open_line []
unfolding open_line
open_says = says_beside open_line (ends (word (codes "  open at the end of the file") refl)) refl

if_says : (is_so : Bool) (text : List ℕ) → Says text [] → Says (if is_so then text else []) []
if_says true text says = says
if_says false text says = says_nothing

passed_says : (way : List ℕ) (count : ℕ) → IsPlain way → Says (passed_note way count) []
unfolding passed_note
passed_says way count is =
    if_says (nat_lt 0 count) _
    (says_beside (codes "  note: ROUTE-REFRESH messages " ++ (way ++ (codes ", not judged: " ++ (decimal count ++ codes "\n"))))
    (behind (word (codes "  note: ROUTE-REFRESH messages ") refl) (behind is (behind (word (codes ", not judged: ") refl) (ends (number count))))) refl)

short_says : (way : List ℕ) (count : ℕ) → IsPlain way → Says (short_note way count) []
unfolding short_note
short_says way count is =
    if_says (nat_lt 0 count) _
    (says_beside (codes "  note: octets " ++ (way ++ (codes " of an incomplete last message: " ++ (decimal count ++ codes "\n"))))
    (behind (word (codes "  note: octets ") refl) (behind is (behind (word (codes " of an incomplete last message: ") refl) (ends (number count))))) refl)

behind_says : (way : List ℕ) (at count : ℕ) (is_refresh : Bool) → IsPlain way → Says (behind_note way at count is_refresh) []
unfolding behind_note
behind_says way at count is_refresh is =
    if_says (nat_lt 0 count) _
    (says_beside (codes "  note: octets " ++ (way ++ (codes " after the " ++ (end_name is_refresh ++ (codes " at octet " ++ (decimal at ++ (codes ", not read: " ++ (decimal count ++ codes "\n"))))))))
    (behind (word (codes "  note: octets ") refl) (behind is (behind (word (codes " after the ") refl)
    (behind (if_plain is_refresh (codes "ROUTE-REFRESH") (codes "faulty header") (word (codes "ROUTE-REFRESH") refl) (word (codes "faulty header") refl))
    (behind (word (codes " at octet ") refl) (behind (number at) (behind (word (codes ", not read: ") refl) (ends (number count))))))))) refl)

rest_says : (way : List ℕ) (rest : Rest) → IsPlain way → Says (rest_note way rest) []
rest_says way (Short count) is = short_says way count is
rest_says way (BehindFault at count is_refresh) is = behind_says way at count is_refresh is

pub passed_say : (received sent : ℕ) → Says (passed_notes received sent) []
passed_say received sent = none_both (passed_says (codes "received") received (word (codes "received") refl)) (passed_says (codes "sent") sent (word (codes "sent") refl))

pub unshown_say : (received sent : Unshown) → Says (unshown_notes received sent) []
unshown_say received sent =
    none_both (passed_say received.passed_over sent.passed_over)
    (none_both (rest_says (codes "received") received.rest (word (codes "received") refl)) (rest_says (codes "sent") sent.rest (word (codes "sent") refl)))

-- ---- the command

first_part : (xs ys : List ℕ) → HasNoEnd (xs ++ ys) → HasNoEnd xs
first_part [] ys none = refl
first_part (x ∷ xs) ys none =
    let parts = neither (x == 10) (list_any (λ o. o == 10) (xs ++ ys)) none in
    or_false (x == 10) (list_any (λ o. o == 10) xs) parts.0 (first_part xs ys parts.1)

second_part : (xs ys : List ℕ) → HasNoEnd (xs ++ ys) → HasNoEnd ys
second_part [] ys none = none
second_part (x ∷ xs) ys none = second_part xs ys (neither (x == 10) (list_any (λ o. o == 10) (xs ++ ys)) none).1

-- text in front of other text that ends its line
spliced : (xs ys line : List ℕ) → IsPlain (xs ++ ys) → (IsPlain ys → IsWhole line) → IsWhole (xs ++ line)
spliced xs ys line is on = behind record { none = first_part xs ys is.none } (on record { none = second_part xs ys is.none })

pub judge_says : (options : JudgeOptions) → Says (judge_line options) []
unfolding judge_line command_text
judge_says options =
    let its : IsPlain (command_text options) = plain (command_visible options) in
    let refresh = refresh_text options in
    let asked = asked_text options.asked in
    let needs = needs_text options.config in
    let addresses = addresses_text options.config.parts.session in
    let choices = choices_text options.config in
    let behind_it : IsPlain (needs ++ (addresses ++ (choices ++ (refresh ++ asked)))) = record { none = second_part (codes "bgp judge") (needs ++ (addresses ++ (choices ++ (refresh ++ asked)))) its.none } in
    says_beside (judge_line options)
    (behind (word (codes "  repeat: bgp judge") refl)
    (spliced needs (addresses ++ (choices ++ (refresh ++ asked))) _ behind_it (λ a.
    spliced addresses (choices ++ (refresh ++ asked)) _ a (λ b.
    spliced choices (refresh ++ asked) _ b (λ c.
    spliced refresh asked _ c (λ d. behind d (ends (word (codes " FILE") refl)))))))) refl

-- ---- of a whole file

pub cut_short_says : (packet : ℕ) → Says (cut_short_line packet) []
unfolding cut_short_line
cut_short_says packet =
    says_aside kinds.Whole refl refl (cut_short_line packet) (behind (word (codes "note: the recording is cut short in packet ") refl) (ends (number packet))) refl

pub nothing_says : (port : ℕ) → Says (nothing_at_line port) []
unfolding nothing_at_line
nothing_says port =
    says_aside kinds.NotJudged refl refl (nothing_at_line port)
    (behind (word (codes "not judged: no connection at port ") refl) (behind (number port) (ends (word (codes " holds octets") refl)))) refl

pub no_record_says : Says no_record_line []
unfolding no_record_line
no_record_says = says_aside kinds.NotJudged refl refl no_record_line (ends (word (codes "not judged: no record of a session") refl)) refl

tally_says : (tally : Tally) → Says (tally_line tally) []
unfolding tally_line
tally_says tally =
    says_aside kinds.Totals refl refl (tally_line tally)
    (behind (word (codes "ends ") refl) (behind (number (tally.yes + tally.no + tally.unfinished + tally.not_judged)) (behind (word (codes ": ") refl)
    (behind (number tally.yes) (behind (word (codes " yes, ") refl) (behind (number tally.no) (behind (word (codes " no, ") refl) (behind (number tally.unfinished)
    (behind (word (codes " unfinished, ") refl) (behind (number tally.not_judged) (behind (word (codes " not judged; refused ") refl) (ends (number tally.refused))))))))))))) refl

pub last_says : (quiet : Bool) (tally : Tally) → Says (last_text quiet tally) []
last_says quiet tally = by (quiet && not (has_trouble tally))
  where
    by : (left_out : Bool) → Says (if left_out then [] else tally_line tally) []
    by true = says_nothing
    by false = tally_says tally
