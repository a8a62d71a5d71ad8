-- The objects of lines. Those of a verdict have its number among the output's.
use Rattle.std.specs.Prelude.{◌++◌, ◌+◌, ℕ, Bool, true, false, List, [], ◌∷◌, codes, length, map}
use Rattle.json.specs.Json.{Json, string}
use Rattle.bgp_path.specs.Path.{PathValue}
use Rattle.bgp_update.specs.declared.destination.Destination.{Destination}
use Rattle.bgp_machine.specs.Run.{End}
use Rattle.bgp_machine.specs.declared.fsm.Fsm.{Fsm}
use Rattle.bgp_open.specs.declared.families.Families.{Families}
use Rattle.bgp_list.specs.PeerAs.{PeerAs}
use Rattle.bgp_json.specs.Object.{typed}
use Rattle.bgp_json_values.specs.Objects.{number_of}
use Rattle.bgp_json_verdicts.specs.At.{place_members}
use Rattle.bgp_json_verdicts.specs.Objects.{state_member, text_json}
use Rattle.bgp_json_verdicts.specs.RouteJson.{route_members}
use Rattle.bgp_json_verdicts.specs.declared.at.At.{At}
use Rattle.bgp_list.specs.Values.{HowValue}
use Rattle.bgp_list.specs.EndedJson.{how_members}
use Rattle.bgp_list.specs.JsonMembers.{endpoint_members}
use Rattle.bgp_why.specs.declared.endpoint.Endpoint.{Endpoint}
use Rattle.bgp_json_check.specs.Members.{before_members, deed_members, direction_word}
use Rattle.bgp_json_check.specs.Members.{disabled_members, end_members, flag_members}
use Rattle.bgp_json_check.specs.Members.{known_members}
use Rattle.bgp_json_check.specs.Members.{peer_members, reached_members}
use Rattle.bgp_json_check.specs.declared.member.JudgedEnd.{JudgedEnd}
use Rattle.bgp_json_check.specs.declared.objects.CheckDetail.{CheckDetail}
use Rattle.bgp_json_check.specs.declared.objects.CheckDetail.TheVariants as details
use Rattle.bgp_json_check.specs.declared.objects.CheckTotal.{CheckTotal}
use Rattle.bgp_json_check.specs.declared.objects.CheckTotal.TheVariants as totals
use Rattle.bgp_json_check.specs.declared.objects.CheckVerdict.{CheckVerdict}
use Rattle.bgp_json_check.specs.declared.objects.CheckVerdict.TheVariants as verdicts
use Rattle.bgp_json_check.specs.declared.objects.Summary.{Summary}

-- of a verdict
abbrev pub judged_json : List ℕ → ℕ → List (List ℕ × Json) → Json
judged_json kind judged members = typed kind ((codes "judged", number_of judged) ∷ members)

-- ---- what is answered of an end

-- a yes, and whether routes are asked for
abbrev pub yes_members : JudgedEnd → PeerAs → ℕ → List ℕ → Bool → List (List ℕ × Json)
yes_members end peer highest before routes =
    (codes "answer", string (codes "yes"))
    ∷ (end_members end ++ (peer_members peer ++ (reached_members highest
    ++ (before_members before ++ flag_members (codes "with_routes") routes))))

-- an end that isn't judged, whether its line leaves out its AS number, and why
abbrev pub unjudged_members : JudgedEnd → Bool → List ℕ → List (List ℕ × Json)
unjudged_members end is_left_out why =
    (codes "answer", string (codes "not judged"))
    ∷ (end_members end ++ (flag_members (codes "as_left_out") is_left_out
    ++ (codes "why", string why) ∷ []))

abbrev pub verdict_members : CheckVerdict → List (List ℕ × Json)
verdict_members (verdicts.Yes end peer highest before routes) =
    yes_members end peer highest before.now routes
verdict_members (verdicts.No place end deed) =
    (codes "answer", string (codes "no"))
    ∷ (known_members place ++ (end_members end ++ deed_members deed.now))
verdict_members (verdicts.Unfinished place end) =
    (codes "answer", string (codes "unfinished")) ∷ (known_members place ++ end_members end)
verdict_members (verdicts.NotJudged end is_left_out why) =
    unjudged_members end is_left_out why.now

abbrev pub verdict_json : ℕ → CheckVerdict → Json
verdict_json judged verdict = judged_json (codes "verdict") judged (verdict_members verdict)

-- ---- what is said beside it

-- a possible end: its number among them, its state, and how many routes it has
abbrev pub ending_members : ℕ → Fsm → Families → ℕ → List (List ℕ × Json)
ending_members number state disabled routes =
    (codes "end", number_of number)
    ∷ state_member state ∷ (disabled_members disabled
    ++ (codes "routes", number_of routes) ∷ [])

abbrev pub before_end_members : ℕ → Families → ℕ → List (List ℕ × Json)
before_end_members number disabled routes =
    (codes "end", number_of number)
    ∷ (disabled_members disabled ++ (codes "routes", number_of routes) ∷ [])

-- where the impossible record of the made order stands, and what it shows was done
abbrev pub in_made_members : At → List ℕ → List (List ℕ × Json)
in_made_members at deed =
    known_members at.place ++ (flag_members (codes "dated") at.is_dated
    ++ (codes "deed", text_json deed) ∷ [])

abbrev pub detail_kind : CheckDetail → List ℕ
detail_kind (details.End number state disabled routes) = codes "end"
detail_kind (details.EndBefore number disabled routes) = codes "end_before"
detail_kind (details.RefreshNotJudged direction count) = codes "refresh_not_judged"
detail_kind (details.Incomplete direction count) = codes "incomplete"
detail_kind (details.NotRead direction behind at count) = codes "not_read"
detail_kind (details.InMadeOrder at deed) = codes "in_made_order"
detail_kind (details.OneOrder delayed) = codes "one_order"
detail_kind details.AnotherOrder = codes "another_order"
detail_kind details.AllOrders = codes "all_orders"
detail_kind (details.Late within answer) = codes "late"
detail_kind (details.Repeat command) = codes "repeat"
detail_kind details.Open = codes "open_at_end"

abbrev pub detail_members : CheckDetail → List (List ℕ × Json)
detail_members (details.End number state disabled routes) =
    ending_members number state disabled routes
detail_members (details.EndBefore number disabled routes) =
    before_end_members number disabled routes
detail_members (details.RefreshNotJudged direction count) =
    (codes "direction", string (direction_word direction)) ∷ (codes "count", number_of count) ∷ []
detail_members (details.Incomplete direction count) =
    (codes "direction", string (direction_word direction))
    ∷ (codes "octets", number_of count) ∷ []
detail_members (details.NotRead direction behind at count) =
    (codes "direction", string (direction_word direction)) ∷ (codes "behind", string behind.now)
    ∷ (codes "at", number_of at) ∷ (codes "octets", number_of count) ∷ []
detail_members (details.InMadeOrder at deed) =
    in_made_members at deed.now
detail_members (details.OneOrder delayed) = (codes "delayed", number_of delayed) ∷ []
detail_members details.AnotherOrder = []
detail_members details.AllOrders = []
detail_members (details.Late within answer) =
    (codes "within", number_of within) ∷ (codes "answer", string answer.now) ∷ []
detail_members (details.Repeat command) = (codes "command", text_json command.now) ∷ []
detail_members details.Open = []

abbrev pub detail_json : ℕ → CheckDetail → Json
detail_json judged detail = judged_json (detail_kind detail) judged (detail_members detail)

-- how the session ended: the record that shows it, by whom, and how
abbrev pub ended_json : ℕ → At → Endpoint → HowValue → Json
ended_json judged at by how =
    judged_json (codes "ended") judged (place_members at.place
    ++ (flag_members (codes "dated") at.is_dated
    ++ (endpoint_members (codes "by") (codes "by_port") by ++ how_members how)))

-- ---- what is said of a whole file

abbrev pub summary_members : Summary → List (List ℕ × Json)
summary_members summary =
    (codes "ends", number_of summary.ends) ∷ (codes "yes", number_of summary.yes)
    ∷ (codes "no", number_of summary.no) ∷ (codes "unfinished", number_of summary.unfinished)
    ∷ (codes "not_judged", number_of summary.not_judged)
    ∷ (codes "refused", number_of summary.refused) ∷ []

abbrev pub total_json : CheckTotal → Json
total_json (totals.CutShort packet) =
    typed (codes "cut_short") ((codes "packet", number_of packet) ∷ [])
total_json (totals.NothingAt port) =
    typed (codes "nothing") ((codes "port", number_of port) ∷ [])
total_json totals.Nothing = typed (codes "nothing") []
total_json (totals.Summary summary) = typed (codes "summary") (summary_members summary)

-- ---- the possible ends of a yes, and the ends before, with their routes if they are asked for

abbrev pub route_json : List ℕ → ℕ → ℕ → Destination × PathValue → Json
route_json kind judged end route =
    judged_json kind judged ((codes "end", number_of end) ∷ route_members route.0 route.1)

abbrev pub routes_json : Bool → List ℕ → ℕ → ℕ → List (Destination × PathValue) → List Json
routes_json false kind judged end routes = []
routes_json true kind judged end routes = map (route_json kind judged end) routes

-- an end with this number
abbrev pub end_json : Bool → ℕ → ℕ → End → List Json
end_json routes judged number e =
    judged_json (codes "end") judged
    (ending_members number e.fsm e.routes.disabled (length e.routes.entries))
    ∷ routes_json routes (codes "route") judged number e.routes.entries

-- one before
abbrev pub before_json : Bool → ℕ → ℕ → End → List Json
before_json routes judged number e =
    judged_json (codes "end_before") judged
    (before_end_members number e.routes.disabled (length e.routes.entries))
    ∷ routes_json routes (codes "route_before") judged number e.routes.entries

-- ends that are numbered on from there
abbrev pub numbered_json : (ℕ → End → List Json) → ℕ → List End → List Json
numbered_json json number [] = []
numbered_json json number (e ∷ ends) = json number e ++ numbered_json json (number + 1) ends

-- those before, if routes are asked for
abbrev pub befores_json : Bool → ℕ → List End → List Json
befores_json false judged before = []
befores_json true judged before = numbered_json (before_json true judged) 1 before

-- the verdict, its possible ends, and those before
abbrev pub yes_json : Bool → ℕ → JudgedEnd → PeerAs → ℕ → List ℕ → List End → List End → List Json
yes_json routes judged end peer highest counts ends before =
    judged_json (codes "verdict") judged (yes_members end peer highest counts routes)
    ∷ (numbered_json (end_json routes judged) 1 ends
    ++ befores_json routes judged before)
