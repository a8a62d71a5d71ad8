-- The lines of an end.
use Rattle.std.specs.Prelude.{◌++◌, Bool, true, false, ℕ, List, [], Option, None}
use Rattle.std.specs.Prelude.{Some, codes}
use Rattle.bgp_judge.specs.Verdict.{No, Unfinished, VerdictValue, Yes}
use Rattle.segments.specs.declared.found.Endpoint.{Endpoint}
use Rattle.bgp_check.specs.declared.peer_as.PeerAs.{PeerAs}
use Rattle.bgp_check.specs.Answered.{AnswerValue, JudgedAs, Unjudged}
use Rattle.bgp_check_lines.specs.Values.{all_orders_line, another_order_line, in_made_order_line}
use Rattle.bgp_check_lines.specs.Values.{one_order_line}
use Rattle.bgp_check_lines.specs.Text.{no_line, not_judged_line, unfinished_line, yes_lines}
use Rattle.bgp_check_lines.specs.Unshown.{unshown_notes}
use Rattle.bgp_check_lines.specs.EndName.{EndName}
use Rattle.bgp_why.specs.Endpoint.{endpoint_text}
use Rattle.bgp_why.specs.declared.endpoint.Endpoint.{Endpoint as NamedEnd}
use Rattle.bgp_why.specs.declared.place.Place.{Place}
use Rattle.bgp_check_tool.specs.declared.another.Order.{Order}
use Rattle.bgp_check_tool.specs.declared.another.Order.TheVariants as orders
use Rattle.bgp_check_tool.specs.declared.orders.NoOrder.{NoOrder}
use Rattle.bgp_check_tool.specs.Judging.{judge_text}
use Rattle.bgp_check_tool.specs.Late.{late_text}
use Rattle.bgp_check_tool.specs.Told.{EndTold}

-- ---- which end

-- its address and port
abbrev pub named_end : Endpoint → NamedEnd
named_end end = record { address = end.address; port = Some end.port }

-- and the AS number in its OPEN, if it sent one
abbrev pub name_with : Endpoint → Option ℕ → EndName
name_with end number =
    record { end = named_end end; as_number = number; part = None }

abbrev pub name_of : EndTold → EndName
name_of told = name_with told.end told.as_number

-- an end of a connection whose two ends are one
unfoldable pub one_end_line : Endpoint → List ℕ
one_end_line end =
    codes "not judged: " ++ (endpoint_text (named_end end)
    ++ codes ": both ends have this address and port\n")

-- ---- a no, and what is unfinished

-- what the record shows was done at which a no stands
abbrev pub deed_by : List ℕ → Option (List ℕ) → List ℕ
deed_by deed None = deed
deed_by deed (Some other) = other

-- what the impossible record of the made order shows was done, if that isn't told so
abbrev pub in_made_text : ℕ → List ℕ → Option Place → List ℕ
in_made_text first deed None = []
in_made_text first deed (Some place) = in_made_order_line first deed place

-- one order was judged, of those that the packets may allow: a no in all orders has no such line
abbrev pub order_text : ℕ → Option NoOrder → List ℕ
order_text count None = one_order_line count
order_text count (Some found) = []

-- ---- a yes

-- in another order than the made one
abbrev pub another_text : Order → List ℕ
another_text orders.Made = []
another_text orders.Another = another_order_line
another_text orders.All = []

-- ---- what is unfinished

-- one order was judged, unless it is known to be so over all
abbrev pub one_unless : Bool → ℕ → List ℕ
one_unless false put_off = one_order_line put_off
one_unless true put_off = []

-- over all orders, where the made one is a no
abbrev pub unfinished_text : Order → Bool → ℕ → List ℕ
unfinished_text orders.Made over_all put_off = one_unless over_all put_off
unfinished_text orders.Another over_all put_off = one_unless over_all put_off
unfinished_text orders.All over_all put_off = all_orders_line

-- ---- all of it

-- what stands after the first line of a yes and its routes
abbrev pub after_yes : EndTold → List ℕ
after_yes told =
    unshown_notes told.received told.sent
    ++ (another_text told.order ++ judge_text told.judge)

-- what stands after the first line of a no
abbrev pub after_no : EndTold → List ℕ
after_no told =
    in_made_text told.first told.deed told.in_made
    ++ (told.reason ++ (unshown_notes told.received told.sent
    ++ (late_text told.within told.late ++ (order_text told.put_off told.found
    ++ judge_text told.judge))))

-- and after that of what is unfinished
abbrev pub after_unfinished : EndTold → List ℕ
after_unfinished told =
    in_made_text told.first told.deed told.in_made
    ++ (told.reason ++ (unshown_notes told.received told.sent
    ++ (late_text told.within told.late
    ++ (unfinished_text told.order told.over_all told.put_off ++ judge_text told.judge))))

abbrev pub verdict_text : Bool → EndTold → PeerAs → VerdictValue → List ℕ
verdict_text routes told peer (Yes ends) =
    yes_lines routes (name_of told) peer told.reached ends ++ after_yes told
verdict_text routes told peer (No count) =
    no_line told.place (name_of told) (deed_by told.deed told.other) ++ after_no told
verdict_text routes told peer Unfinished =
    unfinished_line told.place (name_of told) ++ after_unfinished told

abbrev pub answer_text : Bool → EndTold → AnswerValue → List ℕ
answer_text routes told (Unjudged why) = not_judged_line (name_of told) why
answer_text routes told (JudgedAs number peer under verdict) =
    verdict_text routes told peer verdict

abbrev pub told_lines : Bool → EndTold → List ℕ
told_lines routes told = answer_text routes told told.answer
