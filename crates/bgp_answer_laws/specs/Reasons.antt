-- What a reason says could have come: the lines of that, and no other.
use Rattle.std.specs.Prelude.{⊤, ℕ, Bool, List, Option, None, Some, All}
use Rattle.bgp_prefix.specs.Shown.{ShownRecord}
use Rattle.bgp_prefix.specs.declared.session.Session.{Session}
use Rattle.bgp_open.specs.declared.config.Config.{Config}
use Rattle.bgp_wire.specs.declared.header.Limit.{Limit}
use Rattle.bgp_check.specs.Answered.{AnswerValue}
use Rattle.bgp_why.specs.declared.endpoint.Endpoint.{Endpoint}
use Rattle.bgp_why.specs.declared.other_orders.OtherOrders.{OtherOrders}
use Rattle.bgp_why.specs.declared.place.Place.{Place}
use Rattle.bgp_why.specs.declared.style.Style.{Style}
use Rattle.bgp_explain.specs.Capture.{TellsWhy}
use Rattle.bgp_explain.specs.Why.{may_come}
use Rattle.bgp_check_text.specs.Reason.{IsReasonTo}
use Rattle.bgp_visible_laws.specs.Laws.{HasOctets}
use Rattle.bgp_answer_laws.specs.Answers.{Says, possible_lines}

-- the record has octets, if there is one
abbrev pub HasOctetsIfAny : Option (ℕ × ShownRecord) → Type 0
HasOctetsIfAny None = ⊤
HasOctetsIfAny (Some next) = HasOctets next.1

-- Of the lines on what records tell those say what could have come, or had to, that list it, and
-- what could have been sent there in other orders. None begins an answer.
abbrev pub WhysSayWhatMayCome : Type 0
WhysSayWhatMayCome =
    (config : Config) (style : Style) (session : Session) (another : Option ℕ)
    (places : ℕ → ℕ → Place) (records : List ShownRecord) (next : Option (ℕ × ShownRecord))
    (text : List ℕ) → All HasOctets records → HasOctetsIfAny next
    → (tells : TellsWhy config style session another places records next text)
    → Says text (may_come style next tells.possible tells.why.lacked)

-- The lines on why an answer is a no or unfinished begin no answer.
abbrev pub ReasonsAreLines : Type 0
ReasonsAreLines =
    (session : Session) (sent : Limit) (first : ℕ) (is_recording : Bool) (peer : Endpoint)
    (places : ℕ → ℕ → Place) (instead : OtherOrders) (records : List ShownRecord)
    (answer : AnswerValue) (deed lines : List ℕ) → All HasOctets records
    → IsReasonTo session sent first is_recording peer places instead records answer deed lines
    → Says lines (possible_lines lines)
