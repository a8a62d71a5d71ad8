-- Where the no of the made order stands, if what is told stands elsewhere, and what is said of
-- that.
use Rattle.std.specs.Prelude.{◌≡◌, ◌++◌, ℕ, List, [], ◌∷◌, Option, None, Some, IsSomeAnd, codes}
use Rattle.std.specs.Prelude.{if◌then◌else◌, option_map}
use Rattle.std.specs.declared.vec.Vec.{Vec}
use Rattle.bgp_prefix.specs.Shown.{ShownRecord}
use Rattle.bgp_prefix.specs.declared.session.Session.{Session}
use Rattle.bgp_judge.specs.Verdict.{No, Unfinished, VerdictValue, Yes}
use Rattle.bgp_open.specs.declared.route_form.RouteForm.{RouteForm}
use Rattle.bgp_recording.specs.declared.entry.Entry.{Entry}
use Rattle.bgp_wire.specs.declared.header.Limit.{Limit}
use Rattle.bgp_check.specs.Answered.{AnswerValue, JudgedAs, Unjudged}
use Rattle.bgp_check_lines.specs.SentDeed.{IsSentDeed, IsSentForm}
use Rattle.bgp_why.specs.declared.endpoint.Endpoint.{Endpoint}
use Rattle.bgp_why.specs.declared.place.Place.{Place}
use Rattle.bgp_check_tool.specs.declared.orders.NoOrder.{NoOrder}
use Rattle.bgp_instead.specs.MessageAt.{is_message_at}
use Rattle.bgp_check_tool.specs.Place.{place_at}

-- ---- where it stands

-- after so many records
abbrev pub count_in : VerdictValue → Option ℕ
count_in (Yes ends) = None
count_in (No count) = Some count
count_in Unfinished = None

abbrev pub no_count : AnswerValue → Option ℕ
no_count (Unjudged why) = None
no_count (JudgedAs number peer under verdict) = count_in verdict

abbrev pub no_place : List Entry → AnswerValue → Option Place
no_place entries answer = option_map (place_at entries) (no_count answer)

-- unless its record is that of the message that no order explains
abbrev pub place_unless : List Entry → NoOrder → ℕ → Option Place
place_unless entries found count =
    if is_message_at entries count found.unexplained.before then None
    else Some (place_at entries count)

abbrev pub place_beside : List Entry → NoOrder → Option ℕ → Option Place
place_beside entries found None = None
place_beside entries found (Some count) = place_unless entries found count

-- told is that message, if there is one, and else the no of the made order
abbrev pub in_made : List Entry → Option NoOrder → AnswerValue → Option Place
in_made entries None answer = None
in_made entries (Some found) answer = place_beside entries found (no_count answer)

-- ---- what that message shows was done

abbrev pub in_none : List ℕ → List ℕ
in_none [] = []
in_none (x ∷ deed) = (x ∷ deed) ++ codes ", as in no order that these packets allow"

-- the octets of a text, if there is one
abbrev pub octets_if : {X : Type 0} → Option (Vec ℕ X) → Option (List ℕ)
octets_if {X} text = option_map (λ (v : Vec ℕ X). v.items) text

-- An end of this session sent it to this peer, as long as that allows.
module _ (session : Session) (sent : Limit) (peer : Endpoint) (records : List ShownRecord) where
  pub record IsFoundDeed (found : NoOrder) (text : List ℕ) : Type 0 where
    pub form : RouteForm
    pub is_form : IsSentForm records form
    pub deed : List ℕ
    pub is_deed : IsSentDeed session sent peer form found.message.second
        found.message.octets.now deed
    pub is : text ≡ in_none deed

  -- it is said if the no of the made order stands elsewhere
  abbrev pub IsOther : Option NoOrder → Option Place → Option (List ℕ) → Type 0
  IsOther None place other = other ≡ None
  IsOther (Some found) None other = other ≡ None
  IsOther (Some found) (Some place) other = IsSomeAnd other (IsFoundDeed found)
