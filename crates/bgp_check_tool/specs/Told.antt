-- What is told of one of a connection's two ends.
use Rattle.std.specs.Prelude.{◌≡◌, ◌⊎◌, Bool, true, false, ℕ, List, Option, None, Some}
use Rattle.bgp_prefix.specs.declared.session.Session.{Session}
use Rattle.segments.specs.declared.found.Endpoint.{Endpoint}
use Rattle.streams.specs.declared.connection.Connection.{Connection}
use Rattle.streams.specs.declared.connection.Opening.{Opening}
use Rattle.streams.specs.declared.passed.Side.{Side}
use Rattle.bgp_judge.specs.Verdict.{No, Unfinished, VerdictValue, Yes}
use Rattle.bgp_recording.specs.Captured.{records_of}
use Rattle.bgp_recording.specs.declared.entry.Entry.{Entry}
use Rattle.bgp_recording.specs.declared.framing.Framings.{Framings}
use Rattle.bgp_recording.specs.declared.framing.Unshown.{Unshown}
use Rattle.bgp_import.specs.Captures.{put_off}
use Rattle.bgp_import.specs.ListText.{end_of}
use Rattle.bgp_open.specs.declared.config.Config.{Config}
use Rattle.bgp_check.specs.Answered.{AnswerValue, IsAnswerTo, JudgedAs, Unjudged, answer_value}
use Rattle.bgp_check.specs.declared.peer_as.PeerAs.{PeerAs}
use Rattle.bgp_check_lines.specs.AsNumber.{HasAsNumber}
use Rattle.bgp_check_lines.specs.CheckTextReason.{IsReasonTo, deed_text, lines_text}
use Rattle.bgp_check_lines.specs.Places.{shown_places}
use Rattle.bgp_check_lines.specs.Reached.{IsReached, ReachedValue, reached_value}
use Rattle.bgp_check_tool.specs.declared.ending.Told.{Told}
use Rattle.bgp_check_lines.specs.DeclaredAsked.{Asked}
use Rattle.bgp_check_lines.specs.JudgeOptions.{JudgeOptions}
use Rattle.bgp_check_tool.specs.declared.options.CheckOptions.{CheckOptions}
use Rattle.bgp_check_tool.specs.declared.another.Order.{Order}
use Rattle.bgp_check_tool.specs.declared.another.Order.TheVariants as orders
use Rattle.bgp_check_tool.specs.About.{IsAbout}
use Rattle.bgp_check_tool.specs.Another.{IsNo, IsNoYes, IsYes, number_in}
use Rattle.bgp_check_tool.specs.Judging.{AreOptionsTo}
use Rattle.bgp_check_tool.specs.Instead.{AreInstead}
use Rattle.bgp_check_tool.specs.Late.{IsLate}
use Rattle.bgp_check_tool.specs.declared.late.Late.{Late}
use Rattle.bgp_check_tool.specs.declared.orders.NoOrder.{NoOrder}
use Rattle.bgp_check_tool.specs.Elsewhere.{IsOther, in_made, no_count, no_place, octets_if}
use Rattle.bgp_check_tool.specs.Place.{last_place, place_at, second_at, sent_place}
use Rattle.bgp_why.specs.declared.endpoint.Endpoint.{Endpoint as PeerEnd}
use Rattle.bgp_why.specs.declared.other_orders.OtherOrders.{OtherOrders}
use Rattle.bgp_why.specs.declared.place.Place.{Place}
use Rattle.bgp_check_tool.specs.Made.{IsMade}
use Rattle.bgp_check_tool.specs.Orders.{AreTooManyOver, IsFoundTo, IsKnown, IsUnfinished}
use Rattle.bgp_orders.specs.WholeWays.{AreOfAWayOver}
use Rattle.bgp_check_tool.specs.Seen.{seen_from, session_from}

-- what is told, its answer as a value
pub record EndTold : Type 0 where
  pub end : Endpoint
  -- the AS number in its OPEN, if it sent one
  pub as_number : Option ℕ
  pub answer : AnswerValue
  -- in which order that is so
  pub order : Order
  -- whether it is known to be unfinished over all orders
  pub over_all : Bool
  -- whether memory is refused for the search over them
  pub lacks_memory : Bool
  -- the first sent message that no order explains, of a no, if one is known
  pub found : Option NoOrder
  -- where a no stands: at that message, or else at the impossible record; of another verdict where
  -- the last record stands
  pub place : Place
  -- where the no of the made order stands, if that isn't told so
  pub in_made : Option Place
  -- what that message shows was done, if the no of the made order stands elsewhere
  pub other : Option (List ℕ)
  -- the second of the first record
  pub first : ℕ
  -- how many received messages are put off in the order that is judged
  pub put_off : ℕ
  -- within how many seconds a message is handled in that order
  pub within : ℕ
  -- what a no or an unfinished becomes, where it may be handled as late as it can be said
  pub late : Option Late
  -- whether memory is refused for the search over all orders by which that is known
  pub lacks_memory_later : Bool
  -- how far the session came before its end
  pub reached : ReachedValue
  -- what the impossible record of a no shows was done, and the lines on why it is a no or
  -- unfinished, where it is
  pub deed : List ℕ
  pub reason : List ℕ
  -- after how many records of the made order the no stands that they are about, if it is one
  pub asked_at : Option ℕ
  -- what of the octets that it received is in no record, and of those that it sent
  pub received : Unshown
  pub sent : Unshown
  -- how `bgp judge` gives the verdict, where it does and that is told
  pub judge : Option JudgeOptions

abbrev pub told_value : {X : Type 0} → Told X → EndTold
told_value told = record {
  end = told.end;
  as_number = told.as_number;
  answer = answer_value told.answer;
  order = told.order;
  over_all = told.over_all;
  lacks_memory = told.lacks_memory;
  found = told.found;
  place = told.place;
  in_made = told.in_made;
  other = octets_if told.other;
  first = told.first;
  put_off = told.put_off;
  within = told.within;
  late = told.late;
  lacks_memory_later = told.lacks_memory_later;
  reached = reached_value told.reached;
  deed = deed_text told.reason;
  reason = lines_text told.reason;
  asked_at = told.asked_at;
  received = told.received;
  sent = told.sent;
  judge = told.judge;
}

-- where a no stands: at the first sent message that no order explains, if one is known, and else at
-- the impossible record; of another answer where the last record stands
abbrev pub place_for : VerdictValue → Option NoOrder → List Entry → Place
place_for (Yes ends) found entries = last_place entries
place_for (No count) None entries = place_at entries count
place_for (No count) (Some found) entries = sent_place found
place_for Unfinished found entries = last_place entries

abbrev pub place_of : AnswerValue → Option NoOrder → List Entry → Place
place_of (Unjudged why) found entries = last_place entries
place_of (JudgedAs number peer under verdict) found entries = place_for verdict found entries

-- the peer of an end, with its port
abbrev pub peer_end : Session → Connection → PeerEnd
peer_end session connection =
    record { address = session.peer; port = Some connection.peer_port }

-- In which order of the end's messages it is told, of which these are the entries, and this is
-- answered of them; the reason is about that. The end of this session has the connection so, framed
-- so, and is asked for so.
module _ (options : CheckOptions) (asked : Asked) (session : Session) (connection : Connection)
    (framings : Framings) (entries : List Entry) (received_unshown sent_unshown : Unshown)
    (answer about : AnswerValue) (told : EndTold) where
  -- in the made one; and how `bgp judge` gives it
  pub record IsOfMade : Type 0 where
    pub is_order : told.order ≡ orders.Made
    pub made : IsMade options.within connection framings entries received_unshown sent_unshown
    pub is_told : told.answer ≡ answer
    pub is_in_made : told.in_made ≡ in_made entries told.found about
    pub judges : AreOptionsTo options.within asked connection entries received_unshown
        sent_unshown options.settings about told.judge

  -- Or it is a yes in another one that the packets allow. What is answered of the made one, framed
  -- the same, is no yes; and no line says how `bgp judge` gives it.
  pub record IsOfAnother : Type 0 where
    pub is_order : told.order ≡ orders.Another
    pub way : AreOfAWayOver framings options.within connection entries received_unshown
        sent_unshown
    pub is_told : told.answer ≡ answer
    pub is_yes : IsYes told.answer
    pub made_entries : List Entry
    pub made_received : Unshown
    pub made_sent : Unshown
    pub made : IsMade options.within connection framings made_entries made_received made_sent
    pub made_answer : AnswerValue
    pub answers_made : IsAnswerTo session (records_of made_entries) made_answer
    pub is_no_yes : IsNoYes made_answer
    pub not_in_made : told.in_made ≡ None
    pub no_judge : told.judge ≡ None

  -- Or it is unfinished over all of them, where the made one is a no. It is told under the
  -- configuration under which some order explains all that was sent.
  pub record IsOfAll : Type 0 where
    pub is_order : told.order ≡ orders.All
    pub made : IsMade options.within connection framings entries received_unshown sent_unshown
    pub is_no : IsNo answer
    pub peer : PeerAs
    pub under : Config
    pub over : IsUnfinished session options.within framings connection peer under
    pub is_told : told.answer ≡ JudgedAs (number_in answer) peer under Unfinished
    pub is_known : told.over_all ≡ true
    pub is_in_made : told.in_made ≡ no_place entries answer
    pub no_judge : told.judge ≡ None

-- it is a no, or unfinished, and it isn't known whether it is so over all orders
abbrev pub IsOfOneOrder : AnswerValue → Bool → Type 0
IsOfOneOrder (Unjudged why) over_all = ⊥
IsOfOneOrder (JudgedAs number peer under (Yes ends)) over_all = ⊥
IsOfOneOrder (JudgedAs number peer under (No count)) over_all = Unit {0}
IsOfOneOrder (JudgedAs number peer under Unfinished) over_all = over_all ≡ false

-- Why that isn't known: memory is refused for the search over all orders; or under one of the end's
-- widest configurations more nodes are reached than it looks at, and under each of these that is so,
-- or no order is whole.
abbrev pub IsForCause : Session → ℕ → Framings → Connection → Bool → Type 0
IsForCause session within framings connection lacks_memory =
    (lacks_memory ≡ true) ⊎ AreTooManyOver session within framings connection

abbrev pub HasCause : Session → ℕ → Framings → Connection → AnswerValue → Bool → Bool → Type 0
HasCause session within framings connection answer over_all lacks_memory =
    IsOfOneOrder answer over_all → IsForCause session within framings connection lacks_memory

-- This is told of the end at this address and port, of this session, that has the connection so:
-- what is answered of its records, or over all orders, and why, with what is said of other orders;
-- of a no the first sent message that no order explains, if one is known; whether it is known to be
-- unfinished over all orders; why it is about one order, if it holds of that alone; what the
-- answer becomes, where a message may be handled as late as it can be said, or that memory is
-- refused for that; the line of a message that it sent goes by the limit of its receiver. And how
-- `bgp judge` gives it, where the connection is asked for so.
pub record IsTold (options : CheckOptions) (asked : Asked) (end : Endpoint) (session : Session)
    (connection : Connection) (told : EndTold) : Type 0 where
  pub entries : List Entry
  pub received_unshown : Unshown
  pub sent_unshown : Unshown
  pub framings : Framings
  pub answer : AnswerValue
  pub answers : IsAnswerTo session (records_of entries) answer
  pub about : AnswerValue
  pub is_about : IsAbout session (records_of entries) answer told.found about
  pub are_of : IsOfMade options asked session connection framings entries received_unshown
      sent_unshown answer about told
      ⊎ IsOfAnother options asked session connection framings entries received_unshown
      sent_unshown answer about told
      ⊎ IsOfAll options asked session connection framings entries received_unshown
      sent_unshown answer about told
  pub is_end : told.end ≡ end
  pub is_number : HasAsNumber (records_of entries) told.as_number
  pub is_found : IsFoundTo session options.within framings connection told.answer told.found
  pub is_known : IsKnown session options.within framings connection told.over_all
  pub has_cause : told.order ≡ orders.Made → told.found ≡ None
      → HasCause session options.within framings connection told.answer told.over_all
      told.lacks_memory
  pub is_place : told.place ≡ place_of told.answer told.found entries
  pub is_other : IsOther session framings.sent.limit (peer_end session connection)
      (records_of entries) told.found told.in_made told.other
  pub is_first : told.first ≡ second_at entries 0
  pub is_put_off : told.put_off ≡ put_off 0 entries
  pub is_within : told.within ≡ options.within
  pub is_late : IsLate session connection told.answer told.late told.lacks_memory_later
  pub is_reached : IsReached (records_of entries) told.answer told.reached
  pub instead : OtherOrders
  pub are_instead : AreInstead options.within framings connection entries about told.found instead
  pub explains : IsReasonTo session framings.sent.limit (second_at entries 0) true
      (peer_end session connection) (shown_places entries) instead (records_of entries) about
      told.deed told.reason
  -- The reason is about the no of the made order that it explains, if that is one: of another order
  -- it is about a yes.
  pub is_asked : told.asked_at ≡ no_count about
  pub is_received : told.received ≡ received_unshown
  pub is_sent : told.sent ≡ sent_unshown

-- it is told of that side of the connection
abbrev pub IsEndTold : CheckOptions → Asked → Session → Opening → Connection → Side → EndTold
    → Type 0
IsEndTold options asked session opening connection side told =
    IsTold options asked (end_of side session opening) (session_from side session)
    (seen_from side connection) told
