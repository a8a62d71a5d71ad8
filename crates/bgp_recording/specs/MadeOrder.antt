-- The made order: one function from what packets tell of a session to the records that tell it. A
-- received message is taken next where it came before the local system shows its next message or
-- the end, and is overdue or doesn't wait; else what the local system shows is next.
use Rattle.std.specs.Prelude.{◌+◌, ◌&&◌, ◌||◌, ◌++◌, ℕ, zero, suc, Bool, true, false, not}
use Rattle.std.specs.Prelude.{List, [], ◌∷◌, length, max, nat_lt, Option, None, Some}
use Rattle.bgp_prefix.specs.Shown as shown
use Rattle.bgp_wire.specs.declared.header.MessageType.{MessageType}
use Rattle.streams.specs.declared.connection.End.{End}
use Rattle.bgp_recording.specs.declared.pending.Moment.{Moment}
use Rattle.bgp_recording.specs.declared.pending.Place.{Place}
use Rattle.bgp_recording.specs.declared.standing.Before.{Before}
use Rattle.bgp_recording.specs.declared.standing.Before.TheVariants.{Other}
use Rattle.bgp_recording.specs.declared.state.State.{State}
use Rattle.bgp_recording.specs.declared.waiting.Foresight.{Foresight}
use Rattle.streams.specs.declared.passed.Side.{Side}
use Rattle.bgp_recording.specs.Allowed.{ends_of}
use Rattle.bgp_recording.specs.Changes.{led_by_received, led_by_sent, led_by_end, led_by_left}
use Rattle.bgp_recording.specs.Changes.{answers_before_open, just_received, just_sent}
use Rattle.bgp_recording.specs.Changes.{awaits_keepalive, opened_state, state_then}
use Rattle.bgp_recording.specs.Tells.{Numbered, numbered_with, change, opening}
use Rattle.bgp_recording.specs.Moments.{end_moment}
use Rattle.bgp_recording.specs.Values.{MessageValue, code_of, first_of, value_moment}
use Rattle.bgp_recording.specs.Waiting.{foresight_of, is_answered, reason_of, waits_for}

-- An order while it is made: what is left, how many messages of each direction are in it, the
-- second of the last record, the state, whether the message that was taken last is being answered,
-- what stands just before, and the records.
pub record Course : Type 0 where
  pub received : List MessageValue
  pub sent : List MessageValue
  pub end : Option End
  pub place : Place
  pub last : ℕ
  pub state : State
  pub is_answering : Bool
  pub before : Before
  pub numbered : List Numbered

-- the packet of what the local system shows next: of its next message, or else of the end
abbrev pub shown_next : List MessageValue → Option End → Option Moment
shown_next (message ∷ later) end = Some (value_moment message)
shown_next [] (Some end) = Some (end_moment end)
shown_next [] None = None

-- ---- which is next

-- the next received message waits
abbrev pub first_waits : Foresight → Course → List MessageValue → Bool
first_waits foresight course [] = false
first_waits foresight course (message ∷ later) =
    waits_for (reason_of foresight course.place course.state course.is_answering message
    (first_of course.sent)) foresight course.place (first_of course.sent)

-- its answer is the next message that is sent
abbrev pub first_is_answered : Foresight → Course → List MessageValue → Bool
first_is_answered foresight course [] = false
first_is_answered foresight course (message ∷ later) =
    is_answered foresight course.place course.state message.kind (first_of course.sent)

-- a received message is next, which waits or not, before what the local system shows
abbrev pub is_taken : ℕ → Bool → List MessageValue → Option Moment → Bool
is_taken within waits [] own = false
is_taken within waits (message ∷ later) None = true
is_taken within waits (message ∷ later) (Some own) = nat_lt message.packet own.packet
    && (nat_lt (message.second + within) own.second || not waits)

abbrev pub takes_received : Foresight → ℕ → Course → Bool
takes_received foresight within course =
    is_taken within (first_waits foresight course course.received) course.received
    (shown_next course.sent course.end)

-- ---- what stands then

-- the next message that is sent answers one of this type that is received before the own OPEN
abbrev pub is_answer_next : Option MessageType → List MessageValue → Bool
is_answer_next kind [] = false
is_answer_next kind (next ∷ later) = answers_before_open kind next.kind (code_of next)

-- a received message is shown at its second, or at that of the item before it
abbrev pub after_received : Foresight → Course → MessageValue → List MessageValue → Course
after_received foresight course message later =
    let second = max message.second course.last in
    let answered = is_answer_next message.kind course.sent in
    let led = led_by_received course.state message.kind answered in
    record {
      received = later;
      sent = course.sent;
      end = course.end;
      place = record { received = course.place.received + 1; sent = course.place.sent };
      last = second;
      state = state_then course.state led;
      is_answering = first_is_answered foresight course course.received;
      before = just_received message.kind;
      numbered = course.numbered
          ++ numbered_with (value_moment message) (shown.Received second message.octets)
          ∷ change (value_moment message) second course.state led;
    }

-- A sent one at its own. The own OPEN for one that is accepted late is half of the answer.
abbrev pub after_sent : Course → MessageValue → List MessageValue → Course
after_sent course message later =
    let led = led_by_sent course.state message.kind course.before in
    let before = just_sent course.state message.kind course.before in
    record {
      received = course.received;
      sent = later;
      end = course.end;
      place = record { received = course.place.received; sent = course.place.sent + 1 };
      last = message.second;
      state = state_then course.state led;
      is_answering = awaits_keepalive before;
      before = before;
      numbered = course.numbered
          ++ numbered_with (value_moment message) (shown.Sent message.second message.octets)
          ∷ change (value_moment message) message.second course.state led;
    }

-- some are left
abbrev pub values_left : List MessageValue → Bool
values_left [] = false
values_left (message ∷ later) = true

-- the end by the changes to which it leads
abbrev pub after_end : Course → End → Course
after_end course end =
    let second = max end.second course.last in
    let ended = state_then course.state (led_by_end course.state) in
    let left = led_by_left course.state (values_left course.received) in
    record {
      received = course.received;
      sent = course.sent;
      end = None;
      place = course.place;
      last = second;
      state = state_then ended left;
      is_answering = false;
      before = Other;
      numbered = course.numbered
          ++ (change (end_moment end) second course.state (led_by_end course.state)
          ++ change (end_moment end) second ended left);
    }

-- what the local system shows, if it shows anything
abbrev pub after_own : Course → List MessageValue → Option End → Course
after_own course (message ∷ later) end = after_sent course message later
after_own course [] (Some end) = after_end course end
after_own course [] None = course

abbrev pub after_turn : Foresight → Course → Bool → List MessageValue → Course
after_turn foresight course true (message ∷ later) =
    after_received foresight course message later
after_turn foresight course true [] = course
after_turn foresight course false received = after_own course course.sent course.end

abbrev pub after_next : Foresight → ℕ → Course → Course
after_next foresight within course =
    after_turn foresight course (takes_received foresight within course) course.received

-- ---- all of it

-- after so many more
abbrev pub after_more : ℕ → Foresight → ℕ → Course → Course
after_more zero foresight within course = course
after_more (suc more) foresight within course =
    after_more more foresight within (after_next foresight within course)

-- the connection's first packet shows the change from Idle
abbrev pub begun_course : Side → Moment → List MessageValue → List MessageValue → Option End
    → Course
begun_course opened_by first received sent end = record {
  received = received;
  sent = sent;
  end = end;
  place = record { received = 0; sent = 0 };
  last = first.second;
  state = opened_state opened_by;
  is_answering = false;
  before = Other;
  numbered = opening opened_by first ∷ [];
}

-- so much has to be ordered
abbrev pub count_of : List MessageValue → List MessageValue → Option End → ℕ
count_of received sent end = length received + length sent + length (ends_of end)

-- The records in the made order, within so many seconds, of a session whose connection this side
-- opened by this first packet, with these messages and this end.
abbrev pub made_order : ℕ → Side → Moment → List MessageValue → List MessageValue → Option End
    → List Numbered
made_order within opened_by first received sent end =
    (after_more (count_of received sent end) (foresight_of received sent) within
    (begun_course opened_by first received sent end)).numbered
