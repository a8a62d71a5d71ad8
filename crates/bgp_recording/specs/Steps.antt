-- An order while it is made: what is left, how many messages of each direction are in it, the
-- second of the last record, the state, whether the message that was taken last is being answered,
-- what stands just before, and the records.
use Rattle.std.specs.Prelude.{◌≡◌, ◌<◌, ◌^◌, ◌++◌, ℕ, Bool, true, false, List, [], ◌∷◌, max}
use Rattle.bgp_prefix.specs.Shown as shown
use Rattle.streams.specs.declared.connection.End.{End}
use Rattle.bgp_recording.specs.declared.message.Message.{Message}
use Rattle.bgp_recording.specs.declared.ordering.Exchange.{Exchange}
use Rattle.bgp_recording.specs.declared.pending.Place.{Place}
use Rattle.bgp_recording.specs.declared.pending.Turn.{Turn}
use Rattle.bgp_recording.specs.declared.pending.Turn.TheVariants as turns
use Rattle.bgp_recording.specs.declared.standing.Before.{Before}
use Rattle.bgp_recording.specs.declared.standing.Before.TheVariants.{Other}
use Rattle.bgp_recording.specs.declared.state.State.{State}
use Rattle.bgp_recording.specs.Changes.{led_by_received, led_by_sent, led_by_end, led_by_left}
use Rattle.bgp_recording.specs.Changes.{is_answered_before_open, just_received, just_sent}
use Rattle.bgp_recording.specs.Changes.{awaits_keepalive, are_left, opened_state, state_then}
use Rattle.bgp_recording.specs.Leads.{Pending, Leads, IsDone}
use Rattle.bgp_recording.specs.MadeOrder.{Course, made_order}
use Rattle.bgp_recording.specs.Moments.{end_moment, moment_in, opening_moment}
use Rattle.bgp_recording.specs.Tells.{Numbered, numbered_with, change, opening}
use Rattle.bgp_recording.specs.Values.{values_of}

pub record Making : Type 0 where
  pub pending : Pending
  pub place : Place
  pub last : ℕ
  pub state : State
  pub is_answering : Bool
  pub before : Before
  pub numbered : List Numbered

-- a received message is shown at its second, or at that of the item before it, and the change to
-- which it leads
pub record ShowsReceived (old : Making) (message : Message) (new : Making) : Type 0 where
  pub second : new.last ≡ max message.second old.last
  pub fits : new.last < 2 ^ 32
  pub put : let answered = is_answered_before_open message.kind new.pending.sent in
      let led = led_by_received old.state message.kind answered in
      new.numbered ≡ old.numbered
      ++ numbered_with (moment_in message) (shown.Received new.last message.octets.now)
      ∷ change (moment_in message) new.last old.state led
  pub state : let answered = is_answered_before_open message.kind new.pending.sent in
      new.state ≡ state_then old.state (led_by_received old.state message.kind answered)
  pub before : new.before ≡ just_received message.kind

-- a sent one at its own
pub record ShowsSent (old : Making) (message : Message) (new : Making) : Type 0 where
  pub second : new.last ≡ message.second
  pub fits : new.last < 2 ^ 32
  pub put : let led = led_by_sent old.state message.kind old.before in
      new.numbered ≡ old.numbered
      ++ numbered_with (moment_in message) (shown.Sent new.last message.octets.now)
      ∷ change (moment_in message) new.last old.state led
  pub state : new.state
      ≡ state_then old.state (led_by_sent old.state message.kind old.before)
  pub before : new.before ≡ just_sent old.state message.kind old.before

-- the end by the changes to which it leads
pub record ShowsEnd (old : Making) (end : End) (new : Making) : Type 0 where
  pub second : new.last ≡ max end.second old.last
  pub fits : new.last < 2 ^ 32
  pub put : let ended = state_then old.state (led_by_end old.state) in
      new.numbered ≡ old.numbered
      ++ (change (end_moment end) new.last old.state (led_by_end old.state)
      ++ change (end_moment end) new.last ended
      (led_by_left old.state (are_left new.pending.received)))
  pub state : new.state ≡ state_then (state_then old.state (led_by_end old.state))
      (led_by_left old.state (are_left new.pending.received))
  pub before : new.before ≡ Other

abbrev pub Shows : Making → Turn → Making → Type 0
Shows old (turns.Received message) new = ShowsReceived old message new
Shows old (turns.Sent message) new = ShowsSent old message new
Shows old (turns.End end) new = ShowsEnd old end new

-- whether a message is being answered after it, where its answer is next or not
abbrev pub answering_after : Making → Turn → Bool → Bool
answering_after old (turns.Received message) is_answered = is_answered
answering_after old (turns.Sent message) is_answered =
    awaits_keepalive (just_sent old.state message.kind old.before)
answering_after old (turns.End end) is_answered = false

-- one that may stand next is taken, and shown
pub record Steps (within : ℕ) (old new : Making) : Type 0 where
  pub turn : Turn
  pub leads : Leads within old.pending turn new.pending
  pub shows : Shows old turn new

-- one is shown, or nothing is left
abbrev pub StepsOrEnds : ℕ → Making → Bool → Making → Type 0
StepsOrEnds within old true new = Steps within old new
StepsOrEnds within old false new = IsDone old.pending × (new ≡ old)

-- what it is, wherever octets lie
abbrev pub course_of : Making → Course
course_of making = record {
  received = values_of making.pending.received;
  sent = values_of making.pending.sent;
  end = making.pending.end;
  place = making.place;
  last = making.last;
  state = making.state;
  is_answering = making.is_answering;
  before = making.before;
  numbered = making.numbered;
}

-- the records of the made order of what packets tell
abbrev pub order_of : ℕ → Exchange → List Numbered
order_of within exchange = made_order within exchange.opened_by (opening_moment exchange)
    (values_of exchange.received.now) (values_of exchange.sent.now) exchange.end

-- all is left, and the opening is shown
pub record Begins (exchange : Exchange) (making : Making) : Type 0 where
  pub received : making.pending.received ≡ exchange.received.now
  pub sent : making.pending.sent ≡ exchange.sent.now
  pub end : making.pending.end ≡ exchange.end
  pub last : making.last ≡ exchange.second
  pub fits : exchange.second < 2 ^ 32
  pub place : making.place ≡ record { received = 0; sent = 0 }
  pub state : making.state ≡ opened_state exchange.opened_by
  pub answering : making.is_answering ≡ false
  pub before : making.before ≡ Other
  pub opens : making.numbered
      ≡ opening exchange.opened_by (opening_moment exchange) ∷ []
