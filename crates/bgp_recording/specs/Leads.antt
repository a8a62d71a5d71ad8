-- What is left to be ordered, and what may stand next.
use Rattle.std.specs.Prelude.{◌≡◌, ◌<◌, ◌≤◌, ◌+◌, ℕ, List, [], ◌∷◌, drop}
use Rattle.std.specs.Prelude.{Option, None, Some, IfSome, IsSomeAnd, Bool, true, false}
use Rattle.bgp_recording.specs.declared.message.Message.{Message}
use Rattle.streams.specs.declared.connection.End.{End}
use Rattle.bgp_recording.specs.declared.pending.Moment.{Moment}
use Rattle.bgp_recording.specs.declared.pending.Pending.{Pending as Slices}
use Rattle.bgp_recording.specs.declared.pending.Place.{Place}
use Rattle.bgp_recording.specs.declared.pending.Turn.{Turn}
use Rattle.bgp_recording.specs.declared.pending.Turn.TheVariants as turns
use Rattle.streams.specs.declared.passed.Side.TheVariants.{Local}
use Rattle.bgp_recording.specs.First.{IsFirst}
use Rattle.bgp_recording.specs.MadeOrder.{is_taken, shown_next}
use Rattle.bgp_recording.specs.Moments.{end_moment, moment_in}
use Rattle.bgp_recording.specs.Values.{values_of}

-- what is left of each direction, and the end where it is still to come
pub record Pending : Type 0 where
  pub received : List Message
  pub sent : List Message
  pub end : Option End

abbrev pub pending_of : Slices → Pending
pending_of slices = record {
  received = drop slices.place.received slices.received.now;
  sent = drop slices.place.sent slices.sent.now;
  end = slices.end;
}

-- the packet of what the local system shows next: of its next message, or else of the end
abbrev pub own_of : List Message → Option End → Option Moment
own_of (message ∷ later) end = Some (moment_in message)
own_of [] (Some end) = Some (end_moment end)
own_of [] None = None

-- a received message came by a packet before that one
abbrev pub IsBeforeOwn : Moment → Message → Type 0
IsBeforeOwn own message = message.packet < own.packet

-- it didn't come before that packet, or not more than so many seconds before it
abbrev pub IsInTime : ℕ → Moment → Message → Type 0
IsInTime within own message = message.packet < own.packet → own.second ≤ message.second + within

-- a received message is left, and it came before what the local system shows next
abbrev pub MayTake : List Message → Option Moment → Type 0
MayTake [] own = ⊥
MayTake (message ∷ later) own = IfSome own (λ moment. IsBeforeOwn moment message)

-- no received message is left, or the local system shows something, and the message is in time
abbrev pub MayKeep : ℕ → List Message → Option Moment → Type 0
MayKeep within [] own = Unit {0}
MayKeep within (message ∷ later) None = ⊥
MayKeep within (message ∷ later) (Some moment) = IsInTime within moment message

abbrev pub TakesReceived : Pending → Type 0
TakesReceived pending = MayTake pending.received (own_of pending.sent pending.end)

abbrev pub TakesOwn : ℕ → Pending → Type 0
TakesOwn within pending = MayKeep within pending.received (own_of pending.sent pending.end)

-- ---- what may stand next in an order that is allowed, looked at where it would stand

-- the first of them has it, if there is one
abbrev pub IfFirst : List Message → (Message → Type 0) → Type 0
IfFirst [] P = Unit {0}
IfFirst (message ∷ later) P = P message

-- A received message may stand next before these sent ones and this end: it came by a packet before
-- the one that shows the next sent one, and not after an end that is the local system's own.
abbrev pub MayReceive : Message → List Message → Option End → Type 0
MayReceive message sent end =
    IfFirst sent (λ s. message.packet < s.packet)
    × IfSome end (λ e. e.side ≡ Local → message.packet ≤ e.packet)

-- a sent message or the end of this second may, before these received ones: the next isn't overdue
abbrev pub MayPass : ℕ → ℕ → List Message → Type 0
MayPass within second received = IfFirst received (λ r. second ≤ r.second + within)

-- the next received message may stand next
abbrev pub MayReceiveNext : Pending → Type 0
MayReceiveNext pending =
    (message : Message) × IsFirst pending.received message
    × MayReceive message pending.sent pending.end

-- the next sent one
abbrev pub MaySendNext : ℕ → Pending → Type 0
MaySendNext within pending =
    (message : Message) × IsFirst pending.sent message
    × MayPass within message.second pending.received

-- the end: all that is sent stands before it
abbrev pub MayEndNext : ℕ → Pending → Type 0
MayEndNext within pending =
    (pending.sent ≡ []) × IsSomeAnd pending.end (λ e. MayPass within e.second pending.received)

-- ---- what stands next

-- a received message stands next, and this is left then
pub record LeadsReceived (old : Pending) (message : Message) (new : Pending) : Type 0 where
  pub received : old.received ≡ message ∷ new.received
  pub sent : new.sent ≡ old.sent
  pub end : new.end ≡ old.end
  pub before : IfSome (own_of old.sent old.end) (λ own. IsBeforeOwn own message)

-- a sent one
pub record LeadsSent (within : ℕ) (old : Pending) (message : Message) (new : Pending)
    : Type 0 where
  pub received : new.received ≡ old.received
  pub sent : old.sent ≡ message ∷ new.sent
  pub end : new.end ≡ old.end
  pub in_time : TakesOwn within old

-- the end
pub record LeadsEnd (within : ℕ) (old : Pending) (end : End) (new : Pending) : Type 0 where
  pub received : new.received ≡ old.received
  pub sent_before : old.sent ≡ []
  pub sent : new.sent ≡ []
  pub end_before : old.end ≡ Some end
  pub end_after : new.end ≡ None
  pub in_time : TakesOwn within old

abbrev pub Leads : ℕ → Pending → Turn → Pending → Type 0
Leads within old (turns.Received message) new = LeadsReceived old message new
Leads within old (turns.Sent message) new = LeadsSent within old message new
Leads within old (turns.End end) new = LeadsEnd within old end new

-- nothing is left
pub record IsDone (pending : Pending) : Type 0 where
  pub received : pending.received ≡ []
  pub sent : pending.sent ≡ []
  pub end : pending.end ≡ None

-- what stands next, or that nothing is left
abbrev pub LeadsOrEnds : ℕ → Pending → Option Turn → Pending → Type 0
LeadsOrEnds within old None new = IsDone old × (new ≡ old)
LeadsOrEnds within old (Some turn) new = Leads within old turn new

-- ---- what is next in the made order

abbrev pub is_next_taken : ℕ → Bool → Pending → Bool
is_next_taken within waits pending = is_taken within waits (values_of pending.received)
    (shown_next (values_of pending.sent) pending.end)

abbrev pub turn_by : Bool → List Message → List Message → Option End → Option Turn
turn_by true [] sent end = None
turn_by true (message ∷ later) sent end = Some (turns.Received message)
turn_by false received (message ∷ later) end = Some (turns.Sent message)
turn_by false received [] (Some end) = Some (turns.End end)
turn_by false received [] None = None

abbrev pub turn_of : ℕ → Bool → Pending → Option Turn
turn_of within waits pending =
    turn_by (is_next_taken within waits pending) pending.received pending.sent pending.end

abbrev pub place_after : Place → Option Turn → Place
place_after place None = place
place_after place (Some (turns.Received message)) =
    record { received = place.received + 1; sent = place.sent }
place_after place (Some (turns.Sent message)) =
    record { received = place.received; sent = place.sent + 1 }
place_after place (Some (turns.End end)) = place
