-- What the records of a way show is what its messages are, in whichever order.
use Rattle.std.proofs.Common.{◌≡◌, ◌∙◌, ◌⊎◌, ◌++◌, ℕ, List, [], ◌∷◌, Option, None, Some, inl, inr, subst, sym}
use Rattle.bgp_prefix.specs.Shown as shown
use Rattle.bgp_prefix.specs.Shown.{ShownRecord}
use Rattle.bgp_machine.specs.Lists.{Has}
use Rattle.bgp_recording.specs.Allowed.{Ended, Received, Sent, received_in, sent_in}
use Rattle.bgp_recording.specs.Changes.{are_left, is_answered_before_open, just_received, just_sent, led_by_end, led_by_left, led_by_received, led_by_sent, state_then}
use Rattle.bgp_recording.specs.Tells.{Event, Passed, items_in}
use Rattle.bgp_recording.specs.declared.message.Message.{Message}
use Rattle.bgp_recording.specs.declared.standing.Before.{Before}
use Rattle.bgp_recording.specs.declared.standing.Before.TheVariants.{Other}
use Rattle.bgp_recording.specs.declared.state.State.{State}
use Rattle.bgp_orders.specs.Ways.{changed_to, records_in, records_of_way, state_after_end}
use Rattle.bgp_parts.specs.Confederations.{HasConfederation, SomeShowConfederations}
use Rattle.bgp_parts.specs.Opens.{FirstReceived, FirstSent}
use Rattle.bgp_check.specs.NotJudged.{SendsSome}
use Rattle.bgp_check_tool.specs.Orders.{records_received, records_sent}

-- ---- some record of a way shows it exactly where a message does

module _ (OfReceived OfSent : List ℕ → Type 0) where
  -- the record shows a message that is such
  abbrev Shows : ShownRecord → Type 0
  Shows (shown.Received t octets) = OfReceived octets
  Shows (shown.Sent t octets) = OfSent octets
  Shows (shown.Changed t old new) = ⊥

  -- a message of these is such
  abbrev SomeIs : List Message → List Message → Type 0
  SomeIs rs ss = Has (λ (m : Message). OfReceived m.octets.now) rs ⊎ Has (λ (m : Message). OfSent m.octets.now) ss

  beyond : (t : ℕ) (state : State) (led : Option State) (rest : List ShownRecord) → Has Shows rest → Has Shows (changed_to t state led ++ rest)
  beyond t state None rest has = has
  beyond t state (Some led) rest has = inr has

  before_change : (t : ℕ) (state : State) (led : Option State) (rest : List ShownRecord) → Has Shows (changed_to t state led ++ rest) → Has Shows rest
  before_change t state None rest has = has
  before_change t state (Some led) rest (inl never) = absurd never
  before_change t state (Some led) rest (inr has) = has

  beyond_both : (t : ℕ) (one other : State) (led more : Option State) (rest : List ShownRecord) → Has Shows rest → Has Shows ((changed_to t one led ++ changed_to t other more) ++ rest)
  beyond_both t one other None None rest has = has
  beyond_both t one other None (Some more) rest has = inr has
  beyond_both t one other (Some led) None rest has = inr has
  beyond_both t one other (Some led) (Some more) rest has = inr (inr has)

  before_both : (t : ℕ) (one other : State) (led more : Option State) (rest : List ShownRecord) → Has Shows ((changed_to t one led ++ changed_to t other more) ++ rest) → Has Shows rest
  before_both t one other None None rest has = has
  before_both t one other None (Some more) rest (inl never) = absurd never
  before_both t one other None (Some more) rest (inr has) = has
  before_both t one other (Some led) None rest (inl never) = absurd never
  before_both t one other (Some led) None rest (inr has) = has
  before_both t one other (Some led) (Some more) rest (inl never) = absurd never
  before_both t one other (Some led) (Some more) rest (inr (inl never)) = absurd never
  before_both t one other (Some led) (Some more) rest (inr (inr has)) = has

  more_received : (m : Message) (rs ss : List Message) → SomeIs rs ss → SomeIs (m ∷ rs) ss
  more_received m rs ss (inl has) = inl (inr has)
  more_received m rs ss (inr has) = inr has

  more_sent : (m : Message) (rs ss : List Message) → SomeIs rs ss → SomeIs rs (m ∷ ss)
  more_sent m rs ss (inl has) = inl has
  more_sent m rs ss (inr has) = inr (inr has)

  to_messages : (state : State) (before : Before) (front later : List Event) → Has Shows (records_in state before front later) → SomeIs (received_in (items_in front)) (sent_in (items_in front))
  to_messages state before [] later has = absurd has
  to_messages state before (Passed t (Received m) ∷ front) later (inl has) = inl (inl has)
  to_messages state before (Passed t (Received m) ∷ front) later (inr has) =
      let led = led_by_received state m.kind (is_answered_before_open m.kind (sent_in (items_in (front ++ later)))) in
      more_received m (received_in (items_in front)) (sent_in (items_in front))
      (to_messages (state_then state led) (just_received m.kind) front later
      (before_change t state led (records_in (state_then state led) (just_received m.kind) front later) has))
  to_messages state before (Passed t (Sent m) ∷ front) later (inl has) = inr (inl has)
  to_messages state before (Passed t (Sent m) ∷ front) later (inr has) =
      let led = led_by_sent state m.kind before in
      more_sent m (received_in (items_in front)) (sent_in (items_in front))
      (to_messages (state_then state led) (just_sent state m.kind before) front later
      (before_change t state led (records_in (state_then state led) (just_sent state m.kind before) front later) has))
  to_messages state before (Passed t (Ended e) ∷ front) later has =
      let left = are_left (received_in (items_in (front ++ later))) in
      to_messages (state_after_end state left) Other front later
      (before_both t state (state_then state (led_by_end state)) (led_by_end state) (led_by_left state left) (records_in (state_after_end state left) Other front later) has)

  by_received : (state : State) (before : Before) (front later : List Event) → Has (λ (m : Message). OfReceived m.octets.now) (received_in (items_in front)) → Has Shows (records_in state before front later)
  by_received state before [] later has = absurd has
  by_received state before (Passed t (Received m) ∷ front) later (inl has) = inl has
  by_received state before (Passed t (Received m) ∷ front) later (inr has) =
      let led = led_by_received state m.kind (is_answered_before_open m.kind (sent_in (items_in (front ++ later)))) in
      inr
      (beyond t state led (records_in (state_then state led) (just_received m.kind) front later) (by_received (state_then state led) (just_received m.kind) front later has))
  by_received state before (Passed t (Sent m) ∷ front) later has =
      let led = led_by_sent state m.kind before in
      inr
      (beyond t state led (records_in (state_then state led) (just_sent state m.kind before) front later)
      (by_received (state_then state led) (just_sent state m.kind before) front later has))
  by_received state before (Passed t (Ended e) ∷ front) later has =
      let left = are_left (received_in (items_in (front ++ later))) in
      beyond_both t state (state_then state (led_by_end state)) (led_by_end state) (led_by_left state left) (records_in (state_after_end state left) Other front later)
      (by_received (state_after_end state left) Other front later has)

  by_sent : (state : State) (before : Before) (front later : List Event) → Has (λ (m : Message). OfSent m.octets.now) (sent_in (items_in front)) → Has Shows (records_in state before front later)
  by_sent state before [] later has = absurd has
  by_sent state before (Passed t (Received m) ∷ front) later has =
      let led = led_by_received state m.kind (is_answered_before_open m.kind (sent_in (items_in (front ++ later)))) in
      inr
      (beyond t state led (records_in (state_then state led) (just_received m.kind) front later) (by_sent (state_then state led) (just_received m.kind) front later has))
  by_sent state before (Passed t (Sent m) ∷ front) later (inl has) = inl has
  by_sent state before (Passed t (Sent m) ∷ front) later (inr has) =
      let led = led_by_sent state m.kind before in
      inr
      (beyond t state led (records_in (state_then state led) (just_sent state m.kind before) front later) (by_sent (state_then state led) (just_sent state m.kind before) front later has))
  by_sent state before (Passed t (Ended e) ∷ front) later has =
      let left = are_left (received_in (items_in (front ++ later))) in
      beyond_both t state (state_then state (led_by_end state)) (led_by_end state) (led_by_left state left) (records_in (state_after_end state left) Other front later)
      (by_sent (state_after_end state left) Other front later has)

  by_messages : (state : State) (before : Before) (front later : List Event) → SomeIs (received_in (items_in front)) (sent_in (items_in front)) → Has Shows (records_in state before front later)
  by_messages state before front later (inl has) = by_received state before front later has
  by_messages state before front later (inr has) = by_sent state before front later has

  of_way : (second : ℕ) (start : State) (events : List Event) → Has Shows (records_of_way second start events) → SomeIs (received_in (items_in events)) (sent_in (items_in events))
  of_way second start events (inl never) = absurd never
  of_way second start events (inr has) = to_messages start Other events [] has

  -- two ways of the same messages show the same
  alike : (second second2 : ℕ) (start start2 : State) (events events2 : List Event) → received_in (items_in events) ≡ received_in (items_in events2) → sent_in (items_in events) ≡ sent_in (items_in events2)
      → Has Shows (records_of_way second start events) → Has Shows (records_of_way second2 start2 events2)
  alike second second2 start start2 events events2 received sent has =
      inr
      (by_messages start2 Other events2 []
      (subst (λ (rs : List Message). SomeIs rs (sent_in (items_in events2))) received
      (subst (λ (ss : List Message). SomeIs (received_in (items_in events)) ss) sent (of_way second start events has))))

-- ---- that a message is sent, and that one has segments of a confederation

abbrev Any : List ℕ → Type 0
Any octets = Unit {0}

abbrev No : List ℕ → Type 0
No octets = ⊥

to_sends : (records : List ShownRecord) → SendsSome records → Has (Shows No Any) records
to_sends [] never = never
to_sends (shown.Received t octets ∷ records) sends = inr (to_sends records sends)
to_sends (shown.Sent t octets ∷ records) sends = inl tt
to_sends (shown.Changed t old new ∷ records) sends = inr (to_sends records sends)

from_sends : (records : List ShownRecord) → Has (Shows No Any) records → SendsSome records
from_sends [] never = never
from_sends (shown.Received t octets ∷ records) (inl never) = absurd never
from_sends (shown.Received t octets ∷ records) (inr has) = from_sends records has
from_sends (shown.Sent t octets ∷ records) has = tt
from_sends (shown.Changed t old new ∷ records) (inl never) = absurd never
from_sends (shown.Changed t old new ∷ records) (inr has) = from_sends records has

to_shows : (records : List ShownRecord) → SomeShowConfederations records → Has (Shows HasConfederation HasConfederation) records
to_shows [] never = never
to_shows (shown.Received t octets ∷ records) (inl this) = inl this
to_shows (shown.Received t octets ∷ records) (inr later) = inr (to_shows records later)
to_shows (shown.Sent t octets ∷ records) (inl this) = inl this
to_shows (shown.Sent t octets ∷ records) (inr later) = inr (to_shows records later)
to_shows (shown.Changed t old new ∷ records) (inl never) = absurd never
to_shows (shown.Changed t old new ∷ records) (inr later) = inr (to_shows records later)

from_shows : (records : List ShownRecord) → Has (Shows HasConfederation HasConfederation) records → SomeShowConfederations records
from_shows [] never = never
from_shows (shown.Received t octets ∷ records) (inl this) = inl this
from_shows (shown.Received t octets ∷ records) (inr later) = inr (from_shows records later)
from_shows (shown.Sent t octets ∷ records) (inl this) = inl this
from_shows (shown.Sent t octets ∷ records) (inr later) = inr (from_shows records later)
from_shows (shown.Changed t old new ∷ records) (inl never) = absurd never
from_shows (shown.Changed t old new ∷ records) (inr later) = inr (from_shows records later)

module _ (second second2 : ℕ) (start start2 : State) (events events2 : List Event) (received : received_in (items_in events) ≡ received_in (items_in events2))
    (sent : sent_in (items_in events) ≡ sent_in (items_in events2)) where
  pub sends_alike : SendsSome (records_of_way second start events) → SendsSome (records_of_way second2 start2 events2)
  sends_alike sends =
      from_sends (records_of_way second2 start2 events2)
      (alike No Any second second2 start start2 events events2 received sent (to_sends (records_of_way second start events) sends))

  pub confederations_alike : SomeShowConfederations (records_of_way second start events) → SomeShowConfederations (records_of_way second2 start2 events2)
  confederations_alike some =
      from_shows (records_of_way second2 start2 events2)
      (alike HasConfederation HasConfederation second second2 start start2 events events2 received sent (to_shows (records_of_way second start events) some))

-- ---- the first message that is such is one

pub one_sent : (Is : List ℕ → Type 0) (records : List ShownRecord) (one other : Option (List ℕ)) → FirstSent Is records one → FirstSent Is records other → one ≡ other
one_sent Is [] one other has too = has ∙ sym too
one_sent Is (shown.Sent t octets ∷ records) one other has too = elim has [
  | inl here ↦ elim too [ inl also ↦ here.1 ∙ sym also.1 | inr later ↦ absurd (later.0 here.0) ]
  | inr later ↦ elim too [ inl here ↦ absurd (later.0 here.0) | inr also ↦ one_sent Is records one other later.1 also.1 ]
]
one_sent Is (shown.Received t octets ∷ records) one other has too = one_sent Is records one other has too
one_sent Is (shown.Changed t old new ∷ records) one other has too = one_sent Is records one other has too

pub one_received : (Is : List ℕ → Type 0) (records : List ShownRecord) (one other : Option (List ℕ)) → FirstReceived Is records one → FirstReceived Is records other → one ≡ other
one_received Is [] one other has too = has ∙ sym too
one_received Is (shown.Received t octets ∷ records) one other has too = elim has [
  | inl here ↦ elim too [ inl also ↦ here.1 ∙ sym also.1 | inr later ↦ absurd (later.0 here.0) ]
  | inr later ↦ elim too [ inl here ↦ absurd (later.0 here.0) | inr also ↦ one_received Is records one other later.1 also.1 ]
]
one_received Is (shown.Sent t octets ∷ records) one other has too = one_received Is records one other has too
one_received Is (shown.Changed t old new ∷ records) one other has too = one_received Is records one other has too

-- ---- and that of the records is that of the messages

module _ (Is : List ℕ → Type 0) where
  sent_behind : (t : ℕ) (state : State) (led : Option State) (rest : List ShownRecord) (found : Option (List ℕ)) → FirstSent Is (changed_to t state led ++ rest) found → FirstSent Is rest found
  sent_behind t state None rest found first = first
  sent_behind t state (Some led) rest found first = first

  sent_behind_both : (t : ℕ) (one other : State) (led more : Option State) (rest : List ShownRecord) (found : Option (List ℕ))
      → FirstSent Is ((changed_to t one led ++ changed_to t other more) ++ rest) found → FirstSent Is rest found
  sent_behind_both t one other None None rest found first = first
  sent_behind_both t one other None (Some more) rest found first = first
  sent_behind_both t one other (Some led) None rest found first = first
  sent_behind_both t one other (Some led) (Some more) rest found first = first

  pub first_sent : (state : State) (before : Before) (front later : List Event) (found : Option (List ℕ)) → FirstSent Is (records_in state before front later) found
      → FirstSent Is (records_sent (sent_in (items_in front))) found
  first_sent state before [] later found first = first
  first_sent state before (Passed t (Received m) ∷ front) later found first =
      let led = led_by_received state m.kind (is_answered_before_open m.kind (sent_in (items_in (front ++ later)))) in
      first_sent (state_then state led) (just_received m.kind) front later found
      (sent_behind t state led (records_in (state_then state led) (just_received m.kind) front later) found first)
  first_sent state before (Passed t (Sent m) ∷ front) later found (inl this) = inl this
  first_sent state before (Passed t (Sent m) ∷ front) later found (inr rest) =
      let led = led_by_sent state m.kind before in
      inr (
        rest.0,
        first_sent (state_then state led) (just_sent state m.kind before) front later found
            (sent_behind t state led (records_in (state_then state led) (just_sent state m.kind before) front later) found rest.1),
      )
  first_sent state before (Passed t (Ended e) ∷ front) later found first =
      let left = are_left (received_in (items_in (front ++ later))) in
      first_sent (state_after_end state left) Other front later found
      (sent_behind_both t state (state_then state (led_by_end state)) (led_by_end state) (led_by_left state left) (records_in (state_after_end state left) Other front later) found first)

  received_behind : (t : ℕ) (state : State) (led : Option State) (rest : List ShownRecord) (found : Option (List ℕ)) → FirstReceived Is (changed_to t state led ++ rest) found
      → FirstReceived Is rest found
  received_behind t state None rest found first = first
  received_behind t state (Some led) rest found first = first

  received_behind_both : (t : ℕ) (one other : State) (led more : Option State) (rest : List ShownRecord) (found : Option (List ℕ))
      → FirstReceived Is ((changed_to t one led ++ changed_to t other more) ++ rest) found → FirstReceived Is rest found
  received_behind_both t one other None None rest found first = first
  received_behind_both t one other None (Some more) rest found first = first
  received_behind_both t one other (Some led) None rest found first = first
  received_behind_both t one other (Some led) (Some more) rest found first = first

  pub first_received : (state : State) (before : Before) (front later : List Event) (found : Option (List ℕ)) → FirstReceived Is (records_in state before front later) found
      → FirstReceived Is (records_received (received_in (items_in front))) found
  first_received state before [] later found first = first
  first_received state before (Passed t (Received m) ∷ front) later found (inl this) = inl this
  first_received state before (Passed t (Received m) ∷ front) later found (inr rest) =
      let led = led_by_received state m.kind (is_answered_before_open m.kind (sent_in (items_in (front ++ later)))) in
      inr (
        rest.0,
        first_received (state_then state led) (just_received m.kind) front later found
            (received_behind t state led (records_in (state_then state led) (just_received m.kind) front later) found rest.1),
      )
  first_received state before (Passed t (Sent m) ∷ front) later found first =
      let led = led_by_sent state m.kind before in
      first_received (state_then state led) (just_sent state m.kind before) front later found
      (received_behind t state led (records_in (state_then state led) (just_sent state m.kind before) front later) found first)
  first_received state before (Passed t (Ended e) ∷ front) later found first =
      let left = are_left (received_in (items_in (front ++ later))) in
      first_received (state_after_end state left) Other front later found
      (received_behind_both t state (state_then state (led_by_end state)) (led_by_end state) (led_by_left state left) (records_in (state_after_end state left) Other front later) found first)
