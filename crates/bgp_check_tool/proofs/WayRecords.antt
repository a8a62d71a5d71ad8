-- The records of the front of a way are a stretch, with the messages of that front.
use Rattle.std.proofs.Common.{◌≡◌, ◌≢◌, ◌++◌, ◌⊎◌, ℕ, List, [], ◌∷◌, Option, None, Some, inl, inr, map, refl, sym, ap, arith}
use Rattle.bgp_prefix.specs.Shown as shown
use Rattle.bgp_prefix.specs.Shown.{ShownRecord}
use Rattle.bgp_machine.specs.Lists.{Each}
use Rattle.mrt.specs.Reader.{shown_of}
use Rattle.mrt.specs.declared.record.Record.TheVariants.{In, Out}
use Rattle.bgp_recording.specs.Allowed.{Ended, Item, Received, Sent, received_in, sent_in}
use Rattle.bgp_recording.specs.Changes.{are_left, is_answered_before_open, just_received, just_sent, led_by_end, led_by_left, led_by_received, led_by_sent, state_then}
use Rattle.bgp_recording.specs.Moments.{end_moment, moment_in}
use Rattle.bgp_recording.specs.States.{state_number}
use Rattle.bgp_recording.specs.Tells.{Event, Passed, change, items_in}
use Rattle.bgp_recording.specs.declared.message.Message.{Message}
use Rattle.bgp_recording.specs.declared.pending.Moment.{Moment}
use Rattle.bgp_recording.specs.declared.standing.Before.{Before}
use Rattle.bgp_recording.specs.declared.standing.Before.TheVariants.{Other}
use Rattle.bgp_recording.specs.declared.state.State.{State}
use Rattle.bgp_recording.specs.declared.state.State.TheVariants.{Active, Connect}
use Rattle.bgp_open.specs.OpenFault.{IsWellFormed}
use Rattle.bgp_orders.specs.Ways.{changed_to, end_records, records_in, records_of_front, state_after_end}
use Rattle.bgp_parts.specs.Opens.{FirstReceived, FirstSent, SendsNoOpen, SendsNone}
use Rattle.bgp_check.specs.Stretch.{AtMostTheLastLeaves, IsStretch, LeavesIdle}
use Rattle.bgp_check_tool.specs.Orders.{records_received, records_sent}
use Rattle.bgp_check_tool.proofs.Stretch.{by_end, by_left, by_received, by_sent}

pub all_received : (ms : List Message) → map shown_of (map (λ (m : Message). In m.second m.octets) ms) ≡ records_received ms
all_received [] = refl
all_received (m ∷ ms) = ap (λ (rs : List ShownRecord). shown.Received m.second m.octets.now ∷ rs) (all_received ms)

pub all_sent : (ms : List Message) → map shown_of (map (λ (m : Message). Out m.second m.octets) ms) ≡ records_sent ms
all_sent [] = refl
all_sent (m ∷ ms) = ap (λ (rs : List ShownRecord). shown.Sent m.second m.octets.now ∷ rs) (all_sent ms)

none_some : (own : List ℕ) → None ≡ Some own → ⊥
none_some own e = cc

-- ---- the first message of a list, and of its front

module _ (Is : List ℕ → Type 0) where
  pub received_before : (xs ys : List Message) (found : Option (List ℕ)) → FirstReceived Is (records_received (xs ++ ys)) found
      → FirstReceived Is (records_received xs) found ⊎ FirstReceived Is (records_received xs) None
  received_before [] ys found first = inr refl
  received_before (x ∷ xs) ys found (inl this) = inl (inl this)
  received_before (x ∷ xs) ys found (inr later) = elim (received_before xs ys found later.1) [
    | inl same ↦ inl (inr (later.0, same))
    | inr none ↦ inr (inr (later.0, none))
  ]

  pub none_sent_before : (xs ys : List Message) → FirstSent Is (records_sent (xs ++ ys)) None → FirstSent Is (records_sent xs) None
  none_sent_before [] ys first = refl
  none_sent_before (x ∷ xs) ys (inl this) = inl this
  none_sent_before (x ∷ xs) ys (inr later) = inr (later.0, none_sent_before xs ys later.1)

  pub sent_within : (xs ys : List Message) (own : List ℕ) → FirstSent Is (records_sent xs) (Some own) → FirstSent Is (records_sent (xs ++ ys)) (Some own)
  sent_within [] ys own first = let no : None ≡ Some own = sym first in absurd (none_some own no)
  sent_within (x ∷ xs) ys own (inl this) = inl this
  sent_within (x ∷ xs) ys own (inr later) = inr (later.0, sent_within xs ys own later.1)

  -- ---- and of the records of a front

  past_change : (second : ℕ) (state : State) (led : Option State) (records : List ShownRecord) (found : Option (List ℕ)) → FirstReceived Is records found
      → FirstReceived Is (changed_to second state led ++ records) found
  past_change second state None records found first = first
  past_change second state (Some led) records found first = first

  past_changes : (second : ℕ) (one other : State) (led more : Option State) (records : List ShownRecord) (found : Option (List ℕ)) → FirstReceived Is records found
      → FirstReceived Is ((changed_to second one led ++ changed_to second other more) ++ records) found
  past_changes second one other None None records found first = first
  past_changes second one other None (Some more) records found first = first
  past_changes second one other (Some led) None records found first = first
  past_changes second one other (Some led) (Some more) records found first = first

  pub received_first : (state : State) (before : Before) (front later : List Event) (found : Option (List ℕ)) → FirstReceived Is (records_received (received_in (items_in front))) found
      → FirstReceived Is (records_in state before front later) found
  received_first state before [] later found first = first
  received_first state before (Passed second (Received m) ∷ front) later found (inl this) = inl this
  received_first state before (Passed second (Received m) ∷ front) later found (inr rest) =
      let led = led_by_received state m.kind (is_answered_before_open m.kind (sent_in (items_in (front ++ later)))) in
      inr (
        rest.0,
        past_change second state led (records_in (state_then state led) (just_received m.kind) front later) found
            (received_first (state_then state led) (just_received m.kind) front later found rest.1),
      )
  received_first state before (Passed second (Sent m) ∷ front) later found first =
      let led = led_by_sent state m.kind before in
      past_change second state led (records_in (state_then state led) (just_sent state m.kind before) front later) found
      (received_first (state_then state led) (just_sent state m.kind before) front later found first)
  received_first state before (Passed second (Ended e) ∷ front) later found first =
      let left = are_left (received_in (items_in (front ++ later))) in
      past_changes second state (state_then state (led_by_end state)) (led_by_end state) (led_by_left state left) (records_in (state_after_end state left) Other front later) found
      (received_first (state_after_end state left) Other front later found first)

  beyond_change : (second : ℕ) (state : State) (led : Option State) (records : List ShownRecord) (found : Option (List ℕ)) → FirstSent Is records found
      → FirstSent Is (changed_to second state led ++ records) found
  beyond_change second state None records found first = first
  beyond_change second state (Some led) records found first = first

  beyond_changes : (second : ℕ) (one other : State) (led more : Option State) (records : List ShownRecord) (found : Option (List ℕ)) → FirstSent Is records found
      → FirstSent Is ((changed_to second one led ++ changed_to second other more) ++ records) found
  beyond_changes second one other None None records found first = first
  beyond_changes second one other None (Some more) records found first = first
  beyond_changes second one other (Some led) None records found first = first
  beyond_changes second one other (Some led) (Some more) records found first = first

  pub sent_first : (state : State) (before : Before) (front later : List Event) (found : Option (List ℕ)) → FirstSent Is (records_sent (sent_in (items_in front))) found
      → FirstSent Is (records_in state before front later) found
  sent_first state before [] later found first = first
  sent_first state before (Passed second (Received m) ∷ front) later found first =
      let led = led_by_received state m.kind (is_answered_before_open m.kind (sent_in (items_in (front ++ later)))) in
      beyond_change second state led (records_in (state_then state led) (just_received m.kind) front later) found
      (sent_first (state_then state led) (just_received m.kind) front later found first)
  sent_first state before (Passed second (Sent m) ∷ front) later found (inl this) = inl this
  sent_first state before (Passed second (Sent m) ∷ front) later found (inr rest) =
      let led = led_by_sent state m.kind before in
      inr (
        rest.0,
        beyond_change second state led (records_in (state_then state led) (just_sent state m.kind before) front later) found
            (sent_first (state_then state led) (just_sent state m.kind before) front later found rest.1),
      )
  sent_first state before (Passed second (Ended e) ∷ front) later found first =
      let left = are_left (received_in (items_in (front ++ later))) in
      beyond_changes second state (state_then state (led_by_end state)) (led_by_end state) (led_by_left state left) (records_in (state_after_end state left) Other front later) found
      (sent_first (state_after_end state left) Other front later found first)

  -- where no message is such, no record is one that is sent
  none_is_sent : (records : List ShownRecord) → FirstSent Is records None → Each (SendsNone Is) records
  none_is_sent [] first = tt
  none_is_sent (shown.Received t octets ∷ records) first = (tt, none_is_sent records first)
  none_is_sent (shown.Sent t octets ∷ records) (inl this) = let no : None ≡ Some octets = this.1 in absurd (none_some octets no)
  none_is_sent (shown.Sent t octets ∷ records) (inr later) = (later.0, none_is_sent records later.1)
  none_is_sent (shown.Changed t old new ∷ records) first = (tt, none_is_sent records first)

-- ---- no record of a front but the first leaves Idle

abbrev Stays : ShownRecord → Type 0
Stays r = ¬ LeavesIdle r

join : (xs ys : List ShownRecord) → Each Stays xs → Each Stays ys → Each Stays (xs ++ ys)
join [] ys p q = q
join (x ∷ xs) ys p q = (p.0, join xs ys p.1 q)

as_shown : (moment : Moment) (second : ℕ) (state : State) (led : Option State) → Each (λ n. ¬ LeavesIdle n.shown) (change moment second state led) → Each Stays (changed_to second state led)
as_shown moment second state None each = tt
as_shown moment second state (Some led) each = each

none_leaves : (state : State) (before : Before) (front later : List Event) → Each Stays (records_in state before front later)
none_leaves state before [] later = tt
none_leaves state before (Passed second (Received m) ∷ front) later =
    let answered = is_answered_before_open m.kind (sent_in (items_in (front ++ later))) in
    let led = led_by_received state m.kind answered in (
      λ leaves. leaves,
      join (changed_to second state led) (records_in (state_then state led) (just_received m.kind) front later)
          (as_shown (moment_in m) second state led (by_received (moment_in m) second state m.kind answered)) (none_leaves (state_then state led) (just_received m.kind) front later),
    )
none_leaves state before (Passed second (Sent m) ∷ front) later =
    let led = led_by_sent state m.kind before in (
      λ leaves. leaves,
      join (changed_to second state led) (records_in (state_then state led) (just_sent state m.kind before) front later)
          (as_shown (moment_in m) second state led (by_sent (moment_in m) second state m.kind before)) (none_leaves (state_then state led) (just_sent state m.kind before) front later),
    )
none_leaves state before (Passed second (Ended e) ∷ front) later =
    let left = are_left (received_in (items_in (front ++ later))) in
    join (end_records second state left) (records_in (state_after_end state left) Other front later)
    (join (changed_to second state (led_by_end state)) (changed_to second (state_then state (led_by_end state)) (led_by_left state left))
    (as_shown (end_moment e) second state (led_by_end state) (by_end (end_moment e) second state))
    (as_shown (end_moment e) second (state_then state (led_by_end state)) (led_by_left state left) (by_left (end_moment e) second state left)))
    (none_leaves (state_after_end state left) Other front later)

at_most : (records : List ShownRecord) → Each Stays records → AtMostTheLastLeaves records
at_most [] each = tt
at_most (r ∷ []) each = tt
at_most (r ∷ next ∷ records) each = (each.0, at_most (next ∷ records) each.1)

not_idle : (start : State) → (start ≡ Connect) ⊎ (start ≡ Active) → state_number start ≢ 1
not_idle start (inl is) e = let two : state_number start ≡ 2 = ap state_number is in omega (arith, e, two)
not_idle start (inr is) e = let three : state_number start ≡ 3 = ap state_number is in omega (arith, e, three)

pub front_is_stretch : (second : ℕ) (start : State) (front later : List Event) → (start ≡ Connect) ⊎ (start ≡ Active) → IsStretch (records_of_front second start front later)
front_is_stretch second start front later starts =
    ((refl, not_idle start starts), at_most (records_in start Other front later) (none_leaves start Other front later))

-- ---- its messages

pub items_joined : (front later : List Event) → items_in (front ++ later) ≡ items_in front ++ items_in later
items_joined [] later = refl
items_joined (Passed second item ∷ front) later = ap (λ (items : List Item). item ∷ items) (items_joined front later)

pub received_joined : (xs ys : List Item) → received_in (xs ++ ys) ≡ received_in xs ++ received_in ys
received_joined [] ys = refl
received_joined (Received m ∷ xs) ys = ap (λ (ms : List Message). m ∷ ms) (received_joined xs ys)
received_joined (Sent m ∷ xs) ys = received_joined xs ys
received_joined (Ended e ∷ xs) ys = received_joined xs ys

pub sent_joined : (xs ys : List Item) → sent_in (xs ++ ys) ≡ sent_in xs ++ sent_in ys
sent_joined [] ys = refl
sent_joined (Received m ∷ xs) ys = sent_joined xs ys
sent_joined (Sent m ∷ xs) ys = ap (λ (ms : List Message). m ∷ ms) (sent_joined xs ys)
sent_joined (Ended e ∷ xs) ys = sent_joined xs ys

-- the records of the front with its changes send no OPEN, if no message of it is one
pub front_sends_none : (second : ℕ) (start : State) (front later : List Event) → FirstSent IsWellFormed (records_sent (sent_in (items_in front))) None
    → Each SendsNoOpen (records_of_front second start front later)
front_sends_none second start front later first =
    (tt, none_is_sent IsWellFormed (records_in start Other front later) (sent_first IsWellFormed start Other front later None first))
