-- The records of ways, and chains of members in two parts.
use Rattle.std.proofs.Common.{◌≡◌, ◌⊎◌, inl, inr, ◌++◌, ℕ, List, [], ◌∷◌, Option, None, Some, map, refl, sym, ap, subst, ◌∙◌, append_assoc, append-nil}
use Rattle.std.proofs.lemmas.List.{map-append}
use Rattle.bgp_prefix.specs.Shown as shown
use Rattle.bgp_prefix.specs.Shown.{ShownRecord}
use Rattle.bgp_open.specs.declared.config.Config.{Config}
use Rattle.bgp_recording.specs.declared.pending.Moment.{Moment}
use Rattle.bgp_recording.specs.declared.standing.Before.{Before}
use Rattle.bgp_recording.specs.declared.standing.Before.TheVariants.{Other}
use Rattle.bgp_recording.specs.declared.state.State.{State}
use Rattle.bgp_recording.specs.declared.state.State.TheVariants.{Connect, Active}
use Rattle.streams.specs.declared.passed.Side.{Side}
use Rattle.streams.specs.declared.passed.Side.TheVariants.{Local, Peer}
use Rattle.bgp_recording.specs.Allowed.{Received, Sent, Ended, received_in, sent_in}
use Rattle.bgp_recording.specs.Changes.{led_by_received, led_by_sent, led_by_end, led_by_left, is_answered_before_open, just_received, just_sent, are_left, opened_state, state_then}
use Rattle.bgp_recording.specs.Moments.{end_moment, moment_in}
use Rattle.bgp_recording.specs.States.{state_number}
use Rattle.bgp_recording.specs.Tells.{Event, Passed, items_in, numbered_in, change}
use Rattle.bgp_judge.specs.Chains.{BareReaches}
use Rattle.bgp_judge.specs.Member.{Member}
use Rattle.bgp_orders.specs.Ways.{changed_to, received_records, sent_records, end_records, state_after_end, records_in, records_of_front, MadeIsAWay, FrontsBeginWays}

-- ---- the records are those that tell a session

pub change_shown : (moment : Moment) (second : ℕ) (state : State) (led : Option State) → map (λ n. n.shown) (change moment second state led) ≡ changed_to second state led
change_shown moment second state None = refl
change_shown moment second state (Some led) = refl

pub same_records : (state : State) (before : Before) (events : List Event) → map (λ n. n.shown) (numbered_in state before events) ≡ records_in state before events []
same_records state before [] = refl
same_records state before (Passed second (Received m) ∷ later) =
    let Records : List Event → List ShownRecord = λ v.
    received_records second state (led_by_received state m.kind (is_answered_before_open m.kind (sent_in (items_in v)))) m
    ++ records_in (state_then state (led_by_received state m.kind (is_answered_before_open m.kind (sent_in (items_in v))))) (just_received m.kind) later [] in
    let led = led_by_received state m.kind (is_answered_before_open m.kind (sent_in (items_in later))) in
    ap (λ (rs : List ShownRecord). shown.Received second m.octets.now ∷ rs)
    (map-append (λ n. n.shown) (change (moment_in m) second state led) (numbered_in (state_then state led) (just_received m.kind) later)
    ∙ ap (λ rs. rs ++ map (λ n. n.shown) (numbered_in (state_then state led) (just_received m.kind) later)) (change_shown (moment_in m) second state led)
    ∙ ap (λ rs. changed_to second state led ++ rs) (same_records (state_then state led) (just_received m.kind) later))
    ∙ ap Records (sym (append-nil later))
same_records state before (Passed second (Sent m) ∷ later) =
    let led = led_by_sent state m.kind before in
    ap (λ (rs : List ShownRecord). shown.Sent second m.octets.now ∷ rs)
    (map-append (λ n. n.shown) (change (moment_in m) second state led) (numbered_in (state_then state led) (just_sent state m.kind before) later)
    ∙ ap (λ rs. rs ++ map (λ n. n.shown) (numbered_in (state_then state led) (just_sent state m.kind before) later)) (change_shown (moment_in m) second state led)
    ∙ ap (λ rs. changed_to second state led ++ rs) (same_records (state_then state led) (just_sent state m.kind before) later))
same_records state before (Passed second (Ended e) ∷ later) =
    let Records : List Event → List ShownRecord = λ v.
    end_records second state (are_left (received_in (items_in v)))
    ++ records_in (state_after_end state (are_left (received_in (items_in v)))) Other later [] in
    let ended = state_then state (led_by_end state) in
    let left = led_by_left state (are_left (received_in (items_in later))) in
    let rest = numbered_in (state_then ended left) Other later in
    map-append (λ n. n.shown) (change (end_moment e) second state (led_by_end state)) (change (end_moment e) second ended left ++ rest)
    ∙ ap (λ rs. rs ++ map (λ n. n.shown) (change (end_moment e) second ended left ++ rest)) (change_shown (end_moment e) second state (led_by_end state))
    ∙ ap (λ rs. changed_to second state (led_by_end state) ++ rs)
    (map-append (λ n. n.shown) (change (end_moment e) second ended left) rest
    ∙ ap (λ rs. rs ++ map (λ n. n.shown) rest) (change_shown (end_moment e) second ended left)
    ∙ ap (λ rs. changed_to second ended left ++ rs) (same_records (state_then ended left) Other later))
    ∙ sym (append_assoc (changed_to second state (led_by_end state)) (changed_to second ended left) (records_in (state_then ended left) Other later []))
    ∙ ap Records (sym (append-nil later))

pub opened_either : (side : Side) → (opened_state side ≡ Connect) ⊎ (opened_state side ≡ Active)
opened_either Local = inl refl
opened_either Peer = inr refl

pub made_is_a_way : MadeIsAWay
made_is_a_way within exchange numbered tells =
    let start = opened_state exchange.opened_by in (
      tells.events,
      record {
        starts = (opened_either exchange.opened_by, λ r s. refl);
        allowed = tells.allowed;
        timed = tells.timed;
      },
      ap (λ v. map (λ n. n.shown) v) tells.shown
          ∙ ap (λ (rs : List ShownRecord). shown.Changed exchange.second 1 (state_number start) ∷ rs) (same_records start Other tells.events),
    )

-- ---- the records of a front

-- those of the first part of a front begin those of the front
pub more_records : (state : State) (before : Before) (front more later : List Event) → (rest : List ShownRecord)
    × (records_in state before front (more ++ later) ++ rest ≡ records_in state before (front ++ more) later)
more_records state before [] more later = (records_in state before more later, refl)
more_records state before (Passed second (Received m) ∷ front) more later =
    let Told : List Event → Type 0 = λ v. (rest : List ShownRecord)
    × (records_in state before (Passed second (Received m) ∷ front) (more ++ later) ++ rest
    ≡ received_records second state (led_by_received state m.kind (is_answered_before_open m.kind (sent_in (items_in v)))) m
    ++ records_in (state_then state (led_by_received state m.kind (is_answered_before_open m.kind (sent_in (items_in v))))) (just_received m.kind) (front ++ more) later) in
    let led = led_by_received state m.kind (is_answered_before_open m.kind (sent_in (items_in (front ++ (more ++ later))))) in
    let k = more_records (state_then state led) (just_received m.kind) front more later in
    subst Told (sym (append_assoc front more later)) (
      k.0,
      append_assoc (received_records second state led m) (records_in (state_then state led) (just_received m.kind) front (more ++ later)) k.0
          ∙ ap (λ (rs : List ShownRecord). received_records second state led m ++ rs) k.1,
    )
more_records state before (Passed second (Sent m) ∷ front) more later =
    let led = led_by_sent state m.kind before in
    let k = more_records (state_then state led) (just_sent state m.kind before) front more later in (
      k.0,
      append_assoc (sent_records second state led m) (records_in (state_then state led) (just_sent state m.kind before) front (more ++ later)) k.0
          ∙ ap (λ (rs : List ShownRecord). sent_records second state led m ++ rs) k.1,
    )
more_records state before (Passed second (Ended e) ∷ front) more later =
    let Told : List Event → Type 0 = λ v. (rest : List ShownRecord)
    × (records_in state before (Passed second (Ended e) ∷ front) (more ++ later) ++ rest
    ≡ end_records second state (are_left (received_in (items_in v)))
    ++ records_in (state_after_end state (are_left (received_in (items_in v)))) Other (front ++ more) later) in
    let left = are_left (received_in (items_in (front ++ (more ++ later)))) in
    let k = more_records (state_after_end state left) Other front more later in
    subst Told (sym (append_assoc front more later)) (
      k.0,
      append_assoc (end_records second state left) (records_in (state_after_end state left) Other front (more ++ later)) k.0
          ∙ ap (λ (rs : List ShownRecord). end_records second state left ++ rs) k.1,
    )

pub fronts_begin_ways : FrontsBeginWays
fronts_begin_ways second start front later =
    let k = more_records start Other front later [] in (
      k.0,
      ap (λ (v : List Event). records_of_front second start front v ++ k.0) (sym (append-nil later))
          ∙ ap (λ (rs : List ShownRecord). shown.Changed second 1 (state_number start) ∷ rs) k.1,
    )

-- ---- chains in two parts

pub join : (config : Config) (m mid last : Member) (front later : List ShownRecord) → BareReaches config m front mid → BareReaches config mid later last
    → BareReaches config m (front ++ later) last
join config m mid last [] later e rest = subst (λ (v : Member). BareReaches config v later last) (sym e) rest
join config m mid last (r ∷ front) later k rest = (k.0, k.1, join config k.0 mid last front later k.2 rest)

pub part : (config : Config) (m last : Member) (front later : List ShownRecord) → BareReaches config m (front ++ later) last
    → (mid : Member) × BareReaches config m front mid × BareReaches config mid later last
part config m last [] later rest = (m, refl, rest)
part config m last (r ∷ front) later k =
    let x = part config k.0 last front later k.2 in
    (x.0, (k.0, k.1, x.1), x.2)
