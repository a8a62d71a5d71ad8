-- The entries of a way, made item by item.
use Rattle.std.proofs.Common.{◌≡◌, ◌++◌, ◌+◌, ℕ, Bool, List, [], ◌∷◌, Option, None, Some, drop, map, max, refl, sym, ap, subst, ◌∙◌, append_assoc, append-nil}
use Rattle.bgp_prefix.specs.Shown as shown
use Rattle.bgp_prefix.specs.Shown.{ShownRecord}
use Rattle.mrt.specs.Reader.{shown_of}
use Rattle.streams.specs.declared.connection.End.{End}
use Rattle.bgp_machine.specs.Run.{IsComplete}
use Rattle.bgp_recording.specs.declared.entry.Entry.{Entry}
use Rattle.bgp_recording.specs.declared.message.Message.{Message}
use Rattle.bgp_recording.specs.declared.pending.Moment.{Moment}
use Rattle.bgp_recording.specs.declared.ordering.Exchange.{Exchange}
use Rattle.bgp_recording.specs.declared.standing.Before.TheVariants.{Other}
use Rattle.bgp_recording.specs.declared.state.State.{State}
use Rattle.bgp_recording.specs.Allowed.{Item, Received, Sent, Ended, received_in, sent_in}
use Rattle.bgp_recording.specs.Captured.{records_of}
use Rattle.bgp_recording.specs.Changes.{led_by_received, led_by_sent, led_by_end, led_by_left, is_answered_before_open, just_received, are_left, state_then}
use Rattle.bgp_recording.specs.First.{IsFirst}
use Rattle.bgp_recording.specs.Leads.{MayReceive, MayPass, IsDone}
use Rattle.bgp_recording.specs.Moments.{end_moment, moment_in}
use Rattle.bgp_recording.specs.States.{state_number}
use Rattle.bgp_recording.specs.Tells.{Event, Passed, Numbered, AreTimed, items_in, numbered_in, numbered_of, numbered_with, change, second_behind}
use Rattle.bgp_recording.specs.Told.{IsTold}
use Rattle.bgp_recording.proofs.Lists.{first_is}
use Rattle.bgp_orders.specs.declared.node.Spot.{Spot}
use Rattle.bgp_orders.specs.declared.search.Ending.{Ending}
use Rattle.bgp_orders.specs.declared.search.Turn.{Turn}
use Rattle.bgp_orders.specs.Entries.{numbered_of_way, AreOfAWay, EntriesShowTheWay, RunsOfEntriesAreWhole, events_behind, AreUnderWay}
use Rattle.bgp_orders.specs.Rows.{end_left, pending_at}
use Rattle.bgp_orders.specs.Turns.{Hearing, Saying, Closing, led_at, first_spot, heard_spot, said_spot, left_at, ended_spot}
use Rattle.bgp_orders.specs.Walks.{IsWalk}
use Rattle.bgp_orders.specs.Ways.{MayStart}
use Rattle.bgp_orders.proofs.Fronts.{walk_received, walk_sent}
use Rattle.bgp_orders.proofs.Reached.{timed_walk, told_seconds}
use Rattle.bgp_orders.proofs.Steps.{same_first, left_is}
use Rattle.bgp_orders.proofs.Walks.{walks_are_orders}
use Rattle.bgp_orders.proofs.Ways.{same_records}

-- ---- an order and its events

items_behind : (before : ℕ) (order : List Item) → items_in (events_behind before order) ≡ order
items_behind before [] = refl
items_behind before (item ∷ later) = ap (λ (v : List Item). item ∷ v) (items_behind (second_behind before item) later)

-- events that have their seconds are those of their order
timed_is : (before : ℕ) (events : List Event) → AreTimed before events → events ≡ events_behind before (items_in events)
timed_is before [] h = refl
timed_is before (Passed second item ∷ later) h =
    ap (λ (v : List Event). Passed second item ∷ v) (timed_is second later h.2)
    ∙ ap (λ (t : ℕ). Passed t item ∷ events_behind t (items_in later)) h.1

-- ---- the records of a way

pub map_map : (entries : List Entry) → map (λ (n : Numbered). n.shown) (map numbered_of entries) ≡ records_of entries
map_map [] = refl
map_map (entry ∷ entries) = ap (λ (v : List ShownRecord). shown_of entry.record ∷ v) (map_map entries)

pub entries_show_the_way : EntriesShowTheWay
entries_show_the_way within exchange entries of =
    sym (map_map entries)
    ∙ ap (λ (v : List Numbered). map (λ n. n.shown) v) of.numbered
    ∙ ap (λ (v : List ShownRecord). shown.Changed exchange.second 1 (state_number of.start) ∷ v) (same_records of.start Other of.events)

pub runs_of_entries_are_whole : RunsOfEntriesAreWhole
runs_of_entries_are_whole config within exchange entries e of complete = record {
  start = of.start;
  events = of.events;
  way = of.way;
  complete = subst (λ (v : List ShownRecord). IsComplete config v e) (entries_show_the_way within exchange entries of) complete;
}

-- ---- one item more

-- what is shown of a message at this second, with the change to which it leads
abbrev shown_message : Moment → ShownRecord → ℕ → State → Option State → List Numbered
shown_message moment r second state led = numbered_with moment r ∷ change moment second state led

-- the records of what follows from a spot on
abbrev rest_of : Spot → List Item → List Numbered
rest_of spot later = numbered_in spot.state spot.before (events_behind spot.last later)

heard_here : (within : ℕ) (exchange : Exchange) (start : State) (spot : Spot) (x : Message) (numbered : List Numbered) → IsFirst (drop spot.place.received exchange.received.now) x
    → MayReceive x (drop spot.place.sent exchange.sent.now) (end_left spot.has_ended exchange.end) → AreUnderWay within exchange start spot numbered
    → AreUnderWay within exchange start (heard_spot exchange spot x)
    (numbered ++ shown_message (moment_in x) (shown.Received (max x.second spot.last) x.octets.now) (max x.second spot.last) spot.state (led_at exchange spot x))
heard_here within exchange start spot x numbered first may under later w =
    let left : List Message = drop (spot.place.received + 1) exchange.received.now in
    let sent : List Message = drop spot.place.sent exchange.sent.now in
    let second : ℕ = max x.second spot.last in
    let k = under (Received x ∷ later) (left, first_is exchange.received.now spot.place.received x first, may, w) in
    let led : List Message → Option State = λ ss. led_by_received spot.state x.kind (is_answered_before_open x.kind ss) in
    let front : List Message → List Numbered = λ ss. shown_message (moment_in x) (shown.Received second x.octets.now) second spot.state (led ss) in
    let rest : List Message → List Numbered = λ ss. numbered_in (state_then spot.state (led ss)) (just_received x.kind) (events_behind second later) in
    let e : sent_in (items_in (events_behind second later)) ≡ sent =
    ap sent_in (items_behind second later) ∙ walk_sent within left sent (end_left spot.has_ended exchange.end) later w in (
      k.0,
      k.1,
      k.2 ∙ ap (λ (ss : List Message). numbered ++ (front ss ++ rest ss)) e ∙ sym (append_assoc numbered (front sent) (rest sent)),
    )

pub heard_on : (within : ℕ) (exchange : Exchange) (start : State) (spot : Spot) (turn : Turn) (spot2 : Spot) (numbered new : List Numbered) → Hearing exchange spot turn → spot2 ≡ turn.spot
    → new ≡ numbered ++ numbered_with turn.moment (shown_of turn.record) ∷ change turn.moment turn.spot.last spot.state turn.led
    → AreUnderWay within exchange start spot numbered → AreUnderWay within exchange start spot2 new
heard_on within exchange start spot turn spot2 numbered new h there e under =
    let x = h.message in
    let received : List Message = drop spot.place.received exchange.received.now in
    let may = subst (λ (v : Message). MayReceive v (drop spot.place.sent exchange.sent.now) (end_left spot.has_ended exchange.end)) (same_first received h.may.0 x h.may.1 h.first) h.may.2 in
    let Then : Spot → List Numbered → Type 0 = λ s ns. AreUnderWay within exchange start s ns in
    let is : new ≡ numbered ++ shown_message (moment_in x) (shown.Received (max x.second spot.last) x.octets.now) (max x.second spot.last) spot.state (led_at exchange spot x) =
    e
    ∙ ap (λ (p : Moment). numbered ++ shown_message p (shown_of turn.record) turn.spot.last spot.state turn.led) h.moment
    ∙ ap (λ (r : ShownRecord). numbered ++ shown_message (moment_in x) r turn.spot.last spot.state turn.led) h.shows
    ∙ ap (λ (s : Spot). numbered ++ shown_message (moment_in x) (shown.Received (max x.second spot.last) x.octets.now) s.last spot.state turn.led) h.leads
    ∙ ap (λ (led : Option State). numbered ++ shown_message (moment_in x) (shown.Received (max x.second spot.last) x.octets.now) (max x.second spot.last) spot.state led) h.led in
    subst (λ (s : Spot). Then s new) (sym (there ∙ h.leads))
    (subst (λ (ns : List Numbered). Then (heard_spot exchange spot x) ns) (sym is) (heard_here within exchange start spot x numbered h.first may under))

said_here : (within : ℕ) (exchange : Exchange) (start : State) (spot : Spot) (x : Message) (numbered : List Numbered) → IsFirst (drop spot.place.sent exchange.sent.now) x
    → MayPass within x.second (drop spot.place.received exchange.received.now) → AreUnderWay within exchange start spot numbered
    → AreUnderWay within exchange start (said_spot spot x)
    (numbered ++ shown_message (moment_in x) (shown.Sent x.second x.octets.now) x.second spot.state (led_by_sent spot.state x.kind spot.before))
said_here within exchange start spot x numbered first may under later w =
    let left : List Message = drop (spot.place.sent + 1) exchange.sent.now in
    let k = under (Sent x ∷ later) (left, first_is exchange.sent.now spot.place.sent x first, may, w) in
    let front : List Numbered = shown_message (moment_in x) (shown.Sent x.second x.octets.now) x.second spot.state (led_by_sent spot.state x.kind spot.before) in (
      k.0,
      k.1,
      k.2 ∙ sym (append_assoc numbered front (rest_of (said_spot spot x) later)),
    )

pub said_on : (within : ℕ) (exchange : Exchange) (start : State) (spot : Spot) (turn : Turn) (spot2 : Spot) (numbered new : List Numbered) → Saying within exchange spot turn → spot2 ≡ turn.spot
    → new ≡ numbered ++ numbered_with turn.moment (shown_of turn.record) ∷ change turn.moment turn.spot.last spot.state turn.led
    → AreUnderWay within exchange start spot numbered → AreUnderWay within exchange start spot2 new
said_on within exchange start spot turn spot2 numbered new h there e under =
    let x = h.message in
    let sent : List Message = drop spot.place.sent exchange.sent.now in
    let may = subst (λ (v : Message). MayPass within v.second (drop spot.place.received exchange.received.now)) (same_first sent h.may.0 x h.may.1 h.first) h.may.2 in
    let Then : Spot → List Numbered → Type 0 = λ s ns. AreUnderWay within exchange start s ns in
    let is : new ≡ numbered ++ shown_message (moment_in x) (shown.Sent x.second x.octets.now) x.second spot.state (led_by_sent spot.state x.kind spot.before) =
    e
    ∙ ap (λ (p : Moment). numbered ++ shown_message p (shown_of turn.record) turn.spot.last spot.state turn.led) h.moment
    ∙ ap (λ (r : ShownRecord). numbered ++ shown_message (moment_in x) r turn.spot.last spot.state turn.led) h.shows
    ∙ ap (λ (s : Spot). numbered ++ shown_message (moment_in x) (shown.Sent x.second x.octets.now) s.last spot.state turn.led) h.leads
    ∙ ap (λ (led : Option State). numbered ++ shown_message (moment_in x) (shown.Sent x.second x.octets.now) x.second spot.state led) h.led in
    subst (λ (s : Spot). Then s new) (sym (there ∙ h.leads))
    (subst (λ (ns : List Numbered). Then (said_spot spot x) ns) (sym is) (said_here within exchange start spot x numbered h.first may under))

-- the changes to which the end leads, if received messages are left or not
abbrev shown_end : Moment → ℕ → State → Bool → List Numbered
shown_end moment second state left =
    change moment second state (led_by_end state) ++ change moment second (state_then state (led_by_end state)) (led_by_left state left)

ended_here : (within : ℕ) (exchange : Exchange) (start : State) (spot : Spot) (e : End) (numbered : List Numbered) → end_left spot.has_ended exchange.end ≡ Some e
    → drop spot.place.sent exchange.sent.now ≡ [] → MayPass within e.second (drop spot.place.received exchange.received.now) → AreUnderWay within exchange start spot numbered
    → AreUnderWay within exchange start (ended_spot exchange spot e) (numbered ++ shown_end (end_moment e) (max e.second spot.last) spot.state (left_at exchange spot))
ended_here within exchange start spot e numbered is none may under later w =
    let received : List Message = drop spot.place.received exchange.received.now in
    let second : ℕ = max e.second spot.last in
    let k = under (Ended e ∷ later) (is, none, may, w) in
    let ended : State = state_then spot.state (led_by_end spot.state) in
    let one : List Numbered = change (end_moment e) second spot.state (led_by_end spot.state) in
    let other : List Message → List Numbered = λ rs. change (end_moment e) second ended (led_by_left spot.state (are_left rs)) in
    let rest : List Message → List Numbered = λ rs. numbered_in (state_then ended (led_by_left spot.state (are_left rs))) Other (events_behind second later) in
    let same : received_in (items_in (events_behind second later)) ≡ received =
    ap received_in (items_behind second later) ∙ walk_received within received (drop spot.place.sent exchange.sent.now) None later w in (
      k.0,
      k.1,
      k.2
          ∙ ap (λ (rs : List Message). numbered ++ (one ++ (other rs ++ rest rs))) same
          ∙ ap (λ (ns : List Numbered). numbered ++ ns) (sym (append_assoc one (other received) (rest received)))
          ∙ sym (append_assoc numbered (one ++ other received) (rest received)),
    )

pub ended_on : (within : ℕ) (exchange : Exchange) (start : State) (spot : Spot) (ending : Ending) (spot2 : Spot) (numbered new : List Numbered) → Closing within exchange spot ending → spot2 ≡ ending.spot
    → new ≡ numbered ++ (change ending.moment ending.spot.last spot.state (led_by_end spot.state)
    ++ change ending.moment ending.spot.last (state_then spot.state (led_by_end spot.state)) (led_by_left spot.state ending.are_left))
    → AreUnderWay within exchange start spot numbered → AreUnderWay within exchange start spot2 new
ended_on within exchange start spot ending spot2 numbered new h there e under =
    let x = h.end in
    let left = left_is spot.has_ended exchange.end x (λ v. MayPass within v.second (drop spot.place.received exchange.received.now)) h.is h.may.1 in
    let Then : Spot → List Numbered → Type 0 = λ s ns. AreUnderWay within exchange start s ns in
    let is : new ≡ numbered ++ shown_end (end_moment x) (max x.second spot.last) spot.state (left_at exchange spot) =
    e
    ∙ ap (λ (p : Moment). numbered ++ shown_end p ending.spot.last spot.state ending.are_left) h.moment
    ∙ ap (λ (s : Spot). numbered ++ shown_end (end_moment x) s.last spot.state ending.are_left) h.leads
    ∙ ap (λ (b : Bool). numbered ++ shown_end (end_moment x) (max x.second spot.last) spot.state b) h.left in
    subst (λ (s : Spot). Then s new) (sym (there ∙ h.leads))
    (subst (λ (ns : List Numbered). Then (ended_spot exchange spot x) ns) (sym is) (ended_here within exchange start spot x numbered left.0 h.may.0 left.1 under))

-- ---- from the first record to the last

pub first_under_way : (within : ℕ) (exchange : Exchange) (start : State) (spot : Spot) (numbered : List Numbered) → spot ≡ first_spot exchange start
    → numbered ≡ numbered_of_way exchange start [] → AreUnderWay within exchange start spot numbered
first_under_way within exchange start spot numbered there e =
    subst (λ (s : Spot). AreUnderWay within exchange start s numbered) (sym there)
    (subst (λ (ns : List Numbered). AreUnderWay within exchange start (first_spot exchange start) ns) (sym e) (λ later w. (later, w, refl)))

pub all_of_a_way : (within : ℕ) (exchange : Exchange) (start : State) (spot : Spot) (entries : List Entry) → MayStart exchange start → IsDone (pending_at exchange spot)
    → AreUnderWay within exchange start spot (map numbered_of entries) → IsTold exchange → AreOfAWay within exchange entries
all_of_a_way within exchange start spot entries may done under told =
    let k = under [] (done.received, done.sent, done.end) in
    let t = timed_walk within told.clock k.0 exchange.second exchange.received.now exchange.sent.now exchange.end told.go_by (told_seconds exchange told) k.1 in
    let is : t.0 ≡ events_behind exchange.second k.0 = timed_is exchange.second t.0 t.2 ∙ ap (λ (v : List Item). events_behind exchange.second v) t.1 in
    record {
      start = start;
      events = t.0;
      way = record {
        starts = may;
        allowed = walks_are_orders within told.clock exchange.received.now exchange.sent.now exchange.end (items_in t.0) told.go_by
            (subst (λ (v : List Item). IsWalk within exchange.received.now exchange.sent.now exchange.end v) (sym t.1) k.1);
        timed = t.2;
      };
      numbered = sym (append-nil (map numbered_of entries)) ∙ sym k.2 ∙ sym (ap (λ (v : List Event). numbered_of_way exchange start v) is);
    }
