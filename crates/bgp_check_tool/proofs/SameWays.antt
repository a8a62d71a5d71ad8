-- What packets tell of a connection has the same ways, whoever frames its messages.
use Rattle.std.proofs.Common.{◌≡◌, ◌∙◌, ◌<◌, ◌≤◌, ◌+◌, ◌++◌, ℕ, Bool, List, [], ◌∷◌, Option, ap, map, max, refl, subst, sym}
use Rattle.std.specs.List.{AllByRecursion}
use Rattle.bgp_prefix.specs.Shown as shown
use Rattle.bgp_prefix.specs.Shown.{ShownRecord}
use Rattle.streams.specs.declared.connection.Connection.{Connection}
use Rattle.streams.specs.declared.connection.End.{End}
use Rattle.streams.specs.declared.passed.Side.TheVariants.{Local}
use Rattle.bgp_wire.specs.declared.header.MessageType.{MessageType}
use Rattle.bgp_open.specs.declared.config.Config.{Config}
use Rattle.bgp_machine.specs.Run.{End as RunEnd, IsComplete}
use Rattle.bgp_recording.specs.Allowed.{Ended, EachMayPrecede, IsAllowed, Item, MayPrecede, Received, Sent, ends_in, received_in, sent_in}
use Rattle.bgp_recording.specs.Changes.{answers_before_open, are_left, code_in, is_answered_before_open, just_received, just_sent, led_by_received, led_by_sent, opened_state, state_then}
use Rattle.bgp_recording.specs.Gathered.{IsClocked, IsHeard, IsSaid}
use Rattle.bgp_recording.specs.Moments.{end_moment}
use Rattle.bgp_recording.specs.Once.{AreSame}
use Rattle.bgp_recording.specs.States.{state_number}
use Rattle.bgp_recording.specs.Tells.{AreTimed, Event, Passed, items_in}
use Rattle.bgp_recording.specs.Values.{MessageValue, message_value, values_of}
use Rattle.bgp_recording.specs.declared.framing.Framings.{Framings}
use Rattle.bgp_recording.specs.declared.framing.Unshown.{Unshown}
use Rattle.bgp_recording.specs.declared.message.Message.{Message}
use Rattle.bgp_recording.specs.declared.ordering.Exchange.{Exchange}
use Rattle.bgp_recording.specs.declared.standing.Before.{Before}
use Rattle.bgp_recording.specs.declared.standing.Before.TheVariants.{Other}
use Rattle.bgp_recording.specs.declared.state.State.{State}
use Rattle.bgp_recording.proofs.Heard.{own_end_is}
use Rattle.bgp_ended.proofs.OneFraming.{IsTimed, are_timed, end_by, heard_once, said_once}
use Rattle.bgp_orders.specs.Connections.{TellsConnection}
use Rattle.bgp_orders.specs.Explained.{IsWhole}
use Rattle.bgp_orders.specs.Ways.{IsWay, MayStart, changed_to, end_records, records_in, records_of_way, state_after_end}
use Rattle.bgp_check_tool.specs.Orders.{records_received, records_sent}

-- ---- two lists of messages with the same values

head_is : {X : Type 0} (x y : X) (xs ys : List X) → x ∷ xs ≡ y ∷ ys → x ≡ y
head_is x y xs ys e = cc

tail_is : {X : Type 0} (x y : X) (xs ys : List X) → x ∷ xs ≡ y ∷ ys → xs ≡ ys
tail_is x y xs ys e = cc

none_some : {X : Type 0} (x : X) (xs : List X) → [] ≡ x ∷ xs → ⊥
none_some x xs e = cc

pub none_of : (ms : List Message) → values_of ms ≡ [] → ms ≡ []
none_of [] e = refl
none_of (m ∷ ms) e = absurd (none_some (message_value m) (values_of ms) (sym e))

abbrev Same : Message → Message → Type 0
Same m n = message_value m ≡ message_value n

same_kind : (m n : Message) → Same m n → m.kind ≡ n.kind
same_kind m n e = ap (λ (v : MessageValue). v.kind) e

same_packet : (m n : Message) → Same m n → m.packet ≡ n.packet
same_packet m n e = ap (λ (v : MessageValue). v.packet) e

same_second : (m n : Message) → Same m n → m.second ≡ n.second
same_second m n e = ap (λ (v : MessageValue). v.second) e

-- the records of messages are those of their values
abbrev received_value : MessageValue → ShownRecord
received_value v = shown.Received v.second v.octets

abbrev sent_value : MessageValue → ShownRecord
sent_value v = shown.Sent v.second v.octets

received_by : (ms : List Message) → records_received ms ≡ map received_value (values_of ms)
received_by [] = refl
received_by (m ∷ ms) = ap (λ (rs : List ShownRecord). shown.Received m.second m.octets.now ∷ rs) (received_by ms)

sent_by : (ms : List Message) → records_sent ms ≡ map sent_value (values_of ms)
sent_by [] = refl
sent_by (m ∷ ms) = ap (λ (rs : List ShownRecord). shown.Sent m.second m.octets.now ∷ rs) (sent_by ms)

pub same_received : (ms ns : List Message) → values_of ms ≡ values_of ns → records_received ms ≡ records_received ns
same_received ms ns e = received_by ms ∙ ap (λ (vs : List MessageValue). map received_value vs) e ∙ sym (received_by ns)

pub same_sent : (ms ns : List Message) → values_of ms ≡ values_of ns → records_sent ms ≡ records_sent ns
same_sent ms ns e = sent_by ms ∙ ap (λ (vs : List MessageValue). map sent_value vs) e ∙ sym (sent_by ns)

-- ---- an order of the ones, and the same order of the others

-- what stands in both at a place
data Pair : Type 0 where
  Heard : ℕ → (m n : Message) → Same m n → Pair
  Said : ℕ → (m n : Message) → Same m n → Pair
  Over : ℕ → End → Pair

abbrev one_item : Pair → Item
one_item (Heard t m n e) = Received m
one_item (Said t m n e) = Sent m
one_item (Over t f) = Ended f

abbrev other_item : Pair → Item
other_item (Heard t m n e) = Received n
other_item (Said t m n e) = Sent n
other_item (Over t f) = Ended f

abbrev time_of : Pair → ℕ
time_of (Heard t m n e) = t
time_of (Said t m n e) = t
time_of (Over t f) = t

abbrev ones : List Pair → List Event
ones [] = []
ones (p ∷ ps) = Passed (time_of p) (one_item p) ∷ ones ps

abbrev others : List Pair → List Event
others [] = []
others (p ∷ ps) = Passed (time_of p) (other_item p) ∷ others ps

record Paired (rs ss : List Message) (events : List Event) : Type 0 where
  pub pairs : List Pair
  pub are_ones : ones pairs ≡ events
  pub of_received : received_in (items_in (others pairs)) ≡ rs
  pub of_sent : sent_in (items_in (others pairs)) ≡ ss

paired : (rs ss : List Message) (events : List Event) → values_of (received_in (items_in events)) ≡ values_of rs → values_of (sent_in (items_in events)) ≡ values_of ss → Paired rs ss events
paired rs ss [] hr hs = record { pairs = []; are_ones = refl; of_received = sym (none_of rs (sym hr)); of_sent = sym (none_of ss (sym hs)) }
paired [] ss (Passed t (Received m) ∷ events) hr hs = absurd (none_some (message_value m) (values_of (received_in (items_in events))) (sym hr))
paired (r ∷ rs) ss (Passed t (Received m) ∷ events) hr hs =
    let here : Same m r = head_is (message_value m) (message_value r) (values_of (received_in (items_in events))) (values_of rs) hr in
    let k = paired rs ss events (tail_is (message_value m) (message_value r) (values_of (received_in (items_in events))) (values_of rs) hr) hs in
    record {
      pairs = Heard t m r here ∷ k.pairs;
      are_ones = ap (λ (v : List Event). Passed t (Received m) ∷ v) k.are_ones;
      of_received = ap (λ (v : List Message). r ∷ v) k.of_received;
      of_sent = k.of_sent;
    }
paired rs [] (Passed t (Sent m) ∷ events) hr hs = absurd (none_some (message_value m) (values_of (sent_in (items_in events))) (sym hs))
paired rs (s ∷ ss) (Passed t (Sent m) ∷ events) hr hs =
    let here : Same m s = head_is (message_value m) (message_value s) (values_of (sent_in (items_in events))) (values_of ss) hs in
    let k = paired rs ss events hr (tail_is (message_value m) (message_value s) (values_of (sent_in (items_in events))) (values_of ss) hs) in
    record {
      pairs = Said t m s here ∷ k.pairs;
      are_ones = ap (λ (v : List Event). Passed t (Sent m) ∷ v) k.are_ones;
      of_received = k.of_received;
      of_sent = ap (λ (v : List Message). s ∷ v) k.of_sent;
    }
paired rs ss (Passed t (Ended f) ∷ events) hr hs =
    let k = paired rs ss events hr hs in
    record {
      pairs = Over t f ∷ k.pairs;
      are_ones = ap (λ (v : List Event). Passed t (Ended f) ∷ v) k.are_ones;
      of_received = k.of_received;
      of_sent = k.of_sent;
    }

-- ---- it is allowed, too

same_ends : (ps : List Pair) → ends_in (items_in (others ps)) ≡ ends_in (items_in (ones ps))
same_ends [] = refl
same_ends (Heard t m n e ∷ ps) = same_ends ps
same_ends (Said t m n e ∷ ps) = same_ends ps
same_ends (Over t f ∷ ps) = ap (λ (v : List End). f ∷ v) (same_ends ps)

may_precede : (within : ℕ) (p q : Pair) → MayPrecede within (one_item p) (one_item q) → MayPrecede within (other_item p) (other_item q)
may_precede within (Heard t m n e) (Heard u k l f) may = may
may_precede within (Heard t m n e) (Said u k l f) may =
    subst (λ (v : ℕ). v < l.packet) (same_packet m n e) (subst (λ (v : ℕ). m.packet < v) (same_packet k l f) may)
may_precede within (Heard t m n e) (Over u f) may = subst (λ (v : ℕ). f.side ≡ Local → v ≤ f.packet) (same_packet m n e) may
may_precede within (Said t m n e) (Heard u k l f) may =
    subst (λ (v : ℕ). v ≤ l.second + within) (same_second m n e) (subst (λ (v : ℕ). m.second ≤ v + within) (same_second k l f) may)
may_precede within (Said t m n e) (Said u k l f) may = may
may_precede within (Said t m n e) (Over u f) may = may
may_precede within (Over t g) (Heard u k l f) may = subst (λ (v : ℕ). g.second ≤ v + within) (same_second k l f) may
may_precede within (Over t g) (Said u k l f) may = may
may_precede within (Over t g) (Over u f) may = may

all_may : (within : ℕ) (p : Pair) (ps : List Pair) → AllByRecursion (MayPrecede within (one_item p)) (items_in (ones ps)) → AllByRecursion (MayPrecede within (other_item p)) (items_in (others ps))
all_may within p [] each = tt
all_may within p (q ∷ ps) each = (may_precede within p q each.0, all_may within p ps each.1)

each_may : (within : ℕ) (ps : List Pair) → EachMayPrecede within (items_in (ones ps)) → EachMayPrecede within (items_in (others ps))
each_may within [] each = tt
each_may within (p ∷ ps) each = (all_may within p ps each.0, each_may within ps each.1)

timed : (before : ℕ) (ps : List Pair) → AreTimed before (ones ps) → AreTimed before (others ps)
timed before [] is = tt
timed before (Heard t m n e ∷ ps) is = (is.0, subst (λ (v : ℕ). t ≡ max v before) (same_second m n e) is.1, timed t ps is.2)
timed before (Said t m n e ∷ ps) is = (is.0, is.1 ∙ same_second m n e, timed t ps is.2)
timed before (Over t f ∷ ps) is = (is.0, is.1, timed t ps is.2)

-- ---- and has the same records

-- whether the next message that is sent answers one
abbrev answers_value : Option MessageType → MessageValue → Bool
answers_value kind v = answers_before_open kind v.kind (code_in v.kind v.octets)

same_answered : (kind : Option MessageType) (ps : List Pair) → is_answered_before_open kind (sent_in (items_in (ones ps ++ []))) ≡ is_answered_before_open kind (sent_in (items_in (others ps ++ [])))
same_answered kind [] = refl
same_answered kind (Heard t m n e ∷ ps) = same_answered kind ps
same_answered kind (Said t m n e ∷ ps) = ap (answers_value kind) e
same_answered kind (Over t f ∷ ps) = same_answered kind ps

same_left : (ps : List Pair) → are_left (received_in (items_in (ones ps ++ []))) ≡ are_left (received_in (items_in (others ps ++ [])))
same_left [] = refl
same_left (Heard t m n e ∷ ps) = refl
same_left (Said t m n e ∷ ps) = same_left ps
same_left (Over t f ∷ ps) = same_left ps

-- those of a received message of this value, of a sent one, and of the end, with what stands behind
abbrev heard_records : ℕ → State → MessageValue → Bool → (State → Before → List ShownRecord) → List ShownRecord
heard_records t state v answered rest =
    let led = led_by_received state v.kind answered in
    (shown.Received t v.octets ∷ changed_to t state led) ++ rest (state_then state led) (just_received v.kind)

abbrev said_records : ℕ → State → Before → MessageValue → (State → Before → List ShownRecord) → List ShownRecord
said_records t state before v rest =
    let led = led_by_sent state v.kind before in
    (shown.Sent t v.octets ∷ changed_to t state led) ++ rest (state_then state led) (just_sent state v.kind before)

same_records : (state : State) (before : Before) (ps : List Pair) → records_in state before (ones ps) [] ≡ records_in state before (others ps) []
same_records state before [] = refl
same_records state before (Heard t m n e ∷ ps) =
    let one : State → Before → List ShownRecord = λ s b. records_in s b (ones ps) [] in
    let answered = is_answered_before_open n.kind (sent_in (items_in (others ps ++ []))) in
    let led = led_by_received state n.kind answered in
    ap (λ (v : MessageValue). heard_records t state v (is_answered_before_open v.kind (sent_in (items_in (ones ps ++ [])))) one) e
    ∙ ap (λ (a : Bool). heard_records t state (message_value n) a one) (same_answered n.kind ps)
    ∙ ap (λ (rs : List ShownRecord). (shown.Received t n.octets.now ∷ changed_to t state led) ++ rs) (same_records (state_then state led) (just_received n.kind) ps)
same_records state before (Said t m n e ∷ ps) =
    let one : State → Before → List ShownRecord = λ s b. records_in s b (ones ps) [] in
    let led = led_by_sent state n.kind before in
    ap (λ (v : MessageValue). said_records t state before v one) e
    ∙ ap (λ (rs : List ShownRecord). (shown.Sent t n.octets.now ∷ changed_to t state led) ++ rs) (same_records (state_then state led) (just_sent state n.kind before) ps)
same_records state before (Over t f ∷ ps) =
    let left = are_left (received_in (items_in (others ps ++ []))) in
    ap (λ (l : Bool). end_records t state l ++ records_in (state_after_end state l) Other (ones ps) []) (same_left ps)
    ∙ ap (λ (rs : List ShownRecord). end_records t state left ++ rs) (same_records (state_after_end state left) Other ps)

-- ---- a way of the ones is one of the others

-- the same order of other messages
pub record OtherOrder (within second : ℕ) (start : State) (rs ss : List Message) (end : Option End) (events : List Event) : Type 0 where
  pub order : List Event
  pub allowed : IsAllowed within rs ss end (items_in order)
  pub timed : AreTimed second order
  pub same : records_of_way second start events ≡ records_of_way second start order

pub other_order : (within second : ℕ) (start : State) (rs ss rs2 ss2 : List Message) (end : Option End) (events : List Event) → values_of rs ≡ values_of rs2 → values_of ss ≡ values_of ss2
    → IsAllowed within rs ss end (items_in events) → AreTimed second events → OtherOrder within second start rs2 ss2 end events
other_order within second start rs ss rs2 ss2 end events hr hs allowed are_timed =
    let k = paired rs2 ss2 events (ap values_of allowed.of_received ∙ hr) (ap values_of allowed.of_sent ∙ hs) in
    record {
      order = others k.pairs;
      allowed = record {
        of_received = k.of_received;
        of_sent = k.of_sent;
        of_end = same_ends k.pairs ∙ ap (λ (v : List Event). ends_in (items_in v)) k.are_ones ∙ allowed.of_end;
        each = each_may within k.pairs (subst (λ (v : List Event). EachMayPrecede within (items_in v)) (sym k.are_ones) allowed.each);
      };
      timed = timed second k.pairs (subst (λ (v : List Event). AreTimed second v) (sym k.are_ones) are_timed);
      same = ap (λ (v : List Event). records_of_way second start v) (sym k.are_ones)
          ∙ ap (λ (rs : List ShownRecord). shown.Changed second 1 (state_number start) ∷ rs) (same_records start Other k.pairs);
    }

-- ---- of a connection

-- its messages have the same values, however they are framed by these rules
pub same_values : (framings : Framings) (connection : Connection) (rs ss rs2 ss2 : List Message) (ru su ru2 su2 : Unshown) → IsClocked connection
    → IsHeard framings.received connection.received rs ru → IsSaid framings.sent connection.sent connection.end ss su → IsHeard framings.received connection.received rs2 ru2
    → IsSaid framings.sent connection.sent connection.end ss2 su2 → (values_of rs ≡ values_of rs2) × (values_of ss ≡ values_of ss2)
same_values framings connection rs ss rs2 ss2 ru su ru2 su2 clocked heard said heard2 said2 =
    let clock = clocked.clock in
    let fractions = clocked.fractions in
    let fraction = fractions.fraction in
    let came = are_timed clock fraction connection.packet connection.received.runs.now clocked.received fractions.received in
    let made = are_timed clock fraction connection.packet connection.sent.runs.now clocked.sent fractions.sent in
    let ends = own_end_is (IsTimed clock fraction) connection.end
    (end_by _ _ (λ e. IsTimed clocked.clock clocked.fractions.fraction (end_moment e)) connection.end (λ e g f. (g.0, f)) clocked.ends fractions.ends) in
    let same : AreSame connection.received connection.received = record { octets = refl; givers = λ place. refl } in
    let same_sent : AreSame connection.sent connection.sent = record { octets = refl; givers = λ place. refl } in (
      (heard_once framings.received clock fraction connection.received connection.received rs rs2 ru ru2 same came heard heard2).0,
      (said_once framings.sent clock fraction connection.sent connection.sent connection.end ss ss2 su su2 same_sent made ends said said2).0,
    )

-- what two exchanges tell of it
module _ (framings : Framings) (connection : Connection) (clocked : IsClocked connection) (one other : Exchange) (tells : TellsConnection framings connection one)
    (tells2 : TellsConnection framings connection other) where
  pub values_received : values_of one.received.now ≡ values_of other.received.now
  values_received =
      ap values_of tells.is.received
      ∙ (same_values framings connection tells.received tells.sent tells2.received tells2.sent tells.received_unshown tells.sent_unshown tells2.received_unshown tells2.sent_unshown clocked
      tells.heard tells.said tells2.heard tells2.said).0
      ∙ ap values_of (sym tells2.is.received)

  pub values_sent : values_of one.sent.now ≡ values_of other.sent.now
  values_sent =
      ap values_of tells.is.sent
      ∙ (same_values framings connection tells.received tells.sent tells2.received tells2.sent tells.received_unshown tells.sent_unshown tells2.received_unshown tells2.sent_unshown clocked
      tells.heard tells.said tells2.heard tells2.said).1
      ∙ ap values_of (sym tells2.is.sent)

  starts_too : (start : State) → MayStart one start → MayStart other start
  starts_too start starts = (
    starts.0,
    λ none_received none_sent.
        starts.1 (none_of one.received.now (values_received ∙ ap values_of none_received)) (none_of one.sent.now (values_sent ∙ ap values_of none_sent))
        ∙ ap opened_state (tells.is.opened_by ∙ sym tells2.is.opened_by),
  )

  -- each way of the one is one of the other, with the same records
  pub other_way : (within : ℕ) (start : State) (events : List Event) → IsWay within one start events
      → (order : List Event) × IsWay within other start order × (records_of_way one.second start events ≡ records_of_way other.second start order)
  other_way within start events way =
      let second : one.second ≡ other.second = tells.is.second ∙ sym tells2.is.second in
      let end : one.end ≡ other.end = tells.is.end ∙ sym tells2.is.end in
      let k = other_order within one.second start one.received.now one.sent.now other.received.now other.sent.now one.end events values_received values_sent way.allowed way.timed in (
        k.order,
        record {
          starts = starts_too start way.starts;
          allowed = subst (λ (e : Option End). IsAllowed within other.received.now other.sent.now e (items_in k.order)) end k.allowed;
          timed = subst (λ (t : ℕ). AreTimed t k.order) second k.timed;
        },
        k.same ∙ ap (λ (t : ℕ). records_of_way t start k.order) second,
      )

  pub other_whole : (config : Config) (within : ℕ) (e : RunEnd) → IsWhole config within one e → IsWhole config within other e
  other_whole config within e whole =
      let k = other_way within whole.start whole.events whole.way in
      record { start = whole.start; events = k.0; way = k.1; complete = subst (λ (rs : List ShownRecord). IsComplete config rs e) k.2 whole.complete }
