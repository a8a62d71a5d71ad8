-- The ways of what packets tell of a connection are the same, wherever the octets of its messages lie.
use Rattle.std.proofs.Common.{◌≡◌, ◌∙◌, ◌≤◌, ◌++◌, ℕ, zero, suc, Bool, List, [], ◌∷◌, Option, IsSomeAnd, max, refl, sym, ap, subst, arith, length}
use Rattle.std.specs.List.{AllByRecursion, slice_get}
use Rattle.bgp_prefix.specs.Shown as shown
use Rattle.bgp_prefix.specs.Shown.{ShownRecord}
use Rattle.bgp_wire.specs.declared.header.MessageType.{MessageType}
use Rattle.streams.specs.declared.connection.Connection.{Connection}
use Rattle.streams.specs.declared.connection.End.{End}
use Rattle.bgp_open.specs.declared.config.Config.{Config}
use Rattle.bgp_machine.specs.Run as runs
use Rattle.bgp_machine.specs.Run.{Begins, IsComplete}
use Rattle.bgp_recording.specs.declared.framing.Framings.{Framings}
use Rattle.bgp_recording.specs.declared.message.Message.{Message}
use Rattle.bgp_recording.specs.declared.ordering.Exchange.{Exchange}
use Rattle.bgp_recording.specs.declared.standing.Before.{Before}
use Rattle.bgp_recording.specs.declared.standing.Before.TheVariants.{Other}
use Rattle.bgp_recording.specs.declared.state.State.{State}
use Rattle.bgp_recording.specs.Allowed.{Item, Received, Sent, Ended, MayPrecede, EachMayPrecede, received_in, sent_in, ends_in, ends_of}
use Rattle.bgp_recording.specs.Changes.{answers_before_open, are_left, is_answered_before_open, just_received, just_sent, led_by_received, led_by_sent, opened_state, state_then}
use Rattle.bgp_recording.specs.Gathered.{IsClocked, IsSaid}
use Rattle.bgp_recording.specs.Moments.{end_moment}
use Rattle.bgp_recording.specs.Once.{TellTheSame}
use Rattle.bgp_recording.specs.States.{state_number}
use Rattle.bgp_recording.specs.Tells.{Event, Passed, AreTimed, items_in, second_behind}
use Rattle.bgp_recording.specs.Values.{MessageValue, code_of, message_value, values_of}
use Rattle.bgp_recording.proofs.Heard.{own_end_is}
use Rattle.bgp_ended.proofs.OneFraming.{IsTimed, are_timed, end_by, heard_once, said_once}
use Rattle.bgp_orders.specs.declared.connection.Unexplained.{Unexplained}
use Rattle.bgp_orders.specs.Connections.{IsPacketOf, TellsConnection}
use Rattle.bgp_orders.specs.Explained.{IsExplained, IsWhole}
use Rattle.bgp_orders.specs.Ways.{IsWay, MayStart, changed_to, end_records, received_records, records_in, records_of_front, records_of_way, sent_records, state_after_end}

-- ---- two orders of the same messages

-- at its second, a message in one order and the same in another, or the end
data Pair : Type 0 where
  Heard : ℕ → (m n : Message) → message_value m ≡ message_value n → Pair
  Said : ℕ → (m n : Message) → message_value m ≡ message_value n → Pair
  Over : ℕ → End → Pair

abbrev second_in : Pair → ℕ
second_in (Heard second m n e) = second
second_in (Said second m n e) = second
second_in (Over second end) = second

abbrev item_here : Pair → Item
item_here (Heard second m n e) = Received m
item_here (Said second m n e) = Sent m
item_here (Over second end) = Ended end

abbrev item_there : Pair → Item
item_there (Heard second m n e) = Received n
item_there (Said second m n e) = Sent n
item_there (Over second end) = Ended end

-- the one order
abbrev here : List Pair → List Event
here [] = []
here (p ∷ ps) = Passed (second_in p) (item_here p) ∷ here ps

-- the other
abbrev there : List Pair → List Event
there [] = []
there (p ∷ ps) = Passed (second_in p) (item_there p) ∷ there ps

-- the pairs of the one order and of these messages
record IsPaired (events : List Event) (ms ns : List Message) : Type 0 where
  pub pairs : List Pair
  pub is : here pairs ≡ events
  pub received : received_in (items_in (there pairs)) ≡ ms
  pub sent : sent_in (items_in (there pairs)) ≡ ns

head_is : (v w : MessageValue) (vs ws : List MessageValue) → v ∷ vs ≡ w ∷ ws → v ≡ w
head_is v w vs ws e = cc

tail_is : (v w : MessageValue) (vs ws : List MessageValue) → v ∷ vs ≡ w ∷ ws → vs ≡ ws
tail_is v w vs ws e = cc

none_some : (v : MessageValue) (vs : List MessageValue) → [] ≡ v ∷ vs → ⊥
none_some v vs e = omega (arith, ap length e)

some_none : (v : MessageValue) (vs : List MessageValue) → v ∷ vs ≡ [] → ⊥
some_none v vs e = omega (arith, ap length e)

paired : (events : List Event) (ms ns : List Message) → values_of (received_in (items_in events)) ≡ values_of ms → values_of (sent_in (items_in events)) ≡ values_of ns
    → IsPaired events ms ns
paired [] [] [] r s = record { pairs = []; is = refl; received = refl; sent = refl }
paired [] (m ∷ ms) ns r s = absurd (none_some (message_value m) (values_of ms) r)
paired [] [] (n ∷ ns) r s = absurd (none_some (message_value n) (values_of ns) s)
paired (Passed t (Received m) ∷ events) [] ns r s = absurd (some_none (message_value m) (values_of (received_in (items_in events))) r)
paired (Passed t (Received m) ∷ events) (n ∷ ms) ns r s =
    let later = paired events ms ns (tail_is _ _ _ _ r) s in record {
      pairs = Heard t m n (head_is _ _ _ _ r) ∷ later.pairs;
      is = ap (λ (es : List Event). Passed t (Received m) ∷ es) later.is;
      received = ap (λ (xs : List Message). n ∷ xs) later.received;
      sent = later.sent;
    }
paired (Passed t (Sent m) ∷ events) ms [] r s = absurd (some_none (message_value m) (values_of (sent_in (items_in events))) s)
paired (Passed t (Sent m) ∷ events) ms (n ∷ ns) r s =
    let later = paired events ms ns r (tail_is _ _ _ _ s) in record {
      pairs = Said t m n (head_is _ _ _ _ s) ∷ later.pairs;
      is = ap (λ (es : List Event). Passed t (Sent m) ∷ es) later.is;
      received = later.received;
      sent = ap (λ (xs : List Message). n ∷ xs) later.sent;
    }
paired (Passed t (Ended end) ∷ events) ms ns r s =
    let later = paired events ms ns r s in record {
      pairs = Over t end ∷ later.pairs;
      is = ap (λ (es : List Event). Passed t (Ended end) ∷ es) later.is;
      received = later.received;
      sent = later.sent;
    }

-- ---- the other order is allowed, too

packet_is : (m n : Message) → message_value m ≡ message_value n → m.packet ≡ n.packet
packet_is m n e = ap (λ (v : MessageValue). v.packet) e

second_is : (m n : Message) → message_value m ≡ message_value n → m.second ≡ n.second
second_is m n e = ap (λ (v : MessageValue). v.second) e

may : (within : ℕ) (p q : Pair) → MayPrecede within (item_here p) (item_here q) → MayPrecede within (item_there p) (item_there q)
may within (Heard t m n e) (Heard u k l f) h = tt
may within (Heard t m n e) (Said u k l f) h = omega (arith, h, packet_is m n e, packet_is k l f)
may within (Heard t m n e) (Over u end) h = λ own. let le : m.packet ≤ end.packet = h own in omega (arith, le, packet_is m n e)
may within (Said t m n e) (Heard u k l f) h = omega (arith, h, second_is m n e, second_is k l f)
may within (Said t m n e) (Said u k l f) h = tt
may within (Said t m n e) (Over u end) h = tt
may within (Over t end) (Heard u k l f) h = omega (arith, h, second_is k l f)
may within (Over t end) (Said u k l f) h = h
may within (Over t end) (Over u other) h = tt

all_may : (within : ℕ) (p : Pair) (ps : List Pair) → AllByRecursion (MayPrecede within (item_here p)) (items_in (here ps)) → AllByRecursion (MayPrecede within (item_there p)) (items_in (there ps))
all_may within p [] h = tt
all_may within p (q ∷ ps) h = (may within p q h.0, all_may within p ps h.1)

each_may : (within : ℕ) (ps : List Pair) → EachMayPrecede within (items_in (here ps)) → EachMayPrecede within (items_in (there ps))
each_may within [] h = tt
each_may within (p ∷ ps) h = (all_may within p ps h.0, each_may within ps h.1)

same_ends : (ps : List Pair) → ends_in (items_in (there ps)) ≡ ends_in (items_in (here ps))
same_ends [] = refl
same_ends (Heard t m n e ∷ ps) = same_ends ps
same_ends (Said t m n e ∷ ps) = same_ends ps
same_ends (Over t end ∷ ps) = ap (λ (es : List End). end ∷ es) (same_ends ps)

same_second : (before : ℕ) (p : Pair) → second_behind before (item_here p) ≡ second_behind before (item_there p)
same_second before (Heard t m n e) = ap (λ (s : ℕ). max s before) (second_is m n e)
same_second before (Said t m n e) = second_is m n e
same_second before (Over t end) = refl

timed : (before : ℕ) (ps : List Pair) → AreTimed before (here ps) → AreTimed before (there ps)
timed before [] h = tt
timed before (p ∷ ps) h = (h.0, h.1 ∙ same_second before p, timed (second_in p) ps h.2)

-- ---- and has the same records

answered_behind : (kind : Option MessageType) (qs : List Pair) → is_answered_before_open kind (sent_in (items_in (here qs))) ≡ is_answered_before_open kind (sent_in (items_in (there qs)))
answered_behind kind [] = refl
answered_behind kind (Heard t m n e ∷ qs) = answered_behind kind qs
answered_behind kind (Said t m n e ∷ qs) = ap (λ (v : MessageValue). answers_before_open kind v.kind (code_of v)) e
answered_behind kind (Over t end ∷ qs) = answered_behind kind qs

-- the rest of an order stands behind the front of it
same_answered : (kind : Option MessageType) (ps qs : List Pair)
    → is_answered_before_open kind (sent_in (items_in (here ps ++ here qs))) ≡ is_answered_before_open kind (sent_in (items_in (there ps ++ there qs)))
same_answered kind [] qs = answered_behind kind qs
same_answered kind (Heard t m n e ∷ ps) qs = same_answered kind ps qs
same_answered kind (Said t m n e ∷ ps) qs = ap (λ (v : MessageValue). answers_before_open kind v.kind (code_of v)) e
same_answered kind (Over t end ∷ ps) qs = same_answered kind ps qs

left_behind : (qs : List Pair) → are_left (received_in (items_in (here qs))) ≡ are_left (received_in (items_in (there qs)))
left_behind [] = refl
left_behind (Heard t m n e ∷ qs) = refl
left_behind (Said t m n e ∷ qs) = left_behind qs
left_behind (Over t end ∷ qs) = left_behind qs

same_left : (ps qs : List Pair) → are_left (received_in (items_in (here ps ++ here qs))) ≡ are_left (received_in (items_in (there ps ++ there qs)))
same_left [] qs = left_behind qs
same_left (Heard t m n e ∷ ps) qs = refl
same_left (Said t m n e ∷ ps) qs = same_left ps qs
same_left (Over t end ∷ ps) qs = same_left ps qs

-- the records of a received message, and of what stands behind it in the front
abbrev behind_received : State → ℕ → MessageValue → Bool → List Event → List Event → List ShownRecord
behind_received state t v answered front later =
    let led = led_by_received state v.kind answered in
    (shown.Received t v.octets ∷ changed_to t state led) ++ records_in (state_then state led) (just_received v.kind) front later

-- of a sent one
abbrev behind_sent : State → Before → ℕ → MessageValue → List Event → List Event → List ShownRecord
behind_sent state before t v front later =
    let led = led_by_sent state v.kind before in
    (shown.Sent t v.octets ∷ changed_to t state led) ++ records_in (state_then state led) (just_sent state v.kind before) front later

same_in : (state : State) (before : Before) (ps qs : List Pair) → records_in state before (here ps) (here qs) ≡ records_in state before (there ps) (there qs)
same_in state before [] qs = refl
same_in state before (Heard t m n e ∷ ps) qs =
    let answered = is_answered_before_open n.kind (sent_in (items_in (there ps ++ there qs))) in
    let led = led_by_received state n.kind answered in
    ap (λ (v : MessageValue). behind_received state t v (is_answered_before_open v.kind (sent_in (items_in (here ps ++ here qs)))) (here ps) (here qs)) e
    ∙ ap (λ (b : Bool). behind_received state t (message_value n) b (here ps) (here qs)) (same_answered n.kind ps qs)
    ∙ ap (λ (rs : List ShownRecord). received_records t state led n ++ rs) (same_in (state_then state led) (just_received n.kind) ps qs)
same_in state before (Said t m n e ∷ ps) qs =
    let led = led_by_sent state n.kind before in
    ap (λ (v : MessageValue). behind_sent state before t v (here ps) (here qs)) e
    ∙ ap (λ (rs : List ShownRecord). sent_records t state led n ++ rs) (same_in (state_then state led) (just_sent state n.kind before) ps qs)
same_in state before (Over t end ∷ ps) qs =
    let left = are_left (received_in (items_in (there ps ++ there qs))) in
    ap (λ (b : Bool). end_records t state b ++ records_in (state_after_end state b) Other (here ps) (here qs)) (same_left ps qs)
    ∙ ap (λ (rs : List ShownRecord). end_records t state left ++ rs) (same_in (state_after_end state left) Other ps qs)

-- ---- a front of the one order is one of the other

there_joined : (ps qs : List Pair) → there (ps ++ qs) ≡ there ps ++ there qs
there_joined [] qs = refl
there_joined (p ∷ ps) qs = ap (λ (es : List Event). Passed (second_in p) (item_there p) ∷ es) (there_joined ps qs)

-- as many sent messages
as_many : (ps : List Pair) → length (sent_in (items_in (here ps))) ≡ length (sent_in (items_in (there ps)))
as_many [] = refl
as_many (Heard t m n e ∷ ps) = as_many ps
as_many (Said t m n e ∷ ps) = omega (arith, as_many ps)
as_many (Over t end ∷ ps) = as_many ps

-- the pairs of a front and of what stands behind it
record IsSplit (pairs : List Pair) (front later : List Event) : Type 0 where
  pub ps : List Pair
  pub qs : List Pair
  pub is_front : here ps ≡ front
  pub is_later : here qs ≡ later
  pub joined : ps ++ qs ≡ pairs

event_is : (x y : Event) (xs ys : List Event) → x ∷ xs ≡ y ∷ ys → x ≡ y
event_is x y xs ys e = cc

events_are : (x y : Event) (xs ys : List Event) → x ∷ xs ≡ y ∷ ys → xs ≡ ys
events_are x y xs ys e = cc

no_event : (y : Event) (ys : List Event) → [] ≡ y ∷ ys → ⊥
no_event y ys e = omega (arith, ap length e)

split : (pairs : List Pair) (front later : List Event) → here pairs ≡ front ++ later → IsSplit pairs front later
split pairs [] later is = record { ps = []; qs = pairs; is_front = refl; is_later = is; joined = refl }
split [] (x ∷ front) later is = absurd (no_event x (front ++ later) is)
split (p ∷ pairs) (x ∷ front) later is =
    let k = split pairs front later (events_are _ _ _ _ is) in record {
      ps = p ∷ k.ps;
      qs = k.qs;
      is_front = ap (λ (y : Event). y ∷ here k.ps) (event_is _ _ _ _ is) ∙ ap (λ (es : List Event). x ∷ es) k.is_front;
      is_later = k.is_later;
      joined = ap (λ (rs : List Pair). p ∷ rs) k.joined;
    }

-- ---- exchanges that tell the same

record TellAlike (one other : Exchange) : Type 0 where
  pub opened_by : one.opened_by ≡ other.opened_by
  pub second : one.second ≡ other.second
  pub received : values_of one.received.now ≡ values_of other.received.now
  pub sent : values_of one.sent.now ≡ values_of other.sent.now
  pub end : one.end ≡ other.end

same_length : (ms ns : List Message) → values_of ms ≡ values_of ns → length ms ≡ length ns
same_length [] [] e = refl
same_length [] (n ∷ ns) e = absurd (none_some (message_value n) (values_of ns) e)
same_length (m ∷ ms) [] e = absurd (some_none (message_value m) (values_of ms) e)
same_length (m ∷ ms) (n ∷ ns) e = omega (arith, same_length ms ns (tail_is _ _ _ _ e))

none_left : (ms ns : List Message) → values_of ms ≡ values_of ns → ns ≡ [] → ms ≡ []
none_left [] ns e is = refl
none_left (m ∷ ms) ns e is = absurd (some_none (message_value m) (values_of ms) (e ∙ ap values_of is))

may_start : (one other : Exchange) (start : State) → TellAlike one other → MayStart one start → MayStart other start
may_start one other start alike may_there = (
  may_there.0,
  λ received sent.
      may_there.1 (none_left one.received.now other.received.now alike.received received) (none_left one.sent.now other.sent.now alike.sent sent)
      ∙ ap opened_state alike.opened_by,
)

-- a way of the one is a way of the other
record IsSameWay (within : ℕ) (other : Exchange) (start : State) (events : List Event) : Type 0 where
  pub pairs : List Pair
  pub is : here pairs ≡ events
  pub way : IsWay within other start (there pairs)

same_way : (within : ℕ) (one other : Exchange) (start : State) (events : List Event) → TellAlike one other → IsWay within one start events → IsSameWay within other start events
same_way within one other start events alike way =
    let both = paired events other.received.now other.sent.now (ap values_of way.allowed.of_received ∙ alike.received) (ap values_of way.allowed.of_sent ∙ alike.sent) in
    record {
      pairs = both.pairs;
      is = both.is;
      way = record {
        starts = may_start one other start alike way.starts;
        allowed = record {
          of_received = both.received;
          of_sent = both.sent;
          of_end = same_ends both.pairs ∙ ap (λ (es : List Event). ends_in (items_in es)) both.is ∙ way.allowed.of_end ∙ ap ends_of alike.end;
          each = each_may within both.pairs (subst (λ (es : List Event). EachMayPrecede within (items_in es)) (sym both.is) way.allowed.each);
        };
        timed = subst (λ (s : ℕ). AreTimed s (there both.pairs)) alike.second (timed one.second both.pairs (subst (λ (es : List Event). AreTimed one.second es) (sym both.is) way.timed));
      };
    }

-- with the same records, of each front
front_records : (one other : Exchange) (start : State) (ps qs : List Pair) → TellAlike one other
    → records_of_front one.second start (here ps) (here qs) ≡ records_of_front other.second start (there ps) (there qs)
front_records one other start ps qs alike =
    ap (λ (rs : List ShownRecord). shown.Changed one.second 1 (state_number start) ∷ rs) (same_in start Other ps qs)
    ∙ ap (λ (s : ℕ). records_of_front s start (there ps) (there qs)) alike.second

-- ---- what packets tell of one connection

told_alike : (framings : Framings) (one other : Connection) (a b : Exchange) → TellTheSame one other → IsClocked one → TellsConnection framings one a → TellsConnection framings other b
    → TellAlike a b
told_alike framings one other a b same clocked h k =
    let clock = clocked.clock in
    let fraction = clocked.fractions.fraction in
    let came = are_timed clock fraction one.packet one.received.runs.now clocked.received clocked.fractions.received in
    let made = are_timed clock fraction one.packet one.sent.runs.now clocked.sent clocked.fractions.sent in
    let ends = own_end_is (IsTimed clock fraction) one.end (end_by _ _ (λ e. IsTimed clocked.clock clocked.fractions.fraction (end_moment e)) one.end (λ e g f. (g.0, f)) clocked.ends clocked.fractions.ends) in
    let heard = (heard_once framings.received clock fraction one.received other.received h.received k.received h.received_unshown k.received_unshown same.received came h.heard k.heard).0 in
    let said_of : IsSaid framings.sent other.sent one.end k.sent k.sent_unshown = subst (λ (o : Option End). IsSaid framings.sent other.sent o k.sent k.sent_unshown) (sym same.end) k.said in
    let said = (said_once framings.sent clock fraction one.sent other.sent one.end h.sent k.sent h.sent_unshown k.sent_unshown same.sent made ends h.said said_of).0 in
    record {
      opened_by = h.is.opened_by ∙ same.opened_by ∙ sym k.is.opened_by;
      second = h.is.second ∙ same.second ∙ sym k.is.second;
      received = ap values_of h.is.received ∙ heard ∙ ap values_of (sym k.is.received);
      sent = ap values_of h.is.sent ∙ said ∙ ap values_of (sym k.is.sent);
      end = h.is.end ∙ same.end ∙ sym k.is.end;
    }

-- a way of the one exchange that they tell is one of the other
pub way_there : (within : ℕ) (framings : Framings) (one other : Connection) (a b : Exchange) (start : State) (events : List Event) → TellTheSame one other → IsClocked one
    → TellsConnection framings one a → TellsConnection framings other b → IsWay within a start events
    → (others : List Event) × IsWay within b start others × (records_of_way a.second start events ≡ records_of_way b.second start others)
way_there within framings one other a b start events same clocked h k way =
    let alike = told_alike framings one other a b same clocked h k in
    let is = same_way within a b start events alike way in
    (there is.pairs, is.way, ap (λ (es : List Event). records_of_way a.second start es) (sym is.is) ∙ front_records a b start is.pairs [] alike)

-- the session can have ended so
pub whole_there : (config : Config) (within : ℕ) (framings : Framings) (one other : Connection) (a b : Exchange) (e : runs.End) → TellTheSame one other → IsClocked one
    → TellsConnection framings one a → TellsConnection framings other b → IsWhole config within a e → IsWhole config within b e
whole_there config within framings one other a b e same clocked h k whole =
    let is = way_there within framings one other a b whole.start whole.events same clocked h k whole.way in record {
      start = whole.start;
      events = is.0;
      way = is.1;
      complete = subst (λ (rs : List ShownRecord). IsComplete config rs e) is.2 whole.complete;
    }

-- so many sent messages are explained
pub explained_there : (config : Config) (within : ℕ) (framings : Framings) (one other : Connection) (a b : Exchange) (count : ℕ) → TellTheSame one other → IsClocked one
    → TellsConnection framings one a → TellsConnection framings other b → IsExplained config within a count → IsExplained config within b count
explained_there config within framings one other a b count same clocked h k explained =
    let alike = told_alike framings one other a b same clocked h k in
    let start = explained.start in
    let is = same_way within a b start (explained.front ++ explained.later) alike explained.way in
    let parts = split is.pairs explained.front explained.later is.is in
    let way : IsWay within b start (there (parts.ps ++ parts.qs)) = subst (λ (ps : List Pair). IsWay within b start (there ps)) (sym parts.joined) is.way in
    let begins : Begins config (records_of_front a.second start (here parts.ps) (here parts.qs)) =
    subst (λ (es : List Event). Begins config (records_of_front a.second start (here parts.ps) es)) (sym parts.is_later)
    (subst (λ (es : List Event). Begins config (records_of_front a.second start es explained.later)) (sym parts.is_front) explained.begins) in record {
      start = start;
      front = there parts.ps;
      later = there parts.qs;
      way = subst (λ (es : List Event). IsWay within b start es) (there_joined parts.ps parts.qs) way;
      counts = sym (as_many parts.ps) ∙ ap (λ (es : List Event). length (sent_in (items_in es))) parts.is_front ∙ explained.counts;
      begins = subst (λ (rs : List ShownRecord). Begins config rs) (front_records a b start parts.ps parts.qs alike) begins;
    }

-- the packet of the sent message behind so many
same_packet : (packet place : ℕ) (ms ns : List Message) → values_of ms ≡ values_of ns → IsSomeAnd (slice_get ms place) (λ m. m.packet ≡ packet)
    → IsSomeAnd (slice_get ns place) (λ m. m.packet ≡ packet)
same_packet packet place [] [] e is = is
same_packet packet place [] (n ∷ ns) e is = absurd (none_some (message_value n) (values_of ns) e)
same_packet packet place (m ∷ ms) [] e is = absurd (some_none (message_value m) (values_of ms) e)
same_packet packet zero (m ∷ ms) (n ∷ ns) e is = sym (packet_is m n (head_is _ _ _ _ e)) ∙ is
same_packet packet (suc place) (m ∷ ms) (n ∷ ns) e is = same_packet packet place ms ns (tail_is _ _ _ _ e) is

pub packet_there : (framings : Framings) (one other : Connection) (a b : Exchange) (u : Unexplained) → TellTheSame one other → IsClocked one
    → TellsConnection framings one a → TellsConnection framings other b → IsPacketOf a u → IsPacketOf b u
packet_there framings one other a b u same clocked h k is =
    same_packet u.packet u.before a.sent.now b.sent.now (told_alike framings one other a b same clocked h k).sent is

-- as many messages were sent
pub sent_there : (framings : Framings) (one other : Connection) (a b : Exchange) → TellTheSame one other → IsClocked one
    → TellsConnection framings one a → TellsConnection framings other b → length a.sent.now ≡ length b.sent.now
sent_there framings one other a b same clocked h k =
    same_length a.sent.now b.sent.now (told_alike framings one other a b same clocked h k).sent

pub same_as_itself : (connection : Connection) → TellTheSame connection connection
same_as_itself connection = record {
  opened_by = refl;
  packet = refl;
  second = refl;
  micro = refl;
  received = record { octets = refl; givers = λ place. refl };
  sent = record { octets = refl; givers = λ place. refl };
  end = refl;
}
