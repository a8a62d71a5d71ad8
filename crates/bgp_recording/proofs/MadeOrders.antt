-- The made order as it is made, step by step, and what its rules look ahead at.
use Rattle.std.proofs.Common.{◌≡◌, ◌∙◌, ◌<◌, ◌≤◌, ◌+◌, ◌++◌, ℕ, zero, suc, Bool, true, false, List, [], ◌∷◌, Option, None, Some, IfSome, IfNone, take, drop, length, get_or, refl, sym, ap, arith, cond}
use Rattle.std.proofs.lemmas.Bool.{false≢true}
use Rattle.std.proofs.lemmas.List.{drop_more, drop_all, length-map}
use Rattle.std.specs.Option.{option_or, option_map}
use Rattle.bgp_prefix.specs.Shown as shown
use Rattle.bgp_wire.specs.declared.header.MessageType.{MessageType}
use Rattle.streams.specs.Connections.{last_index}
use Rattle.streams.specs.declared.connection.End.{End}
use Rattle.streams.proofs.Numbering as numbering
use Rattle.bgp_recording.specs.declared.message.Message.{Message}
use Rattle.bgp_recording.specs.declared.pending.Place.{Place}
use Rattle.bgp_recording.specs.declared.ordering.Exchange.{Exchange}
use Rattle.bgp_recording.specs.declared.pending.Turn.{Turn}
use Rattle.bgp_recording.specs.declared.pending.Turn.TheVariants as turns
use Rattle.bgp_recording.specs.declared.standing.Before.{Before}
use Rattle.bgp_recording.specs.declared.state.State.{State}
use Rattle.bgp_recording.specs.declared.waiting.Foresight.{Foresight}
use Rattle.bgp_recording.specs.declared.waiting.Waiting.{Waiting}
use Rattle.bgp_recording.specs.Changes.{led_by_received, led_by_sent, led_by_end, led_by_left, is_answered_before_open, awaits_keepalive, just_sent, are_left, state_then}
use Rattle.bgp_recording.specs.Allowed.{ends_of}
use Rattle.bgp_recording.specs.Leads.{Pending, Leads, LeadsReceived, LeadsSent, LeadsEnd, IsDone, is_next_taken, turn_by, turn_of, place_after}
use Rattle.bgp_recording.specs.MadeOrder.{Course, first_waits, first_is_answered, is_taken, takes_received, shown_next, is_answer_next, values_left, after_received, after_sent, after_end, after_own, after_turn, after_next, after_more, begun_course, count_of}
use Rattle.bgp_recording.specs.Steps.{Making, ShowsReceived, ShowsSent, ShowsEnd, Shows, StepsOrEnds, Begins, course_of, order_of, answering_after}
use Rattle.bgp_recording.specs.Tells.{Numbered, numbered_with, change}
use Rattle.bgp_recording.specs.First.{IsFirst}
use Rattle.bgp_recording.specs.Values.{MessageValue, message_value, values_of, code_of, first_of}
use Rattle.bgp_recording.specs.Waiting.{notification_at, notification_from, foresight_of, reason_of, waits_for}
use Rattle.bgp_recording.specs.Moments.{end_moment, moment_in, opening_moment}
use Rattle.bgp_recording.proofs.UnderWay.{left_in}

-- whatever stands for one that isn't there
get_or_same : (ms : List Message) (n : ℕ) (d : Message) → n < length ms → get_or ms n d ≡ get_or ms n (get_or ms n d)
get_or_same [] n d lt = absurd (omega (arith, lt))
get_or_same (m ∷ ms) zero d lt = refl
get_or_same (m ∷ ms) (suc n) d lt =
    get_or_same ms n d (omega (arith, lt)) ∙ refl

-- ---- the last of the messages' values

last_value : (test : MessageValue → Bool) (ms : List Message) → last_index test (values_of ms) ≡ last_index (λ m. test (message_value m)) ms
last_value test [] = refl
last_value test (m ∷ ms) =
    ap (λ (o : Option ℕ). option_or (option_map suc o) (cond (test (message_value m)) (Some 0) None)) (last_value test ms)

pub last_here : (test : MessageValue → Bool) (ms : List Message) (n : ℕ) (d : Message) → n < length ms → test (message_value (get_or ms n d)) ≡ true
    → last_index test (values_of (take (n + 1) ms)) ≡ Some n
last_here test ms n d lt passes =
    last_value test (take (n + 1) ms) ∙ numbering.last_here (λ m. test (message_value m)) ms n (get_or ms n d) lt (get_or_same ms n d lt) passes

pub last_before : (test : MessageValue → Bool) (ms : List Message) (n : ℕ) (d : Message) → n < length ms → test (message_value (get_or ms n d)) ≡ false
    → last_index test (values_of (take n ms)) ≡ last_index test (values_of (take (n + 1) ms))
last_before test ms n d lt fails =
    last_value test (take n ms)
    ∙ numbering.last_before (λ m. test (message_value m)) ms n (get_or ms n d) lt (get_or_same ms n d lt) fails
    ∙ sym (last_value test (take (n + 1) ms))

-- ---- the first NOTIFICATION among them

pub notification_here : (ms : List Message) (n : ℕ) (d : Message) (code : ℕ) → n < length ms → code_of (message_value (get_or ms n d)) ≡ Some code
    → notification_from n (values_of (drop n ms))
    ≡ Some record { place = n; code = code; packet = (get_or ms n d).packet; second = (get_or ms n d).second }
notification_here ms n d code lt has =
    ap (λ (xs : List Message). notification_from n (values_of xs)) (drop_more ms n d lt)
    ∙ ap (λ (o : Option ℕ). notification_at n (message_value (get_or ms n d)) o (notification_from (n + 1) (values_of (drop (n + 1) ms)))) has

pub notification_before : (ms : List Message) (n : ℕ) (d : Message) → n < length ms → code_of (message_value (get_or ms n d)) ≡ None
    → notification_from n (values_of (drop n ms)) ≡ notification_from (n + 1) (values_of (drop (n + 1) ms))
notification_before ms n d lt lacks =
    ap (λ (xs : List Message). notification_from n (values_of xs)) (drop_more ms n d lt)
    ∙ ap (λ (o : Option ℕ). notification_at n (message_value (get_or ms n d)) o (notification_from (n + 1) (values_of (drop (n + 1) ms)))) lacks

pub no_notification : (ms : List Message) (n : ℕ) → length ms ≤ n → notification_from n (values_of (drop n ms)) ≡ None
no_notification ms n le = ap (λ (xs : List Message). notification_from n (values_of xs)) (drop_all n ms le)

-- ---- the decision that is made, and what it makes

answer_value : (kind : Option MessageType) (ms : List Message) → is_answer_next kind (values_of ms) ≡ is_answered_before_open kind ms
answer_value kind [] = refl
answer_value kind (m ∷ ms) = refl

left_value : (ms : List Message) → values_left (values_of ms) ≡ are_left ms
left_value [] = refl
left_value (m ∷ ms) = refl

-- a course by its parts
course_same : (a : Making) (received sent : List MessageValue) (end : Option End) (place : Place) (last : ℕ) (state : State) (is_answering : Bool) (before : Before) (numbered : List Numbered)
    → values_of a.pending.received ≡ received → values_of a.pending.sent ≡ sent → a.pending.end ≡ end → a.place ≡ place → a.last ≡ last → a.state ≡ state
    → a.is_answering ≡ is_answering → a.before ≡ before → a.numbered ≡ numbered
    → course_of a ≡ record {
      received = received;
      sent = sent;
      end = end;
      place = place;
      last = last;
      state = state;
      is_answering = is_answering;
      before = before;
      numbered = numbered;
    }
course_same a received sent end place last state is_answering before numbered e1 e2 e3 e4 e5 e6 e7 e8 e9 = cc

-- a received message is next
next_received : (foresight : Foresight) (within : ℕ) (old new : Making) (m : Message) → takes_received foresight within (course_of old) ≡ true → LeadsReceived old.pending m new.pending
    → ShowsReceived old m new → new.place ≡ place_after old.place (Some (turns.Received m))
    → new.is_answering ≡ first_is_answered foresight (course_of old) (values_of old.pending.received)
    → course_of new ≡ after_next foresight within (course_of old)
next_received foresight within old new m taken leads shows place answering =
    let c = course_of old in
    let led : led_by_received old.state m.kind (is_answered_before_open m.kind new.pending.sent) ≡ led_by_received old.state m.kind (is_answer_next m.kind (values_of old.pending.sent)) =
    ap (λ (b : Bool). led_by_received old.state m.kind b) (ap (is_answered_before_open m.kind) leads.sent ∙ sym (answer_value m.kind old.pending.sent)) in
    let made : course_of new ≡ after_received foresight c (message_value m) (values_of new.pending.received) =
    course_same new _ _ _ _ _ _ _ _ _ refl (ap values_of leads.sent) leads.end place shows.second
    (shows.state ∙ ap (λ (o : Option State). state_then old.state o) led) answering shows.before
    (shows.put ∙ ap (λ (o : Option State). old.numbered ++ numbered_with (moment_in m) (shown.Received new.last m.octets.now) ∷ change (moment_in m) new.last old.state o) led
    ∙ ap (λ (n : ℕ). old.numbered ++ numbered_with (moment_in m) (shown.Received n m.octets.now)
    ∷ change (moment_in m) n old.state (led_by_received old.state m.kind (is_answer_next m.kind (values_of old.pending.sent)))) shows.second) in
    made
    ∙ sym (ap (λ (ms : List MessageValue). after_turn foresight c true ms) (ap values_of leads.received))
    ∙ sym (ap (λ (b : Bool). after_turn foresight c b c.received) taken)

-- a sent one
next_sent : (foresight : Foresight) (within : ℕ) (old new : Making) (m : Message) → takes_received foresight within (course_of old) ≡ false → LeadsSent within old.pending m new.pending
    → ShowsSent old m new → new.place ≡ place_after old.place (Some (turns.Sent m)) → new.is_answering ≡ awaits_keepalive (just_sent old.state m.kind old.before)
    → course_of new ≡ after_next foresight within (course_of old)
next_sent foresight within old new m taken leads shows place answering =
    let c = course_of old in
    let led = led_by_sent old.state m.kind old.before in
    let made : course_of new ≡ after_sent c (message_value m) (values_of new.pending.sent) =
    course_same new _ _ _ _ _ _ _ _ _ (ap values_of leads.received) refl leads.end place shows.second shows.state answering shows.before
    (shows.put ∙ ap (λ (n : ℕ). old.numbered ++ numbered_with (moment_in m) (shown.Sent n m.octets.now) ∷ change (moment_in m) n old.state led) shows.second) in
    made
    ∙ sym (ap (λ (ms : List MessageValue). after_own c ms old.pending.end) (ap values_of leads.sent))
    ∙ sym (ap (λ (b : Bool). after_turn foresight c b c.received) taken)

-- the end
next_end : (foresight : Foresight) (within : ℕ) (old new : Making) (e : End) → takes_received foresight within (course_of old) ≡ false → LeadsEnd within old.pending e new.pending
    → ShowsEnd old e new → new.place ≡ place_after old.place (Some (turns.End e)) → new.is_answering ≡ false
    → course_of new ≡ after_next foresight within (course_of old)
next_end foresight within old new e taken leads shows place answering =
    let c = course_of old in
    let ended = state_then old.state (led_by_end old.state) in
    let left : led_by_left old.state (are_left new.pending.received) ≡ led_by_left old.state (values_left (values_of old.pending.received)) =
    ap (led_by_left old.state) (ap are_left leads.received ∙ sym (left_value old.pending.received)) in
    let made : course_of new ≡ after_end c e =
    course_same new _ _ _ _ _ _ _ _ _ (ap values_of leads.received) (ap values_of (leads.sent ∙ sym leads.sent_before)) leads.end_after place shows.second
    (shows.state ∙ ap (λ (o : Option State). state_then ended o) left) answering shows.before
    (shows.put ∙ ap (λ (o : Option State). old.numbered ++ (change (end_moment e) new.last old.state (led_by_end old.state) ++ change (end_moment e) new.last ended o)) left
    ∙ ap (λ (n : ℕ). old.numbered ++ (change (end_moment e) n old.state (led_by_end old.state)
    ++ change (end_moment e) n ended (led_by_left old.state (values_left (values_of old.pending.received))))) shows.second) in
    made
    ∙ sym (ap (λ (o : Option End). after_own c [] o) leads.end_before)
    ∙ sym (ap (λ (ms : List MessageValue). after_own c ms old.pending.end) (ap values_of leads.sent_before))
    ∙ sym (ap (λ (b : Bool). after_turn foresight c b c.received) taken)

-- ---- all of it

-- nothing is next where nothing is left
nothing_next : (foresight : Foresight) (within : ℕ) (c : Course) → c.received ≡ [] → c.sent ≡ [] → c.end ≡ None → after_next foresight within c ≡ c
nothing_next foresight within c r s e =
    ap (λ (ms : List MessageValue). after_turn foresight c (is_taken within (first_waits foresight c ms) ms (shown_next c.sent c.end)) ms) r
    ∙ ap (λ (ms : List MessageValue). after_own c ms c.end) s
    ∙ ap (λ (o : Option End). after_own c [] o) e

pub none_next : (foresight : Foresight) (within : ℕ) (old : Making) → IsDone old.pending → after_next foresight within (course_of old) ≡ course_of old
none_next foresight within old done = nothing_next foresight within (course_of old) (ap values_of done.received) (ap values_of done.sent) done.end

-- ---- what is next

pub next_is : {B : Type 0} (now : B → Message) (next : Option B) (ss : List Message) → IfSome next (λ b. IsFirst ss (now b)) → IfNone next (ss ≡ [])
    → option_map (λ b. message_value (now b)) next ≡ first_of (values_of ss)
next_is now None ss some none = sym (ap (λ (xs : List Message). first_of (values_of xs)) none)
next_is now (Some b) [] some none = absurd some
next_is now (Some b) (s ∷ later) some none = sym (ap (λ (m : Message). Some (message_value m)) some)

first_waits_is : (foresight : Foresight) (c : Course) (rs : List Message) (m : Message) → IsFirst rs m
    → first_waits foresight c (values_of rs)
    ≡ waits_for (reason_of foresight c.place c.state c.is_answering (message_value m) (first_of c.sent)) foresight c.place (first_of c.sent)
first_waits_is foresight c [] m first = absurd first
first_waits_is foresight c (r ∷ rs) m first =
    ap (λ (x : Message). waits_for (reason_of foresight c.place c.state c.is_answering (message_value x) (first_of c.sent)) foresight c.place (first_of c.sent)) first

pub waits_by : (foresight : Foresight) (v now : Making) (m : Message) (next : Option MessageValue) (why : Waiting) (b : Bool) → v ≡ now → IsFirst v.pending.received m
    → next ≡ first_of (values_of v.pending.sent) → why ≡ reason_of foresight v.place v.state v.is_answering (message_value m) next
    → b ≡ waits_for why foresight v.place next → b ≡ first_waits foresight (course_of now) (values_of now.pending.received)
waits_by foresight v now m next why b view first is_next is_why is =
    is
    ∙ ap (λ (w : Waiting). waits_for w foresight v.place next) is_why
    ∙ ap (λ (o : Option MessageValue). waits_for (reason_of foresight v.place v.state v.is_answering (message_value m) o) foresight v.place o) is_next
    ∙ sym (first_waits_is foresight (course_of v) v.pending.received m first)
    ∙ ap (λ (x : Making). first_waits foresight (course_of x) (values_of x.pending.received)) view

-- ---- which turn it is

pub taken_turn : (m : Message) (rs ss later : List Message) (end : Option End) → rs ≡ m ∷ later → Some (turns.Received m) ≡ turn_by true rs ss end
taken_turn m rs ss later end e = sym (ap (λ (xs : List Message). turn_by true xs ss end) e)

pub sent_turn : (m : Message) (rs ss later : List Message) (end : Option End) → ss ≡ m ∷ later → Some (turns.Sent m) ≡ turn_by false rs ss end
sent_turn m rs ss later end e = sym (ap (λ (xs : List Message). turn_by false rs xs end) e)

abbrev is_received : Option Turn → Bool
is_received None = false
is_received (Some (turns.Received m)) = true
is_received (Some (turns.Sent m)) = false
is_received (Some (turns.End e)) = false

abbrev is_own : Option Turn → Bool
is_own None = false
is_own (Some (turns.Received m)) = false
is_own (Some (turns.Sent m)) = true
is_own (Some (turns.End e)) = true

kept_own : (rs ss : List Message) (end : Option End) → is_received (turn_by false rs ss end) ≡ false
kept_own rs (s ∷ ss) end = refl
kept_own rs [] (Some e) = refl
kept_own rs [] None = refl

taken_other : (rs ss : List Message) (end : Option End) → is_own (turn_by true rs ss end) ≡ false
taken_other (r ∷ rs) ss end = refl
taken_other [] ss end = refl

received_taken : (b : Bool) (rs ss : List Message) (end : Option End) (turn : Turn) → is_received (Some turn) ≡ true → Some turn ≡ turn_by b rs ss end → b ≡ true
received_taken true rs ss end turn is e = refl
received_taken false rs ss end turn is e = absurd (false≢true (sym (kept_own rs ss end) ∙ sym (ap is_received e) ∙ is))

own_kept : (b : Bool) (rs ss : List Message) (end : Option End) (turn : Turn) → is_own (Some turn) ≡ true → Some turn ≡ turn_by b rs ss end → b ≡ false
own_kept true rs ss end turn is e = absurd (false≢true (sym (taken_other rs ss end) ∙ sym (ap is_own e) ∙ is))
own_kept false rs ss end turn is e = refl

-- the turn that is taken, by what the rules say of it
pub next_by : (foresight : Foresight) (within : ℕ) (old new : Making) (turn : Turn) (waits answered : Bool) → waits ≡ first_waits foresight (course_of old) (values_of old.pending.received)
    → answered ≡ first_is_answered foresight (course_of old) (values_of old.pending.received) → Some turn ≡ turn_of within waits old.pending
    → Leads within old.pending turn new.pending → Shows old turn new → new.place ≡ place_after old.place (Some turn) → new.is_answering ≡ answering_after old turn answered
    → course_of new ≡ after_next foresight within (course_of old)
next_by foresight within old new (turns.Received m) waits answered is_waits is_answered is_turn leads shows place answering =
    let taken = received_taken (is_next_taken within waits old.pending) _ _ _ (turns.Received m) refl is_turn in
    next_received foresight within old new m
    (ap (λ (b : Bool). is_taken within b (values_of old.pending.received) (shown_next (values_of old.pending.sent) old.pending.end)) (sym is_waits) ∙ taken)
    leads shows place (answering ∙ is_answered)
next_by foresight within old new (turns.Sent m) waits answered is_waits is_answered is_turn leads shows place answering =
    let kept = own_kept (is_next_taken within waits old.pending) _ _ _ (turns.Sent m) refl is_turn in
    next_sent foresight within old new m
    (ap (λ (b : Bool). is_taken within b (values_of old.pending.received) (shown_next (values_of old.pending.sent) old.pending.end)) (sym is_waits) ∙ kept)
    leads shows place answering
next_by foresight within old new (turns.End e) waits answered is_waits is_answered is_turn leads shows place answering =
    let kept = own_kept (is_next_taken within waits old.pending) _ _ _ (turns.End e) refl is_turn in
    next_end foresight within old new e
    (ap (λ (b : Bool). is_taken within b (values_of old.pending.received) (shown_next (values_of old.pending.sent) old.pending.end)) (sym is_waits) ∙ kept)
    leads shows place answering

-- ---- an order that is under way

-- what is still to be taken leads to the made order
abbrev pub IsOrdered : ℕ → Exchange → Making → Type 0
IsOrdered within exchange making =
    let received = values_of exchange.received.now in
    let sent = values_of exchange.sent.now in
    after_more (left_in making.pending) (foresight_of received sent) within (course_of making)
    ≡ after_more (count_of received sent exchange.end) (foresight_of received sent) within
    (begun_course exchange.opened_by (opening_moment exchange) received sent exchange.end)

pub begins_ordered : (within : ℕ) (exchange : Exchange) (making : Making) → Begins exchange making → IsOrdered within exchange making
begins_ordered within exchange making begun =
    let received = values_of exchange.received.now in
    let sent = values_of exchange.sent.now in
    let course : course_of making ≡ begun_course exchange.opened_by (opening_moment exchange) received sent exchange.end =
    course_same making _ _ _ _ _ _ _ _ _ (ap values_of begun.received) (ap values_of begun.sent) begun.end begun.place begun.last begun.state begun.answering begun.before begun.opens in
    let count : left_in making.pending ≡ count_of received sent exchange.end = omega (
      arith,
      ap length begun.received,
      ap length begun.sent,
      ap (λ (o : Option End). length (ends_of o)) begun.end,
      length-map exchange.received.now message_value,
      length-map exchange.sent.now message_value,
    ) in
    ap (λ (n : ℕ). after_more n (foresight_of received sent) within (course_of making)) count
    ∙ ap (λ (c : Course). after_more (count_of received sent exchange.end) (foresight_of received sent) within c) course

one_less : (old new : Pending) (turn : Turn) (within : ℕ) → Leads within old turn new → left_in old ≡ suc (left_in new)
one_less old new (turns.Received r) within leads =
    omega (arith, ap length leads.received, ap length leads.sent, ap (λ (o : Option End). length (ends_of o)) leads.end)
one_less old new (turns.Sent s) within leads =
    omega (arith, ap length leads.received, ap length leads.sent, ap (λ (o : Option End). length (ends_of o)) leads.end)
one_less old new (turns.End e) within leads =
    omega (
      arith,
      ap length leads.received,
      ap length leads.sent,
      ap length leads.sent_before,
      ap (λ (o : Option End). length (ends_of o)) leads.end_before,
      ap (λ (o : Option End). length (ends_of o)) leads.end_after,
    )

pub ordered_on : (within : ℕ) (exchange : Exchange) (foresight : Foresight) (old new : Making) (more : Bool) → more ≡ true → StepsOrEnds within old more new
    → foresight ≡ foresight_of (values_of exchange.received.now) (values_of exchange.sent.now) → course_of new ≡ after_next foresight within (course_of old)
    → IsOrdered within exchange old → IsOrdered within exchange new
ordered_on within exchange foresight old new true is steps same next h =
    let f = foresight_of (values_of exchange.received.now) (values_of exchange.sent.now) in
    ap (λ (c : Course). after_more (left_in new.pending) f within c) (next ∙ ap (λ (g : Foresight). after_next g within (course_of old)) same)
    ∙ sym (ap (λ (n : ℕ). after_more n f within (course_of old)) (one_less old.pending new.pending steps.turn within steps.leads))
    ∙ h
ordered_on within exchange foresight old new false is steps same next h = absurd (false≢true is)

none_left : (pending : Pending) → IsDone pending → left_in pending ≡ 0
none_left pending done = omega (arith, ap length done.received, ap length done.sent, ap (λ (o : Option End). length (ends_of o)) done.end)

pub ordered_where : (within : ℕ) (exchange : Exchange) (old new inside : Making) (more : Bool) → more ≡ false → StepsOrEnds within old more new → inside ≡ new
    → IsOrdered within exchange old → inside.numbered ≡ order_of within exchange
ordered_where within exchange old new inside true is ends view h = absurd (false≢true (sym is))
ordered_where within exchange old new inside false is ends view h =
    let f = foresight_of (values_of exchange.received.now) (values_of exchange.sent.now) in
    ap (λ (m : Making). m.numbered) (view ∙ ends.1)
    ∙ ap (λ (c : Course). c.numbered) (sym (ap (λ (n : ℕ). after_more n f within (course_of old)) (none_left old.pending ends.0)) ∙ h)
