-- What a core does that has no connection, or loses the one it has.
use Rattle.std.proofs.Common.{◌≡◌, ◌∙◌, ℕ, List, [], true, false, IsTrue, Option, None, Some, ap, refl, subst}
use Rattle.bgp_prefix.specs.Prefix.{PrefixBits}
use Rattle.bgp_prefix.specs.Shown.{ShownRecord}
use Rattle.bgp_open.specs.declared.link.Link.{Link}
use Rattle.bgp_update.specs.Changes.{RouteChanges}
use Rattle.bgp_machine.specs.declared.fsm.Fsm.{Fsm}
use Rattle.bgp_machine.specs.declared.rows.HiddenRow.{HiddenRow}
use Rattle.bgp_machine.specs.declared.rows.HiddenRow.TheVariants.{Starts, Listens, Stops, ConnectionFails}
use Rattle.bgp_machine.specs.declared.state.Head.{Head}
use Rattle.bgp_machine.specs.declared.state.Head.TheVariants.{Idle, Connect, Active, OpenSent, OpenConfirm, Established}
use Rattle.bgp_machine.specs.declared.want.Want.{Want}
use Rattle.bgp_machine.specs.Listed.{no_changes}
use Rattle.bgp_machine.specs.State.{Turn, enters, falls, fsm_of, link_at}
use Rattle.bgp_machine.specs.Step.{Hidden, HiddenIn, change_of}
use Rattle.bgp_speaker.specs.declared.speaker.Speaker.{Speaker}
use Rattle.bgp_speaker.specs.Choice.{TakesOwn, change_records, shown_by}
use Rattle.bgp_speaker.specs.Choosing.{SendsAt, TakesRow, sent_in}
use Rattle.bgp_speaker.specs.Core.{CoreState, Moment, Start, Passive, Stop, Connected, Failed, Bytes, Tick, Announce, Withdraw}
use Rattle.bgp_speaker.specs.Picks.{Picks}
use Rattle.bgp_speaker.specs.Said.{SaysEach, announced}
use Rattle.bgp_talk.specs.CoreFacts.{idle_at, rests_at, is_resting, FailureBringsRest, RestGoesOn, IdleKeepsPrefix, StartIsSilent}

change_silent : (t : ℕ) (change : Option (Fsm × Fsm)) → sent_in (change_records t change) ≡ []
change_silent t None = refl
change_silent t (Some change) = refl

-- a row that wants nothing sends nothing
silent_row : (speaker : Speaker) (changes : RouteChanges) (t : ℕ) (row : HiddenRow) (m e : Moment) (records : List ShownRecord)
    → (x : TakesOwn speaker changes t row m records e) → x.wants ≡ [] → sent_in records ≡ []
silent_row speaker changes t row m e records x none =
    let quiet : x.messages ≡ [] = subst (λ (ws : List Want). SaysEach speaker (link_at m.session.head) 0 changes ws x.messages) none x.acts.says in
    let change = change_of (Hidden row) (fsm_of m.session.head) (fsm_of x.turn.head) in
    ap sent_in x.shows ∙ ap (λ (ms : List (List ℕ)). sent_in (shown_by (Hidden row) t ms change)) quiet ∙ change_silent t change

-- it rests, and sends nothing
abbrev Rests : List ShownRecord → Moment → Type 0
Rests records e = IsTrue (rests_at e.session.head) × (sent_in records ≡ [])

still : (head : Head) (m e : Moment) (records : List ShownRecord) → m.session.head ≡ head → IsTrue (rests_at head) → records ≡ [] → e ≡ m → Rests records e
still head m e records is rests none same =
    (ap (λ (v : Moment). rests_at v.session.head) same ∙ ap rests_at is ∙ rests, ap sent_in none)

went : (speaker : Speaker) (t : ℕ) (row : HiddenRow) (to : Turn) (m e : Moment) (records : List ShownRecord)
    → (x : TakesOwn speaker no_changes t row m records e) → x.wants ≡ [] → x.turn ≡ to → IsTrue (rests_at to.head) → Rests records e
went speaker t row to m e records x none turn rests = (
  ap (λ (v : Moment). rests_at v.session.head) x.acts.leaves ∙ ap (λ (v : Turn). rests_at v.head) turn ∙ rests,
  silent_row speaker no_changes t row m e records x none,
)

-- the row that is picked
row_of : (speaker : Speaker) (t : ℕ) (row : HiddenRow) (m e : Moment) (picked : Option HiddenRow) (records : List ShownRecord)
    → picked ≡ Some row → TakesRow speaker t m picked records e → TakesOwn speaker no_changes t row m records e
row_of speaker t row m e picked records is x = subst (λ (p : Option HiddenRow). TakesRow speaker t m p records e) is x

none_of : (speaker : Speaker) (t : ℕ) (m e : Moment) (picked : Option HiddenRow) (records : List ShownRecord)
    → picked ≡ None → TakesRow speaker t m picked records e → (records ≡ []) × (e ≡ m)
none_of speaker t m e picked records is x = subst (λ (p : Option HiddenRow). TakesRow speaker t m p records e) is x

-- what the row asks for, in this state
asked : (speaker : Speaker) (t : ℕ) (row : HiddenRow) (head : Head) (m e : Moment) (records : List ShownRecord) → m.session.head ≡ head
    → (x : TakesOwn speaker no_changes t row m records e) → HiddenIn head speaker.config t row x.wants x.turn
asked speaker t row head m e records is x = subst (λ (h : Head). HiddenIn h speaker.config t row x.wants x.turn) is x.is

quiet_row : (speaker : Speaker) (t : ℕ) (head : Head) (m e : Moment) (picked : Option HiddenRow) (records : List ShownRecord)
    → m.session.head ≡ head → IsTrue (rests_at head) → picked ≡ None → TakesRow speaker t m picked records e → Rests records e
quiet_row speaker t head m e picked records is rests none x =
    let same = none_of speaker t m e picked records none x in
    still head m e records is rests same.0 same.1

turned : (speaker : Speaker) (t : ℕ) (row : HiddenRow) (head : Head) (to : Turn) (m e : Moment) (picked : Option HiddenRow) (records : List ShownRecord)
    → m.session.head ≡ head → picked ≡ Some row
    → ((wants : List Want) (turn : Turn) → HiddenIn head speaker.config t row wants turn → (wants ≡ []) × (turn ≡ to))
    → IsTrue (rests_at to.head) → TakesRow speaker t m picked records e → Rests records e
turned speaker t row head to m e picked records is some shape rests x =
    let own = row_of speaker t row m e picked records some x in
    let shaped = shape own.wants own.turn (asked speaker t row head m e records is own) in
    went speaker t row to m e records own shaped.0 shaped.1 rests

failed_row : (speaker : Speaker) (t : ℕ) (head : Head) (m e : Moment) (picked : Option HiddenRow) (records : List ShownRecord)
    → m.session.head ≡ head → Picks head Failed m.sent_at t picked → TakesRow speaker t m picked records e → Rests records e
failed_row speaker t Idle m e picked records is p x = quiet_row speaker t Idle m e picked records is refl p x
failed_row speaker t (Connect true) m e picked records is p x =
    turned speaker t ConnectionFails (Connect true) (enters (Active false)) m e picked records is p (λ wants turn h. h) refl x
failed_row speaker t (Connect false) m e picked records is p x =
    turned speaker t ConnectionFails (Connect false) falls m e picked records is p (λ wants turn h. h) refl x
failed_row speaker t (Active delay) m e picked records is p x =
    turned speaker t ConnectionFails (Active delay) falls m e picked records is p (λ wants turn h. h) refl x
failed_row speaker t (OpenSent timer) m e picked records is p x =
    turned speaker t ConnectionFails (OpenSent timer) (enters (Active false)) m e picked records is p (λ wants turn h. h) refl x
failed_row speaker t (OpenConfirm link timer) m e picked records is p x =
    turned speaker t ConnectionFails (OpenConfirm link timer) falls m e picked records is p (λ wants turn h. h) refl x
failed_row speaker t (Established link timer) m e picked records is p x =
    turned speaker t ConnectionFails (Established link timer) falls m e picked records is p (λ wants turn h. h) refl x

stop_row : (speaker : Speaker) (t : ℕ) (head : Head) (m e : Moment) (picked : Option HiddenRow) (records : List ShownRecord)
    → m.session.head ≡ head → IsTrue (rests_at head) → Picks head Stop m.sent_at t picked → TakesRow speaker t m picked records e → Rests records e
stop_row speaker t Idle m e picked records is rests p x = quiet_row speaker t Idle m e picked records is refl p x
stop_row speaker t (Connect delay) m e picked records is rests p x = absurd (cc)
stop_row speaker t (Active delay) m e picked records is rests p x =
    turned speaker t Stops (Active delay) falls m e picked records is p (λ wants turn h. h) refl x
stop_row speaker t (OpenSent timer) m e picked records is rests p x = absurd (cc)
stop_row speaker t (OpenConfirm link timer) m e picked records is rests p x = absurd (cc)
stop_row speaker t (Established link timer) m e picked records is rests p x = absurd (cc)

tick_row : (speaker : Speaker) (t : ℕ) (head : Head) (m e : Moment) (picked : Option HiddenRow) (records : List ShownRecord)
    → m.session.head ≡ head → IsTrue (rests_at head) → Picks head Tick m.sent_at t picked → TakesRow speaker t m picked records e → Rests records e
tick_row speaker t Idle m e picked records is rests p x = quiet_row speaker t Idle m e picked records is refl p x
tick_row speaker t (Connect delay) m e picked records is rests p x = absurd (cc)
tick_row speaker t (Active delay) m e picked records is rests p x = quiet_row speaker t (Active delay) m e picked records is refl p x
tick_row speaker t (OpenSent timer) m e picked records is rests p x = absurd (cc)
tick_row speaker t (OpenConfirm link timer) m e picked records is rests p x = absurd (cc)
tick_row speaker t (Established link timer) m e picked records is rests p x = absurd (cc)

start_row : (speaker : Speaker) (t : ℕ) (head : Head) (m e : Moment) (picked : Option HiddenRow) (records : List ShownRecord)
    → m.session.head ≡ head → IsTrue (idle_at head) → Picks head Start m.sent_at t picked → TakesRow speaker t m picked records e → sent_in records ≡ []
start_row speaker t Idle m e picked records is idle p x =
    let own = row_of speaker t Starts m e picked records p x in
    silent_row speaker no_changes t Starts m e records own (asked speaker t Starts Idle m e records is own).0
start_row speaker t (Connect delay) m e picked records is idle p x = absurd (cc)
start_row speaker t (Active delay) m e picked records is idle p x = absurd (cc)
start_row speaker t (OpenSent timer) m e picked records is idle p x = absurd (cc)
start_row speaker t (OpenConfirm link timer) m e picked records is idle p x = absurd (cc)
start_row speaker t (Established link timer) m e picked records is idle p x = absurd (cc)

listen_row : (speaker : Speaker) (t : ℕ) (head : Head) (m e : Moment) (picked : Option HiddenRow) (records : List ShownRecord)
    → m.session.head ≡ head → IsTrue (idle_at head) → Picks head Passive m.sent_at t picked → TakesRow speaker t m picked records e → sent_in records ≡ []
listen_row speaker t Idle m e picked records is idle p x =
    let own = row_of speaker t Listens m e picked records p x in
    silent_row speaker no_changes t Listens m e records own (asked speaker t Listens Idle m e records is own).0
listen_row speaker t (Connect delay) m e picked records is idle p x = absurd (cc)
listen_row speaker t (Active delay) m e picked records is idle p x = absurd (cc)
listen_row speaker t (OpenSent timer) m e picked records is idle p x = absurd (cc)
listen_row speaker t (OpenConfirm link timer) m e picked records is idle p x = absurd (cc)
listen_row speaker t (Established link timer) m e picked records is idle p x = absurd (cc)

idle_sends : (speaker : Speaker) (head : Head) (changes : Link → RouteChanges) (prefix : PrefixBits) (t : ℕ) (m e : Moment) (records : List ShownRecord)
    → IsTrue (idle_at head) → SendsAt speaker head changes prefix t m records e → (records ≡ []) × (e ≡ m)
idle_sends speaker Idle changes prefix t m e records idle x = x
idle_sends speaker (Connect delay) changes prefix t m e records idle x = absurd (cc)
idle_sends speaker (Active delay) changes prefix t m e records idle x = absurd (cc)
idle_sends speaker (OpenSent timer) changes prefix t m e records idle x = absurd (cc)
idle_sends speaker (OpenConfirm link timer) changes prefix t m e records idle x = absurd (cc)
idle_sends speaker (Established link timer) changes prefix t m e records idle x = absurd (cc)

-- the core's state after it
after : (b : CoreState) (e : Moment) (records : List ShownRecord) → b.moment ≡ e → Rests records e → IsTrue (is_resting b) × (sent_in records ≡ [])
after b e records is rests = (ap (λ (v : Moment). rests_at v.session.head) is ∙ rests.0, rests.1)

pub failure_brings_rest : FailureBringsRest
failure_brings_rest a b second records c =
    after b c.0 records (ap (λ (v : CoreState). v.moment) c.3)
    (failed_row a.speaker _ a.moment.session.head a.moment c.0 c.2.0.0 records refl c.2.0.1 c.2.0.2)

pub rest_goes_on : RestGoesOn
rest_goes_on a b Tick second records quiet rests c =
    after b c.0 records (ap (λ (v : CoreState). v.moment) c.3)
    (tick_row a.speaker _ a.moment.session.head a.moment c.0 c.2.0.0 records refl rests c.2.0.1 c.2.0.2)
rest_goes_on a b Failed second records quiet rests c = failure_brings_rest a b second records c
rest_goes_on a b Stop second records quiet rests c =
    after b c.0 records (ap (λ (v : CoreState). v.moment) c.3)
    (stop_row a.speaker _ a.moment.session.head a.moment c.0 c.2.0.0 records refl rests c.2.0.1 c.2.0.2)
rest_goes_on a b Start second records quiet rests c = absurd quiet
rest_goes_on a b Passive second records quiet rests c = absurd quiet
rest_goes_on a b Connected second records quiet rests c = absurd quiet
rest_goes_on a b (Bytes octets) second records quiet rests c = absurd quiet
rest_goes_on a b (Announce prefix) second records quiet rests c = absurd quiet
rest_goes_on a b (Withdraw prefix) second records quiet rests c = absurd quiet

pub idle_keeps_prefix : IdleKeepsPrefix
idle_keeps_prefix a b prefix second records idle c =
    let same = idle_sends a.speaker a.moment.session.head (λ link. announced a.speaker link prefix) prefix _ a.moment c.0 records idle c.2.0 in
    (ap (λ (v : CoreState). idle_at v.moment.session.head) c.3 ∙ ap (λ (v : Moment). idle_at v.session.head) same.1 ∙ idle, ap sent_in same.0)

pub start_is_silent : StartIsSilent
start_is_silent a b Start second records opens idle c =
    start_row a.speaker _ a.moment.session.head a.moment c.0 c.2.0.0 records refl idle c.2.0.1 c.2.0.2
start_is_silent a b Passive second records opens idle c =
    listen_row a.speaker _ a.moment.session.head a.moment c.0 c.2.0.0 records refl idle c.2.0.1 c.2.0.2
start_is_silent a b Stop second records opens idle c = absurd opens
start_is_silent a b Connected second records opens idle c = absurd opens
start_is_silent a b Failed second records opens idle c = absurd opens
start_is_silent a b (Bytes octets) second records opens idle c = absurd opens
start_is_silent a b Tick second records opens idle c = absurd opens
start_is_silent a b (Announce prefix) second records opens idle c = absurd opens
start_is_silent a b (Withdraw prefix) second records opens idle c = absurd opens
