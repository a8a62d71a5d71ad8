-- All whole ways of an exchange end in one state.
use Rattle.std.proofs.Common.{◌≡◌, ◌∙◌, ◌⊎◌, ◌++◌, ℕ, Bool, true, false, List, [], ◌∷◌, Option, None, Some, inl, inr, refl, sym, ap}
use Rattle.std.specs.List.{AllByRecursion}
use Rattle.bgp_prefix.specs.Shown as shown
use Rattle.bgp_prefix.specs.Shown.{ShownRecord}
use Rattle.streams.specs.declared.connection.End.{End as TheEnd}
use Rattle.bgp_wire.specs.declared.header.MessageType.{MessageType}
use Rattle.bgp_wire.specs.declared.header.MessageType.TheVariants as types
use Rattle.bgp_machine.specs.declared.fsm.Fsm.{Fsm}
use Rattle.bgp_machine.specs.declared.fsm.Fsm.TheVariants as fsms
use Rattle.bgp_recording.specs.declared.message.Message.{Message}
use Rattle.bgp_recording.specs.declared.standing.Before.{Before as Standing}
use Rattle.bgp_recording.specs.declared.standing.Before.TheVariants as stand
use Rattle.bgp_recording.specs.declared.state.State.{State}
use Rattle.bgp_recording.specs.declared.state.State.TheVariants as states
use Rattle.bgp_recording.specs.Allowed.{Ended, Received, Sent, ends_in, received_in, sent_in}
use Rattle.bgp_recording.specs.Changes.{are_left, is_answered_before_open, just_received, just_sent, led_by_end, led_by_left, led_by_received, led_by_sent, state_then}
use Rattle.bgp_recording.specs.States.{state_number}
use Rattle.bgp_recording.specs.Tells.{Event, Passed, items_in}
use Rattle.bgp_judge.specs.Told.{Told, fresh_told, told_by_message, told_from, told_next}
use Rattle.bgp_orders.specs.Ways.{changed_to, records_in, state_after_end}
use Rattle.bgp_way_ends.specs.OneState.{IsTyped}
use Rattle.bgp_way_ends.proofs.Falls.{Cause, FallsByCause, RetriesNone, said_in}
use Rattle.bgp_way_ends.proofs.WayEnds.{idle_state, octets_of}

-- ---- the state at last, by the tables of ways

abbrev pub final_in : State → Standing → List Event → State
final_in state before [] = state
final_in state before (Passed second (Received m) ∷ later) =
    final_in (state_then state (led_by_received state m.kind (is_answered_before_open m.kind (sent_in (items_in (later ++ [])))))) (just_received m.kind) later
final_in state before (Passed second (Sent m) ∷ later) = final_in (state_then state (led_by_sent state m.kind before)) (just_sent state m.kind before) later
final_in state before (Passed second (Ended e) ∷ later) = final_in (state_after_end state (are_left (received_in (items_in (later ++ []))))) stand.Other later

abbrev pub fsm_by : State → Fsm
fsm_by states.Idle = fsms.Idle
fsm_by states.Connect = fsms.Connect
fsm_by states.Active = fsms.Active
fsm_by states.OpenSent = fsms.OpenSent
fsm_by states.OpenConfirm = fsms.OpenConfirm
fsm_by states.Established = fsms.Established

-- ---- where messages lead

data ReceivedLed (state : State) (kind : Option MessageType) (led : Option State) : Type 0 where
  LedNowhere : led ≡ None → ReceivedLed state kind led
  LedDown : led ≡ Some states.Idle → (kind ≡ Some types.Notification) ⊎ ((state ≡ states.Connect) ⊎ (state ≡ states.Active)) → ReceivedLed state kind led
  LedUp : led ≡ Some states.Established → ReceivedLed state kind led

received_led : (state : State) (kind : Option MessageType) (answered : Bool) → ReceivedLed state kind (led_by_received state kind answered)
received_led states.Idle kind answered = LedNowhere refl
received_led states.Connect None true = LedNowhere refl
received_led states.Connect None false = LedDown refl (inr (inl refl))
received_led states.Connect (Some types.Open) true = LedNowhere refl
received_led states.Connect (Some types.Open) false = LedDown refl (inr (inl refl))
received_led states.Connect (Some types.Update) true = LedNowhere refl
received_led states.Connect (Some types.Update) false = LedDown refl (inr (inl refl))
received_led states.Connect (Some types.Notification) answered = LedDown refl (inl refl)
received_led states.Connect (Some types.Keepalive) true = LedNowhere refl
received_led states.Connect (Some types.Keepalive) false = LedDown refl (inr (inl refl))
received_led states.Active None true = LedNowhere refl
received_led states.Active None false = LedDown refl (inr (inr refl))
received_led states.Active (Some types.Open) true = LedNowhere refl
received_led states.Active (Some types.Open) false = LedDown refl (inr (inr refl))
received_led states.Active (Some types.Update) true = LedNowhere refl
received_led states.Active (Some types.Update) false = LedDown refl (inr (inr refl))
received_led states.Active (Some types.Notification) answered = LedDown refl (inl refl)
received_led states.Active (Some types.Keepalive) true = LedNowhere refl
received_led states.Active (Some types.Keepalive) false = LedDown refl (inr (inr refl))
received_led states.OpenSent None answered = LedNowhere refl
received_led states.OpenSent (Some types.Open) answered = LedNowhere refl
received_led states.OpenSent (Some types.Update) answered = LedNowhere refl
received_led states.OpenSent (Some types.Notification) answered = LedDown refl (inl refl)
received_led states.OpenSent (Some types.Keepalive) answered = LedNowhere refl
received_led states.OpenConfirm None answered = LedNowhere refl
received_led states.OpenConfirm (Some types.Open) answered = LedNowhere refl
received_led states.OpenConfirm (Some types.Update) answered = LedNowhere refl
received_led states.OpenConfirm (Some types.Notification) answered = LedDown refl (inl refl)
received_led states.OpenConfirm (Some types.Keepalive) answered = LedUp refl
received_led states.Established None answered = LedNowhere refl
received_led states.Established (Some types.Open) answered = LedNowhere refl
received_led states.Established (Some types.Update) answered = LedNowhere refl
received_led states.Established (Some types.Notification) answered = LedDown refl (inl refl)
received_led states.Established (Some types.Keepalive) answered = LedNowhere refl

data SentLed (kind : Option MessageType) (led : Option State) : Type 0 where
  SentNowhere : led ≡ None → SentLed kind led
  SentDown : led ≡ Some states.Idle → kind ≡ Some types.Notification → SentLed kind led
  SentOn : (state : State) → led ≡ Some state → (state ≡ states.OpenSent) ⊎ (state ≡ states.OpenConfirm) → SentLed kind led

sent_led : (state : State) (kind : Option MessageType) (before : Standing) → SentLed kind (led_by_sent state kind before)
sent_led states.Idle kind before = SentNowhere refl
sent_led states.Connect None stand.PeersOpen = SentNowhere refl
sent_led states.Connect None stand.BothOpens = SentNowhere refl
sent_led states.Connect None stand.Other = SentNowhere refl
sent_led states.Connect (Some types.Open) stand.PeersOpen = SentNowhere refl
sent_led states.Connect (Some types.Open) stand.BothOpens = SentOn states.OpenSent refl (inl refl)
sent_led states.Connect (Some types.Open) stand.Other = SentOn states.OpenSent refl (inl refl)
sent_led states.Connect (Some types.Update) stand.PeersOpen = SentNowhere refl
sent_led states.Connect (Some types.Update) stand.BothOpens = SentNowhere refl
sent_led states.Connect (Some types.Update) stand.Other = SentNowhere refl
sent_led states.Connect (Some types.Notification) before = SentDown refl refl
sent_led states.Connect (Some types.Keepalive) stand.PeersOpen = SentNowhere refl
sent_led states.Connect (Some types.Keepalive) stand.BothOpens = SentOn states.OpenConfirm refl (inr refl)
sent_led states.Connect (Some types.Keepalive) stand.Other = SentNowhere refl
sent_led states.Active None stand.PeersOpen = SentNowhere refl
sent_led states.Active None stand.BothOpens = SentNowhere refl
sent_led states.Active None stand.Other = SentNowhere refl
sent_led states.Active (Some types.Open) stand.PeersOpen = SentNowhere refl
sent_led states.Active (Some types.Open) stand.BothOpens = SentOn states.OpenSent refl (inl refl)
sent_led states.Active (Some types.Open) stand.Other = SentOn states.OpenSent refl (inl refl)
sent_led states.Active (Some types.Update) stand.PeersOpen = SentNowhere refl
sent_led states.Active (Some types.Update) stand.BothOpens = SentNowhere refl
sent_led states.Active (Some types.Update) stand.Other = SentNowhere refl
sent_led states.Active (Some types.Notification) before = SentDown refl refl
sent_led states.Active (Some types.Keepalive) stand.PeersOpen = SentNowhere refl
sent_led states.Active (Some types.Keepalive) stand.BothOpens = SentOn states.OpenConfirm refl (inr refl)
sent_led states.Active (Some types.Keepalive) stand.Other = SentNowhere refl
sent_led states.OpenSent None stand.PeersOpen = SentNowhere refl
sent_led states.OpenSent None stand.BothOpens = SentNowhere refl
sent_led states.OpenSent None stand.Other = SentNowhere refl
sent_led states.OpenSent (Some types.Open) stand.PeersOpen = SentNowhere refl
sent_led states.OpenSent (Some types.Open) stand.BothOpens = SentNowhere refl
sent_led states.OpenSent (Some types.Open) stand.Other = SentNowhere refl
sent_led states.OpenSent (Some types.Update) stand.PeersOpen = SentNowhere refl
sent_led states.OpenSent (Some types.Update) stand.BothOpens = SentNowhere refl
sent_led states.OpenSent (Some types.Update) stand.Other = SentNowhere refl
sent_led states.OpenSent (Some types.Notification) before = SentDown refl refl
sent_led states.OpenSent (Some types.Keepalive) stand.PeersOpen = SentOn states.OpenConfirm refl (inr refl)
sent_led states.OpenSent (Some types.Keepalive) stand.BothOpens = SentNowhere refl
sent_led states.OpenSent (Some types.Keepalive) stand.Other = SentNowhere refl
sent_led states.OpenConfirm None stand.PeersOpen = SentNowhere refl
sent_led states.OpenConfirm None stand.BothOpens = SentNowhere refl
sent_led states.OpenConfirm None stand.Other = SentNowhere refl
sent_led states.OpenConfirm (Some types.Open) stand.PeersOpen = SentNowhere refl
sent_led states.OpenConfirm (Some types.Open) stand.BothOpens = SentNowhere refl
sent_led states.OpenConfirm (Some types.Open) stand.Other = SentNowhere refl
sent_led states.OpenConfirm (Some types.Update) stand.PeersOpen = SentNowhere refl
sent_led states.OpenConfirm (Some types.Update) stand.BothOpens = SentNowhere refl
sent_led states.OpenConfirm (Some types.Update) stand.Other = SentNowhere refl
sent_led states.OpenConfirm (Some types.Notification) before = SentDown refl refl
sent_led states.OpenConfirm (Some types.Keepalive) stand.PeersOpen = SentNowhere refl
sent_led states.OpenConfirm (Some types.Keepalive) stand.BothOpens = SentNowhere refl
sent_led states.OpenConfirm (Some types.Keepalive) stand.Other = SentNowhere refl
sent_led states.Established None stand.PeersOpen = SentNowhere refl
sent_led states.Established None stand.BothOpens = SentNowhere refl
sent_led states.Established None stand.Other = SentNowhere refl
sent_led states.Established (Some types.Open) stand.PeersOpen = SentNowhere refl
sent_led states.Established (Some types.Open) stand.BothOpens = SentNowhere refl
sent_led states.Established (Some types.Open) stand.Other = SentNowhere refl
sent_led states.Established (Some types.Update) stand.PeersOpen = SentNowhere refl
sent_led states.Established (Some types.Update) stand.BothOpens = SentNowhere refl
sent_led states.Established (Some types.Update) stand.Other = SentNowhere refl
sent_led states.Established (Some types.Notification) before = SentDown refl refl
sent_led states.Established (Some types.Keepalive) stand.PeersOpen = SentNowhere refl
sent_led states.Established (Some types.Keepalive) stand.BothOpens = SentNowhere refl
sent_led states.Established (Some types.Keepalive) stand.Other = SentNowhere refl

-- ---- records of ways without an end

abbrev pub AllRetryNone : List ShownRecord → Type 0
AllRetryNone records = AllByRecursion RetriesNone records

-- behind a change to a state
change_retries : (second : ℕ) (state : State) (led : Option State) (rest : List ShownRecord) → (led ≡ Some states.Active → ⊥) → AllRetryNone rest
    → AllRetryNone (changed_to second state led ++ rest)
change_retries second state None rest isnt all = all
change_retries second state (Some states.Idle) rest isnt all = (λ k. (let e : 1 ≡ 3 = k.1 in cc), all)
change_retries second state (Some states.Connect) rest isnt all = (λ k. (let e : 2 ≡ 3 = k.1 in cc), all)
change_retries second state (Some states.Active) rest isnt all = absurd (isnt refl)
change_retries second state (Some states.OpenSent) rest isnt all = (λ k. (let e : 4 ≡ 3 = k.1 in cc), all)
change_retries second state (Some states.OpenConfirm) rest isnt all = (λ k. (let e : 5 ≡ 3 = k.1 in cc), all)
change_retries second state (Some states.Established) rest isnt all = (λ k. (let e : 6 ≡ 3 = k.1 in cc), all)

not_active : (led : Option State) (state : State) → led ≡ Some state → (state ≡ states.Active → ⊥) → led ≡ Some states.Active → ⊥
not_active led state is isnt e = let k : Some state ≡ Some states.Active = sym is ∙ e in isnt (let j : state ≡ states.Active = cc in j)

nowhere : (led : Option State) → led ≡ None → led ≡ Some states.Active → ⊥
nowhere led is e = let k : None ≡ Some states.Active = sym is ∙ e in cc

received_not_active : (state : State) (kind : Option MessageType) (led : Option State) → ReceivedLed state kind led → led ≡ Some states.Active → ⊥
received_not_active state kind led (LedNowhere is) = nowhere led is
received_not_active state kind led (LedDown is why) = not_active led states.Idle is (λ e. cc)
received_not_active state kind led (LedUp is) = not_active led states.Established is (λ e. cc)

sent_not_active : (kind : Option MessageType) (led : Option State) → SentLed kind led → led ≡ Some states.Active → ⊥
sent_not_active kind led (SentNowhere is) = nowhere led is
sent_not_active kind led (SentDown is why) = not_active led states.Idle is (λ e. cc)
sent_not_active kind led (SentOn state is (inl e)) = not_active led state is (λ a. (let k : states.OpenSent ≡ states.Active = sym e ∙ a in cc))
sent_not_active kind led (SentOn state is (inr e)) = not_active led state is (λ a. (let k : states.OpenConfirm ≡ states.Active = sym e ∙ a in cc))

no_ends : {X : Type 0} (e : TheEnd) (es : List TheEnd) → e ∷ es ≡ [] → X
no_ends e es none = absurd (let k : ⊥ = cc in k)

pub retries_none : (state : State) (before : Standing) (events : List Event) → ends_in (items_in events) ≡ [] → AllRetryNone (records_in state before events [])
retries_none state before [] none = tt
retries_none state before (Passed second (Received m) ∷ front) none =
    let answered = is_answered_before_open m.kind (sent_in (items_in (front ++ []))) in
    let led = led_by_received state m.kind answered in (
      tt,
      change_retries second state led (records_in (state_then state led) (just_received m.kind) front []) (received_not_active state m.kind led (received_led state m.kind answered))
          (retries_none (state_then state led) (just_received m.kind) front none),
    )
retries_none state before (Passed second (Sent m) ∷ front) none =
    let led = led_by_sent state m.kind before in (
      tt,
      change_retries second state led (records_in (state_then state led) (just_sent state m.kind before) front []) (sent_not_active m.kind led (sent_led state m.kind before))
          (retries_none (state_then state led) (just_sent state m.kind before) front none),
    )
retries_none state before (Passed second (Ended e) ∷ front) none = no_ends e (ends_in (items_in front)) none

-- a change to Idle
change_caused : (prev : Option ShownRecord) (second : ℕ) (state : State) (led : Option State) (rest : List ShownRecord)
    → (led ≡ Some states.Idle → Cause prev (state_number state)) → ((p : Option ShownRecord) → FallsByCause p rest) → FallsByCause prev (changed_to second state led ++ rest)
change_caused prev second state None rest why all = all prev
change_caused prev second state (Some led) rest why all =
    (λ e. why (ap Some (idle_state led e)), all (Some (shown.Changed second (state_number state) (state_number led))))

not_led : {X : Type 0} (led : Option State) → led ≡ None → led ≡ Some states.Idle → X
not_led led is e = absurd (let k : None ≡ Some states.Idle = sym is ∙ e in cc)

received_cause : (second : ℕ) (m : Message) (state : State) (led : Option State) → IsTyped m → ReceivedLed state m.kind led → led ≡ Some states.Idle
    → Cause (Some (shown.Received second m.octets.now)) (state_number state)
received_cause second m state led typed (LedNowhere is) e = not_led led is e
received_cause second m state led typed (LedDown is (inl kind)) e = inl (typed kind)
received_cause second m state led typed (LedDown is (inr (inl at))) e = inr (inl (ap state_number at))
received_cause second m state led typed (LedDown is (inr (inr at))) e = inr (inr (ap state_number at))
received_cause second m state led typed (LedUp is) e = absurd (let k : Some states.Established ≡ Some states.Idle = sym is ∙ e in cc)

not_on : {X : Type 0} (state : State) → (state ≡ states.OpenSent) ⊎ (state ≡ states.OpenConfirm) → state ≡ states.Idle → X
not_on state (inl is) e = absurd (let k : states.OpenSent ≡ states.Idle = sym is ∙ e in cc)
not_on state (inr is) e = absurd (let k : states.OpenConfirm ≡ states.Idle = sym is ∙ e in cc)

led_same : (state other : State) → Some state ≡ Some other → state ≡ other
led_same state other e = cc

sent_cause : (second : ℕ) (m : Message) (old : ℕ) (led : Option State) → IsTyped m → SentLed m.kind led → led ≡ Some states.Idle
    → Cause (Some (shown.Sent second m.octets.now)) old
sent_cause second m old led typed (SentNowhere is) e = not_led led is e
sent_cause second m old led typed (SentDown is kind) e = typed kind
sent_cause second m old led typed (SentOn state is on) e = not_on state on (led_same state states.Idle (sym is ∙ e))

abbrev pub AreTyped : List Message → Type 0
AreTyped messages = AllByRecursion IsTyped messages

pub causes_in : (prev : Option ShownRecord) (state : State) (before : Standing) (events : List Event) → ends_in (items_in events) ≡ [] → AreTyped (received_in (items_in events))
    → AreTyped (sent_in (items_in events)) → FallsByCause prev (records_in state before events [])
causes_in prev state before [] none rs ss = tt
causes_in prev state before (Passed second (Received m) ∷ front) none rs ss =
    let answered = is_answered_before_open m.kind (sent_in (items_in (front ++ []))) in
    let led = led_by_received state m.kind answered in
    let here : Option ShownRecord = Some (shown.Received second m.octets.now) in (
      tt,
      change_caused here second state led (records_in (state_then state led) (just_received m.kind) front [])
          (received_cause second m state led rs.0 (received_led state m.kind answered))
          (λ p. causes_in p (state_then state led) (just_received m.kind) front none rs.1 ss),
    )
causes_in prev state before (Passed second (Sent m) ∷ front) none rs ss =
    let led = led_by_sent state m.kind before in
    let here : Option ShownRecord = Some (shown.Sent second m.octets.now) in (
      tt,
      change_caused here second state led (records_in (state_then state led) (just_sent state m.kind before) front [])
          (sent_cause second m (state_number state) led ss.0 (sent_led state m.kind before))
          (λ p. causes_in p (state_then state led) (just_sent state m.kind before) front none rs ss.1),
    )
causes_in prev state before (Passed second (Ended e) ∷ front) none rs ss = no_ends e (ends_in (items_in front)) none

-- ---- what is sent

said_both : (xs ys : List ShownRecord) → said_in (xs ++ ys) ≡ said_in xs ++ said_in ys
said_both [] ys = refl
said_both (shown.Received t o ∷ xs) ys = said_both xs ys
said_both (shown.Sent t o ∷ xs) ys = ap (λ (os : List (List ℕ)). o ∷ os) (said_both xs ys)
said_both (shown.Changed t a b ∷ xs) ys = said_both xs ys

no_said : (second : ℕ) (state : State) (led : Option State) → said_in (changed_to second state led) ≡ []
no_said second state None = refl
no_said second state (Some led) = refl

said_behind : (second : ℕ) (state : State) (led : Option State) (records : List ShownRecord) → said_in (changed_to second state led ++ records) ≡ said_in records
said_behind second state led records =
    said_both (changed_to second state led) records ∙ ap (λ (os : List (List ℕ)). os ++ said_in records) (no_said second state led)

pub said_way : (state : State) (before : Standing) (events : List Event) → ends_in (items_in events) ≡ []
    → said_in (records_in state before events []) ≡ octets_of (sent_in (items_in events))
said_way state before [] none = refl
said_way state before (Passed second (Received m) ∷ front) none =
    let led = led_by_received state m.kind (is_answered_before_open m.kind (sent_in (items_in (front ++ [])))) in
    said_behind second state led (records_in (state_then state led) (just_received m.kind) front [])
    ∙ said_way (state_then state led) (just_received m.kind) front none
said_way state before (Passed second (Sent m) ∷ front) none =
    let led = led_by_sent state m.kind before in
    ap (λ (os : List (List ℕ)). m.octets.now ∷ os)
    (said_behind second state led (records_in (state_then state led) (just_sent state m.kind before) front []) ∙ said_way (state_then state led) (just_sent state m.kind before) front none)
said_way state before (Passed second (Ended e) ∷ front) none = no_ends e (ends_in (items_in front)) none

-- ---- what the records say of the state

told_both : (t : Told) (xs ys : List ShownRecord) → told_from t (xs ++ ys) ≡ told_from (told_from t xs) ys
told_both t [] ys = refl
told_both t (x ∷ xs) ys = told_both (told_next t x) xs ys

told_changed : (t : Told) (second : ℕ) (state : State) (led : Option State) → t.fsm ≡ fsm_by state → (told_from t (changed_to second state led)).fsm ≡ fsm_by (state_then state led)
told_changed t second state None e = e
told_changed t second state (Some states.Idle) e = refl
told_changed t second state (Some states.Connect) e = refl
told_changed t second state (Some states.Active) e = refl
told_changed t second state (Some states.OpenSent) e = refl
told_changed t second state (Some states.OpenConfirm) e = refl
told_changed t second state (Some states.Established) e = refl

told_message : (fsm : Fsm) (t : Told) (octets : List ℕ) → (told_by_message fsm t octets).fsm ≡ t.fsm
told_message fsms.Idle t octets = refl
told_message fsms.Connect t octets = refl
told_message fsms.Active t octets = refl
told_message fsms.OpenSent t octets = refl
told_message fsms.OpenConfirm t octets = refl
told_message fsms.Established t octets = refl

pub told_final : (t : Told) (state : State) (before : Standing) (events : List Event) → t.fsm ≡ fsm_by state
    → (told_from t (records_in state before events [])).fsm ≡ fsm_by (final_in state before events)
told_final t state before [] e = e
told_final t state before (Passed second (Received m) ∷ front) e =
    let led = led_by_received state m.kind (is_answered_before_open m.kind (sent_in (items_in (front ++ [])))) in
    let heard : Told = told_by_message t.fsm t m.octets.now in
    let rest = records_in (state_then state led) (just_received m.kind) front [] in
    ap (λ (u : Told). u.fsm) (told_both heard (changed_to second state led) rest)
    ∙ told_final (told_from heard (changed_to second state led)) (state_then state led) (just_received m.kind) front
    (told_changed heard second state led (told_message t.fsm t m.octets.now ∙ e))
told_final t state before (Passed second (Sent m) ∷ front) e =
    let led = led_by_sent state m.kind before in
    let rest = records_in (state_then state led) (just_sent state m.kind before) front [] in
    ap (λ (u : Told). u.fsm) (told_both t (changed_to second state led) rest)
    ∙ told_final (told_from t (changed_to second state led)) (state_then state led) (just_sent state m.kind before) front (told_changed t second state led e)
told_final t state before (Passed second (Ended x) ∷ front) e =
    let left = are_left (received_in (items_in (front ++ []))) in
    let first = changed_to second state (led_by_end state) in
    let then = state_then state (led_by_end state) in
    let next = changed_to second then (led_by_left state left) in
    let rest = records_in (state_after_end state left) stand.Other front [] in
    ap (λ (u : Told). u.fsm) (told_both t (first ++ next) rest)
    ∙ told_final (told_from t (first ++ next)) (state_after_end state left) stand.Other front
    (ap (λ (u : Told). u.fsm) (told_both t first next)
    ∙ told_changed (told_from t first) second then (led_by_left state left) (told_changed t second state (led_by_end state) e))

-- after the first record
pub told_start : (second : ℕ) (state : State) → (told_next fresh_told (shown.Changed second 1 (state_number state))).fsm ≡ fsm_by state
told_start second states.Idle = refl
told_start second states.Connect = refl
told_start second states.Active = refl
told_start second states.OpenSent = refl
told_start second states.OpenConfirm = refl
told_start second states.Established = refl
