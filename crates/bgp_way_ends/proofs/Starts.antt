-- Two starts are enough: from the four starts what is explained is just what the ways explain.
use Rattle.std.proofs.Common.{◌≡◌, ◌∙◌, ◌⊎◌, ◌++◌, ◌||◌, ◌&&◌, ℕ, Bool, true, false, List, [], ◌∷◌, Option, None, Some, if◌then◌else◌, inl, inr, refl, sym, ap, subst, arith}
use Rattle.std.proofs.lemmas.Bool.{cases_Bool, false≢true}
use Rattle.bgp_prefix.specs.Shown as shown
use Rattle.bgp_prefix.specs.Shown.{ShownRecord}
use Rattle.streams.specs.declared.connection.End.{End as TheEnd}
use Rattle.bgp_wire.specs.declared.header.MessageType.{MessageType}
use Rattle.bgp_wire.specs.declared.header.MessageType.TheVariants as types
use Rattle.bgp_open.specs.declared.config.Config.{Config}
use Rattle.bgp_machine.specs.declared.fsm.Fsm.{Fsm}
use Rattle.bgp_machine.specs.declared.fsm.Fsm.TheVariants as fsms
use Rattle.bgp_machine.specs.declared.want.FaultSet.{FaultSet}
use Rattle.bgp_machine.specs.declared.want.Want.{Want}
use Rattle.bgp_machine.specs.declared.want.Want.TheVariants.{OwnOpen, KeepAlive, Faults}
use Rattle.bgp_machine.specs.State.{SessionState, fsm_of, number_of}
use Rattle.bgp_recording.specs.declared.framing.Framing.{Framing}
use Rattle.bgp_recording.specs.declared.message.Message.{Message}
use Rattle.bgp_recording.specs.declared.standing.Before.{Before}
use Rattle.bgp_recording.specs.declared.standing.Before.TheVariants.{BothOpens, Other, PeersOpen}
use Rattle.bgp_recording.specs.declared.state.State.{State}
use Rattle.bgp_recording.specs.declared.state.State.TheVariants.{Idle, Connect, Active, OpenSent, OpenConfirm, Established}
use Rattle.bgp_recording.specs.Allowed.{Ended, Received, Sent, sent_in}
use Rattle.bgp_recording.specs.Changes.{error_code, is_answered_before_open, is_open, just_received, just_sent, led_by_received, led_by_sent, rejects, state_then}
use Rattle.bgp_recording.specs.States.{state_number}
use Rattle.bgp_recording.specs.Tells.{Event, Passed, items_in}
use Rattle.bgp_judge.specs.Chains.{Reaches}
use Rattle.bgp_judge.specs.Member.{IsFree, Member}
use Rattle.bgp_judge.specs.Next.{Next}
use Rattle.bgp_orders.specs.Ways.{received_records, records_in, sent_records}
use Rattle.bgp_way_ends.specs.Starts.{Start, behind, is_rejected_next, led_by_heard, led_by_said, records_from}
use Rattle.bgp_way_ends.proofs.StartSteps.{AtStart, HeardFirst, IsDown, IsStarting, Kinds, Owes, cease_kind, change_later, change_paid, down_heard, down_said, fault_kind, fault_rejects, heard_first, keepalive_kind, none_heard, open_kind, owed_change, rejects_kind, said_first, sent_paid, shows_change, wanted_first, wanted_sent}

-- ---- a received message, by what is sent next

-- the next message that is sent is an OPEN
abbrev OpenNext : List Message → Type 0
OpenNext [] = ⊥
OpenNext (y ∷ ys) = y.kind ≡ Some types.Open

-- it neither rejects the connection nor is an OPEN
abbrev NoAnswerNext : List Message → Type 0
NoAnswerNext [] = Unit {0}
NoAnswerNext (y ∷ ys) = (rejects (error_code y) ≡ false) × (is_open y.kind ≡ false)

-- where it leads: from a start that isn't delayed, from one that is, and by a way
record Leads (kind : Option MessageType) (next : List Message) (p d w : Option State) : Type 0 where
  pub plain : led_by_heard false kind (is_rejected_next next) ≡ p
  pub delayed : led_by_heard true kind (is_rejected_next next) ≡ d
  pub way : led_by_heard false kind (is_answered_before_open kind next) ≡ w

abbrev Falls1 : Option MessageType → List Message → Type 0
Falls1 kind next = Leads kind next (Some Idle) (Some Idle) (Some Idle)

-- it is rejected
abbrev Rejected1 : Option MessageType → List Message → Type 0
Rejected1 kind next = (is_rejected_next next ≡ true) × Leads kind next None None None

-- an OPEN that is answered by an OPEN
abbrev Answered1 : Option MessageType → List Message → Type 0
Answered1 kind next = (kind ≡ Some types.Open) × OpenNext next × Leads kind next (Some Idle) None None

-- an OPEN that isn't answered
abbrev Alone1 : Option MessageType → List Message → Type 0
Alone1 kind next = (kind ≡ Some types.Open) × NoAnswerNext next × Leads kind next (Some Idle) None (Some Idle)

abbrev Case1 : Option MessageType → List Message → Type 0
Case1 kind next = Falls1 kind next ⊎ (Rejected1 kind next ⊎ (Answered1 kind next ⊎ Alone1 kind next))

opens_by : (kind : Option MessageType) → is_open kind ≡ true → kind ≡ Some types.Open
opens_by None e = absurd (false≢true e)
opens_by (Some types.Open) e = refl
opens_by (Some types.Update) e = absurd (false≢true e)
opens_by (Some types.Notification) e = absurd (false≢true e)
opens_by (Some types.Keepalive) e = absurd (false≢true e)

open_case : (y : Message) (ys : List Message) → Case1 (Some types.Open) (y ∷ ys)
open_case y ys = elim (cases_Bool (rejects (error_code y))) [
  | inl is ↦ inr (inl (
    is,
    record {
      plain = ap (λ (b : Bool). if b then None else Some Idle) is;
      delayed = refl;
      way = ap (λ (b : Bool). if b || is_open y.kind then None else Some Idle) is;
    },
  ))
  | inr isnt ↦ elim (cases_Bool (is_open y.kind)) [
    | inl opens ↦ inr (inr (inl (
      refl,
      opens_by y.kind opens,
      record {
        plain = ap (λ (b : Bool). if b then None else Some Idle) isnt;
        delayed = refl;
        way = ap (λ (b : Bool). if b || is_open y.kind then None else Some Idle) isnt ∙ ap (λ (b : Bool). if b then None else Some Idle) opens;
      },
    )))
    | inr other ↦ inr (inr (inr (
      refl,
      (isnt, other),
      record {
        plain = ap (λ (b : Bool). if b then None else Some Idle) isnt;
        delayed = refl;
        way = ap (λ (b : Bool). if b || is_open y.kind then None else Some Idle) isnt ∙ ap (λ (b : Bool). if b then None else Some Idle) other;
      },
    )))
  ]
]

-- of another type, where an OPEN isn't the answer
other_case : (kind : Option MessageType) (y : Message) (ys : List Message)
    → ((d r : Bool) → led_by_heard d kind r ≡ (if r then None else Some Idle)) → ((r o : Bool) → (r || (is_open kind && o)) ≡ (r || false)) → Case1 kind (y ∷ ys)
other_case kind y ys leads none =
    let led : (d r : Bool) → r ≡ true → led_by_heard d kind r ≡ None = λ d r e. leads d r ∙ ap (λ (b : Bool). if b then None else Some Idle) e in
    let falls : (d r : Bool) → r ≡ false → led_by_heard d kind r ≡ Some Idle = λ d r e. leads d r ∙ ap (λ (b : Bool). if b then None else Some Idle) e in
    let answered : is_answered_before_open kind (y ∷ ys) ≡ (rejects (error_code y) || false) = none (rejects (error_code y)) (is_open y.kind) in
    elim (cases_Bool (rejects (error_code y))) [
      | inl is ↦
          let way = answered ∙ ap (λ (b : Bool). b || false) is in
          inr (inl (
            is,
            record {
              plain = led false (rejects (error_code y)) is;
              delayed = led true (rejects (error_code y)) is;
              way = led false (is_answered_before_open kind (y ∷ ys)) way;
            },
          ))
      | inr isnt ↦
          let way = answered ∙ ap (λ (b : Bool). b || false) isnt in
          inl (record {
            plain = falls false (rejects (error_code y)) isnt;
            delayed = falls true (rejects (error_code y)) isnt;
            way = falls false (is_answered_before_open kind (y ∷ ys)) way;
          })
    ]

case_of : (kind : Option MessageType) (next : List Message) → Case1 kind next
case_of None [] = inl (record { plain = refl; delayed = refl; way = refl })
case_of None (y ∷ ys) = other_case None y ys (λ d r. refl) (λ r o. refl)
case_of (Some types.Open) [] = inr (inr (inr (refl, tt, record { plain = refl; delayed = refl; way = refl })))
case_of (Some types.Open) (y ∷ ys) = open_case y ys
case_of (Some types.Update) [] = inl (record { plain = refl; delayed = refl; way = refl })
case_of (Some types.Update) (y ∷ ys) = other_case (Some types.Update) y ys (λ d r. refl) (λ r o. refl)
case_of (Some types.Notification) next = inl (record { plain = refl; delayed = refl; way = refl })
case_of (Some types.Keepalive) [] = inl (record { plain = refl; delayed = refl; way = refl })
case_of (Some types.Keepalive) (y ∷ ys) = other_case (Some types.Keepalive) y ys (λ d r. refl) (λ r o. refl)

-- ---- lists of records, by what each item leads to

abbrev start_of : State → Bool → Start
start_of s d = record { state = s; is_delayed = d }

module _ (s : State) (front later : List Event) where
  -- a received message, from a start, and of a way
  abbrev HeardFrom : Bool → ℕ → Message → Option State → List ShownRecord
  HeardFrom d t x led =
      received_records t s led x
      ++ behind led (λ state. records_in state (just_received x.kind) front later) (records_from (start_of s d) front later)

  abbrev HeardBy : ℕ → Message → Option State → List ShownRecord
  HeardBy t x led = received_records t s led x ++ records_in (state_then s led) (just_received x.kind) front later

  -- a sent one, by its type
  abbrev SaidFrom : Bool → ℕ → Message → Option MessageType → List ShownRecord
  SaidFrom d t y kind =
      sent_records t s (led_by_said d kind) y
      ++ behind (led_by_said d kind) (λ state. records_in state Other front later) (records_from (start_of s d) front later)

  abbrev SaidBy : Before → ℕ → Message → Option MessageType → List ShownRecord
  SaidBy b t y kind =
      sent_records t s (led_by_sent s kind b) y
      ++ records_in (state_then s (led_by_sent s kind b)) (just_sent s kind b) front later

led_same : (s : State) (kind : Option MessageType) (answered : Bool) → IsStarting s → led_by_received s kind answered ≡ led_by_heard false kind answered
led_same Idle kind answered start = absurd start
led_same Connect None answered start = refl
led_same Connect (Some types.Open) answered start = refl
led_same Connect (Some types.Update) answered start = refl
led_same Connect (Some types.Notification) answered start = refl
led_same Connect (Some types.Keepalive) answered start = refl
led_same Active None answered start = refl
led_same Active (Some types.Open) answered start = refl
led_same Active (Some types.Update) answered start = refl
led_same Active (Some types.Notification) answered start = refl
led_same Active (Some types.Keepalive) answered start = refl
led_same OpenSent kind answered start = absurd start
led_same OpenConfirm kind answered start = absurd start
led_same Established kind answered start = absurd start

-- a NOTIFICATION that is sent, the own OPEN that isn't delayed, and the KEEPALIVE behind one that is
same_notice : (s : State) (front later : List Event) (d : Bool) (b : Before) (t : ℕ) (y : Message) → IsStarting s
    → SaidFrom s front later d t y (Some types.Notification) ≡ SaidBy s front later b t y (Some types.Notification)
same_notice Idle front later d b t y start = absurd start
same_notice Connect front later d b t y start = refl
same_notice Active front later d b t y start = refl
same_notice OpenSent front later d b t y start = absurd start
same_notice OpenConfirm front later d b t y start = absurd start
same_notice Established front later d b t y start = absurd start

same_open : (s : State) (front later : List Event) (t : ℕ) (y : Message) → IsStarting s
    → SaidFrom s front later false t y (Some types.Open) ≡ SaidBy s front later Other t y (Some types.Open)
same_open Idle front later t y start = absurd start
same_open Connect front later t y start = refl
same_open Active front later t y start = refl
same_open OpenSent front later t y start = absurd start
same_open OpenConfirm front later t y start = absurd start
same_open Established front later t y start = absurd start

same_keepalive : (s : State) (front later : List Event) (t : ℕ) (y : Message) → IsStarting s
    → SaidFrom s front later true t y (Some types.Keepalive) ≡ SaidBy s front later BothOpens t y (Some types.Keepalive)
same_keepalive Idle front later t y start = absurd start
same_keepalive Connect front later t y start = refl
same_keepalive Active front later t y start = refl
same_keepalive OpenSent front later t y start = absurd start
same_keepalive OpenConfirm front later t y start = absurd start
same_keepalive Established front later t y start = absurd start

-- the own OPEN of a way: right behind the peer's it leads nowhere, else to OpenSent
late_open : (s : State) (front later : List Event) (t : ℕ) (y : Message) → IsStarting s
    → SaidBy s front later PeersOpen t y (Some types.Open) ≡ shown.Sent t y.octets.now ∷ records_in s BothOpens front later
late_open Idle front later t y start = absurd start
late_open Connect front later t y start = refl
late_open Active front later t y start = refl
late_open OpenSent front later t y start = absurd start
late_open OpenConfirm front later t y start = absurd start
late_open Established front later t y start = absurd start

early_open : (s : State) (front later : List Event) (t : ℕ) (y : Message) → IsStarting s
    → SaidBy s front later Other t y (Some types.Open) ≡ shown.Sent t y.octets.now ∷ shown.Changed t (state_number s) 4 ∷ records_in OpenSent Other front later
early_open Idle front later t y start = absurd start
early_open Connect front later t y start = refl
early_open Active front later t y start = refl
early_open OpenSent front later t y start = absurd start
early_open OpenConfirm front later t y start = absurd start
early_open Established front later t y start = absurd start

same_end : (s : State) (b : Before) (d : Bool) (front later : List Event) (t : ℕ) (e : TheEnd) → IsStarting s
    → records_from (start_of s d) (Passed t (Ended e) ∷ front) later ≡ records_in s b (Passed t (Ended e) ∷ front) later
same_end Idle b d front later t e start = absurd start
same_end Connect b d front later t e start = refl
same_end Active b d front later t e start = refl
same_end OpenSent b d front later t e start = absurd start
same_end OpenConfirm b d front later t e start = absurd start
same_end Established b d front later t e start = absurd start

-- ---- the second item

abbrev HeardNext : List Event → Type 0
HeardNext [] = ⊥
HeardNext (Passed t (Received x) ∷ front) = Unit {0}
HeardNext (Passed t (Sent y) ∷ front) = ⊥
HeardNext (Passed t (Ended e) ∷ front) = ⊥

-- behind a message that is rejected
rejected_same : (s : State) (d : Bool) (b : Before) (front later : List Event) → IsStarting s → (HeardNext front → ⊥)
    → is_rejected_next (sent_in (items_in (front ++ later))) ≡ true → records_from (start_of s d) front later ≡ records_in s b front later
rejected_same s d b [] later start none is = refl
rejected_same s d b (Passed t (Received x) ∷ front) later start none is = absurd (none tt)
rejected_same s d b (Passed t (Sent y) ∷ front) later start none is =
    let kind : y.kind ≡ Some types.Notification = rejects_kind y is in
    ap (λ (k : Option MessageType). SaidFrom s front later d t y k) kind ∙ same_notice s front later d b t y start
    ∙ sym (ap (λ (k : Option MessageType). SaidBy s front later b t y k) kind)
rejected_same s d b (Passed t (Ended e) ∷ front) later start none is = same_end s b d front later t e start

-- the KEEPALIVE or nothing stands next
abbrev KeepaliveNext : List Event → Type 0
KeepaliveNext [] = Unit {0}
KeepaliveNext (Passed t (Received x) ∷ front) = ⊥
KeepaliveNext (Passed t (Sent y) ∷ front) = y.kind ≡ Some types.Keepalive
KeepaliveNext (Passed t (Ended e) ∷ front) = ⊥

-- behind both OPENs, of which the own one was delayed
delayed_same : (s : State) (front later : List Event) → IsStarting s → KeepaliveNext front → records_from (start_of s true) front later ≡ records_in s BothOpens front later
delayed_same s [] later start next = refl
delayed_same s (Passed t (Received x) ∷ front) later start next = absurd next
delayed_same s (Passed t (Sent y) ∷ front) later start next =
    ap (λ (k : Option MessageType). SaidFrom s front later true t y k) next ∙ same_keepalive s front later t y start
    ∙ sym (ap (λ (k : Option MessageType). SaidBy s front later BothOpens t y k) next)
delayed_same s (Passed t (Ended e) ∷ front) later start next = absurd next

-- the own OPEN behind the peer's
opened_same : (s : State) (front later : List Event) (t : ℕ) (y : Message) → IsStarting s → y.kind ≡ Some types.Open → KeepaliveNext front
    → records_from (start_of s true) (Passed t (Sent y) ∷ front) later ≡ records_in s PeersOpen (Passed t (Sent y) ∷ front) later
opened_same s front later t y start kind next =
    ap (λ (k : Option MessageType). SaidFrom s front later true t y k) kind
    ∙ ap (λ (rs : List ShownRecord). shown.Sent t y.octets.now ∷ rs) (delayed_same s front later start next)
    ∙ sym (late_open s front later t y start)
    ∙ sym (ap (λ (k : Option MessageType). SaidBy s front later PeersOpen t y k) kind)

heard_by : (s : State) (b : Before) (front later : List Event) (t : ℕ) (x : Message) → IsStarting s
    → records_in s b (Passed t (Received x) ∷ front) later
    ≡ HeardBy s front later t x (led_by_heard false x.kind (is_answered_before_open x.kind (sent_in (items_in (front ++ later)))))
heard_by s b front later t x start =
    ap (λ (led : Option State). HeardBy s front later t x led) (led_same s x.kind (is_answered_before_open x.kind (sent_in (items_in (front ++ later)))) start)

-- ---- chains

module _ (config : Config) (framing : Framing) (s : State) (start : IsStarting s) where
  abbrev Goes : Member → List ShownRecord → Member → Type 0
  Goes m records last = Reaches config m records last

  along : (m last : Member) (one other : List ShownRecord) → one ≡ other → Goes m one last → Goes m other last
  along m last one other e k = subst (λ (rs : List ShownRecord). Goes m rs last) e k

  -- nothing is received while a change is owed
  not_heard : (m last : Member) (front later : List Event) (d : Bool) (c : Fsm × Fsm) → m.change ≡ Some c → Goes m (records_from (start_of s d) front later) last → HeardNext front → ⊥
  not_heard m last [] later d c owes k next = next
  not_heard m last (Passed t (Received x) ∷ front) later d c owes k next = none_heard config m k.0 c owes t x.octets.now k.1
  not_heard m last (Passed t (Sent y) ∷ front) later d c owes k next = next
  not_heard m last (Passed t (Ended e) ∷ front) later d c owes k next = next

  not_heard_by : (m last : Member) (front later : List Event) (b : Before) (c : Fsm × Fsm) → m.change ≡ Some c → Goes m (records_in s b front later) last → HeardNext front → ⊥
  not_heard_by m last [] later b c owes k next = next
  not_heard_by m last (Passed t (Received x) ∷ front) later b c owes k next = none_heard config m k.0 c owes t x.octets.now k.1
  not_heard_by m last (Passed t (Sent y) ∷ front) later b c owes k next = next
  not_heard_by m last (Passed t (Ended e) ∷ front) later b c owes k next = next

  -- the KEEPALIVE alone is sent where it is owed
  one_want : (m : Member) (want other : Want) (rest others : List Want) → m.wants ≡ want ∷ rest → m.wants ≡ other ∷ others → want ≡ other
  one_want m want other rest others e f = let k : want ∷ rest ≡ other ∷ others = sym e ∙ f in cc

  keepalive_sent : (m last : Member) (rest : List ShownRecord) (t : ℕ) (y : Message) → Owes s m (KeepAlive ∷ []) fsms.OpenConfirm → Kinds framing (y ∷ [])
      → (mid : Member) → Next config (shown.Sent t y.octets.now) m mid → y.kind ≡ Some types.Keepalive
  keepalive_sent m last rest t y owes kinds mid next =
      keepalive_kind framing config m.link y kinds.0 (wanted_sent config m mid KeepAlive [] owes.wants t y.octets.now next)

  no_end : {X : Type 0} (m mid : Member) (wants : List Want) (to : Fsm) (t old : ℕ) → Owes s m wants to → (1 ≡ number_of to → ⊥) → Next config (shown.Changed t old 1) m mid → X
  no_end m mid wants to t old owes isnt next = absurd (isnt (change_paid config m mid (owes.from, to) owes.change t old 1 next).1)

  keepalive_next : (m last : Member) (front later : List Event) → Owes s m (KeepAlive ∷ []) fsms.OpenConfirm → Kinds framing (sent_in (items_in (front ++ later)))
      → Goes m (records_from (start_of s true) front later) last → KeepaliveNext front
  keepalive_next m last [] later owes kinds k = tt
  keepalive_next m last (Passed t (Received x) ∷ front) later owes kinds k = none_heard config m k.0 (owes.from, fsms.OpenConfirm) owes.change t x.octets.now k.1
  keepalive_next m last (Passed t (Sent y) ∷ front) later owes kinds k = keepalive_sent m last [] t y owes (kinds.0, tt) k.0 k.1
  keepalive_next m last (Passed t (Ended e) ∷ front) later owes kinds k = no_end m k.0 (KeepAlive ∷ []) fsms.OpenConfirm t (state_number s) owes (λ e. omega (arith, e)) k.1

  keepalive_next_by : (m last : Member) (front later : List Event) → Owes s m (KeepAlive ∷ []) fsms.OpenConfirm → Kinds framing (sent_in (items_in (front ++ later)))
      → Goes m (records_in s BothOpens front later) last → KeepaliveNext front
  keepalive_next_by m last [] later owes kinds k = tt
  keepalive_next_by m last (Passed t (Received x) ∷ front) later owes kinds k = none_heard config m k.0 (owes.from, fsms.OpenConfirm) owes.change t x.octets.now k.1
  keepalive_next_by m last (Passed t (Sent y) ∷ front) later owes kinds k = keepalive_sent m last [] t y owes (kinds.0, tt) k.0 k.1
  keepalive_next_by m last (Passed t (Ended e) ∷ front) later owes kinds k =
      let k2 = along m last _ _ (sym (same_end s BothOpens true front later t e start)) k in
      no_end m k2.0 (KeepAlive ∷ []) fsms.OpenConfirm t (state_number s) owes (λ e. omega (arith, e)) k2.1

  -- where the peer's OPEN is answered by the own one, that is what is owed, and then the KEEPALIVE
  after_own : (m mid : Member) (t : ℕ) (y : Message) → HeardFirst s m → Kinds framing (y ∷ []) → y.kind ≡ Some types.Open → Next config (shown.Sent t y.octets.now) m mid
      → Owes s mid (KeepAlive ∷ []) fsms.OpenConfirm
  after_own m mid t y (inl o) kinds kind next =
      let p = sent_paid config m mid (o.from, fsms.OpenConfirm) o.change t y.octets.now next in
      let rest : p.1 ≡ KeepAlive ∷ [] = let e : p.0 ∷ p.1 ≡ OwnOpen ∷ KeepAlive ∷ [] = sym p.2 ∙ o.wants in cc in
      record { wants = p.4 ∙ rest; from = o.from; change = p.5; number = o.number }
  after_own m mid t y (inr f) kinds kind next = elim f.owes [
    | inl o ↦
        let p = sent_paid config m mid (o.from, fsms.Idle) o.change t y.octets.now next in
        let e : p.0 ∷ p.1 ≡ [] = sym p.2 ∙ o.wants in absurd (let k : ⊥ = cc in k)
    | inr k ↦
        let notice = fault_kind framing config m.link y kinds.0 k.0 (wanted_sent config m mid (Faults k.0) [] k.2.wants t y.octets.now next) in
        let e : Some types.Notification ≡ Some types.Open = sym notice ∙ kind in absurd (let f : ⊥ = cc in f)
  ]

  -- what is sent behind a message that isn't rejected answers an OPEN by an OPEN
  sent_opens : (m mid : Member) (t : ℕ) (y : Message) → HeardFirst s m → Kinds framing (y ∷ []) → (rejects (error_code y) ≡ true → ⊥) → Next config (shown.Sent t y.octets.now) m mid
      → y.kind ≡ Some types.Open
  sent_opens m mid t y (inl o) kinds isnt next = open_kind framing config m.link y kinds.0 (wanted_sent config m mid OwnOpen (KeepAlive ∷ []) o.wants t y.octets.now next)
  sent_opens m mid t y (inr f) kinds isnt next = elim f.owes [
    | inl o ↦
        let p = sent_paid config m mid (o.from, fsms.Idle) o.change t y.octets.now next in
        let e : p.0 ∷ p.1 ≡ [] = sym p.2 ∙ o.wants in absurd (let k : ⊥ = cc in k)
    | inr k ↦
        let meets = wanted_sent config m mid (Faults k.0) [] k.2.wants t y.octets.now next in
        absurd (isnt (fault_rejects config m.link k.0 y k.1 (fault_kind framing config m.link y kinds.0 k.0 meets) meets))
  ]

  -- ---- in Idle

  -- nothing is sent where the next message is an OPEN
  abbrev Sunk : Member → Type 0
  Sunk m = IsDown m ⊎ ((set : FaultSet) × (m.wants ≡ Faults set ∷ []))

  sunk_said : (m last : Member) (front later : List Event) (b : Before) → Sunk m → OpenNext (sent_in (items_in (front ++ later))) → Kinds framing (sent_in (items_in (front ++ later)))
      → Goes m (records_in Idle b front later) last → sent_in (items_in front) ≡ []
  sunk_said m last [] later b sunk opens kinds k = refl
  sunk_said m last (Passed t (Received x) ∷ front) later b (inl down) opens kinds k =
      sunk_said k.0 last front later (just_received x.kind) (inl (down_heard config m k.0 t x.octets.now down k.1)) opens kinds k.2
  sunk_said m last (Passed t (Received x) ∷ front) later b (inr f) opens kinds k = absurd (wanted_first config m k.0 (Faults f.0) [] f.1 t x.octets.now k.1)
  sunk_said m last (Passed t (Sent y) ∷ front) later b (inl down) opens kinds k = absurd (down_said config m k.0 t y.octets.now down k.1)
  sunk_said m last (Passed t (Sent y) ∷ front) later b (inr f) opens kinds k =
      let notice = fault_kind framing config m.link y kinds.0 f.0 (wanted_sent config m k.0 (Faults f.0) [] f.1 t y.octets.now k.1) in
      let e : Some types.Notification ≡ Some types.Open = sym notice ∙ opens in absurd (let k : ⊥ = cc in k)
  sunk_said m last (Passed t (Ended e) ∷ front) later b sunk opens kinds k = sunk_said m last front later Other sunk opens kinds k

  -- a message that was received in the start, and then the change to Idle
  sunk_by : (m m3 : Member) (t old : ℕ) → HeardFirst s m → Next config (shown.Changed t old 1) m m3 → Sunk m3
  sunk_by m m3 t old (inl o) next = no_end m m3 (OwnOpen ∷ KeepAlive ∷ []) fsms.OpenConfirm t old o (λ e. omega (arith, e)) next
  sunk_by m m3 t old (inr f) next = elim f.owes [
    | inl o ↦
        let p = change_paid config m m3 (o.from, fsms.Idle) o.change t old 1 next in
        inl (record { idle = ap (λ (v : SessionState). fsm_of v.head) p.4 ∙ f.idle; wants = p.2 ∙ o.wants; change = p.3 })
    | inr k ↦
        let p = change_paid config m m3 (k.2.from, fsms.Idle) k.2.change t old 1 next in
        inr (k.0, p.2 ∙ k.2.wants)
  ]

  -- ---- behind the first message, which was received

  heard_mid : (m mid : Member) → AtStart s m → (t : ℕ) (x : Message) → Next config (shown.Received t x.octets.now) m mid → HeardFirst s mid
  heard_mid m mid begun t x next = heard_first config s m mid begun t x.octets.now next

  -- it is rejected: a start and a way go on alike
  rejected_on : (m last : Member) (front later : List Event) (d : Bool) (t : ℕ) (x : Message) → AtStart s m → is_rejected_next (sent_in (items_in (front ++ later))) ≡ true
      → Goes m (HeardFrom s front later d t x None) last → Goes m (HeardBy s front later t x None) last
  rejected_on m last front later d t x begun is (mid, next, rest) =
      let owed = owed_change s mid (heard_mid m mid begun t x next) in
      let same = rejected_same s d (just_received x.kind) front later start (not_heard mid last front later d owed.0 owed.1 rest) is in
      (mid, next, along mid last (records_from (start_of s d) front later) (records_in s (just_received x.kind) front later) same rest)

  rejected_back : (m last : Member) (front later : List Event) (t : ℕ) (x : Message) → AtStart s m → is_rejected_next (sent_in (items_in (front ++ later))) ≡ true
      → Goes m (HeardBy s front later t x None) last → Goes m (HeardFrom s front later false t x None) last
  rejected_back m last front later t x begun is (mid, next, rest) =
      let owed = owed_change s mid (heard_mid m mid begun t x next) in
      let b = just_received x.kind in
      let same = rejected_same s false b front later start (not_heard_by mid last front later b owed.0 owed.1 rest) is in
      (mid, next, along mid last (records_in s b front later) (records_from (start_of s false) front later) (sym same) rest)

  -- an OPEN is answered by an OPEN that isn't delayed: nothing is sent
  answered_plain : (m last : Member) (front later : List Event) (t : ℕ) (x : Message) → AtStart s m → OpenNext (sent_in (items_in (front ++ later)))
      → Kinds framing (sent_in (items_in (front ++ later))) → Goes m (HeardFrom s front later false t x (Some Idle)) last → sent_in (items_in front) ≡ []
  answered_plain m last front later t x begun opens kinds (mid, next, (m3, falls, rest)) =
      sunk_said m3 last front later (just_received x.kind) (sunk_by mid m3 t (state_number s) (heard_mid m mid begun t x next) falls) opens kinds rest

  some_next : (ms : List Message) → OpenNext ms → ms ≡ [] → ⊥
  some_next [] opens e = opens
  some_next (y ∷ ys) opens e = (let k : ⊥ = cc in k)

  -- ---- a start that isn't delayed is one of a way

  abbrev Plain : Member → Member → List Event → List Event → Type 0
  Plain m last front later =
      Goes m (records_in s Other front later) last ⊎ ((sent_in (items_in front) ≡ []) × (sent_in (items_in (front ++ later)) ≡ [] → ⊥))

  module _ (m last : Member) (front later : List Event) (t : ℕ) (x : Message) where
    heard_from : (d : Bool) (led : Option State) → led_by_heard d x.kind (is_rejected_next (sent_in (items_in (front ++ later)))) ≡ led
        → records_from (start_of s d) (Passed t (Received x) ∷ front) later ≡ HeardFrom s front later d t x led
    heard_from d led e = ap (λ (v : Option State). HeardFrom s front later d t x v) e

    heard_way : (led : Option State) → led_by_heard false x.kind (is_answered_before_open x.kind (sent_in (items_in (front ++ later)))) ≡ led
        → records_in s Other (Passed t (Received x) ∷ front) later ≡ HeardBy s front later t x led
    heard_way led e = heard_by s Other front later t x start ∙ ap (λ (v : Option State). HeardBy s front later t x v) e

    from_start : (d : Bool) (led : Option State) → led_by_heard d x.kind (is_rejected_next (sent_in (items_in (front ++ later)))) ≡ led
        → Goes m (records_from (start_of s d) (Passed t (Received x) ∷ front) later) last → Goes m (HeardFrom s front later d t x led) last
    from_start d led e k = along m last (records_from (start_of s d) (Passed t (Received x) ∷ front) later) (HeardFrom s front later d t x led) (heard_from d led e) k

    to_start : (d : Bool) (led : Option State) → led_by_heard d x.kind (is_rejected_next (sent_in (items_in (front ++ later)))) ≡ led
        → Goes m (HeardFrom s front later d t x led) last → Goes m (records_from (start_of s d) (Passed t (Received x) ∷ front) later) last
    to_start d led e k = along m last (HeardFrom s front later d t x led) (records_from (start_of s d) (Passed t (Received x) ∷ front) later) (sym (heard_from d led e)) k

    from_way : (led : Option State) → led_by_heard false x.kind (is_answered_before_open x.kind (sent_in (items_in (front ++ later)))) ≡ led
        → Goes m (records_in s Other (Passed t (Received x) ∷ front) later) last → Goes m (HeardBy s front later t x led) last
    from_way led e k = along m last (records_in s Other (Passed t (Received x) ∷ front) later) (HeardBy s front later t x led) (heard_way led e) k

    to_way : (led : Option State) → led_by_heard false x.kind (is_answered_before_open x.kind (sent_in (items_in (front ++ later)))) ≡ led
        → Goes m (HeardBy s front later t x led) last → Goes m (records_in s Other (Passed t (Received x) ∷ front) later) last
    to_way led e k = along m last (HeardBy s front later t x led) (records_in s Other (Passed t (Received x) ∷ front) later) (sym (heard_way led e)) k

  -- what is sent first, from a start that isn't delayed and by a way
  said_same : (m mid : Member) (front later : List Event) (t : ℕ) (y : Message) → AtStart s m → Kinds framing (y ∷ []) → Next config (shown.Sent t y.octets.now) m mid
      → records_from (start_of s false) (Passed t (Sent y) ∷ front) later ≡ records_in s Other (Passed t (Sent y) ∷ front) later
  said_same m mid front later t y begun kinds next =
      let first = said_first config s m mid begun t y.octets.now next in
      elim first.1 [
        | inl own ↦
            let kind = open_kind framing config first.0 y kinds.0 own.0 in
            ap (λ (k : Option MessageType). SaidFrom s front later false t y k) kind ∙ same_open s front later t y start
            ∙ sym (ap (λ (k : Option MessageType). SaidBy s front later Other t y k) kind)
        | inr cease ↦
            let kind = cease_kind framing config first.0 y kinds.0 cease in
            ap (λ (k : Option MessageType). SaidFrom s front later false t y k) kind ∙ same_notice s front later false Other t y start
            ∙ sym (ap (λ (k : Option MessageType). SaidBy s front later Other t y k) kind)
      ]

  pub plain_way : (m last : Member) (front later : List Event) → AtStart s m → Kinds framing (sent_in (items_in (front ++ later)))
      → Goes m (records_from (start_of s false) front later) last → Plain m last front later
  plain_way m last [] later begun kinds k = inl k
  plain_way m last (Passed t (Received x) ∷ front) later begun kinds k = elim (case_of x.kind (sent_in (items_in (front ++ later)))) [
    | inl falls ↦ inl (to_way m last front later t x (Some Idle) falls.way (from_start m last front later t x false (Some Idle) falls.plain k))
    | inr others ↦ elim others [
      | inl rejected ↦
          inl (to_way m last front later t x None rejected.1.way
          (rejected_on m last front later false t x begun rejected.0 (from_start m last front later t x false None rejected.1.plain k)))
      | inr opens ↦ elim opens [
        | inl answered ↦
            inr (
              answered_plain m last front later t x begun answered.1 kinds (from_start m last front later t x false (Some Idle) answered.2.plain k),
              some_next (sent_in (items_in (front ++ later))) answered.1,
            )
        | inr alone ↦ inl (to_way m last front later t x (Some Idle) alone.2.way (from_start m last front later t x false (Some Idle) alone.2.plain k))
      ]
    ]
  ]
  plain_way m last (Passed t (Sent y) ∷ front) later begun kinds k =
      inl (along m last (records_from (start_of s false) (Passed t (Sent y) ∷ front) later) (records_in s Other (Passed t (Sent y) ∷ front) later)
      (said_same m k.0 front later t y begun (kinds.0, tt) k.1) k)
  plain_way m last (Passed t (Ended e) ∷ front) later begun kinds k =
      inl (along m last (records_from (start_of s false) (Passed t (Ended e) ∷ front) later) (records_in s Other (Passed t (Ended e) ∷ front) later)
      (same_end s Other false front later t e start) k)

  -- ---- a delayed start is one of a way, or it is cut off where something is owed

  -- a way begins with these
  pub record Under (m : Member) (front later : List Event) : Type 0 where
    pub last : Member
    pub goes : Goes m (records_in s Other front later) last

  abbrev Delayed : Member → Member → List Event → List Event → Type 0
  Delayed m last front later =
      Goes m (records_in s Other front later) last
      ⊎ ((IsFree last → ⊥) × ((sent_in (items_in front) ≡ []) ⊎ Under m front later))

  owes_still : (m last : Member) (c : Fsm × Fsm) → m.change ≡ Some c → m ≡ last → IsFree last → ⊥
  owes_still m last c owes same free = let e : Some c ≡ None = sym owes ∙ ap (λ (v : Member). v.change) same ∙ free.1 in cc

  -- the own OPEN, and nothing more
  own_alone : (m last : Member) (front later : List Event) (t : ℕ) (y : Message) → y.kind ≡ Some types.Open → (mid : Member) → Next config (shown.Sent t y.octets.now) m mid
      → Owes s mid [] fsms.OpenSent → Goes mid (records_from (start_of s true) front later) last → Delayed m last (Passed t (Sent y) ∷ front) later
  own_alone m last [] later t y kind mid next owes rest =
      let shows = shows_change config mid t (owes.from, fsms.OpenSent) owes.change in
      let change = subst (λ (n : ℕ). Next config (shown.Changed t n 4) mid shows.0) owes.number shows.1 in
      let list = sym (early_open s [] later t y start) ∙ sym (ap (λ (k : Option MessageType). SaidBy s [] later Other t y k) kind) in
      inr (
        owes_still mid last (owes.from, fsms.OpenSent) owes.change rest,
        inr (record {
          last = shows.0;
          goes = along m shows.0 (shown.Sent t y.octets.now ∷ shown.Changed t (state_number s) 4 ∷ []) (records_in s Other (Passed t (Sent y) ∷ []) later) list
              (mid, next, (shows.0, change, refl));
        }),
      )
  own_alone m last (Passed t2 (Received x) ∷ front) later t y kind mid next owes rest =
      absurd (none_heard config mid rest.0 (owes.from, fsms.OpenSent) owes.change t2 x.octets.now rest.1)
  own_alone m last (Passed t2 (Sent z) ∷ front) later t y kind mid next owes rest =
      let p = sent_paid config mid rest.0 (owes.from, fsms.OpenSent) owes.change t2 z.octets.now rest.1 in
      let e : p.0 ∷ p.1 ≡ [] = sym p.2 ∙ owes.wants in absurd (let k : ⊥ = cc in k)
  own_alone m last (Passed t2 (Ended e) ∷ front) later t y kind mid next owes rest =
      no_end mid rest.0 [] fsms.OpenSent t2 (state_number s) owes (λ e. omega (arith, e)) rest.1

  -- the own OPEN behind the peer's, and then the KEEPALIVE
  own_next : (m last : Member) (front later : List Event) (t : ℕ) (y : Message) → Kinds framing (y ∷ sent_in (items_in (front ++ later))) → y.kind ≡ Some types.Open → HeardFirst s m
      → Goes m (SaidFrom s front later true t y (Some types.Open)) last → KeepaliveNext front
  own_next m last front later t y kinds kind heard (mid, next, rest) =
      keepalive_next mid last front later (after_own m mid t y heard (kinds.0, tt) kind next) kinds.1 rest

  own_next_by : (m last : Member) (front later : List Event) (t : ℕ) (y : Message) → Kinds framing (y ∷ sent_in (items_in (front ++ later))) → y.kind ≡ Some types.Open
      → HeardFirst s m → Goes m (shown.Sent t y.octets.now ∷ records_in s BothOpens front later) last → KeepaliveNext front
  own_next_by m last front later t y kinds kind heard (mid, next, rest) =
      keepalive_next_by mid last front later (after_own m mid t y heard (kinds.0, tt) kind next) kinds.1 rest

  own_on : (m last : Member) (front later : List Event) (t : ℕ) (y : Message) → Kinds framing (y ∷ sent_in (items_in (front ++ later))) → y.kind ≡ Some types.Open → HeardFirst s m
      → Goes m (records_from (start_of s true) (Passed t (Sent y) ∷ front) later) last → Goes m (records_in s PeersOpen (Passed t (Sent y) ∷ front) later) last
  own_on m last front later t y kinds kind heard k =
      let one = records_from (start_of s true) (Passed t (Sent y) ∷ front) later in
      let next = own_next m last front later t y kinds kind heard
      (along m last one (SaidFrom s front later true t y (Some types.Open)) (ap (λ (v : Option MessageType). SaidFrom s front later true t y v) kind) k) in
      along m last one (records_in s PeersOpen (Passed t (Sent y) ∷ front) later) (opened_same s front later t y start kind next) k

  own_off : (m last : Member) (front later : List Event) (t : ℕ) (y : Message) → Kinds framing (y ∷ sent_in (items_in (front ++ later))) → y.kind ≡ Some types.Open → HeardFirst s m
      → Goes m (records_in s PeersOpen (Passed t (Sent y) ∷ front) later) last → Goes m (records_from (start_of s true) (Passed t (Sent y) ∷ front) later) last
  own_off m last front later t y kinds kind heard k =
      let one = records_in s PeersOpen (Passed t (Sent y) ∷ front) later in
      let late = ap (λ (v : Option MessageType). SaidBy s front later PeersOpen t y v) kind ∙ late_open s front later t y start in
      let next = own_next_by m last front later t y kinds kind heard (along m last one (shown.Sent t y.octets.now ∷ records_in s BothOpens front later) late k) in
      along m last one (records_from (start_of s true) (Passed t (Sent y) ∷ front) later) (sym (opened_same s front later t y start kind next)) k

  -- an OPEN that an OPEN answers
  answered_on : (m last : Member) (front later : List Event) → Kinds framing (sent_in (items_in (front ++ later))) → OpenNext (sent_in (items_in (front ++ later))) → HeardFirst s m
      → Goes m (records_from (start_of s true) front later) last → Goes m (records_in s PeersOpen front later) last
  answered_on m last [] later kinds opens heard k = k
  answered_on m last (Passed t (Received z) ∷ front) later kinds opens heard k =
      let owed = owed_change s m heard in absurd (none_heard config m k.0 owed.0 owed.1 t z.octets.now k.1)
  answered_on m last (Passed t (Sent y) ∷ front) later kinds opens heard k = own_on m last front later t y kinds opens heard k
  answered_on m last (Passed t (Ended e) ∷ front) later kinds opens heard k =
      along m last (records_from (start_of s true) (Passed t (Ended e) ∷ front) later) (records_in s PeersOpen (Passed t (Ended e) ∷ front) later)
      (same_end s PeersOpen true front later t e start) k

  answered_off : (m last : Member) (front later : List Event) → Kinds framing (sent_in (items_in (front ++ later))) → OpenNext (sent_in (items_in (front ++ later))) → HeardFirst s m
      → Goes m (records_in s PeersOpen front later) last → Goes m (records_from (start_of s true) front later) last
  answered_off m last [] later kinds opens heard k = k
  answered_off m last (Passed t (Received z) ∷ front) later kinds opens heard k =
      let owed = owed_change s m heard in absurd (none_heard config m k.0 owed.0 owed.1 t z.octets.now k.1)
  answered_off m last (Passed t (Sent y) ∷ front) later kinds opens heard k = own_off m last front later t y kinds opens heard k
  answered_off m last (Passed t (Ended e) ∷ front) later kinds opens heard k =
      along m last (records_in s PeersOpen (Passed t (Ended e) ∷ front) later) (records_from (start_of s true) (Passed t (Ended e) ∷ front) later)
      (sym (same_end s PeersOpen true front later t e start)) k

  behind_open : (front later : List Event) (x : Message) → x.kind ≡ Some types.Open → records_in s (just_received x.kind) front later ≡ records_in s PeersOpen front later
  behind_open front later x kind = ap (λ (v : Option MessageType). records_in s (just_received v) front later) kind

  answered_waits : (m last : Member) (front later : List Event) (t : ℕ) (x : Message) → AtStart s m → x.kind ≡ Some types.Open → Kinds framing (sent_in (items_in (front ++ later)))
      → OpenNext (sent_in (items_in (front ++ later))) → Goes m (HeardFrom s front later true t x None) last → Goes m (HeardBy s front later t x None) last
  answered_waits m last front later t x begun kind kinds opens (mid, next, rest) = (
    mid,
    next,
    along mid last (records_in s PeersOpen front later) (records_in s (just_received x.kind) front later) (sym (behind_open front later x kind))
        (answered_on mid last front later kinds opens (heard_mid m mid begun t x next) rest),
  )

  answered_back : (m last : Member) (front later : List Event) (t : ℕ) (x : Message) → AtStart s m → x.kind ≡ Some types.Open → Kinds framing (sent_in (items_in (front ++ later)))
      → OpenNext (sent_in (items_in (front ++ later))) → Goes m (HeardBy s front later t x None) last → Goes m (HeardFrom s front later true t x None) last
  answered_back m last front later t x begun kind kinds opens (mid, next, rest) = (
    mid,
    next,
    answered_off mid last front later kinds opens (heard_mid m mid begun t x next)
        (along mid last (records_in s (just_received x.kind) front later) (records_in s PeersOpen front later) (behind_open front later x kind) rest),
  )

  -- an OPEN that isn't answered
  abbrev Lonely : Member → Member → List Event → List Event → ℕ → Message → Type 0
  Lonely m last front later t x = Goes m (HeardBy s front later t x (Some Idle)) last ⊎ ((IsFree last → ⊥) × (sent_in (items_in front) ≡ []))

  ended_alone : (m mid last : Member) (front later : List Event) (t t2 : ℕ) (x : Message) (e : TheEnd) (c : Fsm × Fsm) → mid.change ≡ Some c
      → Next config (shown.Received t x.octets.now) m mid → Goes mid (shown.Changed t2 (state_number s) 1 ∷ records_in Idle Other front later) last
      → Goes m (HeardBy s (Passed t2 (Ended e) ∷ front) later t x (Some Idle)) last
  ended_alone m mid last front later t t2 x e c owes next (m3, falls, rest) =
      (mid, next, (m3, change_later config mid m3 c owes t2 t (state_number s) 1 falls, rest))

  alone_on : (m mid last : Member) (front later : List Event) (t : ℕ) (x : Message) → Kinds framing (sent_in (items_in (front ++ later)))
      → NoAnswerNext (sent_in (items_in (front ++ later))) → Next config (shown.Received t x.octets.now) m mid → HeardFirst s mid
      → Goes mid (records_from (start_of s true) front later) last → Lonely m last front later t x
  alone_on m mid last [] later t x kinds none next heard k = let owed = owed_change s mid heard in inr (owes_still mid last owed.0 owed.1 k, refl)
  alone_on m mid last (Passed t2 (Received z) ∷ front) later t x kinds none next heard k =
      let owed = owed_change s mid heard in absurd (none_heard config mid k.0 owed.0 owed.1 t2 z.octets.now k.1)
  alone_on m mid last (Passed t2 (Sent y) ∷ front) later t x kinds none next heard k =
      let kind = sent_opens mid k.0 t2 y heard (kinds.0, tt) (λ is. false≢true (sym none.0 ∙ is)) k.1 in
      absurd (false≢true (sym none.1 ∙ ap is_open kind))
  alone_on m mid last (Passed t2 (Ended e) ∷ front) later t x kinds none next heard k =
      let owed = owed_change s mid heard in inl (ended_alone m mid last front later t t2 x e owed.0 owed.1 next k)

  alone_waits : (m last : Member) (front later : List Event) (t : ℕ) (x : Message) → AtStart s m → Kinds framing (sent_in (items_in (front ++ later)))
      → NoAnswerNext (sent_in (items_in (front ++ later))) → Goes m (HeardFrom s front later true t x None) last → Lonely m last front later t x
  alone_waits m last front later t x begun kinds none (mid, next, rest) = alone_on m mid last front later t x kinds none next (heard_mid m mid begun t x next) rest

  -- the own OPEN first, though it is delayed
  own_waits : (m last : Member) (front later : List Event) (t : ℕ) (y : Message) → AtStart s m → Kinds framing (y ∷ []) → y.kind ≡ Some types.Open
      → Goes m (SaidFrom s front later true t y (Some types.Open)) last → Delayed m last (Passed t (Sent y) ∷ front) later
  own_waits m last front later t y begun kinds kind (mid, next, rest) =
      let first = said_first config s m mid begun t y.octets.now next in
      elim first.1 [
        | inl own ↦ own_alone m last front later t y kind mid next own.1 rest
        | inr cease ↦
            let e : Some types.Notification ≡ Some types.Open = sym (cease_kind framing config first.0 y kinds.0 cease) ∙ kind in
            absurd (let f : ⊥ = cc in f)
      ]

  delayed_said : (m last : Member) (front later : List Event) (t : ℕ) (y : Message) → AtStart s m → Kinds framing (y ∷ [])
      → Goes m (records_from (start_of s true) (Passed t (Sent y) ∷ front) later) last → Delayed m last (Passed t (Sent y) ∷ front) later
  delayed_said m last front later t y begun kinds k =
      let one = records_from (start_of s true) (Passed t (Sent y) ∷ front) later in
      let first = said_first config s m k.0 begun t y.octets.now k.1 in
      elim first.1 [
        | inl own ↦
            let kind = open_kind framing config first.0 y kinds.0 own.0 in
            own_waits m last front later t y begun kinds kind
            (along m last one (SaidFrom s front later true t y (Some types.Open)) (ap (λ (v : Option MessageType). SaidFrom s front later true t y v) kind) k)
        | inr cease ↦
            let kind = cease_kind framing config first.0 y kinds.0 cease in
            inl (along m last one (records_in s Other (Passed t (Sent y) ∷ front) later)
            (ap (λ (v : Option MessageType). SaidFrom s front later true t y v) kind ∙ same_notice s front later true Other t y start
            ∙ sym (ap (λ (v : Option MessageType). SaidBy s front later Other t y v) kind)) k)
      ]

  pub delayed_way : (m last : Member) (front later : List Event) → AtStart s m → Kinds framing (sent_in (items_in (front ++ later)))
      → Goes m (records_from (start_of s true) front later) last → Delayed m last front later
  delayed_way m last [] later begun kinds k = inl k
  delayed_way m last (Passed t (Received x) ∷ front) later begun kinds k = elim (case_of x.kind (sent_in (items_in (front ++ later)))) [
    | inl falls ↦ inl (to_way m last front later t x (Some Idle) falls.way (from_start m last front later t x true (Some Idle) falls.delayed k))
    | inr others ↦ elim others [
      | inl rejected ↦
          inl (to_way m last front later t x None rejected.1.way
          (rejected_on m last front later true t x begun rejected.0 (from_start m last front later t x true None rejected.1.delayed k)))
      | inr opens ↦ elim opens [
        | inl answered ↦
            inl (to_way m last front later t x None answered.2.way
            (answered_waits m last front later t x begun answered.0 kinds answered.1 (from_start m last front later t x true None answered.2.delayed k)))
        | inr alone ↦ elim (alone_waits m last front later t x begun kinds alone.1 (from_start m last front later t x true None alone.2.delayed k)) [
          | inl goes ↦ inl (to_way m last front later t x (Some Idle) alone.2.way goes)
          | inr cut ↦ inr (cut.0, inl cut.1)
        ]
      ]
    ]
  ]
  delayed_way m last (Passed t (Sent y) ∷ front) later begun kinds k = delayed_said m last front later t y begun (kinds.0, tt) k
  delayed_way m last (Passed t (Ended e) ∷ front) later begun kinds k =
      inl (along m last (records_from (start_of s true) (Passed t (Ended e) ∷ front) later) (records_in s Other (Passed t (Ended e) ∷ front) later)
      (same_end s Other true front later t e start) k)

  -- ---- a way is one of the four

  pub record AnyStart (m last : Member) (front later : List Event) : Type 0 where
    pub is_delayed : Bool
    pub goes : Goes m (records_from (start_of s is_delayed) front later) last

  pub way_from : (m last : Member) (front later : List Event) → AtStart s m → Kinds framing (sent_in (items_in (front ++ later)))
      → Goes m (records_in s Other front later) last → AnyStart m last front later
  way_from m last [] later begun kinds k = record { is_delayed = false; goes = k }
  way_from m last (Passed t (Received x) ∷ front) later begun kinds k = elim (case_of x.kind (sent_in (items_in (front ++ later)))) [
    | inl falls ↦ record {
      is_delayed = false;
      goes = to_start m last front later t x false (Some Idle) falls.plain (from_way m last front later t x (Some Idle) falls.way k);
    }
    | inr others ↦ elim others [
      | inl rejected ↦ record {
        is_delayed = false;
        goes = to_start m last front later t x false None rejected.1.plain
            (rejected_back m last front later t x begun rejected.0 (from_way m last front later t x None rejected.1.way k));
      }
      | inr opens ↦ elim opens [
        | inl answered ↦ record {
          is_delayed = true;
          goes = to_start m last front later t x true None answered.2.delayed
              (answered_back m last front later t x begun answered.0 kinds answered.1 (from_way m last front later t x None answered.2.way k));
        }
        | inr alone ↦ record {
          is_delayed = false;
          goes = to_start m last front later t x false (Some Idle) alone.2.plain (from_way m last front later t x (Some Idle) alone.2.way k);
        }
      ]
    ]
  ]
  way_from m last (Passed t (Sent y) ∷ front) later begun kinds k = record {
    is_delayed = false;
    goes = along m last (records_in s Other (Passed t (Sent y) ∷ front) later) (records_from (start_of s false) (Passed t (Sent y) ∷ front) later)
        (sym (said_same m k.0 front later t y begun (kinds.0, tt) k.1)) k;
  }
  way_from m last (Passed t (Ended e) ∷ front) later begun kinds k = record {
    is_delayed = false;
    goes = along m last (records_in s Other (Passed t (Ended e) ∷ front) later) (records_from (start_of s false) (Passed t (Ended e) ∷ front) later)
        (sym (same_end s Other false front later t e start)) k;
  }
