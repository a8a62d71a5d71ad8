-- What holds of each step that the core takes holds of what it does on many inputs.
use Rattle.std.proofs.Common.{◌≡◌, ℕ, List, [], ◌∷◌, ◌++◌, ◌⊎◌, inl, inr, Option, None, Some, length, take, max, sym, subst, arith}
use Rattle.std.specs.List.{AllByRecursion}
use Rattle.std.proofs.lemmas.List.{length-take-le, take_all}
use Rattle.std.proofs.lemmas.List.Elements.{All-weaker, recursion_from_All}
use Rattle.bgp_prefix.specs.Prefix.{PrefixBits}
use Rattle.bgp_prefix.specs.Shown.{ShownRecord}
use Rattle.bgp_open.specs.declared.link.Link.{Link}
use Rattle.bgp_machine.specs.declared.rows.HiddenRow.{HiddenRow}
use Rattle.bgp_machine.specs.declared.rows.HiddenRow.TheVariants.{Starts, Listens, Stops, Ceases, HoldExpires, KeepaliveExpires, ConnectionOpens, DelayBegins, ConnectionFails, Announces}
use Rattle.bgp_machine.specs.declared.state.Head.{Head}
use Rattle.bgp_machine.specs.declared.state.Head.TheVariants.{Idle, Connect, Active, OpenSent, OpenConfirm, Established}
use Rattle.bgp_machine.specs.declared.state.HoldTimer.{HoldTimer}
use Rattle.bgp_machine.specs.Listed.{no_changes}
use Rattle.bgp_update.specs.Changes.{RouteChanges}
use Rattle.bgp_wire.specs.declared.header.Limit.{Limit}
use Rattle.bgp_machine.specs.Heard.{received_limit}
use Rattle.bgp_wire.specs.Framing.{IsFrame, IsFaulty}
use Rattle.bgp_wire.specs.Header.{IsSound, header_of}
use Rattle.bgp_speaker.specs.declared.speaker.Speaker.{Speaker}
use Rattle.bgp_speaker.specs.Choice.{TakesOwn, TakesOn, HearsEach, GreetsAt, AnnouncesEach, used}
use Rattle.bgp_speaker.specs.Choosing.{AreHeard, AreLast, Chooses, Moves, SendsAt, TakesRow}
use Rattle.bgp_speaker.specs.Core.{CoreState, InputValue, IsConnected, Moment, Start, Passive, Stop, Connected, Failed, Bytes, Tick, Announce, Withdraw}
use Rattle.bgp_speaker.specs.Picks.{Picks, PicksInTime}
use Rattle.bgp_speaker.specs.Said.{announced}

-- ---- the rows that the core takes by itself: it never begins to delay its OPEN

abbrev pub IsTakenRow : HiddenRow → Type 0
IsTakenRow DelayBegins = ⊥
IsTakenRow row = Unit {0}

taken_as : (row is : HiddenRow) → Some row ≡ Some is → IsTakenRow is → IsTakenRow row
taken_as row is e taken = subst IsTakenRow (sym (let same : row ≡ is = cc in same)) taken

in_time : (timer : HoldTimer) (sent_at t : ℕ) (row : HiddenRow) → PicksInTime timer sent_at t (Some row) → IsTakenRow row
in_time timer sent_at t row p = elim p [
  | inl expired ↦ taken_as row HoldExpires expired.1 tt
  | inr other ↦ elim other [
    | inl due ↦ taken_as row KeepaliveExpires due.2 tt
    | inr not ↦ let n = not.2 in absurd (cc)
  ]
]

picked_taken : (head : Head) (input : InputValue) (sent_at t : ℕ) (row : HiddenRow) → Picks head input sent_at t (Some row) → IsTakenRow row
picked_taken Idle Start sent_at t row p = taken_as row Starts p tt
picked_taken Idle Passive sent_at t row p = taken_as row Listens p tt
picked_taken Idle Stop sent_at t row p = absurd (cc)
picked_taken Idle Connected sent_at t row p = absurd (cc)
picked_taken Idle Failed sent_at t row p = absurd (cc)
picked_taken Idle (Bytes octets) sent_at t row p = absurd (cc)
picked_taken Idle Tick sent_at t row p = absurd (cc)
picked_taken Idle (Announce prefix) sent_at t row p = absurd (cc)
picked_taken Idle (Withdraw prefix) sent_at t row p = absurd (cc)
picked_taken (Connect delay) Start sent_at t row p = absurd (cc)
picked_taken (Connect delay) Passive sent_at t row p = absurd (cc)
picked_taken (Connect delay) Stop sent_at t row p = taken_as row Stops p tt
picked_taken (Connect delay) Connected sent_at t row p = taken_as row ConnectionOpens p tt
picked_taken (Connect delay) Failed sent_at t row p = taken_as row ConnectionFails p tt
picked_taken (Connect delay) (Bytes octets) sent_at t row p = absurd (cc)
picked_taken (Connect delay) Tick sent_at t row p = absurd (cc)
picked_taken (Connect delay) (Announce prefix) sent_at t row p = absurd (cc)
picked_taken (Connect delay) (Withdraw prefix) sent_at t row p = absurd (cc)
picked_taken (Active delay) Start sent_at t row p = absurd (cc)
picked_taken (Active delay) Passive sent_at t row p = absurd (cc)
picked_taken (Active delay) Stop sent_at t row p = taken_as row Stops p tt
picked_taken (Active delay) Connected sent_at t row p = taken_as row ConnectionOpens p tt
picked_taken (Active delay) Failed sent_at t row p = taken_as row ConnectionFails p tt
picked_taken (Active delay) (Bytes octets) sent_at t row p = absurd (cc)
picked_taken (Active delay) Tick sent_at t row p = absurd (cc)
picked_taken (Active delay) (Announce prefix) sent_at t row p = absurd (cc)
picked_taken (Active delay) (Withdraw prefix) sent_at t row p = absurd (cc)
picked_taken (OpenSent timer) Start sent_at t row p = absurd (cc)
picked_taken (OpenSent timer) Passive sent_at t row p = absurd (cc)
picked_taken (OpenSent timer) Stop sent_at t row p = taken_as row Ceases p tt
picked_taken (OpenSent timer) Connected sent_at t row p = absurd (cc)
picked_taken (OpenSent timer) Failed sent_at t row p = taken_as row ConnectionFails p tt
picked_taken (OpenSent timer) (Bytes octets) sent_at t row p = absurd (cc)
picked_taken (OpenSent timer) Tick sent_at t row p = elim p [ inl expired ↦ taken_as row HoldExpires expired.1 tt | inr not ↦ let n = not.1 in absurd (cc) ]
picked_taken (OpenSent timer) (Announce prefix) sent_at t row p = absurd (cc)
picked_taken (OpenSent timer) (Withdraw prefix) sent_at t row p = absurd (cc)
picked_taken (OpenConfirm link timer) Start sent_at t row p = absurd (cc)
picked_taken (OpenConfirm link timer) Passive sent_at t row p = absurd (cc)
picked_taken (OpenConfirm link timer) Stop sent_at t row p = taken_as row Ceases p tt
picked_taken (OpenConfirm link timer) Connected sent_at t row p = absurd (cc)
picked_taken (OpenConfirm link timer) Failed sent_at t row p = taken_as row ConnectionFails p tt
picked_taken (OpenConfirm link timer) (Bytes octets) sent_at t row p = absurd (cc)
picked_taken (OpenConfirm link timer) Tick sent_at t row p = in_time timer sent_at t row p
picked_taken (OpenConfirm link timer) (Announce prefix) sent_at t row p = absurd (cc)
picked_taken (OpenConfirm link timer) (Withdraw prefix) sent_at t row p = absurd (cc)
picked_taken (Established link timer) Start sent_at t row p = absurd (cc)
picked_taken (Established link timer) Passive sent_at t row p = absurd (cc)
picked_taken (Established link timer) Stop sent_at t row p = taken_as row Ceases p tt
picked_taken (Established link timer) Connected sent_at t row p = absurd (cc)
picked_taken (Established link timer) Failed sent_at t row p = taken_as row ConnectionFails p tt
picked_taken (Established link timer) (Bytes octets) sent_at t row p = absurd (cc)
picked_taken (Established link timer) Tick sent_at t row p = in_time timer sent_at t row p
picked_taken (Established link timer) (Announce prefix) sent_at t row p = absurd (cc)
picked_taken (Established link timer) (Withdraw prefix) sent_at t row p = absurd (cc)

-- ---- the messages that a connection brings: frames, and a header with a fault

abbrev pub IsFaultyHeader : Limit → List ℕ → Type 0
IsFaultyHeader limit octets = (length octets ≡ 19) × (¬ IsSound limit (header_of octets))

abbrev pub IsHeardMessage : Limit → List ℕ → Type 0
IsHeardMessage limit octets = IsFrame limit octets ⊎ IsFaultyHeader limit octets

pub all_joined : {T : Type 0} (P : T → Type 0) (xs ys : List T) → AllByRecursion P xs → AllByRecursion P ys → AllByRecursion P (xs ++ ys)
all_joined P [] ys p q = q
all_joined P (x ∷ xs) ys p q = (p.0, all_joined P xs ys p.1 q)

pub faulty_header : (limit : Limit) (rest : List ℕ) → IsFaulty limit rest → IsFaultyHeader limit (header_of rest)
faulty_header limit rest f =
    let long : length (take 19 rest) ≡ 19 = length-take-le 19 rest f.0 in
    (long, λ sound. f.1 (subst (λ (h : List ℕ). IsSound limit h) (take_all 19 (take 19 rest) (omega arith)) sound))

last_heard : (limit : Limit) (rest : List ℕ) (last : List (List ℕ)) → AreLast limit rest last → AllByRecursion (IsHeardMessage limit) last
last_heard limit rest last ends = elim ends [
  | inl short ↦ subst (λ (v : List (List ℕ)). AllByRecursion (IsHeardMessage limit) v) (sym short.1) tt
  | inr faulty ↦ subst (λ (v : List (List ℕ)). AllByRecursion (IsHeardMessage limit) v) (sym faulty.1) (inr (faulty_header limit rest faulty.0), tt)
]

pub each_heard : (limit : Limit) (octets : List ℕ) (messages : List (List ℕ)) (rest : List ℕ) → AreHeard limit octets messages rest → AllByRecursion (IsHeardMessage limit) messages
each_heard limit octets messages rest x =
    let frames : AllByRecursion (IsHeardMessage limit) x.frames = recursion_from_All (IsHeardMessage limit) x.frames
    (All-weaker (IsFrame limit) (IsHeardMessage limit) (λ f is. inl is) x.frames x.framing.each) in
    subst (λ (v : List (List ℕ)). AllByRecursion (IsHeardMessage limit) v) (sym x.are)
    (all_joined (IsHeardMessage limit) x.frames x.last frames (last_heard limit rest x.last x.ends))

-- ---- what is kept by each step

-- it holds of no step, of steps joined, and of each row that the core takes by itself
pub record IsKept (speaker : Speaker) (R : ℕ → Moment → List ShownRecord → Moment → Type 0) : Type 0 where
  pub none : (t : ℕ) (m : Moment) → R t m [] m
  pub joined : (t : ℕ) (m n e : Moment) (xs ys : List ShownRecord) → R t m xs n → R t n ys e → R t m (xs ++ ys) e
  pub own : (changes : RouteChanges) (t : ℕ) (row : HiddenRow) (m e : Moment) (records : List ShownRecord) → IsTakenRow row
      → TakesOwn speaker changes t row m records e → R t m records e

-- and of each step about a message that a connection brings
abbrev pub IsKeptOn : Speaker → (ℕ → Moment → List ShownRecord → Moment → Type 0) → Type 0
IsKeptOn speaker R =
    (t : ℕ) (octets : List ℕ) (m e : Moment) (records : List ShownRecord)
    → IsHeardMessage (received_limit speaker.config) octets → IsConnected m.session.head
    → TakesOn speaker t octets m records e → R t m records e

pub rests_kept : (speaker : Speaker) (R : ℕ → Moment → List ShownRecord → Moment → Type 0) → IsKept speaker R
    → (t : ℕ) (m e : Moment) (records : List ShownRecord) → records ≡ [] → e ≡ m → R t m records e
rests_kept speaker R k t m e records none same =
    subst (λ (r : List ShownRecord). R t m r e) (sym none) (subst (λ (v : Moment). R t m [] v) (sym same) (k.none t m))

announces_kept : (speaker : Speaker) (R : ℕ → Moment → List ShownRecord → Moment → Type 0) → IsKept speaker R
    → (t : ℕ) (link : Link) (m e : Moment) (prefixes : List PrefixBits) (records : List ShownRecord)
    → AnnouncesEach speaker t link m prefixes records e → R t m records e
announces_kept speaker R k t link m e [] records x = rests_kept speaker R k t m e records x.0 x.1
announces_kept speaker R k t link m e (prefix ∷ prefixes) records x =
    subst (λ (r : List ShownRecord). R t m r e) (sym x.5)
    (k.joined t m x.1 e x.0 x.2 (k.own (announced speaker link prefix) t Announces m x.1 x.0 tt x.3)
    (announces_kept speaker R k t link x.1 e prefixes x.2 x.4))

pub greets_kept : (speaker : Speaker) (R : ℕ → Moment → List ShownRecord → Moment → Type 0) → IsKept speaker R
    → (kept : List PrefixBits) (t : ℕ) (old new : Head) (m e : Moment) (records : List ShownRecord)
    → GreetsAt speaker kept t old new m records e → R t m records e
greets_kept speaker R k kept t (OpenConfirm own timer) (Established link other) m e records x = announces_kept speaker R k t link m e (used link kept) records x
greets_kept speaker R k kept t Idle new m e records x = rests_kept speaker R k t m e records x.0 x.1
greets_kept speaker R k kept t (Connect d) new m e records x = rests_kept speaker R k t m e records x.0 x.1
greets_kept speaker R k kept t (Active d) new m e records x = rests_kept speaker R k t m e records x.0 x.1
greets_kept speaker R k kept t (OpenSent timer) new m e records x = rests_kept speaker R k t m e records x.0 x.1
greets_kept speaker R k kept t (Established l timer) new m e records x = rests_kept speaker R k t m e records x.0 x.1
greets_kept speaker R k kept t (OpenConfirm own timer) Idle m e records x = rests_kept speaker R k t m e records x.0 x.1
greets_kept speaker R k kept t (OpenConfirm own timer) (Connect d) m e records x = rests_kept speaker R k t m e records x.0 x.1
greets_kept speaker R k kept t (OpenConfirm own timer) (Active d) m e records x = rests_kept speaker R k t m e records x.0 x.1
greets_kept speaker R k kept t (OpenConfirm own timer) (OpenSent o) m e records x = rests_kept speaker R k t m e records x.0 x.1
greets_kept speaker R k kept t (OpenConfirm own timer) (OpenConfirm l o) m e records x = rests_kept speaker R k t m e records x.0 x.1

pub hears_kept : (speaker : Speaker) (R : ℕ → Moment → List ShownRecord → Moment → Type 0) → IsKept speaker R → IsKeptOn speaker R
    → (kept : List PrefixBits) (t : ℕ) (m e : Moment) (messages : List (List ℕ)) (records : List ShownRecord) → AllByRecursion (IsHeardMessage (received_limit speaker.config)) messages
    → HearsEach speaker kept t m messages records e → R t m records e
hears_kept speaker R k on kept t m e [] records each x = rests_kept speaker R k t m e records x.0 x.1
hears_kept speaker R k on kept t m e (octets ∷ messages) records each x = elim x [
  | inl idle ↦ rests_kept speaker R k t m e records idle.1 idle.2
  | inr there ↦
      let first = there.1 in
      let between = there.2 in
      let greeting = there.3 in
      let greeted = there.4 in
      let others = there.5 in
      subst (λ (r : List ShownRecord). R t m r e) (sym there.9)
      (k.joined t m between e first (greeting ++ others)
      (on t octets m between first each.0 there.0 there.6)
      (k.joined t between greeted e greeting others
      (greets_kept speaker R k kept t m.session.head between.session.head between greeted greeting there.7)
      (hears_kept speaker R k on kept t greeted e messages others each.1 there.8)))
]

pub row_kept : (speaker : Speaker) (R : ℕ → Moment → List ShownRecord → Moment → Type 0) → IsKept speaker R
    → (input : InputValue) (t : ℕ) (m e : Moment) (picked : Option HiddenRow) (records : List ShownRecord)
    → Picks m.session.head input m.sent_at t picked → TakesRow speaker t m picked records e → R t m records e
row_kept speaker R k input t m e None records p x = rests_kept speaker R k t m e records x.0 x.1
row_kept speaker R k input t m e (Some row) records p x =
    k.own no_changes t row m e records (picked_taken m.session.head input m.sent_at t row p) x

sends_kept : (speaker : Speaker) (R : ℕ → Moment → List ShownRecord → Moment → Type 0) → IsKept speaker R
    → (head : Head) (changes : Link → RouteChanges) (prefix : PrefixBits) (t : ℕ) (m e : Moment) (records : List ShownRecord)
    → SendsAt speaker head changes prefix t m records e → R t m records e
sends_kept speaker R k (Established link timer) changes prefix t m e records x = elim x [
  | inl in_use ↦ k.own (changes link) t Announces m e records tt in_use.1
  | inr unused ↦ rests_kept speaker R k t m e records unused.1 unused.2
]
sends_kept speaker R k Idle changes prefix t m e records x = rests_kept speaker R k t m e records x.0 x.1
sends_kept speaker R k (Connect d) changes prefix t m e records x = rests_kept speaker R k t m e records x.0 x.1
sends_kept speaker R k (Active d) changes prefix t m e records x = rests_kept speaker R k t m e records x.0 x.1
sends_kept speaker R k (OpenSent o) changes prefix t m e records x = rests_kept speaker R k t m e records x.0 x.1
sends_kept speaker R k (OpenConfirm l o) changes prefix t m e records x = rests_kept speaker R k t m e records x.0 x.1

-- an input that brings no octets
abbrev pub BringsNothing : InputValue → Type 0
BringsNothing (Bytes octets) = ⊥
BringsNothing input = Unit {0}

pub quiet_kept : (s : CoreState) (R : ℕ → Moment → List ShownRecord → Moment → Type 0) → IsKept s.speaker R
    → (input : InputValue) (t : ℕ) (records : List ShownRecord) (e : Moment) (rest : List ℕ) → BringsNothing input
    → Moves s input t records e rest → R t s.moment records e × (rest ≡ s.held)
quiet_kept s R k (Bytes octets) t records e rest quiet x = absurd quiet
quiet_kept s R k (Announce prefix) t records e rest quiet x =
    (sends_kept s.speaker R k s.moment.session.head _ prefix t s.moment e records x.0, x.1)
quiet_kept s R k (Withdraw prefix) t records e rest quiet x = (
  elim x.0 [
    | inl kept ↦ sends_kept s.speaker R k s.moment.session.head _ prefix t s.moment e records kept.1
    | inr other ↦ rests_kept s.speaker R k t s.moment e records other.1 other.2
  ],
  x.1,
)
quiet_kept s R k Start t records e rest quiet x = (row_kept s.speaker R k Start t s.moment e x.0.0 records x.0.1 x.0.2, x.1)
quiet_kept s R k Passive t records e rest quiet x = (row_kept s.speaker R k Passive t s.moment e x.0.0 records x.0.1 x.0.2, x.1)
quiet_kept s R k Stop t records e rest quiet x = (row_kept s.speaker R k Stop t s.moment e x.0.0 records x.0.1 x.0.2, x.1)
quiet_kept s R k Connected t records e rest quiet x = (row_kept s.speaker R k Connected t s.moment e x.0.0 records x.0.1 x.0.2, x.1)
quiet_kept s R k Failed t records e rest quiet x = (row_kept s.speaker R k Failed t s.moment e x.0.0 records x.0.1 x.0.2, x.1)
quiet_kept s R k Tick t records e rest quiet x = (row_kept s.speaker R k Tick t s.moment e x.0.0 records x.0.1 x.0.2, x.1)

moves_kept : (s : CoreState) (R : ℕ → Moment → List ShownRecord → Moment → Type 0) → IsKept s.speaker R → IsKeptOn s.speaker R
    → (input : InputValue) (t : ℕ) (records : List ShownRecord) (e : Moment) (rest : List ℕ)
    → Moves s input t records e rest → R t s.moment records e
moves_kept s R k on (Bytes octets) t records e rest x = elim x [
  | inl off ↦ rests_kept s.speaker R k t s.moment e records off.1 off.2
  | inr there ↦ hears_kept s.speaker R k on s.kept t s.moment e there.1.messages records
      (each_heard (received_limit s.speaker.config) (s.held ++ octets) there.1.messages rest there.1.heard) there.1.each
]
moves_kept s R k on (Announce prefix) t records e rest x = (quiet_kept s R k (Announce prefix) t records e rest tt x).0
moves_kept s R k on (Withdraw prefix) t records e rest x = (quiet_kept s R k (Withdraw prefix) t records e rest tt x).0
moves_kept s R k on Start t records e rest x = (quiet_kept s R k Start t records e rest tt x).0
moves_kept s R k on Passive t records e rest x = (quiet_kept s R k Passive t records e rest tt x).0
moves_kept s R k on Stop t records e rest x = (quiet_kept s R k Stop t records e rest tt x).0
moves_kept s R k on Connected t records e rest x = (quiet_kept s R k Connected t records e rest tt x).0
moves_kept s R k on Failed t records e rest x = (quiet_kept s R k Failed t records e rest tt x).0
moves_kept s R k on Tick t records e rest x = (quiet_kept s R k Tick t records e rest tt x).0

-- what is kept by each step is kept on each input
pub chooses_kept : (s s2 : CoreState) (R : ℕ → Moment → List ShownRecord → Moment → Type 0) → IsKept s.speaker R → IsKeptOn s.speaker R
    → (input : InputValue) (second : ℕ) (records : List ShownRecord) → Chooses s input second records s2
    → R (max s.second second) s.moment records s2.moment
chooses_kept s s2 R k on input second records x =
    subst (λ (v : CoreState). R (max s.second second) s.moment records v.moment) (sym x.3)
    (moves_kept s R k on input (max s.second second) records x.0 x.1 x.2)
