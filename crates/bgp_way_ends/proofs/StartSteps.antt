-- What the first records of a session make of a member, before the own OPEN: what it owes then, and
-- of which kind the message is that pays it.
use Rattle.std.proofs.Common.{◌≡◌, ◌∙◌, ◌⊎◌, ◌==◌, ◌||◌, ◌<◌, ℕ, zero, suc, Bool, true, false, List, [], ◌∷◌, Option, None, Some, MatchOption, if◌then◌else◌, length, drop, slice_get, inl, inr, refl, sym, ap, subst, arith}
use Rattle.std.specs.List.{AllByRecursion}
use Rattle.std.proofs.lemmas.Bool.{cond_both}
use Rattle.bgp_prefix.specs.Shown.{ShownRecord, Received, Sent, Changed}
use Rattle.bgp_wire.specs.declared.header.Limit.{Limit}
use Rattle.bgp_wire.specs.declared.header.Limit.TheVariants.{Plain, Extended}
use Rattle.bgp_wire.specs.declared.header.MessageType.{MessageType}
use Rattle.bgp_wire.specs.declared.header.MessageType.TheVariants as types
use Rattle.bgp_wire.specs.Framing.{IsFrame}
use Rattle.bgp_wire.specs.Header.{HasHeaderFault, greatest_length, header_of, length_of, type_of}
use Rattle.bgp_wire.specs.Verdict.{type_code}
use Rattle.bgp_open.specs.Notification.{IsNotification}
use Rattle.bgp_open.specs.declared.config.Config.{Config}
use Rattle.bgp_open.specs.declared.link.Link.{Link}
use Rattle.bgp_machine.specs.declared.fsm.Fsm.{Fsm}
use Rattle.bgp_machine.specs.declared.fsm.Fsm.TheVariants as fsms
use Rattle.bgp_machine.specs.declared.hearing.Heard.{Heard}
use Rattle.bgp_machine.specs.declared.hearing.Heard.TheVariants.{ValidOpen, FaultyHeader, InvalidOpen, BadVersion, Notification, Keepalive, Update}
use Rattle.bgp_machine.specs.declared.rows.HiddenRow.{HiddenRow}
use Rattle.bgp_machine.specs.declared.rows.HiddenRow.TheVariants.{Starts as RowStarts, Listens, Stops, Ceases, RetryExpires, DelayExpires, ConnectionOpens, DelayBegins, ConnectionFails, Notes}
use Rattle.bgp_machine.specs.declared.rows.ReceivedRow.{ReceivedRow}
use Rattle.bgp_machine.specs.declared.rows.ReceivedRow.TheVariants.{Accepts, Drops, Ignores, NamesFault}
use Rattle.bgp_machine.specs.declared.state.Head.{Head}
use Rattle.bgp_machine.specs.declared.state.Head.TheVariants.{Idle, Connect, Active, OpenSent, OpenConfirm, Established}
use Rattle.bgp_machine.specs.declared.want.FaultSet.{FaultSet}
use Rattle.bgp_machine.specs.declared.want.FaultSet.TheVariants as sets
use Rattle.bgp_machine.specs.declared.want.Want.{Want}
use Rattle.bgp_machine.specs.declared.want.Want.TheVariants.{OwnOpen, KeepAlive, Cease, Faults}
use Rattle.bgp_machine.specs.Lists.{Each, Has}
use Rattle.bgp_machine.specs.Rows.{silent_heads}
use Rattle.bgp_machine.specs.Shows.{Pays}
use Rattle.bgp_machine.specs.State.{SessionState, Turn, fsm_of, link_at, number_of}
use Rattle.bgp_machine.specs.Step.{HiddenIn, ReceivedIn, UnopenedIn, changed, hidden_change}
use Rattle.bgp_machine.specs.Want.{Meets, limit_on}
use Rattle.bgp_machine.specs.Want.{NamesFault as Names}
use Rattle.bgp_machine.proofs.Quiet.{quiet}
use Rattle.bgp_recording.specs.declared.framing.Framing.{Framing}
use Rattle.bgp_recording.specs.declared.message.Message.{Message}
use Rattle.bgp_recording.specs.declared.state.State.{State}
use Rattle.bgp_recording.specs.declared.state.State.TheVariants as states
use Rattle.bgp_recording.specs.Changes.{code_in, error_code, rejects}
use Rattle.bgp_recording.specs.Framed.{HasKind}
use Rattle.bgp_recording.specs.Pieces.{IsFaultyOf}
use Rattle.bgp_recording.specs.States.{state_number}
use Rattle.bgp_judge.specs.Member.{IsFree, Member, fresh_member, link_for}
use Rattle.bgp_judge.specs.Next.{Next, Opens, Starts}
use Rattle.bgp_way_ends.proofs.Chains.{down_head, idle_head, idle_own, of_each, silent_phase}
use Rattle.bgp_way_ends.proofs.Falls.{is_unopened, silent_opening, unopened_is}
use Rattle.bgp_way_ends.proofs.Phases.{phase_of}
use Rattle.bgp_way_ends.proofs.Sending.{IsUnopened}

-- ---- the kind of a message that is sent

abbrev pub Kinds : Framing → List Message → Type 0
Kinds framing messages = AllByRecursion (HasKind framing) messages

by_code : ℕ → MessageType
by_code n = if n == 1 then types.Open else (if n == 2 then types.Update else (if n == 3 then types.Notification else types.Keepalive))

coded : (kind : MessageType) → by_code (type_code kind) ≡ kind
unfolding by_code
coded types.Open = refl
coded types.Update = refl
coded types.Notification = refl
coded types.Keepalive = refl

one_type : (a b : MessageType) → type_code a ≡ type_code b → a ≡ b
one_type a b e = sym (coded a) ∙ ap by_code e ∙ coded b

long_enough : (limit : Limit) (kind : ℕ) → greatest_length limit kind < 19 → ⊥
long_enough Plain kind less = omega (arith, less)
long_enough Extended kind less =
    cond_both ((kind == 2) || (kind == 3)) 65535 4096 (λ (n : ℕ). n < 19 → ⊥) (λ e l. omega (arith, l)) (λ e l. omega (arith, l)) less

-- a header of nineteen octets is at fault by one limit where it is by the other
other_limit : (one other : Limit) (header : List ℕ) (subcode : ℕ) (detail : List ℕ) → length_of header ≡ 19 → HasHeaderFault one header subcode detail
    → HasHeaderFault other header subcode detail
other_limit one other header subcode detail count (inl marker) = inl marker
other_limit one other header subcode detail count (inr (inl (is, inl short, detailed))) = inr (inl (is, inl short, detailed))
other_limit one other header subcode detail count (inr (inl (is, inr (inl long), detailed))) =
    absurd (long_enough one (type_of header) (subst (λ (n : ℕ). greatest_length one (type_of header) < n) count long))
other_limit one other header subcode detail count (inr (inl (is, inr (inr keepalive), detailed))) = inr (inl (is, inr (inr keepalive), detailed))
other_limit one other header subcode detail count (inr (inr kind)) = inr (inr kind)

kind_by : (framing : Framing) (octets : List ℕ) (k : Option MessageType) (limit : Limit) (kind : MessageType)
    → MatchOption k ((length octets ≡ 19) × IsFaultyOf framing octets) (λ v. IsFrame framing.limit octets × (type_code v ≡ type_of (header_of octets)))
    → IsFrame limit octets → type_of (header_of octets) ≡ type_code kind → k ≡ Some kind
kind_by framing octets None limit kind has frame is =
    let count : length_of (header_of octets) ≡ 19 = sym frame.whole ∙ has.0 in
    absurd (has.1.faulty.1 (λ subcode detail fault. frame.sound subcode detail (other_limit framing.limit limit (header_of octets) subcode detail count fault)))
kind_by framing octets (Some v) limit kind has frame is = ap Some (one_type v kind (has.1 ∙ is))

module _ (framing : Framing) (config : Config) (link : Option Link) (y : Message) (has : HasKind framing y) where
  kind_is : (want : Want) (kind : MessageType) → Meets config link want y.octets.now → type_of (header_of y.octets.now) ≡ type_code kind → y.kind ≡ Some kind
  kind_is want kind meets is = kind_by framing y.octets.now y.kind (limit_on link) kind has meets.whole is

  pub open_kind : Meets config link OwnOpen y.octets.now → y.kind ≡ Some types.Open
  open_kind meets = kind_is OwnOpen types.Open meets meets.fulfils.form.readable.whole.message.type_field

  pub keepalive_kind : Meets config link KeepAlive y.octets.now → y.kind ≡ Some types.Keepalive
  keepalive_kind meets = kind_is KeepAlive types.Keepalive meets meets.fulfils.type_field

  pub cease_kind : Meets config link Cease y.octets.now → y.kind ≡ Some types.Notification
  cease_kind meets = kind_is Cease types.Notification meets meets.fulfils.3.message.type_field

  pub fault_kind : (set : FaultSet) → Meets config link (Faults set) y.octets.now → y.kind ≡ Some types.Notification
  fault_kind set meets = kind_is (Faults set) types.Notification meets meets.fulfils.3.message.type_field

-- ---- its Error code

at_drop : (xs : List ℕ) (n y : ℕ) (ys : List ℕ) → drop n xs ≡ y ∷ ys → slice_get xs n ≡ Some y
at_drop [] zero y ys e = absurd (let k : ⊥ = cc in k)
at_drop [] (suc n) y ys e = absurd (let k : ⊥ = cc in k)
at_drop (x ∷ xs) zero y ys e = ap Some (cc)
at_drop (x ∷ xs) (suc n) y ys e = at_drop xs n y ys e

-- a fault of a header or an OPEN
abbrev pub IsEarlyFault : FaultSet → Type 0
IsEarlyFault (sets.Header f) = Unit {0}
IsEarlyFault (sets.Open e) = Unit {0}
IsEarlyFault (sets.Update s) = ⊥

early_code : (set : FaultSet) (code subcode : ℕ) (detail : List ℕ) → IsEarlyFault set → Names set code subcode detail → rejects (Some code) ≡ true
early_code (sets.Header f) code subcode detail early names = ap (λ (n : ℕ). rejects (Some n)) names.0
early_code (sets.Open e) code subcode detail early names = ap (λ (n : ℕ). rejects (Some n)) names.0
early_code (sets.Update s) code subcode detail early names = absurd early

-- a NOTIFICATION that names such a fault rejects the connection
pub fault_rejects : (config : Config) (link : Option Link) (set : FaultSet) (y : Message) → IsEarlyFault set → y.kind ≡ Some types.Notification
    → Meets config link (Faults set) y.octets.now → rejects (error_code y) ≡ true
fault_rejects config link set y early kind meets =
    let f = meets.fulfils in
    let is : IsNotification y.octets.now f.0 f.1 f.2 = f.3 in
    let begun : slice_get y.octets.now 19 ≡ Some f.0 = at_drop y.octets.now 19 f.0 (f.1 ∷ f.2) is.body in
    let code : error_code y ≡ Some f.0 = ap (λ (k : Option MessageType). code_in k y.octets.now) kind ∙ begun in
    ap rejects code ∙ early_code set f.0 f.1 f.2 early f.4

no_code : (kind : Option MessageType) (octets : List ℕ) → rejects (code_in kind octets) ≡ true → kind ≡ Some types.Notification
no_code None octets e = absurd (let k : ⊥ = cc in k)
no_code (Some types.Open) octets e = absurd (let k : ⊥ = cc in k)
no_code (Some types.Update) octets e = absurd (let k : ⊥ = cc in k)
no_code (Some types.Notification) octets e = refl
no_code (Some types.Keepalive) octets e = absurd (let k : ⊥ = cc in k)

-- only a NOTIFICATION rejects it
pub rejects_kind : (y : Message) → rejects (error_code y) ≡ true → y.kind ≡ Some types.Notification
rejects_kind y e = no_code y.kind y.octets.now e

-- ---- what is owed is paid first

some_change : {X : Type 0} (c : Fsm × Fsm) (change : Option (Fsm × Fsm)) → change ≡ Some c → change ≡ None → X
some_change c change e none = let k : Some c ≡ None = sym e ∙ none in absurd (let f : ⊥ = cc in f)

abbrev Paid : (old new : ℕ) (wants left : List Want) (change still : Option (Fsm × Fsm)) → Type 0
Paid old new wants left change still = (c : Fsm × Fsm) × (change ≡ Some c) × (old ≡ number_of c.0) × (new ≡ number_of c.1) × (left ≡ wants) × (still ≡ None)

paid_change : (config : Config) (link : Option Link) (t old new : ℕ) (wants left : List Want) (change still : Option (Fsm × Fsm))
    → Pays config link (Changed t old new) wants change left still → Paid old new wants left change still
paid_change config link t old new wants left None still pays = absurd pays
paid_change config link t old new wants left (Some c) still pays = (c, refl, pays.0, pays.1, pays.2, pays.3)

pay_change : (config : Config) (link : Option Link) (t old new : ℕ) (wants left : List Want) (change still : Option (Fsm × Fsm)) → Paid old new wants left change still
    → Pays config link (Changed t old new) wants change left still
pay_change config link t old new wants left None still (c, is, o, n, l, e) = let k : None ≡ Some c = is in absurd (let f : ⊥ = cc in f)
pay_change config link t old new wants left (Some d) still (c, is, o, n, l, e) =
    let same : c ≡ d = cc in subst (λ (v : Fsm × Fsm). (old ≡ number_of v.0) × (new ≡ number_of v.1) × (left ≡ wants) × (still ≡ None)) same (o, n, l, e)

paid_sent : (config : Config) (link : Option Link) (t : ℕ) (octets : List ℕ) (wants left : List Want) (change still : Option (Fsm × Fsm))
    → Pays config link (Sent t octets) wants change left still
    → (want : Want) × (rest : List Want) × (wants ≡ want ∷ rest) × Meets config link want octets × (left ≡ rest) × (still ≡ change)
paid_sent config link t octets [] left change still pays = absurd pays
paid_sent config link t octets (want ∷ rest) left change still pays = (want, rest, refl, pays.0, pays.1, pays.2)

module _ (config : Config) (m m2 : Member) (c : Fsm × Fsm) (owes : m.change ≡ Some c) where
  -- a message isn't received before a change is shown that is owed
  pub none_heard : (t : ℕ) (octets : List ℕ) → Next config (Received t octets) m m2 → ⊥
  none_heard t octets (inl k) = k.pays
  none_heard t octets (inr s) = some_change c m.change owes s.free.1

  pub change_paid : (t old new : ℕ) → Next config (Changed t old new) m m2
      → (old ≡ number_of c.0) × (new ≡ number_of c.1) × (m2.wants ≡ m.wants) × (m2.change ≡ None) × (m2.state ≡ m.state)
  change_paid t old new (inl k) =
      let p = paid_change config m.link t old new m.wants m2.wants m.change m2.change k.pays in
      let same : p.0 ≡ c = let e : Some p.0 ≡ Some c = sym p.1 ∙ owes in cc in (
        p.2 ∙ ap (λ (v : Fsm × Fsm). number_of v.0) same,
        p.3 ∙ ap (λ (v : Fsm × Fsm). number_of v.1) same,
        p.4,
        p.5,
        k.state,
      )
  change_paid t old new (inr s) = some_change c m.change owes s.free.1

  -- at whichever second it is shown
  pub change_later : (t t2 old new : ℕ) → Next config (Changed t old new) m m2 → Next config (Changed t2 old new) m m2
  change_later t t2 old new (inl k) = inl (record {
    pays = pay_change config m.link t2 old new m.wants m2.wants m.change m2.change (paid_change config m.link t old new m.wants m2.wants m.change m2.change k.pays);
    state = k.state;
    link = k.link;
  })
  change_later t t2 old new (inr s) = some_change c m.change owes s.free.1

  pub sent_paid : (t : ℕ) (octets : List ℕ) → Next config (Sent t octets) m m2
      → (want : Want) × (rest : List Want) × (m.wants ≡ want ∷ rest) × Meets config m.link want octets × (m2.wants ≡ rest) × (m2.change ≡ Some c)
  sent_paid t octets (inl k) =
      let p = paid_sent config m.link t octets m.wants m2.wants m.change m2.change k.pays in (p.0, p.1, p.2, p.3, p.4, p.5 ∙ owes)
  sent_paid t octets (inr s) = some_change c m.change owes s.free.1

-- what is owed after a change is sent before anything is received
module _ (config : Config) (m m2 : Member) (want : Want) (rest : List Want) (owes : m.wants ≡ want ∷ rest) where
  some_want : {X : Type 0} → m.wants ≡ [] → X
  some_want none = let k : want ∷ rest ≡ [] = sym owes ∙ none in absurd (let f : ⊥ = cc in f)

  pub wanted_first : (t : ℕ) (octets : List ℕ) → Next config (Received t octets) m m2 → ⊥
  wanted_first t octets (inl k) = k.pays
  wanted_first t octets (inr s) = some_want s.free.0

  pub wanted_sent : (t : ℕ) (octets : List ℕ) → Next config (Sent t octets) m m2 → Meets config m.link want octets
  wanted_sent t octets (inl k) = (subst (λ (ws : List Want). Pays config m.link (Sent t octets) ws m.change m2.wants m2.change) owes k.pays).0
  wanted_sent t octets (inr s) = some_want s.free.0

-- the change to this state is shown where it is owed
pub shows_change : (config : Config) (m : Member) (t : ℕ) (c : Fsm × Fsm) → m.change ≡ Some c
    → (m2 : Member) × Next config (Changed t (number_of c.0) (number_of c.1)) m m2
shows_change config m t c owes = (
  record m { change = None; link = link_for m.wants m.link },
  inl (record {
    pays = pay_change config m.link t (number_of c.0) (number_of c.1) m.wants m.wants m.change None (c, owes, refl, refl, refl, refl);
    state = refl;
    link = refl;
  }),
)

-- ---- the start

abbrev pub IsStarting : State → Type 0
IsStarting states.Idle = ⊥
IsStarting states.Connect = Unit {0}
IsStarting states.Active = Unit {0}
IsStarting states.OpenSent = ⊥
IsStarting states.OpenConfirm = ⊥
IsStarting states.Established = ⊥

pub record AtStart (s : State) (m : Member) : Type 0 where
  pub free : IsFree m
  pub unopened : IsUnopened m.state.head
  pub number : number_of (fsm_of m.state.head) ≡ state_number s

not_one : (s : State) → IsStarting s → state_number s ≡ 1 → ⊥
not_one states.Idle start e = start
not_one states.Connect start e = omega (arith, e)
not_one states.Active start e = omega (arith, e)
not_one states.OpenSent start e = start
not_one states.OpenConfirm start e = start
not_one states.Established start e = start

abbrev Begun : (s : State) (left : List Want) (still : Option (Fsm × Fsm)) (turn : Turn) → Type 0
Begun s left still turn = (left ≡ []) × (still ≡ None) × IsUnopened turn.head × (number_of (fsm_of turn.head) ≡ state_number s)

begun_in : (config : Config) (t : ℕ) (s : State) (next : Head) (wants left : List Want) (change still : Option (Fsm × Fsm)) (turn : Turn) → IsUnopened next → wants ≡ []
    → turn.head ≡ next → change ≡ Some (fsms.Idle, fsm_of next) → Pays config None (Changed t 1 (state_number s)) wants change left still → Begun s left still turn
begun_in config t s next wants left change still turn un none is changes pays =
    let p = paid_change config None t 1 (state_number s) wants left change still pays in
    let same : p.0.1 ≡ fsm_of next = let e : Some p.0 ≡ Some (fsms.Idle, fsm_of next) = sym p.1 ∙ changes in cc in (
      p.4 ∙ none,
      p.5,
      subst IsUnopened (sym is) un,
      ap (λ (h : Head). number_of (fsm_of h)) is ∙ sym (p.3 ∙ ap number_of same),
    )

begin_row : (config : Config) (t : ℕ) (s : State) (row : HiddenRow) (wants left : List Want) (change still : Option (Fsm × Fsm)) (turn : Turn) → IsStarting s
    → HiddenIn Idle config t row wants turn → change ≡ hidden_change row fsms.Idle (fsm_of turn.head) → Pays config None (Changed t 1 (state_number s)) wants change left still
    → Begun s left still turn
begin_row config t s RowStarts wants left change still turn start r is pays =
    begun_in config t s (Connect false) wants left change still turn tt r.0 (ap (λ (u : Turn). u.head) r.1)
    (is ∙ ap (λ (u : Turn). hidden_change RowStarts fsms.Idle (fsm_of u.head)) r.1) pays
begin_row config t s Listens wants left change still turn start r is pays =
    begun_in config t s (Active false) wants left change still turn tt r.0 (ap (λ (u : Turn). u.head) r.1)
    (is ∙ ap (λ (u : Turn). hidden_change Listens fsms.Idle (fsm_of u.head)) r.1) pays
begin_row config t s Notes wants left change still turn start r is pays =
    let p = paid_change config None t 1 (state_number s) wants left change still pays in
    let idle : change ≡ Some (fsms.Idle, fsms.Idle) = is ∙ ap (λ (u : Turn). hidden_change Notes fsms.Idle (fsm_of u.head)) r.1 in
    let same : p.0.1 ≡ fsms.Idle = let e : Some p.0 ≡ Some (fsms.Idle, fsms.Idle) = sym p.1 ∙ idle in cc in
    absurd (not_one s start (p.3 ∙ ap number_of same))
begin_row config t s row wants left change still turn start r is pays = absurd r

-- the first record leads there
pub at_start : (config : Config) (t : ℕ) (s : State) (m : Member) → IsStarting s → Next config (Changed t 1 (state_number s)) fresh_member m → AtStart s m
at_start config t s m start (inl c) = absurd c.pays
at_start config t s m start (inr k) =
    let head : k.before.head ≡ Idle = down_head k.before.head (silent_phase config fresh_member.state k.before k.silent) in
    let o = subst (λ (h : Head). Opens config h (Changed t 1 (state_number s)) m.wants m.change k.turn) head k.opens in
    let b : Begun s m.wants m.change k.turn = begin_row config t s o.0 o.1 m.wants o.2 m.change k.turn start o.3.0 o.3.1 o.4 in
    let same : m.state.head ≡ k.turn.head = ap (λ (v : SessionState). v.head) k.state in record {
      free = (b.0, b.1);
      unopened = subst IsUnopened (sym same) b.2;
      number = ap (λ (h : Head). number_of (fsm_of h)) same ∙ b.3;
    }

-- ---- the first message is sent

abbrev SaidRow : (head : Head) (row : HiddenRow) (wants : List Want) (turn : Turn) → Type 0
SaidRow head row wants turn =
    ((wants ≡ OwnOpen ∷ []) × (hidden_change row (fsm_of head) (fsm_of turn.head) ≡ Some (fsm_of head, fsms.OpenSent))) ⊎ ((wants ≡ Cease ∷ []) ⊎ (wants ≡ []))

said_row : (config : Config) (head : Head) (t : ℕ) (row : HiddenRow) (wants : List Want) (turn : Turn) → IsUnopened head → HiddenIn head config t row wants turn
    → SaidRow head row wants turn
said_row config Idle t row wants turn un r = absurd un
said_row config (Connect delay) t Stops wants turn un r = inr (inr r.0)
said_row config (Connect delay) t RetryExpires wants turn un r = inr (inr r.0)
said_row config (Connect delay) t DelayExpires wants turn un r = inl (r.1, ap (λ (u : Turn). hidden_change DelayExpires fsms.Connect (fsm_of u.head)) r.2)
said_row config (Connect delay) t ConnectionOpens wants turn un r = inl (r.0, ap (λ (u : Turn). hidden_change ConnectionOpens fsms.Connect (fsm_of u.head)) r.1)
said_row config (Connect delay) t DelayBegins wants turn un r = inr (inr r.1)
said_row config (Connect delay) t ConnectionFails wants turn un r = inr (inr r.0)
said_row config (Connect delay) t Notes wants turn un r = inr (inr r.0)
said_row config (Active delay) t Stops wants turn un r = inr (inr r.0)
said_row config (Active delay) t Ceases wants turn un r = inr (inl r.1)
said_row config (Active delay) t RetryExpires wants turn un r = inr (inr r.0)
said_row config (Active delay) t DelayExpires wants turn un r = inl (r.1, ap (λ (u : Turn). hidden_change DelayExpires fsms.Active (fsm_of u.head)) r.2)
said_row config (Active delay) t ConnectionOpens wants turn un r = inl (r.0, ap (λ (u : Turn). hidden_change ConnectionOpens fsms.Active (fsm_of u.head)) r.1)
said_row config (Active delay) t DelayBegins wants turn un r = inr (inr r.1)
said_row config (Active delay) t ConnectionFails wants turn un r = inr (inr r.0)
said_row config (Active delay) t Notes wants turn un r = inr (inr r.0)
said_row config (OpenSent timer) t row wants turn un r = absurd un
said_row config (OpenConfirm own timer) t row wants turn un r = absurd un
said_row config (Established own timer) t row wants turn un r = absurd un
said_row config head t row wants turn un r = absurd r

-- the member owes nothing but a change from the start to this state
pub record Owes (s : State) (m : Member) (these : List Want) (to : Fsm) : Type 0 where
  pub wants : m.wants ≡ these
  pub from : Fsm
  pub change : m.change ≡ Some (from, to)
  pub number : number_of from ≡ state_number s

-- silence keeps the state's name
same_names : (config : Config) (head : Head) → Each (λ h. fsm_of h ≡ fsm_of head) (silent_heads config head)
same_names config Idle = (refl, tt)
same_names config (Connect true) = (refl, (refl, tt))
same_names config (Connect false) =
    cond_both config.parts.delay_open (Connect false ∷ Connect true ∷ []) (Connect false ∷ []) (λ (hs : List Head). Each (λ h. fsm_of h ≡ fsms.Connect) hs) (λ _. (refl, (refl, tt)))
    (λ _. (refl, tt))
same_names config (Active true) = (refl, tt)
same_names config (Active false) =
    cond_both config.parts.delay_open (Active false ∷ Active true ∷ []) (Active false ∷ []) (λ (hs : List Head). Each (λ h. fsm_of h ≡ fsms.Active) hs) (λ _. (refl, (refl, tt)))
    (λ _. (refl, tt))
same_names config (OpenSent timer) = (refl, tt)
same_names config (OpenConfirm link timer) = (refl, tt)
same_names config (Established link timer) = (refl, tt)

name_by : (config : Config) (head h : Head) → Has (λ x. x ≡ h) (silent_heads config head) → fsm_of h ≡ fsm_of head
name_by config head h has = of_each (λ x. fsm_of x ≡ fsm_of head) (silent_heads config head) h (same_names config head) has

module _ (config : Config) (s : State) (m m2 : Member) (begun : AtStart s m) (shown : ShownRecord) (k : Starts config shown m m2) where
  before_number : number_of (fsm_of k.before.head) ≡ state_number s
  before_number =
      ap number_of (name_by config m.state.head k.before.head (quiet config k.silent.steps m.state k.before k.silent.are_steps k.silent.shows).1) ∙ begun.number

  before_unopened : IsUnopened k.before.head
  before_unopened = unopened_is k.before.head (silent_opening config m.state k.before k.silent ∙ is_unopened m.state.head begun.unopened)

-- the own OPEN, or a Cease
abbrev pub SaidFirst : Config → State → Member → List ℕ → Type 0
SaidFirst config s m2 octets = (link : Option Link) × ((Meets config link OwnOpen octets × Owes s m2 [] fsms.OpenSent) ⊎ Meets config link Cease octets)

pub said_first : (config : Config) (s : State) (m m2 : Member) → AtStart s m → (t : ℕ) (octets : List ℕ) → Next config (Sent t octets) m m2 → SaidFirst config s m2 octets
said_first config s m m2 begun t octets (inl c) = absurd (subst (λ (ws : List Want). Pays config m.link (Sent t octets) ws m.change m2.wants m2.change) begun.free.0 c.pays)
said_first config s m m2 begun t octets (inr k) =
    let o = k.opens in
    let head : Head = k.before.head in
    let link = link_at head in
    let paid : (ws : List Want) → o.1 ≡ ws → Pays config link (Sent t octets) ws o.2 m2.wants m2.change =
    λ ws e. subst (λ (v : List Want). Pays config link (Sent t octets) v o.2 m2.wants m2.change) e o.4 in
    elim (said_row config head t o.0 o.1 k.turn (before_unopened config s m m2 begun (Sent t octets) k) o.3.0) [
      | inl r ↦
          let p = paid (OwnOpen ∷ []) r.0 in
          (link, inl (p.0, record { wants = p.1; from = fsm_of head; change = p.2 ∙ o.3.1 ∙ r.1; number = before_number config s m m2 begun (Sent t octets) k }))
      | inr r ↦ elim r [
        | inl cease ↦ (link, inr (paid (Cease ∷ []) cease).0)
        | inr none ↦ absurd (paid [] none)
      ]
    ]

-- ---- the first message is received

abbrev HeardRow : List Want → Turn → Type 0
HeardRow wants turn =
    ((wants ≡ OwnOpen ∷ KeepAlive ∷ []) × (fsm_of turn.head ≡ fsms.OpenConfirm))
    ⊎ ((fsm_of turn.head ≡ fsms.Idle) × ((wants ≡ []) ⊎ ((set : FaultSet) × IsEarlyFault set × (wants ≡ Faults set ∷ []))))

heard_row : (delay : Bool) (t : ℕ) (x : Heard) (row : ReceivedRow) (wants : List Want) (turn : Turn) → UnopenedIn delay t x row wants turn → HeardRow wants turn
heard_row delay t (ValidOpen link e) Accepts wants turn r = inl (r.1, ap (λ (u : Turn). fsm_of u.head) r.2)
heard_row delay t (ValidOpen link e) Drops wants turn r = inr (ap (λ (u : Turn). fsm_of u.head) r.1, inl r.0)
heard_row delay t (ValidOpen link e) NamesFault wants turn r = inr (ap (λ (u : Turn). fsm_of u.head) r.1, inr (sets.Open e, tt, r.0))
heard_row delay t (FaultyHeader f) Drops wants turn r = inr (ap (λ (u : Turn). fsm_of u.head) r.1, inl r.0)
heard_row delay t (FaultyHeader f) NamesFault wants turn r = inr (ap (λ (u : Turn). fsm_of u.head) r.1, inr (sets.Header f, tt, r.0))
heard_row delay t (InvalidOpen e) Drops wants turn r = inr (ap (λ (u : Turn). fsm_of u.head) r.1, inl r.0)
heard_row delay t (InvalidOpen e) NamesFault wants turn r = inr (ap (λ (u : Turn). fsm_of u.head) r.1, inr (sets.Open e, tt, r.0))
heard_row delay t BadVersion Drops wants turn r = inr (ap (λ (u : Turn). fsm_of u.head) r.1, inl r.0)
heard_row delay t Notification Drops wants turn r = inr (ap (λ (u : Turn). fsm_of u.head) r.1, inl r.0)
heard_row delay t Keepalive Drops wants turn r = inr (ap (λ (u : Turn). fsm_of u.head) r.1, inl r.0)
heard_row delay t Update Drops wants turn r = inr (ap (λ (u : Turn). fsm_of u.head) r.1, inl r.0)
heard_row delay t x row wants turn r = absurd r

heard_in_head : (head : Head) (t : ℕ) (octets : List ℕ) (x : Heard) (row : ReceivedRow) (wants : List Want) (turn : Turn) → IsUnopened head
    → ReceivedIn head t octets x row wants turn → HeardRow wants turn
heard_in_head Idle t octets x row wants turn un r = absurd un
heard_in_head (Connect delay) t octets x row wants turn un r = heard_row delay t x row wants turn r
heard_in_head (Active delay) t octets x row wants turn un r = heard_row delay t x row wants turn r
heard_in_head (OpenSent timer) t octets x row wants turn un r = absurd un
heard_in_head (OpenConfirm own timer) t octets x row wants turn un r = absurd un
heard_in_head (Established own timer) t octets x row wants turn un r = absurd un

to_confirm : (head : Head) → IsUnopened head → changed (fsm_of head) fsms.OpenConfirm ≡ Some (fsm_of head, fsms.OpenConfirm)
to_confirm Idle un = absurd un
to_confirm (Connect delay) un = refl
to_confirm (Active delay) un = refl
to_confirm (OpenSent timer) un = absurd un
to_confirm (OpenConfirm own timer) un = absurd un
to_confirm (Established own timer) un = absurd un

to_idle : (head : Head) → IsUnopened head → changed (fsm_of head) fsms.Idle ≡ Some (fsm_of head, fsms.Idle)
to_idle Idle un = absurd un
to_idle (Connect delay) un = refl
to_idle (Active delay) un = refl
to_idle (OpenSent timer) un = absurd un
to_idle (OpenConfirm own timer) un = absurd un
to_idle (Established own timer) un = absurd un

-- it falls: then it may owe a NOTIFICATION
pub record FallsFirst (s : State) (m2 : Member) : Type 0 where
  pub idle : fsm_of m2.state.head ≡ fsms.Idle
  pub owes : Owes s m2 [] fsms.Idle ⊎ ((set : FaultSet) × IsEarlyFault set × Owes s m2 (Faults set ∷ []) fsms.Idle)

-- the own OPEN and the KEEPALIVE, or it falls
abbrev pub HeardFirst : State → Member → Type 0
HeardFirst s m2 = Owes s m2 (OwnOpen ∷ KeepAlive ∷ []) fsms.OpenConfirm ⊎ FallsFirst s m2

pub heard_first : (config : Config) (s : State) (m m2 : Member) → AtStart s m → (t : ℕ) (octets : List ℕ) → Next config (Received t octets) m m2 → HeardFirst s m2
heard_first config s m m2 begun t octets (inl c) = absurd c.pays
heard_first config s m m2 begun t octets (inr k) =
    let shown = Received t octets in
    let head : Head = k.before.head in
    let un : IsUnopened head = before_unopened config s m m2 begun shown k in
    let number = before_number config s m m2 begun shown k in
    let o = k.opens.0 in
    let is : m2.change ≡ changed (fsm_of head) (fsm_of k.turn.head) = k.opens.1 in
    let same : fsm_of m2.state.head ≡ fsm_of k.turn.head = ap (λ (v : SessionState). fsm_of v.head) k.state in
    elim (heard_in_head head t octets o.0 o.1 m2.wants k.turn un o.3) [
      | inl r ↦ inl (record {
        wants = r.0;
        from = fsm_of head;
        change = is ∙ ap (λ (f : Fsm). changed (fsm_of head) f) r.1 ∙ to_confirm head un;
        number = number;
      })
      | inr r ↦
          let change : m2.change ≡ Some (fsm_of head, fsms.Idle) = is ∙ ap (λ (f : Fsm). changed (fsm_of head) f) r.0 ∙ to_idle head un in
          inr (record {
            idle = same ∙ r.0;
            owes = elim r.1 [
              | inl none ↦ inl (record { wants = none; from = fsm_of head; change = change; number = number })
              | inr fault ↦ inr (fault.0, fault.1, record { wants = fault.2; from = fsm_of head; change = change; number = number })
            ];
          })
    ]

-- a change is owed
pub owed_change : (s : State) (m2 : Member) → HeardFirst s m2 → (c : Fsm × Fsm) × (m2.change ≡ Some c)
owed_change s m2 (inl o) = ((o.from, fsms.OpenConfirm), o.change)
owed_change s m2 (inr f) = elim f.owes [ inl o ↦ ((o.from, fsms.Idle), o.change) | inr k ↦ ((k.2.from, fsms.Idle), k.2.change) ]

-- ---- in Idle nothing is sent but what is owed

idle_row : (t : ℕ) (octets : List ℕ) (x : Heard) (row : ReceivedRow) (wants : List Want) (turn : Turn) → ReceivedIn Idle t octets x row wants turn
    → (wants ≡ []) × (fsm_of turn.head ≡ fsms.Idle)
idle_row t octets x Ignores wants turn r = (r.0, ap (λ (u : Turn). fsm_of u.head) r.1)
idle_row t octets x row wants turn r = absurd r

-- nothing is owed, in Idle
pub record IsDown (m : Member) : Type 0 where
  pub idle : fsm_of m.state.head ≡ fsms.Idle
  pub wants : m.wants ≡ []
  pub change : m.change ≡ None

down_before : (config : Config) (m m2 : Member) (shown : ShownRecord) (k : Starts config shown m m2) → IsDown m → k.before.head ≡ Idle
down_before config m m2 shown k down =
    down_head k.before.head (silent_phase config m.state k.before k.silent ∙ ap phase_of (idle_head m.state.head down.idle))

pub down_heard : (config : Config) (m m2 : Member) (t : ℕ) (octets : List ℕ) → IsDown m → Next config (Received t octets) m m2 → IsDown m2
down_heard config m m2 t octets down (inl c) = absurd c.pays
down_heard config m m2 t octets down (inr k) =
    let head = down_before config m m2 (Received t octets) k down in
    let o = subst (λ (h : Head). Opens config h (Received t octets) m2.wants m2.change k.turn) head k.opens in
    let r = idle_row t octets o.0.0 o.0.1 m2.wants k.turn o.0.3 in record {
      idle = ap (λ (v : SessionState). fsm_of v.head) k.state ∙ r.1;
      wants = r.0;
      change = o.1 ∙ ap (λ (f : Fsm). changed fsms.Idle f) r.1;
    }

pub down_said : (config : Config) (m m2 : Member) (t : ℕ) (octets : List ℕ) → IsDown m → Next config (Sent t octets) m m2 → ⊥
down_said config m m2 t octets down (inl c) = subst (λ (ws : List Want). Pays config m.link (Sent t octets) ws m.change m2.wants m2.change) down.wants c.pays
down_said config m m2 t octets down (inr k) =
    let head = down_before config m m2 (Sent t octets) k down in
    let o = subst (λ (h : Head). Opens config h (Sent t octets) m2.wants m2.change k.turn) head k.opens in
    idle_own config (Sent t octets) o.0 o.1 o.2 k.turn m2.wants m2.change tt tt o.3.0 o.3.1 o.4
