-- One record stands for all of its kind: what it may, they may.
use Rattle.std.proofs.Common.{◌≡◌, ◌≤◌, ◌⊎◌, inl, inr, ℕ, List, [], ◌∷◌, Option, None, Some, refl, sym, ap, subst, ◌∙◌, arith}
use Rattle.bgp_prefix.specs.Shown.{ShownRecord, Received, Sent, Changed}
use Rattle.bgp_wire.specs.declared.header.HeaderFaults.{HeaderFaults}
use Rattle.bgp_wire.specs.declared.header.Limit.{Limit}
use Rattle.bgp_wire.specs.Framing.{IsFrame}
use Rattle.bgp_wire.specs.Message.{IsMessage, message_octets}
use Rattle.bgp_wire.specs.Verdict.{Names as NamesHeader}
use Rattle.bgp_wire.proofs.WholeMessages.{keepalive_is_frame}
use Rattle.bgp_wire.proofs.WrittenMessage.{body_of-message_octets, written_message}
use Rattle.bgp_open.specs.declared.config.Config.{Config}
use Rattle.bgp_open.specs.declared.link.Link.{Link}
use Rattle.bgp_open.specs.declared.subcodes.OpenSubcodes.{OpenSubcodes}
use Rattle.bgp_open.specs.Notification.{IsNotification}
use Rattle.bgp_open.specs.OpenSubcodes.{Names as NamesOpen}
use Rattle.bgp_machine.specs.Subcodes.{HasSubcode}
use Rattle.bgp_machine.specs.declared.fsm.Fsm.{Fsm}
use Rattle.bgp_machine.specs.declared.hearing.Heard.{Heard}
use Rattle.bgp_machine.specs.declared.hearing.Heard.TheVariants as heard
use Rattle.bgp_machine.specs.declared.rows.HiddenRow.{HiddenRow}
use Rattle.bgp_machine.specs.declared.rows.HiddenRow.TheVariants.{Ceases}
use Rattle.bgp_machine.specs.declared.state.Head.{Head}
use Rattle.bgp_machine.specs.declared.state.Head.TheVariants.{Idle, Connect, Active, OpenSent, OpenConfirm, Established}
use Rattle.bgp_machine.specs.declared.want.FaultSet.TheVariants as sets
use Rattle.bgp_machine.specs.declared.want.Want.{Want}
use Rattle.bgp_machine.specs.declared.want.Want.TheVariants.{OwnOpen, KeepAlive, CleanUpdate, Cease, HoldExpired, SendHoldExpired, MachineError, Faults}
use Rattle.bgp_machine.specs.Heard.{received_limit}
use Rattle.bgp_machine.specs.Lists.{Each}
use Rattle.bgp_machine.specs.Owed.{EachOwedCanBeMet}
use Rattle.bgp_machine.specs.Run.{Silent}
use Rattle.bgp_machine.specs.Shows.{Pays}
use Rattle.bgp_machine.specs.State.{SessionState, Turn, falls, fsm_of, link_at, moved, number_of}
use Rattle.bgp_machine.specs.Step.{HiddenIn, changed, hidden_change}
use Rattle.bgp_machine.specs.Want.{Fulfils, Meets, Tells, limit_on}
use Rattle.bgp_judge.specs.Member.{Member, IsFree, link_for}
use Rattle.bgp_judge.specs.Next.{Continues, Opens, Starts}
use Rattle.bgp_judge.specs.Told.{IsAsTold, told}
use Rattle.bgp_reason.specs.Following.{MayFollow}
use Rattle.bgp_reason.specs.Hearable.{CanBeHeard, IsSettled}
use Rattle.bgp_reason.specs.Sending.{sending_link}
use Rattle.bgp_reason.specs.Told.{last_message}
use Rattle.bgp_reason.proofs.Explaining.{Explains, before_told, follows_from, follows_to}
use Rattle.bgp_reason.proofs.OwedRows.{IsGoing, IsHeaderOf, IsSettledAt, has_row, hidden_at, hidden_change_so, hidden_owes}
use Rattle.bgp_reason.proofs.Owing.{link_here, link_so, owing, paid_change, tail_so}

-- ---- a message that is sent

-- A message may be sent since it meets a want on a link. One that meets it too may be sent at any second, or at a later one if the
-- HoldTimer has to have run out.
pub record Sending (config : Config) (records : List ShownRecord) (t : ℕ) (o : List ℕ) : Type 0 where
  pub link : Option Link
  pub want : Want
  pub met : Meets config link want o
  pub again : (u : ℕ) (other : List ℕ) → Meets config link want other → ((t ≤ u) ⊎ (want ≡ HoldExpired → ⊥)) → MayFollow config records (Sent u other)
  pub going : IsGoing want ⊎ ((link ≡ sending_link config records) × ((f : HeaderFaults) → want ≡ Faults (sets.Header f) → IsHeaderOf config (last_message records) f))

met_first : (config : Config) (link : Option Link) (t : ℕ) (o : List ℕ) (want : Want) (wants : List Want) (change : Option (Fsm × Fsm)) (left : List Want) (still : Option (Fsm × Fsm))
    → wants ≡ want ∷ left → Pays config link (Sent t o) wants change left still
    → Meets config link want o × ((u : ℕ) (other : List ℕ) → Meets config link want other → Pays config link (Sent u other) wants change left still)
met_first config link t o want wants change left still e p =
    let q : Pays config link (Sent t o) (want ∷ left) change left still = subst (λ (v : List Want). Pays config link (Sent t o) v change left still) e p in
    (q.0, λ u other m. subst (λ (v : List Want). Pays config link (Sent u other) v change left still) (sym e) (m, refl, q.2))

going_first : (want : Want) (left wants : List Want) → wants ≡ want ∷ left → Each IsGoing wants → IsGoing want
going_first want left wants e each = (subst (Each IsGoing) e each).0

same_first : (want other : Want) (left wants : List Want) → wants ≡ want ∷ left → wants ≡ other ∷ [] → other ≡ want
same_first want other left wants e f = let k : want ∷ left ≡ other ∷ [] = sym e ∙ f in cc

sending_on : EachOwedCanBeMet → (config : Config) (records : List ShownRecord) (t : ℕ) (o : List ℕ) (m n : Member) → Explains config records m → Continues config (Sent t o) m n
    → Sending config records t o
sending_on law config records t o m n ex c =
    let p = tail_so config m.link t o m.wants m.change n.wants n.change c.pays in
    let f = met_first config m.link t o p.0 m.wants m.change n.wants n.change p.1 c.pays in
    record {
      link = m.link;
      want = p.0;
      met = f.0;
      again = λ u other meets late. follows_to law config records (Sent u other) m n ex (inl (record { pays = f.1 u other meets; state = c.state; link = c.link }));
      going = elim (owing config records m ex).owes [
        | inl each ↦ inl (going_first p.0 n.wants m.wants p.1 each)
        | inr e ↦ inr (e.link, λ k i. e.header k (same_first p.0 e.want n.wants m.wants p.1 e.wants ∙ i))
      ];
    }

one_want : (want other : Want) (left : List Want) (wants : List Want) → wants ≡ want ∷ left → wants ≡ other ∷ [] → want ≡ other
one_want want other left wants e f = let k : want ∷ left ≡ other ∷ [] = sym e ∙ f in cc

-- a step that sends it first is there at another second too
sending_at : (config : Config) (head : Head) (t u : ℕ) (other : List ℕ) (row : HiddenRow) (want : Want) (wants left : List Want) (change still : Option (Fsm × Fsm)) (turn : Turn)
    → HiddenIn head config t row wants turn → change ≡ hidden_change row (fsm_of head) (fsm_of turn.head) → wants ≡ want ∷ left
    → Pays config (link_at head) (Sent u other) wants change left still → ((t ≤ u) ⊎ (want ≡ HoldExpired → ⊥))
    → (turn2 : Turn) × Opens config head (Sent u other) left still turn2
sending_at config head t u other row want wants left change still turn h c e p late = elim (hidden_at head config t u row wants turn h) [
  | inl k ↦ (k.0, (row, wants, change, (k.1, c ∙ sym (ap (λ (v : Fsm). hidden_change row (fsm_of head) v) k.2)), p))
  | inr k ↦ elim late [
    | inl le ↦ (turn, (row, wants, change, (k.0 le, c), p))
    | inr unless ↦ absurd (unless (one_want want HoldExpired left wants e k.1))
  ]
]

sending_first : EachOwedCanBeMet → (config : Config) (records : List ShownRecord) (t : ℕ) (o : List ℕ) (m n : Member) → Explains config records m → Starts config (Sent t o) m n
    → Sending config records t o
sending_first law config records t o m n ex s =
    let x = s.opens in
    let p = tail_so config (link_at s.before.head) t o x.1 x.2 n.wants n.change x.4 in
    let f = met_first config (link_at s.before.head) t o p.0 x.1 x.2 n.wants n.change p.1 x.4 in
    let held = before_told config records m s.before ex s.free s.silent in
    record {
      link = link_at s.before.head;
      want = p.0;
      met = f.0;
      again = λ u other meets late.
          let k = sending_at config s.before.head t u other x.0 p.0 x.1 n.wants x.2 n.change s.turn x.3.0 x.3.1 p.1 (f.1 u other meets) late in
          follows_to law config records (Sent u other) m (record { state = moved s.before k.0; link = n.link; wants = n.wants; change = n.change }) ex
          (inr (record { free = s.free; before = s.before; silent = s.silent; turn = k.0; opens = k.1; state = refl; link = s.link }));
      going = elim (hidden_owes s.before.head config t x.0 x.1 s.turn x.3.0) [
        | inl none ↦ absurd (let k : p.0 ∷ n.wants ≡ [] = sym p.1 ∙ none in cc)
        | inr e ↦ elim e.2 [
          | inl going ↦ inl (subst IsGoing (same_first p.0 e.0 n.wants x.1 p.1 e.1) going)
          | inr g ↦ inr (
            link_here config (told records) (sending_link config records) s.before.head s.before refl (link_so config records) held g.0,
            λ k i. absurd (g.1 k (same_first p.0 e.0 n.wants x.1 p.1 e.1 ∙ i)),
          )
        ]
      ];
    }

pub sending : EachOwedCanBeMet → (config : Config) (records : List ShownRecord) (t : ℕ) (o : List ℕ) → MayFollow config records (Sent t o) → Sending config records t o
sending law config records t o may =
    let x = follows_from config records (Sent t o) may in
    elim x.3 [ inl c ↦ sending_on law config records t o x.0 x.1 x.2 c | inr s ↦ sending_first law config records t o x.0 x.1 x.2 s ]

-- ---- what meets a want is of one type

pub one_message : (a b : ℕ) (o : List ℕ) → IsMessage a o → IsMessage b o → a ≡ b
one_message a b o p q = sym p.type_field ∙ q.type_field

abbrev pub type_for : Want → ℕ
type_for OwnOpen = 1
type_for CleanUpdate = 2
type_for KeepAlive = 4
type_for want = 3

pub typed : (config : Config) (link : Option Link) (want : Want) (o : List ℕ) → Fulfils config link want o → IsMessage (type_for want) o
typed config link OwnOpen o f = f.form.readable.whole.message
typed config link KeepAlive o f = f
typed config None CleanUpdate o f = absurd f
typed config (Some l) CleanUpdate o f = f.2.message
typed config link Cease o f = f.3.message
typed config link HoldExpired o f = f.3.message
typed config link SendHoldExpired o f = f.3.message
typed config link (MachineError s) o f = f.3.message
typed config link (Faults s) o f = f.3.message

pub is_open : (want : Want) → type_for want ≡ 1 → want ≡ OwnOpen
is_open OwnOpen e = refl
is_open KeepAlive e = absurd (let k : 4 ≡ 1 = e in cc)
is_open CleanUpdate e = absurd (let k : 2 ≡ 1 = e in cc)
is_open Cease e = absurd (let k : 3 ≡ 1 = e in cc)
is_open HoldExpired e = absurd (let k : 3 ≡ 1 = e in cc)
is_open SendHoldExpired e = absurd (let k : 3 ≡ 1 = e in cc)
is_open (MachineError s) e = absurd (let k : 3 ≡ 1 = e in cc)
is_open (Faults s) e = absurd (let k : 3 ≡ 1 = e in cc)

pub is_alive : (want : Want) → type_for want ≡ 4 → want ≡ KeepAlive
is_alive OwnOpen e = absurd (let k : 1 ≡ 4 = e in cc)
is_alive KeepAlive e = refl
is_alive CleanUpdate e = absurd (let k : 2 ≡ 4 = e in cc)
is_alive Cease e = absurd (let k : 3 ≡ 4 = e in cc)
is_alive HoldExpired e = absurd (let k : 3 ≡ 4 = e in cc)
is_alive SendHoldExpired e = absurd (let k : 3 ≡ 4 = e in cc)
is_alive (MachineError s) e = absurd (let k : 3 ≡ 4 = e in cc)
is_alive (Faults s) e = absurd (let k : 3 ≡ 4 = e in cc)

pub is_update : (want : Want) → type_for want ≡ 2 → want ≡ CleanUpdate
is_update OwnOpen e = absurd (let k : 1 ≡ 2 = e in cc)
is_update KeepAlive e = absurd (let k : 4 ≡ 2 = e in cc)
is_update CleanUpdate e = refl
is_update Cease e = absurd (let k : 3 ≡ 2 = e in cc)
is_update HoldExpired e = absurd (let k : 3 ≡ 2 = e in cc)
is_update SendHoldExpired e = absurd (let k : 3 ≡ 2 = e in cc)
is_update (MachineError s) e = absurd (let k : 3 ≡ 2 = e in cc)
is_update (Faults s) e = absurd (let k : 3 ≡ 2 = e in cc)

-- ---- what a NOTIFICATION says

pub one_code : (a b c d : ℕ) (x y : List ℕ) → a ∷ b ∷ x ≡ c ∷ d ∷ y → a ≡ c
one_code a b c d x y e = cc

pub one_subcode : (a b c d : ℕ) (x y : List ℕ) → a ∷ b ∷ x ≡ c ∷ d ∷ y → b ≡ d
one_subcode a b c d x y e = cc

pub one_detail : (a b c d : ℕ) (x y : List ℕ) → a ∷ b ∷ x ≡ c ∷ d ∷ y → x ≡ y
one_detail a b c d x y e = cc

-- what is said of its code, subcode and data holds of them
pub says : (o : List ℕ) (c s : ℕ) (d : List ℕ) (Says : ℕ → ℕ → List ℕ → Type 0) → IsNotification o c s d → Tells o Says → Says c s d
says o c s d Says p t =
    let e = sym t.3.body ∙ p.body in
    subst (λ (v : List ℕ). Says c s v) (one_detail t.0 t.1 c s t.2 d e)
    (subst (λ (v : ℕ). Says c v t.2) (one_subcode t.0 t.1 c s t.2 d e)
    (subst (λ (v : ℕ). Says v t.1 t.2) (one_code t.0 t.1 c s t.2 d e) t.4))

-- Where one NOTIFICATION meets a want, so does another of the same code and subcode (a Cease, of any subcode), whose data are the same or free.
pub record IsLike (c s : ℕ) (d : List ℕ) (s2 : ℕ) (d2 : List ℕ) : Type 0 where
  pub subcode : (s ≡ s2) ⊎ (c ≡ 6)
  pub header : (f : HeaderFaults) → c ≡ 1 → NamesHeader f s d → NamesHeader f s2 d2
  pub opening : (f : OpenSubcodes) → c ≡ 2 → NamesOpen f s d → NamesOpen f s2 d2

not_three : (config : Config) (link : Option Link) (want : Want) (o : List ℕ) (c s : ℕ) (d : List ℕ) → IsNotification o c s d → Fulfils config link want o → 3 ≡ type_for want
not_three config link want o c s d p f = one_message 3 (type_for want) o p.message (typed config link want o f)

same_subcode : (c s s2 : ℕ) → (s ≡ s2) ⊎ (c ≡ 6) → (c ≡ 6 → ⊥) → s ≡ s2
same_subcode c s s2 (inl e) unless = e
same_subcode c s s2 (inr e) unless = absurd (unless e)

pub like : (config : Config) (link : Option Link) (want : Want) (o o2 : List ℕ) (c s : ℕ) (d : List ℕ) (s2 : ℕ) (d2 : List ℕ) → IsNotification o c s d → IsNotification o2 c s2 d2
    → IsLike c s d s2 d2 → Fulfils config link want o → Fulfils config link want o2
like config link OwnOpen o o2 c s d s2 d2 p q l f = absurd (let k : 3 ≡ 1 = not_three config link OwnOpen o c s d p f in cc)
like config link KeepAlive o o2 c s d s2 d2 p q l f = absurd (let k : 3 ≡ 4 = not_three config link KeepAlive o c s d p f in cc)
like config link CleanUpdate o o2 c s d s2 d2 p q l f = absurd (let k : 3 ≡ 2 = not_three config link CleanUpdate o c s d p f in cc)
like config link Cease o o2 c s d s2 d2 p q l f = (c, s2, d2, q, says o c s d _ p f)
like config link HoldExpired o o2 c s d s2 d2 p q l f =
    let x = says o c s d _ p f in
    (c, s2, d2, q, (x.0, sym (same_subcode c s s2 l.subcode (λ e. let k : 6 ≡ 4 = sym e ∙ x.0 in cc)) ∙ x.1))
like config link SendHoldExpired o o2 c s d s2 d2 p q l f =
    let x = says o c s d _ p f in
    (c, s2, d2, q, (x.0, sym (same_subcode c s s2 l.subcode (λ e. let k : 6 ≡ 8 = sym e ∙ x.0 in cc)) ∙ x.1))
like config link (MachineError n) o o2 c s d s2 d2 p q l f =
    let x = says o c s d _ p f in
    let same = same_subcode c s s2 l.subcode (λ e. let k : 6 ≡ 5 = sym e ∙ x.0 in cc) in
    (c, s2, d2, q, (x.0, elim x.1 [ inl a ↦ inl (sym same ∙ a) | inr b ↦ inr (sym same ∙ b) ]))
like config link (Faults (sets.Header n)) o o2 c s d s2 d2 p q l f =
    let x = says o c s d _ p f in (c, s2, d2, q, (x.0, l.header n x.0 x.1))
like config link (Faults (sets.Open n)) o o2 c s d s2 d2 p q l f =
    let x = says o c s d _ p f in (c, s2, d2, q, (x.0, l.opening n x.0 x.1))
like config link (Faults (sets.Update n)) o o2 c s d s2 d2 p q l f =
    let x = says o c s d _ p f in
    (c, s2, d2, q, (x.0, subst (HasSubcode n) (same_subcode c s s2 l.subcode (λ e. let k : 6 ≡ 3 = sym e ∙ x.0 in cc)) x.1))

-- a NOTIFICATION isn't what a session goes on with, so it is sent on the link that the records tell
pub on_link : (config : Config) (records : List ShownRecord) (t : ℕ) (o : List ℕ) (want : Want) (x : Sending config records t o) → x.want ≡ want → (IsGoing want → ⊥)
    → x.link ≡ sending_link config records
on_link config records t o want x e unless = elim x.going [ inl going ↦ absurd (unless (subst IsGoing e going)) | inr other ↦ other.0 ]

not_going : (want : Want) → 3 ≡ type_for want → IsGoing want → ⊥
not_going OwnOpen e g = let k : 3 ≡ 1 = e in cc
not_going KeepAlive e g = let k : 3 ≡ 4 = e in cc
not_going CleanUpdate e g = g
not_going Cease e g = g
not_going HoldExpired e g = g
not_going SendHoldExpired e g = g
not_going (MachineError s) e g = g
not_going (Faults s) e g = g

-- Of NOTIFICATIONs that are like each other one may follow where another may: at any second, but Hold Timer Expired at a later one.
pub notified : EachOwedCanBeMet → (config : Config) (records : List ShownRecord) (t u : ℕ) (o o2 : List ℕ) (c s : ℕ) (d : List ℕ) (s2 : ℕ) (d2 : List ℕ)
    → IsNotification o c s d → IsNotification o2 c s2 d2 → IsLike c s d s2 d2 → IsFrame (limit_on (sending_link config records)) o2 → ((t ≤ u) ⊎ (c ≡ 4 → ⊥))
    → MayFollow config records (Sent t o) → MayFollow config records (Sent u o2)
notified law config records t u o o2 c s d s2 d2 p q l frame late may =
    let x = sending law config records t o may in
    let link = on_link config records t o x.want x refl (not_going x.want (not_three config x.link x.want o c s d p x.met.fulfils)) in
    x.again u o2 (record {
      whole = subst (λ (v : Option Link). IsFrame (limit_on v) o2) (sym link) frame;
      fulfils = like config x.link x.want o o2 c s d s2 d2 p q l x.met.fulfils;
    }) (elim late [
      | inl le ↦ inl le
      | inr unless ↦ inr (λ e. unless (says o c s d _ p (subst (λ (v : Want). Fulfils config x.link v o) e x.met.fulfils)).0)
    ])

-- ---- a change of state

changed_at : (config : Config) (head : Head) (t u x y : ℕ) (row : HiddenRow) (wants left : List Want) (change still : Option (Fsm × Fsm)) (turn : Turn)
    → HiddenIn head config t row wants turn → change ≡ hidden_change row (fsm_of head) (fsm_of turn.head) → Pays config (link_at head) (Changed t x y) wants change left still
    → (left2 : List Want) × (still2 : Option (Fsm × Fsm)) × (turn2 : Turn) × Opens config head (Changed u x y) left2 still2 turn2
changed_at config head t u x y row wants left change still turn h c p =
    let q = paid_change config (link_at head) t x y wants change left still p in
    let pays : (ws : List Want) → Pays config (link_at head) (Changed u x y) ws change ws None =
    λ ws. subst (λ (v : Option (Fsm × Fsm)). Pays config (link_at head) (Changed u x y) ws v ws None) (sym q.1) (q.2, q.3, refl, refl) in
    elim (hidden_at head config t u row wants turn h) [
      | inl k ↦ (wants, None, k.0, (row, wants, change, (k.1, c ∙ sym (ap (λ (v : Fsm). hidden_change row (fsm_of head) v) k.2)), pays wants))
      | inr k ↦
          let same : change ≡ hidden_change Ceases (fsm_of head) (fsm_of falls.head) =
          c ∙ ap (λ (v : HiddenRow). hidden_change v (fsm_of head) (fsm_of turn.head)) k.2 ∙ ap (λ (v : Turn). changed (fsm_of head) (fsm_of v.head)) k.3 in
          (Cease ∷ [], None, falls, (Ceases, Cease ∷ [], change, (k.4, same), pays (Cease ∷ [])))
    ]

-- a change may follow at any second, and leaves the state that is told
pub changes_at : EachOwedCanBeMet → (config : Config) (records : List ShownRecord) (t u x y : ℕ) → MayFollow config records (Changed t x y)
    → MayFollow config records (Changed u x y) × ((to : Fsm) × (x ≡ number_of (told records).fsm) × (y ≡ number_of to))
changes_at law config records t u x y may =
    let z = follows_from config records (Changed t x y) may in
    elim z.3 [
      | inl c ↦
          let q = paid_change config z.0.link t x y z.0.wants z.0.change z.1.wants z.1.change c.pays in (
            follows_to law config records (Changed u x y) z.0 z.1 z.2 (inl (record {
              pays = subst (λ (v : Option (Fsm × Fsm)). Pays config z.0.link (Changed u x y) z.0.wants v z.1.wants z.1.change) (sym q.1) (q.2, q.3, q.4, q.5);
              state = c.state;
              link = c.link;
            })),
            (q.0.1, q.2 ∙ ap number_of ((owing config records z.0 z.2).leaves q.0 q.1), q.3),
          )
      | inr s ↦
          let o = s.opens in
          let q = paid_change config (link_at s.before.head) t x y o.1 o.2 z.1.wants z.1.change o.4 in
          let k = changed_at config s.before.head t u x y o.0 o.1 z.1.wants o.2 z.1.change s.turn o.3.0 o.3.1 o.4 in
          let held = before_told config records z.0 s.before z.2 s.free s.silent in (
            follows_to law config records (Changed u x y) z.0
                (record { state = moved s.before k.2; link = link_for k.0 (link_at s.before.head); wants = k.0; change = k.1 }) z.2
                (inr (record { free = s.free; before = s.before; silent = s.silent; turn = k.2; opens = k.3; state = refl; link = refl })),
            (q.0.1, q.2 ∙ ap number_of ((hidden_change_so o.0 (fsm_of s.before.head) (fsm_of s.turn.head) q.0 (sym o.3.1 ∙ q.1)).0 ∙ held.fsm), q.3),
          )
    ]

-- ---- a message that is received

settled_at : (head : Head) (octets : List ℕ) → IsSettled (link_at head) octets → IsSettledAt head octets
settled_at Idle octets s = tt
settled_at (Connect d) octets s = tt
settled_at (Active d) octets s = tt
settled_at (OpenSent timer) octets s = tt
settled_at (OpenConfirm link timer) octets s = tt
settled_at (Established link timer) octets s = s

idle_or_not : (head : Head) → (head ≡ Idle) ⊎ (head ≡ Idle → ⊥)
idle_or_not Idle = inl refl
idle_or_not (Connect d) = inr (λ e. cc)
idle_or_not (Active d) = inr (λ e. cc)
idle_or_not (OpenSent timer) = inr (λ e. cc)
idle_or_not (OpenConfirm link timer) = inr (λ e. cc)
idle_or_not (Established link timer) = inr (λ e. cc)

-- a state makes something of each message that can be heard
takes : (config : Config) (records : List ShownRecord) (s : SessionState) (octets : List ℕ) → IsAsTold config (told records) s → CanBeHeard config (sending_link config records) octets
    → (heard' : Heard) → heard' ≡ heard.Update → IsSettled (sending_link config records) octets → IsSettledAt s.head octets
takes config records s octets held can h e settled = elim (idle_or_not s.head) [
  | inl idle ↦ subst (λ (v : Head). IsSettledAt v octets) (sym idle) tt
  | inr up ↦ settled_at s.head octets (subst (λ (v : Option Link). IsSettled v octets)
      (sym (link_here config (told records) (sending_link config records) s.head s refl (link_so config records) held up)) settled)
]

-- from a member that has nothing left to show each message that can be heard leads on
pub hears_on : EachOwedCanBeMet → (config : Config) (records : List ShownRecord) (u : ℕ) (octets : List ℕ) (m : Member) (before : SessionState) → Explains config records m
    → IsFree m → Silent config m.state before → CanBeHeard config (sending_link config records) octets → MayFollow config records (Received u octets)
hears_on law config records u octets m before ex free silent can =
    let held = before_told config records m before ex free silent in
    let row = has_row before.head config u octets can.heard can.hears can.header
    (λ e. takes config records before octets held can can.heard e (can.settled e)) in
    follows_to law config records (Received u octets) m
    (record {
      state = moved before row.2;
      link = link_for row.1 (link_at before.head);
      wants = row.1;
      change = changed (fsm_of before.head) (fsm_of row.2.head);
    }) ex
    (inr (record { free = free; before = before; silent = silent; turn = row.2; opens = ((can.heard, row.0, can.hears, row.3), refl); state = refl; link = refl }))

-- where one message may follow, each may that can be heard
pub messages_alike : EachOwedCanBeMet → (config : Config) (records : List ShownRecord) (t u : ℕ) (o octets : List ℕ) → MayFollow config records (Received t o)
    → CanBeHeard config (sending_link config records) octets → MayFollow config records (Received u octets)
messages_alike law config records t u o octets may can =
    let z = follows_from config records (Received t o) may in
    elim z.3 [
      | inl c ↦ absurd c.pays
      | inr s ↦ hears_on law config records u octets z.0 s.before z.2 s.free s.silent can
    ]

-- a KEEPALIVE is one
alive_message : IsMessage 4 (message_octets 4 [])
alive_message = written_message 4 [] (omega arith)

pub alive_frame : (limit : Limit) → IsFrame limit (message_octets 4 [])
alive_frame limit = keepalive_is_frame limit (message_octets 4 []) (alive_message, body_of-message_octets 4 [])

pub alive_is_message : IsMessage 4 (message_octets 4 [])
alive_is_message = alive_message

pub alive_heard : (config : Config) (link : Option Link) → CanBeHeard config link (message_octets 4 [])
alive_heard config link = record {
  header = alive_message.header;
  heard = heard.Keepalive;
  hears = record { header = alive_message.header; sound = (alive_frame (received_limit config)).sound; type_field = alive_message.type_field };
  settled = λ e. absurd (let k : heard.Keepalive ≡ heard.Update = e in cc);
}
