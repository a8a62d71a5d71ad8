-- After an OPEN that both refuse: both are in Idle, and owe the same, or a fault of one set and of one that it is within.
use Rattle.std.proofs.Common.{◌≡◌, ◌≢◌, ◌⊎◌, ℕ, List, [], ◌∷◌, Option, None, Some, inl, inr, refl, sym, ap, subst, ◌∙◌, arith}
use Rattle.bgp_prefix.specs.Shown.{ShownRecord, Received, Sent, Changed}
use Rattle.bgp_open.specs.declared.config.Config.{Config}
use Rattle.bgp_open.specs.declared.link.Link.{Link}
use Rattle.bgp_open.specs.declared.subcodes.OpenSubcodes.{OpenSubcodes}
use Rattle.bgp_machine.specs.declared.fsm.Fsm.{Fsm}
use Rattle.bgp_machine.specs.declared.fsm.Fsm.TheVariants as fsms
use Rattle.bgp_machine.specs.declared.state.Head.{Head}
use Rattle.bgp_machine.specs.declared.state.Head.TheVariants.{Idle, Connect, Active, OpenSent, OpenConfirm, Established}
use Rattle.bgp_machine.specs.declared.hearing.Heard.{Heard}
use Rattle.bgp_machine.specs.declared.hearing.Heard.TheVariants.{InvalidOpen}
use Rattle.bgp_machine.specs.declared.rows.HiddenRow.{HiddenRow}
use Rattle.bgp_machine.specs.declared.rows.HiddenRow.TheVariants.{Starts, Listens, Notes}
use Rattle.bgp_machine.specs.declared.rows.ReceivedRow.{ReceivedRow}
use Rattle.bgp_machine.specs.declared.rows.ReceivedRow.TheVariants.{Ignores, Drops, NamesFault, ReportsError}
use Rattle.bgp_machine.specs.declared.want.FaultSet.TheVariants as sets
use Rattle.bgp_machine.specs.declared.want.Want.{Want}
use Rattle.bgp_machine.specs.declared.want.Want.TheVariants.{Faults}
use Rattle.bgp_machine.specs.Run.{End, Silent}
use Rattle.bgp_machine.specs.Shows.{Pays}
use Rattle.bgp_machine.specs.State.{SessionState, Turn, enters, falls, fsm_of, link_at, number_of}
use Rattle.bgp_machine.specs.Step.{HiddenIn, ReceivedIn, hidden_change}
use Rattle.bgp_machine.proofs.OneHearing.{one_heard}
use Rattle.bgp_judge.specs.Member.{Member, IsFree, link_for}
use Rattle.bgp_judge.specs.Next.{Continues, Next, Opens}
use Rattle.bgp_judge.proofs.Standing.{silent_end}
use Rattle.bgp_check.specs.Stretch.{LeavesIdle}
use Rattle.bgp_check.proofs.Refused.{AreRefusing, IsWithin}
use Rattle.bgp_check.proofs.Similar.{IsSimilar, PaysToo, hears_any, opens_similar, silent_similar}

-- one fault of the set is owed
abbrev pub owed : OpenSubcodes → List Want
owed e = Faults (sets.Open e) ∷ []

abbrev pub NearWants : OpenSubcodes → OpenSubcodes → List Want → List Want → Type 0
NearWants e1 e2 wants others = (others ≡ wants) ⊎ ((wants ≡ owed e1) × (others ≡ owed e2))

pub record NearMember (e1 e2 : OpenSubcodes) (m n : Member) : Type 0 where
  pub state : n.state ≡ m.state
  pub link : n.link ≡ m.link
  pub wants : NearWants e1 e2 m.wants n.wants
  pub change : n.change ≡ m.change

-- what the record makes of the one, it makes of the other
pub record NearNext (e1 e2 : OpenSubcodes) (other : Config) (shown : ShownRecord) (m2 n : Member) : Type 0 where
  pub member : Member
  pub next : Next other shown n member
  pub near : NearMember e1 e2 m2 member
  pub stays : ¬ LeavesIdle shown → m2.state.head ≡ Idle

pub same_if_free : (e1 e2 : OpenSubcodes) (m n : Member) → NearMember e1 e2 m n → IsFree m → n ≡ m
same_if_free e1 e2 m n near free =
    let wants : n.wants ≡ m.wants = elim near.wants [
      | inl e ↦ e
      | inr p ↦ absurd (let x = p.0 in let y = free.0 in let k : ⊥ = cc in k)
    ] in
    λ i. record { state = near.state i; link = near.link i; wants = wants i; change = near.change i }

link_near : (e1 e2 : OpenSubcodes) (wants others : List Want) (link link2 : Option Link) → NearWants e1 e2 wants others → link2 ≡ link
    → link_for others link2 ≡ link_for wants link
link_near e1 e2 wants others link link2 near e = elim near [
  | inl p ↦ ap (λ (v : List Want). link_for v link2) p ∙ ap (λ (v : Option Link). link_for wants v) e
  | inr p ↦ ap (λ (v : List Want). link_for v link2) p.1 ∙ e ∙ sym (ap (λ (v : List Want). link_for v link) p.0)
]

-- ---- what is owed

faults_pay : (one other : Config) (e1 e2 : OpenSubcodes) → IsWithin e1 e2 → (link : Option Link) (shown : ShownRecord) (change : Option (Fsm × Fsm))
    (left : List Want) (still : Option (Fsm × Fsm)) → Pays one link shown (owed e1) change left still
    → (left2 : List Want) × Pays other link shown (owed e2) change left2 still × NearWants e1 e2 left left2
faults_pay one other e1 e2 within link (Received t octets) change left still p = absurd p
faults_pay one other e1 e2 within link (Sent t octets) change left still p =
    let f = p.0.fulfils in
    ([], (record { whole = p.0.whole; fulfils = (f.0, f.1, f.2, f.3, (f.4.0, within f.1 f.2 f.4.1)) }, refl, p.2), inl (sym p.1))
faults_pay one other e1 e2 within link (Changed t old new) None left still p = absurd p
faults_pay one other e1 e2 within link (Changed t old new) (Some change) left still p = (owed e2, (p.0, p.1, refl, p.3), inr (p.2, refl))

pays_near : (one other : Config) (e1 e2 : OpenSubcodes) → IsWithin e1 e2 → (link : Option Link) (shown : ShownRecord)
    → PaysToo one other shown → (wants others : List Want) (change : Option (Fsm × Fsm)) (left : List Want) (still : Option (Fsm × Fsm)) → NearWants e1 e2 wants others
    → Pays one link shown wants change left still
    → (left2 : List Want) × Pays other link shown others change left2 still × NearWants e1 e2 left left2
pays_near one other e1 e2 within link shown pays wants others change left still near p = elim near [
  | inl e ↦ (
    left,
    subst (λ (v : List Want). Pays other link shown v change left still) (sym e)
        (pays link wants change left still p),
    inl refl,
  )
  | inr e ↦ (let k = faults_pay one other e1 e2 within link shown change left still (subst (λ (v : List Want). Pays one link shown v change left still) e.0 p) in
      (k.0, subst (λ (v : List Want). Pays other link shown v change k.0 still) (sym e.1) k.1, k.2))
]

continues_near : (one other : Config) (e1 e2 : OpenSubcodes) → IsWithin e1 e2 → (shown : ShownRecord) → PaysToo one other shown → (m n m2 : Member)
    → NearMember e1 e2 m n → m.state.head ≡ Idle → Continues one shown m m2 → NearNext e1 e2 other shown m2 n
continues_near one other e1 e2 within shown pays m n m2 near idle c =
    let k = pays_near one other e1 e2 within m.link shown pays m.wants n.wants m.change m2.wants m2.change near.wants c.pays in
    record {
      member = record { state = n.state; link = link_for k.0 n.link; wants = k.0; change = m2.change };
      next = inl (record {
        pays = subst (λ (v : Option Link). Pays other v shown n.wants n.change k.0 m2.change) (sym near.link)
            (subst (λ (v : Option (Fsm × Fsm)). Pays other m.link shown n.wants v k.0 m2.change) (sym near.change) k.1);
        state = refl;
        link = refl;
      });
      near = record {
        state = near.state ∙ sym c.state;
        link = link_near e1 e2 m2.wants k.0 m.link n.link k.2 near.link ∙ sym c.link;
        wants = k.2;
        change = refl;
      };
      stays = λ leaves. ap (λ (s : SessionState). s.head) c.state ∙ idle;
    }

-- ---- what Idle does

pub idle_by : (head : Head) → fsm_of head ≡ fsms.Idle → head ≡ Idle
idle_by Idle e = refl
idle_by head e = absurd (cc)

-- silence leads nowhere
pub still_idle : (config : Config) (s before : SessionState) → s.head ≡ Idle → Silent config s before → before.head ≡ Idle
still_idle config s before idle silent =
    idle_by before.head (ap (λ (e : End). e.fsm) (silent_end config s before silent) ∙ ap fsm_of idle)

pays_none : (config : Config) (link : Option Link) (t : ℕ) (octets : List ℕ) (wants : List Want) (change : Option (Fsm × Fsm)) (left : List Want)
    (still : Option (Fsm × Fsm)) → wants ≡ [] → ¬ Pays config link (Sent t octets) wants change left still
pays_none config link t octets wants change left still e p =
    subst (λ (v : List Want). Pays config link (Sent t octets) v change left still) e p

pub sent_idle : (config : Config) (link : Option Link) (u t : ℕ) (octets : List ℕ) (row : HiddenRow) (wants : List Want) (change : Option (Fsm × Fsm))
    (left : List Want) (still : Option (Fsm × Fsm)) (turn : Turn) → HiddenIn Idle config u row wants turn
    → ¬ Pays config link (Sent t octets) wants change left still
sent_idle config link u t octets Starts wants change left still turn h = pays_none config link t octets wants change left still h.0
sent_idle config link u t octets Listens wants change left still turn h = pays_none config link t octets wants change left still h.0
sent_idle config link u t octets Notes wants change left still turn h = pays_none config link t octets wants change left still h.0
sent_idle config link u t octets row wants change left still turn h = absurd h

-- a change from Idle to a state of another number leaves it
leaves : (config : Config) (link : Option Link) (t old new : ℕ) (wants : List Want) (change : Option (Fsm × Fsm)) (left : List Want)
    (still : Option (Fsm × Fsm)) (to : Fsm) → number_of to ≢ 1 → change ≡ Some (fsms.Idle, to)
    → Pays config link (Changed t old new) wants change left still → LeavesIdle (Changed t old new)
leaves config link t old new wants change left still to differs is p =
    let q = subst (λ (v : Option (Fsm × Fsm)). Pays config link (Changed t old new) wants v left still) is p in
    (q.0, λ e. differs (sym q.1 ∙ e))

changed_idle : (config : Config) (link : Option Link) (u t old new : ℕ) (row : HiddenRow) (wants : List Want) (change : Option (Fsm × Fsm))
    (left : List Want) (still : Option (Fsm × Fsm)) (turn : Turn) → HiddenIn Idle config u row wants turn
    → change ≡ hidden_change row fsms.Idle (fsm_of turn.head) → Pays config link (Changed t old new) wants change left still
    → ¬ LeavesIdle (Changed t old new) → turn.head ≡ Idle
changed_idle config link u t old new Starts wants change left still turn h is p not_so =
    absurd (not_so (leaves config link t old new wants change left still fsms.Connect (λ e. absurd (omega arith))
    (is ∙ ap (λ (v : Turn). hidden_change Starts fsms.Idle (fsm_of v.head)) h.1) p))
changed_idle config link u t old new Listens wants change left still turn h is p not_so =
    absurd (not_so (leaves config link t old new wants change left still fsms.Active (λ e. absurd (omega arith))
    (is ∙ ap (λ (v : Turn). hidden_change Listens fsms.Idle (fsm_of v.head)) h.1) p))
changed_idle config link u t old new Notes wants change left still turn h is p not_so = ap (λ (v : Turn). v.head) h.1
changed_idle config link u t old new row wants change left still turn h is p not_so = absurd h

pub received_idle : (t : ℕ) (octets : List ℕ) (heard : Heard) (row : ReceivedRow) (wants : List Want) (turn : Turn)
    → ReceivedIn Idle t octets heard row wants turn → turn.head ≡ Idle
received_idle t octets heard Ignores wants turn r = ap (λ (v : Turn). v.head) r.1
received_idle t octets heard row wants turn r = absurd r

-- it ignores each message alike
ignores_too : (t : ℕ) (octets : List ℕ) (heard heard2 : Heard) (row : ReceivedRow) (wants : List Want) (turn : Turn)
    → ReceivedIn Idle t octets heard row wants turn → ReceivedIn Idle t octets heard2 row wants turn
ignores_too t octets heard heard2 row wants turn r = r

-- a record that opens a step of Idle
record IdleOpens (other : Config) (head : Head) (shown : ShownRecord) (left : List Want) (still : Option (Fsm × Fsm)) (turn : Turn) : Type 0 where
  pub opens : Opens other head shown left still turn
  pub stays : ¬ LeavesIdle shown → turn.head ≡ Idle

idle_opens : (one other : Config) → IsSimilar one other → (head : Head) → head ≡ Idle → (shown : ShownRecord) → PaysToo one other shown → (left : List Want)
    (still : Option (Fsm × Fsm)) (turn : Turn) → Opens one head shown left still turn → IdleOpens other head shown left still turn
idle_opens one other a head idle (Received t octets) pays left still turn o =
    let k = hears_any one other a octets o.0.0 o.0.2 in
    let r = subst (λ (v : Head). ReceivedIn v t octets o.0.0 o.0.1 left turn) idle o.0.3 in
    record {
      opens = ((k.0, o.0.1, k.1, subst (λ (v : Head). ReceivedIn v t octets k.0 o.0.1 left turn) (sym idle) (ignores_too t octets o.0.0 k.0 o.0.1 left turn r)), o.1);
      stays = λ not_so. received_idle t octets o.0.0 o.0.1 left turn r;
    }
idle_opens one other a head idle (Sent t octets) pays left still turn o =
    absurd (sent_idle one (link_at head) t t octets o.0 o.1 o.2 left still turn (subst (λ (v : Head). HiddenIn v one t o.0 o.1 turn) idle o.3.0) o.4)
idle_opens one other a head idle (Changed t old new) pays left still turn o = record {
  opens = opens_similar one other a head (Changed t old new) (λ h. h) pays left still turn o;
  stays = changed_idle one (link_at head) t t old new o.0 o.1 o.2 left still turn (subst (λ (v : Head). HiddenIn v one t o.0 o.1 turn) idle o.3.0)
      (subst (λ (v : Head). o.2 ≡ hidden_change o.0 (fsm_of v) (fsm_of turn.head)) idle o.3.1) o.4;
}

-- a record, after the OPEN
pub down_next : (one other : Config) → IsSimilar one other → (e1 e2 : OpenSubcodes) → IsWithin e1 e2 → (shown : ShownRecord) → PaysToo one other shown → (m n m2 : Member)
    → NearMember e1 e2 m n → m.state.head ≡ Idle → Next one shown m m2 → NearNext e1 e2 other shown m2 n
down_next one other a e1 e2 within shown pays m n m2 near idle next = elim next [
  | inl c ↦ continues_near one other e1 e2 within shown pays m n m2 near idle c
  | inr s ↦ (let k = idle_opens one other a s.before.head (still_idle one m.state s.before idle s.silent) shown pays m2.wants m2.change s.turn s.opens in
      subst (λ (v : Member). NearNext e1 e2 other shown m2 v) (sym (same_if_free e1 e2 m n near s.free)) (record {
        member = m2;
        next = inr (record {
          free = s.free;
          before = s.before;
          silent = silent_similar one other a m.state s.before s.silent;
          turn = s.turn;
          opens = k.opens;
          state = s.state;
          link = s.link;
        });
        near = record { state = refl; link = refl; wants = inl refl; change = refl };
        stays = λ not_so. ap (λ (v : SessionState). v.head) s.state ∙ k.stays not_so;
      }))
]

-- ---- the OPEN itself

-- what a state does about an OPEN that has to be refused
record RefusedRow (e1 e2 : OpenSubcodes) (head : Head) (t : ℕ) (octets : List ℕ) (row : ReceivedRow) (wants : List Want) (turn : Turn) : Type 0 where
  pub others : List Want
  pub does : ReceivedIn head t octets (InvalidOpen e2) row others turn
  pub near : NearWants e1 e2 wants others
  pub falls : turn.head ≡ Idle

silently : (e1 e2 : OpenSubcodes) (head : Head) (t : ℕ) (octets : List ℕ) (row : ReceivedRow) (wants : List Want) (turn x : Turn) → turn ≡ x → x.head ≡ Idle
    → ReceivedIn head t octets (InvalidOpen e2) row wants turn → RefusedRow e1 e2 head t octets row wants turn
silently e1 e2 head t octets row wants turn x is down r =
    record { others = wants; does = r; near = inl refl; falls = ap (λ (v : Turn). v.head) is ∙ down }

faulted : (e1 e2 : OpenSubcodes) (head : Head) (t : ℕ) (octets : List ℕ) (row : ReceivedRow) (wants : List Want) (turn x : Turn) → wants ≡ owed e1 → turn ≡ x
    → x.head ≡ Idle → ReceivedIn head t octets (InvalidOpen e2) row (owed e2) turn → RefusedRow e1 e2 head t octets row wants turn
faulted e1 e2 head t octets row wants turn x w is down r =
    record { others = owed e2; does = r; near = inr (w, refl); falls = ap (λ (v : Turn). v.head) is ∙ down }

refused_row : (e1 e2 : OpenSubcodes) (head : Head) (t : ℕ) (octets : List ℕ) (row : ReceivedRow) (wants : List Want) (turn : Turn)
    → ReceivedIn head t octets (InvalidOpen e1) row wants turn → RefusedRow e1 e2 head t octets row wants turn
refused_row e1 e2 Idle t octets Ignores wants turn r = silently e1 e2 Idle t octets Ignores wants turn (enters Idle) r.1 refl r
refused_row e1 e2 (Connect d) t octets Drops wants turn r = silently e1 e2 (Connect d) t octets Drops wants turn falls r.1 refl r
refused_row e1 e2 (Connect d) t octets NamesFault wants turn r = faulted e1 e2 (Connect d) t octets NamesFault wants turn falls r.0 r.1 refl (refl, r.1)
refused_row e1 e2 (Active d) t octets Drops wants turn r = silently e1 e2 (Active d) t octets Drops wants turn falls r.1 refl r
refused_row e1 e2 (Active d) t octets NamesFault wants turn r = faulted e1 e2 (Active d) t octets NamesFault wants turn falls r.0 r.1 refl (refl, r.1)
refused_row e1 e2 (OpenSent k) t octets NamesFault wants turn r = faulted e1 e2 (OpenSent k) t octets NamesFault wants turn falls r.0 r.1 refl (refl, r.1)
refused_row e1 e2 (OpenConfirm l k) t octets NamesFault wants turn r = faulted e1 e2 (OpenConfirm l k) t octets NamesFault wants turn falls r.0 r.1 refl (refl, r.1)
refused_row e1 e2 (Established l k) t octets NamesFault wants turn r = faulted e1 e2 (Established l k) t octets NamesFault wants turn falls r.0 r.1 refl (refl, r.1)
refused_row e1 e2 (Established l k) t octets ReportsError wants turn r = silently e1 e2 (Established l k) t octets ReportsError wants turn falls r.1 refl r
refused_row e1 e2 head t octets row wants turn r = absurd r

-- both refuse it
pub refused_next : (one other : Config) → IsSimilar one other → (t : ℕ) (octets : List ℕ) (e1 e2 : OpenSubcodes) → AreRefusing one other octets e1 e2
    → (m m2 : Member) → Next one (Received t octets) m m2 → (n : Member) × Next other (Received t octets) m n × NearMember e1 e2 m2 n × (m2.state.head ≡ Idle)
refused_next one other a t octets e1 e2 are m m2 next = elim next [
  | inl c ↦ absurd c.pays
  | inr s ↦ (
      let o = s.opens in
      let is : o.0.0 ≡ InvalidOpen e1 = one_heard one octets o.0.0 (InvalidOpen e1) o.0.2 are.first in
      let k = refused_row e1 e2 s.before.head t octets o.0.1 m2.wants s.turn (subst (λ (v : Heard). ReceivedIn s.before.head t octets v o.0.1 m2.wants s.turn) is o.0.3) in
      let n : Member = record { state = m2.state; link = link_for k.others (link_at s.before.head); wants = k.others; change = m2.change } in (
        n,
        inr (record {
          free = s.free;
          before = s.before;
          silent = silent_similar one other a m.state s.before s.silent;
          turn = s.turn;
          opens = ((InvalidOpen e2, o.0.1, are.second, k.does), o.1);
          state = s.state;
          link = refl;
        }),
        record {
          state = refl;
          link = link_near e1 e2 m2.wants k.others (link_at s.before.head) (link_at s.before.head) k.near refl ∙ sym s.link;
          wants = k.near;
          change = refl;
        },
        ap (λ (v : SessionState). v.head) s.state ∙ k.falls,
      )
      )
]
