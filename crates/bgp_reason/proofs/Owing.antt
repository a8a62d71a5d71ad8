-- What a member still owes that explains records: what goes on with the session; or one message that ends it, on the link that the records tell.
use Rattle.std.proofs.Common.{◌≡◌, ◌⊎◌, inl, inr, ℕ, List, [], ◌∷◌, ◌++◌, Option, None, Some, refl, sym, ap, subst, ◌∙◌}
use Rattle.bgp_prefix.specs.Shown.{ShownRecord, Received, Sent, Changed}
use Rattle.bgp_wire.specs.declared.header.HeaderFaults.{HeaderFaults}
use Rattle.bgp_open.specs.declared.config.Config.{Config}
use Rattle.bgp_open.specs.declared.link.Link.{Link}
use Rattle.bgp_machine.specs.declared.fsm.Fsm.{Fsm}
use Rattle.bgp_machine.specs.declared.fsm.Fsm.TheVariants as fsms
use Rattle.bgp_machine.specs.declared.state.Head.{Head}
use Rattle.bgp_machine.specs.declared.state.Head.TheVariants.{Idle, Connect, Active, OpenSent, OpenConfirm, Established}
use Rattle.bgp_machine.specs.declared.want.FaultSet.TheVariants as sets
use Rattle.bgp_machine.specs.declared.want.Want.{Want}
use Rattle.bgp_machine.specs.declared.want.Want.TheVariants.{Faults}
use Rattle.bgp_machine.specs.Lists.{Each}
use Rattle.bgp_machine.specs.Shows.{Pays}
use Rattle.bgp_machine.specs.State.{SessionState, Turn, fsm_of, link_at, number_of}
use Rattle.bgp_machine.specs.Step.{hidden_change}
use Rattle.bgp_judge.specs.Member.{Member, link_for}
use Rattle.bgp_judge.specs.Next.{Next, Continues, Starts}
use Rattle.bgp_judge.specs.Told.{IsAsTold, Told, fresh_told, link_told, told, told_by_message, told_from, told_next}
use Rattle.bgp_judge.proofs.Telling.{told_one_more}
use Rattle.bgp_reason.specs.Sending.{link_from, link_in, link_next, sending_link}
use Rattle.bgp_reason.specs.Told.{last_from, last_message}
use Rattle.bgp_reason.proofs.Explaining.{Explains, before_told, each_explained}
use Rattle.bgp_reason.proofs.OwedRows.{IsGoing, IsHeaderOf, changed_so, heard_owes, hidden_change_so, hidden_owes, no_change, none_some}

-- ---- the link, record by record

link_joined : (config : Config) (t : Told) (before : Option Link) (xs : List ShownRecord) (r : ShownRecord)
    → link_from config t before (xs ++ r ∷ []) ≡ link_next config (told_next (told_from t xs) r) (link_from config t before xs)
link_joined config t before [] r = refl
link_joined config t before (x ∷ xs) r = link_joined config (told_next t x) (link_next config (told_next t x) before) xs r

link_more : (config : Config) (records : List ShownRecord) (r : ShownRecord)
    → sending_link config (records ++ r ∷ []) ≡ link_next config (told_next (told records) r) (sending_link config records)
link_more config records r = link_joined config fresh_told None records r

link_twice : (f : Fsm) (before : Option Link) (link : Link) → link_in f before link ≡ link_in f (link_in f before link) link
link_twice fsms.Idle before link = refl
link_twice fsms.Connect before link = refl
link_twice fsms.Active before link = refl
link_twice fsms.OpenSent before link = refl
link_twice fsms.OpenConfirm before link = refl
link_twice fsms.Established before link = refl

link_stays : (config : Config) (t : Told) (before : Option Link) (records : List ShownRecord) → before ≡ link_next config t before
    → link_from config t before records ≡ link_next config (told_from t records) (link_from config t before records)
link_stays config t before [] e = e
link_stays config t before (r ∷ records) e =
    link_stays config (told_next t r) (link_next config (told_next t r) before) records (link_twice (told_next t r).fsm before (link_told config (told_next t r)))

-- the link is that of the told state
pub link_so : (config : Config) (records : List ShownRecord) → sending_link config records ≡ link_next config (told records) (sending_link config records)
link_so config records = link_stays config fresh_told None records refl

-- a message that is received leaves it
by_message : (config : Config) (f : Fsm) (t : Told) (octets : List ℕ) (before : Option Link) → t.fsm ≡ f
    → link_next config (told_by_message f t octets) before ≡ link_next config t before
by_message config fsms.Idle t octets before e = rw e refl
by_message config fsms.Connect t octets before e = rw e refl
by_message config fsms.Active t octets before e = rw e refl
by_message config fsms.OpenSent t octets before e = rw e refl
by_message config fsms.OpenConfirm t octets before e = refl
by_message config fsms.Established t octets before e = refl

pub fsm_by_message : (f : Fsm) (t : Told) (octets : List ℕ) → (told_by_message f t octets).fsm ≡ t.fsm
fsm_by_message fsms.Idle t octets = refl
fsm_by_message fsms.Connect t octets = refl
fsm_by_message fsms.Active t octets = refl
fsm_by_message fsms.OpenSent t octets = refl
fsm_by_message fsms.OpenConfirm t octets = refl
fsm_by_message fsms.Established t octets = refl

-- what is sent or received leaves the link and the state that are told; so does a change to Idle the link
abbrev IsSame : Config → List ShownRecord → ShownRecord → Type 0
IsSame config records r = sending_link config (records ++ r ∷ []) ≡ sending_link config records

same_received : (config : Config) (records : List ShownRecord) (t : ℕ) (octets : List ℕ) → IsSame config records (Received t octets)
same_received config records t octets =
    link_more config records (Received t octets) ∙ by_message config (told records).fsm (told records) octets (sending_link config records) refl
    ∙ sym (link_so config records)

same_sent : (config : Config) (records : List ShownRecord) (t : ℕ) (octets : List ℕ) → IsSame config records (Sent t octets)
same_sent config records t octets = link_more config records (Sent t octets) ∙ sym (link_so config records)

same_ended : (config : Config) (records : List ShownRecord) (t x y : ℕ) → y ≡ number_of fsms.Idle → IsSame config records (Changed t x y)
same_ended config records t x y e =
    subst (λ (n : ℕ). IsSame config records (Changed t x n)) (sym e) (link_more config records (Changed t x 1))

fsm_received : (records : List ShownRecord) (t : ℕ) (octets : List ℕ) → (told (records ++ Received t octets ∷ [])).fsm ≡ (told records).fsm
fsm_received records t octets =
    ap (λ (v : Told). v.fsm) (told_one_more records (Received t octets)) ∙ fsm_by_message (told records).fsm (told records) octets

fsm_sent : (records : List ShownRecord) (t : ℕ) (octets : List ℕ) → (told (records ++ Sent t octets ∷ [])).fsm ≡ (told records).fsm
fsm_sent records t octets = ap (λ (v : Told). v.fsm) (told_one_more records (Sent t octets))

-- ---- the last message

last_joined_received : (last : List ℕ) (xs : List ShownRecord) (t : ℕ) (octets : List ℕ) → last_from last (xs ++ Received t octets ∷ []) ≡ octets
last_joined_received last [] t octets = refl
last_joined_received last (Received u o ∷ xs) t octets = last_joined_received o xs t octets
last_joined_received last (Sent u o ∷ xs) t octets = last_joined_received last xs t octets
last_joined_received last (Changed u x y ∷ xs) t octets = last_joined_received last xs t octets

last_joined_changed : (last : List ℕ) (xs : List ShownRecord) (t x y : ℕ) → last_from last (xs ++ Changed t x y ∷ []) ≡ last_from last xs
last_joined_changed last [] t x y = refl
last_joined_changed last (Received u o ∷ xs) t x y = last_joined_changed o xs t x y
last_joined_changed last (Sent u o ∷ xs) t x y = last_joined_changed last xs t x y
last_joined_changed last (Changed u v w ∷ xs) t x y = last_joined_changed last xs t x y

-- ---- the link of a state that is as told

pub link_here : (config : Config) (T : Told) (before : Option Link) (head : Head) (s : SessionState) → s.head ≡ head → before ≡ link_next config T before
    → IsAsTold config T s → (head ≡ Idle → ⊥) → link_at head ≡ before
link_here config T before Idle s e so held up = absurd (up refl)
link_here config T before (Connect d) s e so held up =
    sym (so ∙ ap (λ (f : Fsm). link_in f before (link_told config T)) (sym held.fsm ∙ ap fsm_of e))
link_here config T before (Active d) s e so held up =
    sym (so ∙ ap (λ (f : Fsm). link_in f before (link_told config T)) (sym held.fsm ∙ ap fsm_of e))
link_here config T before (OpenSent timer) s e so held up =
    sym (so ∙ ap (λ (f : Fsm). link_in f before (link_told config T)) (sym held.fsm ∙ ap fsm_of e))
link_here config T before (OpenConfirm link timer) s e so held up =
    ap (λ (l : Link). Some l) (held.link link (ap link_at e))
    ∙ sym (so ∙ ap (λ (f : Fsm). link_in f before (link_told config T)) (sym held.fsm ∙ ap fsm_of e))
link_here config T before (Established link timer) s e so held up =
    ap (λ (l : Link). Some l) (held.link link (ap link_at e))
    ∙ sym (so ∙ ap (λ (f : Fsm). link_in f before (link_told config T)) (sym held.fsm ∙ ap fsm_of e))

-- ---- what is owed

-- one message that ends the session
pub record Ending (config : Config) (records : List ShownRecord) (m : Member) : Type 0 where
  pub want : Want
  pub wants : m.wants ≡ want ∷ []
  pub link : m.link ≡ sending_link config records
  pub idle : (c : Fsm × Fsm) → m.change ≡ Some c → c.1 ≡ fsms.Idle
  pub header : (f : HeaderFaults) → want ≡ Faults (sets.Header f) → IsHeaderOf config (last_message records) f

pub record IsOwing (config : Config) (records : List ShownRecord) (m : Member) : Type 0 where
  pub owes : Each IsGoing m.wants ⊎ Ending config records m
  pub leaves : (c : Fsm × Fsm) → m.change ≡ Some c → c.0 ≡ (told records).fsm

no_wants : (ws : List Want) → ws ≡ [] → Each IsGoing ws
no_wants ws e = subst (Each IsGoing) (sym e) tt

one_left : (want : Want) (wants left : List Want) → wants ≡ want ∷ [] → left ≡ wants → left ≡ want ∷ []
one_left want wants left e f = f ∙ e

no_first : (want : Want) (wants left : List Want) → want ∷ left ≡ want ∷ [] → left ≡ []
no_first want wants left e = cc

-- ---- the last step shows one record more

pub tail_so : (config : Config) (link : Option Link) (t : ℕ) (o : List ℕ) (wants : List Want) (change : Option (Fsm × Fsm)) (left : List Want) (still : Option (Fsm × Fsm))
    → Pays config link (Sent t o) wants change left still → (want : Want) × (wants ≡ want ∷ left) × (still ≡ change)
tail_so config link t o [] change left still p = absurd p
tail_so config link t o (want ∷ wants) change left still p = (want, ap (λ (v : List Want). want ∷ v) (sym p.1), p.2)

pub paid_change : (config : Config) (link : Option Link) (t x y : ℕ) (wants : List Want) (change : Option (Fsm × Fsm)) (left : List Want) (still : Option (Fsm × Fsm))
    → Pays config link (Changed t x y) wants change left still
    → (c : Fsm × Fsm) × (change ≡ Some c) × (x ≡ number_of c.0) × (y ≡ number_of c.1) × (left ≡ wants) × (still ≡ None)
paid_change config link t x y wants None left still p = absurd p
paid_change config link t x y wants (Some c) left still p = (c, refl, p.0, p.1, p.2, p.3)

going_tail : (want : Want) (left wants : List Want) → wants ≡ want ∷ left → Each IsGoing wants → Each IsGoing left
going_tail want left wants e each = (subst (Each IsGoing) e each).1

last_one : (want other : Want) (left wants : List Want) → wants ≡ want ∷ left → wants ≡ other ∷ [] → left ≡ []
last_one want other left wants e f = let k : want ∷ left ≡ other ∷ [] = sym e ∙ f in cc

link_kept : (want : Want) (wants : List Want) (link : Option Link) → wants ≡ want ∷ [] → link_for wants link ≡ link
link_kept want wants link e = ap (λ (v : List Want). link_for v link) e

none_left : (X : Option (Fsm × Fsm)) (c : Fsm × Fsm) → X ≡ None → X ≡ Some c → ⊥
none_left X c e f = none_some c (sym e ∙ f)

sent_on : (config : Config) (done : List ShownRecord) (t : ℕ) (o : List ℕ) (m n : Member) → IsOwing config done m → Continues config (Sent t o) m n
    → IsOwing config (done ++ Sent t o ∷ []) n
sent_on config done t o m n w c =
    let p = tail_so config m.link t o m.wants m.change n.wants n.change c.pays in
    record {
      owes = inl (elim w.owes [
        | inl each ↦ going_tail p.0 n.wants m.wants p.1 each
        | inr e ↦ no_wants n.wants (last_one p.0 e.want n.wants m.wants p.1 e.wants)
      ]);
      leaves = λ x e. w.leaves x (sym p.2 ∙ e) ∙ sym (fsm_sent done t o);
    }

changed_on : (config : Config) (done : List ShownRecord) (t x y : ℕ) (m n : Member) → IsOwing config done m → Continues config (Changed t x y) m n
    → IsOwing config (done ++ Changed t x y ∷ []) n
changed_on config done t x y m n w c =
    let p = paid_change config m.link t x y m.wants m.change n.wants n.change c.pays in
    record {
      owes = elim w.owes [
        | inl each ↦ inl (subst (Each IsGoing) (sym p.4) each)
        | inr e ↦ inr (record {
          want = e.want;
          wants = p.4 ∙ e.wants;
          link = c.link ∙ link_kept e.want n.wants m.link (p.4 ∙ e.wants) ∙ e.link
              ∙ sym (same_ended config done t x y (p.3 ∙ ap number_of (e.idle p.0 p.1)));
          idle = λ z k. absurd (none_left n.change z p.5 k);
          header = λ f k. subst (λ (v : List ℕ). IsHeaderOf config v f) (sym (last_joined_changed [] done t x y)) (e.header f k);
        })
      ];
      leaves = λ z k. absurd (none_left n.change z p.5 k);
    }

-- ---- a step is opened

heard_on : (config : Config) (done : List ShownRecord) (t : ℕ) (o : List ℕ) (m n : Member) → Explains config done m → Starts config (Received t o) m n
    → IsOwing config (done ++ Received t o ∷ []) n
heard_on config done t o m n ex s =
    let held = before_told config done m s.before ex s.free s.silent in
    let row = s.opens.0 in
    let owed = heard_owes s.before.head config t o row.0 row.1 n.wants s.turn row.2 row.3 in
    let parts : (c : Fsm × Fsm) → n.change ≡ Some c → (c.0 ≡ fsm_of s.before.head) × (c.1 ≡ fsm_of s.turn.head) =
    λ c e. changed_so (fsm_of s.before.head) (fsm_of s.turn.head) c (sym s.opens.1 ∙ e) in
    record {
      owes = elim owed [
        | inl each ↦ inl each
        | inr e ↦ inr (record {
          want = e.0;
          wants = e.1;
          link = s.link ∙ link_kept e.0 n.wants (link_at s.before.head) e.1
              ∙ link_here config (told done) (sending_link config done) s.before.head s.before refl (link_so config done) held e.3
              ∙ sym (same_received config done t o);
          idle = λ c k. (parts c k).1 ∙ ap (λ (v : Turn). fsm_of v.head) e.2;
          header = λ f k. subst (λ (v : List ℕ). IsHeaderOf config v f) (sym (last_joined_received [] done t o)) (e.4 f k);
        })
      ];
      leaves = λ c k. (parts c k).0 ∙ held.fsm ∙ sym (fsm_received done t o);
    }

sent_first : (config : Config) (done : List ShownRecord) (t : ℕ) (o : List ℕ) (m n : Member) → Explains config done m → Starts config (Sent t o) m n
    → IsOwing config (done ++ Sent t o ∷ []) n
sent_first config done t o m n ex s =
    let held = before_told config done m s.before ex s.free s.silent in
    let x = s.opens in
    let owed = hidden_owes s.before.head config t x.0 x.1 s.turn x.3.0 in
    let p = tail_so config (link_at s.before.head) t o x.1 x.2 n.wants n.change x.4 in
    record {
      owes = inl (elim owed [
        | inl none ↦ absurd (let k : p.0 ∷ n.wants ≡ [] = sym p.1 ∙ none in cc)
        | inr e ↦ no_wants n.wants (last_one p.0 e.0 n.wants x.1 p.1 e.1)
      ]);
      leaves = λ c k. (hidden_change_so x.0 (fsm_of s.before.head) (fsm_of s.turn.head) c (sym x.3.1 ∙ sym p.2 ∙ k)).0 ∙ held.fsm ∙ sym (fsm_sent done t o);
    }

changed_first : (config : Config) (done : List ShownRecord) (t x y : ℕ) (m n : Member) → Explains config done m → Starts config (Changed t x y) m n
    → IsOwing config (done ++ Changed t x y ∷ []) n
changed_first config done t x y m n ex s =
    let held = before_told config done m s.before ex s.free s.silent in
    let o = s.opens in
    let owed = hidden_owes s.before.head config t o.0 o.1 s.turn o.3.0 in
    let p = paid_change config (link_at s.before.head) t x y o.1 o.2 n.wants n.change o.4 in
    let shown : hidden_change o.0 (fsm_of s.before.head) (fsm_of s.turn.head) ≡ Some p.0 = sym o.3.1 ∙ p.1 in
    record {
      owes = elim owed [
        | inl none ↦ inl (no_wants n.wants (p.4 ∙ none))
        | inr e ↦ elim e.2 [
          | inl going ↦ inl (subst (Each IsGoing) (sym (p.4 ∙ e.1)) (going, tt))
          | inr f ↦ elim f.2 [
            | inl same ↦ absurd (none_left (hidden_change o.0 (fsm_of s.before.head) (fsm_of s.turn.head)) p.0
                (no_change o.0 (fsm_of s.before.head) (fsm_of s.turn.head) same.0 same.1) shown)
            | inr ends ↦ inr (record {
              want = e.0;
              wants = p.4 ∙ e.1;
              link = s.link ∙ link_kept e.0 n.wants (link_at s.before.head) (p.4 ∙ e.1)
                  ∙ link_here config (told done) (sending_link config done) s.before.head s.before refl (link_so config done) held f.0
                  ∙ sym (same_ended config done t x y (p.3 ∙ ap number_of ((hidden_change_so o.0 (fsm_of s.before.head) (fsm_of s.turn.head) p.0 shown).1 ∙ ap (λ (v : Turn). fsm_of v.head) ends)));
              idle = λ z k. absurd (none_left n.change z p.5 k);
              header = λ h k. absurd (f.1 h k);
            })
          ]
        ]
      ];
      leaves = λ z k. absurd (none_left n.change z p.5 k);
    }

owing_next : (config : Config) (done : List ShownRecord) (r : ShownRecord) (m n : Member) → Explains config done m → IsOwing config done m → Next config r m n
    → IsOwing config (done ++ r ∷ []) n
owing_next config done (Received t o) m n ex w (inl c) = absurd c.pays
owing_next config done (Received t o) m n ex w (inr s) = heard_on config done t o m n ex s
owing_next config done (Sent t o) m n ex w (inl c) = sent_on config done t o m n w c
owing_next config done (Sent t o) m n ex w (inr s) = sent_first config done t o m n ex s
owing_next config done (Changed t x y) m n ex w (inl c) = changed_on config done t x y m n w c
owing_next config done (Changed t x y) m n ex w (inr s) = changed_first config done t x y m n ex s

pub owing : (config : Config) (records : List ShownRecord) (m : Member) → Explains config records m → IsOwing config records m
owing config records m ex =
    each_explained config (IsOwing config) (record { owes = inl tt; leaves = λ c e. absurd (none_some c e) }) (owing_next config) records m ex
