-- Where a session's records tell a state with a link, the OPEN that they tell need not be refused.
use Rattle.std.proofs.Common.{◌≡◌, ◌⊎◌, inl, inr, ℕ, true, false, List, [], ◌∷◌, ◌++◌, Option, None, Some, refl, sym, ap, subst, ◌∙◌}
use Rattle.bgp_prefix.specs.Shown.{ShownRecord, Received, Sent, Changed}
use Rattle.bgp_open.specs.declared.config.Config.{Config}
use Rattle.bgp_open.specs.declared.link.Link.{Link}
use Rattle.bgp_open.specs.declared.subcodes.OpenSubcodes.{OpenSubcodes}
use Rattle.bgp_machine.specs.declared.fsm.Fsm.{Fsm}
use Rattle.bgp_machine.specs.declared.fsm.Fsm.TheVariants as fsms
use Rattle.bgp_machine.specs.declared.hearing.Heard.{Heard}
use Rattle.bgp_machine.specs.declared.hearing.Heard.TheVariants.{TooShort, ValidOpen, FaultyHeader, InvalidOpen, BadVersion, Notification, Keepalive, Update}
use Rattle.bgp_machine.specs.declared.rows.HiddenRow.{HiddenRow}
use Rattle.bgp_machine.specs.declared.rows.HiddenRow.TheVariants.{Starts, Listens, ConnectionOpens, DelayBegins, DelayExpires, ConnectionFails, RetryExpires, Stops, Ceases, HoldExpires, Notes}
use Rattle.bgp_machine.specs.declared.rows.ReceivedRow.{ReceivedRow}
use Rattle.bgp_machine.specs.declared.state.Head.{Head}
use Rattle.bgp_machine.specs.declared.state.Head.TheVariants.{Idle, Connect, Active, OpenSent, OpenConfirm, Established}
use Rattle.bgp_machine.specs.declared.want.Want.{Want}
use Rattle.bgp_machine.specs.Going.{fsm_at, going_on}
use Rattle.bgp_machine.specs.Heard.{Hears}
use Rattle.bgp_machine.specs.Run.{Begins}
use Rattle.bgp_machine.specs.State.{Turn, fsm_of, link_at, number_of}
use Rattle.bgp_machine.specs.Step.{HiddenIn, ReceivedIn}
use Rattle.bgp_machine.proofs.Shapes.{shape_received}
use Rattle.bgp_judge.specs.Member.{Member}
use Rattle.bgp_judge.specs.Next.{Next}
use Rattle.bgp_judge.specs.Told.{Told, told, told_by_change, told_by_message, told_next}
use Rattle.bgp_judge.proofs.Telling.{told_one_more}
use Rattle.bgp_reason.proofs.Explaining.{Explains, before_told, each_explained, explained_from}
use Rattle.bgp_reason.proofs.OwedRows.{changed_so, hidden_change_so, none_some}
use Rattle.bgp_reason.proofs.Owing.{fsm_by_message, paid_change, tail_so}
use Rattle.bgp_explain.specs.Settled.{HasLink, IsGoodOpen}

pub link_or : (f : Fsm) → HasLink f ⊎ (HasLink f → ⊥)
link_or fsms.Idle = inr (λ h. h)
link_or fsms.Connect = inr (λ h. h)
link_or fsms.Active = inr (λ h. h)
link_or fsms.OpenSent = inr (λ h. h)
link_or fsms.OpenConfirm = inl tt
link_or fsms.Established = inl tt

-- ---- rows

abbrev IsValidOpen : Heard → Type 0
IsValidOpen m = (l : Link) × (e : OpenSubcodes) × (m ≡ ValidOpen l e)

-- a state that goes on with a link has one before, or the message is such an OPEN
goes_linked : (head : Head) (t : ℕ) (m : Heard) → HasLink (fsm_of (going_on head t m)) → HasLink (fsm_of head) ⊎ IsValidOpen m
goes_linked (OpenConfirm link timer) t m h = inl tt
goes_linked (Established link timer) t m h = inl tt
goes_linked Idle t TooShort h = absurd h
goes_linked Idle t (ValidOpen l e) h = absurd h
goes_linked Idle t (FaultyHeader f) h = absurd h
goes_linked Idle t (InvalidOpen e) h = absurd h
goes_linked Idle t BadVersion h = absurd h
goes_linked Idle t Notification h = absurd h
goes_linked Idle t Keepalive h = absurd h
goes_linked Idle t Update h = absurd h
goes_linked (Connect delay) t TooShort h = absurd h
goes_linked (Connect delay) t (ValidOpen l e) h = inr (l, e, refl)
goes_linked (Connect delay) t (FaultyHeader f) h = absurd h
goes_linked (Connect delay) t (InvalidOpen e) h = absurd h
goes_linked (Connect delay) t BadVersion h = absurd h
goes_linked (Connect delay) t Notification h = absurd h
goes_linked (Connect delay) t Keepalive h = absurd h
goes_linked (Connect delay) t Update h = absurd h
goes_linked (Active delay) t TooShort h = absurd h
goes_linked (Active delay) t (ValidOpen l e) h = inr (l, e, refl)
goes_linked (Active delay) t (FaultyHeader f) h = absurd h
goes_linked (Active delay) t (InvalidOpen e) h = absurd h
goes_linked (Active delay) t BadVersion h = absurd h
goes_linked (Active delay) t Notification h = absurd h
goes_linked (Active delay) t Keepalive h = absurd h
goes_linked (Active delay) t Update h = absurd h
goes_linked (OpenSent timer) t TooShort h = absurd h
goes_linked (OpenSent timer) t (ValidOpen l e) h = inr (l, e, refl)
goes_linked (OpenSent timer) t (FaultyHeader f) h = absurd h
goes_linked (OpenSent timer) t (InvalidOpen e) h = absurd h
goes_linked (OpenSent timer) t BadVersion h = absurd h
goes_linked (OpenSent timer) t Notification h = absurd h
goes_linked (OpenSent timer) t Keepalive h = absurd h
goes_linked (OpenSent timer) t Update h = absurd h

-- a state that does something by itself has a link before, if it has one after
at_turn : (turn x : Turn) → turn ≡ x → HasLink (fsm_of turn.head) → HasLink (fsm_of x.head)
at_turn turn x e h = subst (λ (y : Turn). HasLink (fsm_of y.head)) e h

hidden_linked : (head : Head) (config : Config) (t : ℕ) (row : HiddenRow) (wants : List Want) (turn : Turn) → HiddenIn head config t row wants turn
    → HasLink (fsm_of turn.head) → HasLink (fsm_of head)
hidden_linked (OpenConfirm link timer) config t row wants turn r h = tt
hidden_linked (Established link timer) config t row wants turn r h = tt
hidden_linked Idle config t Starts wants turn r h = at_turn turn _ r.1 h
hidden_linked Idle config t Listens wants turn r h = at_turn turn _ r.1 h
hidden_linked Idle config t Notes wants turn r h = at_turn turn _ r.1 h
hidden_linked (Connect delay) config t Stops wants turn r h = at_turn turn _ r.1 h
hidden_linked (Connect delay) config t RetryExpires wants turn r h = at_turn turn _ r.1 h
hidden_linked (Connect delay) config t DelayExpires wants turn r h = at_turn turn _ r.2 h
hidden_linked (Connect delay) config t ConnectionOpens wants turn r h = at_turn turn _ r.1 h
hidden_linked (Connect delay) config t DelayBegins wants turn r h = at_turn turn _ r.2 h
hidden_linked (Connect true) config t ConnectionFails wants turn r h = at_turn turn _ r.1 h
hidden_linked (Connect false) config t ConnectionFails wants turn r h = at_turn turn _ r.1 h
hidden_linked (Connect delay) config t Notes wants turn r h = at_turn turn _ r.1 h
hidden_linked (Active delay) config t Stops wants turn r h = at_turn turn _ r.1 h
hidden_linked (Active delay) config t Ceases wants turn r h = at_turn turn _ r.2 h
hidden_linked (Active delay) config t RetryExpires wants turn r h = at_turn turn _ r.1 h
hidden_linked (Active delay) config t DelayExpires wants turn r h = at_turn turn _ r.2 h
hidden_linked (Active delay) config t ConnectionOpens wants turn r h = at_turn turn _ r.1 h
hidden_linked (Active delay) config t DelayBegins wants turn r h = at_turn turn _ r.2 h
hidden_linked (Active delay) config t ConnectionFails wants turn r h = at_turn turn _ r.1 h
hidden_linked (Active delay) config t Notes wants turn r h = at_turn turn _ r.1 h
hidden_linked (OpenSent timer) config t Ceases wants turn r h = at_turn turn _ r.1 h
hidden_linked (OpenSent timer) config t HoldExpires wants turn r h = at_turn turn _ r.2 h
hidden_linked (OpenSent timer) config t ConnectionFails wants turn r h = at_turn turn _ r.1 h
hidden_linked (OpenSent timer) config t Notes wants turn r h = at_turn turn _ r.1 h
hidden_linked head config t row wants turn r h = absurd r

-- and one that has received a message, or the message is such an OPEN
heard_linked : (config : Config) (head : Head) (t : ℕ) (octets : List ℕ) (m : Heard) (row : ReceivedRow) (wants : List Want) (turn : Turn) → Hears config octets m
    → ReceivedIn head t octets m row wants turn → HasLink (fsm_of turn.head) → HasLink (fsm_of head) ⊎ ((HasLink (fsm_of head) → ⊥) × IsGoodOpen config octets)
heard_linked config head t octets m row wants turn hears is h = elim (shape_received head t octets m row wants turn is) [
  | inl falling ↦ elim falling.ends [
    | inl e ↦ absurd (at_turn turn _ e h)
    | inr k ↦ absurd (at_turn turn _ k.1 h)
  ]
  | inr goes ↦ elim (link_or (fsm_of head)) [
    | inl has ↦ inl has
    | inr unlinked ↦ elim (goes_linked head t m (subst (λ (x : Head). HasLink (fsm_of x)) goes.head_after h)) [
      | inl has ↦ inl has
      | inr v ↦ let good : Hears config octets (ValidOpen v.0 v.1) = subst (λ (x : Heard). Hears config octets x) v.2 hears in inr (unlinked, (good.0, good.1))
    ]
  ]
]

-- ---- what a record tells

peer_kept : (f : Fsm) (T : Told) (octets : List ℕ) → HasLink f → (told_by_message f T octets).peer_open ≡ T.peer_open
peer_kept fsms.Idle T octets h = absurd h
peer_kept fsms.Connect T octets h = absurd h
peer_kept fsms.Active T octets h = absurd h
peer_kept fsms.OpenSent T octets h = absurd h
peer_kept fsms.OpenConfirm T octets h = refl
peer_kept fsms.Established T octets h = refl

peer_new : (f : Fsm) (T : Told) (octets : List ℕ) → (HasLink f → ⊥) → (told_by_message f T octets).peer_open ≡ octets
peer_new fsms.Idle T octets unlinked = refl
peer_new fsms.Connect T octets unlinked = refl
peer_new fsms.Active T octets unlinked = refl
peer_new fsms.OpenSent T octets unlinked = refl
peer_new fsms.OpenConfirm T octets unlinked = absurd (unlinked tt)
peer_new fsms.Established T octets unlinked = absurd (unlinked tt)

changed_good : (config : Config) (f : Fsm) (T : Told) → (HasLink f → IsGoodOpen config T.peer_open) → HasLink (told_by_change (fsm_at (number_of f)) T).fsm
    → IsGoodOpen config (told_by_change (fsm_at (number_of f)) T).peer_open
changed_good config fsms.Idle T good h = absurd h
changed_good config fsms.Connect T good h = absurd h
changed_good config fsms.Active T good h = absurd h
changed_good config fsms.OpenSent T good h = absurd h
changed_good config fsms.OpenConfirm T good h = good tt
changed_good config fsms.Established T good h = good tt

-- ---- record by record

-- the OPEN is good where a link is told, or will be by a change that is still owed
record IsOpened (config : Config) (records : List ShownRecord) (m : Member) : Type 0 where
  pub here : HasLink (told records).fsm → IsGoodOpen config (told records).peer_open
  pub owed : (c : Fsm × Fsm) → m.change ≡ Some c → HasLink c.1 → IsGoodOpen config (told records).peer_open

none_left : (x : Option (Fsm × Fsm)) (c : Fsm × Fsm) → x ≡ None → x ≡ Some c → ⊥
none_left x c e f = none_some c (sym e ∙ f)

-- by what the records tell with one more
at_told : (config : Config) (done : List ShownRecord) (r : ShownRecord) (n : Member) (T : Told) → told_next (told done) r ≡ T
    → (HasLink T.fsm → IsGoodOpen config T.peer_open) → ((c : Fsm × Fsm) → n.change ≡ Some c → HasLink c.1 → IsGoodOpen config T.peer_open)
    → IsOpened config (done ++ r ∷ []) n
at_told config done r n T e here owed =
    let same : told (done ++ r ∷ []) ≡ T = told_one_more done r ∙ e in record {
      here = subst (λ (x : Told). HasLink x.fsm → IsGoodOpen config x.peer_open) (sym same) here;
      owed = subst (λ (x : Told). (c : Fsm × Fsm) → n.change ≡ Some c → HasLink c.1 → IsGoodOpen config x.peer_open) (sym same) owed;
    }

opened_next : (config : Config) (done : List ShownRecord) (r : ShownRecord) (m n : Member) → Explains config done m → IsOpened config done m → Next config r m n
    → IsOpened config (done ++ r ∷ []) n
opened_next config done (Received t o) m n ex w (inl c) = absurd c.pays
opened_next config done (Received t o) m n ex w (inr s) =
    let T = told done in
    let U = told_by_message T.fsm T o in
    let held = before_told config done m s.before ex s.free s.silent in
    let row = s.opens.0 in
    let kept = λ (has : HasLink T.fsm). subst (λ (p : List ℕ). IsGoodOpen config p) (sym (peer_kept T.fsm T o has)) (w.here has) in
    at_told config done (Received t o) n U refl
    (λ h. kept (subst HasLink (fsm_by_message T.fsm T o) h))
    (λ c e h. let to = (changed_so (fsm_of s.before.head) (fsm_of s.turn.head) c (sym s.opens.1 ∙ e)).1 in
    elim (heard_linked config s.before.head t o row.0 row.1 n.wants s.turn row.2 row.3 (subst HasLink to h)) [
      | inl has ↦ kept (subst HasLink held.fsm has)
      | inr new ↦ subst (λ (p : List ℕ). IsGoodOpen config p) (sym (peer_new T.fsm T o (λ has. new.0 (subst HasLink (sym held.fsm) has)))) new.1
    ])
opened_next config done (Sent t o) m n ex w (inl c) =
    let p = tail_so config m.link t o m.wants m.change n.wants n.change c.pays in
    at_told config done (Sent t o) n (told done) refl w.here (λ x e h. w.owed x (sym p.2 ∙ e) h)
opened_next config done (Sent t o) m n ex w (inr s) =
    let held = before_told config done m s.before ex s.free s.silent in
    let x = s.opens in
    let p = tail_so config (link_at s.before.head) t o x.1 x.2 n.wants n.change x.4 in
    at_told config done (Sent t o) n (told done) refl w.here
    (λ c k h. let to = (hidden_change_so x.0 (fsm_of s.before.head) (fsm_of s.turn.head) c (sym x.3.1 ∙ sym p.2 ∙ k)).1 in
    w.here (subst HasLink held.fsm (hidden_linked s.before.head config t x.0 x.1 s.turn x.3.0 (subst HasLink to h))))
opened_next config done (Changed t x y) m n ex w (inl c) =
    let p = paid_change config m.link t x y m.wants m.change n.wants n.change c.pays in
    let T = told done in
    at_told config done (Changed t x y) n (told_by_change (fsm_at (number_of p.0.1)) T) (ap (λ (k : ℕ). told_by_change (fsm_at k) T) p.3)
    (changed_good config p.0.1 T (λ has. w.owed p.0 p.1 has)) (λ z k h. absurd (none_left n.change z p.5 k))
opened_next config done (Changed t x y) m n ex w (inr s) =
    let held = before_told config done m s.before ex s.free s.silent in
    let o = s.opens in
    let p = paid_change config (link_at s.before.head) t x y o.1 o.2 n.wants n.change o.4 in
    let to = (hidden_change_so o.0 (fsm_of s.before.head) (fsm_of s.turn.head) p.0 (sym o.3.1 ∙ p.1)).1 in
    let T = told done in
    at_told config done (Changed t x y) n (told_by_change (fsm_at (number_of p.0.1)) T) (ap (λ (k : ℕ). told_by_change (fsm_at k) T) p.3)
    (changed_good config p.0.1 T
    (λ has. w.here (subst HasLink held.fsm (hidden_linked s.before.head config t o.0 o.1 s.turn o.3.0 (subst HasLink to has)))))
    (λ z k h. absurd (none_left n.change z p.5 k))

opened : (config : Config) (records : List ShownRecord) (m : Member) → Explains config records m → IsOpened config records m
opened config records m ex =
    each_explained config (IsOpened config) (record { here = λ h. absurd h; owed = λ c e. absurd (none_some c e) }) (opened_next config) records m ex

pub opened_by : (config : Config) (records : List ShownRecord) → Begins config records → HasLink (told records).fsm → IsGoodOpen config (told records).peer_open
opened_by config records begins h =
    let m = explained_from config records begins in (opened config records m.0 m.1).here h
