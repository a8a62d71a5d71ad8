-- What the machine's laws say of each step that a record opens.
use Rattle.std.proofs.Common.{◌≡◌, ◌⊎◌, inl, inr, ℕ, List, [], ◌∷◌, Option, None, Some, refl, sym, ap, subst, ◌∙◌}
use Rattle.bgp_prefix.specs.Shown.{ShownRecord, Received, Sent, Changed, second_of}
use Rattle.bgp_open.specs.declared.config.Config.{Config}
use Rattle.bgp_update.specs.declared.subcodes.Subcodes.{Subcodes}
use Rattle.bgp_update.proofs.Marks.{one_set}
use Rattle.bgp_machine.specs.declared.fsm.Fsm.{Fsm}
use Rattle.bgp_machine.specs.declared.fsm.Fsm.TheVariants as fsms
use Rattle.bgp_machine.specs.declared.state.Head.{Head}
use Rattle.bgp_machine.specs.declared.state.Head.TheVariants.{Idle, Connect, Active, OpenSent, OpenConfirm, Established}
use Rattle.bgp_machine.specs.declared.hearing.Heard.{Heard}
use Rattle.bgp_machine.specs.declared.hearing.Heard.TheVariants as heard
use Rattle.bgp_machine.specs.declared.rows.HiddenRow.{HiddenRow}
use Rattle.bgp_machine.specs.declared.want.FaultSet.{FaultSet}
use Rattle.bgp_machine.specs.declared.want.FaultSet.TheVariants as sets
use Rattle.bgp_machine.specs.declared.want.Want.{Want}
use Rattle.bgp_machine.specs.declared.want.Want.TheVariants as wants
use Rattle.bgp_machine.specs.Going.{Shape, Falling, HiddenShape, ReceivedShape, told, shown_after, undelayed, going_on, error_at, fall_wants}
use Rattle.bgp_machine.specs.Going.{Fall as TheFall, Silently, Ceased as LawCeased, Expired as LawExpired, SendExpired as LawSendExpired, Erred as LawErred, Faulted as LawFaulted}
use Rattle.bgp_compact.specs.declared.falls.Fall.{Fall}
use Rattle.bgp_compact.specs.declared.falls.Fall.TheVariants.{Silent, Ceased, Expired, SendExpired, Erred, Faulted}
use Rattle.bgp_compact.specs.Members.{error_of, sends_of}
use Rattle.bgp_machine.specs.Listed.{IsShown}
use Rattle.bgp_machine.specs.Shows.{Pays}
use Rattle.bgp_machine.specs.State.{Turn, fsm_of, link_at}
use Rattle.bgp_machine.specs.Step.{Hidden, changed}
use Rattle.bgp_machine.proofs.OneHearing.{one_heard}
use Rattle.bgp_judge.specs.Next.{Opens}
use Rattle.bgp_compact.proofs.Rows.{FaultsOf, received_faults, hidden_sends, SendsOne, HasLink, hidden_stays}

-- ---- what has still to be told, and that a step falls or goes on

abbrev pub OpensHidden : Config → Head → ShownRecord → List Want → Option (Fsm × Fsm) → Turn → Type 0
OpensHidden config head r left still turn =
    (row : HiddenRow) × (ws : List Want) × (change : Option (Fsm × Fsm)) × IsShown head config (second_of r) (Hidden row) ws change turn
    × Pays config (link_at head) r ws change left still

pub hidden_shape : HiddenShape → (config : Config) (head : Head) (r : ShownRecord) (left : List Want) (still : Option (Fsm × Fsm)) (turn : Turn)
    → OpensHidden config head r left still turn → Shape config head r left still turn
hidden_shape law config head r left still turn o =
    law config head r o.0 o.1 left still turn o.3.0
    (subst (λ (c : Option (Fsm × Fsm)). Pays config (link_at head) r o.1 c left still) o.3.1 o.4)

pub owed_so : HiddenShape → (config : Config) (head : Head) (r : ShownRecord) (left : List Want) (still : Option (Fsm × Fsm)) (turn : Turn)
    → Opens config head r left still turn → still ≡ changed (shown_after (fsm_of head) (told r)) (fsm_of turn.head)
owed_so law config head (Received t octets) left still turn o = o.1
owed_so law config head (Sent t octets) left still turn o = (hidden_shape law config head (Sent t octets) left still turn o).is_owed
owed_so law config head (Changed t x y) left still turn o = (hidden_shape law config head (Changed t x y) left still turn o).is_owed

hidden_way : HiddenShape → (config : Config) (head : Head) (r : ShownRecord) (left : List Want) (still : Option (Fsm × Fsm)) (turn : Turn)
    → OpensHidden config head r left still turn → Falling head left turn ⊎ (fsm_of turn.head ≡ fsms.Idle → ⊥)
hidden_way law config head r left still turn o = elim (hidden_shape law config head r left still turn o).way [ inl f ↦ inl f | inr g ↦ inr g.is_up ]

pub falls_or_not : HiddenShape → ReceivedShape → (config : Config) (head : Head) (r : ShownRecord) (left : List Want) (still : Option (Fsm × Fsm)) (turn : Turn)
    → Opens config head r left still turn → Falling head left turn ⊎ (fsm_of turn.head ≡ fsms.Idle → ⊥)
falls_or_not hidden received config head (Received t octets) left still turn o =
    elim (received head t octets o.0.0 o.0.1 left turn o.0.3) [ inl f ↦ inl f | inr g ↦ inr g.is_up ]
falls_or_not hidden received config head (Sent t octets) left still turn o = hidden_way hidden config head (Sent t octets) left still turn o
falls_or_not hidden received config head (Changed t x y) left still turn o = hidden_way hidden config head (Changed t x y) left still turn o

-- ---- two steps about a message that send faults send those of one set

faults_one : (head : Head) (octets : List ℕ) (message : Heard) (s t : FaultSet) → FaultsOf head octets message s → FaultsOf head octets message t → s ≡ t
faults_one Idle octets heard.TooShort s t p q = absurd p
faults_one Idle octets (heard.ValidOpen link e) s t p q = p ∙ sym q
faults_one Idle octets (heard.FaultyHeader f) s t p q = p ∙ sym q
faults_one Idle octets (heard.InvalidOpen e) s t p q = p ∙ sym q
faults_one Idle octets heard.BadVersion s t p q = absurd p
faults_one Idle octets heard.Notification s t p q = absurd p
faults_one Idle octets heard.Keepalive s t p q = absurd p
faults_one Idle octets heard.Update s t p q = absurd p
faults_one (Connect d) octets heard.TooShort s t p q = absurd p
faults_one (Connect d) octets (heard.ValidOpen link e) s t p q = p ∙ sym q
faults_one (Connect d) octets (heard.FaultyHeader f) s t p q = p ∙ sym q
faults_one (Connect d) octets (heard.InvalidOpen e) s t p q = p ∙ sym q
faults_one (Connect d) octets heard.BadVersion s t p q = absurd p
faults_one (Connect d) octets heard.Notification s t p q = absurd p
faults_one (Connect d) octets heard.Keepalive s t p q = absurd p
faults_one (Connect d) octets heard.Update s t p q = absurd p
faults_one (Active d) octets heard.TooShort s t p q = absurd p
faults_one (Active d) octets (heard.ValidOpen link e) s t p q = p ∙ sym q
faults_one (Active d) octets (heard.FaultyHeader f) s t p q = p ∙ sym q
faults_one (Active d) octets (heard.InvalidOpen e) s t p q = p ∙ sym q
faults_one (Active d) octets heard.BadVersion s t p q = absurd p
faults_one (Active d) octets heard.Notification s t p q = absurd p
faults_one (Active d) octets heard.Keepalive s t p q = absurd p
faults_one (Active d) octets heard.Update s t p q = absurd p
faults_one (OpenSent timer) octets heard.TooShort s t p q = absurd p
faults_one (OpenSent timer) octets (heard.ValidOpen link e) s t p q = p ∙ sym q
faults_one (OpenSent timer) octets (heard.FaultyHeader f) s t p q = p ∙ sym q
faults_one (OpenSent timer) octets (heard.InvalidOpen e) s t p q = p ∙ sym q
faults_one (OpenSent timer) octets heard.BadVersion s t p q = absurd p
faults_one (OpenSent timer) octets heard.Notification s t p q = absurd p
faults_one (OpenSent timer) octets heard.Keepalive s t p q = absurd p
faults_one (OpenSent timer) octets heard.Update s t p q = absurd p
faults_one (OpenConfirm own timer) octets heard.TooShort s t p q = absurd p
faults_one (OpenConfirm own timer) octets (heard.ValidOpen link e) s t p q = p ∙ sym q
faults_one (OpenConfirm own timer) octets (heard.FaultyHeader f) s t p q = p ∙ sym q
faults_one (OpenConfirm own timer) octets (heard.InvalidOpen e) s t p q = p ∙ sym q
faults_one (OpenConfirm own timer) octets heard.BadVersion s t p q = absurd p
faults_one (OpenConfirm own timer) octets heard.Notification s t p q = absurd p
faults_one (OpenConfirm own timer) octets heard.Keepalive s t p q = absurd p
faults_one (OpenConfirm own timer) octets heard.Update s t p q = absurd p
faults_one (Established own timer) octets heard.TooShort s t p q = absurd p
faults_one (Established own timer) octets (heard.ValidOpen link e) s t p q = p ∙ sym q
faults_one (Established own timer) octets (heard.FaultyHeader f) s t p q = p ∙ sym q
faults_one (Established own timer) octets (heard.InvalidOpen e) s t p q = p ∙ sym q
faults_one (Established own timer) octets heard.BadVersion s t p q = absurd p
faults_one (Established own timer) octets heard.Notification s t p q = absurd p
faults_one (Established own timer) octets heard.Keepalive s t p q = absurd p
faults_one (Established own timer) octets heard.Update s t p q =
    let k : p.0 ≡ q.0 = one_set p.0 q.0 (λ n. (λ x. (q.1.each n).1 ((p.1.each n).0 x), λ x. (p.1.each n).1 ((q.1.each n).0 x))) in
    p.2 ∙ ap (λ (v : Subcodes). sets.Update v) k ∙ sym q.2

faults_undelayed : (head : Head) (octets : List ℕ) (message : Heard) (s : FaultSet) → FaultsOf head octets message s → FaultsOf (undelayed head) octets message s
faults_undelayed Idle octets message s p = p
faults_undelayed (Connect d) octets heard.TooShort s p = p
faults_undelayed (Connect d) octets (heard.ValidOpen link e) s p = p
faults_undelayed (Connect d) octets (heard.FaultyHeader f) s p = p
faults_undelayed (Connect d) octets (heard.InvalidOpen e) s p = p
faults_undelayed (Connect d) octets heard.BadVersion s p = p
faults_undelayed (Connect d) octets heard.Notification s p = p
faults_undelayed (Connect d) octets heard.Keepalive s p = p
faults_undelayed (Connect d) octets heard.Update s p = p
faults_undelayed (Active d) octets heard.TooShort s p = p
faults_undelayed (Active d) octets (heard.ValidOpen link e) s p = p
faults_undelayed (Active d) octets (heard.FaultyHeader f) s p = p
faults_undelayed (Active d) octets (heard.InvalidOpen e) s p = p
faults_undelayed (Active d) octets heard.BadVersion s p = p
faults_undelayed (Active d) octets heard.Notification s p = p
faults_undelayed (Active d) octets heard.Keepalive s p = p
faults_undelayed (Active d) octets heard.Update s p = p
faults_undelayed (OpenSent timer) octets message s p = p
faults_undelayed (OpenConfirm own timer) octets message s p = p
faults_undelayed (Established own timer) octets message s p = p

-- a step that a state takes by itself leaves no fault to send
pub hidden_no_faults : (config : Config) (head : Head) (r : ShownRecord) (ws left : List Want) (c still : Option (Fsm × Fsm)) (s : FaultSet) → SendsOne ws
    → Pays config (link_at head) r ws c left still → left ≡ wants.Faults s ∷ [] → ⊥
hidden_no_faults config head (Received t octets) ws left c still s one pays e = pays
hidden_no_faults config head (Sent t octets) [] left c still s one pays e = pays
hidden_no_faults config head (Sent t octets) (w ∷ ws) left c still s one pays e = elim one [
  | inl z ↦ (let k : ⊥ = cc in k)
  | inr y ↦ (let n : ws ≡ [] = (let q : w ∷ ws ≡ y.0 ∷ [] = y.1 in cc) in let k : wants.Faults s ∷ [] ≡ [] = sym e ∙ pays.1 ∙ n in let z : ⊥ = cc in z)
]
hidden_no_faults config head (Changed t x y) ws left None still s one pays e = pays
hidden_no_faults config head (Changed t x y) ws left (Some p) still s one pays e = elim one [
  | inl z ↦ (let k : wants.Faults s ∷ [] ≡ [] = sym e ∙ pays.2 ∙ z in let q : ⊥ = cc in q)
  | inr y2 ↦ y2.2 s (let k : y2.0 ∷ [] ≡ wants.Faults s ∷ [] = sym y2.1 ∙ sym pays.2 ∙ e in cc)
]

pub one_set_of_faults : (config : Config) (head other : Head) (r : ShownRecord) (left1 left2 : List Want) (still1 still2 : Option (Fsm × Fsm)) (turn1 turn2 : Turn) (s t : FaultSet)
    → undelayed head ≡ undelayed other → Opens config head r left1 still1 turn1 → Opens config other r left2 still2 turn2
    → left1 ≡ wants.Faults s ∷ [] → left2 ≡ wants.Faults t ∷ [] → s ≡ t
one_set_of_faults config head other (Received u octets) left1 left2 still1 still2 turn1 turn2 s t same o p e f =
    let a = faults_undelayed head octets o.0.0 s (received_faults head u octets o.0.0 o.0.1 left1 turn1 s o.0.3 e) in
    let b = faults_undelayed other octets p.0.0 t (received_faults other u octets p.0.0 p.0.1 left2 turn2 t p.0.3 f) in
    let b2 : FaultsOf (undelayed head) octets p.0.0 t = subst (λ (v : Head). FaultsOf v octets p.0.0 t) (sym same) b in
    let b3 : FaultsOf (undelayed head) octets o.0.0 t = subst (λ (v : Heard). FaultsOf (undelayed head) octets v t) (one_heard config octets p.0.0 o.0.0 p.0.2 o.0.2) b2 in
    faults_one (undelayed head) octets o.0.0 s t a b3
one_set_of_faults config head other (Sent u octets) left1 left2 still1 still2 turn1 turn2 s t same o p e f =
    absurd (hidden_no_faults config head (Sent u octets) o.1 left1 o.2 still1 s (hidden_sends head config u o.0 o.1 turn1 o.3.0) o.4 e)
one_set_of_faults config head other (Changed u x y) left1 left2 still1 still2 turn1 turn2 s t same o p e f =
    absurd (hidden_no_faults config head (Changed u x y) o.1 left1 o.2 still1 s (hidden_sends head config u o.0 o.1 turn1 o.3.0) o.4 e)

-- ---- a step that goes on keeps the link, once there is one

going_on_link : (head : Head) (t : ℕ) (message : Heard) → HasLink head → link_at (going_on head t message) ≡ link_at head
going_on_link Idle t message has = absurd has
going_on_link (Connect d) t message has = absurd has
going_on_link (Active d) t message has = absurd has
going_on_link (OpenSent timer) t message has = absurd has
going_on_link (OpenConfirm own timer) t heard.TooShort has = refl
going_on_link (OpenConfirm own timer) t (heard.ValidOpen l e) has = refl
going_on_link (OpenConfirm own timer) t (heard.FaultyHeader f) has = refl
going_on_link (OpenConfirm own timer) t (heard.InvalidOpen e) has = refl
going_on_link (OpenConfirm own timer) t heard.BadVersion has = refl
going_on_link (OpenConfirm own timer) t heard.Notification has = refl
going_on_link (OpenConfirm own timer) t heard.Keepalive has = refl
going_on_link (OpenConfirm own timer) t heard.Update has = refl
going_on_link (Established own timer) t heard.TooShort has = refl
going_on_link (Established own timer) t (heard.ValidOpen l e) has = refl
going_on_link (Established own timer) t (heard.FaultyHeader f) has = refl
going_on_link (Established own timer) t (heard.InvalidOpen e) has = refl
going_on_link (Established own timer) t heard.BadVersion has = refl
going_on_link (Established own timer) t heard.Notification has = refl
going_on_link (Established own timer) t heard.Keepalive has = refl
going_on_link (Established own timer) t heard.Update has = refl

hidden_link : (config : Config) (head : Head) (r : ShownRecord) (left : List Want) (still : Option (Fsm × Fsm)) (turn : Turn) → HasLink head
    → OpensHidden config head r left still turn → (fsm_of turn.head ≡ fsms.Idle → ⊥) → link_at turn.head ≡ link_at head
hidden_link config head r left still turn has o up = elim (hidden_stays head config (second_of r) o.0 o.1 turn has o.3.0) [
  | inl e ↦ absurd (up (ap (λ (v : Turn). fsm_of v.head) e))
  | inr e ↦ ap (λ (v : Turn). link_at v.head) e
]

pub opened_link : ReceivedShape → (config : Config) (head : Head) (r : ShownRecord) (left : List Want) (still : Option (Fsm × Fsm)) (turn : Turn) → HasLink head
    → Opens config head r left still turn → (fsm_of turn.head ≡ fsms.Idle → ⊥) → link_at turn.head ≡ link_at head
opened_link law config head (Received t octets) left still turn has o up = elim (law head t octets o.0.0 o.0.1 left turn o.0.3) [
  | inl f ↦ absurd (elim f.ends [
    | inl e ↦ up (ap (λ (v : Turn). fsm_of v.head) e)
    | inr e ↦ up (ap (λ (v : Turn). fsm_of v.head) e.1)
  ])
  | inr g ↦ ap link_at g.head_after ∙ going_on_link head t o.0.0 has
]
opened_link law config head (Sent t octets) left still turn has o up = hidden_link config head (Sent t octets) left still turn has o up
opened_link law config head (Changed t x y) left still turn has o up = hidden_link config head (Changed t x y) left still turn has o up

-- ---- what a step that falls has still to send

pub errs_so : (head : Head) → error_of (fsm_of head) ≡ error_at head
errs_so Idle = refl
errs_so (Connect d) = refl
errs_so (Active d) = refl
errs_so (OpenSent timer) = refl
errs_so (OpenConfirm own timer) = refl
errs_so (Established own timer) = refl

-- what is left to send by a step that falls is what some fall sends
pub falling_sends : (head : Head) (left : List Want) (turn : Turn) → Falling head left turn → (fall : Fall) × (left ≡ sends_of (fsm_of head) fall)
falling_sends head left turn f = (elim f.fall as (λ (g : TheFall). left ≡ fall_wants head g → (fall : Fall) × (left ≡ sends_of (fsm_of head) fall)) [
  | Silently ↦ λ e. (Silent, e)
  | LawCeased ↦ λ e. (Ceased, e)
  | LawExpired ↦ λ e. (Expired, e)
  | LawSendExpired ↦ λ e. (SendExpired, e)
  | LawErred ↦ λ e. (Erred, e ∙ sym (errs_so head))
  | LawFaulted s ↦ λ e. (Faulted s, e)
]) f.wants
