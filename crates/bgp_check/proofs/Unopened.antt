-- Before the local system's OPEN is sent: a session is in Idle, Connect or Active, or owes that OPEN.
use Rattle.std.proofs.Common.{◌≡◌, ◌⊎◌, Bool, true, false, ℕ, List, [], ◌∷◌, Option, None, Some, inl, inr, sym, ap, subst}
use Rattle.bgp_prefix.specs.Shown.{ShownRecord, Received, Sent, Changed}
use Rattle.bgp_open.specs.declared.config.Config.{Config}
use Rattle.bgp_open.specs.declared.link.Link.{Link}
use Rattle.bgp_open.specs.OpenFault.{IsWellFormed}
use Rattle.bgp_machine.specs.declared.fsm.Fsm.{Fsm}
use Rattle.bgp_machine.specs.declared.fsm.Fsm.TheVariants as fsms
use Rattle.bgp_machine.specs.declared.state.Head.{Head}
use Rattle.bgp_machine.specs.declared.state.Head.TheVariants.{Idle, Connect, Active, OpenSent, OpenConfirm, Established}
use Rattle.bgp_machine.specs.declared.hearing.Heard.{Heard}
use Rattle.bgp_machine.specs.declared.rows.HiddenRow.{HiddenRow}
use Rattle.bgp_machine.specs.declared.rows.HiddenRow.TheVariants.{Starts, Listens, Stops, Ceases, RetryExpires, DelayExpires, ConnectionOpens, DelayBegins, ConnectionFails, Notes}
use Rattle.bgp_machine.specs.declared.rows.ReceivedRow.{ReceivedRow}
use Rattle.bgp_machine.specs.declared.want.Want.{Want}
use Rattle.bgp_machine.specs.declared.want.Want.TheVariants.{OwnOpen, KeepAlive}
use Rattle.bgp_machine.specs.Going.{going_on, going_on_wants}
use Rattle.bgp_machine.specs.Run.{End, Silent}
use Rattle.bgp_machine.specs.Shows.{Pays}
use Rattle.bgp_machine.specs.State.{SessionState, Turn, enters, falls, fsm_of, link_at}
use Rattle.bgp_machine.specs.Step.{HiddenIn, ReceivedIn, failed}
use Rattle.bgp_machine.specs.Want.{Fulfils}
use Rattle.bgp_machine.proofs.Shapes.{shape_received}
use Rattle.bgp_judge.specs.Member.{Member, IsFree}
use Rattle.bgp_judge.specs.Next.{Next, Opens}
use Rattle.bgp_judge.proofs.Standing.{silent_end}
use Rattle.bgp_parts.specs.Opens.{SendsNoOpen}
use Rattle.bgp_check.proofs.Similar.{PaysToo}

abbrev pub IsEarly : Fsm → Type 0
IsEarly fsms.Idle = Unit {0}
IsEarly fsms.Connect = Unit {0}
IsEarly fsms.Active = Unit {0}
IsEarly fsm = ⊥

abbrev pub OwesOpen : List Want → Type 0
OwesOpen wants = (others : List Want) × (wants ≡ OwnOpen ∷ others)

abbrev pub IsUnopened : Member → Type 0
IsUnopened m = IsEarly (fsm_of m.state.head) ⊎ OwesOpen m.wants

-- ---- what is sent

fulfils_without : (one other : Config) (link : Option Link) (want : Want) (octets : List ℕ) → ¬ IsWellFormed octets → Fulfils one link want octets
    → Fulfils other link want octets
fulfils_without one other link OwnOpen octets none f = absurd (none f.form)
fulfils_without one other link want octets none f = f

pub pays_without : (one other : Config) (shown : ShownRecord) → SendsNoOpen shown → PaysToo one other shown
pays_without one other (Sent t octets) none link (want ∷ wants) change left still p =
    (record { whole = p.0.whole; fulfils = fulfils_without one other link want octets none p.0.fulfils }, p.1, p.2)
pays_without one other shown none link wants change left still p = p

-- an OPEN that is owed is still owed after the record
pub still_owes : (config : Config) (shown : ShownRecord) → SendsNoOpen shown → (link : Option Link) (others : List Want) (change : Option (Fsm × Fsm))
    (left : List Want) (still : Option (Fsm × Fsm)) → Pays config link shown (OwnOpen ∷ others) change left still → left ≡ OwnOpen ∷ others
still_owes config (Received t octets) none link others change left still p = absurd p
still_owes config (Sent t octets) none link others change left still p = absurd (none p.0.fulfils.form)
still_owes config (Changed t old new) none link others None left still p = absurd p
still_owes config (Changed t old new) none link others (Some change) left still p = p.2

owes_on : (config : Config) (shown : ShownRecord) → SendsNoOpen shown → (link : Option Link) (wants : List Want) (change : Option (Fsm × Fsm))
    (left : List Want) (still : Option (Fsm × Fsm)) → OwesOpen wants → Pays config link shown wants change left still → OwesOpen left
owes_on config shown none link wants change left still owes p =
    (owes.0, still_owes config shown none link owes.0 change left still (subst (λ (v : List Want). Pays config link shown v change left still) owes.1 p))

-- ---- rows

at : (turn x : Turn) (wants : List Want) → turn ≡ x → IsEarly (fsm_of x.head) → IsEarly (fsm_of turn.head) ⊎ OwesOpen wants
at turn x wants is early = inl (subst (λ (v : Turn). IsEarly (fsm_of v.head)) (sym is) early)

fails : (delay : Bool) → IsEarly (fsm_of (failed delay).head)
fails true = tt
fails false = tt

hidden_early : (config : Config) (head : Head) (t : ℕ) (row : HiddenRow) (wants : List Want) (turn : Turn) → IsEarly (fsm_of head)
    → HiddenIn head config t row wants turn → IsEarly (fsm_of turn.head) ⊎ OwesOpen wants
hidden_early config Idle t Starts wants turn early h = at turn (enters (Connect false)) wants h.1 tt
hidden_early config Idle t Listens wants turn early h = at turn (enters (Active false)) wants h.1 tt
hidden_early config Idle t Notes wants turn early h = at turn (enters Idle) wants h.1 tt
hidden_early config (Connect d) t Stops wants turn early h = at turn falls wants h.1 tt
hidden_early config (Connect d) t RetryExpires wants turn early h = at turn (enters (Connect false)) wants h.1 tt
hidden_early config (Connect d) t DelayExpires wants turn early h = inr ([], h.1)
hidden_early config (Connect d) t ConnectionOpens wants turn early h = inr ([], h.0)
hidden_early config (Connect d) t DelayBegins wants turn early h = at turn (enters (Connect true)) wants h.2 tt
hidden_early config (Connect d) t ConnectionFails wants turn early h = at turn (failed d) wants h.1 (fails d)
hidden_early config (Connect d) t Notes wants turn early h = at turn (enters (Connect d)) wants h.1 tt
hidden_early config (Active d) t Stops wants turn early h = at turn falls wants h.1 tt
hidden_early config (Active d) t Ceases wants turn early h = at turn falls wants h.2 tt
hidden_early config (Active d) t RetryExpires wants turn early h = at turn (enters (Connect false)) wants h.1 tt
hidden_early config (Active d) t DelayExpires wants turn early h = inr ([], h.1)
hidden_early config (Active d) t ConnectionOpens wants turn early h = inr ([], h.0)
hidden_early config (Active d) t DelayBegins wants turn early h = at turn (enters (Active true)) wants h.2 tt
hidden_early config (Active d) t ConnectionFails wants turn early h = at turn falls wants h.1 tt
hidden_early config (Active d) t Notes wants turn early h = at turn (enters (Active d)) wants h.1 tt
hidden_early config (OpenSent k) t row wants turn early h = absurd early
hidden_early config (OpenConfirm l k) t row wants turn early h = absurd early
hidden_early config (Established l k) t row wants turn early h = absurd early
hidden_early config head t row wants turn early h = absurd h

going_early : (head : Head) (message : Heard) (wants : List Want) (turn : Turn) (t : ℕ) → IsEarly (fsm_of head)
    → wants ≡ going_on_wants head message → turn.head ≡ going_on head t message → IsEarly (fsm_of turn.head) ⊎ OwesOpen wants
going_early Idle message wants turn t early w e = inl (subst (λ (v : Head). IsEarly (fsm_of v)) (sym e) tt)
going_early (Connect d) message wants turn t early w e = inr (KeepAlive ∷ [], w)
going_early (Active d) message wants turn t early w e = inr (KeepAlive ∷ [], w)
going_early head message wants turn t early w e = absurd early

received_early : (head : Head) (t : ℕ) (octets : List ℕ) (message : Heard) (row : ReceivedRow) (wants : List Want) (turn : Turn) → IsEarly (fsm_of head)
    → ReceivedIn head t octets message row wants turn → IsEarly (fsm_of turn.head) ⊎ OwesOpen wants
received_early head t octets message row wants turn early r = elim (shape_received head t octets message row wants turn r) [
  | inl falling ↦ elim falling.ends [
    | inl is ↦ at turn falls wants is tt
    | inr is ↦ at turn (enters Idle) wants is.1 tt
  ]
  | inr going ↦ going_early head message wants turn t early going.wants going.head_after
]

-- ---- records

opens_unopened : (config : Config) (head : Head) (shown : ShownRecord) → SendsNoOpen shown → (left : List Want) (still : Option (Fsm × Fsm)) (turn : Turn)
    → IsEarly (fsm_of head) → Opens config head shown left still turn → IsEarly (fsm_of turn.head) ⊎ OwesOpen left
opens_unopened config head (Received t octets) none left still turn early o = received_early head t octets o.0.0 o.0.1 left turn early o.0.3
opens_unopened config head (Sent t octets) none left still turn early o = elim (hidden_early config head t o.0 o.1 turn early o.3.0) [
  | inl is ↦ inl is
  | inr owes ↦ inr (owes_on config (Sent t octets) none (link_at head) o.1 o.2 left still owes o.4)
]
opens_unopened config head (Changed t old new) none left still turn early o = elim (hidden_early config head t o.0 o.1 turn early o.3.0) [
  | inl is ↦ inl is
  | inr owes ↦ inr (owes_on config (Changed t old new) none (link_at head) o.1 o.2 left still owes o.4)
]

-- what owes nothing has not left Idle, Connect and Active
pub early_if_free : (m : Member) → IsFree m → IsUnopened m → IsEarly (fsm_of m.state.head)
early_if_free m free u = elim u [ inl early ↦ early | inr owes ↦ absurd (let x = owes.1 in let y = free.0 in let k : ⊥ = cc in k) ]

pub early_before : (config : Config) (s before : SessionState) → IsEarly (fsm_of s.head) → Silent config s before → IsEarly (fsm_of before.head)
early_before config s before early silent =
    subst (λ (v : Fsm). IsEarly v) (sym (ap (λ (e : End). e.fsm) (silent_end config s before silent))) early

pub next_unopened : (config : Config) (shown : ShownRecord) → SendsNoOpen shown → (m m2 : Member) → IsUnopened m → Next config shown m m2 → IsUnopened m2
next_unopened config shown none m m2 u next = elim next [
  | inl c ↦ elim u [
    | inl early ↦ inl (subst (λ (s : SessionState). IsEarly (fsm_of s.head)) (sym c.state) early)
    | inr owes ↦ inr (owes_on config shown none m.link m.wants m.change m2.wants m2.change owes c.pays)
  ]
  | inr s ↦ elim (opens_unopened config s.before.head shown none m2.wants m2.change s.turn
      (early_before config m.state s.before (early_if_free m s.free u) s.silent) s.opens) [
        | inl early ↦ inl (subst (λ (x : SessionState). IsEarly (fsm_of x.head)) (sym s.state) early)
        | inr owes ↦ inr owes
      ]
]
