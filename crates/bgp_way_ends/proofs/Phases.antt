-- Phases of a session that comes up, and what its own steps make of them.
use Rattle.std.proofs.Common.{◌≡◌, ◌∙◌, ℕ, Bool, true, false, List, [], ◌∷◌, inl, inr, refl, ap, subst}
use Rattle.std.proofs.lemmas.Bool.{cond_both}
use Rattle.bgp_open.specs.declared.config.Config.{Config}
use Rattle.bgp_open.specs.declared.link.Link.{Link}
use Rattle.bgp_machine.specs.declared.fsm.Fsm.TheVariants as fsms
use Rattle.bgp_machine.specs.declared.rows.HiddenRow.{HiddenRow}
use Rattle.bgp_machine.specs.declared.rows.HiddenRow.TheVariants.{ConnectionOpens, DelayBegins, DelayExpires, ConnectionFails, RetryExpires, Stops, Ceases, HoldExpires, SendHoldExpires, KeepaliveExpires, Announces, Notes}
use Rattle.bgp_machine.specs.declared.state.Head.{Head}
use Rattle.bgp_machine.specs.declared.state.Head.TheVariants.{Idle, Connect, Active, OpenSent, OpenConfirm, Established}
use Rattle.bgp_machine.specs.declared.want.Want.{Want}
use Rattle.bgp_machine.specs.Lists.{Each, Has}
use Rattle.bgp_machine.specs.Rows.{silent_heads}
use Rattle.bgp_machine.specs.State.{Kept, Turn, enters, falls, fsm_of, waiting}
use Rattle.bgp_machine.specs.Step.{HiddenIn, failed}

pub data Phase : Type 0 where
  Down : Phase
  -- the peer's OPEN isn't accepted yet
  Before : Phase
  -- it is, and the KEEPALIVE is to come
  Confirmed : Link → Phase
  Up : Link → Phase

abbrev pub phase_of : Head → Phase
phase_of Idle = Down
phase_of (Connect delay) = Before
phase_of (Active delay) = Before
phase_of (OpenSent timer) = Before
phase_of (OpenConfirm link timer) = Confirmed link
phase_of (Established link timer) = Up link

-- ---- silence

of_each : (P : Head → Type 0) (hs : List Head) (h : Head) → Each P hs → Has (λ x. x ≡ h) hs → P h
of_each P [] h each has = absurd has
of_each P (x ∷ hs) h each has = elim has [ inl e ↦ subst P e each.0 | inr k ↦ of_each P hs h each.1 k ]

quiet_phases : (config : Config) (head : Head) → Each (λ h. phase_of h ≡ phase_of head) (silent_heads config head)
quiet_phases config Idle = (refl, tt)
quiet_phases config (Connect true) = (refl, (refl, tt))
quiet_phases config (Connect false) =
    cond_both config.parts.delay_open (Connect false ∷ Connect true ∷ []) (Connect false ∷ []) (λ (hs : List Head). Each (λ h. phase_of h ≡ Before) hs)
    (λ _. (refl, (refl, tt))) (λ _. (refl, tt))
quiet_phases config (Active true) = (refl, tt)
quiet_phases config (Active false) =
    cond_both config.parts.delay_open (Active false ∷ Active true ∷ []) (Active false ∷ []) (λ (hs : List Head). Each (λ h. phase_of h ≡ Before) hs)
    (λ _. (refl, (refl, tt))) (λ _. (refl, tt))
quiet_phases config (OpenSent timer) = (refl, tt)
quiet_phases config (OpenConfirm link timer) = (refl, tt)
quiet_phases config (Established link timer) = (refl, tt)

pub quiet_phase : (config : Config) (head h : Head) → Has (λ x. x ≡ h) (silent_heads config head) → phase_of h ≡ phase_of head
quiet_phase config head h has = of_each (λ x. phase_of x ≡ phase_of head) (silent_heads config head) h (quiet_phases config head) has

-- ---- a state's own steps

-- the state isn't Idle
abbrev pub IsUp : Head → Type 0
IsUp head = fsm_of head ≡ fsms.Idle → ⊥

pub record Stays (head : Head) (turn : Turn) : Type 0 where
  pub phase : phase_of turn.head ≡ phase_of head
  pub routes : turn.routes ≡ Kept

stays : (head next : Head) (turn : Turn) → turn ≡ enters next → phase_of next ≡ phase_of head → Stays head turn
stays head next turn e same = record { phase = ap (λ (t : Turn). phase_of t.head) e ∙ same; routes = ap (λ (t : Turn). t.routes) e }

fallen : (head : Head) (turn : Turn) → turn ≡ falls → IsUp turn.head → Stays head turn
fallen head turn e up = absurd (up (ap (λ (t : Turn). fsm_of t.head) e))

failing : (delay : Bool) (turn : Turn) → turn ≡ failed delay → IsUp turn.head → Stays (Connect delay) turn
failing true turn e up = stays (Connect true) (Active false) turn e refl
failing false turn e up = fallen (Connect false) turn e up

pub hidden_stays : (config : Config) (head : Head) (t : ℕ) (row : HiddenRow) (wants : List Want) (turn : Turn) → IsUp head → IsUp turn.head
    → HiddenIn head config t row wants turn → Stays head turn
hidden_stays config Idle t row wants turn up0 up r = absurd (up0 refl)
hidden_stays config (Connect delay) t Stops wants turn up0 up r = fallen (Connect delay) turn r.1 up
hidden_stays config (Connect delay) t RetryExpires wants turn up0 up r = stays (Connect delay) (Connect false) turn r.1 refl
hidden_stays config (Connect delay) t DelayExpires wants turn up0 up r = stays (Connect delay) (waiting config t) turn r.2 refl
hidden_stays config (Connect delay) t ConnectionOpens wants turn up0 up r = stays (Connect delay) (waiting config t) turn r.1 refl
hidden_stays config (Connect delay) t DelayBegins wants turn up0 up r = stays (Connect delay) (Connect true) turn r.2 refl
hidden_stays config (Connect delay) t ConnectionFails wants turn up0 up r = failing delay turn r.1 up
hidden_stays config (Connect delay) t Notes wants turn up0 up r = stays (Connect delay) (Connect delay) turn r.1 refl
hidden_stays config (Active delay) t Stops wants turn up0 up r = fallen (Active delay) turn r.1 up
hidden_stays config (Active delay) t Ceases wants turn up0 up r = fallen (Active delay) turn r.2 up
hidden_stays config (Active delay) t RetryExpires wants turn up0 up r = stays (Active delay) (Connect false) turn r.1 refl
hidden_stays config (Active delay) t DelayExpires wants turn up0 up r = stays (Active delay) (waiting config t) turn r.2 refl
hidden_stays config (Active delay) t ConnectionOpens wants turn up0 up r = stays (Active delay) (waiting config t) turn r.1 refl
hidden_stays config (Active delay) t DelayBegins wants turn up0 up r = stays (Active delay) (Active true) turn r.2 refl
hidden_stays config (Active delay) t ConnectionFails wants turn up0 up r = fallen (Active delay) turn r.1 up
hidden_stays config (Active delay) t Notes wants turn up0 up r = stays (Active delay) (Active delay) turn r.1 refl
hidden_stays config (OpenSent timer) t Ceases wants turn up0 up r = fallen (OpenSent timer) turn r.1 up
hidden_stays config (OpenSent timer) t HoldExpires wants turn up0 up r = fallen (OpenSent timer) turn r.2 up
hidden_stays config (OpenSent timer) t ConnectionFails wants turn up0 up r = stays (OpenSent timer) (Active false) turn r.1 refl
hidden_stays config (OpenSent timer) t Notes wants turn up0 up r = stays (OpenSent timer) (OpenSent timer) turn r.1 refl
hidden_stays config (OpenConfirm link timer) t Ceases wants turn up0 up r = fallen (OpenConfirm link timer) turn r.1 up
hidden_stays config (OpenConfirm link timer) t HoldExpires wants turn up0 up r = fallen (OpenConfirm link timer) turn r.2 up
hidden_stays config (OpenConfirm link timer) t KeepaliveExpires wants turn up0 up r = stays (OpenConfirm link timer) (OpenConfirm link timer) turn r.2 refl
hidden_stays config (OpenConfirm link timer) t ConnectionFails wants turn up0 up r = fallen (OpenConfirm link timer) turn r.1 up
hidden_stays config (OpenConfirm link timer) t Notes wants turn up0 up r = stays (OpenConfirm link timer) (OpenConfirm link timer) turn r.1 refl
hidden_stays config (Established link timer) t Ceases wants turn up0 up r = fallen (Established link timer) turn r.1 up
hidden_stays config (Established link timer) t HoldExpires wants turn up0 up r = fallen (Established link timer) turn r.2 up
hidden_stays config (Established link timer) t SendHoldExpires wants turn up0 up r = fallen (Established link timer) turn r.2 up
hidden_stays config (Established link timer) t KeepaliveExpires wants turn up0 up r = stays (Established link timer) (Established link timer) turn r.2 refl
hidden_stays config (Established link timer) t ConnectionFails wants turn up0 up r = fallen (Established link timer) turn r.1 up
hidden_stays config (Established link timer) t Announces wants turn up0 up r = stays (Established link timer) (Established link timer) turn r.1 refl
hidden_stays config (Established link timer) t Notes wants turn up0 up r = stays (Established link timer) (Established link timer) turn r.1 refl
hidden_stays config head t row wants turn up0 up r = absurd r
