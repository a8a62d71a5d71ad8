-- Steps that show no record lead to the heads of `silent_heads`, and to no other.
use Rattle.std.proofs.Common.{◌≡◌, ℕ, Bool, true, false, ◌⊎◌, inl, inr, List, [], ◌∷◌, ◌++◌, IsTrue, if◌then◌else◌, None, Some, refl, sym, ap, subst, ◌∙◌}
use Rattle.bgp_open.specs.Shown.{ShownRecord}
use Rattle.bgp_rib.specs.Routes.{Routes}
use Rattle.bgp_open.specs.declared.config.Config.{Config}
use Rattle.bgp_machine.specs.declared.fsm.Fsm.{Fsm}
use Rattle.bgp_machine.specs.declared.fsm.Fsm.TheVariants as fsms
use Rattle.bgp_machine.specs.declared.rows.HiddenRow.{HiddenRow}
use Rattle.bgp_machine.specs.declared.rows.HiddenRow.TheVariants.{Starts, Listens, Stops, Ceases, RetryExpires, HoldExpires, SendHoldExpires, KeepaliveExpires, DelayExpires, ConnectionOpens, DelayBegins, ConnectionFails, Announces, Notes}
use Rattle.bgp_machine.specs.declared.state.Head.{Head}
use Rattle.bgp_machine.specs.declared.state.Head.TheVariants.{Idle, Connect, Active, OpenSent, OpenConfirm, Established}
use Rattle.bgp_machine.specs.declared.want.Want.{Want}
use Rattle.bgp_machine.specs.Lists.{Has, Each, NoneTwice}
use Rattle.bgp_machine.specs.Rows.{silent_heads}
use Rattle.bgp_machine.specs.Run.{Taken, IsTaken, AreDelayedLast, AreSteps, is_delayed, records_of, Silent, ListsSilent}
use Rattle.bgp_machine.specs.Shows.{Shows}
use Rattle.bgp_machine.specs.State.{SessionState, Turn, enters, falls, fsm_of, link_at, moved}
use Rattle.bgp_machine.specs.Step.{Event, Hidden, Received, HiddenIn, Step, changed, change_of, hidden_change}

record Leaves (config : Config) (head : Head) (turn : Turn) : Type 0 where
  pub next : Head
  pub ends : turn ≡ enters next
  pub leads : Has (λ h. h ≡ next) (silent_heads config head)
  pub further : (h : Head) → Has (λ x. x ≡ h) (silent_heads config next) → Has (λ x. x ≡ h) (silent_heads config head)

speaks : (w : Want) (ws vs : List Want) → ws ≡ w ∷ vs → ws ≡ [] → ⊥
speaks w ws vs e f = cc

moves : (old : Fsm) (turn x : Turn) (c : Fsm × Fsm) → turn ≡ x → changed old (fsm_of x.head) ≡ Some c → changed old (fsm_of turn.head) ≡ None → ⊥
moves old turn x c e is none = let f : changed old (fsm_of x.head) ≡ None = subst (λ (v : Turn). changed old (fsm_of v.head) ≡ None) e none in cc

notes : (p : Fsm × Fsm) → Some p ≡ None → ⊥
notes p e = cc

in_either : (b : Bool) (x y : Head) (h : Head) → (x ≡ h) ⊎ ((IsTrue b) × (y ≡ h))
    → Has (λ (v : Head). v ≡ h) (if b then x ∷ y ∷ [] else x ∷ [])
in_either true x y h e = elim e [ inl a ↦ inl a | inr a ↦ inr (inl a.1) ]
in_either false x y h e = elim e [ inl a ↦ inl a | inr a ↦ absurd (cc) ]

out_either : (b : Bool) (x y : Head) (h : Head) → Has (λ (v : Head). v ≡ h) (if b then x ∷ y ∷ [] else x ∷ [])
    → (x ≡ h) ⊎ (IsTrue b × (y ≡ h))
out_either true x y h e = elim e [ inl a ↦ inl a | inr a ↦ elim a [ inl k ↦ inr (refl, k) | inr z ↦ absurd z ] ]
out_either false x y h e = elim e [ inl a ↦ inl a | inr z ↦ absurd z ]

pub self_listed : (config : Config) (head : Head) → Has (λ h. h ≡ head) (silent_heads config head)
self_listed config Idle = inl refl
self_listed config (Connect true) = inr (inl refl)
self_listed config (Connect false) = in_either config.parts.delay_open (Connect false) (Connect true) (Connect false) (inl refl)
self_listed config (Active true) = inl refl
self_listed config (Active false) = in_either config.parts.delay_open (Active false) (Active true) (Active false) (inl refl)
self_listed config (OpenSent s) = inl refl
self_listed config (OpenConfirm k s) = inl refl
self_listed config (Established k s) = inl refl

-- from Connect without delay, whatever is reached from Connect with delay is reached where it is allowed
from_delayed : (config : Config) → IsTrue config.parts.delay_open → (h : Head) → Has (λ x. x ≡ h) (silent_heads config (Connect true)) → Has (λ x. x ≡ h) (silent_heads config (Connect false))
from_delayed config may h e = in_either config.parts.delay_open (Connect false) (Connect true) h (elim e [
  | inl a ↦ inl a
  | inr b ↦ elim b [ inl a ↦ inr (may, a) | inr z ↦ absurd z ]
])

from_undelayed : (config : Config) (h : Head) → Has (λ x. x ≡ h) (silent_heads config (Connect false)) → Has (λ x. x ≡ h) (silent_heads config (Connect true))
from_undelayed config h e = elim (out_either config.parts.delay_open (Connect false) (Connect true) h e) [
  | inl a ↦ inl a
  | inr b ↦ inr (inl b.1)
]

from_delayed_active : (config : Config) → IsTrue config.parts.delay_open → (h : Head) → Has (λ x. x ≡ h) (silent_heads config (Active true)) → Has (λ x. x ≡ h) (silent_heads config (Active false))
from_delayed_active config may h e = in_either config.parts.delay_open (Active false) (Active true) h (elim e [ inl a ↦ inr (may, a) | inr z ↦ absurd z ])

-- a row that shows nothing
silent_row : (config : Config) (head : Head) (t : ℕ) (row : HiddenRow) (ws : List Want) (turn : Turn) → HiddenIn head config t row ws turn
    → ws ≡ [] → hidden_change row (fsm_of head) (fsm_of turn.head) ≡ None → Leaves config head turn
silent_row config Idle t Starts ws turn h e f = absurd (moves fsms.Idle turn (enters (Connect false)) (fsms.Idle, fsms.Connect) h.1 refl f)
silent_row config Idle t Listens ws turn h e f = absurd (moves fsms.Idle turn (enters (Active false)) (fsms.Idle, fsms.Active) h.1 refl f)
silent_row config Idle t Notes ws turn h e f = absurd (notes (fsms.Idle, fsm_of turn.head) f)
silent_row config (Connect d) t Stops ws turn h e f = absurd (moves fsms.Connect turn (falls) (fsms.Connect, fsms.Idle) h.1 refl f)
silent_row config (Connect true) t RetryExpires ws turn h e f = record { next = Connect false; ends = h.1; leads = inl refl; further = from_undelayed config }
silent_row config (Connect false) t RetryExpires ws turn h e f = record { next = Connect false; ends = h.1; leads = self_listed config (Connect false); further = λ h k. k }
silent_row config (Connect d) t DelayExpires ws turn h e f = absurd (speaks _ ws _ h.1 e)
silent_row config (Connect d) t ConnectionOpens ws turn h e f = absurd (speaks _ ws _ h.0 e)
silent_row config (Connect true) t DelayBegins ws turn h e f = record { next = Connect true; ends = h.2; leads = inr (inl refl); further = λ h k. k }
silent_row config (Connect false) t DelayBegins ws turn h e f = record { next = Connect true; ends = h.2; leads = in_either config.parts.delay_open (Connect false) (Connect true) (Connect true) (inr (h.0, refl)); further = from_delayed config h.0 }
silent_row config (Connect true) t ConnectionFails ws turn h e f = absurd (moves fsms.Connect turn (enters (Active false)) (fsms.Connect, fsms.Active) h.1 refl f)
silent_row config (Connect false) t ConnectionFails ws turn h e f = absurd (moves fsms.Connect turn falls (fsms.Connect, fsms.Idle) h.1 refl f)
silent_row config (Connect d) t Notes ws turn h e f = absurd (notes (fsms.Connect, fsm_of turn.head) f)
silent_row config (Active d) t Stops ws turn h e f = absurd (moves fsms.Active turn (falls) (fsms.Active, fsms.Idle) h.1 refl f)
silent_row config (Active d) t Ceases ws turn h e f = absurd (speaks _ ws _ h.1 e)
silent_row config (Active d) t RetryExpires ws turn h e f = absurd (moves fsms.Active turn (enters (Connect false)) (fsms.Active, fsms.Connect) h.1 refl f)
silent_row config (Active d) t DelayExpires ws turn h e f = absurd (speaks _ ws _ h.1 e)
silent_row config (Active d) t ConnectionOpens ws turn h e f = absurd (speaks _ ws _ h.0 e)
silent_row config (Active true) t DelayBegins ws turn h e f = record { next = Active true; ends = h.2; leads = inl refl; further = λ h k. k }
silent_row config (Active false) t DelayBegins ws turn h e f = record { next = Active true; ends = h.2; leads = in_either config.parts.delay_open (Active false) (Active true) (Active true) (inr (h.0, refl)); further = from_delayed_active config h.0 }
silent_row config (Active d) t ConnectionFails ws turn h e f = absurd (moves fsms.Active turn (falls) (fsms.Active, fsms.Idle) h.1 refl f)
silent_row config (Active d) t Notes ws turn h e f = absurd (notes (fsms.Active, fsm_of turn.head) f)
silent_row config (OpenSent s) t Ceases ws turn h e f = absurd (speaks _ ws _ h.0 e)
silent_row config (OpenSent s) t HoldExpires ws turn h e f = absurd (speaks _ ws _ h.1 e)
silent_row config (OpenSent s) t ConnectionFails ws turn h e f = absurd (moves fsms.OpenSent turn (enters (Active false)) (fsms.OpenSent, fsms.Active) h.1 refl f)
silent_row config (OpenSent s) t Notes ws turn h e f = absurd (notes (fsms.OpenSent, fsm_of turn.head) f)
silent_row config (OpenConfirm k s) t Ceases ws turn h e f = absurd (speaks _ ws _ h.0 e)
silent_row config (OpenConfirm k s) t HoldExpires ws turn h e f = absurd (speaks _ ws _ h.1 e)
silent_row config (OpenConfirm k s) t KeepaliveExpires ws turn h e f = absurd (speaks _ ws _ h.1 e)
silent_row config (OpenConfirm k s) t ConnectionFails ws turn h e f = absurd (moves fsms.OpenConfirm turn (falls) (fsms.OpenConfirm, fsms.Idle) h.1 refl f)
silent_row config (OpenConfirm k s) t Notes ws turn h e f = absurd (notes (fsms.OpenConfirm, fsm_of turn.head) f)
silent_row config (Established k s) t Ceases ws turn h e f = absurd (speaks _ ws _ h.0 e)
silent_row config (Established k s) t HoldExpires ws turn h e f = absurd (speaks _ ws _ h.1 e)
silent_row config (Established k s) t SendHoldExpires ws turn h e f = absurd (speaks _ ws _ h.1 e)
silent_row config (Established k s) t KeepaliveExpires ws turn h e f = absurd (speaks _ ws _ h.1 e)
silent_row config (Established k s) t ConnectionFails ws turn h e f = absurd (moves fsms.Established turn (falls) (fsms.Established, fsms.Idle) h.1 refl f)
silent_row config (Established k s) t Announces ws turn h e f = absurd (speaks _ ws _ h.0 e)
silent_row config (Established k s) t Notes ws turn h e f = absurd (notes (fsms.Established, fsm_of turn.head) f)
silent_row config head t row ws turn h e f = absurd h

-- a step that shows nothing
silent_event : (config : Config) (s s2 : SessionState) (t : ℕ) (event : Event) (ws : List Want) → Step config s t event ws s2
    → Shows config (link_at s.head) event t ws (change_of event (fsm_of s.head) (fsm_of s2.head)) []
    → (turn : Turn) × (s2 ≡ moved s turn) × Leaves config s.head turn
silent_event config s s2 t (Hidden row) ws step shows =
    let f : hidden_change row (fsm_of s.head) (fsm_of step.0.head) ≡ None =
    subst (λ (v : SessionState). hidden_change row (fsm_of s.head) (fsm_of v.head) ≡ None) step.2 shows.1
    in
    (step.0, step.2, silent_row config s.head t row ws step.0 step.1 shows.0 f)
silent_event config s s2 t (Received octets) ws step shows = absurd shows

both_empty : {X : Type 0} (xs ys : List X) → xs ++ ys ≡ [] → (xs ≡ []) × (ys ≡ [])
both_empty [] ys e = (refl, e)
both_empty (x ∷ xs) ys e = absurd (cc)

-- a run that shows nothing: the routes stay, and the head is among those
pub quiet : (config : Config) (xs : List Taken) (s e : SessionState) → AreSteps config s xs e → records_of xs ≡ []
    → (e.routes ≡ s.routes) × Has (λ h. h ≡ e.head) (silent_heads config s.head)
quiet config [] s e is none =
    subst (λ (v : SessionState). (v.routes ≡ s.routes) × Has (λ h. h ≡ v.head) (silent_heads config s.head)) is (refl, self_listed config s.head)
quiet config (x ∷ xs) s e is none =
    let empty = both_empty x.shown (records_of xs) none in
    let taken : IsTaken config x = is.1 in
    let shows = subst (λ (v : List ShownRecord). Shows config (link_at x.before.head) x.event x.second x.wants (change_of x.event (fsm_of x.before.head) (fsm_of x.after.head)) v)
    empty.0 taken.shows in
    let first = silent_event config x.before x.after x.second x.event x.wants taken.step shows in
    let leaves : Leaves config x.before.head first.0 = first.2 in
    let after : x.after ≡ record { head = leaves.next; routes = x.before.routes } =
    first.1 ∙ ap (λ (v : Turn). moved x.before v) leaves.ends
    in
    let rest = quiet config xs x.after e is.2 empty.1 in
    let head_after : x.after.head ≡ leaves.next = ap (λ (v : SessionState). v.head) after in
    let routes_after : x.after.routes ≡ s.routes = ap (λ (v : SessionState). v.routes) after ∙ ap (λ (v : SessionState). v.routes) is.0 in
    let further = leaves.further e.head (subst (λ (v : Head). Has (λ h. h ≡ e.head) (silent_heads config v)) head_after rest.1) in
    (rest.0 ∙ routes_after, subst (λ (v : SessionState). Has (λ h. h ≡ e.head) (silent_heads config v.head)) is.0 further)

no_step : (config : Config) (s : SessionState) → Silent config s s
no_step config s = record { steps = []; are_steps = refl; shows = refl }

one_step : (config : Config) (row : HiddenRow) (head next : Head) (routes : Routes) → HiddenIn head config 0 row [] (enters next)
    → hidden_change row (fsm_of head) (fsm_of next) ≡ None
    → Silent config (record { head = head; routes = routes }) (record { head = next; routes = routes })
one_step config row head next routes is none =
    let s : SessionState = record { head = head; routes = routes } in
    let s2 : SessionState = record { head = next; routes = routes } in
    let x : Taken = record { before = s; second = 0; event = Hidden row; wants = []; after = s2; shown = [] } in
    record {
      steps = x ∷ [];
      are_steps = (refl, record { step = (enters next, is, refl); shows = (refl, none) }, refl);
      shows = refl;
    }

-- each head that is listed is reached
each_either : (b : Bool) (P : Head → Type 0) (x y : Head) → P x → (IsTrue b → P y) → Each P (if b then x ∷ y ∷ [] else x ∷ [])
each_either true P x y p q = (p, (q refl, tt))
each_either false P x y p q = (p, tt)

each_reached : (config : Config) (head : Head) (routes : Routes)
    → Each (λ h. Silent config (record { head = head; routes = routes }) (record { head = h; routes = routes })) (silent_heads config head)
each_reached config Idle routes = (no_step config _, tt)
each_reached config (Connect true) routes = (one_step config RetryExpires (Connect true) (Connect false) routes (refl, refl) refl, (no_step config _, tt))
each_reached config (Connect false) routes =
    each_either config.parts.delay_open (λ h. Silent config (record { head = Connect false; routes = routes }) (record { head = h; routes = routes })) (Connect false) (Connect true)
    (no_step config _) (λ may. one_step config DelayBegins (Connect false) (Connect true) routes (may, refl, refl) refl)
each_reached config (Active true) routes = (no_step config _, tt)
each_reached config (Active false) routes =
    each_either config.parts.delay_open (λ h. Silent config (record { head = Active false; routes = routes }) (record { head = h; routes = routes })) (Active false) (Active true)
    (no_step config _) (λ may. one_step config DelayBegins (Active false) (Active true) routes (may, refl, refl) refl)
each_reached config (OpenSent s) routes = (no_step config _, tt)
each_reached config (OpenConfirm k s) routes = (no_step config _, tt)
each_reached config (Established k s) routes = (no_step config _, tt)

has_state : (hs : List Head) (s e : SessionState) → e.routes ≡ s.routes → Has (λ h. h ≡ e.head) hs → Has (λ h. record s { head = h } ≡ e) hs
has_state [] s e r h = absurd h
has_state (x ∷ xs) s e r h = elim h [
  | inl a ↦ inl (λ i. record { head = a i; routes = sym r i })
  | inr b ↦ inr (has_state xs s e r b)
]

-- one head, or two of which the second has the delay
either_list : (b : Bool) (P : List Head → Type 0) (x y : Head) → P (x ∷ y ∷ []) → P (x ∷ []) → P (if b then x ∷ y ∷ [] else x ∷ [])
either_list true P x y p q = p
either_list false P x y p q = q

one_once : (x : Head) → NoneTwice (x ∷ [])
one_once x = (λ h. h, tt)

two_once : (x y : Head) → (y ≡ x → ⊥) → NoneTwice (x ∷ y ∷ [])
two_once x y n = (λ h. elim h [ inl e ↦ n e | inr z ↦ absurd z ], one_once y)

heads_once : (config : Config) (head : Head) → NoneTwice (silent_heads config head)
heads_once config Idle = one_once Idle
heads_once config (Connect true) = two_once (Connect false) (Connect true) (λ e. cc)
heads_once config (Connect false) = either_list config.parts.delay_open NoneTwice (Connect false) (Connect true) (two_once (Connect false) (Connect true) (λ e. cc)) (one_once (Connect false))
heads_once config (Active true) = one_once (Active true)
heads_once config (Active false) = either_list config.parts.delay_open NoneTwice (Active false) (Active true) (two_once (Active false) (Active true) (λ e. cc)) (one_once (Active false))
heads_once config (OpenSent s) = one_once (OpenSent s)
heads_once config (OpenConfirm k s) = one_once (OpenConfirm k s)
heads_once config (Established k s) = one_once (Established k s)

one_ordered : (x : Head) → AreDelayedLast (x ∷ [])
one_ordered x = (λ t. tt, tt)

two_ordered : (x y : Head) → is_delayed y ≡ true → AreDelayedLast (x ∷ y ∷ [])
two_ordered x y e = (λ t. (e, tt), one_ordered y)

heads_ordered : (config : Config) (head : Head) → AreDelayedLast (silent_heads config head)
heads_ordered config Idle = one_ordered Idle
heads_ordered config (Connect true) = two_ordered (Connect false) (Connect true) refl
heads_ordered config (Connect false) = either_list config.parts.delay_open AreDelayedLast (Connect false) (Connect true) (two_ordered (Connect false) (Connect true) refl) (one_ordered (Connect false))
heads_ordered config (Active true) = one_ordered (Active true)
heads_ordered config (Active false) = either_list config.parts.delay_open AreDelayedLast (Active false) (Active true) (two_ordered (Active false) (Active true) refl) (one_ordered (Active false))
heads_ordered config (OpenSent s) = one_ordered (OpenSent s)
heads_ordered config (OpenConfirm k s) = one_ordered (OpenConfirm k s)
heads_ordered config (Established k s) = one_ordered (Established k s)

pub lists_silent : (config : Config) (head : Head) (routes : Routes) → ListsSilent config (record { head = head; routes = routes }) (silent_heads config head)
lists_silent config head routes = record {
  each = each_reached config head routes;
  every = λ e run.
      let q = quiet config run.steps (record { head = head; routes = routes }) e run.are_steps run.shows in
      has_state (silent_heads config head) (record { head = head; routes = routes }) e q.0 q.1;
  none_twice = heads_once config head;
  in_order = heads_ordered config head;
}
