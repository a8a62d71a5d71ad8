-- Each step that a record opens falls to Idle or goes the one way: a clause a row and kind of record.
use Rattle.std.proofs.Common.{◌≡◌, ℕ, true, false, ◌⊎◌, inl, inr, List, [], ◌∷◌, Option, refl, sym, ap, subst, ◌∙◌}
use Rattle.bgp_open.specs.Shown.{ShownRecord, Received, Sent, Changed, second_of}
use Rattle.bgp_open.specs.declared.config.Config.{Config}
use Rattle.bgp_machine.specs.declared.fsm.Fsm.{Fsm}
use Rattle.bgp_machine.specs.declared.fsm.Fsm.TheVariants as fsms
use Rattle.bgp_machine.specs.declared.state.Head.{Head}
use Rattle.bgp_machine.specs.declared.state.Head.TheVariants.{Idle, Connect, Active, OpenSent, OpenConfirm, Established}
use Rattle.bgp_machine.specs.declared.hearing.Heard.{Heard}
use Rattle.bgp_machine.specs.declared.hearing.Heard.TheVariants as heard
use Rattle.bgp_machine.specs.declared.rows.HiddenRow.{HiddenRow}
use Rattle.bgp_machine.specs.declared.rows.HiddenRow.TheVariants.{Starts, Listens, ConnectionOpens, DelayBegins, DelayExpires, ConnectionFails, RetryExpires, Stops, Ceases, HoldExpires, SendHoldExpires, KeepaliveExpires, Announces, Notes}
use Rattle.bgp_machine.specs.declared.rows.ReceivedRow.TheVariants.{Ignores, Drops, NamesFault, Accepts, Collides, ReportsError, Overlooks, Establishes, Renews, Applies}
use Rattle.bgp_machine.specs.declared.want.FaultSet.TheVariants as sets
use Rattle.bgp_machine.specs.declared.want.Want.{Want}
use Rattle.bgp_machine.specs.declared.want.Want.TheVariants as wants
use Rattle.bgp_machine.specs.Going.{Shape, Falling, GoingOn, GoOnWith, Fall, Silently, Ceased, Expired, SendExpired, Erred, Faulted, fall_wants, told, shown_after, going, going_wants, undelayed, going_on, going_on_wants, HiddenShape, ReceivedShape}
use Rattle.bgp_machine.specs.State.{Turn, Kept, fsm_of, link_at, enters, falls, waiting, settled, renewed}
use Rattle.bgp_machine.specs.Shows.{Pays}
use Rattle.bgp_machine.specs.Step.{changed, hidden_change}

-- a step that falls
falling : (config : Config) (head : Head) (r : ShownRecord) (f : Fall) (left : List Want) (c : Option (Fsm × Fsm)) → left ≡ fall_wants head f
    → c ≡ changed (shown_after (fsm_of head) (told r)) fsms.Idle → Shape config head r left c falls
falling config head r f left c e g = record { is_owed = g; way = inl (record { ends = inl refl; fall = f; wants = e }) }

-- a step that goes on
goes : (config : Config) (head : Head) (r : ShownRecord) (h2 : Head) (left : List Want) (c : Option (Fsm × Fsm)) → (fsm_of h2 ≡ fsms.Idle → ⊥)
    → undelayed h2 ≡ going config head (second_of r) (told r) → left ≡ going_wants head (told r)
    → c ≡ changed (shown_after (fsm_of head) (told r)) (fsm_of h2) → Shape config head r left c (enters h2)
goes config head r h2 left c u e w g = record { is_owed = g; way = inr (record { head_after = e; wants = w; routes = refl; is_up = u }) }

-- a row read at its own wants and its own end
at_row : (config : Config) (head : Head) (r : ShownRecord) (ws0 w : List Want) (a x : Turn) (row : HiddenRow) (ws : List Want) (c : Option (Fsm × Fsm))
    → ws0 ≡ w → a ≡ x → Pays config (link_at head) r ws0 (hidden_change row (fsm_of head) (fsm_of a.head)) ws c
    → (Pays config (link_at head) r w (hidden_change row (fsm_of head) (fsm_of x.head)) ws c → Shape config head r ws c x) → Shape config head r ws c a
at_row config head r ws0 w a x row ws c p q pays f =
    subst (λ (y : Turn). Shape config head r ws c y) (sym q)
    (f (subst (λ (y : Turn). Pays config (link_at head) r w (hidden_change row (fsm_of head) (fsm_of y.head)) ws c) q
    (subst (λ (v : List Want). Pays config (link_at head) r v (hidden_change row (fsm_of head) (fsm_of a.head)) ws c) p pays)))

-- the state that a change shows
at_change : (config : Config) (head : Head) (u x y b : ℕ) (a : Turn) (ws : List Want) (c : Option (Fsm × Fsm)) → y ≡ b
    → Shape config head (Changed u x b) ws c a → Shape config head (Changed u x y) ws c a
at_change config head u x y b a ws c e s = subst (λ (v : ℕ). Shape config head (Changed u x v) ws c a) (sym e) s

pub shape_hidden : HiddenShape
shape_hidden config head (Received u m) row ws0 ws c a h pays = absurd pays
shape_hidden config Idle (Sent u m) Starts ws0 ws c a h pays =
    at_row config Idle (Sent u m) ws0 [] a (enters (Connect false)) Starts ws c h.0 h.1 pays (λ q. absurd q)
shape_hidden config Idle (Changed u x y) Starts ws0 ws c a h pays =
    at_row config Idle (Changed u x y) ws0 [] a (enters (Connect false)) Starts ws c h.0 h.1 pays (λ q. at_change config Idle u x y 2 (enters (Connect false)) ws c q.1 (goes config Idle (Changed u x 2) (Connect false) ws c (λ z. cc) refl q.2 q.3))
shape_hidden config Idle (Sent u m) Listens ws0 ws c a h pays =
    at_row config Idle (Sent u m) ws0 [] a (enters (Active false)) Listens ws c h.0 h.1 pays (λ q. absurd q)
shape_hidden config Idle (Changed u x y) Listens ws0 ws c a h pays =
    at_row config Idle (Changed u x y) ws0 [] a (enters (Active false)) Listens ws c h.0 h.1 pays (λ q. at_change config Idle u x y 3 (enters (Active false)) ws c q.1 (goes config Idle (Changed u x 3) (Active false) ws c (λ z. cc) refl q.2 q.3))
shape_hidden config Idle (Sent u m) Notes ws0 ws c a h pays =
    at_row config Idle (Sent u m) ws0 [] a (enters Idle) Notes ws c h.0 h.1 pays (λ q. absurd q)
shape_hidden config Idle (Changed u x y) Notes ws0 ws c a h pays =
    at_row config Idle (Changed u x y) ws0 [] a (enters Idle) Notes ws c h.0 h.1 pays (λ q. at_change config Idle u x y 1 (enters Idle) ws c q.1 (record { is_owed = q.3; way = inl (record { ends = inr (refl, refl); fall = Silently; wants = q.2 }) }))
shape_hidden config (Connect d) (Sent u m) ConnectionOpens ws0 ws c a h pays =
    at_row config (Connect d) (Sent u m) ws0 (wants.OwnOpen ∷ []) a (enters (waiting config u)) ConnectionOpens ws c h.0 h.1 pays (λ q. goes config (Connect d) (Sent u m) (waiting config u) ws c (λ z. cc) refl q.1 q.2)
shape_hidden config (Connect d) (Changed u x y) ConnectionOpens ws0 ws c a h pays =
    at_row config (Connect d) (Changed u x y) ws0 (wants.OwnOpen ∷ []) a (enters (waiting config u)) ConnectionOpens ws c h.0 h.1 pays (λ q. at_change config (Connect d) u x y 4 (enters (waiting config u)) ws c q.1 (goes config (Connect d) (Changed u x 4) (waiting config u) ws c (λ z. cc) refl q.2 q.3))
shape_hidden config (Connect d) (Sent u m) DelayBegins ws0 ws c a h pays =
    at_row config (Connect d) (Sent u m) ws0 [] a (enters (Connect true)) DelayBegins ws c h.1 h.2 pays (λ q. absurd q)
shape_hidden config (Connect d) (Changed u x y) DelayBegins ws0 ws c a h pays =
    at_row config (Connect d) (Changed u x y) ws0 [] a (enters (Connect true)) DelayBegins ws c h.1 h.2 pays (λ q. absurd q)
shape_hidden config (Connect d) (Sent u m) DelayExpires ws0 ws c a h pays =
    at_row config (Connect d) (Sent u m) ws0 (wants.OwnOpen ∷ []) a (enters (waiting config u)) DelayExpires ws c h.1 h.2 pays (λ q. goes config (Connect d) (Sent u m) (waiting config u) ws c (λ z. cc) refl q.1 q.2)
shape_hidden config (Connect d) (Changed u x y) DelayExpires ws0 ws c a h pays =
    at_row config (Connect d) (Changed u x y) ws0 (wants.OwnOpen ∷ []) a (enters (waiting config u)) DelayExpires ws c h.1 h.2 pays (λ q. at_change config (Connect d) u x y 4 (enters (waiting config u)) ws c q.1 (goes config (Connect d) (Changed u x 4) (waiting config u) ws c (λ z. cc) refl q.2 q.3))
shape_hidden config (Connect true) (Sent u m) ConnectionFails ws0 ws c a h pays =
    at_row config (Connect true) (Sent u m) ws0 [] a (enters (Active false)) ConnectionFails ws c h.0 h.1 pays (λ q. absurd q)
shape_hidden config (Connect true) (Changed u x y) ConnectionFails ws0 ws c a h pays =
    at_row config (Connect true) (Changed u x y) ws0 [] a (enters (Active false)) ConnectionFails ws c h.0 h.1 pays (λ q. at_change config (Connect true) u x y 3 (enters (Active false)) ws c q.1 (goes config (Connect true) (Changed u x 3) (Active false) ws c (λ z. cc) refl q.2 q.3))
shape_hidden config (Connect false) (Sent u m) ConnectionFails ws0 ws c a h pays =
    at_row config (Connect false) (Sent u m) ws0 [] a (falls) ConnectionFails ws c h.0 h.1 pays (λ q. absurd q)
shape_hidden config (Connect false) (Changed u x y) ConnectionFails ws0 ws c a h pays =
    at_row config (Connect false) (Changed u x y) ws0 [] a (falls) ConnectionFails ws c h.0 h.1 pays (λ q. at_change config (Connect false) u x y 1 falls ws c q.1 (falling config (Connect false) (Changed u x 1) Silently ws c q.2 q.3))
shape_hidden config (Connect d) (Sent u m) RetryExpires ws0 ws c a h pays =
    at_row config (Connect d) (Sent u m) ws0 [] a (enters (Connect false)) RetryExpires ws c h.0 h.1 pays (λ q. absurd q)
shape_hidden config (Connect d) (Changed u x y) RetryExpires ws0 ws c a h pays =
    at_row config (Connect d) (Changed u x y) ws0 [] a (enters (Connect false)) RetryExpires ws c h.0 h.1 pays (λ q. absurd q)
shape_hidden config (Connect d) (Sent u m) Stops ws0 ws c a h pays =
    at_row config (Connect d) (Sent u m) ws0 [] a (falls) Stops ws c h.0 h.1 pays (λ q. absurd q)
shape_hidden config (Connect d) (Changed u x y) Stops ws0 ws c a h pays =
    at_row config (Connect d) (Changed u x y) ws0 [] a (falls) Stops ws c h.0 h.1 pays (λ q. at_change config (Connect d) u x y 1 falls ws c q.1 (falling config (Connect d) (Changed u x 1) Silently ws c q.2 q.3))
shape_hidden config (Connect d) (Sent u m) Notes ws0 ws c a h pays =
    at_row config (Connect d) (Sent u m) ws0 [] a (enters (Connect d)) Notes ws c h.0 h.1 pays (λ q. absurd q)
shape_hidden config (Connect d) (Changed u x y) Notes ws0 ws c a h pays =
    at_row config (Connect d) (Changed u x y) ws0 [] a (enters (Connect d)) Notes ws c h.0 h.1 pays (λ q. at_change config (Connect d) u x y 2 (enters (Connect d)) ws c q.1 (goes config (Connect d) (Changed u x 2) (Connect d) ws c (λ z. cc) refl q.2 q.3))
shape_hidden config (Active d) (Sent u m) ConnectionOpens ws0 ws c a h pays =
    at_row config (Active d) (Sent u m) ws0 (wants.OwnOpen ∷ []) a (enters (waiting config u)) ConnectionOpens ws c h.0 h.1 pays (λ q. goes config (Active d) (Sent u m) (waiting config u) ws c (λ z. cc) refl q.1 q.2)
shape_hidden config (Active d) (Changed u x y) ConnectionOpens ws0 ws c a h pays =
    at_row config (Active d) (Changed u x y) ws0 (wants.OwnOpen ∷ []) a (enters (waiting config u)) ConnectionOpens ws c h.0 h.1 pays (λ q. at_change config (Active d) u x y 4 (enters (waiting config u)) ws c q.1 (goes config (Active d) (Changed u x 4) (waiting config u) ws c (λ z. cc) refl q.2 q.3))
shape_hidden config (Active d) (Sent u m) DelayBegins ws0 ws c a h pays =
    at_row config (Active d) (Sent u m) ws0 [] a (enters (Active true)) DelayBegins ws c h.1 h.2 pays (λ q. absurd q)
shape_hidden config (Active d) (Changed u x y) DelayBegins ws0 ws c a h pays =
    at_row config (Active d) (Changed u x y) ws0 [] a (enters (Active true)) DelayBegins ws c h.1 h.2 pays (λ q. absurd q)
shape_hidden config (Active d) (Sent u m) DelayExpires ws0 ws c a h pays =
    at_row config (Active d) (Sent u m) ws0 (wants.OwnOpen ∷ []) a (enters (waiting config u)) DelayExpires ws c h.1 h.2 pays (λ q. goes config (Active d) (Sent u m) (waiting config u) ws c (λ z. cc) refl q.1 q.2)
shape_hidden config (Active d) (Changed u x y) DelayExpires ws0 ws c a h pays =
    at_row config (Active d) (Changed u x y) ws0 (wants.OwnOpen ∷ []) a (enters (waiting config u)) DelayExpires ws c h.1 h.2 pays (λ q. at_change config (Active d) u x y 4 (enters (waiting config u)) ws c q.1 (goes config (Active d) (Changed u x 4) (waiting config u) ws c (λ z. cc) refl q.2 q.3))
shape_hidden config (Active d) (Sent u m) ConnectionFails ws0 ws c a h pays =
    at_row config (Active d) (Sent u m) ws0 [] a (falls) ConnectionFails ws c h.0 h.1 pays (λ q. absurd q)
shape_hidden config (Active d) (Changed u x y) ConnectionFails ws0 ws c a h pays =
    at_row config (Active d) (Changed u x y) ws0 [] a (falls) ConnectionFails ws c h.0 h.1 pays (λ q. at_change config (Active d) u x y 1 falls ws c q.1 (falling config (Active d) (Changed u x 1) Silently ws c q.2 q.3))
shape_hidden config (Active d) (Sent u m) RetryExpires ws0 ws c a h pays =
    at_row config (Active d) (Sent u m) ws0 [] a (enters (Connect false)) RetryExpires ws c h.0 h.1 pays (λ q. absurd q)
shape_hidden config (Active d) (Changed u x y) RetryExpires ws0 ws c a h pays =
    at_row config (Active d) (Changed u x y) ws0 [] a (enters (Connect false)) RetryExpires ws c h.0 h.1 pays (λ q. at_change config (Active d) u x y 2 (enters (Connect false)) ws c q.1 (goes config (Active d) (Changed u x 2) (Connect false) ws c (λ z. cc) refl q.2 q.3))
shape_hidden config (Active d) (Sent u m) Stops ws0 ws c a h pays =
    at_row config (Active d) (Sent u m) ws0 [] a (falls) Stops ws c h.0 h.1 pays (λ q. absurd q)
shape_hidden config (Active d) (Changed u x y) Stops ws0 ws c a h pays =
    at_row config (Active d) (Changed u x y) ws0 [] a (falls) Stops ws c h.0 h.1 pays (λ q. at_change config (Active d) u x y 1 falls ws c q.1 (falling config (Active d) (Changed u x 1) Silently ws c q.2 q.3))
shape_hidden config (Active d) (Sent u m) Ceases ws0 ws c a h pays =
    at_row config (Active d) (Sent u m) ws0 (wants.Cease ∷ []) a (falls) Ceases ws c h.1 h.2 pays (λ q. falling config (Active d) (Sent u m) Silently ws c q.1 q.2)
shape_hidden config (Active d) (Changed u x y) Ceases ws0 ws c a h pays =
    at_row config (Active d) (Changed u x y) ws0 (wants.Cease ∷ []) a (falls) Ceases ws c h.1 h.2 pays (λ q. at_change config (Active d) u x y 1 falls ws c q.1 (falling config (Active d) (Changed u x 1) Ceased ws c q.2 q.3))
shape_hidden config (Active d) (Sent u m) Notes ws0 ws c a h pays =
    at_row config (Active d) (Sent u m) ws0 [] a (enters (Active d)) Notes ws c h.0 h.1 pays (λ q. absurd q)
shape_hidden config (Active d) (Changed u x y) Notes ws0 ws c a h pays =
    at_row config (Active d) (Changed u x y) ws0 [] a (enters (Active d)) Notes ws c h.0 h.1 pays (λ q. at_change config (Active d) u x y 3 (enters (Active d)) ws c q.1 (goes config (Active d) (Changed u x 3) (Active d) ws c (λ z. cc) refl q.2 q.3))
shape_hidden config (OpenSent s) (Sent u m) ConnectionFails ws0 ws c a h pays =
    at_row config (OpenSent s) (Sent u m) ws0 [] a (enters (Active false)) ConnectionFails ws c h.0 h.1 pays (λ q. absurd q)
shape_hidden config (OpenSent s) (Changed u x y) ConnectionFails ws0 ws c a h pays =
    at_row config (OpenSent s) (Changed u x y) ws0 [] a (enters (Active false)) ConnectionFails ws c h.0 h.1 pays (λ q. at_change config (OpenSent s) u x y 3 (enters (Active false)) ws c q.1 (goes config (OpenSent s) (Changed u x 3) (Active false) ws c (λ z. cc) refl q.2 q.3))
shape_hidden config (OpenSent s) (Sent u m) Ceases ws0 ws c a h pays =
    at_row config (OpenSent s) (Sent u m) ws0 (wants.Cease ∷ []) a (falls) Ceases ws c h.0 h.1 pays (λ q. falling config (OpenSent s) (Sent u m) Silently ws c q.1 q.2)
shape_hidden config (OpenSent s) (Changed u x y) Ceases ws0 ws c a h pays =
    at_row config (OpenSent s) (Changed u x y) ws0 (wants.Cease ∷ []) a (falls) Ceases ws c h.0 h.1 pays (λ q. at_change config (OpenSent s) u x y 1 falls ws c q.1 (falling config (OpenSent s) (Changed u x 1) Ceased ws c q.2 q.3))
shape_hidden config (OpenSent s) (Sent u m) HoldExpires ws0 ws c a h pays =
    at_row config (OpenSent s) (Sent u m) ws0 (wants.HoldExpired ∷ []) a (falls) HoldExpires ws c h.1 h.2 pays (λ q. falling config (OpenSent s) (Sent u m) Silently ws c q.1 q.2)
shape_hidden config (OpenSent s) (Changed u x y) HoldExpires ws0 ws c a h pays =
    at_row config (OpenSent s) (Changed u x y) ws0 (wants.HoldExpired ∷ []) a (falls) HoldExpires ws c h.1 h.2 pays (λ q. at_change config (OpenSent s) u x y 1 falls ws c q.1 (falling config (OpenSent s) (Changed u x 1) Expired ws c q.2 q.3))
shape_hidden config (OpenSent s) (Sent u m) Notes ws0 ws c a h pays =
    at_row config (OpenSent s) (Sent u m) ws0 [] a (enters (OpenSent s)) Notes ws c h.0 h.1 pays (λ q. absurd q)
shape_hidden config (OpenSent s) (Changed u x y) Notes ws0 ws c a h pays =
    at_row config (OpenSent s) (Changed u x y) ws0 [] a (enters (OpenSent s)) Notes ws c h.0 h.1 pays (λ q. at_change config (OpenSent s) u x y 4 (enters (OpenSent s)) ws c q.1 (goes config (OpenSent s) (Changed u x 4) (OpenSent s) ws c (λ z. cc) refl q.2 q.3))
shape_hidden config (OpenConfirm k s) (Sent u m) ConnectionFails ws0 ws c a h pays =
    at_row config (OpenConfirm k s) (Sent u m) ws0 [] a (falls) ConnectionFails ws c h.0 h.1 pays (λ q. absurd q)
shape_hidden config (OpenConfirm k s) (Changed u x y) ConnectionFails ws0 ws c a h pays =
    at_row config (OpenConfirm k s) (Changed u x y) ws0 [] a (falls) ConnectionFails ws c h.0 h.1 pays (λ q. at_change config (OpenConfirm k s) u x y 1 falls ws c q.1 (falling config (OpenConfirm k s) (Changed u x 1) Silently ws c q.2 q.3))
shape_hidden config (OpenConfirm k s) (Sent u m) Ceases ws0 ws c a h pays =
    at_row config (OpenConfirm k s) (Sent u m) ws0 (wants.Cease ∷ []) a (falls) Ceases ws c h.0 h.1 pays (λ q. falling config (OpenConfirm k s) (Sent u m) Silently ws c q.1 q.2)
shape_hidden config (OpenConfirm k s) (Changed u x y) Ceases ws0 ws c a h pays =
    at_row config (OpenConfirm k s) (Changed u x y) ws0 (wants.Cease ∷ []) a (falls) Ceases ws c h.0 h.1 pays (λ q. at_change config (OpenConfirm k s) u x y 1 falls ws c q.1 (falling config (OpenConfirm k s) (Changed u x 1) Ceased ws c q.2 q.3))
shape_hidden config (OpenConfirm k s) (Sent u m) HoldExpires ws0 ws c a h pays =
    at_row config (OpenConfirm k s) (Sent u m) ws0 (wants.HoldExpired ∷ []) a (falls) HoldExpires ws c h.1 h.2 pays (λ q. falling config (OpenConfirm k s) (Sent u m) Silently ws c q.1 q.2)
shape_hidden config (OpenConfirm k s) (Changed u x y) HoldExpires ws0 ws c a h pays =
    at_row config (OpenConfirm k s) (Changed u x y) ws0 (wants.HoldExpired ∷ []) a (falls) HoldExpires ws c h.1 h.2 pays (λ q. at_change config (OpenConfirm k s) u x y 1 falls ws c q.1 (falling config (OpenConfirm k s) (Changed u x 1) Expired ws c q.2 q.3))
shape_hidden config (OpenConfirm k s) (Sent u m) KeepaliveExpires ws0 ws c a h pays =
    at_row config (OpenConfirm k s) (Sent u m) ws0 (wants.KeepAlive ∷ []) a (enters (OpenConfirm k s)) KeepaliveExpires ws c h.1 h.2 pays (λ q. goes config (OpenConfirm k s) (Sent u m) (OpenConfirm k s) ws c (λ z. cc) refl q.1 q.2)
shape_hidden config (OpenConfirm k s) (Changed u x y) KeepaliveExpires ws0 ws c a h pays =
    at_row config (OpenConfirm k s) (Changed u x y) ws0 (wants.KeepAlive ∷ []) a (enters (OpenConfirm k s)) KeepaliveExpires ws c h.1 h.2 pays (λ q. absurd q)
shape_hidden config (OpenConfirm k s) (Sent u m) Notes ws0 ws c a h pays =
    at_row config (OpenConfirm k s) (Sent u m) ws0 [] a (enters (OpenConfirm k s)) Notes ws c h.0 h.1 pays (λ q. absurd q)
shape_hidden config (OpenConfirm k s) (Changed u x y) Notes ws0 ws c a h pays =
    at_row config (OpenConfirm k s) (Changed u x y) ws0 [] a (enters (OpenConfirm k s)) Notes ws c h.0 h.1 pays (λ q. at_change config (OpenConfirm k s) u x y 5 (enters (OpenConfirm k s)) ws c q.1 (goes config (OpenConfirm k s) (Changed u x 5) (OpenConfirm k s) ws c (λ z. cc) refl q.2 q.3))
shape_hidden config (Established k s) (Sent u m) ConnectionFails ws0 ws c a h pays =
    at_row config (Established k s) (Sent u m) ws0 [] a (falls) ConnectionFails ws c h.0 h.1 pays (λ q. absurd q)
shape_hidden config (Established k s) (Changed u x y) ConnectionFails ws0 ws c a h pays =
    at_row config (Established k s) (Changed u x y) ws0 [] a (falls) ConnectionFails ws c h.0 h.1 pays (λ q. at_change config (Established k s) u x y 1 falls ws c q.1 (falling config (Established k s) (Changed u x 1) Silently ws c q.2 q.3))
shape_hidden config (Established k s) (Sent u m) Ceases ws0 ws c a h pays =
    at_row config (Established k s) (Sent u m) ws0 (wants.Cease ∷ []) a (falls) Ceases ws c h.0 h.1 pays (λ q. falling config (Established k s) (Sent u m) Silently ws c q.1 q.2)
shape_hidden config (Established k s) (Changed u x y) Ceases ws0 ws c a h pays =
    at_row config (Established k s) (Changed u x y) ws0 (wants.Cease ∷ []) a (falls) Ceases ws c h.0 h.1 pays (λ q. at_change config (Established k s) u x y 1 falls ws c q.1 (falling config (Established k s) (Changed u x 1) Ceased ws c q.2 q.3))
shape_hidden config (Established k s) (Sent u m) HoldExpires ws0 ws c a h pays =
    at_row config (Established k s) (Sent u m) ws0 (wants.HoldExpired ∷ []) a (falls) HoldExpires ws c h.1 h.2 pays (λ q. falling config (Established k s) (Sent u m) Silently ws c q.1 q.2)
shape_hidden config (Established k s) (Changed u x y) HoldExpires ws0 ws c a h pays =
    at_row config (Established k s) (Changed u x y) ws0 (wants.HoldExpired ∷ []) a (falls) HoldExpires ws c h.1 h.2 pays (λ q. at_change config (Established k s) u x y 1 falls ws c q.1 (falling config (Established k s) (Changed u x 1) Expired ws c q.2 q.3))
shape_hidden config (Established k s) (Sent u m) SendHoldExpires ws0 ws c a h pays =
    at_row config (Established k s) (Sent u m) ws0 (wants.SendHoldExpired ∷ []) a (falls) SendHoldExpires ws c h.1 h.2 pays (λ q. falling config (Established k s) (Sent u m) Silently ws c q.1 q.2)
shape_hidden config (Established k s) (Changed u x y) SendHoldExpires ws0 ws c a h pays =
    at_row config (Established k s) (Changed u x y) ws0 (wants.SendHoldExpired ∷ []) a (falls) SendHoldExpires ws c h.1 h.2 pays (λ q. at_change config (Established k s) u x y 1 falls ws c q.1 (falling config (Established k s) (Changed u x 1) SendExpired ws c q.2 q.3))
shape_hidden config (Established k s) (Sent u m) KeepaliveExpires ws0 ws c a h pays =
    at_row config (Established k s) (Sent u m) ws0 (wants.KeepAlive ∷ []) a (enters (Established k s)) KeepaliveExpires ws c h.1 h.2 pays (λ q. goes config (Established k s) (Sent u m) (Established k s) ws c (λ z. cc) refl q.1 q.2)
shape_hidden config (Established k s) (Changed u x y) KeepaliveExpires ws0 ws c a h pays =
    at_row config (Established k s) (Changed u x y) ws0 (wants.KeepAlive ∷ []) a (enters (Established k s)) KeepaliveExpires ws c h.1 h.2 pays (λ q. absurd q)
shape_hidden config (Established k s) (Sent u m) Announces ws0 ws c a h pays =
    at_row config (Established k s) (Sent u m) ws0 (wants.CleanUpdate ∷ []) a (enters (Established k s)) Announces ws c h.0 h.1 pays (λ q. goes config (Established k s) (Sent u m) (Established k s) ws c (λ z. cc) refl q.1 q.2)
shape_hidden config (Established k s) (Changed u x y) Announces ws0 ws c a h pays =
    at_row config (Established k s) (Changed u x y) ws0 (wants.CleanUpdate ∷ []) a (enters (Established k s)) Announces ws c h.0 h.1 pays (λ q. absurd q)
shape_hidden config (Established k s) (Sent u m) Notes ws0 ws c a h pays =
    at_row config (Established k s) (Sent u m) ws0 [] a (enters (Established k s)) Notes ws c h.0 h.1 pays (λ q. absurd q)
shape_hidden config (Established k s) (Changed u x y) Notes ws0 ws c a h pays =
    at_row config (Established k s) (Changed u x y) ws0 [] a (enters (Established k s)) Notes ws c h.0 h.1 pays (λ q. at_change config (Established k s) u x y 6 (enters (Established k s)) ws c q.1 (goes config (Established k s) (Changed u x 6) (Established k s) ws c (λ z. cc) refl q.2 q.3))
shape_hidden config head (Sent u m) row ws0 ws c a h pays = absurd h
shape_hidden config head (Changed u x y) row ws0 ws c a h pays = absurd h

-- a step about a message that falls
drops : (head : Head) (t : ℕ) (b : List ℕ) (m : Heard) (f : Fall) (ws : List Want) (a : Turn) → ws ≡ fall_wants head f → a ≡ falls
    → Falling head ws a ⊎ GoingOn head t b m ws a
drops head t b m f ws a e q = inl (record { ends = inl q; fall = f; wants = e })

-- one that goes on, and keeps the routes
keeps : (head : Head) (t : ℕ) (b : List ℕ) (m : Heard) (h2 : Head) (ws : List Want) (a : Turn) → (fsm_of h2 ≡ fsms.Idle → ⊥)
    → GoOnWith head b m Kept → h2 ≡ going_on head t m → ws ≡ going_on_wants head m → a ≡ enters h2 → Falling head ws a ⊎ GoingOn head t b m ws a
keeps head t b m h2 ws a u k g w q = inr (record {
  head_after = ap (λ (v : Turn). v.head) q ∙ g;
  wants = w;
  routes = subst (λ (v : Turn). GoOnWith head b m v.routes) (sym q) k;
  is_up = λ z. u (sym (ap (λ (v : Turn). fsm_of v.head) q) ∙ z);
})

pub shape_received : ReceivedShape
shape_received Idle t b m Ignores ws a h = inl (record { ends = inr (refl, h.1); fall = Silently; wants = h.0 })
shape_received (Connect d) t b (heard.FaultyHeader f) Drops ws a h = drops (Connect d) t b (heard.FaultyHeader f) (Silently) ws a h.0 h.1
shape_received (Connect d) t b (heard.FaultyHeader f) NamesFault ws a h = drops (Connect d) t b (heard.FaultyHeader f) (Faulted (sets.Header f)) ws a h.0 h.1
shape_received (Connect d) t b (heard.InvalidOpen e) Drops ws a h = drops (Connect d) t b (heard.InvalidOpen e) (Silently) ws a h.0 h.1
shape_received (Connect d) t b (heard.InvalidOpen e) NamesFault ws a h = drops (Connect d) t b (heard.InvalidOpen e) (Faulted (sets.Open e)) ws a h.0 h.1
shape_received (Connect d) t b (heard.ValidOpen l e) Drops ws a h = drops (Connect d) t b (heard.ValidOpen l e) (Silently) ws a h.0 h.1
shape_received (Connect d) t b (heard.ValidOpen l e) NamesFault ws a h = drops (Connect d) t b (heard.ValidOpen l e) (Faulted (sets.Open e)) ws a h.0 h.1
shape_received (Connect d) t b (heard.ValidOpen l e) Accepts ws a h = keeps (Connect d) t b (heard.ValidOpen l e) (OpenConfirm l (settled l t)) ws a (λ z. cc) refl refl h.1 h.2
shape_received (Connect d) t b heard.Keepalive Drops ws a h = drops (Connect d) t b heard.Keepalive (Silently) ws a h.0 h.1
shape_received (Connect d) t b heard.Update Drops ws a h = drops (Connect d) t b heard.Update (Silently) ws a h.0 h.1
shape_received (Connect d) t b heard.BadVersion Drops ws a h = drops (Connect d) t b heard.BadVersion (Silently) ws a h.0 h.1
shape_received (Connect d) t b heard.Notification Drops ws a h = drops (Connect d) t b heard.Notification (Silently) ws a h.0 h.1
shape_received (Active d) t b (heard.FaultyHeader f) Drops ws a h = drops (Active d) t b (heard.FaultyHeader f) (Silently) ws a h.0 h.1
shape_received (Active d) t b (heard.FaultyHeader f) NamesFault ws a h = drops (Active d) t b (heard.FaultyHeader f) (Faulted (sets.Header f)) ws a h.0 h.1
shape_received (Active d) t b (heard.InvalidOpen e) Drops ws a h = drops (Active d) t b (heard.InvalidOpen e) (Silently) ws a h.0 h.1
shape_received (Active d) t b (heard.InvalidOpen e) NamesFault ws a h = drops (Active d) t b (heard.InvalidOpen e) (Faulted (sets.Open e)) ws a h.0 h.1
shape_received (Active d) t b (heard.ValidOpen l e) Drops ws a h = drops (Active d) t b (heard.ValidOpen l e) (Silently) ws a h.0 h.1
shape_received (Active d) t b (heard.ValidOpen l e) NamesFault ws a h = drops (Active d) t b (heard.ValidOpen l e) (Faulted (sets.Open e)) ws a h.0 h.1
shape_received (Active d) t b (heard.ValidOpen l e) Accepts ws a h = keeps (Active d) t b (heard.ValidOpen l e) (OpenConfirm l (settled l t)) ws a (λ z. cc) refl refl h.1 h.2
shape_received (Active d) t b heard.Keepalive Drops ws a h = drops (Active d) t b heard.Keepalive (Silently) ws a h.0 h.1
shape_received (Active d) t b heard.Update Drops ws a h = drops (Active d) t b heard.Update (Silently) ws a h.0 h.1
shape_received (Active d) t b heard.BadVersion Drops ws a h = drops (Active d) t b heard.BadVersion (Silently) ws a h.0 h.1
shape_received (Active d) t b heard.Notification Drops ws a h = drops (Active d) t b heard.Notification (Silently) ws a h.0 h.1
shape_received (OpenSent s) t b (heard.FaultyHeader f) NamesFault ws a h = drops (OpenSent s) t b (heard.FaultyHeader f) (Faulted (sets.Header f)) ws a h.0 h.1
shape_received (OpenSent s) t b (heard.InvalidOpen e) NamesFault ws a h = drops (OpenSent s) t b (heard.InvalidOpen e) (Faulted (sets.Open e)) ws a h.0 h.1
shape_received (OpenSent s) t b (heard.ValidOpen l e) Accepts ws a h = keeps (OpenSent s) t b (heard.ValidOpen l e) (OpenConfirm l (settled l t)) ws a (λ z. cc) refl refl h.0 h.1
shape_received (OpenSent s) t b (heard.ValidOpen l e) Collides ws a h = drops (OpenSent s) t b (heard.ValidOpen l e) (Ceased) ws a h.0 h.1
shape_received (OpenSent s) t b (heard.ValidOpen l e) NamesFault ws a h = drops (OpenSent s) t b (heard.ValidOpen l e) (Faulted (sets.Open e)) ws a h.0 h.1
shape_received (OpenSent s) t b heard.Keepalive ReportsError ws a h = drops (OpenSent s) t b heard.Keepalive (Erred) ws a h.0 h.1
shape_received (OpenSent s) t b heard.Update ReportsError ws a h = drops (OpenSent s) t b heard.Update (Erred) ws a h.0 h.1
shape_received (OpenSent s) t b heard.BadVersion Drops ws a h = drops (OpenSent s) t b heard.BadVersion (Silently) ws a h.0 h.1
shape_received (OpenSent s) t b heard.Notification ReportsError ws a h = drops (OpenSent s) t b heard.Notification (Erred) ws a h.0 h.1
shape_received (OpenSent s) t b heard.Notification Drops ws a h = drops (OpenSent s) t b heard.Notification (Silently) ws a h.0 h.1
shape_received (OpenConfirm k s) t b (heard.FaultyHeader f) NamesFault ws a h = drops (OpenConfirm k s) t b (heard.FaultyHeader f) (Faulted (sets.Header f)) ws a h.0 h.1
shape_received (OpenConfirm k s) t b (heard.InvalidOpen e) NamesFault ws a h = drops (OpenConfirm k s) t b (heard.InvalidOpen e) (Faulted (sets.Open e)) ws a h.0 h.1
shape_received (OpenConfirm k s) t b (heard.ValidOpen l e) Collides ws a h = drops (OpenConfirm k s) t b (heard.ValidOpen l e) (Ceased) ws a h.0 h.1
shape_received (OpenConfirm k s) t b (heard.ValidOpen l e) ReportsError ws a h = drops (OpenConfirm k s) t b (heard.ValidOpen l e) (Erred) ws a h.0 h.1
shape_received (OpenConfirm k s) t b (heard.ValidOpen l e) NamesFault ws a h = drops (OpenConfirm k s) t b (heard.ValidOpen l e) (Faulted (sets.Open e)) ws a h.0 h.1
shape_received (OpenConfirm k s) t b (heard.ValidOpen l e) Overlooks ws a h = keeps (OpenConfirm k s) t b (heard.ValidOpen l e) (OpenConfirm k s) ws a (λ z. cc) refl refl h.0 h.1
shape_received (OpenConfirm k s) t b heard.Keepalive Establishes ws a h = keeps (OpenConfirm k s) t b heard.Keepalive (Established k (renewed s t)) ws a (λ z. cc) refl refl h.0 h.1
shape_received (OpenConfirm k s) t b heard.Update ReportsError ws a h = drops (OpenConfirm k s) t b heard.Update (Erred) ws a h.0 h.1
shape_received (OpenConfirm k s) t b heard.BadVersion Drops ws a h = drops (OpenConfirm k s) t b heard.BadVersion (Silently) ws a h.0 h.1
shape_received (OpenConfirm k s) t b heard.Notification Drops ws a h = drops (OpenConfirm k s) t b heard.Notification (Silently) ws a h.0 h.1
shape_received (Established k s) t b (heard.FaultyHeader f) NamesFault ws a h = drops (Established k s) t b (heard.FaultyHeader f) (Faulted (sets.Header f)) ws a h.0 h.1
shape_received (Established k s) t b (heard.FaultyHeader f) ReportsError ws a h = drops (Established k s) t b (heard.FaultyHeader f) (Erred) ws a h.0 h.1
shape_received (Established k s) t b (heard.InvalidOpen e) NamesFault ws a h = drops (Established k s) t b (heard.InvalidOpen e) (Faulted (sets.Open e)) ws a h.0 h.1
shape_received (Established k s) t b (heard.InvalidOpen e) ReportsError ws a h = drops (Established k s) t b (heard.InvalidOpen e) (Erred) ws a h.0 h.1
shape_received (Established k s) t b (heard.ValidOpen l e) Collides ws a h = drops (Established k s) t b (heard.ValidOpen l e) (Ceased) ws a h.0 h.1
shape_received (Established k s) t b (heard.ValidOpen l e) ReportsError ws a h = drops (Established k s) t b (heard.ValidOpen l e) (Erred) ws a h.0 h.1
shape_received (Established k s) t b (heard.ValidOpen l e) NamesFault ws a h = drops (Established k s) t b (heard.ValidOpen l e) (Faulted (sets.Open e)) ws a h.0 h.1
shape_received (Established k s) t b (heard.ValidOpen l e) Overlooks ws a h = keeps (Established k s) t b (heard.ValidOpen l e) (Established k s) ws a (λ z. cc) refl refl h.0 h.1
shape_received (Established k s) t b heard.Keepalive Renews ws a h = keeps (Established k s) t b heard.Keepalive (Established k (renewed s t)) ws a (λ z. cc) refl refl h.0 h.1
shape_received (Established k s) t b heard.Update (Applies g) ws a h = inr (record {
  head_after = ap (λ (v : Turn). v.head) h.3;
  wants = h.2;
  routes = (h.0, g, h.1, ap (λ (v : Turn). v.routes) h.3);
  is_up = λ z. let e : fsm_of a.head ≡ fsms.Established = ap (λ (v : Turn). fsm_of v.head) h.3 in cc;
})
shape_received (Established k s) t b heard.Update NamesFault ws a h = inl (record { ends = inl h.3; fall = Faulted (sets.Update h.0); wants = h.2 })
shape_received (Established k s) t b heard.BadVersion Drops ws a h = drops (Established k s) t b heard.BadVersion (Silently) ws a h.0 h.1
shape_received (Established k s) t b heard.Notification Drops ws a h = drops (Established k s) t b heard.Notification (Silently) ws a h.0 h.1
shape_received head t b m row ws a h = absurd h
