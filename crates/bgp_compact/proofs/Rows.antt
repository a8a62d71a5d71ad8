-- What the rows of the session machine say of steps, that the law on the one way doesn't: a clause a row.
use Rattle.std.proofs.Common.{◌≡◌, ◌⊎◌, inl, inr, true, false, IsTrue, ℕ, List, [], ◌∷◌, refl, sym, ap, ◌∙◌}
use Rattle.bgp_open.specs.declared.config.Config.{Config}
use Rattle.bgp_machine.specs.declared.state.Head.{Head}
use Rattle.bgp_machine.specs.declared.state.Head.TheVariants.{Idle, Connect, Active, OpenSent, OpenConfirm, Established}
use Rattle.bgp_machine.specs.declared.hearing.Heard.{Heard}
use Rattle.bgp_machine.specs.declared.hearing.Heard.TheVariants as heard
use Rattle.bgp_machine.specs.declared.rows.HiddenRow.{HiddenRow}
use Rattle.bgp_machine.specs.declared.rows.HiddenRow.TheVariants.{Starts, Listens, ConnectionOpens, DelayBegins, DelayExpires, ConnectionFails, RetryExpires, Stops, Ceases, HoldExpires, SendHoldExpires, KeepaliveExpires, Announces, Notes}
use Rattle.bgp_machine.specs.declared.rows.ReceivedRow.{ReceivedRow}
use Rattle.bgp_machine.specs.declared.rows.ReceivedRow.TheVariants.{Ignores, Drops, NamesFault, Accepts, Collides, ReportsError, Overlooks, Establishes, Renews, Applies}
use Rattle.bgp_machine.specs.declared.want.FaultSet.{FaultSet}
use Rattle.bgp_machine.specs.declared.want.Want.{Want}
use Rattle.bgp_machine.specs.declared.want.Want.TheVariants as wants
use Rattle.bgp_machine.specs.Run.{is_delayed}
use Rattle.bgp_machine.specs.State.{Turn, enters, falls, waiting, settled, renewed, Given}
use Rattle.bgp_machine.specs.Step.{HiddenIn, ReceivedIn, AreRefusals}
use Rattle.bgp_machine.specs.declared.want.FaultSet.TheVariants as sets
use Rattle.bgp_machine.specs.declared.want.Unexpected.TheVariants.{InOpenSent, InOpenConfirm, InEstablished}
use Rattle.bgp_update.specs.declared.subcodes.Subcodes.{Subcodes}

-- ---- a step that a state takes by itself sends at most one message, and never a fault

abbrev pub SendsOne : List Want → Type 0
SendsOne ws = (ws ≡ []) ⊎ ((w : Want) × (ws ≡ w ∷ []) × ((s : FaultSet) → w ≡ wants.Faults s → ⊥))

pub hidden_sends : (head : Head) (config : Config) (t : ℕ) (row : HiddenRow) (ws : List Want) (turn : Turn) → HiddenIn head config t row ws turn → SendsOne ws
hidden_sends Idle config t Starts ws turn h = inl h.0
hidden_sends Idle config t Listens ws turn h = inl h.0
hidden_sends Idle config t Notes ws turn h = inl h.0
hidden_sends (Connect delay) config t Stops ws turn h = inl h.0
hidden_sends (Connect delay) config t RetryExpires ws turn h = inl h.0
hidden_sends (Connect delay) config t DelayExpires ws turn h = inr (wants.OwnOpen, h.1, λ s e. cc)
hidden_sends (Connect delay) config t ConnectionOpens ws turn h = inr (wants.OwnOpen, h.0, λ s e. cc)
hidden_sends (Connect delay) config t DelayBegins ws turn h = inl h.1
hidden_sends (Connect delay) config t ConnectionFails ws turn h = inl h.0
hidden_sends (Connect delay) config t Notes ws turn h = inl h.0
hidden_sends (Active delay) config t Stops ws turn h = inl h.0
hidden_sends (Active delay) config t Ceases ws turn h = inr (wants.Cease, h.1, λ s e. cc)
hidden_sends (Active delay) config t RetryExpires ws turn h = inl h.0
hidden_sends (Active delay) config t DelayExpires ws turn h = inr (wants.OwnOpen, h.1, λ s e. cc)
hidden_sends (Active delay) config t ConnectionOpens ws turn h = inr (wants.OwnOpen, h.0, λ s e. cc)
hidden_sends (Active delay) config t DelayBegins ws turn h = inl h.1
hidden_sends (Active delay) config t ConnectionFails ws turn h = inl h.0
hidden_sends (Active delay) config t Notes ws turn h = inl h.0
hidden_sends (OpenSent timer) config t Ceases ws turn h = inr (wants.Cease, h.0, λ s e. cc)
hidden_sends (OpenSent timer) config t HoldExpires ws turn h = inr (wants.HoldExpired, h.1, λ s e. cc)
hidden_sends (OpenSent timer) config t ConnectionFails ws turn h = inl h.0
hidden_sends (OpenSent timer) config t Notes ws turn h = inl h.0
hidden_sends (OpenConfirm link timer) config t Ceases ws turn h = inr (wants.Cease, h.0, λ s e. cc)
hidden_sends (OpenConfirm link timer) config t HoldExpires ws turn h = inr (wants.HoldExpired, h.1, λ s e. cc)
hidden_sends (OpenConfirm link timer) config t KeepaliveExpires ws turn h = inr (wants.KeepAlive, h.1, λ s e. cc)
hidden_sends (OpenConfirm link timer) config t ConnectionFails ws turn h = inl h.0
hidden_sends (OpenConfirm link timer) config t Notes ws turn h = inl h.0
hidden_sends (Established link timer) config t Ceases ws turn h = inr (wants.Cease, h.0, λ s e. cc)
hidden_sends (Established link timer) config t HoldExpires ws turn h = inr (wants.HoldExpired, h.1, λ s e. cc)
hidden_sends (Established link timer) config t SendHoldExpires ws turn h = inr (wants.SendHoldExpired, h.1, λ s e. cc)
hidden_sends (Established link timer) config t KeepaliveExpires ws turn h = inr (wants.KeepAlive, h.1, λ s e. cc)
hidden_sends (Established link timer) config t ConnectionFails ws turn h = inl h.0
hidden_sends (Established link timer) config t Announces ws turn h = inr (wants.CleanUpdate, h.0, λ s e. cc)
hidden_sends (Established link timer) config t Notes ws turn h = inl h.0
hidden_sends head config t row ws turn h = absurd h

-- ---- once there is a link, a state stays by itself or falls

abbrev pub HasLink : Head → Type 0
HasLink (OpenConfirm link timer) = Unit {0}
HasLink (Established link timer) = Unit {0}
HasLink head = ⊥

pub hidden_stays : (head : Head) (config : Config) (t : ℕ) (row : HiddenRow) (ws : List Want) (turn : Turn) → HasLink head → HiddenIn head config t row ws turn
    → (turn ≡ falls) ⊎ (turn ≡ enters head)
hidden_stays Idle config t row ws turn has h = absurd has
hidden_stays (Connect d) config t row ws turn has h = absurd has
hidden_stays (Active d) config t row ws turn has h = absurd has
hidden_stays (OpenSent timer) config t row ws turn has h = absurd has
hidden_stays (OpenConfirm link timer) config t Ceases ws turn has h = inl h.1
hidden_stays (OpenConfirm link timer) config t HoldExpires ws turn has h = inl h.2
hidden_stays (OpenConfirm link timer) config t KeepaliveExpires ws turn has h = inr h.2
hidden_stays (OpenConfirm link timer) config t ConnectionFails ws turn has h = inl h.1
hidden_stays (OpenConfirm link timer) config t Notes ws turn has h = inr h.1
hidden_stays (Established link timer) config t Ceases ws turn has h = inl h.1
hidden_stays (Established link timer) config t HoldExpires ws turn has h = inl h.2
hidden_stays (Established link timer) config t SendHoldExpires ws turn has h = inl h.2
hidden_stays (Established link timer) config t KeepaliveExpires ws turn has h = inr h.2
hidden_stays (Established link timer) config t ConnectionFails ws turn has h = inl h.1
hidden_stays (Established link timer) config t Announces ws turn has h = inr h.1
hidden_stays (Established link timer) config t Notes ws turn has h = inr h.1
hidden_stays head config t row ws turn has h = absurd h

-- ---- a step after which the OPEN is delayed begins the delay, or is a note

on_there : (a x : Turn) → a ≡ x → is_delayed x.head ≡ false → IsTrue (is_delayed a.head) → ⊥
on_there a x e off on = let k : is_delayed a.head ≡ is_delayed x.head = ap (λ (y : Turn). is_delayed y.head) e in cc

abbrev pub DelaysSo : Head → HiddenRow → List Want → Turn → Type 0
DelaysSo head row ws turn = (ws ≡ []) × (((row ≡ DelayBegins) × ((turn ≡ enters (Connect true)) ⊎ (turn ≡ enters (Active true)))) ⊎ ((row ≡ Notes) × (turn ≡ enters head)))

pub hidden_delays : (head : Head) (config : Config) (t : ℕ) (row : HiddenRow) (ws : List Want) (turn : Turn) → HiddenIn head config t row ws turn
    → IsTrue (is_delayed turn.head) → DelaysSo head row ws turn
hidden_delays Idle config t Starts ws turn h on = absurd (on_there turn (enters (Connect false)) h.1 refl on)
hidden_delays Idle config t Listens ws turn h on = absurd (on_there turn (enters (Active false)) h.1 refl on)
hidden_delays Idle config t Notes ws turn h on = absurd (on_there turn (enters Idle) h.1 refl on)
hidden_delays (Connect delay) config t Stops ws turn h on = absurd (on_there turn falls h.1 refl on)
hidden_delays (Connect delay) config t RetryExpires ws turn h on = absurd (on_there turn (enters (Connect false)) h.1 refl on)
hidden_delays (Connect delay) config t DelayExpires ws turn h on = absurd (on_there turn (enters (waiting config t)) h.2 refl on)
hidden_delays (Connect delay) config t ConnectionOpens ws turn h on = absurd (on_there turn (enters (waiting config t)) h.1 refl on)
hidden_delays (Connect delay) config t DelayBegins ws turn h on = (h.1, inl (refl, inl h.2))
hidden_delays (Connect true) config t ConnectionFails ws turn h on = absurd (on_there turn (enters (Active false)) h.1 refl on)
hidden_delays (Connect false) config t ConnectionFails ws turn h on = absurd (on_there turn falls h.1 refl on)
hidden_delays (Connect delay) config t Notes ws turn h on = (h.0, inr (refl, h.1))
hidden_delays (Active delay) config t Stops ws turn h on = absurd (on_there turn falls h.1 refl on)
hidden_delays (Active delay) config t Ceases ws turn h on = absurd (on_there turn falls h.2 refl on)
hidden_delays (Active delay) config t RetryExpires ws turn h on = absurd (on_there turn (enters (Connect false)) h.1 refl on)
hidden_delays (Active delay) config t DelayExpires ws turn h on = absurd (on_there turn (enters (waiting config t)) h.2 refl on)
hidden_delays (Active delay) config t ConnectionOpens ws turn h on = absurd (on_there turn (enters (waiting config t)) h.1 refl on)
hidden_delays (Active delay) config t DelayBegins ws turn h on = (h.1, inl (refl, inr h.2))
hidden_delays (Active delay) config t ConnectionFails ws turn h on = absurd (on_there turn falls h.1 refl on)
hidden_delays (Active delay) config t Notes ws turn h on = (h.0, inr (refl, h.1))
hidden_delays (OpenSent timer) config t Ceases ws turn h on = absurd (on_there turn falls h.1 refl on)
hidden_delays (OpenSent timer) config t HoldExpires ws turn h on = absurd (on_there turn falls h.2 refl on)
hidden_delays (OpenSent timer) config t ConnectionFails ws turn h on = absurd (on_there turn (enters (Active false)) h.1 refl on)
hidden_delays (OpenSent timer) config t Notes ws turn h on = absurd (on_there turn (enters (OpenSent timer)) h.1 refl on)
hidden_delays (OpenConfirm link timer) config t Ceases ws turn h on = absurd (on_there turn falls h.1 refl on)
hidden_delays (OpenConfirm link timer) config t HoldExpires ws turn h on = absurd (on_there turn falls h.2 refl on)
hidden_delays (OpenConfirm link timer) config t KeepaliveExpires ws turn h on = absurd (on_there turn (enters (OpenConfirm link timer)) h.2 refl on)
hidden_delays (OpenConfirm link timer) config t ConnectionFails ws turn h on = absurd (on_there turn falls h.1 refl on)
hidden_delays (OpenConfirm link timer) config t Notes ws turn h on = absurd (on_there turn (enters (OpenConfirm link timer)) h.1 refl on)
hidden_delays (Established link timer) config t Ceases ws turn h on = absurd (on_there turn falls h.1 refl on)
hidden_delays (Established link timer) config t HoldExpires ws turn h on = absurd (on_there turn falls h.2 refl on)
hidden_delays (Established link timer) config t SendHoldExpires ws turn h on = absurd (on_there turn falls h.2 refl on)
hidden_delays (Established link timer) config t KeepaliveExpires ws turn h on = absurd (on_there turn (enters (Established link timer)) h.2 refl on)
hidden_delays (Established link timer) config t ConnectionFails ws turn h on = absurd (on_there turn falls h.1 refl on)
hidden_delays (Established link timer) config t Announces ws turn h on = absurd (on_there turn (enters (Established link timer)) h.1 refl on)
hidden_delays (Established link timer) config t Notes ws turn h on = absurd (on_there turn (enters (Established link timer)) h.1 refl on)
hidden_delays head config t row ws turn h on = absurd h

-- ---- no message delays the OPEN

pub received_undelayed : (head : Head) (t : ℕ) (octets : List ℕ) (message : Heard) (row : ReceivedRow) (ws : List Want) (turn : Turn)
    → ReceivedIn head t octets message row ws turn → IsTrue (is_delayed turn.head) → ⊥
received_undelayed Idle t octets message Ignores ws turn h on = on_there turn (enters Idle) h.1 refl on
received_undelayed (Connect delay) t octets (heard.ValidOpen link e) Accepts ws turn h on = on_there turn (enters (OpenConfirm link (settled link t))) h.2 refl on
received_undelayed (Connect delay) t octets (heard.ValidOpen link e) Drops ws turn h on = on_there turn falls h.1 refl on
received_undelayed (Connect delay) t octets (heard.ValidOpen link e) NamesFault ws turn h on = on_there turn falls h.1 refl on
received_undelayed (Connect delay) t octets (heard.FaultyHeader f) Drops ws turn h on = on_there turn falls h.1 refl on
received_undelayed (Connect delay) t octets (heard.FaultyHeader f) NamesFault ws turn h on = on_there turn falls h.1 refl on
received_undelayed (Connect delay) t octets (heard.InvalidOpen e) Drops ws turn h on = on_there turn falls h.1 refl on
received_undelayed (Connect delay) t octets (heard.InvalidOpen e) NamesFault ws turn h on = on_there turn falls h.1 refl on
received_undelayed (Connect delay) t octets heard.BadVersion Drops ws turn h on = on_there turn falls h.1 refl on
received_undelayed (Connect delay) t octets heard.Notification Drops ws turn h on = on_there turn falls h.1 refl on
received_undelayed (Connect delay) t octets heard.Keepalive Drops ws turn h on = on_there turn falls h.1 refl on
received_undelayed (Connect delay) t octets heard.Update Drops ws turn h on = on_there turn falls h.1 refl on
received_undelayed (Active delay) t octets (heard.ValidOpen link e) Accepts ws turn h on = on_there turn (enters (OpenConfirm link (settled link t))) h.2 refl on
received_undelayed (Active delay) t octets (heard.ValidOpen link e) Drops ws turn h on = on_there turn falls h.1 refl on
received_undelayed (Active delay) t octets (heard.ValidOpen link e) NamesFault ws turn h on = on_there turn falls h.1 refl on
received_undelayed (Active delay) t octets (heard.FaultyHeader f) Drops ws turn h on = on_there turn falls h.1 refl on
received_undelayed (Active delay) t octets (heard.FaultyHeader f) NamesFault ws turn h on = on_there turn falls h.1 refl on
received_undelayed (Active delay) t octets (heard.InvalidOpen e) Drops ws turn h on = on_there turn falls h.1 refl on
received_undelayed (Active delay) t octets (heard.InvalidOpen e) NamesFault ws turn h on = on_there turn falls h.1 refl on
received_undelayed (Active delay) t octets heard.BadVersion Drops ws turn h on = on_there turn falls h.1 refl on
received_undelayed (Active delay) t octets heard.Notification Drops ws turn h on = on_there turn falls h.1 refl on
received_undelayed (Active delay) t octets heard.Keepalive Drops ws turn h on = on_there turn falls h.1 refl on
received_undelayed (Active delay) t octets heard.Update Drops ws turn h on = on_there turn falls h.1 refl on
received_undelayed (OpenSent timer) t octets (heard.ValidOpen link e) Accepts ws turn h on = on_there turn (enters (OpenConfirm link (settled link t))) h.1 refl on
received_undelayed (OpenSent timer) t octets (heard.ValidOpen link e) Collides ws turn h on = on_there turn falls h.1 refl on
received_undelayed (OpenSent timer) t octets (heard.ValidOpen link e) NamesFault ws turn h on = on_there turn falls h.1 refl on
received_undelayed (OpenSent timer) t octets (heard.FaultyHeader f) NamesFault ws turn h on = on_there turn falls h.1 refl on
received_undelayed (OpenSent timer) t octets (heard.InvalidOpen e) NamesFault ws turn h on = on_there turn falls h.1 refl on
received_undelayed (OpenSent timer) t octets heard.BadVersion Drops ws turn h on = on_there turn falls h.1 refl on
received_undelayed (OpenSent timer) t octets heard.Notification Drops ws turn h on = on_there turn falls h.1 refl on
received_undelayed (OpenSent timer) t octets heard.Notification ReportsError ws turn h on = on_there turn falls h.1 refl on
received_undelayed (OpenSent timer) t octets heard.Keepalive ReportsError ws turn h on = on_there turn falls h.1 refl on
received_undelayed (OpenSent timer) t octets heard.Update ReportsError ws turn h on = on_there turn falls h.1 refl on
received_undelayed (OpenConfirm own timer) t octets (heard.ValidOpen link e) Overlooks ws turn h on = on_there turn (enters (OpenConfirm own timer)) h.1 refl on
received_undelayed (OpenConfirm own timer) t octets (heard.ValidOpen link e) Collides ws turn h on = on_there turn falls h.1 refl on
received_undelayed (OpenConfirm own timer) t octets (heard.ValidOpen link e) NamesFault ws turn h on = on_there turn falls h.1 refl on
received_undelayed (OpenConfirm own timer) t octets (heard.ValidOpen link e) ReportsError ws turn h on = on_there turn falls h.1 refl on
received_undelayed (OpenConfirm own timer) t octets (heard.FaultyHeader f) NamesFault ws turn h on = on_there turn falls h.1 refl on
received_undelayed (OpenConfirm own timer) t octets (heard.InvalidOpen e) NamesFault ws turn h on = on_there turn falls h.1 refl on
received_undelayed (OpenConfirm own timer) t octets heard.BadVersion Drops ws turn h on = on_there turn falls h.1 refl on
received_undelayed (OpenConfirm own timer) t octets heard.Notification Drops ws turn h on = on_there turn falls h.1 refl on
received_undelayed (OpenConfirm own timer) t octets heard.Keepalive Establishes ws turn h on = on_there turn (enters (Established own (renewed timer t))) h.1 refl on
received_undelayed (OpenConfirm own timer) t octets heard.Update ReportsError ws turn h on = on_there turn falls h.1 refl on
received_undelayed (Established own timer) t octets (heard.ValidOpen link e) Overlooks ws turn h on = on_there turn (enters (Established own timer)) h.1 refl on
received_undelayed (Established own timer) t octets (heard.ValidOpen link e) Collides ws turn h on = on_there turn falls h.1 refl on
received_undelayed (Established own timer) t octets (heard.ValidOpen link e) NamesFault ws turn h on = on_there turn falls h.1 refl on
received_undelayed (Established own timer) t octets (heard.ValidOpen link e) ReportsError ws turn h on = on_there turn falls h.1 refl on
received_undelayed (Established own timer) t octets (heard.FaultyHeader f) NamesFault ws turn h on = on_there turn falls h.1 refl on
received_undelayed (Established own timer) t octets (heard.FaultyHeader f) ReportsError ws turn h on = on_there turn falls h.1 refl on
received_undelayed (Established own timer) t octets (heard.InvalidOpen e) NamesFault ws turn h on = on_there turn falls h.1 refl on
received_undelayed (Established own timer) t octets (heard.InvalidOpen e) ReportsError ws turn h on = on_there turn falls h.1 refl on
received_undelayed (Established own timer) t octets heard.BadVersion Drops ws turn h on = on_there turn falls h.1 refl on
received_undelayed (Established own timer) t octets heard.Notification Drops ws turn h on = on_there turn falls h.1 refl on
received_undelayed (Established own timer) t octets heard.Keepalive Renews ws turn h on = on_there turn (enters (Established own (renewed timer t))) h.1 refl on
received_undelayed (Established own timer) t octets heard.Update NamesFault ws turn h on = on_there turn falls h.3 refl on
received_undelayed (Established own timer) t octets heard.Update (Applies families) ws turn h on = on_there turn (record { head = Established own (renewed timer t); routes = Given h.0 families }) h.3 refl on
received_undelayed head t octets message row ws turn h on = absurd h

-- ---- a message's faults are one set: those that it is heard with, or those of the UPDATE

abbrev pub FaultsOf : Head → List ℕ → Heard → FaultSet → Type 0
FaultsOf (Established own timer) octets heard.Update s = (subcodes : Subcodes) × AreRefusals own octets subcodes × (s ≡ sets.Update subcodes)
FaultsOf head octets (heard.ValidOpen link e) s = s ≡ sets.Open e
FaultsOf head octets (heard.FaultyHeader f) s = s ≡ sets.Header f
FaultsOf head octets (heard.InvalidOpen e) s = s ≡ sets.Open e
FaultsOf head octets message s = ⊥

the_set : (s t : FaultSet) → wants.Faults s ∷ [] ≡ wants.Faults t ∷ [] → s ≡ t
the_set s t e = cc

pub received_faults : (head : Head) (t : ℕ) (octets : List ℕ) (message : Heard) (row : ReceivedRow) (ws : List Want) (turn : Turn) (s : FaultSet)
    → ReceivedIn head t octets message row ws turn → ws ≡ wants.Faults s ∷ [] → FaultsOf head octets message s
received_faults Idle t octets message Ignores ws turn s h is = absurd (let k : wants.Faults s ∷ [] ≡ [] = sym is ∙ h.0 in let z : ⊥ = cc in z)
received_faults (Connect delay) t octets (heard.ValidOpen link e) Accepts ws turn s h is = absurd (let k : wants.Faults s ∷ [] ≡ wants.OwnOpen ∷ wants.KeepAlive ∷ [] = sym is ∙ h.1 in let z : ⊥ = cc in z)
received_faults (Connect delay) t octets (heard.ValidOpen link e) Drops ws turn s h is = absurd (let k : wants.Faults s ∷ [] ≡ [] = sym is ∙ h.0 in let z : ⊥ = cc in z)
received_faults (Connect delay) t octets (heard.ValidOpen link e) NamesFault ws turn s h is = the_set s (sets.Open e) (sym is ∙ h.0)
received_faults (Connect delay) t octets (heard.FaultyHeader f) Drops ws turn s h is = absurd (let k : wants.Faults s ∷ [] ≡ [] = sym is ∙ h.0 in let z : ⊥ = cc in z)
received_faults (Connect delay) t octets (heard.FaultyHeader f) NamesFault ws turn s h is = the_set s (sets.Header f) (sym is ∙ h.0)
received_faults (Connect delay) t octets (heard.InvalidOpen e) Drops ws turn s h is = absurd (let k : wants.Faults s ∷ [] ≡ [] = sym is ∙ h.0 in let z : ⊥ = cc in z)
received_faults (Connect delay) t octets (heard.InvalidOpen e) NamesFault ws turn s h is = the_set s (sets.Open e) (sym is ∙ h.0)
received_faults (Connect delay) t octets heard.BadVersion Drops ws turn s h is = absurd (let k : wants.Faults s ∷ [] ≡ [] = sym is ∙ h.0 in let z : ⊥ = cc in z)
received_faults (Connect delay) t octets heard.Notification Drops ws turn s h is = absurd (let k : wants.Faults s ∷ [] ≡ [] = sym is ∙ h.0 in let z : ⊥ = cc in z)
received_faults (Connect delay) t octets heard.Keepalive Drops ws turn s h is = absurd (let k : wants.Faults s ∷ [] ≡ [] = sym is ∙ h.0 in let z : ⊥ = cc in z)
received_faults (Connect delay) t octets heard.Update Drops ws turn s h is = absurd (let k : wants.Faults s ∷ [] ≡ [] = sym is ∙ h.0 in let z : ⊥ = cc in z)
received_faults (Active delay) t octets (heard.ValidOpen link e) Accepts ws turn s h is = absurd (let k : wants.Faults s ∷ [] ≡ wants.OwnOpen ∷ wants.KeepAlive ∷ [] = sym is ∙ h.1 in let z : ⊥ = cc in z)
received_faults (Active delay) t octets (heard.ValidOpen link e) Drops ws turn s h is = absurd (let k : wants.Faults s ∷ [] ≡ [] = sym is ∙ h.0 in let z : ⊥ = cc in z)
received_faults (Active delay) t octets (heard.ValidOpen link e) NamesFault ws turn s h is = the_set s (sets.Open e) (sym is ∙ h.0)
received_faults (Active delay) t octets (heard.FaultyHeader f) Drops ws turn s h is = absurd (let k : wants.Faults s ∷ [] ≡ [] = sym is ∙ h.0 in let z : ⊥ = cc in z)
received_faults (Active delay) t octets (heard.FaultyHeader f) NamesFault ws turn s h is = the_set s (sets.Header f) (sym is ∙ h.0)
received_faults (Active delay) t octets (heard.InvalidOpen e) Drops ws turn s h is = absurd (let k : wants.Faults s ∷ [] ≡ [] = sym is ∙ h.0 in let z : ⊥ = cc in z)
received_faults (Active delay) t octets (heard.InvalidOpen e) NamesFault ws turn s h is = the_set s (sets.Open e) (sym is ∙ h.0)
received_faults (Active delay) t octets heard.BadVersion Drops ws turn s h is = absurd (let k : wants.Faults s ∷ [] ≡ [] = sym is ∙ h.0 in let z : ⊥ = cc in z)
received_faults (Active delay) t octets heard.Notification Drops ws turn s h is = absurd (let k : wants.Faults s ∷ [] ≡ [] = sym is ∙ h.0 in let z : ⊥ = cc in z)
received_faults (Active delay) t octets heard.Keepalive Drops ws turn s h is = absurd (let k : wants.Faults s ∷ [] ≡ [] = sym is ∙ h.0 in let z : ⊥ = cc in z)
received_faults (Active delay) t octets heard.Update Drops ws turn s h is = absurd (let k : wants.Faults s ∷ [] ≡ [] = sym is ∙ h.0 in let z : ⊥ = cc in z)
received_faults (OpenSent timer) t octets (heard.ValidOpen link e) Accepts ws turn s h is = absurd (let k : wants.Faults s ∷ [] ≡ wants.KeepAlive ∷ [] = sym is ∙ h.0 in let z : ⊥ = cc in z)
received_faults (OpenSent timer) t octets (heard.ValidOpen link e) Collides ws turn s h is = absurd (let k : wants.Faults s ∷ [] ≡ wants.Cease ∷ [] = sym is ∙ h.0 in let z : ⊥ = cc in z)
received_faults (OpenSent timer) t octets (heard.ValidOpen link e) NamesFault ws turn s h is = the_set s (sets.Open e) (sym is ∙ h.0)
received_faults (OpenSent timer) t octets (heard.FaultyHeader f) NamesFault ws turn s h is = the_set s (sets.Header f) (sym is ∙ h.0)
received_faults (OpenSent timer) t octets (heard.InvalidOpen e) NamesFault ws turn s h is = the_set s (sets.Open e) (sym is ∙ h.0)
received_faults (OpenSent timer) t octets heard.BadVersion Drops ws turn s h is = absurd (let k : wants.Faults s ∷ [] ≡ [] = sym is ∙ h.0 in let z : ⊥ = cc in z)
received_faults (OpenSent timer) t octets heard.Notification Drops ws turn s h is = absurd (let k : wants.Faults s ∷ [] ≡ [] = sym is ∙ h.0 in let z : ⊥ = cc in z)
received_faults (OpenSent timer) t octets heard.Notification ReportsError ws turn s h is = absurd (let k : wants.Faults s ∷ [] ≡ wants.MachineError InOpenSent ∷ [] = sym is ∙ h.0 in let z : ⊥ = cc in z)
received_faults (OpenSent timer) t octets heard.Keepalive ReportsError ws turn s h is = absurd (let k : wants.Faults s ∷ [] ≡ wants.MachineError InOpenSent ∷ [] = sym is ∙ h.0 in let z : ⊥ = cc in z)
received_faults (OpenSent timer) t octets heard.Update ReportsError ws turn s h is = absurd (let k : wants.Faults s ∷ [] ≡ wants.MachineError InOpenSent ∷ [] = sym is ∙ h.0 in let z : ⊥ = cc in z)
received_faults (OpenConfirm own timer) t octets (heard.ValidOpen link e) Overlooks ws turn s h is = absurd (let k : wants.Faults s ∷ [] ≡ [] = sym is ∙ h.0 in let z : ⊥ = cc in z)
received_faults (OpenConfirm own timer) t octets (heard.ValidOpen link e) Collides ws turn s h is = absurd (let k : wants.Faults s ∷ [] ≡ wants.Cease ∷ [] = sym is ∙ h.0 in let z : ⊥ = cc in z)
received_faults (OpenConfirm own timer) t octets (heard.ValidOpen link e) NamesFault ws turn s h is = the_set s (sets.Open e) (sym is ∙ h.0)
received_faults (OpenConfirm own timer) t octets (heard.ValidOpen link e) ReportsError ws turn s h is = absurd (let k : wants.Faults s ∷ [] ≡ wants.MachineError InOpenConfirm ∷ [] = sym is ∙ h.0 in let z : ⊥ = cc in z)
received_faults (OpenConfirm own timer) t octets (heard.FaultyHeader f) NamesFault ws turn s h is = the_set s (sets.Header f) (sym is ∙ h.0)
received_faults (OpenConfirm own timer) t octets (heard.InvalidOpen e) NamesFault ws turn s h is = the_set s (sets.Open e) (sym is ∙ h.0)
received_faults (OpenConfirm own timer) t octets heard.BadVersion Drops ws turn s h is = absurd (let k : wants.Faults s ∷ [] ≡ [] = sym is ∙ h.0 in let z : ⊥ = cc in z)
received_faults (OpenConfirm own timer) t octets heard.Notification Drops ws turn s h is = absurd (let k : wants.Faults s ∷ [] ≡ [] = sym is ∙ h.0 in let z : ⊥ = cc in z)
received_faults (OpenConfirm own timer) t octets heard.Keepalive Establishes ws turn s h is = absurd (let k : wants.Faults s ∷ [] ≡ [] = sym is ∙ h.0 in let z : ⊥ = cc in z)
received_faults (OpenConfirm own timer) t octets heard.Update ReportsError ws turn s h is = absurd (let k : wants.Faults s ∷ [] ≡ wants.MachineError InOpenConfirm ∷ [] = sym is ∙ h.0 in let z : ⊥ = cc in z)
received_faults (Established own timer) t octets (heard.ValidOpen link e) Overlooks ws turn s h is = absurd (let k : wants.Faults s ∷ [] ≡ [] = sym is ∙ h.0 in let z : ⊥ = cc in z)
received_faults (Established own timer) t octets (heard.ValidOpen link e) Collides ws turn s h is = absurd (let k : wants.Faults s ∷ [] ≡ wants.Cease ∷ [] = sym is ∙ h.0 in let z : ⊥ = cc in z)
received_faults (Established own timer) t octets (heard.ValidOpen link e) NamesFault ws turn s h is = the_set s (sets.Open e) (sym is ∙ h.0)
received_faults (Established own timer) t octets (heard.ValidOpen link e) ReportsError ws turn s h is = absurd (let k : wants.Faults s ∷ [] ≡ wants.MachineError InEstablished ∷ [] = sym is ∙ h.0 in let z : ⊥ = cc in z)
received_faults (Established own timer) t octets (heard.FaultyHeader f) NamesFault ws turn s h is = the_set s (sets.Header f) (sym is ∙ h.0)
received_faults (Established own timer) t octets (heard.FaultyHeader f) ReportsError ws turn s h is = absurd (let k : wants.Faults s ∷ [] ≡ wants.MachineError InEstablished ∷ [] = sym is ∙ h.0 in let z : ⊥ = cc in z)
received_faults (Established own timer) t octets (heard.InvalidOpen e) NamesFault ws turn s h is = the_set s (sets.Open e) (sym is ∙ h.0)
received_faults (Established own timer) t octets (heard.InvalidOpen e) ReportsError ws turn s h is = absurd (let k : wants.Faults s ∷ [] ≡ wants.MachineError InEstablished ∷ [] = sym is ∙ h.0 in let z : ⊥ = cc in z)
received_faults (Established own timer) t octets heard.BadVersion Drops ws turn s h is = absurd (let k : wants.Faults s ∷ [] ≡ [] = sym is ∙ h.0 in let z : ⊥ = cc in z)
received_faults (Established own timer) t octets heard.Notification Drops ws turn s h is = absurd (let k : wants.Faults s ∷ [] ≡ [] = sym is ∙ h.0 in let z : ⊥ = cc in z)
received_faults (Established own timer) t octets heard.Keepalive Renews ws turn s h is = absurd (let k : wants.Faults s ∷ [] ≡ [] = sym is ∙ h.0 in let z : ⊥ = cc in z)
received_faults (Established own timer) t octets heard.Update NamesFault ws turn s h is = (h.0, h.1, the_set s (sets.Update h.0) (sym is ∙ h.2))
received_faults (Established own timer) t octets heard.Update (Applies families) ws turn s h is = absurd (let k : wants.Faults s ∷ [] ≡ [] = sym is ∙ h.2 in let z : ⊥ = cc in z)
received_faults head t octets message row ws turn s h is = absurd h
