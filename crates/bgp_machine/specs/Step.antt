-- The rows of the session machine (RFC 4271, 8.2.2, 6.1 to 6.8; RFC 6608; RFC 9687): what a state
-- does by itself, and what it does about a message. A row says what is sent, in order, and how the
-- step ends. The states stand in the order of the standard (8.2.2), a state's own rows in that of
-- its events (8.1; event 29 of RFC 9687 comes behind event 10), and those about messages in the
-- order of messages.
use Rattle.std.specs.Prelude.{◌≡◌, ◌<◌, ◌≤◌, ◌+◌, ◌↔◌, ℕ, Bool, false, true, List, [], ◌∷◌}
use Rattle.std.specs.Prelude.{IsTrue, if◌then◌else◌, Option, None, Some}
use Rattle.bgp_open.specs.declared.config.Config.{Config}
use Rattle.bgp_open.specs.declared.link.Link.{Link}
use Rattle.bgp_rib.specs.DeclaredSubcodes.{Subcodes}
use Rattle.bgp_rib.specs.Changes.{RouteChanges}
use Rattle.bgp_rib.specs.Outcome.{IsOutcome, Applied, Reset}
use Rattle.bgp_rib.specs.Subcodes.{HasSubcode}
use Rattle.bgp_machine.specs.declared.fsm.Fsm.{Fsm}
use Rattle.bgp_machine.specs.declared.fsm.Fsm.TheVariants as fsms
use Rattle.bgp_machine.specs.declared.state.Head.{Head}
use Rattle.bgp_machine.specs.declared.state.Head.TheVariants.{Idle, Connect, Active, OpenSent}
use Rattle.bgp_machine.specs.declared.state.Head.TheVariants.{OpenConfirm, Established}
use Rattle.bgp_machine.specs.declared.state.HoldTimer.{HoldTimer}
use Rattle.bgp_machine.specs.declared.hearing.Heard.{Heard}
use Rattle.bgp_machine.specs.declared.hearing.Heard.TheVariants.{ValidOpen, FaultyHeader}
use Rattle.bgp_machine.specs.declared.hearing.Heard.TheVariants.{InvalidOpen, BadVersion}
use Rattle.bgp_machine.specs.declared.hearing.Heard.TheVariants.{Notification, Keepalive, Update}
use Rattle.bgp_machine.specs.declared.rows.HiddenRow.{HiddenRow}
use Rattle.bgp_machine.specs.declared.rows.HiddenRow.TheVariants.{Starts, Listens, Stops, Ceases}
use Rattle.bgp_machine.specs.declared.rows.HiddenRow.TheVariants.{RetryExpires, HoldExpires}
use Rattle.bgp_machine.specs.declared.rows.HiddenRow.TheVariants.{SendHoldExpires, KeepaliveExpires}
use Rattle.bgp_machine.specs.declared.rows.HiddenRow.TheVariants.{DelayExpires, ConnectionOpens}
use Rattle.bgp_machine.specs.declared.rows.HiddenRow.TheVariants.{DelayBegins, ConnectionFails}
use Rattle.bgp_machine.specs.declared.rows.HiddenRow.TheVariants.{Announces, Notes}
use Rattle.bgp_machine.specs.declared.rows.ReceivedRow.{ReceivedRow}
use Rattle.bgp_machine.specs.declared.rows.ReceivedRow.TheVariants.{Ignores, Accepts, Overlooks}
use Rattle.bgp_machine.specs.declared.rows.ReceivedRow.TheVariants.{Collides, Drops, NamesFault}
use Rattle.bgp_machine.specs.declared.rows.ReceivedRow.TheVariants.{ReportsError, Establishes}
use Rattle.bgp_machine.specs.declared.rows.ReceivedRow.TheVariants.{Renews, Applies}
use Rattle.bgp_machine.specs.declared.want.FaultSet.TheVariants as sets
use Rattle.bgp_machine.specs.declared.want.Unexpected.TheVariants.{InOpenSent, InOpenConfirm}
use Rattle.bgp_machine.specs.declared.want.Unexpected.TheVariants.{InEstablished}
use Rattle.bgp_machine.specs.declared.want.Want.{Want}
use Rattle.bgp_machine.specs.declared.want.Want.TheVariants.{OwnOpen, KeepAlive, CleanUpdate}
use Rattle.bgp_machine.specs.declared.want.Want.TheVariants.{Cease, HoldExpired, SendHoldExpired}
use Rattle.bgp_machine.specs.declared.want.Want.TheVariants.{MachineError, Faults}
use Rattle.bgp_machine.specs.Heard.{Hears}
use Rattle.bgp_machine.specs.State.{Turn, Given, moved, enters, falls, waiting, settled}
use Rattle.bgp_machine.specs.State.{renewed, SessionState}

-- the HoldTimer runs; with a Hold Time of 0 it doesn't (RFC 4271, 4.2)
abbrev pub IsRunning : HoldTimer → Type 0
IsRunning timer = 0 < timer.span

-- it has run out
abbrev pub IsExpired : HoldTimer → ℕ → Type 0
IsExpired timer t = (0 < timer.span) × (timer.since + timer.span ≤ t)

-- a connection that fails in Connect: while the OPEN is delayed, another is listened for
abbrev pub failed : Bool → Turn
failed delay = if delay then enters (Active false) else falls

-- ---- what a state does by itself at a second
abbrev pub HiddenIn : Head → Config → ℕ → HiddenRow → List Want → Turn → Type 0
HiddenIn Idle config t Starts wants turn = (wants ≡ []) × (turn ≡ enters (Connect false))
HiddenIn Idle config t Listens wants turn = (wants ≡ []) × (turn ≡ enters (Active false))
HiddenIn Idle config t Notes wants turn = (wants ≡ []) × (turn ≡ enters Idle)
HiddenIn (Connect delay) config t Stops wants turn = (wants ≡ []) × (turn ≡ falls)
HiddenIn (Connect delay) config t RetryExpires wants turn =
    (wants ≡ []) × (turn ≡ enters (Connect false))
HiddenIn (Connect delay) config t DelayExpires wants turn =
    IsTrue delay × (wants ≡ OwnOpen ∷ []) × (turn ≡ enters (waiting config t))
HiddenIn (Connect delay) config t ConnectionOpens wants turn =
    (wants ≡ OwnOpen ∷ []) × (turn ≡ enters (waiting config t))
HiddenIn (Connect delay) config t DelayBegins wants turn =
    IsTrue config.parts.delay_open × (wants ≡ []) × (turn ≡ enters (Connect true))
HiddenIn (Connect delay) config t ConnectionFails wants turn =
    (wants ≡ []) × (turn ≡ failed delay)
HiddenIn (Connect delay) config t Notes wants turn =
    (wants ≡ []) × (turn ≡ enters (Connect delay))
HiddenIn (Active delay) config t Stops wants turn = (wants ≡ []) × (turn ≡ falls)
HiddenIn (Active delay) config t Ceases wants turn =
    IsTrue delay × (wants ≡ Cease ∷ []) × (turn ≡ falls)
HiddenIn (Active delay) config t RetryExpires wants turn =
    (wants ≡ []) × (turn ≡ enters (Connect false))
HiddenIn (Active delay) config t DelayExpires wants turn =
    IsTrue delay × (wants ≡ OwnOpen ∷ []) × (turn ≡ enters (waiting config t))
HiddenIn (Active delay) config t ConnectionOpens wants turn =
    (wants ≡ OwnOpen ∷ []) × (turn ≡ enters (waiting config t))
HiddenIn (Active delay) config t DelayBegins wants turn =
    IsTrue config.parts.delay_open × (wants ≡ []) × (turn ≡ enters (Active true))
HiddenIn (Active delay) config t ConnectionFails wants turn = (wants ≡ []) × (turn ≡ falls)
HiddenIn (Active delay) config t Notes wants turn =
    (wants ≡ []) × (turn ≡ enters (Active delay))
HiddenIn (OpenSent timer) config t Ceases wants turn = (wants ≡ Cease ∷ []) × (turn ≡ falls)
HiddenIn (OpenSent timer) config t HoldExpires wants turn =
    IsExpired timer t × (wants ≡ HoldExpired ∷ []) × (turn ≡ falls)
HiddenIn (OpenSent timer) config t ConnectionFails wants turn =
    (wants ≡ []) × (turn ≡ enters (Active false))
HiddenIn (OpenSent timer) config t Notes wants turn =
    (wants ≡ []) × (turn ≡ enters (OpenSent timer))
HiddenIn (OpenConfirm link timer) config t Ceases wants turn =
    (wants ≡ Cease ∷ []) × (turn ≡ falls)
HiddenIn (OpenConfirm link timer) config t HoldExpires wants turn =
    IsExpired timer t × (wants ≡ HoldExpired ∷ []) × (turn ≡ falls)
HiddenIn (OpenConfirm link timer) config t KeepaliveExpires wants turn =
    IsRunning timer × (wants ≡ KeepAlive ∷ []) × (turn ≡ enters (OpenConfirm link timer))
HiddenIn (OpenConfirm link timer) config t ConnectionFails wants turn =
    (wants ≡ []) × (turn ≡ falls)
HiddenIn (OpenConfirm link timer) config t Notes wants turn =
    (wants ≡ []) × (turn ≡ enters (OpenConfirm link timer))
HiddenIn (Established link timer) config t Ceases wants turn =
    (wants ≡ Cease ∷ []) × (turn ≡ falls)
HiddenIn (Established link timer) config t HoldExpires wants turn =
    IsExpired timer t × (wants ≡ HoldExpired ∷ []) × (turn ≡ falls)
-- No record shows what TCP took of what was sent, and since when it takes nothing; and the standard
-- leaves the time to the operator. So the SendHoldTimer may expire at any second (profile). With a
-- Hold Time of 0 it is stopped (RFC 9687, 4).
HiddenIn (Established link timer) config t SendHoldExpires wants turn =
    IsRunning timer × (wants ≡ SendHoldExpired ∷ []) × (turn ≡ falls)
HiddenIn (Established link timer) config t KeepaliveExpires wants turn =
    IsRunning timer × (wants ≡ KeepAlive ∷ []) × (turn ≡ enters (Established link timer))
HiddenIn (Established link timer) config t ConnectionFails wants turn =
    (wants ≡ []) × (turn ≡ falls)
HiddenIn (Established link timer) config t Announces wants turn =
    (wants ≡ CleanUpdate ∷ []) × (turn ≡ enters (Established link timer))
HiddenIn (Established link timer) config t Notes wants turn =
    (wants ≡ []) × (turn ≡ enters (Established link timer))
HiddenIn head config t row wants turn = ⊥

-- the set is that of the subcodes which an UPDATE may be refused with, and there is one
pub record AreRefusals (link : Link) (octets : List ℕ) (subcodes : Subcodes) : Type 0 where
  pub each : (n : ℕ) → HasSubcode subcodes n ↔ IsOutcome link octets (Reset n)
  pub one : (n : ℕ) × IsOutcome link octets (Reset n)

-- ---- what a state does about a message that it receives at a second

-- what Connect and Active do, which are alike: the own OPEN isn't sent yet
abbrev pub UnopenedIn : Bool → ℕ → Heard → ReceivedRow → List Want → Turn → Type 0
UnopenedIn delay t (ValidOpen link e) Accepts wants turn =
    IsTrue delay × (wants ≡ OwnOpen ∷ KeepAlive ∷ [])
    × (turn ≡ enters (OpenConfirm link (settled link t)))
UnopenedIn delay t (ValidOpen link e) Drops wants turn = (wants ≡ []) × (turn ≡ falls)
UnopenedIn delay t (ValidOpen link e) NamesFault wants turn =
    (wants ≡ Faults (sets.Open e) ∷ []) × (turn ≡ falls)
UnopenedIn delay t (FaultyHeader f) Drops wants turn = (wants ≡ []) × (turn ≡ falls)
UnopenedIn delay t (FaultyHeader f) NamesFault wants turn =
    (wants ≡ Faults (sets.Header f) ∷ []) × (turn ≡ falls)
UnopenedIn delay t (InvalidOpen e) Drops wants turn = (wants ≡ []) × (turn ≡ falls)
UnopenedIn delay t (InvalidOpen e) NamesFault wants turn =
    (wants ≡ Faults (sets.Open e) ∷ []) × (turn ≡ falls)
UnopenedIn delay t BadVersion Drops wants turn = (wants ≡ []) × (turn ≡ falls)
UnopenedIn delay t Notification Drops wants turn = (wants ≡ []) × (turn ≡ falls)
UnopenedIn delay t Keepalive Drops wants turn = (wants ≡ []) × (turn ≡ falls)
UnopenedIn delay t Update Drops wants turn = (wants ≡ []) × (turn ≡ falls)
UnopenedIn delay t heard row wants turn = ⊥

abbrev pub ReceivedIn : Head → ℕ → List ℕ → Heard → ReceivedRow → List Want → Turn → Type 0
ReceivedIn Idle t octets heard Ignores wants turn = (wants ≡ []) × (turn ≡ enters Idle)
ReceivedIn (Connect delay) t octets heard row wants turn = UnopenedIn delay t heard row wants turn
ReceivedIn (Active delay) t octets heard row wants turn = UnopenedIn delay t heard row wants turn
ReceivedIn (OpenSent timer) t octets (ValidOpen link e) Accepts wants turn =
    (wants ≡ KeepAlive ∷ []) × (turn ≡ enters (OpenConfirm link (settled link t)))
ReceivedIn (OpenSent timer) t octets (ValidOpen link e) Collides wants turn =
    (wants ≡ Cease ∷ []) × (turn ≡ falls)
ReceivedIn (OpenSent timer) t octets (ValidOpen link e) NamesFault wants turn =
    (wants ≡ Faults (sets.Open e) ∷ []) × (turn ≡ falls)
ReceivedIn (OpenSent timer) t octets (FaultyHeader f) NamesFault wants turn =
    (wants ≡ Faults (sets.Header f) ∷ []) × (turn ≡ falls)
ReceivedIn (OpenSent timer) t octets (InvalidOpen e) NamesFault wants turn =
    (wants ≡ Faults (sets.Open e) ∷ []) × (turn ≡ falls)
ReceivedIn (OpenSent timer) t octets BadVersion Drops wants turn = (wants ≡ []) × (turn ≡ falls)
ReceivedIn (OpenSent timer) t octets Notification Drops wants turn = (wants ≡ []) × (turn ≡ falls)
ReceivedIn (OpenSent timer) t octets Notification ReportsError wants turn =
    (wants ≡ MachineError InOpenSent ∷ []) × (turn ≡ falls)
ReceivedIn (OpenSent timer) t octets Keepalive ReportsError wants turn =
    (wants ≡ MachineError InOpenSent ∷ []) × (turn ≡ falls)
ReceivedIn (OpenSent timer) t octets Update ReportsError wants turn =
    (wants ≡ MachineError InOpenSent ∷ []) × (turn ≡ falls)
ReceivedIn (OpenConfirm own timer) t octets (ValidOpen link e) Overlooks wants turn =
    (wants ≡ []) × (turn ≡ enters (OpenConfirm own timer))
ReceivedIn (OpenConfirm own timer) t octets (ValidOpen link e) Collides wants turn =
    (wants ≡ Cease ∷ []) × (turn ≡ falls)
ReceivedIn (OpenConfirm own timer) t octets (ValidOpen link e) NamesFault wants turn =
    (wants ≡ Faults (sets.Open e) ∷ []) × (turn ≡ falls)
ReceivedIn (OpenConfirm own timer) t octets (ValidOpen link e) ReportsError wants turn =
    (wants ≡ MachineError InOpenConfirm ∷ []) × (turn ≡ falls)
ReceivedIn (OpenConfirm own timer) t octets (FaultyHeader f) NamesFault wants turn =
    (wants ≡ Faults (sets.Header f) ∷ []) × (turn ≡ falls)
ReceivedIn (OpenConfirm own timer) t octets (InvalidOpen e) NamesFault wants turn =
    (wants ≡ Faults (sets.Open e) ∷ []) × (turn ≡ falls)
ReceivedIn (OpenConfirm own timer) t octets BadVersion Drops wants turn =
    (wants ≡ []) × (turn ≡ falls)
ReceivedIn (OpenConfirm own timer) t octets Notification Drops wants turn =
    (wants ≡ []) × (turn ≡ falls)
ReceivedIn (OpenConfirm own timer) t octets Keepalive Establishes wants turn =
    (wants ≡ []) × (turn ≡ enters (Established own (renewed timer t)))
ReceivedIn (OpenConfirm own timer) t octets Update ReportsError wants turn =
    (wants ≡ MachineError InOpenConfirm ∷ []) × (turn ≡ falls)
ReceivedIn (Established own timer) t octets (ValidOpen link e) Overlooks wants turn =
    (wants ≡ []) × (turn ≡ enters (Established own timer))
ReceivedIn (Established own timer) t octets (ValidOpen link e) Collides wants turn =
    (wants ≡ Cease ∷ []) × (turn ≡ falls)
ReceivedIn (Established own timer) t octets (ValidOpen link e) NamesFault wants turn =
    (wants ≡ Faults (sets.Open e) ∷ []) × (turn ≡ falls)
ReceivedIn (Established own timer) t octets (ValidOpen link e) ReportsError wants turn =
    (wants ≡ MachineError InEstablished ∷ []) × (turn ≡ falls)
ReceivedIn (Established own timer) t octets (FaultyHeader f) NamesFault wants turn =
    (wants ≡ Faults (sets.Header f) ∷ []) × (turn ≡ falls)
ReceivedIn (Established own timer) t octets (FaultyHeader f) ReportsError wants turn =
    (wants ≡ MachineError InEstablished ∷ []) × (turn ≡ falls)
ReceivedIn (Established own timer) t octets (InvalidOpen e) NamesFault wants turn =
    (wants ≡ Faults (sets.Open e) ∷ []) × (turn ≡ falls)
ReceivedIn (Established own timer) t octets (InvalidOpen e) ReportsError wants turn =
    (wants ≡ MachineError InEstablished ∷ []) × (turn ≡ falls)
ReceivedIn (Established own timer) t octets BadVersion Drops wants turn =
    (wants ≡ []) × (turn ≡ falls)
ReceivedIn (Established own timer) t octets Notification Drops wants turn =
    (wants ≡ []) × (turn ≡ falls)
ReceivedIn (Established own timer) t octets Keepalive Renews wants turn =
    (wants ≡ []) × (turn ≡ enters (Established own (renewed timer t)))
ReceivedIn (Established own timer) t octets Update NamesFault wants turn =
    (subcodes : Subcodes) × AreRefusals own octets subcodes
    × (wants ≡ Faults (sets.Update subcodes) ∷ []) × (turn ≡ falls)
ReceivedIn (Established own timer) t octets Update (Applies families) wants turn =
    (changes : RouteChanges) × IsOutcome own octets (Applied changes families) × (wants ≡ [])
    × (turn ≡ record { head = Established own (renewed timer t); routes = Given changes families })
ReceivedIn head t octets heard row wants turn = ⊥

-- ---- steps

-- what moves a session
pub data Event : Type 0 where
  Hidden : HiddenRow → Event
  Received : List ℕ → Event

-- a row of the tables, over what rows look at
abbrev pub Row : Head → Config → ℕ → Event → List Want → Turn → Type 0
Row head config t (Hidden row) wants turn = HiddenIn head config t row wants turn
Row head config t (Received octets) wants turn =
    (heard : Heard) × (row : ReceivedRow) × Hears config octets heard
    × ReceivedIn head t octets heard row wants turn

-- a step of the session machine
abbrev pub Step : Config → SessionState → ℕ → Event → List Want → SessionState → Type 0
Step config s t event wants s2 =
    (turn : Turn) × Row s.head config t event wants turn × (s2 ≡ moved s turn)

-- the change of state that a step shows: none where the state stays
abbrev pub changed : Fsm → Fsm → Option (Fsm × Fsm)
changed fsms.Idle fsms.Idle = None
changed fsms.Connect fsms.Connect = None
changed fsms.Active fsms.Active = None
changed fsms.OpenSent fsms.OpenSent = None
changed fsms.OpenConfirm fsms.OpenConfirm = None
changed fsms.Established fsms.Established = None
changed old new = Some (old, new)

-- but a note shows the state that it is in
abbrev pub hidden_change : HiddenRow → Fsm → Fsm → Option (Fsm × Fsm)
hidden_change Notes old new = Some (old, new)
hidden_change row old new = changed old new

abbrev pub change_of : Event → Fsm → Fsm → Option (Fsm × Fsm)
change_of (Hidden row) old new = hidden_change row old new
change_of (Received octets) old new = changed old new
