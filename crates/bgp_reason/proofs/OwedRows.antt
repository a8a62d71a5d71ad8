-- What the rows owe, a clause a row: nothing; what goes on with a session; or one message that ends it.
use Rattle.std.proofs.Common.{◌≡◌, ◌≤◌, ◌⊎◌, inl, inr, ℕ, List, [], ◌∷◌, None, Some, length, refl, sym, ap, subst, arith}
use Rattle.std.proofs.Math.Nat.{le_trans}
use Rattle.bgp_wire.specs.declared.header.HeaderFaults.{HeaderFaults}
use Rattle.bgp_wire.specs.Header.{header_of}
use Rattle.bgp_wire.specs.Verdict.{AreEachFault}
use Rattle.bgp_open.specs.declared.config.Config.{Config}
use Rattle.bgp_open.specs.declared.families.Families.{Families}
use Rattle.bgp_open.specs.declared.link.Link.{Link}
use Rattle.bgp_machine.specs.DeclaredSubcodes.{Subcodes}
use Rattle.bgp_machine.specs.Changes.{RouteChanges}
use Rattle.bgp_machine.specs.Outcome.{IsOutcome, Applied}
use Rattle.bgp_machine.specs.declared.fsm.Fsm.{Fsm}
use Rattle.bgp_machine.specs.declared.fsm.Fsm.TheVariants as fsms
use Rattle.bgp_machine.specs.declared.hearing.Heard.{Heard}
use Rattle.bgp_machine.specs.declared.hearing.Heard.TheVariants.{TooShort, ValidOpen, FaultyHeader, InvalidOpen, BadVersion, Notification, Keepalive, Update}
use Rattle.bgp_machine.specs.declared.rows.HiddenRow.{HiddenRow}
use Rattle.bgp_machine.specs.declared.rows.HiddenRow.TheVariants.{Starts, Listens, Stops, Ceases, RetryExpires, HoldExpires, SendHoldExpires, KeepaliveExpires, DelayExpires, ConnectionOpens, DelayBegins, ConnectionFails, Announces, Notes}
use Rattle.bgp_machine.specs.declared.rows.ReceivedRow.{ReceivedRow}
use Rattle.bgp_machine.specs.declared.rows.ReceivedRow.TheVariants.{Ignores, Accepts, Overlooks, Collides, Drops, NamesFault, ReportsError, Establishes, Renews, Applies}
use Rattle.bgp_machine.specs.declared.state.Head.{Head}
use Rattle.bgp_machine.specs.declared.state.Head.TheVariants.{Idle, Connect, Active, OpenSent, OpenConfirm, Established}
use Rattle.bgp_machine.specs.declared.state.HoldTimer.{HoldTimer}
use Rattle.bgp_machine.specs.declared.want.FaultSet.TheVariants as sets
use Rattle.bgp_machine.specs.declared.want.Unexpected.TheVariants.{InOpenSent, InOpenConfirm, InEstablished}
use Rattle.bgp_machine.specs.declared.want.Want.{Want}
use Rattle.bgp_machine.specs.declared.want.Want.TheVariants.{OwnOpen, KeepAlive, CleanUpdate, Cease, HoldExpired, SendHoldExpired, MachineError, Faults}
use Rattle.bgp_machine.specs.Heard.{Hears, received_limit}
use Rattle.bgp_machine.specs.Lists.{Each}
use Rattle.bgp_machine.specs.State.{Turn, Given, enters, falls, fsm_of, renewed, waiting}
use Rattle.bgp_machine.specs.Step.{AreRefusals, HiddenIn, ReceivedIn, changed, hidden_change}

-- an OPEN or a KEEPALIVE, by which a session goes on
abbrev pub IsGoing : Want → Type 0
IsGoing OwnOpen = Unit {0}
IsGoing KeepAlive = Unit {0}
IsGoing want = ⊥

-- the faults of a header
abbrev pub IsHeaderOf : Config → List ℕ → HeaderFaults → Type 0
IsHeaderOf config octets faults = (19 ≤ length octets) × AreEachFault (received_limit config) (header_of octets) faults

-- a row that isn't a note
abbrev pub IsNoNote : HiddenRow → Type 0
IsNoNote Notes = ⊥
IsNoNote row = Unit {0}

-- ---- what a state does by itself

-- nothing is owed, or one message; that is an OPEN or a KEEPALIVE, or no state is told, or Idle
abbrev pub HiddenOwes : Head → HiddenRow → List Want → Turn → Type 0
HiddenOwes head row wants turn =
    (wants ≡ []) ⊎ ((want : Want) × (wants ≡ want ∷ []) × (IsGoing want
    ⊎ ((head ≡ Idle → ⊥) × ((f : HeaderFaults) → want ≡ Faults (sets.Header f) → ⊥)
    × (((fsm_of turn.head ≡ fsm_of head) × IsNoNote row) ⊎ (turn ≡ falls)))))

pub hidden_owes : (head : Head) (config : Config) (t : ℕ) (row : HiddenRow) (wants : List Want) (turn : Turn) → HiddenIn head config t row wants turn → HiddenOwes head row wants turn
hidden_owes Idle config t Starts wants turn h = inl h.0
hidden_owes Idle config t Listens wants turn h = inl h.0
hidden_owes Idle config t Stops wants turn h = absurd h
hidden_owes Idle config t Ceases wants turn h = absurd h
hidden_owes Idle config t RetryExpires wants turn h = absurd h
hidden_owes Idle config t HoldExpires wants turn h = absurd h
hidden_owes Idle config t SendHoldExpires wants turn h = absurd h
hidden_owes Idle config t KeepaliveExpires wants turn h = absurd h
hidden_owes Idle config t DelayExpires wants turn h = absurd h
hidden_owes Idle config t ConnectionOpens wants turn h = absurd h
hidden_owes Idle config t DelayBegins wants turn h = absurd h
hidden_owes Idle config t ConnectionFails wants turn h = absurd h
hidden_owes Idle config t Announces wants turn h = absurd h
hidden_owes Idle config t Notes wants turn h = inl h.0
hidden_owes (Connect delay) config t Starts wants turn h = absurd h
hidden_owes (Connect delay) config t Listens wants turn h = absurd h
hidden_owes (Connect delay) config t Stops wants turn h = inl h.0
hidden_owes (Connect delay) config t Ceases wants turn h = absurd h
hidden_owes (Connect delay) config t RetryExpires wants turn h = inl h.0
hidden_owes (Connect delay) config t HoldExpires wants turn h = absurd h
hidden_owes (Connect delay) config t SendHoldExpires wants turn h = absurd h
hidden_owes (Connect delay) config t KeepaliveExpires wants turn h = absurd h
hidden_owes (Connect delay) config t DelayExpires wants turn h = inr (OwnOpen, h.1, inl tt)
hidden_owes (Connect delay) config t ConnectionOpens wants turn h = inr (OwnOpen, h.0, inl tt)
hidden_owes (Connect delay) config t DelayBegins wants turn h = inl h.1
hidden_owes (Connect delay) config t ConnectionFails wants turn h = inl h.0
hidden_owes (Connect delay) config t Announces wants turn h = absurd h
hidden_owes (Connect delay) config t Notes wants turn h = inl h.0
hidden_owes (Active delay) config t Starts wants turn h = absurd h
hidden_owes (Active delay) config t Listens wants turn h = absurd h
hidden_owes (Active delay) config t Stops wants turn h = inl h.0
hidden_owes (Active delay) config t Ceases wants turn h = inr (Cease, h.1, inr (λ e. cc, λ f e. cc, inr h.2))
hidden_owes (Active delay) config t RetryExpires wants turn h = inl h.0
hidden_owes (Active delay) config t HoldExpires wants turn h = absurd h
hidden_owes (Active delay) config t SendHoldExpires wants turn h = absurd h
hidden_owes (Active delay) config t KeepaliveExpires wants turn h = absurd h
hidden_owes (Active delay) config t DelayExpires wants turn h = inr (OwnOpen, h.1, inl tt)
hidden_owes (Active delay) config t ConnectionOpens wants turn h = inr (OwnOpen, h.0, inl tt)
hidden_owes (Active delay) config t DelayBegins wants turn h = inl h.1
hidden_owes (Active delay) config t ConnectionFails wants turn h = inl h.0
hidden_owes (Active delay) config t Announces wants turn h = absurd h
hidden_owes (Active delay) config t Notes wants turn h = inl h.0
hidden_owes (OpenSent timer) config t Starts wants turn h = absurd h
hidden_owes (OpenSent timer) config t Listens wants turn h = absurd h
hidden_owes (OpenSent timer) config t Stops wants turn h = absurd h
hidden_owes (OpenSent timer) config t Ceases wants turn h = inr (Cease, h.0, inr (λ e. cc, λ f e. cc, inr h.1))
hidden_owes (OpenSent timer) config t RetryExpires wants turn h = absurd h
hidden_owes (OpenSent timer) config t HoldExpires wants turn h = inr (HoldExpired, h.1, inr (λ e. cc, λ f e. cc, inr h.2))
hidden_owes (OpenSent timer) config t SendHoldExpires wants turn h = absurd h
hidden_owes (OpenSent timer) config t KeepaliveExpires wants turn h = absurd h
hidden_owes (OpenSent timer) config t DelayExpires wants turn h = absurd h
hidden_owes (OpenSent timer) config t ConnectionOpens wants turn h = absurd h
hidden_owes (OpenSent timer) config t DelayBegins wants turn h = absurd h
hidden_owes (OpenSent timer) config t ConnectionFails wants turn h = inl h.0
hidden_owes (OpenSent timer) config t Announces wants turn h = absurd h
hidden_owes (OpenSent timer) config t Notes wants turn h = inl h.0
hidden_owes (OpenConfirm link timer) config t Starts wants turn h = absurd h
hidden_owes (OpenConfirm link timer) config t Listens wants turn h = absurd h
hidden_owes (OpenConfirm link timer) config t Stops wants turn h = absurd h
hidden_owes (OpenConfirm link timer) config t Ceases wants turn h = inr (Cease, h.0, inr (λ e. cc, λ f e. cc, inr h.1))
hidden_owes (OpenConfirm link timer) config t RetryExpires wants turn h = absurd h
hidden_owes (OpenConfirm link timer) config t HoldExpires wants turn h = inr (HoldExpired, h.1, inr (λ e. cc, λ f e. cc, inr h.2))
hidden_owes (OpenConfirm link timer) config t SendHoldExpires wants turn h = absurd h
hidden_owes (OpenConfirm link timer) config t KeepaliveExpires wants turn h = inr (KeepAlive, h.1, inl tt)
hidden_owes (OpenConfirm link timer) config t DelayExpires wants turn h = absurd h
hidden_owes (OpenConfirm link timer) config t ConnectionOpens wants turn h = absurd h
hidden_owes (OpenConfirm link timer) config t DelayBegins wants turn h = absurd h
hidden_owes (OpenConfirm link timer) config t ConnectionFails wants turn h = inl h.0
hidden_owes (OpenConfirm link timer) config t Announces wants turn h = absurd h
hidden_owes (OpenConfirm link timer) config t Notes wants turn h = inl h.0
hidden_owes (Established link timer) config t Starts wants turn h = absurd h
hidden_owes (Established link timer) config t Listens wants turn h = absurd h
hidden_owes (Established link timer) config t Stops wants turn h = absurd h
hidden_owes (Established link timer) config t Ceases wants turn h = inr (Cease, h.0, inr (λ e. cc, λ f e. cc, inr h.1))
hidden_owes (Established link timer) config t RetryExpires wants turn h = absurd h
hidden_owes (Established link timer) config t HoldExpires wants turn h = inr (HoldExpired, h.1, inr (λ e. cc, λ f e. cc, inr h.2))
hidden_owes (Established link timer) config t SendHoldExpires wants turn h = inr (SendHoldExpired, h.1, inr (λ e. cc, λ f e. cc, inr h.2))
hidden_owes (Established link timer) config t KeepaliveExpires wants turn h = inr (KeepAlive, h.1, inl tt)
hidden_owes (Established link timer) config t DelayExpires wants turn h = absurd h
hidden_owes (Established link timer) config t ConnectionOpens wants turn h = absurd h
hidden_owes (Established link timer) config t DelayBegins wants turn h = absurd h
hidden_owes (Established link timer) config t ConnectionFails wants turn h = inl h.0
hidden_owes (Established link timer) config t Announces wants turn h = inr (CleanUpdate, h.0, inr (λ e. cc, λ f e. cc, inl (ap (λ (v : Turn). fsm_of v.head) h.1, tt)))
hidden_owes (Established link timer) config t Notes wants turn h = inl h.0

-- a row at another second: it is there at each, but for the HoldTimer's, which is there at a later one, and then a Cease is too
pub hidden_at : (head : Head) (config : Config) (t u : ℕ) (row : HiddenRow) (wants : List Want) (turn : Turn) → HiddenIn head config t row wants turn
    → ((turn2 : Turn) × HiddenIn head config u row wants turn2 × (fsm_of turn2.head ≡ fsm_of turn.head))
    ⊎ ((t ≤ u → HiddenIn head config u row wants turn) × (wants ≡ HoldExpired ∷ []) × (row ≡ HoldExpires) × (turn ≡ falls) × HiddenIn head config u Ceases (Cease ∷ []) falls)
hidden_at Idle config t u Starts wants turn h = inl (turn, h, refl)
hidden_at Idle config t u Listens wants turn h = inl (turn, h, refl)
hidden_at Idle config t u Stops wants turn h = absurd h
hidden_at Idle config t u Ceases wants turn h = absurd h
hidden_at Idle config t u RetryExpires wants turn h = absurd h
hidden_at Idle config t u HoldExpires wants turn h = absurd h
hidden_at Idle config t u SendHoldExpires wants turn h = absurd h
hidden_at Idle config t u KeepaliveExpires wants turn h = absurd h
hidden_at Idle config t u DelayExpires wants turn h = absurd h
hidden_at Idle config t u ConnectionOpens wants turn h = absurd h
hidden_at Idle config t u DelayBegins wants turn h = absurd h
hidden_at Idle config t u ConnectionFails wants turn h = absurd h
hidden_at Idle config t u Announces wants turn h = absurd h
hidden_at Idle config t u Notes wants turn h = inl (turn, h, refl)
hidden_at (Connect delay) config t u Starts wants turn h = absurd h
hidden_at (Connect delay) config t u Listens wants turn h = absurd h
hidden_at (Connect delay) config t u Stops wants turn h = inl (turn, h, refl)
hidden_at (Connect delay) config t u Ceases wants turn h = absurd h
hidden_at (Connect delay) config t u RetryExpires wants turn h = inl (turn, h, refl)
hidden_at (Connect delay) config t u HoldExpires wants turn h = absurd h
hidden_at (Connect delay) config t u SendHoldExpires wants turn h = absurd h
hidden_at (Connect delay) config t u KeepaliveExpires wants turn h = absurd h
hidden_at (Connect delay) config t u DelayExpires wants turn h = inl (enters (waiting config u), (h.0, h.1, refl), sym (ap (λ (x : Turn). fsm_of x.head) h.2))
hidden_at (Connect delay) config t u ConnectionOpens wants turn h = inl (enters (waiting config u), (h.0, refl), sym (ap (λ (x : Turn). fsm_of x.head) h.1))
hidden_at (Connect delay) config t u DelayBegins wants turn h = inl (turn, h, refl)
hidden_at (Connect delay) config t u ConnectionFails wants turn h = inl (turn, h, refl)
hidden_at (Connect delay) config t u Announces wants turn h = absurd h
hidden_at (Connect delay) config t u Notes wants turn h = inl (turn, h, refl)
hidden_at (Active delay) config t u Starts wants turn h = absurd h
hidden_at (Active delay) config t u Listens wants turn h = absurd h
hidden_at (Active delay) config t u Stops wants turn h = inl (turn, h, refl)
hidden_at (Active delay) config t u Ceases wants turn h = inl (turn, h, refl)
hidden_at (Active delay) config t u RetryExpires wants turn h = inl (turn, h, refl)
hidden_at (Active delay) config t u HoldExpires wants turn h = absurd h
hidden_at (Active delay) config t u SendHoldExpires wants turn h = absurd h
hidden_at (Active delay) config t u KeepaliveExpires wants turn h = absurd h
hidden_at (Active delay) config t u DelayExpires wants turn h = inl (enters (waiting config u), (h.0, h.1, refl), sym (ap (λ (x : Turn). fsm_of x.head) h.2))
hidden_at (Active delay) config t u ConnectionOpens wants turn h = inl (enters (waiting config u), (h.0, refl), sym (ap (λ (x : Turn). fsm_of x.head) h.1))
hidden_at (Active delay) config t u DelayBegins wants turn h = inl (turn, h, refl)
hidden_at (Active delay) config t u ConnectionFails wants turn h = inl (turn, h, refl)
hidden_at (Active delay) config t u Announces wants turn h = absurd h
hidden_at (Active delay) config t u Notes wants turn h = inl (turn, h, refl)
hidden_at (OpenSent timer) config t u Starts wants turn h = absurd h
hidden_at (OpenSent timer) config t u Listens wants turn h = absurd h
hidden_at (OpenSent timer) config t u Stops wants turn h = absurd h
hidden_at (OpenSent timer) config t u Ceases wants turn h = inl (turn, h, refl)
hidden_at (OpenSent timer) config t u RetryExpires wants turn h = absurd h
hidden_at (OpenSent timer) config t u HoldExpires wants turn h = inr (λ le. ((h.0.0, le_trans h.0.1 le), h.1, h.2), h.1, refl, h.2, (refl, refl))
hidden_at (OpenSent timer) config t u SendHoldExpires wants turn h = absurd h
hidden_at (OpenSent timer) config t u KeepaliveExpires wants turn h = absurd h
hidden_at (OpenSent timer) config t u DelayExpires wants turn h = absurd h
hidden_at (OpenSent timer) config t u ConnectionOpens wants turn h = absurd h
hidden_at (OpenSent timer) config t u DelayBegins wants turn h = absurd h
hidden_at (OpenSent timer) config t u ConnectionFails wants turn h = inl (turn, h, refl)
hidden_at (OpenSent timer) config t u Announces wants turn h = absurd h
hidden_at (OpenSent timer) config t u Notes wants turn h = inl (turn, h, refl)
hidden_at (OpenConfirm link timer) config t u Starts wants turn h = absurd h
hidden_at (OpenConfirm link timer) config t u Listens wants turn h = absurd h
hidden_at (OpenConfirm link timer) config t u Stops wants turn h = absurd h
hidden_at (OpenConfirm link timer) config t u Ceases wants turn h = inl (turn, h, refl)
hidden_at (OpenConfirm link timer) config t u RetryExpires wants turn h = absurd h
hidden_at (OpenConfirm link timer) config t u HoldExpires wants turn h = inr (λ le. ((h.0.0, le_trans h.0.1 le), h.1, h.2), h.1, refl, h.2, (refl, refl))
hidden_at (OpenConfirm link timer) config t u SendHoldExpires wants turn h = absurd h
hidden_at (OpenConfirm link timer) config t u KeepaliveExpires wants turn h = inl (turn, h, refl)
hidden_at (OpenConfirm link timer) config t u DelayExpires wants turn h = absurd h
hidden_at (OpenConfirm link timer) config t u ConnectionOpens wants turn h = absurd h
hidden_at (OpenConfirm link timer) config t u DelayBegins wants turn h = absurd h
hidden_at (OpenConfirm link timer) config t u ConnectionFails wants turn h = inl (turn, h, refl)
hidden_at (OpenConfirm link timer) config t u Announces wants turn h = absurd h
hidden_at (OpenConfirm link timer) config t u Notes wants turn h = inl (turn, h, refl)
hidden_at (Established link timer) config t u Starts wants turn h = absurd h
hidden_at (Established link timer) config t u Listens wants turn h = absurd h
hidden_at (Established link timer) config t u Stops wants turn h = absurd h
hidden_at (Established link timer) config t u Ceases wants turn h = inl (turn, h, refl)
hidden_at (Established link timer) config t u RetryExpires wants turn h = absurd h
hidden_at (Established link timer) config t u HoldExpires wants turn h = inr (λ le. ((h.0.0, le_trans h.0.1 le), h.1, h.2), h.1, refl, h.2, (refl, refl))
hidden_at (Established link timer) config t u SendHoldExpires wants turn h = inl (turn, h, refl)
hidden_at (Established link timer) config t u KeepaliveExpires wants turn h = inl (turn, h, refl)
hidden_at (Established link timer) config t u DelayExpires wants turn h = absurd h
hidden_at (Established link timer) config t u ConnectionOpens wants turn h = absurd h
hidden_at (Established link timer) config t u DelayBegins wants turn h = absurd h
hidden_at (Established link timer) config t u ConnectionFails wants turn h = inl (turn, h, refl)
hidden_at (Established link timer) config t u Announces wants turn h = inl (turn, h, refl)
hidden_at (Established link timer) config t u Notes wants turn h = inl (turn, h, refl)

-- ---- what it does about a message

going_none : (wants : List Want) → wants ≡ [] → Each IsGoing wants
going_none wants e = subst (Each IsGoing) (sym e) tt

going_one : (wants : List Want) → wants ≡ KeepAlive ∷ [] → Each IsGoing wants
going_one wants e = subst (Each IsGoing) (sym e) (tt, tt)

going_two : (wants : List Want) → wants ≡ OwnOpen ∷ KeepAlive ∷ [] → Each IsGoing wants
going_two wants e = subst (Each IsGoing) (sym e) (tt, (tt, tt))

same_header : (k f : HeaderFaults) → Faults (sets.Header k) ≡ Faults (sets.Header f) → k ≡ f
same_header k f e = cc

header_so : (config : Config) (octets : List ℕ) (k f : HeaderFaults) → Hears config octets (FaultyHeader k) → Faults (sets.Header k) ≡ Faults (sets.Header f) → IsHeaderOf config octets f
header_so config octets k f s e = subst (IsHeaderOf config octets) (same_header k f e) (s.0, s.2)

-- the session goes on, or one message ends it
abbrev pub HeardOwes : Head → Config → List ℕ → List Want → Turn → Type 0
HeardOwes head config octets wants turn =
    Each IsGoing wants ⊎ ((want : Want) × (wants ≡ want ∷ []) × (turn ≡ falls) × (head ≡ Idle → ⊥)
    × ((f : HeaderFaults) → want ≡ Faults (sets.Header f) → IsHeaderOf config octets f))

pub heard_owes : (head : Head) (config : Config) (t : ℕ) (octets : List ℕ) (heard : Heard) (row : ReceivedRow) (wants : List Want) (turn : Turn)
    → Hears config octets heard → ReceivedIn head t octets heard row wants turn → HeardOwes head config octets wants turn
heard_owes Idle config t octets heard Ignores wants turn s h = inl (going_none wants h.0)
heard_owes (Connect delay) config t octets (ValidOpen l e) Accepts wants turn s h = inl (going_two wants h.1)
heard_owes (Connect delay) config t octets (ValidOpen l e) Drops wants turn s h = inl (going_none wants h.0)
heard_owes (Connect delay) config t octets (ValidOpen l e) NamesFault wants turn s h = inr (Faults (sets.Open e), h.0, h.1, λ e. cc, λ f e. cc)
heard_owes (Connect delay) config t octets (FaultyHeader k) Drops wants turn s h = inl (going_none wants h.0)
heard_owes (Connect delay) config t octets (FaultyHeader k) NamesFault wants turn s h = inr (Faults (sets.Header k), h.0, h.1, λ e. cc, λ f e. header_so config octets k f s e)
heard_owes (Connect delay) config t octets (InvalidOpen e) Drops wants turn s h = inl (going_none wants h.0)
heard_owes (Connect delay) config t octets (InvalidOpen e) NamesFault wants turn s h = inr (Faults (sets.Open e), h.0, h.1, λ e. cc, λ f e. cc)
heard_owes (Connect delay) config t octets BadVersion Drops wants turn s h = inl (going_none wants h.0)
heard_owes (Connect delay) config t octets Notification Drops wants turn s h = inl (going_none wants h.0)
heard_owes (Connect delay) config t octets Keepalive Drops wants turn s h = inl (going_none wants h.0)
heard_owes (Connect delay) config t octets Update Drops wants turn s h = inl (going_none wants h.0)
heard_owes (Active delay) config t octets (ValidOpen l e) Accepts wants turn s h = inl (going_two wants h.1)
heard_owes (Active delay) config t octets (ValidOpen l e) Drops wants turn s h = inl (going_none wants h.0)
heard_owes (Active delay) config t octets (ValidOpen l e) NamesFault wants turn s h = inr (Faults (sets.Open e), h.0, h.1, λ e. cc, λ f e. cc)
heard_owes (Active delay) config t octets (FaultyHeader k) Drops wants turn s h = inl (going_none wants h.0)
heard_owes (Active delay) config t octets (FaultyHeader k) NamesFault wants turn s h = inr (Faults (sets.Header k), h.0, h.1, λ e. cc, λ f e. header_so config octets k f s e)
heard_owes (Active delay) config t octets (InvalidOpen e) Drops wants turn s h = inl (going_none wants h.0)
heard_owes (Active delay) config t octets (InvalidOpen e) NamesFault wants turn s h = inr (Faults (sets.Open e), h.0, h.1, λ e. cc, λ f e. cc)
heard_owes (Active delay) config t octets BadVersion Drops wants turn s h = inl (going_none wants h.0)
heard_owes (Active delay) config t octets Notification Drops wants turn s h = inl (going_none wants h.0)
heard_owes (Active delay) config t octets Keepalive Drops wants turn s h = inl (going_none wants h.0)
heard_owes (Active delay) config t octets Update Drops wants turn s h = inl (going_none wants h.0)
heard_owes (OpenSent timer) config t octets (ValidOpen l e) Accepts wants turn s h = inl (going_one wants h.0)
heard_owes (OpenSent timer) config t octets (ValidOpen l e) Collides wants turn s h = inr (Cease, h.0, h.1, λ e. cc, λ f e. cc)
heard_owes (OpenSent timer) config t octets (ValidOpen l e) NamesFault wants turn s h = inr (Faults (sets.Open e), h.0, h.1, λ e. cc, λ f e. cc)
heard_owes (OpenSent timer) config t octets (FaultyHeader k) NamesFault wants turn s h = inr (Faults (sets.Header k), h.0, h.1, λ e. cc, λ f e. header_so config octets k f s e)
heard_owes (OpenSent timer) config t octets (InvalidOpen e) NamesFault wants turn s h = inr (Faults (sets.Open e), h.0, h.1, λ e. cc, λ f e. cc)
heard_owes (OpenSent timer) config t octets BadVersion Drops wants turn s h = inl (going_none wants h.0)
heard_owes (OpenSent timer) config t octets Notification Drops wants turn s h = inl (going_none wants h.0)
heard_owes (OpenSent timer) config t octets Notification ReportsError wants turn s h = inr (MachineError InOpenSent, h.0, h.1, λ e. cc, λ f e. cc)
heard_owes (OpenSent timer) config t octets Keepalive ReportsError wants turn s h = inr (MachineError InOpenSent, h.0, h.1, λ e. cc, λ f e. cc)
heard_owes (OpenSent timer) config t octets Update ReportsError wants turn s h = inr (MachineError InOpenSent, h.0, h.1, λ e. cc, λ f e. cc)
heard_owes (OpenConfirm link timer) config t octets (ValidOpen l e) Overlooks wants turn s h = inl (going_none wants h.0)
heard_owes (OpenConfirm link timer) config t octets (ValidOpen l e) Collides wants turn s h = inr (Cease, h.0, h.1, λ e. cc, λ f e. cc)
heard_owes (OpenConfirm link timer) config t octets (ValidOpen l e) NamesFault wants turn s h = inr (Faults (sets.Open e), h.0, h.1, λ e. cc, λ f e. cc)
heard_owes (OpenConfirm link timer) config t octets (ValidOpen l e) ReportsError wants turn s h = inr (MachineError InOpenConfirm, h.0, h.1, λ e. cc, λ f e. cc)
heard_owes (OpenConfirm link timer) config t octets (FaultyHeader k) NamesFault wants turn s h = inr (Faults (sets.Header k), h.0, h.1, λ e. cc, λ f e. header_so config octets k f s e)
heard_owes (OpenConfirm link timer) config t octets (InvalidOpen e) NamesFault wants turn s h = inr (Faults (sets.Open e), h.0, h.1, λ e. cc, λ f e. cc)
heard_owes (OpenConfirm link timer) config t octets BadVersion Drops wants turn s h = inl (going_none wants h.0)
heard_owes (OpenConfirm link timer) config t octets Notification Drops wants turn s h = inl (going_none wants h.0)
heard_owes (OpenConfirm link timer) config t octets Keepalive Establishes wants turn s h = inl (going_none wants h.0)
heard_owes (OpenConfirm link timer) config t octets Update ReportsError wants turn s h = inr (MachineError InOpenConfirm, h.0, h.1, λ e. cc, λ f e. cc)
heard_owes (Established link timer) config t octets (ValidOpen l e) Overlooks wants turn s h = inl (going_none wants h.0)
heard_owes (Established link timer) config t octets (ValidOpen l e) Collides wants turn s h = inr (Cease, h.0, h.1, λ e. cc, λ f e. cc)
heard_owes (Established link timer) config t octets (ValidOpen l e) NamesFault wants turn s h = inr (Faults (sets.Open e), h.0, h.1, λ e. cc, λ f e. cc)
heard_owes (Established link timer) config t octets (ValidOpen l e) ReportsError wants turn s h = inr (MachineError InEstablished, h.0, h.1, λ e. cc, λ f e. cc)
heard_owes (Established link timer) config t octets (FaultyHeader k) NamesFault wants turn s h = inr (Faults (sets.Header k), h.0, h.1, λ e. cc, λ f e. header_so config octets k f s e)
heard_owes (Established link timer) config t octets (FaultyHeader k) ReportsError wants turn s h = inr (MachineError InEstablished, h.0, h.1, λ e. cc, λ f e. cc)
heard_owes (Established link timer) config t octets (InvalidOpen e) NamesFault wants turn s h = inr (Faults (sets.Open e), h.0, h.1, λ e. cc, λ f e. cc)
heard_owes (Established link timer) config t octets (InvalidOpen e) ReportsError wants turn s h = inr (MachineError InEstablished, h.0, h.1, λ e. cc, λ f e. cc)
heard_owes (Established link timer) config t octets BadVersion Drops wants turn s h = inl (going_none wants h.0)
heard_owes (Established link timer) config t octets Notification Drops wants turn s h = inl (going_none wants h.0)
heard_owes (Established link timer) config t octets Keepalive Renews wants turn s h = inl (going_none wants h.0)
heard_owes (Established link timer) config t octets Update NamesFault wants turn s h = inr (Faults (sets.Update h.0), h.2, h.3, λ e. cc, λ f e. cc)
heard_owes (Established link timer) config t octets Update (Applies g) wants turn s h = inl (going_none wants h.2)
heard_owes head config t octets heard row wants turn s h = absurd h

-- ---- each message has a row

abbrev Taken : Head → ℕ → List ℕ → Heard → Type 0
Taken head t octets heard = (row : ReceivedRow) × (wants : List Want) × (turn : Turn) × ReceivedIn head t octets heard row wants turn

abbrev pub IsSettledAt : Head → List ℕ → Type 0
IsSettledAt (Established link timer) octets =
    ((subcodes : Subcodes) × AreRefusals link octets subcodes)
    ⊎ ((changes : RouteChanges) × (families : Families) × IsOutcome link octets (Applied changes families))
IsSettledAt head octets = Unit {0}

update_row : (link : Link) (timer : HoldTimer) (t : ℕ) (octets : List ℕ) → IsSettledAt (Established link timer) octets → Taken (Established link timer) t octets Update
update_row link timer t octets (inl x) = (NamesFault, Faults (sets.Update x.0) ∷ [], falls, (x.0, x.1, refl, refl))
update_row link timer t octets (inr x) =
    (Applies x.1, [], record { head = Established link (renewed timer t); routes = Given x.0 x.1 }, (x.0, x.2, refl, refl))

pub has_row : (head : Head) (config : Config) (t : ℕ) (octets : List ℕ) (heard : Heard) → Hears config octets heard → 19 ≤ length octets → (heard ≡ Update → IsSettledAt head octets) → Taken head t octets heard
has_row Idle config t octets heard s whole settled = (Ignores, [], enters Idle, (refl, refl))
has_row (Connect delay) config t octets TooShort s whole settled = absurd (omega (arith, s, whole))
has_row (Active delay) config t octets TooShort s whole settled = absurd (omega (arith, s, whole))
has_row (OpenSent timer) config t octets TooShort s whole settled = absurd (omega (arith, s, whole))
has_row (OpenConfirm link timer) config t octets TooShort s whole settled = absurd (omega (arith, s, whole))
has_row (Established link timer) config t octets TooShort s whole settled = absurd (omega (arith, s, whole))
has_row (Connect delay) config t octets (ValidOpen l e) s whole settled = (Drops, [], falls, (refl, refl))
has_row (Connect delay) config t octets (FaultyHeader k) s whole settled = (Drops, [], falls, (refl, refl))
has_row (Connect delay) config t octets (InvalidOpen e) s whole settled = (Drops, [], falls, (refl, refl))
has_row (Connect delay) config t octets BadVersion s whole settled = (Drops, [], falls, (refl, refl))
has_row (Connect delay) config t octets Notification s whole settled = (Drops, [], falls, (refl, refl))
has_row (Connect delay) config t octets Keepalive s whole settled = (Drops, [], falls, (refl, refl))
has_row (Connect delay) config t octets Update s whole settled = (Drops, [], falls, (refl, refl))
has_row (Active delay) config t octets (ValidOpen l e) s whole settled = (Drops, [], falls, (refl, refl))
has_row (Active delay) config t octets (FaultyHeader k) s whole settled = (Drops, [], falls, (refl, refl))
has_row (Active delay) config t octets (InvalidOpen e) s whole settled = (Drops, [], falls, (refl, refl))
has_row (Active delay) config t octets BadVersion s whole settled = (Drops, [], falls, (refl, refl))
has_row (Active delay) config t octets Notification s whole settled = (Drops, [], falls, (refl, refl))
has_row (Active delay) config t octets Keepalive s whole settled = (Drops, [], falls, (refl, refl))
has_row (Active delay) config t octets Update s whole settled = (Drops, [], falls, (refl, refl))
has_row (OpenSent timer) config t octets (ValidOpen l e) s whole settled = (Collides, Cease ∷ [], falls, (refl, refl))
has_row (OpenSent timer) config t octets (FaultyHeader k) s whole settled = (NamesFault, Faults (sets.Header k) ∷ [], falls, (refl, refl))
has_row (OpenSent timer) config t octets (InvalidOpen e) s whole settled = (NamesFault, Faults (sets.Open e) ∷ [], falls, (refl, refl))
has_row (OpenSent timer) config t octets BadVersion s whole settled = (Drops, [], falls, (refl, refl))
has_row (OpenSent timer) config t octets Notification s whole settled = (Drops, [], falls, (refl, refl))
has_row (OpenSent timer) config t octets Keepalive s whole settled = (ReportsError, MachineError InOpenSent ∷ [], falls, (refl, refl))
has_row (OpenSent timer) config t octets Update s whole settled = (ReportsError, MachineError InOpenSent ∷ [], falls, (refl, refl))
has_row (OpenConfirm link timer) config t octets (ValidOpen l e) s whole settled = (Overlooks, [], enters (OpenConfirm link timer), (refl, refl))
has_row (OpenConfirm link timer) config t octets (FaultyHeader k) s whole settled = (NamesFault, Faults (sets.Header k) ∷ [], falls, (refl, refl))
has_row (OpenConfirm link timer) config t octets (InvalidOpen e) s whole settled = (NamesFault, Faults (sets.Open e) ∷ [], falls, (refl, refl))
has_row (OpenConfirm link timer) config t octets BadVersion s whole settled = (Drops, [], falls, (refl, refl))
has_row (OpenConfirm link timer) config t octets Notification s whole settled = (Drops, [], falls, (refl, refl))
has_row (OpenConfirm link timer) config t octets Keepalive s whole settled = (Establishes, [], enters (Established link (renewed timer t)), (refl, refl))
has_row (OpenConfirm link timer) config t octets Update s whole settled = (ReportsError, MachineError InOpenConfirm ∷ [], falls, (refl, refl))
has_row (Established link timer) config t octets (ValidOpen l e) s whole settled = (Overlooks, [], enters (Established link timer), (refl, refl))
has_row (Established link timer) config t octets (FaultyHeader k) s whole settled = (NamesFault, Faults (sets.Header k) ∷ [], falls, (refl, refl))
has_row (Established link timer) config t octets (InvalidOpen e) s whole settled = (NamesFault, Faults (sets.Open e) ∷ [], falls, (refl, refl))
has_row (Established link timer) config t octets BadVersion s whole settled = (Drops, [], falls, (refl, refl))
has_row (Established link timer) config t octets Notification s whole settled = (Drops, [], falls, (refl, refl))
has_row (Established link timer) config t octets Keepalive s whole settled = (Renews, [], enters (Established link (renewed timer t)), (refl, refl))
has_row (Established link timer) config t octets Update s whole settled = update_row link timer t octets (settled refl)

-- ---- a change of state leaves the old one, and leads to the new one

pub none_some : {X : Type 0} (x : X) → None ≡ Some x → ⊥
none_some x e = cc

some_inj : {X : Type 0} (x y : X) → Some x ≡ Some y → x ≡ y
some_inj x y e = cc

pub some_so : {X : Type 0} (x y : X) → Some x ≡ Some y → y ≡ x
some_so x y e = sym (some_inj x y e)

pub changed_so : (old new : Fsm) (c : Fsm × Fsm) → changed old new ≡ Some c → (c.0 ≡ old) × (c.1 ≡ new)
changed_so fsms.Idle fsms.Idle c e = absurd (none_some c e)
changed_so fsms.Idle fsms.Connect c e = (ap (λ (x : Fsm × Fsm). x.0) (some_so (fsms.Idle, fsms.Connect) c e), ap (λ (x : Fsm × Fsm). x.1) (some_so (fsms.Idle, fsms.Connect) c e))
changed_so fsms.Idle fsms.Active c e = (ap (λ (x : Fsm × Fsm). x.0) (some_so (fsms.Idle, fsms.Active) c e), ap (λ (x : Fsm × Fsm). x.1) (some_so (fsms.Idle, fsms.Active) c e))
changed_so fsms.Idle fsms.OpenSent c e = (ap (λ (x : Fsm × Fsm). x.0) (some_so (fsms.Idle, fsms.OpenSent) c e), ap (λ (x : Fsm × Fsm). x.1) (some_so (fsms.Idle, fsms.OpenSent) c e))
changed_so fsms.Idle fsms.OpenConfirm c e = (ap (λ (x : Fsm × Fsm). x.0) (some_so (fsms.Idle, fsms.OpenConfirm) c e), ap (λ (x : Fsm × Fsm). x.1) (some_so (fsms.Idle, fsms.OpenConfirm) c e))
changed_so fsms.Idle fsms.Established c e = (ap (λ (x : Fsm × Fsm). x.0) (some_so (fsms.Idle, fsms.Established) c e), ap (λ (x : Fsm × Fsm). x.1) (some_so (fsms.Idle, fsms.Established) c e))
changed_so fsms.Connect fsms.Idle c e = (ap (λ (x : Fsm × Fsm). x.0) (some_so (fsms.Connect, fsms.Idle) c e), ap (λ (x : Fsm × Fsm). x.1) (some_so (fsms.Connect, fsms.Idle) c e))
changed_so fsms.Connect fsms.Connect c e = absurd (none_some c e)
changed_so fsms.Connect fsms.Active c e = (ap (λ (x : Fsm × Fsm). x.0) (some_so (fsms.Connect, fsms.Active) c e), ap (λ (x : Fsm × Fsm). x.1) (some_so (fsms.Connect, fsms.Active) c e))
changed_so fsms.Connect fsms.OpenSent c e = (ap (λ (x : Fsm × Fsm). x.0) (some_so (fsms.Connect, fsms.OpenSent) c e), ap (λ (x : Fsm × Fsm). x.1) (some_so (fsms.Connect, fsms.OpenSent) c e))
changed_so fsms.Connect fsms.OpenConfirm c e = (ap (λ (x : Fsm × Fsm). x.0) (some_so (fsms.Connect, fsms.OpenConfirm) c e), ap (λ (x : Fsm × Fsm). x.1) (some_so (fsms.Connect, fsms.OpenConfirm) c e))
changed_so fsms.Connect fsms.Established c e = (ap (λ (x : Fsm × Fsm). x.0) (some_so (fsms.Connect, fsms.Established) c e), ap (λ (x : Fsm × Fsm). x.1) (some_so (fsms.Connect, fsms.Established) c e))
changed_so fsms.Active fsms.Idle c e = (ap (λ (x : Fsm × Fsm). x.0) (some_so (fsms.Active, fsms.Idle) c e), ap (λ (x : Fsm × Fsm). x.1) (some_so (fsms.Active, fsms.Idle) c e))
changed_so fsms.Active fsms.Connect c e = (ap (λ (x : Fsm × Fsm). x.0) (some_so (fsms.Active, fsms.Connect) c e), ap (λ (x : Fsm × Fsm). x.1) (some_so (fsms.Active, fsms.Connect) c e))
changed_so fsms.Active fsms.Active c e = absurd (none_some c e)
changed_so fsms.Active fsms.OpenSent c e = (ap (λ (x : Fsm × Fsm). x.0) (some_so (fsms.Active, fsms.OpenSent) c e), ap (λ (x : Fsm × Fsm). x.1) (some_so (fsms.Active, fsms.OpenSent) c e))
changed_so fsms.Active fsms.OpenConfirm c e = (ap (λ (x : Fsm × Fsm). x.0) (some_so (fsms.Active, fsms.OpenConfirm) c e), ap (λ (x : Fsm × Fsm). x.1) (some_so (fsms.Active, fsms.OpenConfirm) c e))
changed_so fsms.Active fsms.Established c e = (ap (λ (x : Fsm × Fsm). x.0) (some_so (fsms.Active, fsms.Established) c e), ap (λ (x : Fsm × Fsm). x.1) (some_so (fsms.Active, fsms.Established) c e))
changed_so fsms.OpenSent fsms.Idle c e = (ap (λ (x : Fsm × Fsm). x.0) (some_so (fsms.OpenSent, fsms.Idle) c e), ap (λ (x : Fsm × Fsm). x.1) (some_so (fsms.OpenSent, fsms.Idle) c e))
changed_so fsms.OpenSent fsms.Connect c e = (ap (λ (x : Fsm × Fsm). x.0) (some_so (fsms.OpenSent, fsms.Connect) c e), ap (λ (x : Fsm × Fsm). x.1) (some_so (fsms.OpenSent, fsms.Connect) c e))
changed_so fsms.OpenSent fsms.Active c e = (ap (λ (x : Fsm × Fsm). x.0) (some_so (fsms.OpenSent, fsms.Active) c e), ap (λ (x : Fsm × Fsm). x.1) (some_so (fsms.OpenSent, fsms.Active) c e))
changed_so fsms.OpenSent fsms.OpenSent c e = absurd (none_some c e)
changed_so fsms.OpenSent fsms.OpenConfirm c e = (ap (λ (x : Fsm × Fsm). x.0) (some_so (fsms.OpenSent, fsms.OpenConfirm) c e), ap (λ (x : Fsm × Fsm). x.1) (some_so (fsms.OpenSent, fsms.OpenConfirm) c e))
changed_so fsms.OpenSent fsms.Established c e = (ap (λ (x : Fsm × Fsm). x.0) (some_so (fsms.OpenSent, fsms.Established) c e), ap (λ (x : Fsm × Fsm). x.1) (some_so (fsms.OpenSent, fsms.Established) c e))
changed_so fsms.OpenConfirm fsms.Idle c e = (ap (λ (x : Fsm × Fsm). x.0) (some_so (fsms.OpenConfirm, fsms.Idle) c e), ap (λ (x : Fsm × Fsm). x.1) (some_so (fsms.OpenConfirm, fsms.Idle) c e))
changed_so fsms.OpenConfirm fsms.Connect c e = (ap (λ (x : Fsm × Fsm). x.0) (some_so (fsms.OpenConfirm, fsms.Connect) c e), ap (λ (x : Fsm × Fsm). x.1) (some_so (fsms.OpenConfirm, fsms.Connect) c e))
changed_so fsms.OpenConfirm fsms.Active c e = (ap (λ (x : Fsm × Fsm). x.0) (some_so (fsms.OpenConfirm, fsms.Active) c e), ap (λ (x : Fsm × Fsm). x.1) (some_so (fsms.OpenConfirm, fsms.Active) c e))
changed_so fsms.OpenConfirm fsms.OpenSent c e = (ap (λ (x : Fsm × Fsm). x.0) (some_so (fsms.OpenConfirm, fsms.OpenSent) c e), ap (λ (x : Fsm × Fsm). x.1) (some_so (fsms.OpenConfirm, fsms.OpenSent) c e))
changed_so fsms.OpenConfirm fsms.OpenConfirm c e = absurd (none_some c e)
changed_so fsms.OpenConfirm fsms.Established c e = (ap (λ (x : Fsm × Fsm). x.0) (some_so (fsms.OpenConfirm, fsms.Established) c e), ap (λ (x : Fsm × Fsm). x.1) (some_so (fsms.OpenConfirm, fsms.Established) c e))
changed_so fsms.Established fsms.Idle c e = (ap (λ (x : Fsm × Fsm). x.0) (some_so (fsms.Established, fsms.Idle) c e), ap (λ (x : Fsm × Fsm). x.1) (some_so (fsms.Established, fsms.Idle) c e))
changed_so fsms.Established fsms.Connect c e = (ap (λ (x : Fsm × Fsm). x.0) (some_so (fsms.Established, fsms.Connect) c e), ap (λ (x : Fsm × Fsm). x.1) (some_so (fsms.Established, fsms.Connect) c e))
changed_so fsms.Established fsms.Active c e = (ap (λ (x : Fsm × Fsm). x.0) (some_so (fsms.Established, fsms.Active) c e), ap (λ (x : Fsm × Fsm). x.1) (some_so (fsms.Established, fsms.Active) c e))
changed_so fsms.Established fsms.OpenSent c e = (ap (λ (x : Fsm × Fsm). x.0) (some_so (fsms.Established, fsms.OpenSent) c e), ap (λ (x : Fsm × Fsm). x.1) (some_so (fsms.Established, fsms.OpenSent) c e))
changed_so fsms.Established fsms.OpenConfirm c e = (ap (λ (x : Fsm × Fsm). x.0) (some_so (fsms.Established, fsms.OpenConfirm) c e), ap (λ (x : Fsm × Fsm). x.1) (some_so (fsms.Established, fsms.OpenConfirm) c e))
changed_so fsms.Established fsms.Established c e = absurd (none_some c e)

same_none : (f : Fsm) → changed f f ≡ None
same_none fsms.Idle = refl
same_none fsms.Connect = refl
same_none fsms.Active = refl
same_none fsms.OpenSent = refl
same_none fsms.OpenConfirm = refl
same_none fsms.Established = refl

-- what a row shows that isn't a note
hidden_so : (row : HiddenRow) (old new : Fsm) (c : Fsm × Fsm) → hidden_change row old new ≡ Some c → (c.0 ≡ old) × (c.1 ≡ new)
hidden_so Starts old new c e = changed_so old new c e
hidden_so Listens old new c e = changed_so old new c e
hidden_so Stops old new c e = changed_so old new c e
hidden_so Ceases old new c e = changed_so old new c e
hidden_so RetryExpires old new c e = changed_so old new c e
hidden_so HoldExpires old new c e = changed_so old new c e
hidden_so SendHoldExpires old new c e = changed_so old new c e
hidden_so KeepaliveExpires old new c e = changed_so old new c e
hidden_so DelayExpires old new c e = changed_so old new c e
hidden_so ConnectionOpens old new c e = changed_so old new c e
hidden_so DelayBegins old new c e = changed_so old new c e
hidden_so ConnectionFails old new c e = changed_so old new c e
hidden_so Announces old new c e = changed_so old new c e
hidden_so Notes old new c e = (ap (λ (x : Fsm × Fsm). x.0) (some_so (old, new) c e), ap (λ (x : Fsm × Fsm). x.1) (some_so (old, new) c e))

pub hidden_change_so : (row : HiddenRow) (old new : Fsm) (c : Fsm × Fsm) → hidden_change row old new ≡ Some c → (c.0 ≡ old) × (c.1 ≡ new)
hidden_change_so = hidden_so

no_change_by : (row : HiddenRow) (f : Fsm) → IsNoNote row → hidden_change row f f ≡ None
no_change_by Starts f unless = same_none f
no_change_by Listens f unless = same_none f
no_change_by Stops f unless = same_none f
no_change_by Ceases f unless = same_none f
no_change_by RetryExpires f unless = same_none f
no_change_by HoldExpires f unless = same_none f
no_change_by SendHoldExpires f unless = same_none f
no_change_by KeepaliveExpires f unless = same_none f
no_change_by DelayExpires f unless = same_none f
no_change_by ConnectionOpens f unless = same_none f
no_change_by DelayBegins f unless = same_none f
no_change_by ConnectionFails f unless = same_none f
no_change_by Announces f unless = same_none f
no_change_by Notes f unless = absurd unless

-- a row that leaves the state and isn't a note shows no change
pub no_change : (row : HiddenRow) (old new : Fsm) → new ≡ old → IsNoNote row → hidden_change row old new ≡ None
no_change row old new e unless = subst (λ (v : Fsm). hidden_change row old v ≡ None) (sym e) (no_change_by row old unless)
