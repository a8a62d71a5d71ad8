-- Which of the session machine's rows the core takes.
use Rattle.std.specs.Prelude.{◌≡◌, ◌≤◌, ◌+◌, ◌/◌, ◌⊎◌, ℕ, List, Option, None, Some, IsTrue}
use Rattle.bgp_open.specs.declared.config.Config.{Config}
use Rattle.bgp_open.specs.declared.families.Families.{Families}
use Rattle.bgp_open.specs.declared.link.Link.{Link}
use Rattle.bgp_open.specs.Families.{contains}
use Rattle.bgp_prefix.specs.declared.family.Family.{Family}
use Rattle.bgp_update.specs.Changes.{RouteChanges}
use Rattle.bgp_update.specs.Outcome.{IsOutcome, Applied}
use Rattle.bgp_machine.specs.declared.state.Head.{Head}
use Rattle.bgp_machine.specs.declared.state.Head.TheVariants.{Idle, Connect, Active, OpenSent}
use Rattle.bgp_machine.specs.declared.state.Head.TheVariants.{OpenConfirm, Established}
use Rattle.bgp_machine.specs.declared.state.HoldTimer.{HoldTimer}
use Rattle.bgp_machine.specs.declared.hearing.Heard.{Heard}
use Rattle.bgp_machine.specs.declared.hearing.Heard.TheVariants.{ValidOpen, FaultyHeader}
use Rattle.bgp_machine.specs.declared.hearing.Heard.TheVariants.{InvalidOpen, BadVersion}
use Rattle.bgp_machine.specs.declared.hearing.Heard.TheVariants.{Notification, Keepalive, Update}
use Rattle.bgp_machine.specs.declared.rows.HiddenRow.{HiddenRow}
use Rattle.bgp_machine.specs.declared.rows.HiddenRow.TheVariants.{Starts, Listens, Stops, Ceases}
use Rattle.bgp_machine.specs.declared.rows.HiddenRow.TheVariants.{HoldExpires, KeepaliveExpires}
use Rattle.bgp_machine.specs.declared.rows.HiddenRow.TheVariants.{ConnectionOpens, ConnectionFails}
use Rattle.bgp_machine.specs.declared.rows.ReceivedRow.{ReceivedRow}
use Rattle.bgp_machine.specs.declared.rows.ReceivedRow.TheVariants.{Accepts, Overlooks, Drops}
use Rattle.bgp_machine.specs.declared.rows.ReceivedRow.TheVariants.{NamesFault, ReportsError}
use Rattle.bgp_machine.specs.declared.rows.ReceivedRow.TheVariants.{Establishes, Renews, Applies}
use Rattle.bgp_machine.specs.Rows.{HiddenShown, NoStep}
use Rattle.bgp_machine.specs.Step.{IsRunning, IsExpired}
use Rattle.bgp_speaker.specs.Core.{InputValue, Start, Passive, Stop, Connected, Failed, Tick}

-- a KEEPALIVE is due: the HoldTimer runs, and a third of it has passed since the last message was
-- sent (RFC 4271, 4.4; 8.2.2: what is sent restarts the KeepaliveTimer)
abbrev pub IsKeepaliveDue : HoldTimer → ℕ → ℕ → Type 0
IsKeepaliveDue timer sent_at t = IsRunning timer × (sent_at + timer.span / 3 ≤ t)

-- the HoldTimer first (RFC 4271, 6.5), and then a KEEPALIVE that is due
abbrev pub PicksInTime : HoldTimer → ℕ → ℕ → Option HiddenRow → Type 0
PicksInTime timer sent_at t picked =
    (IsExpired timer t × (picked ≡ Some HoldExpires))
    ⊎ ((¬ IsExpired timer t) × IsKeepaliveDue timer sent_at t × (picked ≡ Some KeepaliveExpires))
    ⊎ ((¬ IsExpired timer t) × (¬ IsKeepaliveDue timer sent_at t) × (picked ≡ None))

-- ---- by itself (RFC 4271, 8.2.2): on an input, at a second, where the last message was sent at
-- another; no row, where nothing is done
abbrev pub Picks : Head → InputValue → ℕ → ℕ → Option HiddenRow → Type 0
Picks Idle Start sent_at t picked = picked ≡ Some Starts
Picks Idle Passive sent_at t picked = picked ≡ Some Listens
Picks (Connect delay) Stop sent_at t picked = picked ≡ Some Stops
Picks (Connect delay) Connected sent_at t picked = picked ≡ Some ConnectionOpens
Picks (Connect delay) Failed sent_at t picked = picked ≡ Some ConnectionFails
Picks (Active delay) Stop sent_at t picked = picked ≡ Some Stops
Picks (Active delay) Connected sent_at t picked = picked ≡ Some ConnectionOpens
Picks (Active delay) Failed sent_at t picked = picked ≡ Some ConnectionFails
Picks (OpenSent timer) Stop sent_at t picked = picked ≡ Some Ceases
Picks (OpenSent timer) Failed sent_at t picked = picked ≡ Some ConnectionFails
Picks (OpenSent timer) Tick sent_at t picked =
    (IsExpired timer t × (picked ≡ Some HoldExpires))
    ⊎ ((¬ IsExpired timer t) × (picked ≡ None))
Picks (OpenConfirm link timer) Stop sent_at t picked = picked ≡ Some Ceases
Picks (OpenConfirm link timer) Failed sent_at t picked = picked ≡ Some ConnectionFails
Picks (OpenConfirm link timer) Tick sent_at t picked = PicksInTime timer sent_at t picked
Picks (Established link timer) Stop sent_at t picked = picked ≡ Some Ceases
Picks (Established link timer) Failed sent_at t picked = picked ≡ Some ConnectionFails
Picks (Established link timer) Tick sent_at t picked = PicksInTime timer sent_at t picked
Picks head input sent_at t picked = picked ≡ None

-- the row, where one is picked, is one that the state may take
abbrev pub CanTake : Config → Head → ℕ → Option HiddenRow → Type 0
CanTake config head t None = Unit {0}
CanTake config head t (Some row) = ¬ NoStep (HiddenShown config head t row)

-- ---- about a message (RFC 4271, 8.2.2 and 6)

-- an UPDATE may be applied, and no more families are disabled than has to be (RFC 7606, 2)
pub record IsLeastApply (link : Link) (octets : List ℕ) (families : Families) : Type 0 where
  pub allowed : (changes : RouteChanges) × IsOutcome link octets (Applied changes families)
  pub least : (changes : RouteChanges) (others : Families)
      → IsOutcome link octets (Applied changes others)
      → (family : Family) → IsTrue (contains families family) → IsTrue (contains others family)

-- an UPDATE may not be applied
abbrev pub IsNeverApplied : Link → List ℕ → Type 0
IsNeverApplied link octets =
    (changes : RouteChanges) (families : Families)
    → ¬ IsOutcome link octets (Applied changes families)

abbrev pub PicksOn : Head → List ℕ → Heard → ReceivedRow → Type 0
PicksOn (OpenSent timer) octets (ValidOpen link e) Accepts = Unit {0}
PicksOn (OpenSent timer) octets (FaultyHeader f) NamesFault = Unit {0}
PicksOn (OpenSent timer) octets (InvalidOpen e) NamesFault = Unit {0}
PicksOn (OpenSent timer) octets BadVersion Drops = Unit {0}
PicksOn (OpenSent timer) octets Notification ReportsError = Unit {0}
PicksOn (OpenSent timer) octets Keepalive ReportsError = Unit {0}
PicksOn (OpenSent timer) octets Update ReportsError = Unit {0}
PicksOn (OpenConfirm own timer) octets (ValidOpen link e) Overlooks = Unit {0}
PicksOn (OpenConfirm own timer) octets (FaultyHeader f) NamesFault = Unit {0}
PicksOn (OpenConfirm own timer) octets (InvalidOpen e) NamesFault = Unit {0}
PicksOn (OpenConfirm own timer) octets BadVersion Drops = Unit {0}
PicksOn (OpenConfirm own timer) octets Notification Drops = Unit {0}
PicksOn (OpenConfirm own timer) octets Keepalive Establishes = Unit {0}
PicksOn (OpenConfirm own timer) octets Update ReportsError = Unit {0}
PicksOn (Established own timer) octets (ValidOpen link e) Overlooks = Unit {0}
PicksOn (Established own timer) octets (FaultyHeader f) NamesFault = Unit {0}
PicksOn (Established own timer) octets (InvalidOpen e) NamesFault = Unit {0}
PicksOn (Established own timer) octets BadVersion Drops = Unit {0}
PicksOn (Established own timer) octets Notification Drops = Unit {0}
PicksOn (Established own timer) octets Keepalive Renews = Unit {0}
PicksOn (Established own timer) octets Update (Applies families) =
    IsLeastApply own octets families
PicksOn (Established own timer) octets Update NamesFault = IsNeverApplied own octets
PicksOn head octets heard row = ⊥
