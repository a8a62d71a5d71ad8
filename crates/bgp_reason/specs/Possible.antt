-- What may follow a session's records, kind by kind, as a value of fixed size.
use Rattle.std.specs.Prelude.{◌≡◌, ◌≤◌, ◌<◌, ◌↔◌, ◌⊎◌, ◌^◌, ℕ, List, Option, None, Some, IsTrue}
use Rattle.std.specs.Prelude.{IsSomeAnd}
use Rattle.bgp_prefix.specs.Shown.{ShownRecord, Received, Sent, Changed, second_of}
use Rattle.bgp_wire.specs.Framing.{IsFrame}
use Rattle.bgp_wire.specs.Message.{IsMessage}
use Rattle.bgp_wire.specs.Verdict.{Names as NamesHeaderError}
use Rattle.bgp_open.specs.declared.config.Config.{Config}
use Rattle.bgp_open.specs.declared.link.Link.{Link}
use Rattle.bgp_open.specs.OpenSubcodes.{Names as NamesOpenError}
use Rattle.bgp_open.specs.OwnOpen.{IsOwnOpen}
use Rattle.bgp_machine.specs.Clean.{IsClean}
use Rattle.bgp_machine.specs.Subcodes.{HasSubcode}
use Rattle.bgp_machine.specs.declared.fsm.Fsm.{Fsm}
use Rattle.bgp_machine.specs.declared.fsm.Fsm.TheVariants as fsms
use Rattle.bgp_machine.specs.State.{number_of}
use Rattle.bgp_machine.specs.Want.{Tells, limit_on}
use Rattle.bgp_reason.specs.declared.kinds.FsmErrors.{FsmErrors}
use Rattle.bgp_reason.specs.declared.kinds.Possible.{Possible}
use Rattle.bgp_reason.specs.declared.kinds.States.{States}
use Rattle.bgp_reason.specs.Following.{MayFollow}
use Rattle.bgp_reason.specs.Hearable.{CanBeHeard}
use Rattle.bgp_reason.specs.Sending.{sending_link}

-- the state is in the set
abbrev pub HasState : States → Fsm → Type 0
HasState states fsms.Idle = IsTrue states.idle
HasState states fsms.Connect = IsTrue states.connect
HasState states fsms.Active = IsTrue states.active
HasState states fsms.OpenSent = IsTrue states.open_sent
HasState states fsms.OpenConfirm = IsTrue states.open_confirm
HasState states fsms.Established = IsTrue states.established

-- a NOTIFICATION with this subcode of Finite State Machine Error is one of the set (RFC 6608, 3)
abbrev pub HasFsmError : FsmErrors → ℕ → Type 0
HasFsmError errors subcode =
    ((subcode ≡ 0) × IsTrue errors.unspecified)
    ⊎ ((subcode ≡ 1) × IsTrue errors.open_sent)
    ⊎ ((subcode ≡ 2) × IsTrue errors.open_confirm)
    ⊎ ((subcode ≡ 3) × IsTrue errors.established)

-- A NOTIFICATION at this second is one of those that are possible, by its code (RFC 4271, 4.5):
-- Message Header Error, OPEN Message Error, UPDATE Message Error, Hold Timer Expired from a second
-- on, Finite State Machine Error, Cease with any subcode, and Send Hold Timer Expired (RFC 9687,
-- 4).
abbrev pub IsNotified : Possible → ℕ → ℕ → ℕ → List ℕ → Type 0
IsNotified possible second code subcode detail =
    ((code ≡ 1) × NamesHeaderError possible.header_errors subcode detail)
    ⊎ ((code ≡ 2) × NamesOpenError possible.open_errors subcode detail)
    ⊎ ((code ≡ 3) × HasSubcode possible.update_errors subcode)
    ⊎ ((code ≡ 4) × (subcode ≡ 0)
    × IsSomeAnd possible.hold_timer_expired (λ from. from ≤ second))
    ⊎ ((code ≡ 5) × HasFsmError possible.fsm_errors subcode)
    ⊎ ((code ≡ 6) × IsTrue possible.cease)
    ⊎ ((code ≡ 8) × (subcode ≡ 0) × IsTrue possible.send_hold_timer_expired)

-- an UPDATE without a fault of any kind, on a link
abbrev pub IsCleanOn : Option Link → List ℕ → Type 0
IsCleanOn None octets = ⊥
IsCleanOn (Some link) octets = IsClean link octets

-- The record is one of those that are possible: a message that is received; a whole message, sent
-- on this link; or a change of state.
abbrev pub IsAmong : Config → Option Link → Possible → ShownRecord → Type 0
IsAmong config link possible (Received second octets) = IsTrue possible.message
IsAmong config link possible (Sent second octets) =
    IsFrame (limit_on link) octets
    × ((IsTrue possible.own_open × IsOwnOpen config octets)
    ⊎ (IsTrue possible.keepalive × IsMessage 4 octets)
    ⊎ (IsTrue possible.update × IsCleanOn link octets)
    ⊎ Tells octets (IsNotified possible second))
IsAmong config link possible (Changed second old new) =
    (old ≡ number_of possible.state)
    × ((fsm : Fsm) × (new ≡ number_of fsm) × HasState possible.changes fsm)

-- a record as a capture can hold it: its second has 32 bits, and a message that was received is one
-- of which each state makes something
abbrev pub IsCapturable : Config → List ShownRecord → ShownRecord → Type 0
IsCapturable config records (Received second octets) =
    (second < 2 ^ 32) × CanBeHeard config (sending_link config records) octets
IsCapturable config records shown = second_of shown < 2 ^ 32

-- They are all that may follow, and nothing else: a record may follow just where it is one of them.
abbrev pub ArePossible : Config → List ShownRecord → Possible → Type 0
ArePossible config records possible =
    (shown : ShownRecord) → IsCapturable config records shown
    → MayFollow config records shown ↔ IsAmong config (sending_link config records) possible shown
