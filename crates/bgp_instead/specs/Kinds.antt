-- The kinds of messages that could have been sent in a place are all that could have been.
use Rattle.std.specs.Prelude.{◌≡◌, ◌≤◌, ◌⊎◌, ℕ, List, IsTrue, IsSome, length}
use Rattle.byteorder.specs.Endian.{big_bytes}
use Rattle.bgp_wire.specs.declared.header.HeaderFaults.{HeaderFaults}
use Rattle.bgp_wire.specs.Header.{header_of, length_of, type_of}
use Rattle.bgp_wire.specs.Message.{IsMessage}
use Rattle.bgp_open.specs.declared.config.Config.{Config}
use Rattle.bgp_open.specs.declared.link.Link.{Link}
use Rattle.bgp_open.specs.OpenSubcodes.{Names as NamesOpenError}
use Rattle.bgp_open.specs.OwnOpen.{IsOwnOpen}
use Rattle.bgp_update.specs.Clean.{IsClean}
use Rattle.bgp_update.specs.Subcodes.{HasSubcode}
use Rattle.bgp_machine.specs.Want.{Tells}
use Rattle.bgp_recording.specs.declared.ordering.Exchange.{Exchange}
use Rattle.bgp_orders.specs.SentPlaces.{CouldBeSent}
use Rattle.bgp_reason.specs.Possible.{HasFsmError}
use Rattle.bgp_instead.specs.declared.sendable.Sendable.{Sendable}
use Rattle.bgp_instead.specs.Sendable.{AreSendable}

-- a NOTIFICATION of Message Header Error with this subcode is one of them, if its data are those
-- of the message that was received last
abbrev pub NamesHeaderError : List ℕ → HeaderFaults → ℕ → List ℕ → Type 0
NamesHeaderError last errors subcode detail =
    ((subcode ≡ 1) × IsTrue errors.marker)
    ⊎ ((subcode ≡ 2) × (19 ≤ length last → detail ≡ big_bytes 2 (length_of (header_of last))
    → IsSome errors.length))
    ⊎ ((subcode ≡ 3) × (19 ≤ length last → detail ≡ big_bytes 1 (type_of (header_of last))
    → IsSome errors.kind))

-- a NOTIFICATION is one of them, by its code
abbrev pub IsNotified : List ℕ → Sendable → ℕ → ℕ → List ℕ → Type 0
IsNotified last sendable code subcode detail =
    ((code ≡ 1) × NamesHeaderError last sendable.header_errors subcode detail)
    ⊎ ((code ≡ 2) × NamesOpenError sendable.open_errors subcode detail)
    ⊎ ((code ≡ 3) × HasSubcode sendable.update_errors subcode)
    ⊎ ((code ≡ 4) × (subcode ≡ 0) × IsTrue sendable.hold_timer_expired)
    ⊎ ((code ≡ 5) × HasFsmError sendable.fsm_errors subcode)
    ⊎ ((code ≡ 6) × IsTrue sendable.cease)
    ⊎ ((code ≡ 8) × (subcode ≡ 0) × IsTrue sendable.send_hold_timer_expired)

-- the message is of one of these kinds
abbrev pub IsOfAKind : Config → List ℕ → Sendable → List ℕ → Type 0
IsOfAKind config last sendable octets =
    (IsTrue sendable.own_open × IsOwnOpen config octets)
    ⊎ (IsTrue sendable.keepalive × IsMessage 4 octets)
    ⊎ (IsTrue sendable.update × ((link : Link) × IsClean link octets))
    ⊎ Tells octets (IsNotified last sendable)

-- each message that could have been sent in the place is of one of the kinds
abbrev pub EachIsOfAKind : Type 0
EachIsOfAKind =
    (config : Config) (within : ℕ) (exchange : Exchange) (before : ℕ) (last octets : List ℕ)
    (sendable : Sendable)
    → AreSendable (CouldBeSent config within exchange before) config last sendable
    → CouldBeSent config within exchange before octets → IsOfAKind config last sendable octets
