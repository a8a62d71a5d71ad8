-- What stands at the front of a stream's octets (RFC 4271, 4.1 and 6.1), and what is left then.
use Rattle.std.specs.Prelude.{◌≡◌, ◌++◌, ℕ, true, List, length, drop}
use Rattle.bgp_wire.specs.declared.header.Limit.{Limit}
use Rattle.bgp_wire.specs.declared.frames.Next.{Next}
use Rattle.bgp_wire.specs.declared.frames.Next.TheVariants.{Frame, More, Fault}
use Rattle.bgp_wire.specs.Header.{header_of, type_of}
use Rattle.bgp_wire.specs.Verdict.{type_code, AreFaults}
use Rattle.bgp_wire.specs.Framing.{IsFrame, IsShort, IsFaulty}
use Rattle.bgp_wire.specs.Held.{Held}

-- the first frame, or that it isn't whole yet, or all faults of the header that stands in its place
abbrev pub IsNext : Limit → List ℕ → Next → Type 0
IsNext limit octets (Frame kind frame) =
    IsFrame limit frame.now × (type_code kind ≡ type_of (header_of frame.now))
    × (octets ≡ frame.now ++ drop (length frame.now) octets)
IsNext limit octets More = IsShort limit octets
IsNext limit octets (Fault faults header) =
    IsFaulty limit octets × (header.now ≡ header_of octets) × AreFaults limit header.now faults

-- a frame that is handed out is taken away, and nothing else is; a fault closes
abbrev pub after_next : Held → Next → Held
after_next held (Frame kind frame) = record held { octets = drop (length frame.now) held.octets }
after_next held More = held
after_next held (Fault faults header) = record held { is_closed = true }

-- a fault is answered
abbrev pub IsFault : Next → Type 0
IsFault (Frame kind frame) = ⊥
IsFault More = ⊥
IsFault (Fault faults header) = Unit {0}
