-- The messages of a stream, each with its packet, and what of it is none (RFC 4271, 4.1).
use Rattle.std.specs.Prelude.{◌≡◌, ◌+◌, ◌-◌, ◌++◌, ◌↔◌, ℕ, List, [], ◌∷◌, length, map, drop}
use Rattle.std.specs.Prelude.{Option, None, Some, MatchOption, IsTrue}
use Rattle.std.specs.List.{AllByRecursion}
use Rattle.bgp_wire.specs.Framing.{IsFrame}
use Rattle.bgp_wire.specs.Header.{header_of, type_of}
use Rattle.bgp_wire.specs.Verdict.{type_code}
use Rattle.mrt.specs.Rules.{IsWholeRefresh}
use Rattle.streams.specs.declared.connection.Run.{Run}
use Rattle.bgp_recording.specs.declared.framing.Direction.{Direction}
use Rattle.bgp_recording.specs.declared.framing.Direction.TheVariants.{Received, Sent}
use Rattle.bgp_recording.specs.declared.framing.Framing.{Framing}
use Rattle.bgp_recording.specs.declared.framing.Front.{Front}
use Rattle.bgp_recording.specs.declared.framing.Front.TheVariants as fronts
use Rattle.bgp_recording.specs.declared.framing.Rest.{Rest}
use Rattle.bgp_recording.specs.declared.framing.Rest.TheVariants.{Short, BehindFault}
use Rattle.bgp_recording.specs.declared.framing.Unshown.{Unshown}
use Rattle.bgp_recording.specs.declared.message.Message.{Message}
use Rattle.bgp_recording.specs.Givers.{giver}
use Rattle.bgp_recording.specs.Moments.{moment_in}
use Rattle.bgp_recording.specs.Pieces.{Piece, Kept, PassedOver, IsPiece, kept, passed_over}
use Rattle.bgp_recording.specs.Pieces.{stream_of, BeginsRefresh, IsShortOf, IsFaultyOf}

-- ---- what stands at the front of a stream

-- these octets, and then the others
abbrev pub Begins : List ℕ → List ℕ → Type 0
Begins octets front = octets ≡ front ++ drop (length front) octets

-- a message with its type, a ROUTE-REFRESH that is passed over, a header with a fault; or less
abbrev pub IsFront : Framing → List ℕ → Option Front → Type 0
IsFront framing octets None = IsShortOf framing octets
IsFront framing octets (Some (fronts.Message front kind)) =
    IsFrame framing.limit front.now × (type_code kind ≡ type_of (header_of front.now))
    × Begins octets front.now
IsFront framing octets (Some (fronts.PassedOver front)) =
    IsTrue framing.skips_refresh × IsWholeRefresh front.now × Begins octets front.now
IsFront framing octets (Some (fronts.Fault header is_refresh)) =
    IsFaultyOf framing octets × (header.now ≡ header_of octets)
    × (IsTrue is_refresh ↔ BeginsRefresh octets)

-- ---- the messages of a whole one

-- the octets of each
abbrev pub octets_of : List Message → List (List ℕ)
octets_of messages = map (λ m. m.octets.now) messages

-- The messages are those among the pieces, and the rest is short; or a header with a fault stands
-- after the pieces, which is the last message.
abbrev pub IsRest : Framing → List Piece → List ℕ → List Message → Rest → Type 0
IsRest framing pieces left messages (Short count) =
    (octets_of messages ≡ kept pieces) × (count ≡ length left) × IsShortOf framing left
IsRest framing pieces left messages (BehindFault place count is_refresh) =
    (octets_of messages ≡ kept pieces ++ header_of left ∷ [])
    × (place ≡ length (stream_of pieces)) × (count ≡ length (drop 19 left))
    × IsFaultyOf framing left × (IsTrue is_refresh ↔ BeginsRefresh left)

-- the messages of a stream that has these octets, and these pieces, and what of it is none
pub record AreFramed
    (framing : Framing) (octets : List ℕ) (pieces : List Piece) (messages : List Message)
    (unshown : Unshown) : Type 0 where
  pub left : List ℕ
  pub whole : octets ≡ stream_of pieces ++ left
  pub each : AllByRecursion (IsPiece framing) pieces
  pub passed : unshown.passed_over ≡ passed_over pieces
  pub is : IsRest framing pieces left messages unshown.rest

-- its type is what the header says, or none where it is a header with a fault
abbrev pub HasKind : Framing → Message → Type 0
HasKind framing message =
    MatchOption message.kind
    ((length message.octets.now ≡ 19) × IsFaultyOf framing message.octets.now)
    (λ kind. IsFrame framing.limit message.octets.now
    × (type_code kind ≡ type_of (header_of message.octets.now)))

-- ---- the packet of each

-- This holds of each message and the place where it begins, if the first piece begins at this one.
-- A message for which there is no piece is a header with a fault.
abbrev pub EachAt : (ℕ → Message → Type 0) → ℕ → List Piece → List Message → Type 0
EachAt Holds from [] [] = Unit {0}
EachAt Holds from [] (m ∷ later) = Holds from m × (later ≡ [])
EachAt Holds from (Kept octets ∷ pieces) [] = ⊥
EachAt Holds from (Kept octets ∷ pieces) (m ∷ later) =
    Holds from m × EachAt Holds (from + length m.octets.now) pieces later
EachAt Holds from (PassedOver octets ∷ pieces) messages =
    EachAt Holds (from + length octets) pieces messages

-- the place of the octet whose packet is that of a message: its last one, or its first
abbrev pub stamped_at : Direction → ℕ → ℕ → ℕ
stamped_at Received start count = start + count - 1
stamped_at Sent start count = start

-- a message that begins at a place has the packet that these runs tell
abbrev pub IsStamped : Direction → List Run → ℕ → Message → Type 0
IsStamped direction runs from m =
    giver runs (stamped_at direction from (length m.octets.now)) ≡ Some (moment_in m)

-- a stream is split into these messages, each with its type and its packet
pub record AreSplit
    (framing : Framing) (direction : Direction) (runs : List Run) (octets : List ℕ)
    (messages : List Message) (unshown : Unshown) : Type 0 where
  pub pieces : List Piece
  pub framed : AreFramed framing octets pieces messages unshown
  pub kinds : AllByRecursion (HasKind framing) messages
  pub stamped : EachAt (IsStamped direction runs) 0 pieces messages
