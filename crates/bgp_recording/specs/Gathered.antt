-- A connection as packets give it, and the messages in its streams.
use Rattle.std.specs.Prelude.{◌≡◌, ◌≤◌, ◌+◌, ℕ, List, length, Option, IfSome}
use Rattle.std.specs.List.{AllByRecursion}
use Rattle.streams.specs.Clock.{HasFractions}
use Rattle.streams.specs.declared.connection.Connection.{Connection}
use Rattle.streams.specs.declared.connection.End.{End}
use Rattle.streams.specs.declared.connection.Run.{Run}
use Rattle.streams.specs.declared.connection.Stream.{Stream}
use Rattle.bgp_recording.specs.declared.framing.Framing.{Framing}
use Rattle.bgp_recording.specs.declared.framing.Unshown.{Unshown}
use Rattle.bgp_recording.specs.declared.message.Message.{Message}
use Rattle.bgp_recording.specs.declared.pending.Moment.{Moment}
use Rattle.bgp_recording.specs.Framed.{AreFramed, EachAt, HasKind}
use Rattle.bgp_recording.specs.Givers.{given_by, IsNotEmpty, IsCame, IsMade, own_end}
use Rattle.bgp_recording.specs.Moments.{moment_in}
use Rattle.bgp_recording.specs.Pieces.{Piece}
use Rattle.bgp_recording.specs.Told.{IsClock}

-- a packet's second is that of the clock, and the packet isn't before this one
abbrev pub GoesFrom : (ℕ → ℕ) → ℕ → ℕ → ℕ → Type 0
GoesFrom clock first packet second = (second ≡ clock packet) × (first ≤ packet)

-- each octet of a stream has a giver: the runs, none of which is empty, have as many
pub record IsCovered (stream : Stream) : Type 0 where
  pub covered : given_by stream.runs.now ≡ length stream.octets.now
  pub positive : AllByRecursion IsNotEmpty stream.runs.now

-- each packet goes by the clock, and none is before the first
abbrev pub AreFrom : (ℕ → ℕ) → ℕ → List Run → Type 0
AreFrom clock first runs = AllByRecursion (λ run. GoesFrom clock first run.packet run.second) runs

-- Some clock, which never falls, is that of the connection's packets, the first of which it names:
-- so it is where the second of no packet is below that of one before it. And the fraction of each
-- packet's second is one thing.
pub record IsClocked (connection : Connection) : Type 0 where
  pub clock : ℕ → ℕ
  pub rises : IsClock clock
  pub begins : connection.second ≡ clock connection.packet
  pub received : AreFrom clock connection.packet connection.received.runs.now
  pub sent : AreFrom clock connection.packet connection.sent.runs.now
  pub ends : IfSome connection.end
      (λ end. GoesFrom clock connection.packet end.packet end.second)
  pub fractions : HasFractions connection

-- The messages of these pieces, from this place on, have the packets by which they came, with all
-- octets before them, also those that are passed over.
abbrev pub AreCame : List Run → ℕ → List Piece → List Message → Type 0
AreCame runs from pieces messages =
    EachAt (λ place m. IsCame runs (place + length m.octets.now) (moment_in m)) from pieces messages

-- those by which they are known to have been made
abbrev pub AreMade : List Run → Option Moment → ℕ → List Piece → List Message → Type 0
AreMade runs end from pieces messages =
    EachAt (λ place m. IsMade runs end place (moment_in m)) from pieces messages

-- what a stream tells that the local system received
pub record IsHeard
    (framing : Framing) (stream : Stream) (messages : List Message) (unshown : Unshown)
    : Type 0 where
  pub pieces : List Piece
  pub framed : AreFramed framing stream.octets.now pieces messages unshown
  pub kinds : AllByRecursion (HasKind framing) messages
  pub came : AreCame stream.runs.now 0 pieces messages

-- what a stream tells that the local system sent, with the end of the connection
pub record IsSaid
    (framing : Framing) (stream : Stream) (end : Option End) (messages : List Message)
    (unshown : Unshown) : Type 0 where
  pub pieces : List Piece
  pub framed : AreFramed framing stream.octets.now pieces messages unshown
  pub kinds : AllByRecursion (HasKind framing) messages
  pub made : AreMade stream.runs.now (own_end end) 0 pieces messages
