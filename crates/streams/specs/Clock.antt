-- The packets of a connection, the clock that they go by, and the fractions of their seconds.
use Rattle.std.specs.Prelude.{ℕ, ◌≡◌, ◌<◌, ◌≤◌, List, [], ◌∷◌, Option, IfSome}
use Rattle.std.specs.List.{AllByRecursion}
use Rattle.streams.specs.declared.connection.Connection.{Connection}
use Rattle.streams.specs.declared.connection.End.{End}
use Rattle.streams.specs.declared.connection.Run.{Run}
use Rattle.streams.specs.Passed.{Segment}
use Rattle.streams.specs.Connections.{numbered}
use Rattle.streams.specs.Choice.{IsAnswered}

-- each segment, told from the last one back to the first, has a later packet than those before it
abbrev pub AreInOrder : List Segment → Type 0
AreInOrder [] = Unit {0}
AreInOrder (s ∷ before) =
    AllByRecursion (λ (earlier : Segment). earlier.packet < s.packet) before × AreInOrder before

-- the packet's second is that of the clock, and the packet isn't before the first one
abbrev pub GoesFrom : (ℕ → ℕ) → ℕ → ℕ → ℕ → Type 0
GoesFrom clock first packet second = (second ≡ clock packet) × (first ≤ packet)

-- the fraction of a packet's second is one thing, wherever the connection tells it
pub record HasFractions (connection : Connection) : Type 0 where
  pub fraction : ℕ → Option ℕ
  pub begins : connection.micro ≡ fraction connection.packet
  pub received : AllByRecursion (λ (run : Run). run.micro ≡ fraction run.packet)
      connection.received.runs.now
  pub sent : AllByRecursion (λ (run : Run). run.micro ≡ fraction run.packet)
      connection.sent.runs.now
  pub ends : IfSome connection.end (λ (end : End). end.micro ≡ fraction end.packet)

-- some clock, which never falls, is that of the connection's packets, the first of which it names
pub record IsClocked (connection : Connection) : Type 0 where
  pub clock : ℕ → ℕ
  pub rises : (packet later : ℕ) → packet ≤ later → clock packet ≤ clock later
  pub begins : connection.second ≡ clock connection.packet
  pub received : AllByRecursion
      (λ (run : Run). GoesFrom clock connection.packet run.packet run.second)
      connection.received.runs.now
  pub sent : AllByRecursion
      (λ (run : Run). GoesFrom clock connection.packet run.packet run.second)
      connection.sent.runs.now
  pub ends : IfSome connection.end
      (λ (end : End). GoesFrom clock connection.packet end.packet end.second)
  pub fractions : HasFractions connection

-- a connection that is answered goes by a clock, where its segments were taken in the order of
-- their packets
abbrev pub AnsweredIsClocked : Type 0
AnsweredIsClocked = (segments : List Segment) (number : Option ℕ) (last_packet : ℕ)
    (connection : Connection) → AreInOrder segments →
    IsAnswered number last_packet (numbered segments) connection → IsClocked connection
