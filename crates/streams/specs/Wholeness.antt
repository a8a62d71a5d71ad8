-- Half a connection is never answered.
use Rattle.std.specs.Prelude.{ℕ, ◌≡◌, true, List, Option}
use Rattle.std.specs.Option.{is_some}
use Rattle.std.specs.List.{AllByRecursion}
use Rattle.streams.specs.declared.connection.Connection.{Connection}
use Rattle.streams.specs.Passed.{Segment, other_side}
use Rattle.streams.specs.History.{start_of}
use Rattle.streams.specs.Sent.{acknowledges}
use Rattle.streams.specs.Choice.{numbered_one, IsAnswered}

-- what a segment acknowledges was sent by a side whose SYN is among the segments
abbrev pub AreWhole : List Segment → Type 0
AreWhole segments = AllByRecursion
    (λ (s : Segment). acknowledges s ≡ true →
    is_some (start_of (other_side s.sender) segments) ≡ true)
    segments

-- the segments of a connection that is answered are whole
abbrev pub AnsweredIsWhole : Type 0
AnsweredIsWhole = (number : Option ℕ) (last_packet : ℕ) (connections : List (List Segment))
    (connection : Connection) → IsAnswered number last_packet connections connection →
    AreWhole (numbered_one connections connection.number)
