-- The packets that first gave the octets of a stream.
use Rattle.std.specs.Prelude.{◌≡◌, ◌<◌, ◌≤◌, ◌+◌, ◌-◌, ◌⊎◌, nat_lt, if◌then◌else◌, ℕ}
use Rattle.std.specs.Prelude.{List, [], ◌∷◌, drop, Option, None, Some, IfSome}
use Rattle.std.specs.List.{sum_by}
use Rattle.streams.specs.declared.connection.Run.{Run}
use Rattle.streams.specs.declared.connection.End.{End}
use Rattle.streams.specs.declared.passed.Side.{Side}
use Rattle.streams.specs.declared.passed.Side.TheVariants.{Local, Peer}
use Rattle.bgp_recording.specs.declared.pending.Moment.{Moment}
use Rattle.bgp_recording.specs.declared.givers.Cursor.{Cursor}
use Rattle.bgp_recording.specs.Moments.{end_moment, moment_of}

-- it has octets
abbrev pub IsNotEmpty : Run → Type 0
IsNotEmpty run = 1 ≤ run.count

-- the packet that was the first to give the octet at a place, with its time
abbrev pub giver : List Run → ℕ → Option Moment
giver [] place = None
giver (run ∷ later) place =
    if nat_lt place run.count then Some (moment_of run) else giver later (place - run.count)

-- how many octets the runs have
abbrev pub given_by : List Run → ℕ
given_by runs = sum_by (λ run. run.count) runs

-- The packet by which all octets below a place had come: the greatest of those that gave them
-- first.
pub record IsCame (runs : List Run) (end : ℕ) (moment : Moment) : Type 0 where
  pub place : ℕ
  pub below : place < end
  pub gave : giver runs place ≡ Some moment
  pub greatest : (other : ℕ) → other < end
      → IfSome (giver runs other) (λ m. m.packet ≤ moment.packet)

-- an end of the local system shows that all before it had been made
abbrev pub own_end_by : End → Side → Option Moment
own_end_by end Local = Some (end_moment end)
own_end_by end Peer = None

abbrev pub own_end : Option End → Option Moment
own_end None = None
own_end (Some end) = own_end_by end end.side

-- The first packet that shows that what begins at a place had been made: the least of those that
-- first gave an octet from there on, and of the end, where that is the local system's own.
pub record IsMade (runs : List Run) (end : Option Moment) (start : ℕ) (moment : Moment)
    : Type 0 where
  pub shows : ((place : ℕ) × (start ≤ place) × (giver runs place ≡ Some moment))
      ⊎ (end ≡ Some moment)
  pub least : (other : ℕ) → start ≤ other
      → IfSome (giver runs other) (λ m. moment.packet ≤ m.packet)
  pub not_after : IfSome end (λ m. moment.packet ≤ m.packet)

-- ---- runs that tell it of each place

-- the packet by which all octets up to this one had come, where it is one
abbrev pub IsLatest : List Run → ℕ → Option Moment → Type 0
IsLatest runs place None = giver runs place ≡ None
IsLatest runs place (Some moment) = IsCame runs (place + 1) moment

abbrev pub AreLatest : List Run → List Run → Type 0
AreLatest runs latest = (place : ℕ) → IsLatest runs place (giver latest place)

-- the first packet that shows that what begins at this octet had been made, where it is one
abbrev pub IsEarliest : List Run → Option Moment → ℕ → Option Moment → Type 0
IsEarliest runs end place None = giver runs place ≡ None
IsEarliest runs end place (Some moment) = IsMade runs end place moment

abbrev pub AreEarliest : List Run → Option Moment → List Run → Type 0
AreEarliest runs end earliest = (place : ℕ) → IsEarliest runs end place (giver earliest place)

-- ---- how they are found

abbrev pub later_of : Option Moment → Run → Moment
later_of None run = moment_of run
later_of (Some best) run = if nat_lt run.packet best.packet then best else moment_of run

abbrev pub earlier_of : Option Moment → Run → Moment
earlier_of None run = moment_of run
earlier_of (Some best) run = if nat_lt best.packet run.packet then best else moment_of run

-- from the run in which the cursor stands on, the givers are those of the stream
abbrev pub IsAt : List Run → Cursor → Type 0
IsAt runs cursor =
    (cursor.runs.now ≡ runs)
    × ((place : ℕ) → cursor.base ≤ place
    → giver (drop cursor.index runs) (place - cursor.base) ≡ giver runs place)
