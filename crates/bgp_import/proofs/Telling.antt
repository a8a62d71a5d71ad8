-- What is told of a connection that is answered.
use Rattle.std.proofs.Common.{ℕ, List, [], ◌∷◌, Option}
use Rattle.std.specs.List.{AllByRecursion}
use Rattle.streams.specs.Choice.{Tells, IsAnswered, numbered_one}
use Rattle.streams.specs.Clock.{AreInOrder}
use Rattle.streams.specs.Connections.{numbered}
use Rattle.streams.specs.Passed.{Segment}
use Rattle.streams.specs.declared.connection.Connection.{Connection}
use Rattle.streams.proofs.Clocked.{answered_is_clocked}
use Rattle.bgp_prefix.specs.declared.session.Session.{Session}
use Rattle.mrt.specs.Written.{IsWritable}
use Rattle.bgp_recording.specs.Captured.{records_of}
use Rattle.bgp_recording.specs.Gathered.{IsCovered, IsClocked}
use Rattle.bgp_recording.specs.declared.entry.Entry.{Entry}
use Rattle.bgp_import.specs.Captures.{CanBeWritten}

covered : (segments : List Segment) (connection : Connection) → Tells segments connection → IsCovered connection.received × IsCovered connection.sent
covered [] connection told = absurd told
covered (s ∷ before) connection told = (
  record { covered = told.received.covered; positive = told.received.counted },
  record { covered = told.sent.covered; positive = told.sent.counted },
)

-- its streams are covered by their runs
pub are_covered : (number : Option ℕ) (count : ℕ) (connections : List (List Segment)) (connection : Connection) → IsAnswered number count connections connection
    → IsCovered connection.received × IsCovered connection.sent
are_covered number count connections connection answered =
    covered (numbered_one connections connection.number) connection answered.tells

-- it goes by a clock
pub is_clocked : (segments : List Segment) (number : Option ℕ) (count : ℕ) (connection : Connection) → AreInOrder segments
    → IsAnswered number count (numbered segments) connection → IsClocked connection
is_clocked segments number count connection order answered =
    let c = answered_is_clocked segments number count connection order answered in record {
      clock = c.clock;
      rises = c.rises;
      begins = c.begins;
      received = c.received;
      sent = c.sent;
      ends = c.ends;
      fractions = c.fractions;
    }

-- records that can be written are those of entries that can
pub entries_written : (session : Session) (entries : List Entry) → AllByRecursion (IsWritable session) (records_of entries) → AllByRecursion (CanBeWritten session) entries
entries_written session [] all = tt
entries_written session (e ∷ later) all = (all.0, entries_written session later all.1)
