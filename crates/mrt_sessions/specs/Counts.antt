-- How many records of each direction a session has in a file, faulty or not (RFC 6396, 4.4).
use Rattle.std.specs.Prelude.{◌+◌, Bool, true, false, if◌then◌else◌, ℕ, List, [], ◌∷◌, Option}
use Rattle.std.specs.Prelude.{None, Some}
use Rattle.std.specs.List.{count_by}
use Rattle.mrt.specs.Layout.{header_of, is_of}
use Rattle.mrt_sessions.specs.declared.counts.Counts.{Counts}
use Rattle.mrt_sessions.specs.declared.counts.Direction.{Direction}
use Rattle.mrt_sessions.specs.declared.counts.Direction.TheVariants as directions
use Rattle.mrt_sessions.specs.File.{Located}

-- a message that was received, or sent, with ADD-PATH or without (RFC 8050, 3); a change of state
abbrev pub direction_of : ℕ → Option Direction
direction_of subtype =
    if is_of subtype (1 ∷ 4 ∷ 8 ∷ 9 ∷ []) then Some directions.Received
    else (if is_of subtype (6 ∷ 7 ∷ 10 ∷ 11 ∷ []) then Some directions.Sent
    else (if is_of subtype (0 ∷ 5 ∷ []) then Some directions.Change else None))

abbrev pub is_received : Option Direction → Bool
is_received (Some directions.Received) = true
is_received (Some directions.Sent) = false
is_received (Some directions.Change) = false
is_received None = false

abbrev pub is_sent : Option Direction → Bool
is_sent (Some directions.Received) = false
is_sent (Some directions.Sent) = true
is_sent (Some directions.Change) = false
is_sent None = false

abbrev pub is_change : Option Direction → Bool
is_change (Some directions.Received) = false
is_change (Some directions.Sent) = false
is_change (Some directions.Change) = true
is_change None = false

-- the record goes in such a direction
abbrev pub goes : (Option Direction → Bool) → Located → Bool
goes is named = is (direction_of (header_of named.octets).subtype)

abbrev pub counts_in : List Located → Counts
counts_in named = record {
  received = count_by (goes is_received) named;
  sent = count_by (goes is_sent) named;
  changes = count_by (goes is_change) named;
}

-- and one more
abbrev pub one_more : Counts → Option Direction → Counts
one_more counts (Some directions.Received) = record counts { received = counts.received + 1 }
one_more counts (Some directions.Sent) = record counts { sent = counts.sent + 1 }
one_more counts (Some directions.Change) = record counts { changes = counts.changes + 1 }
one_more counts None = counts
