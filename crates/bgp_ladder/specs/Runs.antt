-- Runs of messages alike: the middle of a long one is summed up in a row.
use Rattle.std.specs.Prelude.{◌≡◌, ◌+◌, ◌==◌, ◌||◌, ℕ, Bool, false, List, [], ◌∷◌, Option, None, Some}
use Rattle.std.specs.Prelude.{if◌then◌else◌, length, nat_le, nat_lt, slice_index}
use Rattle.bgp_prefix.specs.Shown.{ShownRecord, Received as In, Sent as Out, Changed}
use Rattle.mrt.specs.Reader.{shown_of}
use Rattle.bgp_recording.specs.declared.entry.Entry.{Entry}
use Rattle.bgp_ladder.specs.declared.rows.Ladder.{Ladder}
use Rattle.bgp_ladder.specs.declared.runs.Part.{Part}
use Rattle.bgp_ladder.specs.declared.runs.Part.TheVariants as parts
use Rattle.bgp_ladder.specs.declared.runs.Run.{Run}

-- the type of a message (RFC 4271, 4.1), 0 if its octets don't reach to it
abbrev pub type_of : List ℕ → ℕ
type_of octets = if nat_lt 18 (length octets) then slice_index octets 18 else 0

-- both are messages of one direction and of one type
abbrev pub is_received : ℕ → ShownRecord → Bool
is_received number (In second octets) = type_of octets == number
is_received number (Out second octets) = false
is_received number (Changed second old new) = false

abbrev pub is_sent : ℕ → ShownRecord → Bool
is_sent number (In second octets) = false
is_sent number (Out second octets) = type_of octets == number
is_sent number (Changed second old new) = false

abbrev pub are_alike : ShownRecord → ShownRecord → Bool
are_alike (In second octets) next = is_received (type_of octets) next
are_alike (Out second octets) next = is_sent (type_of octets) next
are_alike (Changed second old new) next = false

-- the record with this number, from 0 on, is the one at this place
abbrev pub is_marked : Option ℕ → ℕ → Bool
is_marked None number = false
is_marked (Some place) number = number == place

-- it belongs to no run: it is that of the no, or the one that the lines are about
abbrev pub is_apart : Ladder → ℕ → Bool
is_apart ladder number = is_marked ladder.impossible number || is_marked ladder.asked number

-- a record with this number and the next belong to one run
abbrev pub are_linked : Ladder → ℕ → ShownRecord → ShownRecord → Bool
are_linked ladder number shown next =
    if is_apart ladder number || is_apart ladder (number + 1) then false else are_alike shown next

-- how many of these belong to the run of the record with this number, which stands before them
abbrev pub run_behind : Ladder → ℕ → ShownRecord → List Entry → ℕ
run_behind ladder number shown [] = 0
run_behind ladder number shown (next ∷ entries) =
    if are_linked ladder number shown (shown_of next.record)
    then run_behind ladder (number + 1) (shown_of next.record) entries + 1 else 0

-- how many of these belong to the run of the record behind them: the last of them stands first
abbrev pub run_before : Ladder → ShownRecord → List Entry → ℕ
run_before ladder shown [] = 0
run_before ladder shown (previous ∷ earlier) =
    if are_linked ladder (length earlier) (shown_of previous.record) shown
    then run_before ladder (shown_of previous.record) earlier + 1 else 0

-- How a record stands in a ladder, if so many of its run stand before it and so many behind it: of
-- a run of more than 40 the first and the last have a row of their own, and those between them one
-- together.
abbrev pub part_of : ℕ → ℕ → Part
part_of before behind =
    if nat_le (before + 1 + behind) 40 || before == 0 then parts.Own else
    if behind == 0 then parts.Last else
    if before == 1 then parts.Sum behind else
    parts.Summed

-- ---- the run of the last of these entries, of which the last stands first, before those

abbrev pub IsRun : Ladder → List Entry → List Entry → Run → Type 0
IsRun ladder [] later run = run.behind ≡ 0
IsRun ladder (entry ∷ earlier) later run =
    (run.behind ≡ run_behind ladder (length earlier) (shown_of entry.record) later)
    × (run.length ≡ run_before ladder (shown_of entry.record) earlier + 1 + run.behind)

-- that of the first of these
abbrev pub run_at : Ladder → ℕ → List Entry → ℕ
run_at ladder number [] = 0
run_at ladder number (entry ∷ entries) = run_behind ladder number (shown_of entry.record) entries
