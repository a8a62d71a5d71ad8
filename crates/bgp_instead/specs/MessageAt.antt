-- Whether a record is that of a sent message, and which.
use Rattle.std.specs.Prelude.{◌==◌, ◌&&◌, ℕ, Bool, true, false, List, count_by, option_map}
use Rattle.std.specs.Prelude.{slice_get, take, unwrap_or}
use Rattle.bgp_prefix.specs.Shown.{Changed, Received, Sent, ShownRecord, second_of}
use Rattle.mrt.specs.Reader.{shown_of}
use Rattle.bgp_recording.specs.declared.entry.Entry.{Entry}

abbrev pub is_sent : ShownRecord → Bool
is_sent (Received second octets) = false
is_sent (Sent second octets) = true
is_sent (Changed second old new) = false

abbrev pub sends : Entry → Bool
sends entry = is_sent (shown_of entry.«record»)

-- the record after so many is the sent message before which so many sent ones stand
abbrev pub is_message_at : List Entry → ℕ → ℕ → Bool
is_message_at entries count before =
    unwrap_or (option_map sends (slice_get entries count)) false
    && (count_by sends (take count entries) == before)

-- the second of the record after so many, and 0 if there is none
abbrev pub second_at : List Entry → ℕ → ℕ
second_at entries count =
    unwrap_or (option_map (λ (entry : Entry). second_of (shown_of entry.«record»))
    (slice_get entries count)) 0
