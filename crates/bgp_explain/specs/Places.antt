-- Where the records that are judged stand: the number that one has in its session, the packet that
-- shows it, in a recording, and its time. In a recording that is the packet's, which may have
-- passed before the order handles what the record shows. They are counted from 1, and so are
-- packets.
use Rattle.std.specs.Prelude.{ℕ, zero, suc, List, Option, None, Some, slice_get}
use Rattle.std.specs.Prelude.{unwrap_or}
use Rattle.bgp_recording.specs.declared.entry.Entry.{Entry}
use Rattle.bgp_why.specs.declared.place.Place.{Place}
use Rattle.bgp_explain.specs.declared.fractions.Fractions.{Fractions}
use Rattle.bgp_explain.specs.declared.fractions.NumberedRecord.{NumberedRecord}
use Rattle.bgp_explain.specs.Fractions.{counted, micro_at, micro_in}
use Rattle.bgp_explain.specs.declared.places.Places.{Places}
use Rattle.bgp_explain.specs.declared.places.Places.TheVariants.{Counted, Shown, Numbered}

-- the number and the fraction with this count, or the count itself where there are fewer
abbrev pub numbered_at : List NumberedRecord → ℕ → NumberedRecord
numbered_at numbers count = unwrap_or (counted numbers count) (record { number = count; micro = None })

-- ---- of the record with a count, and its second

-- without a packet, and without a fraction of the second
abbrev pub place_with : ℕ → ℕ → Place
place_with number second =
    record { number = number; packet = None; second = second; micro = None }

-- in a capture: without a packet
abbrev pub capture_place : NumberedRecord → ℕ → Place
capture_place numbered second = record {
  number = numbered.number;
  packet = None;
  second = second;
  micro = numbered.micro;
}

-- of all records of a capture's session, whose seconds have these fractions: its count is its
-- number
abbrev pub counted_places : List (Option ℕ) → ℕ → ℕ → Place
counted_places micros count second =
    capture_place (record { number = count; micro = micro_at micros count }) second

-- so, as far as the fractions are kept
abbrev pub kept_places : Fractions → ℕ → ℕ → Place
kept_places fractions count second =
    capture_place (record { number = count; micro = micro_in fractions count }) second

-- of an entry's record: the packet that shows it, and the time of that
abbrev pub entry_place : ℕ → Entry → Place
entry_place number entry = record {
  number = number;
  packet = Some entry.packet;
  second = entry.second;
  micro = entry.micro;
}

abbrev pub shown_place : ℕ → ℕ → Option Entry → Place
shown_place count second None = place_with count second
shown_place count second (Some entry) = entry_place count entry

-- of those of entries: so, by its entry
abbrev pub shown_places : List Entry → ℕ → ℕ → Place
shown_places entries count second = shown_place count second (counted entries count)

-- of some records of a capture's session, which have these numbers there, and these fractions
abbrev pub numbered_places : List NumberedRecord → ℕ → ℕ → Place
numbered_places numbers count second = capture_place (numbered_at numbers count) second

abbrev pub places_of : Places → ℕ → ℕ → Place
places_of (Counted fractions) = kept_places fractions.now
places_of (Shown entries) = shown_places entries.now
places_of (Numbered numbers) = numbered_places numbers.now

-- where a record stands that is named, and its second is, if one is
abbrev pub named_place : (ℕ → ℕ → Place) → Option ℕ → Option ℕ → Option Place
named_place places None second = None
named_place places (Some count) None = None
named_place places (Some count) (Some second) = Some (places count second)
