-- Where a record of a recording stands: the packet that shows it, and the time of that.
use Rattle.std.specs.Prelude.{◌+◌, ◌-◌, ℕ, List, Option, None, Some}
use Rattle.std.specs.Prelude.{length, option_map, slice_get, unwrap_or}
use Rattle.bgp_prefix.specs.Shown.{second_of}
use Rattle.mrt.specs.Reader.{shown_of}
use Rattle.bgp_recording.specs.declared.entry.Entry.{Entry}
use Rattle.bgp_check_lines.specs.Places.{entry_place, place_with}
use Rattle.bgp_why.specs.declared.place.Place.{Place}
use Rattle.bgp_check_tool.specs.declared.orders.NoOrder.{NoOrder}

-- the second of the record after so many, and 0 if there is none
abbrev pub second_at : List Entry → ℕ → ℕ
second_at entries count =
    unwrap_or (option_map (λ (entry : Entry). second_of (shown_of entry.«record»))
    (slice_get entries count)) 0

-- where the record after so many stands; nowhere if there is none
abbrev pub place_by : ℕ → Option Entry → Place
place_by count None = place_with 0 0
place_by count (Some entry) = entry_place (count + 1) entry

abbrev pub place_at : List Entry → ℕ → Place
place_at entries count = place_by count (slice_get entries count)

-- and the last one
abbrev pub last_place : List Entry → Place
last_place entries = place_at entries (length entries - 1)

-- ---- a sent message that no order explains

-- it stands at the packet that is the first to show it, whichever number its record has
abbrev pub sent_place : NoOrder → Place
sent_place found = record {
  number = 0;
  packet = Some found.unexplained.packet;
  second = found.message.second;
  micro = found.message.micro;
}
