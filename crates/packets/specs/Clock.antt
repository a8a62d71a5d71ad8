-- The clock of an interface (the options if_tsresol and if_tsoffset of pcapng): how its ticks tell
-- the second and its fraction.
use Rattle.std.specs.Prelude.{◌/◌, ◌%◌, ◌*◌, ◌-◌, ◌^◌, ℕ, ℤ, pos, ◌+ℤ◌, int_lt, nat_lt, unsigned_abs}
use Rattle.std.specs.Prelude.{Option, None, Some, if◌then◌else◌}
use Rattle.packets.specs.declared.clock.Clock.{Clock}

-- how many ticks a second has: a power of 10, or of 2 where the first bit is set
abbrev pub ticks_in_second : ℕ → ℕ
ticks_in_second resolution =
    if nat_lt resolution 128 then 10 ^ resolution else 2 ^ (resolution - 128)

-- the second, if it is one of 32 bits
abbrev pub in_range : ℤ → Option ℕ
in_range second =
    if int_lt second (pos 0) then None
    else (if nat_lt (unsigned_abs second) (2 ^ 32) then Some (unsigned_abs second) else None)

-- the whole seconds of so many ticks, and the offset added
abbrev pub second_at : Clock → ℕ → Option ℕ
second_at clock ticks =
    in_range (pos (ticks / ticks_in_second clock.resolution) +ℤ clock.offset)

-- the whole microseconds in the ticks above the whole seconds of so many
abbrev pub micro_in_ticks : ℕ → ℕ → ℕ
micro_in_ticks ticks resolution =
    ticks % ticks_in_second resolution * 1000000 / ticks_in_second resolution

-- The fraction of that second, in whole microseconds. The offset is of whole seconds.
abbrev pub micro_at : Clock → ℕ → ℕ
micro_at clock ticks = micro_in_ticks ticks clock.resolution
