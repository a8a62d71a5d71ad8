-- The text of a second since 1970, and of a fraction of it: `2026-11-22 06:38:45.133606`, in UTC.
use Rattle.std.specs.Prelude.{◌≡◌, ◌+◌, ◌-◌, ◌*◌, ◌/◌, ◌%◌, ◌++◌, ◌==◌, ℕ, List, [], ◌∷◌}
use Rattle.std.specs.Prelude.{Option, None, Some, codes, nat_lt, if◌then◌else◌, slice_index}
use Rattle.httpdate.specs.Calendar.{IsCivilDate, IsTimeOfDay, seconds_from_civil}
use Rattle.bgp_clock.specs.Civil.{year_at, month_at, day_at, hour_at, minute_at, second_at}

-- the last digits of a number, as octets
abbrev pub two_digits : ℕ → List ℕ
two_digits number = (48 + number / 10 % 10) ∷ (48 + number % 10) ∷ []

abbrev pub four_digits : ℕ → List ℕ
four_digits number =
    (48 + number / 1000 % 10) ∷ (48 + number / 100 % 10) ∷ (48 + number / 10 % 10)
    ∷ (48 + number % 10) ∷ []

abbrev pub six_digits : ℕ → List ℕ
six_digits number =
    (48 + number / 100000 % 10) ∷ (48 + number / 10000 % 10) ∷ (48 + number / 1000 % 10)
    ∷ (48 + number / 100 % 10) ∷ (48 + number / 10 % 10) ∷ (48 + number % 10) ∷ []

-- `2026-11-22`
unfoldable pub date_text : ℕ → List ℕ
date_text second =
    four_digits (year_at second) ++ (codes "-" ++ (two_digits (month_at second)
    ++ (codes "-" ++ two_digits (day_at second))))

-- `06:38:45`
unfoldable pub time_text : ℕ → List ℕ
time_text second =
    two_digits (hour_at second) ++ (codes ":" ++ (two_digits (minute_at second)
    ++ (codes ":" ++ two_digits (second_at second))))

-- `.133606`; nothing for a number that isn't below 1,000,000, which is no fraction
abbrev pub micro_text : ℕ → List ℕ
micro_text micro = if nat_lt micro 1000000 then codes "." ++ six_digits micro else []

abbrev pub fraction_text : Option ℕ → List ℕ
fraction_text None = []
fraction_text (Some micro) = micro_text micro

-- the time of day with its fraction, if there is one
unfoldable pub clock_text : ℕ → Option ℕ → List ℕ
clock_text second micro = time_text second ++ fraction_text micro

-- the whole
unfoldable pub when_text : ℕ → Option ℕ → List ℕ
when_text second micro = date_text second ++ (codes " " ++ clock_text second micro)

-- the time of day alone, if the day is that of another second
abbrev pub short_text : ℕ → ℕ → Option ℕ → List ℕ
short_text first second micro =
    if first / 86400 == second / 86400 then clock_text second micro else when_text second micro

-- ---- reading it back

-- the number that these digits spell
abbrev pub number_at : List ℕ → ℕ → ℕ
number_at text place = (slice_index text place - 48) * 10 + (slice_index text (place + 1) - 48)

-- the second that a text of this form tells, by the calendar
abbrev pub second_in : List ℕ → ℕ
second_in text =
    seconds_from_civil (number_at text 0 * 100 + number_at text 2) (number_at text 5)
    (number_at text 8) (number_at text 11) (number_at text 14) (number_at text 17)

-- the fraction that it tells
abbrev pub micro_in : List ℕ → ℕ
micro_in text = (number_at text 20 * 100 + number_at text 22) * 100 + number_at text 24

-- the calendar has the date and the clock the time, and they are those of the second
abbrev pub IsDated : ℕ → Type 0
IsDated second =
    IsCivilDate (year_at second) (month_at second) (day_at second)
    × IsTimeOfDay (hour_at second) (minute_at second) (second_at second)
    × (seconds_from_civil (year_at second) (month_at second) (day_at second) (hour_at second)
    (minute_at second) (second_at second) ≡ second)
