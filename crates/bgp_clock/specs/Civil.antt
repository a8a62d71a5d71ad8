-- The date and the time of day of a second since 1970, in UTC without leap seconds, by the
-- Gregorian calendar.
use Rattle.std.specs.Prelude.{ℕ, zero, suc, ◌+◌, ◌-◌, ◌/◌, ◌%◌, nat_lt, if◌then◌else◌}
use Rattle.httpdate.specs.Calendar.{days_in_month, days_in_year}

-- the year of a day, counted from the beginning of this year, and how many days of it have passed;
-- so many more years are looked at
unfoldable pub year_from : ℕ → ℕ → ℕ → ℕ × ℕ
year_from zero year days = (year, days)
year_from (suc more) year days =
    if nat_lt days (days_in_year year) then (year, days)
    else year_from more (year + 1) (days - days_in_year year)

-- the month of a day, counted from the beginning of this month, and how many days of it have passed
unfoldable pub month_from : ℕ → ℕ → ℕ → ℕ → ℕ × ℕ
month_from zero year month days = (month, days)
month_from (suc more) year month days =
    if nat_lt days (days_in_month year month) then (month, days)
    else month_from more year (month + 1) (days - days_in_month year month)

-- a second of 32 bits lies in 2106 at the latest, 136 years after 1970
abbrev pub year_of : ℕ → ℕ × ℕ
year_of days = year_from 136 1970 days

-- December is 11 months after January
abbrev pub month_of : ℕ → ℕ → ℕ × ℕ
month_of year days = month_from 11 year 1 days

-- the date of a second
abbrev pub year_at : ℕ → ℕ
year_at second = (year_of (second / 86400)).0

-- how many days of the year have passed
abbrev pub days_at : ℕ → ℕ
days_at second = (year_of (second / 86400)).1

abbrev pub month_at : ℕ → ℕ
month_at second = (month_of (year_at second) (days_at second)).0

abbrev pub day_at : ℕ → ℕ
day_at second = (month_of (year_at second) (days_at second)).1 + 1

-- the time of day
abbrev pub hour_at : ℕ → ℕ
hour_at second = second / 3600 % 24

abbrev pub minute_at : ℕ → ℕ
minute_at second = second / 60 % 60

abbrev pub second_at : ℕ → ℕ
second_at second = second % 60
