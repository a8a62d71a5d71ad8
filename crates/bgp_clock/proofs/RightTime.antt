-- Each second of 32 bits has its date and its time of day, and they are read back from its text.
use Rattle.std.proofs.Common.{◌≡◌, ◌<◌, ◌^◌, ◌+◌, ◌-◌, ◌*◌, ◌/◌, ◌%◌, ◌++◌, ℕ, List, Option, Some, codes, refl, ◌∙◌, arith, lit<, ◌==◌, ◌||◌, if◌then◌else◌}
use Rattle.std.proofs.lemmas.Bool.{cond_both, lt-ltb}
use Rattle.httpdate.specs.Calendar.{days_in_month, days_in_year, is_leap_year, days_of_months, days_of_years, seconds_from_civil}
use Rattle.httpdate.proofs.CalendarLemmas.{days_of_months_all}
use Rattle.bgp_clock.specs.Civil.{days_at, year_at, month_at, day_at, hour_at, minute_at, second_at, year_of, month_of}
use Rattle.bgp_clock.specs.When.{IsDated, clock_text, date_text, fraction_text, four_digits, micro_in, second_in, time_text, two_digits, when_text}
use Rattle.bgp_clock.proofs.Walked.{IsYearOf, IsMonthOf, year_right, month_right}

no_years : days_of_years 0 ≡ 0
unfolding days_of_years
no_years = refl

-- up to the end of 2106
all_years : days_of_years 137 ≡ 50038
unfolding days_of_years
all_years = refl

no_months : (year : ℕ) → days_of_months year 0 ≡ 0
unfolding days_of_months
no_months year = refl

right_year : (days : ℕ) → days < 49711 → IsYearOf 136 0 days (year_of days)
right_year days few = year_right 136 0 days (omega (arith, no_years, all_years, few))

right_month : (year days : ℕ) → days < days_in_year year → IsMonthOf 11 year 1 days (month_of year days)
right_month year days within = month_right 11 year 1 days (omega arith) (omega (arith, no_months year, days_of_months_all year, within))

-- a day and what has passed of it
pub dated : (second : ℕ) → second < 2 ^ 32 → IsDated second
dated second small =
    let days : second / 86400 < 49711 = omega arith in
    let year = right_year (second / 86400) days in
    let month = right_month (year_at second) (days_at second) year.within in (
      ((omega (arith, year.least), omega (arith, year.most)), (omega (arith, month.least), omega (arith, month.most)), (omega arith, omega (arith, month.within))),
      (omega arith, omega arith, omega arith),
      omega (arith, year.counted, month.counted, no_years, no_months (year_at second)),
    )

-- ---- the text

two_back : (n : ℕ) → n < 100 → (48 + n / 10 % 10 - 48) * 10 + (48 + n % 10 - 48) ≡ n
two_back n small = omega arith

four_back : (n : ℕ) → n < 10000
    → ((48 + n / 1000 % 10 - 48) * 10 + (48 + n / 100 % 10 - 48)) * 100 + ((48 + n / 10 % 10 - 48) * 10 + (48 + n % 10 - 48)) ≡ n
four_back n small = omega arith

six_back : (n : ℕ) → n < 1000000
    → (((48 + n / 100000 % 10 - 48) * 10 + (48 + n / 10000 % 10 - 48)) * 100 + ((48 + n / 1000 % 10 - 48) * 10 + (48 + n / 100 % 10 - 48))) * 100
    + ((48 + n / 10 % 10 - 48) * 10 + (48 + n % 10 - 48)) ≡ n
six_back n small = omega arith

short_month : (year month : ℕ) → days_in_month year month < 100
short_month year month =
    cond_both (month == 2) (if is_leap_year year then 29 else 28) (if (month == 4) || (month == 6) || (month == 9) || (month == 11) then 30 else 31) (λ (n : ℕ). n < 100)
    (λ _. cond_both (is_leap_year year) 29 28 (λ (n : ℕ). n < 100) (λ _. lit< tt) (λ _. lit< tt))
    (λ _. cond_both ((month == 4) || (month == 6) || (month == 9) || (month == 11)) 30 31 (λ (n : ℕ). n < 100) (λ _. lit< tt) (λ _. lit< tt))

-- the numbers of a text are read as they were put
read_of : (year month day hour minute second : ℕ) (rest : List ℕ) → year < 10000 → month < 100 → day < 100 → hour < 100 → minute < 100 → second < 100
    → second_in ((four_digits year ++ (codes "-" ++ (two_digits month ++ (codes "-" ++ two_digits day))))
    ++ (codes " " ++ ((two_digits hour ++ (codes ":" ++ (two_digits minute ++ (codes ":" ++ two_digits second)))) ++ rest)))
    ≡ seconds_from_civil year month day hour minute second
read_of year month day hour minute second rest y m d h i s =
    rw (four_back year y, two_back month m, two_back day d, two_back hour h, two_back minute i, two_back second s) refl

pub reads_back : (second : ℕ) (micro : Option ℕ) → second < 2 ^ 32 → second_in (when_text second micro) ≡ second
unfolding when_text date_text time_text clock_text
reads_back second micro small =
    let is = dated second small in
    read_of (year_at second) (month_at second) (day_at second) (hour_at second) (minute_at second) (second_at second) (fraction_text micro)
    (omega (arith, is.0.0)) (omega (arith, is.0.1)) (omega (arith, is.0.2, short_month (year_at second) (month_at second)))
    (omega (arith, is.1.0)) (omega (arith, is.1.1)) (omega (arith, is.1.2))
    ∙ is.2

pub fraction_back : (second micro : ℕ) → micro < 1000000 → micro_in (when_text second (Some micro)) ≡ micro
unfolding when_text date_text time_text clock_text
fraction_back second micro small = rw (lt-ltb micro 1000000 small) (six_back micro small)
