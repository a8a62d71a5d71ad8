-- A walk over the years and the months counts as the calendar does.
use Rattle.std.proofs.Common.{◌≡◌, ◌<◌, ◌≤◌, ◌+◌, ◌-◌, ℕ, zero, suc, nat_lt, inl, inr, refl, arith}
use Rattle.std.proofs.lemmas.Bool.{cases_Bool, cond-true, cond-false, ltb-true, ltb-false, lt-ltb, le-ltb}
use Rattle.httpdate.specs.Calendar.{days_in_month, days_in_year, days_of_months, days_of_years}
use Rattle.httpdate.proofs.CalendarLemmas.{days_of_months_more}
use Rattle.bgp_clock.specs.Civil.{month_from, year_from}

-- ---- one step of a walk

pub year_here : (left next year days : ℕ) → left ≡ suc next → days < days_in_year year → year_from left year days ≡ (year, days)
unfolding year_from
year_here left next year days is below =
    rw is (cond-true (nat_lt days (days_in_year year)) (year, days) (year_from next (year + 1) (days - days_in_year year)) (lt-ltb days (days_in_year year) below))

pub year_on : (left next year days : ℕ) → left ≡ suc next → days_in_year year ≤ days
    → year_from left year days ≡ year_from next (year + 1) (days - days_in_year year)
unfolding year_from
year_on left next year days is above =
    rw is (cond-false (nat_lt days (days_in_year year)) (year, days) (year_from next (year + 1) (days - days_in_year year)) (le-ltb days (days_in_year year) above))

pub year_last : (left year days : ℕ) → left ≡ 0 → year_from left year days ≡ (year, days)
unfolding year_from
year_last left year days is = rw is refl

pub month_here : (left next year month days : ℕ) → left ≡ suc next → days < days_in_month year month → month_from left year month days ≡ (month, days)
unfolding month_from
month_here left next year month days is below =
    rw is (cond-true (nat_lt days (days_in_month year month)) (month, days) (month_from next year (month + 1) (days - days_in_month year month)) (lt-ltb days (days_in_month year month) below))

pub month_on : (left next year month days : ℕ) → left ≡ suc next → days_in_month year month ≤ days
    → month_from left year month days ≡ month_from next year (month + 1) (days - days_in_month year month)
unfolding month_from
month_on left next year month days is above =
    rw is (cond-false (nat_lt days (days_in_month year month)) (month, days) (month_from next year (month + 1) (days - days_in_month year month)) (le-ltb days (days_in_month year month) above))

pub month_last : (left year month days : ℕ) → left ≡ 0 → month_from left year month days ≡ (month, days)
unfolding month_from
month_last left year month days is = rw is refl

-- ---- years

more_years : (k : ℕ) → days_of_years (suc k) ≡ days_of_years k + days_in_year (1970 + k)
unfolding days_of_years
more_years k = refl

-- what a walk of n years at most finds, where k years have passed
pub record IsYearOf (n k days : ℕ) (found : ℕ × ℕ) : Type 0 where
  pub counted : days_of_years (found.0 - 1970) + found.1 ≡ days_of_years k + days
  pub least : 1970 + k ≤ found.0
  pub most : found.0 ≤ 1970 + k + n
  pub within : found.1 < days_in_year found.0

this_year : (n k days : ℕ) → days < days_in_year (1970 + k) → IsYearOf n k days (1970 + k, days)
this_year n k days below =
    let back : 1970 + k - 1970 ≡ k = omega arith in
    record { counted = rw back refl; least = omega arith; most = omega arith; within = below }

pub year_right : (n k days : ℕ) → days_of_years k + days < days_of_years (k + suc n) → IsYearOf n k days (year_from n (1970 + k) days)
unfolding year_from
year_right zero k days within =
    let next : k + suc zero ≡ suc k = omega arith in
    this_year zero k days (omega (arith, more_years k, rw next at within))
year_right (suc n) k days within =
    elim (cases_Bool (nat_lt days (days_in_year (1970 + k)))) [
      | inl below ↦ rw below (this_year (suc n) k days (ltb-true days (days_in_year (1970 + k)) below))
      | inr above ↦
          let more = ltb-false days (days_in_year (1970 + k)) above in
          let next : 1970 + k + 1 ≡ 1970 + suc k = omega arith in
          let far : k + suc (suc n) ≡ suc k + suc n = omega arith in
          let rest = year_right n (suc k) (days - days_in_year (1970 + k)) (omega (arith, more_years k, more, rw far at within)) in
          rw (above, next) (record {
            counted = omega (arith, rest.counted, more_years k, more);
            least = omega (arith, rest.least);
            most = omega (arith, rest.most);
            within = rest.within;
          })
    ]

-- ---- months

pub record IsMonthOf (n year month days : ℕ) (found : ℕ × ℕ) : Type 0 where
  pub counted : days_of_months year (found.0 - 1) + found.1 ≡ days_of_months year (month - 1) + days
  pub least : month ≤ found.0
  pub most : found.0 ≤ month + n
  pub within : found.1 < days_in_month year found.0

pub month_right : (n year month days : ℕ) → 1 ≤ month → days_of_months year (month - 1) + days < days_of_months year (month + n)
    → IsMonthOf n year month days (month_from n year month days)
unfolding month_from
month_right zero year month days first within =
    let here : month + zero ≡ month = omega arith in
    record { counted = refl; least = omega arith; most = omega arith; within = omega (arith, days_of_months_more year month first, rw here at within) }
month_right (suc n) year month days first within =
    elim (cases_Bool (nat_lt days (days_in_month year month))) [
      | inl below ↦ rw below (record { counted = refl; least = omega arith; most = omega arith; within = ltb-true days (days_in_month year month) below })
      | inr above ↦
          let more = ltb-false days (days_in_month year month) above in
          let back : month + 1 - 1 ≡ month = omega arith in
          let far : month + suc n ≡ month + 1 + n = omega arith in
          let step = days_of_months_more year month first in
          let rest = month_right n year (month + 1) (days - days_in_month year month) (omega arith) (rw back (omega (arith, step, more, rw far at within))) in
          rw above (record {
            counted = omega (arith, rw back at rest.counted, step, more);
            least = omega (arith, rest.least);
            most = omega (arith, rest.most);
            within = rest.within;
          })
    ]
