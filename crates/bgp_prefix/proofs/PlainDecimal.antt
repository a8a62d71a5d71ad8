-- A decimal number without leading zeros is what `parse` reads where no sign and no zero stands in front.
use Rattle.std.proofs.Common.{◌≡◌, ◌≢◌, ℕ, ◌^◌, ◌<◌, ◌≤◌, ◌⊎◌, List, length, get_or, drop, decimal, refl, sym, ap, ◌∙◌, arith, inl, inr, eq-eqb, ne_eqb, length-drop, Some, None}
use Rattle.std.proofs.lemmas.Bool.{cases_lt, cases_eq}
use Rattle.std.proofs.lemmas.Option.{none-some}
use Rattle.std.proofs.lemmas.Fmt.{decimal_is_IsNumeral, decimal_digit, first_decimal, decimal-digits_value}
use Rattle.std.proofs.lemmas.Str.Parse.{numerals_by_value, tells_digits, digit_at}
use Rattle.std.specs.Prelude.{◌↔◌}
use Rattle.std.specs.Str.Parse.{IsNumeral, digits_value, without_leading_plus}

-- something else than a digit from 1 to 9 stands in front of other characters
abbrev pub HasSignOrZero : List ℕ → Type 0
HasSignOrZero text = (1 < length text) × ((get_or text 0 0 < 49) ⊎ (57 < get_or text 0 0))

no_plus : (text : List ℕ) → get_or text 0 0 ≢ 43 → without_leading_plus text ≡ text
no_plus text other = rw (ne_eqb (get_or text 0 0) 43 other) refl

plus : (text : List ℕ) → get_or text 0 0 ≡ 43 → without_leading_plus text ≡ drop 1 text
plus text sign = rw (eq-eqb (get_or text 0 0) 43 sign) refl

-- what is read so is that number in decimal
pub read_plain : (text : List ℕ) → ¬ HasSignOrZero text → IsNumeral 10 (without_leading_plus text) → digits_value 10 (without_leading_plus text) < 2 ^ 8 → text ≡ decimal (digits_value 10 (without_leading_plus text))
read_plain text plain numeral fits = elim (cases_eq (get_or text 0 0) 43) [
  | inl sign ↦
      let short : length text ≤ 1 = elim (cases_lt 1 (length text)) [ inl more ↦ absurd (plain (more, inl (omega arith))) | inr one ↦ one ] in
      let digits : IsNumeral 10 (drop 1 text) = rw (plus text sign) at numeral in
      absurd (omega (arith, digits.0, length-drop 1 text))
  | inr other ↦
      let same = no_plus text other in
      let digits : IsNumeral 10 text = rw same at numeral in
      let alone : get_or text 0 0 ≡ 48 → length text ≡ 1 = λ zero. elim (cases_lt 1 (length text)) [
        | inl more ↦ absurd (plain (more, inl (omega arith)))
        | inr one ↦ omega (arith, digits.0)
      ] in
      let small : digits_value 10 text < 2 ^ 64 = omega (arith, ap (digits_value 10) same) in
      rw same (sym (decimal-digits_value (numerals_by_value _ tells_digits) text digits.1 digits.0 alone small))
]

-- and a number in decimal is read so
pub plain_decimal : (number : ℕ) → number < 256 → (¬ HasSignOrZero (decimal number)) × IsNumeral 10 (without_leading_plus (decimal number)) × (digits_value 10 (without_leading_plus (decimal number)) ≡ number)
plain_decimal number fits =
    let (numeral, value) = decimal_is_IsNumeral number (omega arith) in
    let first = digit_at (decimal number) 0 numeral.1 numeral.0 in
    let same = no_plus (decimal number) (omega (arith, first.0)) in
    let plain : ¬ HasSignOrZero (decimal number) = λ (more, outside).
    elim (cases_lt number 10) [
      | inl one ↦ omega (arith, ap length (decimal_digit number one))
      | inr some ↦
          let high = first_decimal number (omega arith) (omega arith) in
          elim outside [ inl low ↦ omega (arith, low) | inr above ↦ omega (arith, above, first.1) ]
    ] in
    (plain, rw same numeral, rw same value)

-- ---- the exits of `read_length`

pub sign_or_zero_exit : (text : List ℕ) → HasSignOrZero text → (number : ℕ) → (None ≡ Some number) ↔ ((number < 256) × (text ≡ decimal number))
sign_or_zero_exit text not_plain number = (λ e. absurd (none-some number e), λ (fits, same). absurd ((plain_decimal number fits).0 (rw (← same) not_plain)))

pub read_exit : (text : List ℕ) (value : ℕ) → ¬ HasSignOrZero text → IsNumeral 10 (without_leading_plus text) → digits_value 10 (without_leading_plus text) < 2 ^ 8 → value ≡ digits_value 10 (without_leading_plus text) → (number : ℕ) → (Some value ≡ Some number) ↔ ((number < 256) × (text ≡ decimal number))
read_exit text value plain numeral fits same number =
    let spelled = read_plain text plain numeral fits in (
      λ e. let equal : value ≡ number = cc in (omega arith, rw (← equal, same) spelled),
      λ (below, also).
          let read = (plain_decimal number below).2 in
          ap Some (same ∙ ap (λ (t : List ℕ). digits_value 10 (without_leading_plus t)) also ∙ read),
    )

pub refused_exit : (text : List ℕ) → ¬ (IsNumeral 10 (without_leading_plus text) × (digits_value 10 (without_leading_plus text) < 2 ^ 8)) → (number : ℕ) → (None ≡ Some number) ↔ ((number < 256) × (text ≡ decimal number))
refused_exit text refused number = (
  λ e. absurd (none-some number e),
  λ (below, also).
      let (_, numeral, value) = plain_decimal number below in
      absurd (refused (rw also (numeral, omega (arith, value)))),
)
