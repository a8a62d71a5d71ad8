-- Texts that are written where they stand.
use Rattle.std.specs.Prelude.{◌≡◌, ◌+◌, ◌/◌, ◌%◌, ◌++◌, ℕ, Bool, List, [], ◌∷◌, cond, length, take}

-- Behind the first of some places, up to `at`, a text was written up to `end`. What stands before
-- it is as it was; what stands behind it is left open.
pub record Puts (old : List ℕ) (at : ℕ) (new : List ℕ) (end : ℕ) (text : List ℕ) : Type 0 where
  pub front : take end new ≡ take at old ++ text
  pub len : length new ≡ length old

-- a comma, if one is wanted
abbrev pub comma_text : Bool → List ℕ
comma_text comma = cond comma (44 ∷ []) []

-- the three last digits of a number
abbrev pub three_digits : ℕ → List ℕ
three_digits n = (48 + n / 10 / 10) ∷ (48 + n / 10 % 10) ∷ (48 + n % 10) ∷ []
