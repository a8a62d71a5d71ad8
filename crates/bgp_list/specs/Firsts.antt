-- Refusals, of each number the first.
use Rattle.std.specs.Prelude.{◌++◌, ◌==◌, ℕ, Bool, List, [], ◌∷◌, Option, None, Some}
use Rattle.std.specs.Prelude.{eqb, if◌then◌else◌, map}
use Rattle.std.specs.List.{IsDistinct, list_any}
use Rattle.bgp_import.specs.Refusals.{refusal_number}
use Rattle.bgp_import.specs.declared.refusal.Refusal.{Refusal}

-- the number of a refusal, 0 of none
abbrev pub number_in : Option Refusal → ℕ
number_in None = 0
number_in (Some refusal) = refusal_number refusal

abbrev pub has_number : ℕ → List (Option Refusal) → Bool
has_number number refusals =
    list_any (λ (refusal : Option Refusal). number == number_in refusal) refusals

-- with one more, where there is one and none of its number is there
abbrev pub with_first : List (Option Refusal) → Option Refusal → List (Option Refusal)
with_first firsts None = firsts
with_first firsts (Some refusal) =
    if has_number (refusal_number refusal) firsts then firsts else firsts ++ Some refusal ∷ []

-- and with those of more of each number the first, in their order
abbrev pub firsts_after : List (Option Refusal) → List (Option Refusal) → List (Option Refusal)
firsts_after firsts [] = firsts
firsts_after firsts (refusal ∷ later) = firsts_after (with_first firsts refusal) later

-- no two have one number
abbrev pub AreApart : List (Option Refusal) → Type 0
AreApart refusals = IsDistinct eqb (map number_in refusals)
