-- Refusals of a capture, of each number the first.
use Rattle.std.specs.Prelude.{◌++◌, ◌==◌, ℕ, Bool, List, [], ◌∷◌, Option, None, Some}
use Rattle.std.specs.Prelude.{eqb, if◌then◌else◌, map}
use Rattle.std.specs.List.{IsDistinct, list_any}
use Rattle.mrt.specs.Fault.{fault_number}
use Rattle.mrt.specs.declared.fault.CaptureFault.{CaptureFault}

-- the number of a refusal, 0 of none
abbrev pub number_in : Option CaptureFault → ℕ
number_in None = 0
number_in (Some fault) = fault_number fault.kind

abbrev pub has_number : ℕ → List (Option CaptureFault) → Bool
has_number number faults =
    list_any (λ (fault : Option CaptureFault). number == number_in fault) faults

-- with one more, where there is one and none of its number is there
abbrev pub with_first : List (Option CaptureFault) → Option CaptureFault
    → List (Option CaptureFault)
with_first firsts None = firsts
with_first firsts (Some fault) =
    if has_number (fault_number fault.kind) firsts then firsts else firsts ++ Some fault ∷ []

-- and with those of more of each number the first, in their order
abbrev pub firsts_after : List (Option CaptureFault) → List (Option CaptureFault)
    → List (Option CaptureFault)
firsts_after firsts [] = firsts
firsts_after firsts (fault ∷ later) = firsts_after (with_first firsts fault) later

-- no two have one number
abbrev pub AreApart : List (Option CaptureFault) → Type 0
AreApart faults = IsDistinct eqb (map number_in faults)
