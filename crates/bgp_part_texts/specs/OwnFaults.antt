-- Faults for each of which an OPEN is no configuration's own have different texts.
use Rattle.std.specs.Prelude.{◌≡◌, ◌≢◌, ◌<◌, ◌^◌, ◌⊎◌, ℕ, IfSome, List}
use Rattle.bgp_wire.specs.AsNumber.{two_octet_as}
use Rattle.bgp_why_parts.specs.declared.own_faults.OwnFaults.{OwnFaults}
use Rattle.bgp_why_parts.specs.OwnFaults.{own_faults_text}
use Rattle.bgp_part_texts.specs.OneText.{TextsDiffer}

-- The AS number is 0, or My Autonomous System isn't what stands for it.
abbrev pub IsOdd : ℕ × ℕ → Type 0
IsOdd told = (told.1 ≡ 0) ⊎ (told.0 ≢ two_octet_as told.1)

-- the faults are some, and the numbers fit their fields
pub record AreFaults (faults : OwnFaults) : Type 0 where
  pub odd : IfSome faults.as_numbers IsOdd
  pub as_numbers : IfSome faults.as_numbers (λ told. (told.0 < 2 ^ 16) × (told.1 < 2 ^ 32))
  pub hold : IfSome faults.hold (λ hold. hold < 2 ^ 16)

abbrev pub OwnFaultsDiffer : Type 0
OwnFaultsDiffer =
    (before : List ℕ) → TextsDiffer AreFaults (own_faults_text before) (λ faults. faults)
