-- What an OPEN that was sent says that no configuration has.
use Rattle.std.specs.Prelude.{◌≡◌, ◌↔◌, ℕ, List, Option, None, Some, IsTrue, MatchOption}
use Rattle.bgp_prefix.specs.Shown.{ShownRecord}
use Rattle.bgp_open.specs.Open.{OpenFields, open_of}
use Rattle.bgp_open.specs.declared.config.Config.{Config}
use Rattle.bgp_check.specs.Configurations.{as_of, own_faults}
use Rattle.bgp_parts.specs.Opens.{HasOwnOpen}
use Rattle.bgp_check.specs.declared.own_fault.OwnFault.{OwnFault}
use Rattle.bgp_check.specs.declared.own_fault.OwnFault.TheVariants.{AsNumber, Identifier, Hold}
use Rattle.bgp_why_parts.specs.declared.own_faults.OwnFaults.{OwnFaults}

-- each own fault of an OPEN, with what it says
pub record AreOwnFaults (message : OpenFields) (faults : OwnFaults) : Type 0 where
  pub as_numbers : MatchOption faults.as_numbers (¬ own_faults message AsNumber)
      (λ (told : ℕ × ℕ). own_faults message AsNumber × (told.0 ≡ message.my_as)
      × (told.1 ≡ as_of message))
  pub id : IsTrue faults.id ↔ own_faults message Identifier
  pub hold : MatchOption faults.hold (¬ own_faults message Hold)
      (λ (told : ℕ). own_faults message Hold × (told ≡ message.hold))

-- ---- the configuration under which a verdict is told, where some has the OPEN as its own

-- an OPEN was sent, and it has no own fault
abbrev pub HasFaultlessOpen : List ShownRecord → Type 0
HasFaultlessOpen records =
    (own : List ℕ) × HasOwnOpen records (Some own)
    × ((fault : OwnFault) → ¬ own_faults (open_of own) fault)

abbrev pub IsToldConfiguration : List ShownRecord → Config → Option Config → Type 0
IsToldConfiguration records under None = ¬ HasFaultlessOpen records
IsToldConfiguration records under (Some config) =
    HasFaultlessOpen records × (config ≡ under)
