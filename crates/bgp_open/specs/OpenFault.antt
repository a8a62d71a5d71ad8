-- What can be wrong with an OPEN's form (RFC 4271, 6.2), and which fault its reader answers.
use Rattle.std.specs.Prelude.{◌≡◌, ◌≢◌, ◌⊎◌, ℕ, List, All, length}
use Rattle.bgp_open.specs.Triplet.{Triplet, IsWhole, triplets_of}
use Rattle.bgp_open.specs.Open.{IsOpen, fixed_fields_of, parameters_of}
use Rattle.bgp_open.specs.Open.{version_of, parameters_length_of}
use Rattle.bgp_open.specs.declared.fault.OpenFault.{OpenFault}
use Rattle.bgp_open.specs.declared.fault.OpenFault.TheVariants.{Malformed, Version, Parameter}

-- the subcode of OPEN Message Error that stands for a fault, 0 being Unspecific
abbrev pub open_fault_number : OpenFault → ℕ
open_fault_number Malformed = 0
open_fault_number Version = 1
open_fault_number Parameter = 4

-- Unsupported Version Number: the version isn't 4
abbrev pub IsOtherVersion : List ℕ → Type 0
IsOtherVersion octets = version_of (fixed_fields_of octets) ≢ 4

-- a parameter of type 2 is capabilities and nothing else; what another holds isn't looked into
abbrev pub HasWholeCapabilities : Triplet → Type 0
HasWholeCapabilities parameter = parameter.code ≡ 2 → IsWhole parameter.value

-- the octets are parameters and nothing else, and each one's capabilities are whole
abbrev pub AreParameters : List ℕ → Type 0
AreParameters octets = IsWhole octets × All HasWholeCapabilities (triplets_of octets)

-- Malformed: the parameters aren't as long as their length says, or one of them, or a capability,
-- runs over or leaves an octet
abbrev pub IsMalformed : List ℕ → Type 0
IsMalformed octets =
    (parameters_length_of (fixed_fields_of octets) ≢ length (parameters_of octets))
    ⊎ (¬ AreParameters (parameters_of octets))

-- every parameter is of type 2 (Capabilities)
abbrev pub AreAllCapabilities : List ℕ → Type 0
AreAllCapabilities octets = All (λ parameter. parameter.code ≡ 2) (triplets_of octets)

-- Unsupported Optional Parameter: there is a parameter of another type
abbrev pub HasOtherParameter : List ℕ → Type 0
HasOtherParameter octets = ¬ AreAllCapabilities (parameters_of octets)

-- an OPEN has the fault, whatever others it has; the octets are taken for a whole one
abbrev pub HasOpenFault : List ℕ → OpenFault → Type 0
HasOpenFault octets Malformed = IsMalformed octets
HasOpenFault octets Version = IsOtherVersion octets
HasOpenFault octets Parameter = HasOtherParameter octets

-- an OPEN of version 4 whose parameters are as long as they say, and whole: its fields can be told
pub record IsReadable (octets : List ℕ) : Type 0 where
  pub whole : IsOpen octets
  pub version : version_of (fixed_fields_of octets) ≡ 4
  pub count : parameters_length_of (fixed_fields_of octets) ≡ length (parameters_of octets)
  pub parameters : AreParameters (parameters_of octets)

-- and all its parameters are of type 2
pub record IsWellFormed (octets : List ℕ) : Type 0 where
  pub readable : IsReadable octets
  pub types : AreAllCapabilities (parameters_of octets)

-- The fault that is answered: that the octets are no whole OPEN; else another version, and then
-- nothing else is read; else the least that holds
abbrev pub IsAnswered : List ℕ → OpenFault → Type 0
IsAnswered octets Malformed = (¬ IsOpen octets) ⊎ ((¬ IsOtherVersion octets) × IsMalformed octets)
IsAnswered octets Version = IsOpen octets × IsOtherVersion octets
IsAnswered octets Parameter =
    IsOpen octets × (¬ IsOtherVersion octets) × (¬ IsMalformed octets) × HasOtherParameter octets
