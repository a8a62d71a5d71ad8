-- The AS number of who sends a message (RFC 4271, 4.2; RFC 6793, 3).
use Rattle.std.specs.Prelude.{◌≡◌, ◌⊎◌, ℕ, List}
use Rattle.std.specs.Option.{unwrap_or}
use Rattle.bgp_open.specs.Offer.{as_number_of}
use Rattle.bgp_open.specs.Open.{OpenFields, IsOpen, fixed_fields_of, my_as_of, open_of}
use Rattle.bgp_open.specs.OpenFault.{IsWellFormed}

-- what an OPEN tells: the number in its first capability of four-octet AS numbers, or else its
-- field My Autonomous System
abbrev pub number_in : OpenFields → ℕ
number_in fields = unwrap_or (as_number_of fields.capabilities) fields.my_as

-- that field alone: 0 of a message that is no OPEN
abbrev pub IsFieldNumber : List ℕ → ℕ → Type 0
IsFieldNumber octets number =
    (IsOpen octets × (number ≡ my_as_of (fixed_fields_of octets)))
    ⊎ ((¬ IsOpen octets) × (number ≡ 0))

-- The AS number of who sends a message: of a well-formed OPEN what it tells, and else the field.
abbrev pub IsAsNumber : List ℕ → ℕ → Type 0
IsAsNumber octets number =
    (IsWellFormed octets × (number ≡ number_in (open_of octets)))
    ⊎ ((¬ IsWellFormed octets) × IsFieldNumber octets number)
