-- An OPEN message (RFC 4271, 4.2): its fixed fields, its parameters, and its capabilities
-- (RFC 5492, 4).
use Rattle.std.specs.Prelude.{◌≤◌, ◌==◌, if◌then◌else◌, ℕ, List, [], length, take, drop}
use Rattle.std.specs.Prelude.{slice_index}
use Rattle.std.specs.List.{flat_map}
use Rattle.byteorder.specs.Endian.{big_number}
use Rattle.bgp_wire.specs.Message.{IsMessage, body_of}
use Rattle.bgp_open.specs.Triplet.{Triplet, triplets_of}

-- the octets are a whole OPEN: a message of type 1 in which the fixed fields are there
pub record IsOpen (octets : List ℕ) : Type 0 where
  pub message : IsMessage 1 octets
  pub fields : 10 ≤ length (body_of octets)

-- the ten octets of the fixed fields, behind the header
abbrev pub fixed_fields_of : List ℕ → List ℕ
fixed_fields_of octets = take 10 (body_of octets)

-- Version, octet 0 of the fixed fields
unfoldable pub version_of : List ℕ → ℕ
version_of fields = slice_index fields 0

-- My Autonomous System, octets 1 and 2
unfoldable pub my_as_of : List ℕ → ℕ
my_as_of fields = big_number 2 (drop 1 fields)

-- Hold Time in seconds, octets 3 and 4
unfoldable pub hold_of : List ℕ → ℕ
hold_of fields = big_number 2 (drop 3 fields)

-- BGP Identifier, octets 5 to 8
unfoldable pub id_of : List ℕ → ℕ
id_of fields = big_number 4 (drop 5 fields)

-- Optional Parameters Length, octet 9
unfoldable pub parameters_length_of : List ℕ → ℕ
parameters_length_of fields = slice_index fields 9

-- the octets of the Optional Parameters, to the end
abbrev pub parameters_of : List ℕ → List ℕ
parameters_of octets = drop 10 (body_of octets)

-- the capabilities in one parameter: those of its value, if it is of type 2 (Capabilities)
abbrev pub capabilities_in : Triplet → List Triplet
capabilities_in parameter = if parameter.code == 2 then triplets_of parameter.value else []

-- the capabilities in the octets of parameters: those of all parameters, joined
unfoldable pub capabilities_of : List ℕ → List Triplet
capabilities_of parameters = flat_map capabilities_in (triplets_of parameters)

-- what an OPEN says
pub record OpenFields : Type 0 where
  pub my_as : ℕ
  pub hold : ℕ
  pub id : ℕ
  pub capabilities : List Triplet

-- what the octets of an OPEN say
abbrev pub open_of : List ℕ → OpenFields
open_of octets = record {
  my_as = my_as_of (fixed_fields_of octets);
  hold = hold_of (fixed_fields_of octets);
  id = id_of (fixed_fields_of octets);
  capabilities = capabilities_of (parameters_of octets);
}
