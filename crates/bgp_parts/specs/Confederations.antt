-- Confederations (RFC 5065): the UPDATEs that go between their member systems, and the records that
-- show some.
use Rattle.std.specs.Prelude.{◌==◌, ◌||◌, ◌⊎◌, Bool, false, IsTrue, ℕ, List, [], ◌∷◌}
use Rattle.std.specs.Prelude.{Option, None, Some}
use Rattle.bgp_prefix.specs.Shown.{ShownRecord, Received, Sent, Changed}
use Rattle.bgp_attr.specs.Field.{Attribute}
use Rattle.bgp_attr.specs.First.{first_of}
use Rattle.bgp_attr.specs.Split.{attributes_of}
use Rattle.bgp_attr.specs.Types.{type_number}
use Rattle.bgp_attr.specs.declared.types.AttrType.TheVariants.{AsPath}
use Rattle.bgp_update.specs.Sections.{IsUpdate, Sections}

-- the first segment of an AS_PATH is an AS_CONFED_SEQUENCE, 3, or an AS_CONFED_SET, 4 (RFC 5065, 3)
abbrev pub begins_in_one : List ℕ → Bool
begins_in_one [] = false
begins_in_one (kind ∷ rest) = (kind == 3) || (kind == 4)

abbrev pub is_path_in_one : Option Attribute → Bool
is_path_in_one None = false
is_path_in_one (Some path) = begins_in_one path.value

-- The octets are a whole UPDATE, and of its path attributes, as far as they are whole, the first
-- AS_PATH begins so.
pub record HasConfederation (octets : List ℕ) : Type 0 where
  pub sections : Sections
  pub update : IsUpdate octets sections
  pub path : IsTrue
      (is_path_in_one (first_of (type_number AsPath) (attributes_of sections.attributes)))

-- a record shows such a message, in either direction
abbrev pub ShowsConfederation : ShownRecord → Type 0
ShowsConfederation (Received t octets) = HasConfederation octets
ShowsConfederation (Sent t octets) = HasConfederation octets
ShowsConfederation (Changed t old new) = ⊥

-- one of the records does
abbrev pub SomeShowConfederations : List ShownRecord → Type 0
SomeShowConfederations [] = ⊥
SomeShowConfederations (shown ∷ records) =
    ShowsConfederation shown ⊎ SomeShowConfederations records
