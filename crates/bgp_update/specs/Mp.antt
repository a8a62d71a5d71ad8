-- What state an MP attribute is in (RFC 4760, 7; RFC 7606, 5.3, 7.11 and 7.12).
use Rattle.std.specs.Prelude.{ℕ, Bool, false, not, nat_lt, List, if◌then◌else◌, length}
use Rattle.std.specs.Prelude.{Option, None, Some}
use Rattle.bgp_open.specs.Family.{Family}
use Rattle.bgp_open.specs.declared.families.Families.{Families}
use Rattle.bgp_open.specs.Families.{contains}
use Rattle.bgp_attr.specs.declared.types.AttrType.{AttrType}
use Rattle.bgp_attr.specs.Field.{Attribute}
use Rattle.bgp_attr.specs.Types.{has_bits_of}
use Rattle.bgp_update.specs.MpValue.{Contents, family_in}

pub data Mp : Type 0 where
  -- it isn't there
  Absent : Mp
  -- its value has fewer than 3 octets, so it names no family
  Cut : Mp
  -- its family is neither IPv4 nor IPv6 unicast
  Other : Mp
  -- its family isn't in use
  Unused : Family → Mp
  -- its family is in use, and its contents are wrong
  Broken : Family → Mp
  -- its family is in use, and these are its contents
  Sound : Family → Contents → Mp

abbrev pub with_contents : Family → Option Contents → Mp
with_contents family None = Broken family
with_contents family (Some contents) = Sound family contents

abbrev pub in_family : Families → (Family → List ℕ → Option Contents) → List ℕ → Option Family → Mp
in_family used read value None = Other
in_family used read value (Some family) =
    if contains used family then with_contents family (read family value) else Unused family

-- the state of an MP attribute, where those families are in use and its contents are read so
abbrev pub mp_state : Families → (Family → List ℕ → Option Contents) → Option Attribute → Mp
mp_state used read None = Absent
mp_state used read (Some a) =
    if nat_lt (length a.value) 3 then Cut else in_family used read a.value (family_in a.value)

-- its Optional and Transitive bits aren't those of the type (RFC 7606, 3 c)
abbrev pub has_other_bits : AttrType → Option Attribute → Bool
has_other_bits t None = false
has_other_bits t (Some a) = not (has_bits_of a.flags t)
