-- What the capabilities of an OPEN offer: address families (RFC 4760, 8), a four-octet AS number
-- (RFC 6793, 3) and extended messages (RFC 8654, 3). One whose code is known and whose length is
-- another is passed over (profile).
use Rattle.std.specs.Prelude.{Bool, true, false, ◌&&◌, ◌==◌, if◌then◌else◌, ℕ, List, [], ◌∷◌}
use Rattle.std.specs.Prelude.{Option, Some, None, length, slice_index}
use Rattle.std.specs.List.{list_any}
use Rattle.byteorder.specs.Endian.{big_number}
use Rattle.bgp_prefix.specs.declared.family.Family.{Family}
use Rattle.bgp_prefix.specs.declared.family.Family.TheVariants.{V4, V6}
use Rattle.bgp_open.specs.declared.families.Families.{Families}
use Rattle.bgp_open.specs.Triplet.{Triplet}

-- the Address Family Identifier
abbrev pub afi_of : Family → ℕ
afi_of V4 = 1
afi_of V6 = 2

-- the capability of multiprotocol extensions: AFI 2 octets, reserved 1, SAFI 1
abbrev pub is_multiprotocol : Triplet → Bool
is_multiprotocol capability = (capability.code == 1) && (length capability.value == 4)

-- it names a family, by its AFI and SAFI 1 (unicast); the reserved octet means nothing
abbrev pub names_family : Family → Triplet → Bool
names_family family capability =
    is_multiprotocol capability
    && ((big_number 2 capability.value == afi_of family) && (slice_index capability.value 3 == 1))

-- the families that are offered: those that are named, or IPv4 alone where no capability could name
-- one (profile; RFC 4271 knows IPv4 alone)
abbrev pub families_of : List Triplet → Families
families_of capabilities =
    if list_any is_multiprotocol capabilities
    then record {
      v4 = list_any (names_family V4) capabilities;
      v6 = list_any (names_family V6) capabilities;
    }
    else record { v4 = true; v6 = false }

-- the capability of four-octet AS numbers: the number
abbrev pub is_as4 : Triplet → Bool
is_as4 capability = (capability.code == 65) && (length capability.value == 4)

-- the number in the first of them, if there is one
abbrev pub as_number_of : List Triplet → Option ℕ
as_number_of [] = None
as_number_of (capability ∷ capabilities) =
    if is_as4 capability then Some (big_number 4 capability.value) else as_number_of capabilities

-- the capability of extended messages, which has no value
abbrev pub is_extended : Triplet → Bool
is_extended capability = (capability.code == 6) && (length capability.value == 0)

-- extended messages are offered
abbrev pub offers_extended : List Triplet → Bool
offers_extended capabilities = list_any is_extended capabilities
