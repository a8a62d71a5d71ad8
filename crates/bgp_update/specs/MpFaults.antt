-- The rules on one MP attribute, MP_REACH_NLRI or MP_UNREACH_NLRI (RFC 4760, 7; RFC 7606, 5.3, 7.11
-- and 7.12). Where those can be read in two ways, the words are this project's profile.
use Rattle.std.specs.Prelude.{◌≡◌, ◌⊎◌, ℕ, IsTrue}
use Rattle.bgp_open.specs.Family.{Family}
use Rattle.bgp_update.specs.Found.{MpFound}
use Rattle.bgp_update.specs.Mp.{Mp, Cut, Other, Unused, Broken, Sound}
use Rattle.bgp_update.specs.MpValue.{Contents}

-- its family isn't in use, or is neither IPv4 nor IPv6 unicast
abbrev pub IsUnused : Mp → Type 0
IsUnused state = (state ≡ Other) ⊎ ((family : Family) × (state ≡ Unused family))

-- its family is in use, and its contents are right
abbrev pub IsSound : Mp → Type 0
IsSound state = (family : Family) × (contents : Contents) × (state ≡ Sound family contents)

-- Rule "cut MP attribute": the value has fewer than 3 octets. The session is reset.
abbrev pub IsCut : MpFound → Type 0
IsCut m = m.state ≡ Cut

-- Rule "broken MP attribute": the family is in use, and the contents are wrong. The family is
-- disabled, or the session is reset.
abbrev pub IsBroken : MpFound → Type 0
IsBroken m = (family : Family) × (m.state ≡ Broken family)

-- Rule "MP bits in conflict": nothing but the bits is wrong. The UPDATE's routes are withdrawn; the
-- family may be disabled, if it is in use, and the session be reset (profile).
abbrev pub HasBitsInConflict : MpFound → Type 0
HasBitsInConflict m = IsTrue m.other_bits × (IsUnused m.state ⊎ IsSound m.state)

-- a reset for one of the three names subcode 9, Optional Attribute Error (RFC 4760, 7), or also 4,
-- Attribute Flags Error, where the bits are in conflict
abbrev pub Names : MpFound → ℕ → Type 0
Names m n = (n ≡ 9) ⊎ ((n ≡ 4) × IsTrue m.other_bits)

-- a reset is allowed and not demanded
abbrev pub MayReset : MpFound → Type 0
MayReset m = IsBroken m ⊎ HasBitsInConflict m
