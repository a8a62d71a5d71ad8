-- The families that are disabled where an UPDATE is applied, "AFI/SAFI disable" (RFC 4760, 7;
-- RFC 7606, 2, 5.3 and 7.11).
use Rattle.std.specs.Prelude.{◌≡◌, ◌⊎◌, IsTrue}
use Rattle.bgp_open.specs.Family.{Family}
use Rattle.bgp_open.specs.declared.families.Families.{Families}
use Rattle.bgp_open.specs.Families.{contains}
use Rattle.bgp_update.specs.Found.{Found, MpFound}
use Rattle.bgp_update.specs.Mp.{Broken, Sound}
use Rattle.bgp_update.specs.MpValue.{Contents}

-- each Apply disables the family: an MP attribute of it is broken
abbrev pub IsCertain : Found → Family → Type 0
IsCertain x family = (x.reach.state ≡ Broken family) ⊎ (x.unreach.state ≡ Broken family)

-- an MP attribute of the family has nothing wrong but its bits
abbrev pub IsDoubtful : MpFound → Family → Type 0
IsDoubtful m family =
    IsTrue m.other_bits × ((contents : Contents) × (m.state ≡ Sound family contents))

-- an Apply may disable it (profile)
abbrev pub IsOptional : Found → Family → Type 0
IsOptional x family = IsDoubtful x.reach family ⊎ IsDoubtful x.unreach family

-- the set has each family that is certain, and of the others some that are optional
abbrev pub IsDisabled : (Family → Type 0) → (Family → Type 0) → Families → Type 0
IsDisabled Certain Optional disabled =
    (family : Family)
    → (Certain family → IsTrue (contains disabled family))
    × (IsTrue (contains disabled family) → Certain family ⊎ Optional family)
