-- Sets of address families (RFC 4760, 3).
use Rattle.std.specs.Prelude.{Bool, ◌&&◌, ◌||◌, false, IsTrue}
use Rattle.bgp_prefix.specs.declared.family.Family.{Family}
use Rattle.bgp_prefix.specs.declared.family.Family.TheVariants.{V4, V6}
use Rattle.bgp_open.specs.declared.families.Families.{Families}

-- the family is in the set
abbrev pub contains : Families → Family → Bool
contains families V4 = families.v4
contains families V6 = families.v6

-- no family is in the set
abbrev pub IsEmpty : Families → Type 0
IsEmpty families = (¬ IsTrue families.v4) × (¬ IsTrue families.v6)

-- no family
abbrev pub no_families : Families
no_families = record { v4 = false; v6 = false }

-- the families in either set
abbrev pub union : Families → Families → Families
union families others =
    record { v4 = families.v4 || others.v4; v6 = families.v6 || others.v6 }

-- the families in both sets
abbrev pub intersection : Families → Families → Families
intersection families others =
    record { v4 = families.v4 && others.v4; v6 = families.v6 && others.v6 }
