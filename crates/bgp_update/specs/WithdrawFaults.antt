-- The faults of an UPDATE for which its routes are withdrawn, "treat-as-withdraw" (RFC 7606, 2 to
-- 4). Where those can be read in two ways, the words are this project's profile.
use Rattle.std.specs.Prelude.{◌≡◌, ◌≢◌, ◌⊎◌, [], Option, None, Some, IsTrue}
use Rattle.bgp_attr.specs.declared.field.Tail.{Tail}
use Rattle.bgp_attr.specs.declared.field.Tail.TheVariants.{ShortHeader, Overrun}
use Rattle.bgp_update.specs.Found.{Found}
use Rattle.bgp_update.specs.Mp.{Absent}
use Rattle.bgp_update.specs.MpFaults.{HasBitsInConflict}

-- the NLRI field is empty
abbrev pub IsEmptyNlri : Found → Type 0
IsEmptyNlri x = x.nlri ≡ Some []

-- Rule "withdrawn attribute": the first attribute of some type is of class Withdraw.
abbrev pub HasWithdrawnAttribute : Found → Type 0
HasWithdrawnAttribute x = IsTrue x.classes.withdraw

-- Rule "broken tail": behind the last whole attribute stands a part of a header, or an attribute
-- that overruns and isn't an MP attribute (RFC 7606, 4).
abbrev pub HasBrokenTail : Option Tail → Type 0
HasBrokenTail None = ⊥
HasBrokenTail (Some ShortHeader) = Unit {0}
HasBrokenTail (Some (Overrun kind)) = (kind ≢ 14) × (kind ≢ 15)

-- Rule "missing ORIGIN or AS_PATH": one isn't there, and the NLRI field isn't empty or
-- MP_REACH_NLRI is there, whatever it holds (RFC 7606, 3 d).
abbrev pub LacksOriginOrPath : Found → Type 0
LacksOriginOrPath x =
    ((¬ IsTrue x.types.origin) ⊎ (¬ IsTrue x.types.as_path))
    × ((¬ IsEmptyNlri x) ⊎ (x.reach.state ≢ Absent))

-- Rule "missing NEXT_HOP": it isn't there, and the NLRI field isn't empty (RFC 7606, 3 d).
abbrev pub LacksNextHop : Found → Type 0
LacksNextHop x = (¬ IsTrue x.types.next_hop) × (¬ IsEmptyNlri x)

-- a withdraw-class fault other than an attribute's own class
abbrev pub HasFormFault : Found → Type 0
HasFormFault x =
    HasBitsInConflict x.reach ⊎ HasBitsInConflict x.unreach ⊎ HasBrokenTail x.tail
    ⊎ LacksOriginOrPath x ⊎ LacksNextHop x

-- a withdraw-class fault
abbrev pub HasWithdrawFault : Found → Type 0
HasWithdrawFault x = HasWithdrawnAttribute x ⊎ HasFormFault x
