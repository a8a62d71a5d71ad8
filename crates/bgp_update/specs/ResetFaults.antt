-- The faults of an UPDATE for which the session has to be reset, or may be (RFC 4271, 6.3; RFC
-- 7606, 3 to 5). Where those can be read in two ways, the words are this project's profile.
use Rattle.std.specs.Prelude.{◌≡◌, ◌≢◌, ◌≤◌, ◌⊎◌, ℕ, [], Option, None, Some, IsTrue, IsNone}
use Rattle.bgp_open.specs.Family.{Family}
use Rattle.bgp_attr.specs.declared.field.Tail.{Tail}
use Rattle.bgp_attr.specs.declared.field.Tail.TheVariants.{ShortHeader, Overrun}
use Rattle.bgp_update.specs.Found.{Found}
use Rattle.bgp_update.specs.Mp.{Absent, Sound}
use Rattle.bgp_update.specs.MpFaults.{IsCut, IsBroken, Names, MayReset}
use Rattle.bgp_update.specs.MpValue.{Contents}
use Rattle.bgp_update.specs.WithdrawFaults.{IsEmptyNlri, HasFormFault, HasWithdrawFault}

-- any of the subcodes 1 to 11 may be named
abbrev pub IsAny : ℕ → Type 0
IsAny n = (1 ≤ n) × (n ≤ 11)

-- Rule "bad prefix field": the Withdrawn Routes or the NLRI field is incorrect, whether IPv4 is in
-- use or not (RFC 7606, 5.3).
abbrev pub HasBadPrefixes : Found → Type 0
HasBadPrefixes x = IsNone x.withdrawn ⊎ IsNone x.nlri

-- Rule "repeated MP attribute" (RFC 7606, 3 g).
abbrev pub HasRepeatedMp : Found → Type 0
HasRepeatedMp x = IsTrue x.reach.is_repeated ⊎ IsTrue x.unreach.is_repeated

-- Rule "MP attribute overruns" (RFC 7606, 3 j and 4).
abbrev pub HasMpOverrun : Option Tail → Type 0
HasMpOverrun None = ⊥
HasMpOverrun (Some ShortHeader) = ⊥
HasMpOverrun (Some (Overrun kind)) = (kind ≡ 14) ⊎ (kind ≡ 15)

-- Rule "unknown well-known attribute": the first attribute of some type is of class Reset.
abbrev pub HasUnknownWellKnown : Found → Type 0
HasUnknownWellKnown x = IsTrue x.classes.reset

-- an attribute of another type than MP_UNREACH_NLRI overruns
abbrev pub HasOtherOverrun : Option Tail → Type 0
HasOtherOverrun None = ⊥
HasOtherOverrun (Some ShortHeader) = ⊥
HasOtherOverrun (Some (Overrun kind)) = kind ≢ 15

-- MP_REACH_NLRI isn't there, or its family is in use and it is right and without a prefix; any
-- other counts as holding prefixes (profile)
abbrev pub ReachesNothing : Found → Type 0
ReachesNothing x =
    (x.reach.state ≡ Absent)
    ⊎ ((family : Family) × (contents : Contents) × (x.reach.state ≡ Sound family contents)
    × (contents.destinations ≡ []))

-- Rule "fault without prefixes" (RFC 7606, 5.2): attributes other than MP_UNREACH_NLRI are there
-- and no reachable prefix is, and a fault asks for more than to discard an attribute.
-- ATOMIC_AGGREGATE and AGGREGATOR don't count as such a fault (profile).
abbrev pub HasFaultWithoutPrefixes : Found → Type 0
HasFaultWithoutPrefixes x =
    IsEmptyNlri x × (IsTrue x.types.other ⊎ HasOtherOverrun x.tail) × ReachesNothing x
    × (IsBroken x.unreach ⊎ IsTrue x.classes.plain_withdraw ⊎ HasFormFault x)

-- a fault has a subcode of its own (RFC 4271, 6.3; RFC 7606, 3 and 5.3)
abbrev pub IsFixedSubcode : Found → ℕ → Type 0
IsFixedSubcode x n =
    ((n ≡ 10) × HasBadPrefixes x)
    ⊎ ((n ≡ 1) × HasRepeatedMp x)
    ⊎ (((n ≡ 1) ⊎ (n ≡ 5) ⊎ (n ≡ 9)) × HasMpOverrun x.tail)
    ⊎ ((n ≡ 2) × HasUnknownWellKnown x)

-- the subcodes that faults of this kind may be answered with: their own, those of a cut MP
-- attribute (RFC 4760, 7), and any where nobody can tell what the UPDATE lacks (profile)
abbrev pub IsResetSubcode : Found → ℕ → Type 0
IsResetSubcode x n =
    IsFixedSubcode x n
    ⊎ (IsCut x.reach × Names x.reach n)
    ⊎ (IsCut x.unreach × Names x.unreach n)
    ⊎ (HasFaultWithoutPrefixes x × IsAny n)

-- the session has to be reset
abbrev pub HasReset : Found → Type 0
HasReset x = (n : ℕ) × IsResetSubcode x n

-- MP_REACH_NLRI of a family in use, right, with a prefix
abbrev pub HasReachable : Found → Type 0
HasReachable x =
    (family : Family) × (contents : Contents) × (x.reach.state ≡ Sound family contents)
    × (contents.destinations ≢ [])

-- Rule "fault with nothing announced": a withdraw-class fault, and no prefix that is announced for
-- sure (profile, after RFC 7606, 5.2).
abbrev pub HasFaultWithNothingAnnounced : Found → Type 0
HasFaultWithNothingAnnounced x =
    HasWithdrawFault x × IsEmptyNlri x × (¬ HasReachable x)

-- a reset may name this subcode, and isn't demanded for it
abbrev pub IsMereSubcode : Found → ℕ → Type 0
IsMereSubcode x n =
    (MayReset x.reach × Names x.reach n)
    ⊎ (MayReset x.unreach × Names x.unreach n)
    ⊎ (HasFaultWithNothingAnnounced x × IsAny n)
