-- The attribute table: which path attribute types are known, and the Optional (128) and Transitive
-- (64) bits that each has.
use Rattle.std.specs.Prelude.{ℕ, ◌==◌, Bool, List, [], ◌∷◌, Option, codes, find, bit_and}
use Rattle.std.specs.List.{list_any}
use Rattle.bgp_attr.specs.declared.types.AttrType.{AttrType}
use Rattle.bgp_attr.specs.declared.types.AttrType.TheVariants.{Origin, AsPath, NextHop}
use Rattle.bgp_attr.specs.declared.types.AttrType.TheVariants.{MultiExitDisc, LocalPref}
use Rattle.bgp_attr.specs.declared.types.AttrType.TheVariants.{AtomicAggregate, Aggregator}
use Rattle.bgp_attr.specs.declared.types.AttrType.TheVariants.{Communities, OriginatorId}
use Rattle.bgp_attr.specs.declared.types.AttrType.TheVariants.{ClusterList, MpReachNlri}
use Rattle.bgp_attr.specs.declared.types.AttrType.TheVariants.{MpUnreachNlri, ExtendedCommunities}
use Rattle.bgp_attr.specs.declared.types.AttrType.TheVariants.{As4Path, As4Aggregator}
use Rattle.bgp_attr.specs.declared.types.AttrType.TheVariants.{LargeCommunities}

-- the table: each known type's number and bits
abbrev pub type_row : AttrType → ℕ × ℕ
type_row Origin = (1, 64)  -- RFC 4271, 5.1.1
type_row AsPath = (2, 64)  -- RFC 4271, 5.1.2
type_row NextHop = (3, 64)  -- RFC 4271, 5.1.3
type_row MultiExitDisc = (4, 128)  -- RFC 4271, 5.1.4
type_row LocalPref = (5, 64)  -- RFC 4271, 5.1.5
type_row AtomicAggregate = (6, 64)  -- RFC 4271, 5.1.6
type_row Aggregator = (7, 192)  -- RFC 4271, 5.1.7
type_row Communities = (8, 192)  -- RFC 1997
type_row OriginatorId = (9, 128)  -- RFC 4456, 8
type_row ClusterList = (10, 128)  -- RFC 4456, 8
type_row MpReachNlri = (14, 128)  -- RFC 4760, 3
type_row MpUnreachNlri = (15, 128)  -- RFC 4760, 4
type_row ExtendedCommunities = (16, 192)  -- RFC 4360, 2
type_row As4Path = (17, 192)  -- RFC 6793, 3
type_row As4Aggregator = (18, 192)  -- RFC 6793, 3
type_row LargeCommunities = (32, 192)  -- RFC 8092, 3

-- the names by which the standards call the types
abbrev pub type_name : AttrType → List ℕ
type_name Origin = codes "ORIGIN"
type_name AsPath = codes "AS_PATH"
type_name NextHop = codes "NEXT_HOP"
type_name MultiExitDisc = codes "MULTI_EXIT_DISC"
type_name LocalPref = codes "LOCAL_PREF"
type_name AtomicAggregate = codes "ATOMIC_AGGREGATE"
type_name Aggregator = codes "AGGREGATOR"
type_name Communities = codes "COMMUNITIES"
type_name OriginatorId = codes "ORIGINATOR_ID"
type_name ClusterList = codes "CLUSTER_LIST"
type_name MpReachNlri = codes "MP_REACH_NLRI"
type_name MpUnreachNlri = codes "MP_UNREACH_NLRI"
type_name ExtendedCommunities = codes "EXTENDED COMMUNITIES"
type_name As4Path = codes "AS4_PATH"
type_name As4Aggregator = codes "AS4_AGGREGATOR"
type_name LargeCommunities = codes "LARGE_COMMUNITY"

-- every type, in ascending order of the numbers
abbrev pub all_types : List AttrType
all_types =
    Origin ∷ AsPath ∷ NextHop ∷ MultiExitDisc ∷ LocalPref ∷ AtomicAggregate ∷ Aggregator
    ∷ Communities ∷ OriginatorId ∷ ClusterList ∷ MpReachNlri ∷ MpUnreachNlri
    ∷ ExtendedCommunities ∷ As4Path ∷ As4Aggregator ∷ LargeCommunities ∷ []

-- the number of a type
abbrev pub type_number : AttrType → ℕ
type_number t = (type_row t).0

-- the bits of a type
abbrev pub type_bits : AttrType → ℕ
type_bits t = (type_row t).1

-- the type with this number: none where the table has none
abbrev pub type_of : ℕ → Option AttrType
type_of number = find (λ t. number == type_number t) all_types

-- MP_REACH_NLRI or MP_UNREACH_NLRI, which carry prefixes
abbrev pub is_multiprotocol : AttrType → Bool
is_multiprotocol t = list_any (λ number. type_number t == number) (14 ∷ 15 ∷ [])

-- the Optional and Transitive bits of these flags are those of the type
abbrev pub has_bits_of : ℕ → AttrType → Bool
has_bits_of flags t = bit_and flags 192 == type_bits t
