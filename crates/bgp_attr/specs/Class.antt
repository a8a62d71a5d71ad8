-- The class of one path attribute: which error handling of RFC 7606, 2 its faults ask for. Where
-- that text can be read in two ways, the rows below are this project's profile.
use Rattle.std.specs.Prelude.{ℕ, ◌+◌, ◌%◌, Bool, ◌&&◌, not, ◌==◌, nat_lt, nat_le}
use Rattle.std.specs.Prelude.{if◌then◌else◌, List, [], ◌∷◌, length, slice_index, Option, None, Some}
use Rattle.std.specs.Prelude.{bit_and}
use Rattle.bgp_attr.specs.declared.classes.Side.{Side}
use Rattle.bgp_attr.specs.declared.classes.AttrVerdict.{AttrVerdict}
use Rattle.bgp_attr.specs.declared.classes.AttrVerdict.TheVariants.{Good, Discard, Withdraw, Reset}
use Rattle.bgp_attr.specs.declared.types.AttrType.{AttrType}
use Rattle.bgp_attr.specs.declared.types.AttrType.TheVariants as types
use Rattle.bgp_attr.specs.Field.{Attribute}
use Rattle.bgp_attr.specs.Types.{type_of, has_bits_of, is_multiprotocol}
use Rattle.bgp_attr.specs.Segments.{number_width, are_segments}

-- how many octets an AS number takes
abbrev pub as_width : Side → ℕ
as_width side = number_width side.as4

-- how much a class asks for
abbrev pub rank : AttrVerdict → ℕ
rank Good = 0
rank Discard = 1
rank Withdraw = 2
rank Reset = 3

-- of two classes the one that asks for more (RFC 7606, 3 h)
abbrev pub stronger : AttrVerdict → AttrVerdict → AttrVerdict
stronger x y = if nat_lt (rank x) (rank y) then y else x

-- a row of the table is a condition and a class; of the rows that hold the strongest decides
abbrev pub strongest : List (Bool × AttrVerdict) → AttrVerdict
strongest [] = Good
strongest (row ∷ rows) = if row.0 then stronger row.1 (strongest rows) else strongest rows

-- one octet, 0 (IGP), 1 (EGP) or 2 (INCOMPLETE)
abbrev pub is_origin : List ℕ → Bool
is_origin value = (length value == 1) && nat_le (slice_index value 0) 2

-- items of `size` octets each, at least one
abbrev pub are_items : ℕ → List ℕ → Bool
are_items size value = nat_lt 0 (length value) && (length value % size == 0)

-- at least one segment, each of a type 1 to 4: AS_SET, AS_SEQUENCE and the two of a confederation
abbrev pub is_as4_path : List ℕ → Bool
is_as4_path value = nat_lt 0 (length value) && are_segments 4 4 value

-- the rows on the value of a type
abbrev pub value_rows : Side → AttrType → List ℕ → List (Bool × AttrVerdict)
-- RFC 7606, 7.1 and 7.2
value_rows side types.Origin value = (not (is_origin value), Withdraw) ∷ []
value_rows side types.AsPath value =
    (not (are_segments 2 (as_width side) value), Withdraw) ∷ []
-- RFC 7606, 7.3 and 7.4
value_rows side types.NextHop value = (not (length value == 4), Withdraw) ∷ []
value_rows side types.MultiExitDisc value = (not (length value == 4), Withdraw) ∷ []
-- RFC 7606, 7.5: an external peer's is discarded
value_rows side types.LocalPref value =
    (not side.internal, Discard)
    ∷ (side.internal && not (length value == 4), Withdraw)
    ∷ []
-- RFC 7606, 7.6
value_rows side types.AtomicAggregate value = (not (length value == 0), Discard) ∷ []
-- RFC 7606, 7.7: an AS number and an address
value_rows side types.Aggregator value =
    (not (length value == as_width side + 4), Discard) ∷ []
-- RFC 7606, 7.8
value_rows side types.Communities value = (not (are_items 4 value), Withdraw) ∷ []
-- RFC 7606, 7.9: an external peer's is discarded
value_rows side types.OriginatorId value =
    (not side.internal, Discard)
    ∷ (side.internal && not (length value == 4), Withdraw)
    ∷ []
-- RFC 7606, 7.10: an external peer's is discarded
value_rows side types.ClusterList value =
    (not side.internal, Discard)
    ∷ (side.internal && not (are_items 4 value), Withdraw)
    ∷ []
-- these two have no class of their own (below)
value_rows side types.MpReachNlri value = []
value_rows side types.MpUnreachNlri value = []
-- RFC 7606, 7.14
value_rows side types.ExtendedCommunities value = (not (are_items 8 value), Withdraw) ∷ []
-- RFC 6793, 4.1 and 6: where AS numbers have four octets anyway, and a value without its form
value_rows side types.As4Path value =
    (side.as4, Discard)
    ∷ (not (is_as4_path value), Discard)
    ∷ []
value_rows side types.As4Aggregator value =
    (side.as4, Discard)
    ∷ (not (length value == 8), Discard)
    ∷ []
-- RFC 8092, 6
value_rows side types.LargeCommunities value = (not (are_items 12 value), Withdraw) ∷ []

-- the row on the bits: they are in conflict with the type (RFC 7606, 3 c; profile for types that
-- other rows have discarded)
abbrev pub bits_row : ℕ → AttrType → Bool × AttrVerdict
bits_row flags t = (not (has_bits_of flags t), Withdraw)

-- the Optional bit
abbrev pub is_optional : ℕ → Bool
is_optional flags = bit_and flags 128 == 128

-- the row of types that aren't recognised: such an attribute has to be optional (RFC 4271, 6.3)
abbrev pub unknown_row : ℕ → Bool × AttrVerdict
unknown_row flags = (not (is_optional flags), Reset)

-- MP_REACH_NLRI and MP_UNREACH_NLRI have no class here: what their faults ask for depends on the
-- families in use and on their prefixes too, which one attribute doesn't tell, and whoever reads
-- the UPDATE judges them (RFC 7606, 5.3, 7.11 and 7.12)
abbrev pub class_by : Side → Attribute → Option AttrType → Option AttrVerdict
class_by side a None = Some (strongest (unknown_row a.flags ∷ []))
class_by side a (Some t) =
    if is_multiprotocol t
    then None
    else Some (strongest (bits_row a.flags t ∷ value_rows side t a.value))

-- the class of an attribute: the strongest row that holds, Good where none does
abbrev pub class_of : Side → Attribute → Option AttrVerdict
class_of side a = class_by side a (type_of a.kind)
