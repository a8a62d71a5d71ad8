-- The line of an UPDATE in words (RFC 4271, 4.3).
use Rattle.std.specs.Prelude.{◌++◌, ◌==◌, ◌&&◌, ℕ, Bool, List, [], ◌∷◌, Option, None, Some}
use Rattle.std.specs.Prelude.{codes, if◌then◌else◌, length, map, slice_index}
use Rattle.byteorder.specs.Endian.{big_number}
use Rattle.bgp_attr.specs.Field.{Attribute}
use Rattle.bgp_text.specs.Destination.{Destination}
use Rattle.bgp_text.specs.Parts.{UpdateParts}
use Rattle.bgp_names.specs.Attributes.{attribute_word}
use Rattle.bgp_names.specs.Families.{family_name}
use Rattle.bgp_text.specs.Text.{destinations_text}
use Rattle.bgp_values.specs.AttributeValue.{attribute_value}
use Rattle.bgp_values.specs.RoutesValue.{reach_value, unreach_value}
use Rattle.bgp_values.specs.declared.opens.Reading.{Reading}
use Rattle.bgp_lines.specs.AttributeLine.{are_right_flags, bits_of_type, flags_text}
use Rattle.bgp_lines.specs.AttributeLine.{unknown_text, value_or_octets}
use Rattle.bgp_lines.specs.Joined.{joined}
use Rattle.bgp_lines.specs.RoutesLine.{routes_or_octets}

-- ---- attributes

-- what an attribute says behind its word, or its octets
unfoldable pub said_by : Reading → Attribute → List ℕ
said_by reading a =
    if a.kind == 14 then routes_or_octets (reach_value reading.form a.value) a.value
    else if a.kind == 15 then routes_or_octets (unreach_value reading.form a.value) a.value
    else value_or_octets (attribute_value reading.as4 a.kind a.value) a.value

-- what stands behind the word, by the bits that its type has if it is known
unfoldable pub behind_word : Reading → Attribute → Option ℕ → List ℕ
behind_word reading a None = unknown_text a.flags a.value
behind_word reading a (Some bits) = said_by reading a ++ flags_text bits a.flags

-- an attribute: its word, what it says, and its flags if they aren't those of its type
unfoldable pub named_attribute : Reading → Attribute → List ℕ
named_attribute reading a = attribute_word a.kind ++ behind_word reading a (bits_of_type a.kind)

-- ---- End-of-RIB (RFC 4724, 2)

pub record FamilyNumbers : Type 0 where
  pub afi : ℕ
  pub safi : ℕ

-- MP_UNREACH_NLRI without prefixes: AFI, SAFI and nothing behind them
abbrev pub is_marker : Attribute → Bool
is_marker a = (a.kind == 15) && (are_right_flags 128 a.flags && (length a.value == 3))

abbrev pub family_if_marker : Attribute → Option FamilyNumbers
family_if_marker a =
    if is_marker a
    then Some (record { afi = big_number 2 a.value; safi = slice_index a.value 2 }) else None

-- the family whose routes have all been sent: IPv4 unicast if nothing stands in the UPDATE, or that
-- of such an attribute if it stands alone
abbrev pub ended_by : List Destination → List Destination → List Attribute → Option FamilyNumbers
ended_by (destination ∷ withdrawn) nlri attributes = None
ended_by [] (destination ∷ nlri) attributes = None
ended_by [] [] [] = Some (record { afi = 1; safi = 1 })
ended_by [] [] (a ∷ []) = family_if_marker a
ended_by [] [] (a ∷ b ∷ attributes) = None

-- ---- the line

-- destinations behind a word, if there are some
abbrev pub destinations_part : List ℕ → List Destination → List (List ℕ)
destinations_part word [] = []
destinations_part word (destination ∷ destinations) =
    (word ++ destinations_text (destination ∷ destinations)) ∷ []

-- what is withdrawn, what is announced, and the attributes in wire order
abbrev pub parts_texts : Reading → UpdateParts → List (List ℕ)
parts_texts reading parts =
    destinations_part (codes "withdrawn ") parts.withdrawn
    ++ (destinations_part (codes "announced ") parts.nlri
    ++ map (named_attribute reading) parts.attributes)

abbrev pub itself : List ℕ → List ℕ
itself text = text

unfoldable pub update_body : Reading → UpdateParts → Option FamilyNumbers → List ℕ
update_body reading parts (Some family) = codes "End-of-RIB " ++ family_name family.afi family.safi
update_body reading parts None = joined (codes " | ") itself (parts_texts reading parts)

abbrev pub parts_body : Reading → UpdateParts → List ℕ
parts_body reading parts =
    update_body reading parts (ended_by parts.withdrawn parts.nlri parts.attributes)

-- attributes and nothing besides
abbrev pub alone : List Attribute → UpdateParts
alone attributes = record { withdrawn = []; attributes = attributes; nlri = [] }

-- an UPDATE, where AS numbers and routes are read so
unfoldable pub named_update : Reading → UpdateParts → List ℕ
named_update reading parts = codes "update " ++ parts_body reading parts
