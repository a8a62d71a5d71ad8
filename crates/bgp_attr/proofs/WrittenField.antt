-- What is written for a path is a field of just its attributes.
use Rattle.std.proofs.Common.{◌≡◌, ℕ, ◌≤◌, true, false, List, [], ◌∷◌, length, All, Option, None, Some, IfSome, bit_or, refl, sym, arith, inl, inr}
use Rattle.std.specs.List.{flat_map, filter_map}
use Rattle.std.proofs.lemmas.Bool.{cases_lt, lt-ltb, le-ltb}
use Rattle.std.proofs.lemmas.List.{append-nil}
use Rattle.std.proofs.lemmas.List.Elements.{All-nil, All-cons}
use Rattle.bgp_attr.specs.declared.classes.Side.{Side}
use Rattle.bgp_attr.specs.declared.types.AttrType.{AttrType}
use Rattle.bgp_attr.specs.declared.types.AttrType.TheVariants as types
use Rattle.bgp_attr.specs.Field.{IsAttribute, IsAttributeField, is_extended, attribute_octets}
use Rattle.bgp_path.specs.Path.{PathValue}
use Rattle.bgp_attr.specs.Types.{all_types, type_bits}
use Rattle.bgp_attr.specs.Writing.{value_in, attribute_with, attribute_in, path_attributes, IsWritable}

-- no type's bits are Extended Length's
abbrev HasRoom : AttrType → Type 0
HasRoom t =
    (is_extended (bit_or (type_bits t) 16) ≡ true)
    × (is_extended (type_bits t) ≡ false)

has_room : (t : AttrType) → HasRoom t
has_room types.Origin = (refl, refl)
has_room types.AsPath = (refl, refl)
has_room types.NextHop = (refl, refl)
has_room types.MultiExitDisc = (refl, refl)
has_room types.LocalPref = (refl, refl)
has_room types.AtomicAggregate = (refl, refl)
has_room types.Aggregator = (refl, refl)
has_room types.Communities = (refl, refl)
has_room types.OriginatorId = (refl, refl)
has_room types.ClusterList = (refl, refl)
has_room types.MpReachNlri = (refl, refl)
has_room types.MpUnreachNlri = (refl, refl)
has_room types.ExtendedCommunities = (refl, refl)
has_room types.As4Path = (refl, refl)
has_room types.As4Aggregator = (refl, refl)
has_room types.LargeCommunities = (refl, refl)

pub is_attribute : (t : AttrType) (value : List ℕ) → length value ≤ 65535 → IsAttribute (attribute_with t value)
is_attribute t value short = elim (cases_lt 255 (length value)) [
  | inl long ↦ rw (lt-ltb 255 (length value) long, (has_room t).0) (omega arith)
  | inr fits ↦ rw (le-ltb 255 (length value) fits, (has_room t).1) (omega arith)
]

each_by : (side : Side) (p : PathValue) (t : AttrType) (ts : List AttrType) (value : Option (List ℕ)) → value_in side p t ≡ value → IfSome value (λ octets. length octets ≤ 65535)
    → All IsAttribute (filter_map (attribute_in side p) ts) → All IsAttribute (filter_map (attribute_in side p) (t ∷ ts))
each_by side p t ts None e short others = rw e others
each_by side p t ts (Some octets) e short others =
    rw e (All-cons IsAttribute (attribute_with t octets) (filter_map (attribute_in side p) ts) (is_attribute t octets short) others)

pub each : (side : Side) (p : PathValue) → IsWritable side p → (ts : List AttrType) → All IsAttribute (filter_map (attribute_in side p) ts)
each side p writable [] = All-nil IsAttribute
each side p writable (t ∷ ts) = each_by side p t ts (value_in side p t) refl (writable t) (each side p writable ts)

pub is_a_field : (side : Side) (p : PathValue) → IsWritable side p → IsAttributeField (flat_map attribute_octets (path_attributes side p)) (path_attributes side p) None
is_a_field side p writable = record {
  rest = [];
  whole = sym (append-nil (flat_map attribute_octets (path_attributes side p)));
  each = each side p writable all_types;
  last = refl;
}
