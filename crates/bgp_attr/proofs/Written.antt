-- Attributes written one after the other.
use Rattle.std.proofs.Common.{◌≡◌, ℕ, ◌≤◌, List, [], ◌∷◌, ◌++◌, length, All, Option, None, Some, IfSome, option_map, refl, sym, ap, ◌∙◌, append_assoc, arith, inl, inr, ◌*◌}
use Rattle.std.specs.List.{flat_map, filter_map}
use Rattle.std.specs.Option.{option_map_or}
use Rattle.std.proofs.lemmas.List.{length-append}
use Rattle.bgp_attr.specs.declared.types.AttrType.{AttrType}
use Rattle.bgp_attr.specs.declared.types.AttrType.TheVariants as types
use Rattle.bgp_attr.specs.Field.{Attribute, attribute_octets, is_extended, length_octets}
use Rattle.byteorder.specs.Endian.{big_bytes}
use Rattle.byteorder.specs.Numbers.{length-bytes_high_first}
use Rattle.std.proofs.lemmas.Bool.{cases_Bool}
use Rattle.bgp_attr.specs.Writing.{IsWritable, attribute_with, attribute_header, attribute_in, flags_for, path_octets, type_octets, value_in}
use Rattle.bgp_attr.specs.Types.{all_types}
use Rattle.bgp_path.specs.Path.{PathValue}
use Rattle.bgp_attr.specs.declared.classes.Side.{Side}

-- the attributes of types as octets, type by type
type_by : (side : Side) (p : PathValue) (t : AttrType) (ts : List AttrType) (a : Option Attribute) → attribute_in side p t ≡ a
    → flat_map attribute_octets (filter_map (attribute_in side p) (t ∷ ts)) ≡ type_octets side p t ++ flat_map attribute_octets (filter_map (attribute_in side p) ts)
type_by side p t ts None e = rw e refl
type_by side p t ts (Some a) e = rw e refl

pub types_are : (side : Side) (p : PathValue) (ts : List AttrType) → flat_map (type_octets side p) ts ≡ flat_map attribute_octets (filter_map (attribute_in side p) ts)
types_are side p [] = refl
types_are side p (t ∷ ts) =
    ap (λ (os : List ℕ). type_octets side p t ++ os) (types_are side p ts) ∙ sym (type_by side p t ts (attribute_in side p t) refl)

pub octets_of_parts : (side : Side) (v p : PathValue) → v ≡ p → flat_map (type_octets side v) all_types ≡ path_octets side p
octets_of_parts side v p same = types_are side v all_types ∙ ap (path_octets side) same

-- the attribute of a type whose value has at most 65535 octets
few_length_octets : (flags : ℕ) → length_octets flags ≤ 2
few_length_octets flags = elim (cases_Bool (is_extended flags)) [
  | inl e ↦ rw e (omega arith)
  | inr e ↦ rw e (omega arith)
]

one_short : (side : Side) (p : PathValue) (t : AttrType) (v : Option (List ℕ)) → value_in side p t ≡ v → IfSome v (λ octets. length octets ≤ 65535) → length (type_octets side p t) ≤ 65539
one_short side p t None e short = rw e (omega arith)
one_short side p t (Some octets) e short =
    let flags = flags_for t (length octets) in
    let count = big_bytes (length_octets flags) (length octets) in
    rw e (omega (arith, length-append count octets, length-bytes_high_first (length_octets flags) (length octets), few_length_octets flags))

all_short : (side : Side) (p : PathValue) → IsWritable side p → (ts : List AttrType) → length (flat_map (type_octets side p) ts) ≤ 65539 * length ts
all_short side p writable [] = omega arith
all_short side p writable (t ∷ ts) =
    omega (arith, one_short side p t (value_in side p t) refl (writable t), all_short side p writable ts, length-append (type_octets side p t) (flat_map (type_octets side p) ts))

pub longest : (side : Side) (p : PathValue) → IsWritable side p → length (path_octets side p) ≤ 1048624
longest side p writable = omega (arith, all_short side p writable all_types, ap length (types_are side p all_types))

-- a header and then a value are an attribute
pub one_put : (t : AttrType) (value : Option (List ℕ)) (octets old mid new : List ℕ) → Some octets ≡ value → mid ≡ old ++ attribute_header t (length octets) → new ≡ mid ++ octets
    → new ≡ old ++ option_map_or attribute_octets (option_map (attribute_with t) value) []
one_put t None octets old mid new e h put = absurd cc
one_put t (Some value) octets old mid new e h put =
    let same : octets ≡ value = cc in
    rw (← same) (put ∙ ap (λ (m : List ℕ). m ++ octets) h ∙ append_assoc old (attribute_header t (length octets)) octets)

-- what holds of each type of the list holds of each type
pub every : (P : AttrType → Type 0) → All P all_types → (t : AttrType) → P t
every P each types.Origin = each 0 types.Origin (omega arith)
every P each types.AsPath = each 1 types.AsPath (omega arith)
every P each types.NextHop = each 2 types.NextHop (omega arith)
every P each types.MultiExitDisc = each 3 types.MultiExitDisc (omega arith)
every P each types.LocalPref = each 4 types.LocalPref (omega arith)
every P each types.AtomicAggregate = each 5 types.AtomicAggregate (omega arith)
every P each types.Aggregator = each 6 types.Aggregator (omega arith)
every P each types.Communities = each 7 types.Communities (omega arith)
every P each types.OriginatorId = each 8 types.OriginatorId (omega arith)
every P each types.ClusterList = each 9 types.ClusterList (omega arith)
every P each types.MpReachNlri = each 10 types.MpReachNlri (omega arith)
every P each types.MpUnreachNlri = each 11 types.MpUnreachNlri (omega arith)
every P each types.ExtendedCommunities = each 12 types.ExtendedCommunities (omega arith)
every P each types.As4Path = each 13 types.As4Path (omega arith)
every P each types.As4Aggregator = each 14 types.As4Aggregator (omega arith)
every P each types.LargeCommunities = each 15 types.LargeCommunities (omega arith)
