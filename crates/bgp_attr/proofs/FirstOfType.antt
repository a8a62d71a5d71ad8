-- Among the attributes that are written for a path, the first of a type is that of the type.
use Rattle.std.proofs.Common.{◌≡◌, ◌≤◌, ℕ, Bool, true, false, ◌||◌, ◌&&◌, not, is_some, ◌==◌, List, [], ◌∷◌, ◌++◌, length, take, drop, All, Option, None, Some, IfSome, option_map, refl, ap, ◌∙◌, arith, inl, inr}
use Rattle.std.specs.List.{filter_map, list_any}
use Rattle.std.proofs.lemmas.Bool.{cases_Bool, and_parts}
use Rattle.std.proofs.lemmas.List.Elements.{All-nil, All-cons}
use Rattle.bgp_attr.specs.declared.classes.AttrVerdict.TheVariants.{Good}
use Rattle.bgp_attr.specs.declared.classes.Side.{Side}
use Rattle.bgp_attr.specs.declared.types.AttrType.{AttrType}
use Rattle.bgp_attr.specs.declared.types.AttrType.TheVariants as types
use Rattle.bgp_attr.specs.Class.{class_of, strongest, value_rows}
use Rattle.bgp_attr.specs.Field.{Attribute, length_octets, attribute_octets}
use Rattle.byteorder.specs.Endian.{big_bytes}
use Rattle.std.specs.List.{flat_map}
use Rattle.std.specs.Option.{option_map_or}
use Rattle.std.proofs.lemmas.List.{length-append}
use Rattle.bgp_attr.proofs.Written.{every}
use Rattle.bgp_path.specs.Path.{PathValue}
use Rattle.bgp_attr.specs.Types.{all_types, type_number, is_multiprotocol}
use Rattle.bgp_attr.specs.Writing.{value_in, flags_for, attribute_with, attribute_in, path_attributes, HasShortValue, IsWritable}
use Rattle.bgp_attr.specs.First.{first_of, has_repeats, without, firsts, good_value, value_among}
use Rattle.bgp_attr.specs.PathFrom.{path_from}
use Rattle.bgp_path.specs.Fit.{IsFit}
use Rattle.bgp_attr.specs.ReadBack.{IsForPeer, ReadsBack}
use Rattle.bgp_attr.proofs.PathBack.{path_back}
use Rattle.bgp_attr.proofs.GoodPath as good

-- the attributes of these types, with these values
abbrev attributes_with : (AttrType → Option (List ℕ)) → List AttrType → List Attribute
attributes_with value ts = filter_map (λ t. option_map (attribute_with t) (value t)) ts

-- whether one of these types has that number
abbrev pub has_number : ℕ → List AttrType → Bool
has_number kind ts = list_any (λ t. type_number t == kind) ts

or_none : (x y : Bool) → (x || y) ≡ false → (x ≡ false) × (y ≡ false)
or_none true y e = absurd cc
or_none false y e = (refl, e)

skip_by : (kind : ℕ) (value : AttrType → Option (List ℕ)) (t : AttrType) (ts : List AttrType) (v : Option (List ℕ)) → value t ≡ v → (type_number t == kind) ≡ false
    → first_of kind (attributes_with value (t ∷ ts)) ≡ first_of kind (attributes_with value ts)
skip_by kind value t ts None e other = rw e refl
skip_by kind value t ts (Some octets) e other = rw (e, other) refl

skip : (kind : ℕ) (value : AttrType → Option (List ℕ)) (t : AttrType) (ts : List AttrType) → (type_number t == kind) ≡ false
    → first_of kind (attributes_with value (t ∷ ts)) ≡ first_of kind (attributes_with value ts)
skip kind value t ts other = skip_by kind value t ts (value t) refl other

first_none : (kind : ℕ) (value : AttrType → Option (List ℕ)) (ts : List AttrType) → has_number kind ts ≡ false → first_of kind (attributes_with value ts) ≡ None
first_none kind value [] e = refl
first_none kind value (t ∷ ts) e =
    let h = or_none (type_number t == kind) (has_number kind ts) e in
    skip kind value t ts h.0 ∙ first_none kind value ts h.1

hit_by : (value : AttrType → Option (List ℕ)) (t : AttrType) (ts : List AttrType) (v : Option (List ℕ)) → value t ≡ v → (type_number t == type_number t) ≡ true → has_number (type_number t) ts ≡ false
    → first_of (type_number t) (attributes_with value (t ∷ ts)) ≡ option_map (attribute_with t) v
hit_by value t ts None e same others = rw e (first_none (type_number t) value ts others)
hit_by value t ts (Some octets) e same others = rw (e, same) refl

first_split : (value : AttrType → Option (List ℕ)) (front : List AttrType) (t : AttrType) (back : List AttrType) → has_number (type_number t) front ≡ false
    → (type_number t == type_number t) ≡ true → has_number (type_number t) back ≡ false
    → first_of (type_number t) (attributes_with value (front ++ t ∷ back)) ≡ option_map (attribute_with t) (value t)
first_split value [] t back before same after = hit_by value t back (value t) refl same after
first_split value (u ∷ front) t back before same after =
    let h = or_none (type_number u == type_number t) (has_number (type_number t) front) before in
    skip (type_number t) value u (front ++ t ∷ back) h.0 ∙ first_split value front t back h.1 same after

-- ---- all types

pub first_is : (value : AttrType → Option (List ℕ)) (t : AttrType) → first_of (type_number t) (attributes_with value all_types) ≡ option_map (attribute_with t) (value t)
first_is value types.Origin = first_split value (take 0 all_types) types.Origin (drop 1 all_types) refl refl refl
first_is value types.AsPath = first_split value (take 1 all_types) types.AsPath (drop 2 all_types) refl refl refl
first_is value types.NextHop = first_split value (take 2 all_types) types.NextHop (drop 3 all_types) refl refl refl
first_is value types.MultiExitDisc = first_split value (take 3 all_types) types.MultiExitDisc (drop 4 all_types) refl refl refl
first_is value types.LocalPref = first_split value (take 4 all_types) types.LocalPref (drop 5 all_types) refl refl refl
first_is value types.AtomicAggregate = first_split value (take 5 all_types) types.AtomicAggregate (drop 6 all_types) refl refl refl
first_is value types.Aggregator = first_split value (take 6 all_types) types.Aggregator (drop 7 all_types) refl refl refl
first_is value types.Communities = first_split value (take 7 all_types) types.Communities (drop 8 all_types) refl refl refl
first_is value types.OriginatorId = first_split value (take 8 all_types) types.OriginatorId (drop 9 all_types) refl refl refl
first_is value types.ClusterList = first_split value (take 9 all_types) types.ClusterList (drop 10 all_types) refl refl refl
first_is value types.MpReachNlri = first_split value (take 10 all_types) types.MpReachNlri (drop 11 all_types) refl refl refl
first_is value types.MpUnreachNlri = first_split value (take 11 all_types) types.MpUnreachNlri (drop 12 all_types) refl refl refl
first_is value types.ExtendedCommunities = first_split value (take 12 all_types) types.ExtendedCommunities (drop 13 all_types) refl refl refl
first_is value types.As4Path = first_split value (take 13 all_types) types.As4Path (drop 14 all_types) refl refl refl
first_is value types.As4Aggregator = first_split value (take 14 all_types) types.As4Aggregator (drop 15 all_types) refl refl refl
first_is value types.LargeCommunities = first_split value (take 15 all_types) types.LargeCommunities (drop 16 all_types) refl refl refl

-- ---- each type stands once

abbrev are_single : List AttrType → Bool
are_single [] = true
are_single (t ∷ ts) = not (has_number (type_number t) ts) && are_single ts

single_by : (value : AttrType → Option (List ℕ)) (t : AttrType) (ts : List AttrType) (v : Option (List ℕ)) → value t ≡ v → has_number (type_number t) ts ≡ false
    → has_repeats (attributes_with value ts) ≡ false → has_repeats (attributes_with value (t ∷ ts)) ≡ false
single_by value t ts None e once rest = rw e rest
single_by value t ts (Some octets) e once rest = rw (e, first_none (type_number t) value ts once, rest) refl

not_true : (b : Bool) → not b ≡ true → b ≡ false
not_true true e = absurd cc
not_true false e = refl

single : (value : AttrType → Option (List ℕ)) (ts : List AttrType) → are_single ts ≡ true → has_repeats (attributes_with value ts) ≡ false
single value [] e = refl
single value (t ∷ ts) e =
    let parts = and_parts _ _ e in
    single_by value t ts (value t) refl (not_true (has_number (type_number t) ts) parts.0) (single value ts parts.1)

pub no_repeats : (value : AttrType → Option (List ℕ)) → has_repeats (attributes_with value all_types) ≡ false
no_repeats value = single value all_types refl

some_none : (a : Attribute) → Some a ≡ None → ⊥
some_none a e = absurd cc

-- without repeats all are first
pub without_none : (kind : ℕ) (attributes : List Attribute) → first_of kind attributes ≡ None → without kind attributes ≡ attributes
without_none kind [] e = refl
without_none kind (a ∷ rest) e = elim (cases_Bool (a.kind == kind)) [
  | inl same ↦ absurd (some_none a (rw same at e))
  | inr other ↦ rw other (ap (λ (t : List Attribute). a ∷ t) (without_none kind rest (rw other at e)))
]

none_from : (x : Option Attribute) → is_some x ≡ false → x ≡ None
none_from None e = refl
none_from (Some a) e = absurd cc

pub all_first : (attributes : List Attribute) → has_repeats attributes ≡ false → firsts attributes ≡ attributes
all_first [] e = refl
all_first (a ∷ rest) e =
    let parts = or_none (is_some (first_of a.kind rest)) (has_repeats rest) e in
    rw (all_first rest parts.1, without_none a.kind rest (none_from (first_of a.kind rest) parts.0)) refl

-- ---- each is Good, and so is what counts

abbrev IsGoodOf : Side → AttrType → List ℕ → Type 0
IsGoodOf side t octets = class_of side (attribute_with t octets) ≡ Some Good

good_of_by : (side : Side) (t : AttrType) (v : Option (List ℕ)) → is_multiprotocol t ≡ false → IfSome v (λ octets. strongest (value_rows side t octets) ≡ Good) → IfSome v (IsGoodOf side t)
good_of_by side t None other h = tt
good_of_by side t (Some octets) other h = good.class_by_value side t octets other h

pub is_good_of : (side : Side) (p : PathValue) → IsFit p → IsForPeer side p → (t : AttrType) → IfSome (value_in side p t) (IsGoodOf side t)
is_good_of side p fits peer types.MpReachNlri = tt
is_good_of side p fits peer types.MpUnreachNlri = tt
is_good_of side p fits peer types.Origin = good_of_by side types.Origin (value_in side p types.Origin) refl (good.good_value side p fits peer types.Origin)
is_good_of side p fits peer types.AsPath = good_of_by side types.AsPath (value_in side p types.AsPath) refl (good.good_value side p fits peer types.AsPath)
is_good_of side p fits peer types.NextHop = good_of_by side types.NextHop (value_in side p types.NextHop) refl (good.good_value side p fits peer types.NextHop)
is_good_of side p fits peer types.MultiExitDisc = good_of_by side types.MultiExitDisc (value_in side p types.MultiExitDisc) refl (good.good_value side p fits peer types.MultiExitDisc)
is_good_of side p fits peer types.LocalPref = good_of_by side types.LocalPref (value_in side p types.LocalPref) refl (good.good_value side p fits peer types.LocalPref)
is_good_of side p fits peer types.AtomicAggregate = good_of_by side types.AtomicAggregate (value_in side p types.AtomicAggregate) refl (good.good_value side p fits peer types.AtomicAggregate)
is_good_of side p fits peer types.Aggregator = good_of_by side types.Aggregator (value_in side p types.Aggregator) refl (good.good_value side p fits peer types.Aggregator)
is_good_of side p fits peer types.Communities = good_of_by side types.Communities (value_in side p types.Communities) refl (good.good_value side p fits peer types.Communities)
is_good_of side p fits peer types.OriginatorId = good_of_by side types.OriginatorId (value_in side p types.OriginatorId) refl (good.good_value side p fits peer types.OriginatorId)
is_good_of side p fits peer types.ClusterList = good_of_by side types.ClusterList (value_in side p types.ClusterList) refl (good.good_value side p fits peer types.ClusterList)
is_good_of side p fits peer types.ExtendedCommunities = good_of_by side types.ExtendedCommunities (value_in side p types.ExtendedCommunities) refl (good.good_value side p fits peer types.ExtendedCommunities)
is_good_of side p fits peer types.As4Path = good_of_by side types.As4Path (value_in side p types.As4Path) refl (good.good_value side p fits peer types.As4Path)
is_good_of side p fits peer types.As4Aggregator = good_of_by side types.As4Aggregator (value_in side p types.As4Aggregator) refl (good.good_value side p fits peer types.As4Aggregator)
is_good_of side p fits peer types.LargeCommunities = good_of_by side types.LargeCommunities (value_in side p types.LargeCommunities) refl (good.good_value side p fits peer types.LargeCommunities)

each_by : (side : Side) (p : PathValue) (t : AttrType) (ts : List AttrType) (v : Option (List ℕ)) → value_in side p t ≡ v → IfSome v (IsGoodOf side t)
    → All (λ a. class_of side a ≡ Some Good) (filter_map (attribute_in side p) ts) → All (λ a. class_of side a ≡ Some Good) (filter_map (attribute_in side p) (t ∷ ts))
each_by side p t ts None e h others = rw e others
each_by side p t ts (Some octets) e h others = rw e (All-cons (λ a. class_of side a ≡ Some Good) (attribute_with t octets) (filter_map (attribute_in side p) ts) h others)

pub each_good : (side : Side) (p : PathValue) → IsFit p → IsForPeer side p → (ts : List AttrType) → All (λ a. class_of side a ≡ Some Good) (filter_map (attribute_in side p) ts)
each_good side p fits peer [] = All-nil (λ a. class_of side a ≡ Some Good)
each_good side p fits peer (t ∷ ts) = each_by side p t ts (value_in side p t) refl (is_good_of side p fits peer t) (each_good side p fits peer ts)

counts_by : (side : Side) (t : AttrType) (v : Option (List ℕ)) → IfSome v (IsGoodOf side t) → good_value side (option_map (attribute_with t) v) ≡ v
counts_by side t None h = refl
counts_by side t (Some octets) h = rw h refl

pub value_counts : (side : Side) (p : PathValue) → IsFit p → IsForPeer side p → (t : AttrType) → value_among side (path_attributes side p) t ≡ value_in side p t
value_counts side p fits peer t = ap (good_value side) (first_is (value_in side p) t) ∙ counts_by side t (value_in side p t) (is_good_of side p fits peer t)

pub read_back : ReadsBack
read_back side p fits peer = (
  each_good side p fits peer all_types,
  no_repeats (value_in side p),
  first_is (value_in side p),
  ap (λ (value : AttrType → Option (List ℕ)). path_from side value p.next_hop) (λ i t. value_counts side p fits peer t i) ∙ path_back side p fits peer.1,
)

-- what fits into a length fits into each attribute's
len_of_by : (of : AttrType → Option Attribute) (t : AttrType) (ts : List AttrType) (a : Option Attribute) → of t ≡ a
    → length (option_map_or attribute_octets (of t) []) ≤ length (flat_map attribute_octets (filter_map of (t ∷ ts)))
len_of_by of t ts None e = rw e (omega arith)
len_of_by of t ts (Some a) e = rw e (omega (arith, length-append (attribute_octets a) (flat_map attribute_octets (filter_map of ts))))

len_after_by : (of : AttrType → Option Attribute) (t : AttrType) (ts : List AttrType) (a : Option Attribute) → of t ≡ a
    → length (flat_map attribute_octets (filter_map of ts)) ≤ length (flat_map attribute_octets (filter_map of (t ∷ ts)))
len_after_by of t ts None e = rw e (omega arith)
len_after_by of t ts (Some a) e = rw e (omega (arith, length-append (attribute_octets a) (flat_map attribute_octets (filter_map of ts))))

short_by : (t : AttrType) (v : Option (List ℕ)) (room : ℕ) → length (option_map_or attribute_octets (option_map (attribute_with t) v) []) ≤ room → room ≤ 65535 → IfSome v (λ octets. length octets ≤ 65535)
short_by t None room h k = tt
short_by t (Some octets) room h k = omega (arith, length-append (big_bytes (length_octets (flags_for t (length octets))) (length octets)) octets)

all_short : (value : AttrType → Option (List ℕ)) (ts : List AttrType) → length (flat_map attribute_octets (attributes_with value ts)) ≤ 65535 → All (λ t. IfSome (value t) (λ octets. length octets ≤ 65535)) ts
all_short value [] h = All-nil (λ t. IfSome (value t) (λ octets. length octets ≤ 65535))
all_short value (t ∷ ts) h =
    let of = λ (u : AttrType). option_map (attribute_with u) (value u) in
    All-cons (λ u. IfSome (value u) (λ octets. length octets ≤ 65535)) t ts
    (short_by t (value t) (length (flat_map attribute_octets (attributes_with value (t ∷ ts)))) (len_of_by of t ts (of t) refl) h)
    (all_short value ts (omega (arith, len_after_by of t ts (of t) refl)))

pub is_writable : (side : Side) (p : PathValue) → length (flat_map attribute_octets (path_attributes side p)) ≤ 65535 → IsWritable side p
is_writable side p h = every (HasShortValue side p) (all_short (value_in side p) all_types h)
