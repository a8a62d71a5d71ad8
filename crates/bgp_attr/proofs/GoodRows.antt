-- What the class Good of an attribute says of its value, by its type.
use Rattle.std.proofs.Common.{◌≡◌, Bool, true, false, not, List, ◌∷◌, Some, refl, sym, ap, ◌∙◌, inl, inr}
use Rattle.std.proofs.lemmas.Bool.{cases_Bool}
use Rattle.bgp_attr.specs.declared.classes.AttrVerdict.{AttrVerdict}
use Rattle.bgp_attr.specs.declared.classes.AttrVerdict.TheVariants.{Good, Discard, Withdraw, Reset}
use Rattle.bgp_attr.specs.declared.classes.Side.{Side}
use Rattle.bgp_attr.specs.declared.types.AttrType.{AttrType}
use Rattle.bgp_attr.specs.declared.types.AttrType.TheVariants as types
use Rattle.bgp_attr.specs.Class.{stronger, strongest, value_rows, class_by, class_of}
use Rattle.bgp_attr.specs.Field.{Attribute}
use Rattle.bgp_attr.specs.Types.{type_number, type_of, has_bits_of, is_multiprotocol}

-- the number of a type is its own alone
pub type_back : (t : AttrType) → type_of (type_number t) ≡ Some t
type_back types.Origin = refl
type_back types.AsPath = refl
type_back types.NextHop = refl
type_back types.MultiExitDisc = refl
type_back types.LocalPref = refl
type_back types.AtomicAggregate = refl
type_back types.Aggregator = refl
type_back types.Communities = refl
type_back types.OriginatorId = refl
type_back types.ClusterList = refl
type_back types.MpReachNlri = refl
type_back types.MpUnreachNlri = refl
type_back types.ExtendedCommunities = refl
type_back types.As4Path = refl
type_back types.As4Aggregator = refl
type_back types.LargeCommunities = refl

not_good : (x : AttrVerdict) → stronger Withdraw x ≡ Good → x ≡ Good
not_good Good e = refl
not_good Discard e = absurd cc
not_good Withdraw e = absurd cc
not_good Reset e = absurd cc

other_rows : (wrong : Bool) (rows : List (Bool × AttrVerdict)) → strongest ((wrong, Withdraw) ∷ rows) ≡ Good → strongest rows ≡ Good
other_rows true rows e = not_good (strongest rows) e
other_rows false rows e = e

some_same : (x y : AttrVerdict) → Some x ≡ Some y → x ≡ y
some_same x y e = cc

by_type : (side : Side) (a : Attribute) (t : AttrType) → class_by side a (Some t) ≡ Some Good → strongest (value_rows side t a.value) ≡ Good
by_type side a t e = elim (cases_Bool (is_multiprotocol t)) [
  | inl mp ↦ absurd (let h = rw mp at e in cc)
  | inr other ↦
      let h = rw other at e in
      other_rows (not (has_bits_of a.flags t)) (value_rows side t a.value) (some_same _ _ h)
]

pub good_rows : (side : Side) (a : Attribute) (t : AttrType) → a.kind ≡ type_number t → class_of side a ≡ Some Good → strongest (value_rows side t a.value) ≡ Good
good_rows side a t kind e = by_type side a t (sym (ap (class_by side a) (ap type_of kind ∙ type_back t)) ∙ e)

-- the class of an attribute is that by its type
pub class_is : (side : Side) (a : Attribute) (t : AttrType) → a.kind ≡ type_number t → class_by side a (Some t) ≡ class_of side a
class_is side a t kind = sym (ap (class_by side a) (ap type_of kind ∙ type_back t))
