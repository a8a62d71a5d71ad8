-- Path attributes whose objects are equal are equal.
use Rattle.std.proofs.Common.{◌≡◌, ◌∙◌, ◌++◌, ◌||◌, ◌==◌, ℕ, Bool, true, false, List, [], ◌∷◌, Option, Some, None, bytes_eq, codes, drop, if◌then◌else◌, refl, sym, ap, subst, arith, inl, inr}
use Rattle.std.proofs.lemmas.Bool.{cases_Bool}
use Rattle.json.specs.Json.{Json}
use Rattle.bgp_wire.specs.Octets.{AreOctets}
use Rattle.bgp_attr.specs.Field.{Attribute}
use Rattle.bgp_attr.specs.Segments.{number_width}
use Rattle.bgp_open.specs.declared.route_form.RouteForm.{RouteForm}
use Rattle.bgp_values.specs.AttributeValue.{AttributeValue, attribute_value}
use Rattle.bgp_values.specs.RoutesValue.{reach_value, unreach_value}
use Rattle.bgp_values.specs.declared.opens.Reading.{Reading}
use Rattle.bgp_json_values.specs.AttributeJson.{attribute_json, attribute_members, attribute_value_json, plain_members, said_members, spelled_attribute, width_members, width_of_type}
use Rattle.bgp_json_values.specs.Objects.{number_of}
use Rattle.bgp_json_values.specs.Octets.{value_or_octets}
use Rattle.bgp_json_values.specs.RoutesJson.{routes_json, spelled_routes}
use Rattle.bgp_json_laws.specs.Laws.{IsAttribute}
use Rattle.bgp_json_laws.proofs.Lookups.{of_key, same_members}
use Rattle.bgp_json_laws.proofs.Routes.{same_reach, same_unreach}
use Rattle.bgp_json_laws.proofs.Spellings.{same_item}
use Rattle.bgp_json_laws.proofs.Texts.{same_number_json}
use Rattle.bgp_json_laws.proofs.Values.{same_value}

-- ---- the width of AS numbers, in front of a value

-- the members behind a width
abbrev behind_width : List (List ℕ × Json) → List (List ℕ × Json)
behind_width [] = []
behind_width (m ∷ ms) = if bytes_eq (codes "width") m.0 then ms else m ∷ ms

no_width : (v : Option AttributeValue) (width : ℕ) (octets : List ℕ)
    → behind_width (value_or_octets attribute_value_json (spelled_attribute width) v octets) ≡ value_or_octets attribute_value_json (spelled_attribute width) v octets
no_width None width octets = refl
no_width (Some value) width octets = refl

behind_member : (at as4 : Bool) (ms : List (List ℕ × Json)) → behind_width ms ≡ ms
    → behind_width ((if at then (codes "width", number_of (number_width as4)) ∷ [] else []) ++ ms) ≡ ms
behind_member true as4 ms none = refl
behind_member false as4 ms none = none

behind_members : (as4 : Bool) (kind : ℕ) (v : Option AttributeValue) (ms : List (List ℕ × Json)) → behind_width ms ≡ ms → behind_width (width_members as4 kind v ++ ms) ≡ ms
behind_members as4 kind None ms none = none
behind_members as4 kind (Some value) ms none = behind_member ((kind == 2) || (kind == 7)) as4 ms none

behind_all : (as4 : Bool) (kind : ℕ) (octets : List ℕ) (v : Option AttributeValue)
    → behind_width (plain_members as4 kind octets v) ≡ value_or_octets attribute_value_json (spelled_attribute (width_of_type as4 kind)) v octets
behind_all as4 kind octets v = behind_members as4 kind v _ (no_width v (width_of_type as4 kind) octets)

width_by : (as4 also : Bool) → number_of (number_width as4) ≡ number_of (number_width also) → as4 ≡ also
width_by true true e = refl
width_by true false e = absurd (let same = same_number_json 4 2 (omega arith) (omega arith) e in omega (arith, same))
width_by false true e = absurd (let same = same_number_json 2 4 (omega arith) (omega arith) e in omega (arith, same))
width_by false false e = refl

-- the width of two values of AS_PATH or AGGREGATOR
width_known : (as4 also : Bool) (kind : ℕ) (octets others : List ℕ) (a b : AttributeValue)
    → plain_members as4 kind octets (Some a) ≡ plain_members also kind others (Some b) → ((kind == 2) || (kind == 7)) ≡ true → as4 ≡ also
width_known as4 also kind octets others a b e is =
    width_by as4 also (ap (of_key (codes "width")) (in_sight as4 also kind octets others a b is e))
  where
    in_sight : (as4 also : Bool) (kind : ℕ) (octets others : List ℕ) (a b : AttributeValue) → ((kind == 2) || (kind == 7)) ≡ true
        → plain_members as4 kind octets (Some a) ≡ plain_members also kind others (Some b)
        → (codes "width", number_of (number_width as4)) ∷ value_or_octets attribute_value_json (spelled_attribute (width_of_type as4 kind)) (Some a) octets
        ≡ (codes "width", number_of (number_width also)) ∷ value_or_octets attribute_value_json (spelled_attribute (width_of_type also kind)) (Some b) others
    in_sight as4 also kind octets others a b is e = rw is at e

same_plain : (as4 also : Bool) (kind : ℕ) (octets others : List ℕ) (v w : Option AttributeValue) → attribute_value as4 kind octets ≡ v → attribute_value also kind others ≡ w
    → AreOctets octets → AreOctets others → plain_members as4 kind octets v ≡ plain_members also kind others w → octets ≡ others
same_plain as4 also kind octets others v w first second are too e =
    same_item attribute_value_json attribute_value_json (spelled_attribute (width_of_type as4 kind)) (spelled_attribute (width_of_type also kind)) v w octets others are too
    (λ a b some some' same.
    same_value as4 also kind
    (width_known as4 also kind octets others a b
    (sym (ap (plain_members as4 kind octets) some) ∙ e ∙ ap (plain_members also kind others) some'))
    octets others a b are too (first ∙ some) (second ∙ some') same)
    (sym (behind_all as4 kind octets v) ∙ ap behind_width e ∙ behind_all also kind others w)

-- ---- attributes

same_reached : (form also : RouteForm) (octets others : List ℕ) → AreOctets octets → AreOctets others
    → value_or_octets (routes_json (codes "nlri") form) spelled_routes (reach_value form octets) octets
    ≡ value_or_octets (routes_json (codes "nlri") also) spelled_routes (reach_value also others) others → octets ≡ others
same_reached form also octets others are too e =
    same_item (routes_json (codes "nlri") form) (routes_json (codes "nlri") also) spelled_routes spelled_routes (reach_value form octets) (reach_value also others) octets others are too
    (λ a b first second same. same_reach form also octets others a b are too first second same) e

same_unreached : (form also : RouteForm) (octets others : List ℕ) → AreOctets octets → AreOctets others
    → value_or_octets (routes_json (codes "withdrawn") form) spelled_routes (unreach_value form octets) octets
    ≡ value_or_octets (routes_json (codes "withdrawn") also) spelled_routes (unreach_value also others) others → octets ≡ others
same_unreached form also octets others are too e =
    same_item (routes_json (codes "withdrawn") form) (routes_json (codes "withdrawn") also) spelled_routes spelled_routes (unreach_value form octets) (unreach_value also others) octets others are too
    (λ a b first second same. same_unreach form also octets others a b are too first second same) e

-- an attribute of a type, with these flags and this value
abbrev attribute_with : ℕ → ℕ → List ℕ → Attribute
attribute_with flags kind value = record { flags = flags; kind = kind; value = value }

same_said : (reading other : Reading) (flags also kind : ℕ) (octets others : List ℕ) → AreOctets octets → AreOctets others
    → said_members reading (attribute_with flags kind octets) ≡ said_members other (attribute_with also kind others) → octets ≡ others
same_said reading other flags also kind octets others are too e = elim (cases_Bool (kind == 14)) [
  | inl is ↦ same_reached reading.form other.form octets others are too (rw is at e)
  | inr isnt ↦ elim (cases_Bool (kind == 15)) [
    | inl is ↦ same_unreached reading.form other.form octets others are too (rw (isnt, is) at e)
    | inr isnt' ↦ same_plain reading.as4 other.as4 kind octets others (attribute_value reading.as4 kind octets) (attribute_value other.as4 kind others) refl refl are too (rw (isnt, isnt') at e)
  ]
]

pub same_attribute : (reading other : Reading) (a b : Attribute) → IsAttribute a → IsAttribute b → attribute_json reading a ≡ attribute_json other b → a ≡ b
same_attribute reading other a b is also e =
    let ms = same_members (attribute_members reading a) (attribute_members other b) e in
    let small = is.kind in
    let small' = also.kind in
    let low = is.flags in
    let low' = also.flags in
    let kind = same_number_json a.kind b.kind (omega (arith, small)) (omega (arith, small')) (ap (of_key (codes "type")) ms) in
    let flags = same_number_json a.flags b.flags (omega (arith, low)) (omega (arith, low')) (ap (of_key (codes "flags")) ms) in
    let value = same_said reading other a.flags b.flags b.kind a.value b.value is.value also.value
    (subst (λ (k : ℕ). said_members reading (attribute_with a.flags k a.value) ≡ said_members other b) kind (ap (drop 3) ms)) in
    λ i. record { flags = flags i; kind = kind i; value = value i }
