-- A value that stands beside octets, or without them if it spells them.
use Rattle.std.proofs.Common.{◌≡◌, ◌∙◌, ℕ, Bool, true, false, List, [], Option, Some, None, bytes_eq, codes, drop, if◌then◌else◌, refl, sym, ap}
use Rattle.std.proofs.lemmas.Slice.Eq.{bytes_eq-Decides}
use Rattle.json.specs.Json.{Json}
use Rattle.bgp_wire.specs.Octets.{AreOctets}
use Rattle.bgp_json_values.specs.Octets.{octets_members, unless_spelled, value_members, value_or_octets}
use Rattle.bgp_json_laws.proofs.Lookups.{not_valued, of_key}
use Rattle.bgp_json_laws.proofs.Texts.{same_octets}

-- octets, unless this is so
abbrev pub unless : Bool → List ℕ → List (List ℕ × Json)
unless is_so octets = if is_so then [] else octets_members octets

one_member : (octets : List ℕ) → octets_members octets ≡ [] → ⊥
one_member octets e = not_valued (codes "octets") [] (octets_members octets) _ (sym e) refl refl

pub same_unless : (x y : Bool) (octets others : List ℕ) → AreOctets octets → AreOctets others → (x ≡ true → y ≡ true → octets ≡ others)
    → unless x octets ≡ unless y others → octets ≡ others
same_unless true true octets others are too each e = each refl refl
same_unless true false octets others are too each e = absurd (one_member others (sym e))
same_unless false true octets others are too each e = absurd (one_member octets e)
same_unless false false octets others are too each e =
    same_octets octets others are too (ap (of_key (codes "octets")) e)

same_spelled : (s t octets others : List ℕ) → AreOctets octets → AreOctets others → s ≡ t → unless_spelled s octets ≡ unless_spelled t others → octets ≡ others
same_spelled s t octets others are too same e =
    same_unless (bytes_eq s octets) (bytes_eq t others) octets others are too
    (λ is also. sym ((bytes_eq-Decides s octets).0 is) ∙ same ∙ (bytes_eq-Decides t others).0 also) e

-- octets are equal if what stands of them is, and equal values spell the same
pub same_item : {V W : Type 0} (json : V → Json) (other : W → Json) (spelled : V → List ℕ) (also : W → List ℕ) (v : Option V) (w : Option W) (octets others : List ℕ)
    → AreOctets octets → AreOctets others
    → ((a : V) (b : W) → v ≡ Some a → w ≡ Some b → json a ≡ other b → spelled a ≡ also b)
    → value_or_octets json spelled v octets ≡ value_or_octets other also w others → octets ≡ others
same_item json other spelled also None None octets others are too each e =
    same_octets octets others are too (ap (of_key (codes "octets")) e)
same_item json other spelled also None (Some b) octets others are too each e =
    absurd (not_valued (codes "value") (octets_members octets) (value_members (other b) (also b) others) (other b) e refl refl)
same_item json other spelled also (Some a) None octets others are too each e =
    absurd (not_valued (codes "value") (octets_members others) (value_members (json a) (spelled a) octets) (json a) (sym e) refl refl)
same_item json other spelled also (Some a) (Some b) octets others are too each e =
    let value = (let same : json a ≡ other b = ap (of_key (codes "value")) e in same) in
    same_spelled (spelled a) (also b) octets others are too (each a b refl refl value) (ap (drop 1) e)
