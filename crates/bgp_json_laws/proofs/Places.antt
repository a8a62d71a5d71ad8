-- Objects that say first what they tell of, and then where it stands.
use Rattle.std.proofs.Common.{◌≡◌, ◌∙◌, ◌++◌, ◌||◌, ℕ, Bool, true, false, List, [], ◌∷◌, Option, None, Some, bytes_eq, codes, drop, if◌then◌else◌, refl, sym, ap}
use Rattle.std.proofs.lemmas.Bool.{both_ways}
use Rattle.json.specs.Json.{Json, string}
use Rattle.bgp_json.specs.Object.{typed}
use Rattle.bgp_json.specs.Place.{packet_members, place_members}
use Rattle.bgp_json.specs.declared.place.Place.{Place}
use Rattle.bgp_json.specs.declared.place.Place.TheVariants.{InStream, InRecord}
use Rattle.bgp_json_laws.proofs.Lookups.{same_members, text_of, value_at}

-- a key of a place
abbrev pub is_place_key : List ℕ → Bool
is_place_key key =
    bytes_eq (codes "at") key || (bytes_eq (codes "record") key || (bytes_eq (codes "second") key
    || (bytes_eq (codes "packet") key || bytes_eq (codes "direction") key)))

-- the members behind a place
abbrev pub behind_place : List (List ℕ × Json) → List (List ℕ × Json)
behind_place [] = []
behind_place (m ∷ ms) = if is_place_key m.0 then behind_place ms else m ∷ ms

behind_packet : (packet : Option ℕ) (direction : Json) (ms : List (List ℕ × Json))
    → behind_place ((packet_members packet ++ (codes "direction", direction) ∷ []) ++ ms) ≡ behind_place ms
behind_packet None direction ms = refl
behind_packet (Some packet) direction ms = refl

pub behind : (place : Place) (ms : List (List ℕ × Json)) → behind_place (place_members place ++ ms) ≡ behind_place ms
behind (InStream offset) ms = refl
behind (InRecord place direction) ms = behind_packet place.packet _ ms

-- equal objects tell of the same, and have the same behind their places
pub same_typed : (kind other : List ℕ) (place also : Place) (ms ns : List (List ℕ × Json))
    → typed kind (place_members place ++ ms) ≡ typed other (place_members also ++ ns) → (kind ≡ other) × (behind_place ms ≡ behind_place ns)
same_typed kind other place also ms ns e = (
  ap (λ (j : Json). text_of (value_at (codes "type") j)) e,
  sym (behind place ms)
      ∙ ap (λ (xs : List (List ℕ × Json)). behind_place (drop 1 xs))
      (same_members ((codes "type", string kind) ∷ (place_members place ++ ms)) ((codes "type", string other) ∷ (place_members also ++ ns)) e)
      ∙ behind also ns,
)

pub differ : (kind other : List ℕ) → bytes_eq kind other ≡ false → bytes_eq other other ≡ true → kind ≡ other → ⊥
differ kind other apart own e = both_ways (bytes_eq kind other) apart (rw e own)
