-- Triplets of a code, a length and a value: how an OPEN has its parameters (RFC 4271, 4.2), and a
-- parameter its capabilities (RFC 5492, 4).
use Rattle.std.specs.Prelude.{◌≡◌, ◌<◌, if◌then◌else◌, nat_le, ℕ, zero, suc, List, [], ◌∷◌}
use Rattle.std.specs.Prelude.{⊤, length, take, drop}
use Rattle.std.specs.List.{flat_map}

-- what a triplet says: a Parameter Type or a Capability Code, and a value, which gives the length
pub record Triplet : Type 0 where
  pub code : ℕ
  pub value : List ℕ

-- the octets of a triplet
abbrev pub triplet_octets : Triplet → List ℕ
triplet_octets triplet = triplet.code ∷ length triplet.value ∷ triplet.value

-- the octets of triplets, one after another
abbrev pub triplets_octets : List Triplet → List ℕ
triplets_octets triplets = flat_map triplet_octets triplets

-- no triplet stands at the front: a code or a length is missing, or the value runs over
abbrev pub IsCutTriplet : List ℕ → Type 0
IsCutTriplet [] = ⊤
IsCutTriplet (code ∷ []) = ⊤
IsCutTriplet (code ∷ count ∷ rest) = length rest < count

-- the triplets at the front of octets, at most as many as the first number
abbrev pub triplets_in : ℕ → List ℕ → List Triplet
triplets_in zero octets = []
triplets_in (suc most) [] = []
triplets_in (suc most) (code ∷ []) = []
triplets_in (suc most) (code ∷ count ∷ rest) =
    if nat_le count (length rest)
    then (record { code = code; value = take count rest }) ∷ triplets_in most (drop count rest)
    else []

-- the triplets that octets hold, one after another, before what is cut short
unfoldable pub triplets_of : List ℕ → List Triplet
triplets_of octets = triplets_in (length octets) octets

-- the octets are triplets and nothing else: none runs over, and no octet is left
abbrev pub IsWhole : List ℕ → Type 0
IsWhole octets = triplets_octets (triplets_of octets) ≡ octets
