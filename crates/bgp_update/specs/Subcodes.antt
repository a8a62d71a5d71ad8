-- A set of Error Subcodes of an UPDATE Message Error (RFC 4271, 4.5 and 6.3).
use Rattle.std.specs.Prelude.{◌≡◌, ◌↔◌, ℕ, Bool, false, List, [], ◌∷◌, IsTrue, get_or}
use Rattle.bgp_update.specs.declared.subcodes.Subcodes.{Subcodes}

-- for each number from 0 whether it is in the set
abbrev pub marks_of : Subcodes → List Bool
marks_of s =
    false ∷ s.malformed_attribute_list ∷ s.unrecognized_well_known ∷ s.missing_well_known
    ∷ s.attribute_flags ∷ s.attribute_length ∷ s.invalid_origin ∷ s.as_routing_loop
    ∷ s.invalid_next_hop ∷ s.optional_attribute ∷ s.invalid_network_field ∷ s.malformed_as_path
    ∷ []

-- the subcode is in the set
abbrev pub HasSubcode : Subcodes → ℕ → Type 0
HasSubcode s n = IsTrue (get_or (marks_of s) n false)

-- sets that hold the same are equal
abbrev pub SubcodesAreSets : Type 0
SubcodesAreSets =
    (s t : Subcodes) → ((n : ℕ) → HasSubcode s n ↔ HasSubcode t n) → s ≡ t
