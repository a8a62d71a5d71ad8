-- What an UPDATE says, by which of its parts there are.
use Rattle.std.proofs.Common.{◌≡◌, ◌∙◌, ◌++◌, ◌==◌, ◌&&◌, ◌∷◌, [], List, ℕ, true, false, refl, sym, ap, append-nil, append_assoc, codes, map, length, slice_index}
use Rattle.std.proofs.lemmas.Bool.{and_parts, eqb-true}
use Rattle.std.specs.List.{flat_map}
use Rattle.byteorder.specs.Endian.{big_number}
use Rattle.bgp_attr.specs.Field.{Attribute}
use Rattle.bgp_text.specs.Destination.{Destination}
use Rattle.bgp_text.specs.Parts.{UpdateParts}
use Rattle.bgp_names.specs.Families.{family_name}
use Rattle.bgp_text.specs.Text.{destinations_text}
use Rattle.bgp_values.specs.declared.opens.Reading.{Reading}
use Rattle.bgp_lines.specs.AttributeLine.{are_right_flags}
use Rattle.bgp_lines.specs.UpdateLine.{alone, is_marker, named_attribute, parts_body, update_body, itself}

-- texts that are made first
behind_made : (reading : Reading) (attributes : List Attribute)
    → flat_map (λ (text : List ℕ). codes " | " ++ itself text) (map (named_attribute reading) attributes)
    ≡ flat_map (λ (a : Attribute). codes " | " ++ named_attribute reading a) attributes
behind_made reading [] = refl
behind_made reading (a ∷ attributes) = ap (λ (rest : List ℕ). (codes " | " ++ named_attribute reading a) ++ rest) (behind_made reading attributes)

pub two_attributes : (reading : Reading) (a b : Attribute) (attributes : List Attribute)
    → named_attribute reading a ++ (codes " | " ++ (named_attribute reading b ++ flat_map (λ (x : Attribute). codes " | " ++ named_attribute reading x) attributes))
    ≡ parts_body reading (alone (a ∷ b ∷ attributes))
unfolding update_body
two_attributes reading a b attributes =
    ap (λ (rest : List ℕ). named_attribute reading a ++ rest)
    (sym (append_assoc (codes " | ") (named_attribute reading b) (flat_map (λ (x : Attribute). codes " | " ++ named_attribute reading x) attributes))
    ∙ ap (λ (rest : List ℕ). (codes " | " ++ named_attribute reading b) ++ rest) (sym (behind_made reading attributes)))

-- the fields as they were found, of which each has these destinations
pub some_withdrawn : (reading : Reading) (withdrawn nlri : List Destination) (w : Destination) (ws : List Destination) (attributes : List Attribute)
    → withdrawn ≡ w ∷ ws → nlri ≡ []
    → (codes "withdrawn " ++ destinations_text (w ∷ ws)) ++ flat_map (λ (x : Attribute). codes " | " ++ named_attribute reading x) attributes
    ≡ parts_body reading (record { withdrawn = withdrawn; attributes = attributes; nlri = nlri })
unfolding update_body
some_withdrawn reading withdrawn nlri w ws attributes some none =
    rw (some, none) (ap (λ (rest : List ℕ). (codes "withdrawn " ++ destinations_text (w ∷ ws)) ++ rest) (sym (behind_made reading attributes)))

pub some_announced : (reading : Reading) (withdrawn nlri : List Destination) (n : Destination) (ns : List Destination) (attributes : List Attribute)
    → withdrawn ≡ [] → nlri ≡ n ∷ ns
    → (codes "announced " ++ destinations_text (n ∷ ns)) ++ flat_map (λ (x : Attribute). codes " | " ++ named_attribute reading x) attributes
    ≡ parts_body reading (record { withdrawn = withdrawn; attributes = attributes; nlri = nlri })
unfolding update_body
some_announced reading withdrawn nlri n ns attributes none some =
    rw (none, some) (ap (λ (rest : List ℕ). (codes "announced " ++ destinations_text (n ∷ ns)) ++ rest) (sym (behind_made reading attributes)))

pub both_there : (reading : Reading) (withdrawn nlri : List Destination) (w : Destination) (ws : List Destination) (n : Destination) (ns : List Destination) (attributes : List Attribute)
    → withdrawn ≡ w ∷ ws → nlri ≡ n ∷ ns
    → (codes "withdrawn " ++ destinations_text (w ∷ ws)) ++ (codes " | " ++ ((codes "announced " ++ destinations_text (n ∷ ns)) ++ flat_map (λ (x : Attribute). codes " | " ++ named_attribute reading x) attributes))
    ≡ parts_body reading (record { withdrawn = withdrawn; attributes = attributes; nlri = nlri })
unfolding update_body
both_there reading withdrawn nlri w ws n ns attributes some more =
    rw (some, more) (ap (λ (rest : List ℕ). (codes "withdrawn " ++ destinations_text (w ∷ ws)) ++ rest)
    (sym (append_assoc (codes " | ") (codes "announced " ++ destinations_text (n ∷ ns)) (flat_map (λ (x : Attribute). codes " | " ++ named_attribute reading x) attributes))
    ∙ ap (λ (rest : List ℕ). (codes " | " ++ (codes "announced " ++ destinations_text (n ∷ ns))) ++ rest) (sym (behind_made reading attributes))))

pub none_there : (reading : Reading) (withdrawn nlri : List Destination) (attributes : List Attribute)
    → withdrawn ≡ [] → nlri ≡ [] → parts_body reading (alone attributes)
    ≡ parts_body reading (record { withdrawn = withdrawn; attributes = attributes; nlri = nlri })
none_there reading withdrawn nlri attributes none neither = rw (none, neither) refl

-- ---- at most one attribute, and nothing besides

pub no_attributes : (reading : Reading) → codes "End-of-RIB " ++ family_name 1 1 ≡ parts_body reading (alone [])
unfolding update_body
no_attributes reading = refl

pub with_marker : (reading : Reading) (a : Attribute) → is_marker a ≡ true
    → codes "End-of-RIB " ++ family_name (big_number 2 a.value) (slice_index a.value 2) ≡ parts_body reading (alone (a ∷ []))
unfolding update_body
with_marker reading a is = rw is refl

pub no_marker : (reading : Reading) (a : Attribute) → is_marker a ≡ false → named_attribute reading a ≡ parts_body reading (alone (a ∷ []))
unfolding update_body
no_marker reading a is = rw is (sym (append-nil (named_attribute reading a)))

pub three_octets : (a : Attribute) → is_marker a ≡ true → length a.value ≡ 3
three_octets a is =
    eqb-true (length a.value) 3 (and_parts (are_right_flags 128 a.flags) (length a.value == 3)
    (and_parts (a.kind == 15) (are_right_flags 128 a.flags && (length a.value == 3)) is).1).1
