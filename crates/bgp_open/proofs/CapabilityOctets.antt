-- The octets of capabilities, one after another.
use Rattle.std.proofs.Common.{◌≡◌, ◌∙◌, ℕ, ◌+◌, ◌<◌, ◌≤◌, List, [], ◌∷◌, ◌++◌, length, get_or, take, map, sym, ap, arith, append-nil}
use Rattle.std.specs.List.{flat_map}
use Rattle.std.proofs.lemmas.List.{take_more}
use Rattle.std.proofs.lemmas.List.Folds.{length-flat_map-take, flat_map-map}
use Rattle.std.proofs.lemmas.Grind.{flat_map-append}
use Rattle.bgp_open.specs.declared.capability.Capability.{Capability}
use Rattle.bgp_open.specs.Triplet.{triplet_octets, triplets_octets}
use Rattle.bgp_open.specs.Capability.{capability_of}

abbrev octets_of : Capability → List ℕ
octets_of capability = triplet_octets (capability_of capability)

-- with one more, its octets stand at the end
pub joined_more : (capabilities : List Capability) (i : ℕ) (d : Capability) → i < length capabilities
    → triplets_octets (map capability_of (take (i + 1) capabilities))
    ≡ triplets_octets (map capability_of (take i capabilities)) ++ octets_of (get_or capabilities i d)
joined_more capabilities i d in' =
    flat_map-map triplet_octets capability_of (take (i + 1) capabilities)
    ∙ ap (λ (cs : List Capability). flat_map octets_of cs) (take_more capabilities i d in')
    ∙ flat_map-append octets_of (take i capabilities) (get_or capabilities i d ∷ [])
    ∙ ap (λ (os : List ℕ). flat_map octets_of (take i capabilities) ++ os) (append-nil (octets_of (get_or capabilities i d)))
    ∙ ap (λ (os : List ℕ). os ++ octets_of (get_or capabilities i d)) (sym (flat_map-map triplet_octets capability_of (take i capabilities)))

-- no front of them is longer than all
pub joined_within : (capabilities : List Capability) (i : ℕ) (d : Capability) → i < length capabilities
    → length (triplets_octets (map capability_of (take i capabilities))) + length (octets_of (get_or capabilities i d))
    ≤ length (triplets_octets (map capability_of capabilities))
joined_within capabilities i d in' =
    rw (flat_map-map triplet_octets capability_of (take i capabilities), flat_map-map triplet_octets capability_of capabilities)
    (length-flat_map-take octets_of capabilities i d in')

-- what the code reads beyond the last capability, which it never does
abbrev pub no_capability : Capability
no_capability = record { code = 0; value = record { ref_ptr = (0, 0); now = [] } }

pub one_within : (capabilities : List Capability) (i : ℕ) → i < length capabilities
    → length (triplets_octets (map capability_of (take i capabilities))) + (2 + length (get_or capabilities i no_capability).value.now)
    ≤ length (triplets_octets (map capability_of capabilities))
one_within capabilities i in' =
    let within = joined_within capabilities i no_capability in' in omega arith

-- a vector of these items, this length and this capacity has got these octets since it had those
pub record IsFilled (old : List ℕ) (count room : ℕ) (octets new : List ℕ) (count' room' : ℕ) : Type 0 where
  pub items : new ≡ old ++ octets
  pub len : count' ≡ count + length octets
  pub capacity : room ≤ room'
