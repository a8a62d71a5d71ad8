-- OPENs whose objects are equal have the same octets.
use Rattle.std.proofs.Common.{◌≡◌, ◌∙◌, ◌++◌, ◌==◌, ◌<◌, ◌^◌, ℕ, zero, suc, List, [], ◌∷◌, All, codes, drop, length, nat_le, take, refl, sym, ap, arith, inl, inr}
use Rattle.std.specs.List.{flat_map}
use Rattle.std.proofs.lemmas.Bool.{cases_Bool}
use Rattle.std.proofs.lemmas.Slice.Eq.{bytes_eq-Decides}
use Rattle.std.proofs.lemmas.List.Elements.{All-append, All-cons, All-drop, All-head, All-nil, All-tail, All-take}
use Rattle.json.specs.Json.{Json}
use Rattle.bgp_wire.specs.Message.{body_of, message_octets}
use Rattle.bgp_wire.specs.Octets.{AreOctets}
use Rattle.bgp_open.specs.Open.{capabilities_in, capabilities_of, fixed_fields_of, hold_of, id_of, my_as_of, open_of, parameters_of}
use Rattle.bgp_open.specs.OpenFault.{IsWellFormed}
use Rattle.bgp_open.specs.Triplet.{Triplet, triplets_in, triplets_octets, triplets_of}
use Rattle.bgp_open.specs.Written.{fixed_octets, parameters_with}
use Rattle.bgp_open.proofs.OpenParts.{readable_is_its_parts}
use Rattle.bgp_json_values.specs.CapabilityJson.{capability_json}
use Rattle.bgp_json.specs.MessageJson.{are_parameters_spelled, octets_unless, open_members}
use Rattle.bgp_json_laws.specs.Laws.{IsTriplet}
use Rattle.bgp_json_laws.proofs.Capabilities.{same_capability}
use Rattle.bgp_json_laws.proofs.Lists.{lists_equal}
use Rattle.bgp_json_laws.proofs.Lookups.{of_key}
use Rattle.bgp_json_laws.proofs.Spellings.{same_unless}
use Rattle.bgp_json_laws.proofs.Texts.{IsOctet, number_fits, same_address_4, same_number_json}

-- ---- the capabilities of an OPEN are octets

each_in : (most : ℕ) (octets : List ℕ) → AreOctets octets → All IsTriplet (triplets_in most octets)
each_in zero octets are = All-nil IsTriplet
each_in (suc most) [] are = All-nil IsTriplet
each_in (suc most) (code ∷ []) are = All-nil IsTriplet
each_in (suc most) (code ∷ count ∷ rest) are =
    let behind = All-tail IsOctet count rest (All-tail IsOctet code (count ∷ rest) are) in
    elim (cases_Bool (nat_le count (length rest))) [
      | inl whole ↦
          rw whole (All-cons IsTriplet (record { code = code; value = take count rest }) (triplets_in most (drop count rest))
          record { code = All-head IsOctet code (count ∷ rest) are; value = All-take IsOctet count rest behind }
          (each_in most (drop count rest) (All-drop IsOctet count rest behind)))
      | inr cut ↦ rw cut (All-nil IsTriplet)
    ]

each_triplet : (octets : List ℕ) → AreOctets octets → All IsTriplet (triplets_of octets)
unfolding triplets_of
each_triplet octets are = each_in (length octets) octets are

each_capability_in : (parameter : Triplet) → IsTriplet parameter → All IsTriplet (capabilities_in parameter)
each_capability_in parameter is = elim (cases_Bool (parameter.code == 2)) [
  | inl two ↦ rw two (each_triplet parameter.value is.value)
  | inr other ↦ rw other (All-nil IsTriplet)
]

each_of_all : (parameters : List Triplet) → All IsTriplet parameters → All IsTriplet (flat_map capabilities_in parameters)
each_of_all [] each = All-nil IsTriplet
each_of_all (parameter ∷ parameters) each =
    All-append IsTriplet (capabilities_in parameter) (flat_map capabilities_in parameters) (each_capability_in parameter (All-head IsTriplet parameter parameters each))
    (each_of_all parameters (All-tail IsTriplet parameter parameters each))

pub each_capability : (parameters : List ℕ) → AreOctets parameters → All IsTriplet (capabilities_of parameters)
unfolding capabilities_of
each_capability parameters are = each_of_all (triplets_of parameters) (each_triplet parameters are)

-- ---- the fields of an OPEN

pub my_as_fits : (fields : List ℕ) → AreOctets fields → my_as_of fields < 2 ^ 64
unfolding my_as_of
my_as_fits fields are = let small = number_fits 2 (drop 1 fields) (All-drop IsOctet 1 fields are) in omega (arith, small)

pub hold_fits : (fields : List ℕ) → AreOctets fields → hold_of fields < 2 ^ 64
unfolding hold_of
hold_fits fields are = let small = number_fits 2 (drop 3 fields) (All-drop IsOctet 3 fields are) in omega (arith, small)

id_fits : (fields : List ℕ) → AreOctets fields → id_of fields < 2 ^ 32
unfolding id_of
id_fits fields are = let small = number_fits 4 (drop 5 fields) (All-drop IsOctet 5 fields are) in omega (arith, small)

pub fields_are : (octets : List ℕ) → AreOctets octets → AreOctets (fixed_fields_of octets)
fields_are octets are = All-take IsOctet 10 (body_of octets) (All-drop IsOctet 19 octets are)

pub parameters_are : (octets : List ℕ) → AreOctets octets → AreOctets (parameters_of octets)
parameters_are octets are = All-drop IsOctet 10 (body_of octets) (All-drop IsOctet 19 octets are)

-- the octets of an OPEN of version 4 with these numbers and these octets of parameters
abbrev written_with : ℕ → ℕ → ℕ → List ℕ → List ℕ
written_with my_as hold id parameters = message_octets 1 (fixed_octets my_as hold id (length parameters) ++ parameters)

written : (octets : List ℕ) → AreOctets octets → IsWellFormed octets
    → octets ≡ written_with (open_of octets).my_as (open_of octets).hold (open_of octets).id (parameters_of octets)
written octets are formed =
    readable_is_its_parts octets are formed.readable
    ∙ ap (written_with (open_of octets).my_as (open_of octets).hold (open_of octets).id) formed.readable.parameters.0

-- members of an OPEN behind its place
abbrev pub members_behind : List ℕ → List (List ℕ × Json)
members_behind octets =
    open_members (open_of octets) ++ octets_unless (are_parameters_spelled (open_of octets).capabilities (parameters_of octets)) octets

same_written : (octets others : List ℕ) → AreOctets octets → AreOctets others → IsWellFormed octets → IsWellFormed others
    → members_behind octets ≡ members_behind others → parameters_of octets ≡ parameters_of others → octets ≡ others
same_written octets others are too formed also e parameters =
    let fields = fields_are octets are in
    let fields' = fields_are others too in
    let my_as = same_number_json (my_as_of (fixed_fields_of octets)) (my_as_of (fixed_fields_of others)) (my_as_fits (fixed_fields_of octets) fields) (my_as_fits (fixed_fields_of others) fields') (ap (of_key (codes "as")) e) in
    let hold = same_number_json (hold_of (fixed_fields_of octets)) (hold_of (fixed_fields_of others)) (hold_fits (fixed_fields_of octets) fields) (hold_fits (fixed_fields_of others) fields') (ap (of_key (codes "hold")) e) in
    let id = same_address_4 (id_of (fixed_fields_of octets)) (id_of (fixed_fields_of others)) (id_fits (fixed_fields_of octets) fields) (id_fits (fixed_fields_of others) fields') (ap (of_key (codes "id")) e) in
    let same : written_with (open_of octets).my_as (open_of octets).hold (open_of octets).id (parameters_of octets)
    ≡ written_with (open_of others).my_as (open_of others).hold (open_of others).id (parameters_of others) = rw (my_as, hold, id, parameters) refl in
    written octets are formed ∙ same ∙ sym (written others too also)

pub same_open : (octets others : List ℕ) → AreOctets octets → AreOctets others → IsWellFormed octets → IsWellFormed others
    → members_behind octets ≡ members_behind others → octets ≡ others
same_open octets others are too formed also e =
    let capabilities = lists_equal capability_json capability_json IsTriplet IsTriplet same_capability (open_of octets).capabilities (open_of others).capabilities
    (each_capability (parameters_of octets) (parameters_are octets are)) (each_capability (parameters_of others) (parameters_are others too)) (ap (of_key (codes "capabilities")) e) in
    same_unless (are_parameters_spelled (open_of octets).capabilities (parameters_of octets)) (are_parameters_spelled (open_of others).capabilities (parameters_of others)) octets others are too
    (λ first second. same_written octets others are too formed also e
    (sym ((bytes_eq-Decides (triplets_octets (parameters_with (open_of octets).capabilities)) (parameters_of octets)).0 first)
    ∙ ap (λ (cs : List Triplet). triplets_octets (parameters_with cs)) capabilities
    ∙ (bytes_eq-Decides (triplets_octets (parameters_with (open_of others).capabilities)) (parameters_of others)).0 second))
    (ap (drop 4) e)
