-- A readable OPEN is its header, its fixed fields and its parameters, one after another.
use Rattle.std.proofs.Common.{◌≡◌, ◌∙◌, ℕ, List, [], ◌∷◌, ◌++◌, length, drop, slice_index, refl, sym, ap, ap₂, arith}
use Rattle.std.specs.List.{flat_map}
use Rattle.std.proofs.lemmas.List.{take-append-drop, drop-drop, length-take-le, length-drop, drop_all}
use Rattle.std.proofs.lemmas.List.Elements.{All-take, All-drop}
use Rattle.std.proofs.Math.Seq.{drop-cons}
use Rattle.byteorder.specs.Endian.{big_bytes}
use Rattle.bgp_wire.specs.Message.{body_of, message_octets}
use Rattle.bgp_wire.specs.Octets.{AreOctets}
use Rattle.bgp_wire.proofs.EachOctet.{IsOctet}
use Rattle.bgp_wire.proofs.HeaderAndBody.{two_octets, four_octets, message_is_header_and_body}
use Rattle.bgp_open.specs.Triplet.{triplets_octets, triplets_of}
use Rattle.bgp_open.specs.Open.{capabilities_in, capabilities_of, fixed_fields_of, parameters_of, open_of, version_of, my_as_of, hold_of, id_of, parameters_length_of}
use Rattle.bgp_open.specs.OpenFault.{IsReadable}
use Rattle.bgp_open.specs.Written.{fixed_octets, open_with}

-- the fixed fields, field by field
fixed_is : (fields : List ℕ) → length fields ≡ 10 → AreOctets fields → version_of fields ≡ 4
    → fields ≡ fixed_octets (my_as_of fields) (hold_of fields) (id_of fields) (parameters_length_of fields)
unfolding fixed_octets version_of my_as_of hold_of id_of parameters_length_of
fixed_is fields long are version =
    let my_as = two_octets (drop 1 fields) (omega (arith, length-drop 1 fields)) (All-drop IsOctet 1 fields are) ∙ ap (λ (back : List ℕ). big_bytes 2 (my_as_of fields) ++ back) (drop-drop 2 1 fields) in
    let hold = two_octets (drop 3 fields) (omega (arith, length-drop 3 fields)) (All-drop IsOctet 3 fields are) ∙ ap (λ (back : List ℕ). big_bytes 2 (hold_of fields) ++ back) (drop-drop 2 3 fields) in
    let id = four_octets (drop 5 fields) (omega (arith, length-drop 5 fields)) (All-drop IsOctet 5 fields are) ∙ ap (λ (back : List ℕ). big_bytes 4 (id_of fields) ++ back) (drop-drop 4 5 fields) in
    let last : drop 9 fields ≡ slice_index fields 9 ∷ drop 10 fields = drop-cons fields 9 0 (omega arith) in
    let none : drop 10 fields ≡ [] = drop_all 10 fields (omega arith) in
    let first : fields ≡ slice_index fields 0 ∷ drop 1 fields = drop-cons fields 0 0 (omega arith) in
    first
    ∙ ap₂ ◌∷◌ version (my_as
    ∙ ap (λ (back : List ℕ). big_bytes 2 (my_as_of fields) ++ back) (hold
    ∙ ap (λ (back : List ℕ). big_bytes 2 (hold_of fields) ++ back) (id
    ∙ ap (λ (back : List ℕ). big_bytes 4 (id_of fields) ++ back) (last
    ∙ ap (λ (back : List ℕ). slice_index fields 9 ∷ back) none))))

pub readable_is_its_parts : (octets : List ℕ) → AreOctets octets → IsReadable octets
    → octets ≡ open_with (open_of octets).my_as (open_of octets).hold (open_of octets).id (triplets_of (parameters_of octets))
readable_is_its_parts octets are readable =
    let body = body_of octets in
    let are_body : AreOctets (body_of octets) = All-drop IsOctet 19 octets are in
    let long : length (fixed_fields_of octets) ≡ 10 = length-take-le 10 (body_of octets) readable.whole.fields in
    let fixed = fixed_is (fixed_fields_of octets) long (All-take IsOctet 10 (body_of octets) are_body) readable.version in
    let parameters : triplets_octets (triplets_of (parameters_of octets)) ≡ parameters_of octets = readable.parameters.0 in
    let count : parameters_length_of (fixed_fields_of octets) ≡ length (triplets_octets (triplets_of (parameters_of octets))) =
    readable.count ∙ ap length (sym parameters) in
    message_is_header_and_body 1 octets are readable.whole.message
    ∙ ap (message_octets 1)
    (sym (take-append-drop 10 (body_of octets))
    ∙ ap₂ ◌++◌ (fixed ∙ ap (fixed_octets (open_of octets).my_as (open_of octets).hold (open_of octets).id) count) (sym parameters))

-- its capabilities are those of all its parameters, joined
pub capabilities_are_joined : (octets : List ℕ)
    → (open_of octets).capabilities ≡ flat_map capabilities_in (triplets_of (parameters_of octets))
unfolding capabilities_of
capabilities_are_joined octets = refl
