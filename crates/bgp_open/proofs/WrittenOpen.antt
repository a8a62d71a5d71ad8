-- An OPEN that is written is well-formed, has one parameter at most, and says what was to be said.
use Rattle.std.proofs.Common.{◌≡◌, ◌∙◌, ℕ, ◌+◌, ◌<◌, ◌≤◌, ◌^◌, List, [], ◌∷◌, ◌++◌, length, drop, refl, sym, ap, arith, append_assoc, append-nil, length-append, inl, inr}
use Rattle.std.specs.Prelude.{All}
use Rattle.std.specs.List.{flat_map}
use Rattle.std.proofs.lemmas.Bool.{cases_lt}
use Rattle.std.proofs.lemmas.List.Elements.{All-nil, All-cons, All-same}
use Rattle.byteorder.specs.Endian.{big_bytes}
use Rattle.byteorder.specs.Numbers.{big_number-reads_back}
use Rattle.bgp_wire.specs.Header.{header_octets}
use Rattle.bgp_wire.specs.Message.{body_of, message_octets}
use Rattle.bgp_open.specs.Triplet.{Triplet, triplets_octets, triplets_of}
use Rattle.bgp_open.specs.Open.{OpenFields, IsOpen, open_of, fixed_fields_of, parameters_of, capabilities_in, capabilities_of, version_of, my_as_of, hold_of, id_of, parameters_length_of}
use Rattle.bgp_open.specs.OpenFault.{HasWholeCapabilities, IsReadable, IsWellFormed}
use Rattle.bgp_open.specs.Written.{fixed_octets, parameters_with, open_octets, FitsOpen}
use Rattle.bgp_open.proofs.OneReading.{reads_back, is_whole-triplet_octets}
use Rattle.bgp_wire.proofs.WrittenMessage.{appended, written_message, body_of-message_octets, length-message_octets}

length-fixed_octets : (my_as hold id count : ℕ) → length (fixed_octets my_as hold id count) ≡ 10
unfolding fixed_octets
length-fixed_octets my_as hold id count = refl

-- what stands where
body-open_octets : (fields : OpenFields) → let ps = triplets_octets (parameters_with fields.capabilities) in
    body_of (open_octets fields) ≡ fixed_octets fields.my_as fields.hold fields.id (length ps) ++ ps
body-open_octets fields = body_of-message_octets 1 _

pub fixed-open_octets : (fields : OpenFields)
    → fixed_fields_of (open_octets fields) ≡ fixed_octets fields.my_as fields.hold fields.id (length (triplets_octets (parameters_with fields.capabilities)))
unfolding fixed_octets
fixed-open_octets fields = rw (body-open_octets fields) refl

pub parameters-open_octets : (fields : OpenFields) → parameters_of (open_octets fields) ≡ triplets_octets (parameters_with fields.capabilities)
unfolding fixed_octets
parameters-open_octets fields = rw (body-open_octets fields) refl

-- the parameters, one or none
all_capabilities : (capabilities : List Triplet) → All (λ (parameter : Triplet). parameter.code ≡ 2) (parameters_with capabilities)
all_capabilities [] = All-nil (λ (parameter : Triplet). parameter.code ≡ 2)
all_capabilities (capability ∷ capabilities) = All-cons (λ (parameter : Triplet). parameter.code ≡ 2) _ [] refl (All-nil _)

all_whole : (capabilities : List Triplet) → All HasWholeCapabilities (parameters_with capabilities)
all_whole [] = All-nil HasWholeCapabilities
all_whole (capability ∷ capabilities) =
    All-cons HasWholeCapabilities _ [] (λ is. (is_whole-triplet_octets (triplets_octets (capability ∷ capabilities))).1 (capability ∷ capabilities, refl)) (All-nil HasWholeCapabilities)

same_capabilities : (capabilities : List Triplet) → flat_map capabilities_in (parameters_with capabilities) ≡ capabilities
same_capabilities [] = refl
same_capabilities (capability ∷ capabilities) = append-nil (triplets_of (triplets_octets (capability ∷ capabilities))) ∙ reads_back (capability ∷ capabilities)

pub one_parameter : (fields : OpenFields) → triplets_of (parameters_of (open_octets fields)) ≡ parameters_with fields.capabilities
one_parameter fields = rw (parameters-open_octets fields) (reads_back (parameters_with fields.capabilities))

-- what the fixed fields read as
version-written : (fields : OpenFields) (count : ℕ) → version_of (fixed_octets fields.my_as fields.hold fields.id count) ≡ 4
unfolding fixed_octets version_of
version-written fields count = refl

my_as-written : (fields : OpenFields) (count : ℕ) → fields.my_as < 2 ^ 16 → my_as_of (fixed_octets fields.my_as fields.hold fields.id count) ≡ fields.my_as
unfolding fixed_octets my_as_of
my_as-written fields count fits =
    big_number-reads_back 2 fields.my_as (big_bytes 2 fields.hold ++ (big_bytes 4 fields.id ++ count ∷ [])) fits

hold-written : (fields : OpenFields) (count : ℕ) → fields.hold < 2 ^ 16 → hold_of (fixed_octets fields.my_as fields.hold fields.id count) ≡ fields.hold
unfolding fixed_octets hold_of
hold-written fields count fits = big_number-reads_back 2 fields.hold (big_bytes 4 fields.id ++ count ∷ []) fits

id-written : (fields : OpenFields) (count : ℕ) → fields.id < 2 ^ 32 → id_of (fixed_octets fields.my_as fields.hold fields.id count) ≡ fields.id
unfolding fixed_octets id_of
id-written fields count fits = big_number-reads_back 4 fields.id (count ∷ []) fits

count-written : (fields : OpenFields) (count : ℕ) → parameters_length_of (fixed_octets fields.my_as fields.hold fields.id count) ≡ count
unfolding fixed_octets parameters_length_of
count-written fields count = refl

-- the whole message
length-body : (fields : OpenFields) → let ps = triplets_octets (parameters_with fields.capabilities) in
    length (fixed_octets fields.my_as fields.hold fields.id (length ps) ++ ps) ≡ 10 + length ps
length-body fields =
    length-append (fixed_octets fields.my_as fields.hold fields.id (length (triplets_octets (parameters_with fields.capabilities)))) (triplets_octets (parameters_with fields.capabilities))
    ∙ ap (λ (n : ℕ). n + length (triplets_octets (parameters_with fields.capabilities))) (length-fixed_octets fields.my_as fields.hold fields.id (length (triplets_octets (parameters_with fields.capabilities))))

pub room : (fields : OpenFields) → FitsOpen fields → length (triplets_octets (parameters_with fields.capabilities)) ≤ 255
room fields fits = elim (cases_lt 255 (length (triplets_octets (parameters_with fields.capabilities)))) [
  | inl many ↦ absurd (fits.capabilities many)
  | inr few ↦ few
]

is_open : (fields : OpenFields) → FitsOpen fields → IsOpen (open_octets fields)
is_open fields fits =
    let few = room fields fits in
    let count = length-body fields in record {
      message = written_message 1 _ (rw count (omega arith));
      fields = rw (body-open_octets fields, count) (omega arith);
    }

readable : (fields : OpenFields) → FitsOpen fields → IsReadable (open_octets fields)
readable fields fits = record {
  whole = is_open fields fits;
  version = ap version_of (fixed-open_octets fields) ∙ version-written fields _;
  count =
      ap parameters_length_of (fixed-open_octets fields)
      ∙ count-written fields _ ∙ sym (ap length (parameters-open_octets fields));
  parameters = (
    rw (parameters-open_octets fields) ((is_whole-triplet_octets (triplets_octets (parameters_with fields.capabilities))).1 (parameters_with fields.capabilities, refl)),
    All-same HasWholeCapabilities _ _ (one_parameter fields) (all_whole fields.capabilities),
  );
}

pub written_open : (fields : OpenFields) → FitsOpen fields → IsWellFormed (open_octets fields)
written_open fields fits = record {
  readable = readable fields fits;
  types = All-same (λ (parameter : Triplet). parameter.code ≡ 2) _ _ (one_parameter fields) (all_capabilities fields.capabilities);
}

capabilities-written : (fields : OpenFields) → capabilities_of (parameters_of (open_octets fields)) ≡ fields.capabilities
unfolding capabilities_of
capabilities-written fields =
    ap (λ (ts : List Triplet). flat_map capabilities_in ts) (one_parameter fields) ∙ same_capabilities fields.capabilities

-- fields that are equal one by one are equal
same_fields : (m n : OpenFields) → m.my_as ≡ n.my_as → m.hold ≡ n.hold → m.id ≡ n.id → m.capabilities ≡ n.capabilities → m ≡ n
same_fields m n my_as hold id capabilities =
    ap (λ (x : ℕ). let f : OpenFields = record { my_as = x; hold = m.hold; id = m.id; capabilities = m.capabilities } in f) my_as
    ∙ ap (λ (x : ℕ). let f : OpenFields = record { my_as = n.my_as; hold = x; id = m.id; capabilities = m.capabilities } in f) hold
    ∙ ap (λ (x : ℕ). let f : OpenFields = record { my_as = n.my_as; hold = n.hold; id = x; capabilities = m.capabilities } in f) id
    ∙ ap (λ (x : List Triplet). let f : OpenFields = record { my_as = n.my_as; hold = n.hold; id = n.id; capabilities = x } in f) capabilities

pub reads_as : (fields : OpenFields) → FitsOpen fields → open_of (open_octets fields) ≡ fields
reads_as fields fits =
    same_fields (open_of (open_octets fields)) fields
    (ap my_as_of (fixed-open_octets fields) ∙ my_as-written fields _ fits.my_as)
    (ap hold_of (fixed-open_octets fields) ∙ hold-written fields _ fits.hold)
    (ap id_of (fixed-open_octets fields) ∙ id-written fields _ fits.id)
    (capabilities-written fields)

-- how long it is, and how it is appended
pub length-open_octets : (fields : OpenFields) → length (open_octets fields) ≡ 29 + length (triplets_octets (parameters_with fields.capabilities))
length-open_octets fields =
    let whole = length-message_octets 1 (fixed_octets fields.my_as fields.hold fields.id (length (triplets_octets (parameters_with fields.capabilities))) ++ triplets_octets (parameters_with fields.capabilities)) in
    let body = length-body fields in omega arith

pub appended_open : (old : List ℕ) (fields : OpenFields) (count total : ℕ) → count ≡ length (triplets_octets (parameters_with fields.capabilities))
    → total ≡ 29 + count
    → ((old ++ header_octets 1 total) ++ fixed_octets fields.my_as fields.hold fields.id count) ++ triplets_octets (parameters_with fields.capabilities)
    ≡ old ++ open_octets fields
unfolding message_octets
appended_open old fields count total few is =
    let body = length-body fields in
    let same : total ≡ 19 + length (fixed_octets fields.my_as fields.hold fields.id (length (triplets_octets (parameters_with fields.capabilities))) ++ triplets_octets (parameters_with fields.capabilities)) = omega arith in
    rw (same, few) (simp append_assoc)

-- what was appended reads as what was to be said
pub appended_whole : (old new : List ℕ) (fields : OpenFields) → FitsOpen fields → new ≡ old ++ open_octets fields
    → IsWellFormed (drop (length old) new)
appended_whole old new fields fits is = rw (appended old new _ is) (written_open fields fits)

pub appended_reads_as : (old new : List ℕ) (fields : OpenFields) → FitsOpen fields → new ≡ old ++ open_octets fields
    → open_of (drop (length old) new) ≡ fields
appended_reads_as old new fields fits is = ap (λ (os : List ℕ). open_of os) (appended old new _ is) ∙ reads_as fields fits

pub appended_one_parameter : (old new : List ℕ) (fields : OpenFields) → new ≡ old ++ open_octets fields
    → triplets_of (parameters_of (drop (length old) new)) ≡ parameters_with fields.capabilities
appended_one_parameter old new fields is =
    ap (λ (os : List ℕ). triplets_of (parameters_of os)) (appended old new _ is) ∙ one_parameter fields
