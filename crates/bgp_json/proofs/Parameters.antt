-- Parameters that are as they are written: one with capabilities, or none.
use Rattle.std.proofs.Common.{◌≡◌, ◌∙◌, ◌++◌, ◌<◌, ◌≤◌, ◌-◌, ◌==◌, ℕ, true, false, List, [], ◌∷◌, All, arith, length, slice_index, refl, sym, ap, subst, append-nil, eq-eqb}
use Rattle.std.specs.List.{flat_map}
use Rattle.std.specs.Bool.{one_answer}
use Rattle.std.proofs.lemmas.Slice.Eq.{bytes_eq-Decides}
use Rattle.std.proofs.lemmas.List.{take_all, drop_all}
use Rattle.std.proofs.lemmas.Bool.{eqb-true}
use Rattle.std.proofs.lemmas.List.Elements.{All-head}
use Rattle.bgp_open.specs.Open.{capabilities_in, capabilities_of}
use Rattle.bgp_open.specs.OpenFault.{AreAllCapabilities, AreParameters, HasWholeCapabilities}
use Rattle.bgp_open.specs.Triplet.{Triplet, triplets_octets, triplets_of}
use Rattle.bgp_open.specs.Written.{parameters_with}
use Rattle.bgp_open.proofs.OneReading.{triplets_of-whole, triplets_of_nothing}
use Rattle.bgp_json.specs.MessageJson.{are_parameters_spelled}

-- ---- what the parameter of some capabilities is

written : (capabilities : List Triplet) (value : List ℕ) → triplets_octets capabilities ≡ value → 0 < length value
    → triplets_octets (parameters_with capabilities) ≡ 2 ∷ length value ∷ value
written [] value is some = absurd (omega (arith, ap length is))
written (t ∷ ts) value is some =
    ap (λ (v : List ℕ). 2 ∷ length (triplets_octets (t ∷ ts)) ∷ v) (append-nil (triplets_octets (t ∷ ts)))
    ∙ ap (λ (v : List ℕ). 2 ∷ length v ∷ v) is

counts : (capabilities : List Triplet) (octets : List ℕ) → triplets_octets (parameters_with capabilities) ≡ octets → 0 < length octets
    → (2 < length octets) × (slice_index octets 1 ≡ length octets - 2)
counts [] octets is some = absurd (omega (arith, ap length is))
counts (t ∷ ts) octets is some =
    let whole : triplets_octets (parameters_with (t ∷ ts)) ≡ 2 ∷ length (triplets_octets (t ∷ ts)) ∷ triplets_octets (t ∷ ts) =
    ap (λ (v : List ℕ). 2 ∷ length (triplets_octets (t ∷ ts)) ∷ v) (append-nil (triplets_octets (t ∷ ts)))
    in
    let same : octets ≡ 2 ∷ length (triplets_octets (t ∷ ts)) ∷ triplets_octets (t ∷ ts) = sym is ∙ whole in
    rw same (omega arith, omega arith)

-- one parameter that fills the octets has the capabilities of its value, and is written so
fills : (code : ℕ) (value : List ℕ) → triplets_of (code ∷ length value ∷ value) ≡ record { code = code; value = value } ∷ []
fills code value =
    triplets_of-whole code (length value) value (omega arith)
    ∙ rw (take_all (length value) value (omega arith), drop_all (length value) value (omega arith), triplets_of_nothing) refl

capabilities_in_two : (code : ℕ) (value : List ℕ) → code ≡ 2 → capabilities_in (record { code = code; value = value }) ++ [] ≡ triplets_of value
capabilities_in_two code value two = rw two (append-nil (triplets_of value))

filled : (code : ℕ) (value : List ℕ) → AreParameters (code ∷ length value ∷ value) → AreAllCapabilities (code ∷ length value ∷ value) → 0 < length value
    → triplets_octets (parameters_with (capabilities_of (code ∷ length value ∷ value))) ≡ code ∷ length value ∷ value
unfolding capabilities_of
filled code value whole types some =
    let parameter : Triplet = record { code = code; value = value } in
    let only = fills code value in
    let two : code ≡ 2 = All-head (λ (p : Triplet). p.code ≡ 2) parameter [] (subst (λ (ts : List Triplet). All (λ (p : Triplet). p.code ≡ 2) ts) only types) in
    let inside : HasWholeCapabilities parameter = All-head HasWholeCapabilities parameter [] (subst (λ (ts : List Triplet). All HasWholeCapabilities ts) only whole.1) in
    let said : capabilities_of (code ∷ length value ∷ value) ≡ triplets_of value =
    ap (λ (ts : List Triplet). flat_map capabilities_in ts) only ∙ capabilities_in_two code value two
    in
    ap (λ (ts : List Triplet). triplets_octets (parameters_with ts)) said
    ∙ written (triplets_of value) value (inside two) some
    ∙ ap (λ (c : ℕ). c ∷ length value ∷ value) (sym two)

one_parameter : (octets : List ℕ) → AreParameters octets → AreAllCapabilities octets → 2 < length octets → slice_index octets 1 ≡ length octets - 2
    → triplets_octets (parameters_with (capabilities_of octets)) ≡ octets
one_parameter [] whole types long count = absurd (omega arith)
one_parameter (code ∷ []) whole types long count = absurd (omega arith)
one_parameter (code ∷ count ∷ value) whole types long counted =
    let is : count ≡ length value = omega (arith, counted) in
    subst (λ (n : ℕ). triplets_octets (parameters_with (capabilities_of (code ∷ n ∷ value))) ≡ code ∷ n ∷ value) (sym is)
    (filled code value (subst (λ (n : ℕ). AreParameters (code ∷ n ∷ value)) is whole) (subst (λ (n : ℕ). AreAllCapabilities (code ∷ n ∷ value)) is types) (omega arith))

-- ---- the test

false_true : false ≡ true → ⊥
false_true e = cc

pub no_octets : (octets : List ℕ) → length octets ≡ 0 → true ≡ are_parameters_spelled (capabilities_of octets) octets
unfolding capabilities_of
no_octets [] none = rw triplets_of_nothing refl
no_octets (x ∷ xs) none = absurd (omega arith)

pub few_octets : (octets : List ℕ) → 0 < length octets → length octets ≤ 2 → false ≡ are_parameters_spelled (capabilities_of octets) octets
few_octets octets some few =
    let capabilities = capabilities_of octets in
    one_answer false (are_parameters_spelled capabilities octets) ((λ e. absurd (false_true e)), (λ same. absurd (omega (arith, (counts capabilities octets same some).0))))
    (bytes_eq-Decides (triplets_octets (parameters_with capabilities)) octets)

pub more_octets : (octets : List ℕ) → AreParameters octets → AreAllCapabilities octets → 2 < length octets
    → (slice_index octets 1 == length octets - 2) ≡ are_parameters_spelled (capabilities_of octets) octets
more_octets octets whole types long =
    let capabilities = capabilities_of octets in
    one_answer (slice_index octets 1 == length octets - 2) (are_parameters_spelled capabilities octets)
    ((λ e. one_parameter octets whole types long (eqb-true _ _ e)), (λ same. eq-eqb _ _ (counts capabilities octets same (omega arith)).1))
    (bytes_eq-Decides (triplets_octets (parameters_with capabilities)) octets)
