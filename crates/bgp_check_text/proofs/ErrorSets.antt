-- Sets of errors, read back from the lists of their errors.
use Rattle.std.proofs.Common.{◌≡◌, ◌∙◌, ◌<◌, ◌^◌, ◌==◌, ◌&&◌, ◌||◌, ℕ, Bool, true, false, List, [], ◌∷◌, Option, Some, None, IfSome, refl, sym, ap, map, option_map, lit<, codes, ◌++◌}
use Rattle.std.specs.Bool.{then_some}
use Rattle.std.specs.List.{AllByRecursion, list_any}
use Rattle.bgp_wire.specs.declared.header.HeaderFaults.{HeaderFaults}
use Rattle.bgp_open.specs.declared.subcodes.OpenSubcodes.{OpenSubcodes}
use Rattle.bgp_update.specs.declared.subcodes.Subcodes.{Subcodes}
use Rattle.bgp_reason.specs.declared.kinds.FsmErrors.{FsmErrors}
use Rattle.bgp_why.specs.Errors as theirs
use Rattle.bgp_check_text.proofs.ErrorTexts.{ErrorCode, Field, FixedData, Free, IsKnown, Octet, error_text, errors_text, form_by, more_errors, or}

abbrev pub error_of : ℕ → ℕ → ErrorCode
error_of code subcode = record { code = code; subcode = subcode; fixed = Free }

abbrev version_error : ErrorCode
version_error = record { code = 2; subcode = 1; fixed = Field 4 }

abbrev pub errors_in : List (Option ErrorCode) → List ErrorCode
errors_in [] = []
errors_in (None ∷ errors) = errors_in errors
errors_in (Some error ∷ errors) = error ∷ errors_in errors

-- ---- which subcodes are in a list

abbrev pub has : ℕ → List ErrorCode → Bool
has k xs = list_any (λ (e : ErrorCode). e.subcode == k) xs

-- an error, and whether it is in the set
abbrev Row : Type 0
Row = Bool × ErrorCode

abbrev opts : List Row → List (Option ErrorCode)
opts rows = map (λ (r : Row). then_some r.0 r.1) rows

abbrev in_rows : ℕ → List Row → Bool
in_rows k [] = false
in_rows k (r ∷ rows) = ((r.1.subcode == k) && r.0) || in_rows k rows

or_false : (b : Bool) → (b || false) ≡ b
or_false true = refl
or_false false = refl

and_true : (b : Bool) → b ≡ (b && true)
and_true true = refl
and_true false = refl

and_false : (b : Bool) → false ≡ (b && false)
and_false true = refl
and_false false = refl

step : (k : ℕ) (b : Bool) (e : ErrorCode) (rest : List (Option ErrorCode)) → has k (errors_in (then_some b e ∷ rest)) ≡ (((e.subcode == k) && b) || has k (errors_in rest))
step k true e rest = ap (λ (c : Bool). c || has k (errors_in rest)) (and_true (e.subcode == k))
step k false e rest = ap (λ (c : Bool). c || has k (errors_in rest)) (and_false (e.subcode == k))

has_rows : (k : ℕ) (rows : List Row) → has k (errors_in (opts rows)) ≡ in_rows k rows
has_rows k [] = refl
has_rows k (r ∷ rows) = step k r.0 r.1 (opts rows) ∙ ap (λ (c : Bool). ((r.1.subcode == k) && r.0) || c) (has_rows k rows)

-- ---- each of them is known

known_step : (b : Bool) (e : ErrorCode) (rest : List (Option ErrorCode)) → IsKnown e → AllByRecursion IsKnown (errors_in rest)
    → AllByRecursion IsKnown (errors_in (then_some b e ∷ rest))
known_step true e rest known all = (known, all)
known_step false e rest known all = all

known_rows : (rows : List Row) → AllByRecursion (λ (r : Row). IsKnown r.1) rows → AllByRecursion IsKnown (errors_in (opts rows))
known_rows [] all = tt
known_rows (r ∷ rows) all = known_step r.0 r.1 (opts rows) all.0 (known_rows rows all.1)

pub known_error : (code subcode : ℕ) → code < 2 ^ 64 → subcode < 2 ^ 64 → 0 ≡ form_by code subcode → IsKnown (error_of code subcode)
known_error code subcode sc ss form = record { code = sc; subcode = ss; form = form; fits = tt }

known_version : IsKnown version_error
known_version = record { code = lit< tt; subcode = lit< tt; form = refl; fits = lit< tt }

-- ---- OPEN Message Error

abbrev open_rows : OpenSubcodes → List Row
open_rows s =
    (s.unspecific, error_of 2 0) ∷
    (s.version, version_error) ∷
    (s.peer_as, error_of 2 2) ∷
    (s.identifier, error_of 2 3) ∷
    (s.parameter, error_of 2 4) ∷
    (s.hold, error_of 2 6) ∷
    (s.capability, error_of 2 7) ∷
    (s.role, error_of 2 11) ∷ []

abbrev pub open_list : OpenSubcodes → List ErrorCode
open_list s = errors_in (opts (open_rows s))

abbrev pub open_from : List ErrorCode → OpenSubcodes
open_from xs = record {
  unspecific = has 0 xs;
  version = has 1 xs;
  peer_as = has 2 xs;
  identifier = has 3 xs;
  parameter = has 4 xs;
  hold = has 6 xs;
  capability = has 7 xs;
  role = has 11 xs;
}

abbrev open_made : Bool → Bool → Bool → Bool → Bool → Bool → Bool → Bool → OpenSubcodes
open_made a b c d e f g h = record { unspecific = a; version = b; peer_as = c; identifier = d; parameter = e; hold = f; capability = g; role = h }

open_by : (a b c d e f g h : Bool) (s : OpenSubcodes) → a ≡ s.unspecific → b ≡ s.version → c ≡ s.peer_as → d ≡ s.identifier → e ≡ s.parameter → f ≡ s.hold → g ≡ s.capability → h ≡ s.role
    → open_made a b c d e f g h ≡ s
open_by a b c d e f g h s ha hb hc hd he hf hg hh =
    ap (λ (z : Bool). open_made z b c d e f g h) ha
    ∙ ap (λ (z : Bool). open_made s.unspecific z c d e f g h) hb
    ∙ ap (λ (z : Bool). open_made s.unspecific s.version z d e f g h) hc
    ∙ ap (λ (z : Bool). open_made s.unspecific s.version s.peer_as z e f g h) hd
    ∙ ap (λ (z : Bool). open_made s.unspecific s.version s.peer_as s.identifier z f g h) he
    ∙ ap (λ (z : Bool). open_made s.unspecific s.version s.peer_as s.identifier s.parameter z g h) hf
    ∙ ap (λ (z : Bool). open_made s.unspecific s.version s.peer_as s.identifier s.parameter s.hold z h) hg
    ∙ ap (λ (z : Bool). open_made s.unspecific s.version s.peer_as s.identifier s.parameter s.hold s.capability z) hh

pub open_back : (s : OpenSubcodes) → open_from (open_list s) ≡ s
open_back s =
    let xs = open_list s in
    open_by (has 0 xs) (has 1 xs) (has 2 xs) (has 3 xs) (has 4 xs) (has 6 xs) (has 7 xs) (has 11 xs) s
    (has_rows 0 (open_rows s) ∙ or_false s.unspecific)
    (has_rows 1 (open_rows s) ∙ or_false s.version)
    (has_rows 2 (open_rows s) ∙ or_false s.peer_as)
    (has_rows 3 (open_rows s) ∙ or_false s.identifier)
    (has_rows 4 (open_rows s) ∙ or_false s.parameter)
    (has_rows 6 (open_rows s) ∙ or_false s.hold)
    (has_rows 7 (open_rows s) ∙ or_false s.capability)
    (has_rows 11 (open_rows s) ∙ or_false s.role)

pub open_known : (s : OpenSubcodes) → AllByRecursion IsKnown (open_list s)
open_known s = known_rows (open_rows s) (known_error 2 0 (lit< tt) (lit< tt) refl, (known_version, (known_error 2 2 (lit< tt) (lit< tt) refl, (known_error 2 3 (lit< tt) (lit< tt) refl, (known_error 2 4 (lit< tt) (lit< tt) refl, (known_error 2 6 (lit< tt) (lit< tt) refl, (known_error 2 7 (lit< tt) (lit< tt) refl, (known_error 2 11 (lit< tt) (lit< tt) refl, tt))))))))

-- ---- UPDATE Message Error

abbrev update_rows : Subcodes → List Row
update_rows s =
    (s.malformed_attribute_list, error_of 3 1) ∷
    (s.unrecognized_well_known, error_of 3 2) ∷
    (s.missing_well_known, error_of 3 3) ∷
    (s.attribute_flags, error_of 3 4) ∷
    (s.attribute_length, error_of 3 5) ∷
    (s.invalid_origin, error_of 3 6) ∷
    (s.as_routing_loop, error_of 3 7) ∷
    (s.invalid_next_hop, error_of 3 8) ∷
    (s.optional_attribute, error_of 3 9) ∷
    (s.invalid_network_field, error_of 3 10) ∷
    (s.malformed_as_path, error_of 3 11) ∷ []

abbrev pub update_list : Subcodes → List ErrorCode
update_list s = errors_in (opts (update_rows s))

abbrev pub update_from : List ErrorCode → Subcodes
update_from xs = record {
  malformed_attribute_list = has 1 xs;
  unrecognized_well_known = has 2 xs;
  missing_well_known = has 3 xs;
  attribute_flags = has 4 xs;
  attribute_length = has 5 xs;
  invalid_origin = has 6 xs;
  as_routing_loop = has 7 xs;
  invalid_next_hop = has 8 xs;
  optional_attribute = has 9 xs;
  invalid_network_field = has 10 xs;
  malformed_as_path = has 11 xs;
}

abbrev pub update_made : Bool → Bool → Bool → Bool → Bool → Bool → Bool → Bool → Bool → Bool → Bool → Subcodes
update_made a b c d e f g h i j k = record { malformed_attribute_list = a; unrecognized_well_known = b; missing_well_known = c; attribute_flags = d; attribute_length = e; invalid_origin = f; as_routing_loop = g; invalid_next_hop = h; optional_attribute = i; invalid_network_field = j; malformed_as_path = k }

update_by : (a b c d e f g h i j k : Bool) (s : Subcodes) → a ≡ s.malformed_attribute_list → b ≡ s.unrecognized_well_known → c ≡ s.missing_well_known → d ≡ s.attribute_flags → e ≡ s.attribute_length → f ≡ s.invalid_origin → g ≡ s.as_routing_loop → h ≡ s.invalid_next_hop → i ≡ s.optional_attribute → j ≡ s.invalid_network_field → k ≡ s.malformed_as_path
    → update_made a b c d e f g h i j k ≡ s
update_by a b c d e f g h i j k s ha hb hc hd he hf hg hh hi hj hk =
    ap (λ (z : Bool). update_made z b c d e f g h i j k) ha
    ∙ ap (λ (z : Bool). update_made s.malformed_attribute_list z c d e f g h i j k) hb
    ∙ ap (λ (z : Bool). update_made s.malformed_attribute_list s.unrecognized_well_known z d e f g h i j k) hc
    ∙ ap (λ (z : Bool). update_made s.malformed_attribute_list s.unrecognized_well_known s.missing_well_known z e f g h i j k) hd
    ∙ ap (λ (z : Bool). update_made s.malformed_attribute_list s.unrecognized_well_known s.missing_well_known s.attribute_flags z f g h i j k) he
    ∙ ap (λ (z : Bool). update_made s.malformed_attribute_list s.unrecognized_well_known s.missing_well_known s.attribute_flags s.attribute_length z g h i j k) hf
    ∙ ap (λ (z : Bool). update_made s.malformed_attribute_list s.unrecognized_well_known s.missing_well_known s.attribute_flags s.attribute_length s.invalid_origin z h i j k) hg
    ∙ ap (λ (z : Bool). update_made s.malformed_attribute_list s.unrecognized_well_known s.missing_well_known s.attribute_flags s.attribute_length s.invalid_origin s.as_routing_loop z i j k) hh
    ∙ ap (λ (z : Bool). update_made s.malformed_attribute_list s.unrecognized_well_known s.missing_well_known s.attribute_flags s.attribute_length s.invalid_origin s.as_routing_loop s.invalid_next_hop z j k) hi
    ∙ ap (λ (z : Bool). update_made s.malformed_attribute_list s.unrecognized_well_known s.missing_well_known s.attribute_flags s.attribute_length s.invalid_origin s.as_routing_loop s.invalid_next_hop s.optional_attribute z k) hj
    ∙ ap (λ (z : Bool). update_made s.malformed_attribute_list s.unrecognized_well_known s.missing_well_known s.attribute_flags s.attribute_length s.invalid_origin s.as_routing_loop s.invalid_next_hop s.optional_attribute s.invalid_network_field z) hk

pub update_back : (s : Subcodes) → update_from (update_list s) ≡ s
update_back s =
    let xs = update_list s in
    update_by (has 1 xs) (has 2 xs) (has 3 xs) (has 4 xs) (has 5 xs) (has 6 xs) (has 7 xs) (has 8 xs) (has 9 xs) (has 10 xs) (has 11 xs) s
    (has_rows 1 (update_rows s) ∙ or_false s.malformed_attribute_list)
    (has_rows 2 (update_rows s) ∙ or_false s.unrecognized_well_known)
    (has_rows 3 (update_rows s) ∙ or_false s.missing_well_known)
    (has_rows 4 (update_rows s) ∙ or_false s.attribute_flags)
    (has_rows 5 (update_rows s) ∙ or_false s.attribute_length)
    (has_rows 6 (update_rows s) ∙ or_false s.invalid_origin)
    (has_rows 7 (update_rows s) ∙ or_false s.as_routing_loop)
    (has_rows 8 (update_rows s) ∙ or_false s.invalid_next_hop)
    (has_rows 9 (update_rows s) ∙ or_false s.optional_attribute)
    (has_rows 10 (update_rows s) ∙ or_false s.invalid_network_field)
    (has_rows 11 (update_rows s) ∙ or_false s.malformed_as_path)

pub update_known : (s : Subcodes) → AllByRecursion IsKnown (update_list s)
update_known s = known_rows (update_rows s) (known_error 3 1 (lit< tt) (lit< tt) refl, (known_error 3 2 (lit< tt) (lit< tt) refl, (known_error 3 3 (lit< tt) (lit< tt) refl, (known_error 3 4 (lit< tt) (lit< tt) refl, (known_error 3 5 (lit< tt) (lit< tt) refl, (known_error 3 6 (lit< tt) (lit< tt) refl, (known_error 3 7 (lit< tt) (lit< tt) refl, (known_error 3 8 (lit< tt) (lit< tt) refl, (known_error 3 9 (lit< tt) (lit< tt) refl, (known_error 3 10 (lit< tt) (lit< tt) refl, (known_error 3 11 (lit< tt) (lit< tt) refl, tt)))))))))))

-- ---- Finite State Machine Error

abbrev fsm_rows : FsmErrors → List Row
fsm_rows s =
    (s.unspecified, error_of 5 0) ∷
    (s.open_sent, error_of 5 1) ∷
    (s.open_confirm, error_of 5 2) ∷
    (s.established, error_of 5 3) ∷ []

abbrev pub fsm_list : FsmErrors → List ErrorCode
fsm_list s = errors_in (opts (fsm_rows s))

abbrev pub fsm_from : List ErrorCode → FsmErrors
fsm_from xs = record {
  unspecified = has 0 xs;
  open_sent = has 1 xs;
  open_confirm = has 2 xs;
  established = has 3 xs;
}

abbrev fsm_made : Bool → Bool → Bool → Bool → FsmErrors
fsm_made a b c d = record { unspecified = a; open_sent = b; open_confirm = c; established = d }

fsm_by : (a b c d : Bool) (s : FsmErrors) → a ≡ s.unspecified → b ≡ s.open_sent → c ≡ s.open_confirm → d ≡ s.established
    → fsm_made a b c d ≡ s
fsm_by a b c d s ha hb hc hd =
    ap (λ (z : Bool). fsm_made z b c d) ha
    ∙ ap (λ (z : Bool). fsm_made s.unspecified z c d) hb
    ∙ ap (λ (z : Bool). fsm_made s.unspecified s.open_sent z d) hc
    ∙ ap (λ (z : Bool). fsm_made s.unspecified s.open_sent s.open_confirm z) hd

pub fsm_back : (s : FsmErrors) → fsm_from (fsm_list s) ≡ s
fsm_back s =
    let xs = fsm_list s in
    fsm_by (has 0 xs) (has 1 xs) (has 2 xs) (has 3 xs) s
    (has_rows 0 (fsm_rows s) ∙ or_false s.unspecified)
    (has_rows 1 (fsm_rows s) ∙ or_false s.open_sent)
    (has_rows 2 (fsm_rows s) ∙ or_false s.open_confirm)
    (has_rows 3 (fsm_rows s) ∙ or_false s.established)

pub fsm_known : (s : FsmErrors) → AllByRecursion IsKnown (fsm_list s)
fsm_known s = known_rows (fsm_rows s) (known_error 5 0 (lit< tt) (lit< tt) refl, (known_error 5 1 (lit< tt) (lit< tt) refl, (known_error 5 2 (lit< tt) (lit< tt) refl, (known_error 5 3 (lit< tt) (lit< tt) refl, tt))))

-- ---- Message Header Error

abbrev field_or : FixedData → Option ℕ → Option ℕ
field_or Free other = other
field_or (Octet octet) other = other
field_or (Field field) other = Some field

abbrev length_in : List ErrorCode → Option ℕ
length_in [] = None
length_in (e ∷ xs) = field_or e.fixed (length_in xs)

abbrev octet_or : FixedData → Option ℕ → Option ℕ
octet_or Free other = other
octet_or (Octet octet) other = Some octet
octet_or (Field field) other = other

abbrev kind_in : List ErrorCode → Option ℕ
kind_in [] = None
kind_in (e ∷ xs) = octet_or e.fixed (kind_in xs)

abbrev pub header_from : List ErrorCode → HeaderFaults
header_from xs = record { marker = has 1 xs; length = length_in xs; kind = kind_in xs }

abbrev header_opts : Bool → Option ℕ → Option ℕ → List (Option ErrorCode)
header_opts marker field kind =
    then_some marker (error_of 1 1) ∷ option_map (λ n. record { code = 1; subcode = 2; fixed = Field n }) field
    ∷ option_map (λ n. record { code = 1; subcode = 3; fixed = Octet n }) kind ∷ []

abbrev pub header_list : HeaderFaults → List ErrorCode
header_list s = errors_in (header_opts s.marker s.length s.kind)

header_by : (marker : Bool) (field kind : Option ℕ) → header_from (errors_in (header_opts marker field kind)) ≡ record { marker = marker; length = field; kind = kind }
header_by true None None = refl
header_by true None (Some k) = refl
header_by true (Some f) None = refl
header_by true (Some f) (Some k) = refl
header_by false None None = refl
header_by false None (Some k) = refl
header_by false (Some f) None = refl
header_by false (Some f) (Some k) = refl

pub header_back : (s : HeaderFaults) → header_from (header_list s) ≡ s
header_back s = header_by s.marker s.length s.kind

known_marker : IsKnown (error_of 1 1)
known_marker = known_error 1 1 (lit< tt) (lit< tt) refl

known_field : (f : ℕ) → f < 65536 → IsKnown (record { code = 1; subcode = 2; fixed = Field f })
known_field f few = record { code = lit< tt; subcode = lit< tt; form = refl; fits = few }

known_octet : (k : ℕ) → k < 256 → IsKnown (record { code = 1; subcode = 3; fixed = Octet k })
known_octet k few = record { code = lit< tt; subcode = lit< tt; form = refl; fits = few }

known_by : (marker : Bool) (field kind : Option ℕ) → IfSome field (λ n. n < 2 ^ 16) → IfSome kind (λ n. n < 2 ^ 8)
    → AllByRecursion IsKnown (errors_in (header_opts marker field kind))
known_by true None None f k = (known_marker, tt)
known_by true None (Some y) f k = (known_marker, (known_octet y k, tt))
known_by true (Some x) None f k = (known_marker, (known_field x f, tt))
known_by true (Some x) (Some y) f k = (known_marker, (known_field x f, (known_octet y k, tt)))
known_by false None None f k = tt
known_by false None (Some y) f k = (known_octet y k, tt)
known_by false (Some x) None f k = (known_field x f, tt)
known_by false (Some x) (Some y) f k = (known_field x f, (known_octet y k, tt))

pub header_known : (s : HeaderFaults) → IfSome s.length (λ n. n < 2 ^ 16) → IfSome s.kind (λ n. n < 2 ^ 8) → AllByRecursion IsKnown (header_list s)
header_known s f k = known_by s.marker s.length s.kind f k

-- ---- they have the texts of bgp_why

abbrev type_of : {A : Type 0} → A → Type 0
type_of {A} a = A

-- an error as bgp_why has it
abbrev Theirs : Type 0
Theirs = type_of (theirs.error_of 0 0)

abbrev Twin : Type 0
Twin = Theirs × ErrorCode

abbrev IsTwin : Twin → Type 0
IsTwin t = theirs.error_text t.0 ≡ error_text t.1

more_linked : (xs : List Twin) → AllByRecursion IsTwin xs → theirs.more_errors or (map (λ (t : Twin). t.0) xs) ≡ more_errors or (map (λ (t : Twin). t.1) xs)
more_linked [] all = refl
more_linked (t ∷ []) all = ap (λ (text : List ℕ). or ++ text) all.0
more_linked (t ∷ u ∷ xs) all =
    ap (λ (text : List ℕ). codes ", " ++ (text ++ theirs.more_errors or (map (λ (t : Twin). t.0) (u ∷ xs)))) all.0
    ∙ ap (λ (text : List ℕ). codes ", " ++ (error_text t.1 ++ text)) (more_linked (u ∷ xs) all.1)

texts_linked : (xs : List Twin) → AllByRecursion IsTwin xs → theirs.errors_text or (map (λ (t : Twin). t.0) xs) ≡ errors_text or (map (λ (t : Twin). t.1) xs)
texts_linked [] all = refl
texts_linked (t ∷ xs) all =
    ap (λ (text : List ℕ). text ++ theirs.more_errors or (map (λ (t : Twin). t.0) xs)) all.0 ∙ ap (λ (text : List ℕ). error_text t.1 ++ text) (more_linked xs all.1)

-- both errors, and whether they are in the set
abbrev TwinRow : Type 0
TwinRow = Bool × Twin

abbrev kept_if : Bool → Twin → List Twin → List Twin
kept_if true t kept = t ∷ kept
kept_if false t kept = kept

abbrev kept : List TwinRow → List Twin
kept [] = []
kept (r ∷ rows) = kept_if r.0 r.1 (kept rows)

kept_are : (b : Bool) (t : Twin) (xs : List Twin) → IsTwin t → AllByRecursion IsTwin xs → AllByRecursion IsTwin (kept_if b t xs)
kept_are true t xs is all = (is, all)
kept_are false t xs is all = all

all_kept : (rows : List TwinRow) → AllByRecursion (λ (r : TwinRow). IsTwin r.1) rows → AllByRecursion IsTwin (kept rows)
all_kept [] all = tt
all_kept (r ∷ rows) all = kept_are r.0 r.1 (kept rows) all.0 (all_kept rows all.1)

their_step : (b : Bool) (t : Twin) (rest : List (Option Theirs)) (xs : List Twin) → theirs.errors_in rest ≡ map (λ (t : Twin). t.0) xs
    → theirs.errors_in (then_some b t.0 ∷ rest) ≡ map (λ (t : Twin). t.0) (kept_if b t xs)
their_step true t rest xs same = ap (λ (es : List Theirs). t.0 ∷ es) same
their_step false t rest xs same = same

their_kept : (rows : List TwinRow) → theirs.errors_in (map (λ (r : TwinRow). then_some r.0 r.1.0) rows) ≡ map (λ (t : Twin). t.0) (kept rows)
their_kept [] = refl
their_kept (r ∷ rows) = their_step r.0 r.1 (map (λ (r : TwinRow). then_some r.0 r.1.0) rows) (kept rows) (their_kept rows)

our_step : (b : Bool) (t : Twin) (rest : List (Option ErrorCode)) (xs : List Twin) → errors_in rest ≡ map (λ (t : Twin). t.1) xs
    → errors_in (then_some b t.1 ∷ rest) ≡ map (λ (t : Twin). t.1) (kept_if b t xs)
our_step true t rest xs same = ap (λ (es : List ErrorCode). t.1 ∷ es) same
our_step false t rest xs same = same

our_kept : (rows : List TwinRow) → errors_in (map (λ (r : TwinRow). then_some r.0 r.1.1) rows) ≡ map (λ (t : Twin). t.1) (kept rows)
our_kept [] = refl
our_kept (r ∷ rows) = our_step r.0 r.1 (map (λ (r : TwinRow). then_some r.0 r.1.1) rows) (kept rows) (our_kept rows)

rows_linked : (rows : List TwinRow) → AllByRecursion (λ (r : TwinRow). IsTwin r.1) rows
    → theirs.errors_text or (theirs.errors_in (map (λ (r : TwinRow). then_some r.0 r.1.0) rows)) ≡ errors_text or (errors_in (map (λ (r : TwinRow). then_some r.0 r.1.1) rows))
rows_linked rows all =
    ap (λ (es : List Theirs). theirs.errors_text or es) (their_kept rows) ∙ texts_linked (kept rows) (all_kept rows all) ∙ ap (λ (es : List ErrorCode). errors_text or es) (sym (our_kept rows))

abbrev open_twins : OpenSubcodes → List TwinRow
open_twins s =
    (s.unspecific, (theirs.error_of 2 0, error_of 2 0))
    ∷ (s.version, (theirs.version_error, version_error))
    ∷ (s.peer_as, (theirs.error_of 2 2, error_of 2 2))
    ∷ (s.identifier, (theirs.error_of 2 3, error_of 2 3))
    ∷ (s.parameter, (theirs.error_of 2 4, error_of 2 4))
    ∷ (s.hold, (theirs.error_of 2 6, error_of 2 6))
    ∷ (s.capability, (theirs.error_of 2 7, error_of 2 7))
    ∷ (s.role, (theirs.error_of 2 11, error_of 2 11)) ∷ []

pub open_linked : (s : OpenSubcodes) → theirs.any_of (theirs.open_errors s) ≡ errors_text or (open_list s)
open_linked s = rows_linked (open_twins s) (refl, (refl, (refl, (refl, (refl, (refl, (refl, (refl, tt))))))))

abbrev update_twins : Subcodes → List TwinRow
update_twins s =
    (s.malformed_attribute_list, (theirs.error_of 3 1, error_of 3 1))
    ∷ (s.unrecognized_well_known, (theirs.error_of 3 2, error_of 3 2))
    ∷ (s.missing_well_known, (theirs.error_of 3 3, error_of 3 3))
    ∷ (s.attribute_flags, (theirs.error_of 3 4, error_of 3 4))
    ∷ (s.attribute_length, (theirs.error_of 3 5, error_of 3 5))
    ∷ (s.invalid_origin, (theirs.error_of 3 6, error_of 3 6))
    ∷ (s.as_routing_loop, (theirs.error_of 3 7, error_of 3 7))
    ∷ (s.invalid_next_hop, (theirs.error_of 3 8, error_of 3 8))
    ∷ (s.optional_attribute, (theirs.error_of 3 9, error_of 3 9))
    ∷ (s.invalid_network_field, (theirs.error_of 3 10, error_of 3 10))
    ∷ (s.malformed_as_path, (theirs.error_of 3 11, error_of 3 11)) ∷ []

pub update_linked : (s : Subcodes) → theirs.any_of (theirs.update_errors s) ≡ errors_text or (update_list s)
update_linked s = rows_linked (update_twins s) (refl, (refl, (refl, (refl, (refl, (refl, (refl, (refl, (refl, (refl, (refl, tt)))))))))))

abbrev fsm_twins : FsmErrors → List TwinRow
fsm_twins s =
    (s.unspecified, (theirs.error_of 5 0, error_of 5 0))
    ∷ (s.open_sent, (theirs.error_of 5 1, error_of 5 1))
    ∷ (s.open_confirm, (theirs.error_of 5 2, error_of 5 2))
    ∷ (s.established, (theirs.error_of 5 3, error_of 5 3)) ∷ []

pub fsm_linked : (s : FsmErrors) → theirs.any_of (theirs.fsm_errors s) ≡ errors_text or (fsm_list s)
fsm_linked s = rows_linked (fsm_twins s) (refl, (refl, (refl, (refl, tt))))

header_linked_by : (marker : Bool) (field kind : Option ℕ)
    → theirs.any_of (theirs.error_if marker 1 1 ∷ theirs.length_error field ∷ theirs.type_error kind ∷ []) ≡ errors_text or (errors_in (header_opts marker field kind))
header_linked_by true None None = refl
header_linked_by true None (Some k) = refl
header_linked_by true (Some f) None = refl
header_linked_by true (Some f) (Some k) = refl
header_linked_by false None None = refl
header_linked_by false None (Some k) = refl
header_linked_by false (Some f) None = refl
header_linked_by false (Some f) (Some k) = refl

pub header_linked : (s : HeaderFaults) → theirs.any_of (theirs.header_errors s) ≡ errors_text or (header_list s)
header_linked s = header_linked_by s.marker s.length s.kind
