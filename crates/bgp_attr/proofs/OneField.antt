-- A field is read as the one list of attributes, and the one tail, that spell it.
use Rattle.std.proofs.Common.{◌≡◌, ℕ, zero, suc, ◌+◌, ◌*◌, ◌/◌, ◌%◌, ◌<◌, ◌≤◌, true, false, List, [], ◌∷◌, ◌++◌, length, take, drop, get_or, slice_index, All, Option, None, Some, refl, sym, ap, ◌∙◌, append_assoc, arith, inl, inr}
use Rattle.std.specs.List.{flat_map}
use Rattle.std.proofs.lemmas.Bool.{cases_Bool, cases_lt, lt-ltb, le-ltb, ne_eqb}
use Rattle.std.proofs.lemmas.List.{length-drop, length-take, length-append, take-append-drop, drop-drop, get_or-drop, nil_from_length}
use Rattle.std.proofs.lemmas.List.Elements.{All-nil, All-cons, All-head, All-tail}
use Rattle.std.proofs.Math.Seq.{take-append_seam, drop-append_seam}
use Rattle.byteorder.specs.Endian.{big_bytes}
use Rattle.byteorder.specs.Numbers.{big_number-reads_back}
use Rattle.bgp_attr.specs.declared.field.Tail.{Tail}
use Rattle.bgp_attr.specs.declared.field.Tail.TheVariants.{ShortHeader, Overrun}
use Rattle.bgp_attr.specs.Field.{Attribute, IsAttribute, IsAttributeField, IsTail, attribute_octets, is_extended, header_len, value_len}
use Rattle.bgp_attr.specs.Split.{attribute_len, first_attribute, attributes_of, rest_of, tail_at, split_of}
use Rattle.bgp_attr.proofs.Steps.{header_some, attributes_step, attributes_stop, rest_step, rest_stop}

-- ---- an attribute that is attribute_octets is read

pub record Reads (octets : List ℕ) (a : Attribute) (rest : List ℕ) : Type 0 where
  pub whole : attribute_len octets ≤ length octets
  pub first : first_attribute octets ≡ a
  pub others : drop (attribute_len octets) octets ≡ rest

reads_by : (a : Attribute) (rest octets : List ℕ) (h : ℕ) → header_len octets ≡ h → value_len octets ≡ length a.value → drop h octets ≡ a.value ++ rest
    → length octets ≡ h + length (a.value ++ rest) → slice_index octets 0 ≡ a.flags → slice_index octets 1 ≡ a.kind → Reads octets a rest
reads_by a rest octets h header value back len flags kind =
    let whole : attribute_len octets ≤ length octets = omega (arith, header, value, len, length-append a.value rest) in
    let first : first_attribute octets ≡ a = rw (header, value, back, flags, kind, take-append_seam a.value rest) refl in
    let others : drop (attribute_len octets) octets ≡ rest = rw (header, value, ← drop-drop (length a.value) h octets, back) (drop-append_seam a.value rest) in
    record { whole = whole; first = first; others = others }

long_reads : (a : Attribute) (rest : List ℕ) → is_extended a.flags ≡ true → length a.value < 65536 → Reads (attribute_octets a ++ rest) a rest
unfolding header_len value_len
long_reads a rest e fits =
    let octets = a.flags ∷ a.kind ∷ big_bytes 2 (length a.value) ++ a.value ++ rest in
    let same : attribute_octets a ++ rest ≡ octets = rw e refl in
    let header : header_len octets ≡ 4 = rw e refl in
    let value : value_len octets ≡ length a.value = rw e (big_number-reads_back 2 (length a.value) (a.value ++ rest) fits) in
    rw same (reads_by a rest octets 4 header value refl (omega arith) refl refl)

short_reads : (a : Attribute) (rest : List ℕ) → is_extended a.flags ≡ false → length a.value < 256 → Reads (attribute_octets a ++ rest) a rest
unfolding header_len value_len
short_reads a rest e fits =
    let octets = a.flags ∷ a.kind ∷ big_bytes 1 (length a.value) ++ a.value ++ rest in
    let same : attribute_octets a ++ rest ≡ octets = rw e refl in
    let header : header_len octets ≡ 3 = rw e refl in
    let value : value_len octets ≡ length a.value = rw e (big_number-reads_back 1 (length a.value) (a.value ++ rest) fits) in
    rw same (reads_by a rest octets 3 header value refl (omega arith) refl refl)

pub reads : (a : Attribute) (rest : List ℕ) → IsAttribute a → Reads (attribute_octets a ++ rest) a rest
reads a rest fits = elim (cases_Bool (is_extended a.flags)) [
  | inl e ↦ long_reads a rest e (rw e at fits)
  | inr e ↦ short_reads a rest e (rw e at fits)
]

-- ---- a tail is no attribute

pub tail_short : (rest : List ℕ) (tail : Option Tail) → IsTail rest tail → length rest < attribute_len rest
tail_short rest None h = rw h (omega (arith, header_some []))
tail_short rest (Some ShortHeader) h = omega arith
tail_short rest (Some (Overrun kind)) h = omega arith

pub tail_is : (rest : List ℕ) (tail : Option Tail) → IsTail rest tail → tail_at rest ≡ tail
unfolding tail_at
tail_is rest None h = rw h refl
tail_is rest (Some ShortHeader) h = rw (ne_eqb (length rest) 0 (λ e. h.0 (nil_from_length rest e)), lt-ltb _ _ h.1) refl
tail_is rest (Some (Overrun kind)) h = rw (ne_eqb (length rest) 0 (λ e. absurd (omega (arith, header_some rest))), le-ltb _ _ h.0, h.2) refl

-- ---- both ways

pub read_back : (attributes : List Attribute) (rest : List ℕ) (tail : Option Tail) → All IsAttribute attributes → IsTail rest tail
    → (attributes_of (flat_map attribute_octets attributes ++ rest) ≡ attributes) × (rest_of (flat_map attribute_octets attributes ++ rest) ≡ rest)
read_back [] rest tail each last = (attributes_stop rest (tail_short rest tail last), rest_stop rest (tail_short rest tail last))
read_back (a ∷ others) rest tail each last =
    let after = flat_map attribute_octets others ++ rest in
    let more = read_back others rest tail (All-tail IsAttribute a others each) last in
    let front = reads a after (All-head IsAttribute a others each) in
    let joined : flat_map attribute_octets (a ∷ others) ++ rest ≡ attribute_octets a ++ after = append_assoc (attribute_octets a) (flat_map attribute_octets others) rest in
    let attributes : attributes_of (attribute_octets a ++ after) ≡ a ∷ others = rw (attributes_step (attribute_octets a ++ after) front.whole, front.first, front.others, more.0) refl in
    let left : rest_of (attribute_octets a ++ after) ≡ rest = rw (rest_step (attribute_octets a ++ after) front.whole, front.others) more.1 in
    rw joined (attributes, left)

-- ---- what is read spells the field

abbrev pub IsOctets : List ℕ → Type 0
IsOctets octets = (i : ℕ) → get_or octets i 0 < 256

IsOctets-drop : (n : ℕ) (octets : List ℕ) → IsOctets octets → IsOctets (drop n octets)
IsOctets-drop n octets h i = rw get_or-drop (h (n + i))

-- the attribute at the front spells its octets, and has a length that can be attribute_octets
pub record Spells (octets : List ℕ) : Type 0 where
  pub again : attribute_octets (first_attribute octets) ++ drop (attribute_len octets) octets ≡ octets
  pub fits : IsAttribute (first_attribute octets)

short_spells : (f k l : ℕ) (rest : List ℕ) → is_extended f ≡ false → l < 256 → l ≤ length rest → Spells (f ∷ k ∷ l ∷ rest)
unfolding header_len value_len
short_spells f k l rest e octet whole =
    let octets = f ∷ k ∷ l ∷ rest in
    let header : header_len octets ≡ 3 = rw e refl in
    let value : value_len octets ≡ l = rw e (omega arith) in
    let len : length (take l rest) ≡ l = omega (arith, length-take l rest) in
    let low : l % 256 ≡ l = omega arith in
    let after : drop (3 + l) octets ≡ drop l rest = sym (drop-drop l 3 octets) in
    record {
      again = rw (header, value, after, e, len, low) (ap (λ (t : List ℕ). f ∷ k ∷ l ∷ t) (take-append-drop l rest));
      fits = rw (header, value, e, len) octet;
    }

long_spells : (f k h l : ℕ) (rest : List ℕ) → is_extended f ≡ true → h < 256 → l < 256 → 256 * h + l ≤ length rest → Spells (f ∷ k ∷ h ∷ l ∷ rest)
unfolding header_len value_len
long_spells f k h l rest e high low whole =
    let octets = f ∷ k ∷ h ∷ l ∷ rest in
    let n = 256 * h + l in
    let header : header_len octets ≡ 4 = rw e refl in
    let value : value_len octets ≡ n = rw e (omega arith) in
    let len : length (take n rest) ≡ n = omega (arith, length-take n rest) in
    let one : n / 256 % 256 ≡ h = omega arith in
    let two : n % 256 ≡ l = omega arith in
    let after : drop (4 + n) octets ≡ drop n rest = sym (drop-drop n 4 octets) in
    record {
      again = rw (header, value, after, e, len, one, two) (ap (λ (t : List ℕ). f ∷ k ∷ h ∷ l ∷ t) (take-append-drop n rest));
      fits = rw (header, value, e, len) (omega arith);
    }

pub spells : (octets : List ℕ) → IsOctets octets → attribute_len octets ≤ length octets → Spells octets
unfolding header_len value_len
spells [] octet whole = absurd (omega (arith, header_some []))
spells (f ∷ []) octet whole = absurd (omega (arith, header_some (f ∷ [])))
spells (f ∷ k ∷ []) octet whole = absurd (omega (arith, header_some (f ∷ k ∷ [])))
spells (f ∷ k ∷ l ∷ []) octet whole = elim (cases_Bool (is_extended f)) [
  | inl e ↦ absurd (let h = rw e at whole in omega (arith, h))
  | inr e ↦ short_spells f k l [] e (octet 2) (let h = rw e at whole in omega (arith, h))
]
spells (f ∷ k ∷ h ∷ l ∷ rest) octet whole = elim (cases_Bool (is_extended f)) [
  | inl e ↦ long_spells f k h l rest e (octet 2) (octet 3) (let h = rw e at whole in omega (arith, h))
  | inr e ↦ short_spells f k h (l ∷ rest) e (octet 2) (let h = rw e at whole in omega (arith, h))
]

is_tail : (rest : List ℕ) → length rest < attribute_len rest → IsTail rest (tail_at rest)
unfolding tail_at
is_tail [] short = refl
is_tail (x ∷ rest) short =
    let some = ne_eqb (length (x ∷ rest)) 0 (λ e. absurd (omega arith)) in
    elim (cases_lt (length (x ∷ rest)) (header_len (x ∷ rest))) [
      | inl lt ↦ rw (some, lt-ltb (length (x ∷ rest)) (header_len (x ∷ rest)) lt) ((λ e. absurd cc), lt)
      | inr le ↦ rw (some, le-ltb (length (x ∷ rest)) (header_len (x ∷ rest)) le) (le, short, refl)
    ]

stops : (field : List ℕ) → length field < attribute_len field → IsAttributeField field (attributes_of field) (tail_at (rest_of field))
stops field short =
    rw (attributes_stop field short, rest_stop field short) record { rest = field; whole = refl; each = All-nil IsAttribute; last = is_tail field short }

goes_on : (field : List ℕ) → IsOctets field → attribute_len field ≤ length field
    → (let after = drop (attribute_len field) field in IsAttributeField after (attributes_of after) (tail_at (rest_of after)))
    → IsAttributeField field (attributes_of field) (tail_at (rest_of field))
goes_on field octet whole more =
    let after = drop (attribute_len field) field in
    let first = spells field octet whole in
    let joined : field ≡ flat_map attribute_octets (first_attribute field ∷ attributes_of after) ++ more.rest =
    sym first.again
    ∙ ap (λ (t : List ℕ). attribute_octets (first_attribute field) ++ t) more.whole
    ∙ sym (append_assoc (attribute_octets (first_attribute field)) (flat_map attribute_octets (attributes_of after)) more.rest) in
    rw (attributes_step field whole, rest_step field whole)
    record { rest = more.rest; whole = joined; each = All-cons IsAttribute (first_attribute field) (attributes_of after) first.fits more.each; last = more.last }

read_in : (n : ℕ) (field : List ℕ) → length field ≤ n → IsOctets field → IsAttributeField field (attributes_of field) (tail_at (rest_of field))
read_in zero field bound octet = stops field (omega (arith, header_some field))
read_in (suc n) field bound octet = elim (cases_lt (length field) (attribute_len field)) [
  | inl lt ↦ stops field lt
  | inr le ↦
      goes_on field octet le (read_in n (drop (attribute_len field) field) (omega (arith, header_some field, length-drop (attribute_len field) field)) (IsOctets-drop (attribute_len field) field octet))
]

pub is_field : (field : List ℕ) → IsOctets field → IsAttributeField field (attributes_of field) (tail_at (rest_of field))
is_field field octet = read_in (length field) field (omega arith) octet

pub is_split : (field : List ℕ) (attributes : List Attribute) (tail : Option Tail) → IsAttributeField field attributes tail → split_of field ≡ record { attributes = attributes; tail = tail }
is_split field attributes tail h =
    let back = read_back attributes h.rest tail h.each h.last in
    rw (h.whole, back.0, back.1, tail_is h.rest tail h.last) refl
