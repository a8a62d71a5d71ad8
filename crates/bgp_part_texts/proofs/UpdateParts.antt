-- Parts of an UPDATE, read back from their text.
use Rattle.std.proofs.Common.{◌≡◌, ◌∙◌, ◌<◌, ◌==◌, ◌++◌, ℕ, Bool, true, false, List, [], ◌∷◌, codes, if◌then◌else◌, inl, inr, refl, sym, ap, ap₂, arith, lit<, map, unwrap_or, append-nil}
use Rattle.std.specs.Fmt.{decimal}
use Rattle.std.specs.List.{AllByRecursion}
use Rattle.std.proofs.lemmas.Bool.{cases_Bool}
use Rattle.std.proofs.lemmas.Fmt.{decimal_injective}
use mathlib.Core.List.{append_cancel_left, append_cancel_right}
use Rattle.hex.specs.Hex.{IsBytes}
use Rattle.bgp_prefix.specs.declared.family.Family.TheVariants.{V4, V6}
use Rattle.bgp_attr.specs.Field.{Attribute}
use Rattle.bgp_attr.specs.Types.{type_number, type_of}
use Rattle.bgp_attr.specs.declared.types.AttrType.{AttrType}
use Rattle.bgp_attr.specs.declared.types.AttrType.TheVariants as types
use Rattle.bgp_names.specs.Attributes.{attribute_name, attribute_names}
use Rattle.bgp_names.proofs.Distinct.{lacks, lacks_both, one_front, stops, tail_of}
use Rattle.bgp_parts.specs.declared.attribute.AttributeFault.{AttributeFault}
use Rattle.bgp_parts.specs.declared.attribute.AttributeFault.TheVariants as faults
use Rattle.bgp_parts.specs.UpdateParts as told
use Rattle.bgp_text.specs.Text.{hex_text}
use Rattle.bgp_why_parts.specs.Updates.{fault_text, part_text, update_parts_by, update_parts_text, value_text}
use Rattle.bgp_part_texts.specs.Updates.{HasOctets, UpdatePartsDiffer, concerned, said}
use Rattle.bgp_part_texts.proofs.Clear.{attribute_clear, both_ascii, both_clear, clear_ascii, clear_lacks, decimal_clear, hex_clear, is_ascii, is_clear}
use Rattle.bgp_part_texts.proofs.Fields.{differ, hex_lacks, not_numbered, octet_at, one_attribute, one_hex}

-- ---- the text of a fault

fault_clear : (is_sent : Bool) (a : Attribute) (fault : AttributeFault) → a.flags < 256 → is_clear (fault_text is_sent a fault) ≡ true
fault_clear is_sent a faults.Unknown small = refl
fault_clear is_sent a faults.Flags small = both_clear (codes " with wrong flags ") (decimal a.flags) refl (decimal_clear a.flags (omega (arith, small)))
fault_clear is_sent a faults.FourOctetAsNumbers small = refl
fault_clear true a faults.FromExternalPeer small = refl
fault_clear false a faults.FromExternalPeer small = refl
fault_clear is_sent a faults.Value small = both_clear (codes " with wrong value ") (hex_text a.value) refl (hex_clear a.value)
fault_clear is_sent a faults.DiscardedValue small =
    both_clear (value_text a.value) (codes ", to be discarded") (both_clear (codes " with wrong value ") (hex_text a.value) refl (hex_clear a.value)) refl
fault_clear is_sent a faults.BelowThreeOctets small = refl
fault_clear is_sent a (faults.NotInUse V4) small = refl
fault_clear is_sent a (faults.NotInUse V6) small = refl
fault_clear is_sent a (faults.Contents V4) small = refl
fault_clear is_sent a (faults.Contents V6) small = refl
fault_clear is_sent a faults.Repeated small = refl

value_lacks : (xs : List ℕ) → lacks 44 (value_text xs) ≡ true
value_lacks xs = lacks_both 44 (codes " with wrong value ") (hex_text xs) refl (hex_lacks 44 refl refl refl xs)

-- a value that is to be discarded has another text than any that isn't
not_kept : (xs ys : List ℕ) → value_text xs ++ codes ", to be discarded" ≡ value_text ys → ⊥
not_kept xs ys e =
    let split = one_front 44 (value_text xs) (value_text ys) (codes ", to be discarded") [] (value_lacks xs) (value_lacks ys) refl refl (e ∙ sym (append-nil (value_text ys))) in
    let none : codes ", to be discarded" ≡ [] = split.1 in cc

-- ---- what stands behind the name of an attribute

data Suffix : Type 0 where
  Fault : Attribute → AttributeFault → Suffix
  PastEnd : Suffix
  Absent : Suffix

abbrev suffix_text : Bool → Suffix → List ℕ
suffix_text is_sent (Fault a fault) = fault_text is_sent a fault
suffix_text is_sent PastEnd = codes " past the end of the attributes"
suffix_text is_sent Absent = codes " missing"

-- what is read of it: a fault, but for what becomes of a value that is wrong
data Read : Type 0 where
  IsFault : AttributeFault → Read
  IsPastEnd : Read
  IsAbsent : Read

abbrev without_discarding : AttributeFault → AttributeFault
without_discarding faults.DiscardedValue = faults.Value
without_discarding fault = fault

abbrev read_of : Suffix → Read
read_of (Fault a fault) = IsFault (without_discarding fault)
read_of PastEnd = IsPastEnd
read_of Absent = IsAbsent

abbrev read_in : List ℕ → Read
read_in text =
    if octet_at 1 text == 109 then (if octet_at 2 text == 97 then IsFault faults.Unknown else IsAbsent)
    else if octet_at 1 text == 112 then IsPastEnd
    else if octet_at 1 text == 114 then IsFault faults.Repeated
    else if octet_at 1 text == 102 then IsFault faults.FromExternalPeer
    else if octet_at 1 text == 116 then (if octet_at 2 text == 111 then IsFault faults.FromExternalPeer else IsFault faults.FourOctetAsNumbers)
    else if octet_at 1 text == 119 then (if octet_at 12 text == 102 then IsFault faults.Flags else IsFault faults.Value)
    else if octet_at 4 text == 102 then IsFault faults.BelowThreeOctets
    else if octet_at 8 text == 44 then IsFault (faults.NotInUse (if octet_at 7 text == 52 then V4 else V6))
    else IsFault (faults.Contents (if octet_at 7 text == 52 then V4 else V6))

read_back : (is_sent : Bool) (s : Suffix) → read_in (suffix_text is_sent s) ≡ read_of s
read_back is_sent (Fault a faults.Unknown) = refl
read_back is_sent (Fault a faults.Flags) = refl
read_back is_sent (Fault a faults.FourOctetAsNumbers) = refl
read_back true (Fault a faults.FromExternalPeer) = refl
read_back false (Fault a faults.FromExternalPeer) = refl
read_back is_sent (Fault a faults.Value) = refl
read_back is_sent (Fault a faults.DiscardedValue) = refl
read_back is_sent (Fault a faults.BelowThreeOctets) = refl
read_back is_sent (Fault a (faults.NotInUse V4)) = refl
read_back is_sent (Fault a (faults.NotInUse V6)) = refl
read_back is_sent (Fault a (faults.Contents V4)) = refl
read_back is_sent (Fault a (faults.Contents V6)) = refl
read_back is_sent (Fault a faults.Repeated) = refl
read_back is_sent PastEnd = refl
read_back is_sent Absent = refl

-- it begins with a blank
suffix_head : (is_sent : Bool) (s : Suffix) → suffix_text is_sent s ≡ 32 ∷ tail_of (suffix_text is_sent s)
suffix_head is_sent (Fault a faults.Unknown) = refl
suffix_head is_sent (Fault a faults.Flags) = refl
suffix_head is_sent (Fault a faults.FourOctetAsNumbers) = refl
suffix_head true (Fault a faults.FromExternalPeer) = refl
suffix_head false (Fault a faults.FromExternalPeer) = refl
suffix_head is_sent (Fault a faults.Value) = refl
suffix_head is_sent (Fault a faults.DiscardedValue) = refl
suffix_head is_sent (Fault a faults.BelowThreeOctets) = refl
suffix_head is_sent (Fault a (faults.NotInUse family)) = refl
suffix_head is_sent (Fault a (faults.Contents family)) = refl
suffix_head is_sent (Fault a faults.Repeated) = refl
suffix_head is_sent PastEnd = refl
suffix_head is_sent Absent = refl

-- ---- a fault

abbrev is_discarded : AttributeFault → Bool
is_discarded faults.DiscardedValue = true
is_discarded fault = false

abbrev rebuilt : Bool → AttributeFault → AttributeFault
rebuilt true fault = faults.DiscardedValue
rebuilt false fault = fault

rebuilt_is : (fault : AttributeFault) → rebuilt (is_discarded fault) (without_discarding fault) ≡ fault
rebuilt_is faults.Unknown = refl
rebuilt_is faults.Flags = refl
rebuilt_is faults.FourOctetAsNumbers = refl
rebuilt_is faults.FromExternalPeer = refl
rebuilt_is faults.Value = refl
rebuilt_is faults.DiscardedValue = refl
rebuilt_is faults.BelowThreeOctets = refl
rebuilt_is (faults.NotInUse family) = refl
rebuilt_is (faults.Contents family) = refl
rebuilt_is faults.Repeated = refl

rebuilt_by : (fault : AttributeFault) (is : Bool) → is_discarded fault ≡ is → fault ≡ rebuilt is (without_discarding fault)
rebuilt_by fault is same = sym (rebuilt_is fault) ∙ ap (λ (b : Bool). rebuilt b (without_discarding fault)) same

not_both : (is_sent : Bool) (a b : Attribute) (one other : AttributeFault) → is_discarded one ≡ true → is_discarded other ≡ false
    → without_discarding one ≡ without_discarding other → fault_text is_sent a one ≡ fault_text is_sent b other → ⊥
not_both is_sent a b one other is isnt same e =
    let first : one ≡ faults.DiscardedValue = rebuilt_by one true is in
    let second : other ≡ faults.Value = rebuilt_by other false isnt ∙ sym same ∙ ap without_discarding first in
    not_kept a.value b.value (ap (fault_text is_sent a) (sym first) ∙ e ∙ ap (fault_text is_sent b) second)

one_kind : (is_sent : Bool) (a b : Attribute) (one other : AttributeFault) → without_discarding one ≡ without_discarding other
    → fault_text is_sent a one ≡ fault_text is_sent b other → one ≡ other
one_kind is_sent a b one other same e = elim (cases_Bool (is_discarded one)) [
  | inl is ↦ elim (cases_Bool (is_discarded other)) [
    | inl is' ↦ rebuilt_by one true is ∙ sym (rebuilt_by other true is')
    | inr isnt' ↦ absurd (not_both is_sent a b one other is isnt' same e)
  ]
  | inr isnt ↦ elim (cases_Bool (is_discarded other)) [
    | inl is' ↦ absurd (not_both is_sent b a other one is' isnt (sym same) (sym e))
    | inr isnt' ↦ rebuilt_by one false isnt ∙ same ∙ sym (rebuilt_by other false isnt')
  ]
]

-- an attribute with its octets
abbrev IsOctets : Attribute → Type 0
IsOctets a = (a.flags < 256) × (a.kind < 256) × IsBytes a.value

one_concerned : (is_sent : Bool) (a b : Attribute) (fault : AttributeFault) → IsOctets a → IsOctets b → a.kind ≡ b.kind
    → fault_text is_sent a fault ≡ fault_text is_sent b fault → concerned fault a ≡ concerned fault b
one_concerned is_sent a b faults.Unknown oa ob kind e = ap (λ (k : ℕ). record { flags = 0; kind = k; value = [] }) kind
one_concerned is_sent a b faults.Flags oa ob kind e =
    let flags : a.flags ≡ b.flags = decimal_injective a.flags b.flags (let s = oa.0 in omega (arith, s)) (let s = ob.0 in omega (arith, s))
    (append_cancel_left (codes " with wrong flags ") (decimal a.flags) (decimal b.flags) e) in
    ap₂ (λ (f k : ℕ). record { flags = f; kind = k; value = [] }) flags kind
one_concerned is_sent a b faults.FourOctetAsNumbers oa ob kind e = ap (λ (k : ℕ). record { flags = 0; kind = k; value = [] }) kind
one_concerned is_sent a b faults.FromExternalPeer oa ob kind e = ap (λ (k : ℕ). record { flags = 0; kind = k; value = [] }) kind
one_concerned is_sent a b faults.Value oa ob kind e =
    let value : a.value ≡ b.value = one_hex a.value b.value oa.2 ob.2 (append_cancel_left (codes " with wrong value ") (hex_text a.value) (hex_text b.value) e) in
    ap₂ (λ (k : ℕ) (v : List ℕ). record { flags = 0; kind = k; value = v }) kind value
one_concerned is_sent a b faults.DiscardedValue oa ob kind e =
    let texts : value_text a.value ≡ value_text b.value = append_cancel_right (value_text a.value) (value_text b.value) (codes ", to be discarded") e in
    let value : a.value ≡ b.value = one_hex a.value b.value oa.2 ob.2 (append_cancel_left (codes " with wrong value ") (hex_text a.value) (hex_text b.value) texts) in
    ap₂ (λ (k : ℕ) (v : List ℕ). record { flags = 0; kind = k; value = v }) kind value
one_concerned is_sent a b faults.BelowThreeOctets oa ob kind e = ap (λ (k : ℕ). record { flags = 0; kind = k; value = [] }) kind
one_concerned is_sent a b (faults.NotInUse family) oa ob kind e = ap (λ (k : ℕ). record { flags = 0; kind = k; value = [] }) kind
one_concerned is_sent a b (faults.Contents family) oa ob kind e = ap (λ (k : ℕ). record { flags = 0; kind = k; value = [] }) kind
one_concerned is_sent a b faults.Repeated oa ob kind e = ap (λ (k : ℕ). record { flags = 0; kind = k; value = [] }) kind

abbrev fault_read : Read → AttributeFault
fault_read (IsFault fault) = fault
fault_read IsPastEnd = faults.Unknown
fault_read IsAbsent = faults.Unknown

one_fault : (is_sent : Bool) (a b : Attribute) (one other : AttributeFault) → IsOctets a → IsOctets b → a.kind ≡ b.kind
    → fault_text is_sent a one ≡ fault_text is_sent b other → told.Faulty (concerned one a) one ≡ told.Faulty (concerned other b) other
one_fault is_sent a b one other oa ob kind e =
    let read = sym (read_back is_sent (Fault a one)) ∙ ap read_in e ∙ read_back is_sent (Fault b other) in
    let same : one ≡ other = one_kind is_sent a b one other (ap fault_read read) e in
    let texts : fault_text is_sent a other ≡ fault_text is_sent b other = ap (fault_text is_sent a) (sym same) ∙ e in
    ap (λ (f : AttributeFault). told.Faulty (concerned f a) f) same
    ∙ ap (λ (x : Attribute). told.Faulty x other) (one_concerned is_sent a b other oa ob kind texts)

-- ---- a part

-- a text without a number, by its first word and the rest
data Fixed : Type 0 where
  Lengths : Fixed
  Withdrawn : Fixed
  Nlri : Fixed
  Cut : Fixed
  Base : Fixed

abbrev first_word : Fixed → List ℕ
first_word Lengths = codes "lengths"
first_word Withdrawn = codes "withdrawn"
first_word Nlri = codes "NLRI"
first_word Cut = codes "the"
first_word Base = codes "IPv4"

abbrev other_words : Fixed → List ℕ
other_words Lengths = codes "that do not fit"
other_words Withdrawn = codes "prefixes malformed"
other_words Nlri = codes "malformed"
other_words Cut = codes "last attribute cut short"
other_words Base = codes "prefixes, which are not in use"

data Shape : Type 0 where
  Plain : Fixed → Shape
  Named : ℕ → Suffix → Shape

abbrev shape_text : Bool → Shape → List ℕ
shape_text is_sent (Plain fixed) = first_word fixed ++ (32 ∷ other_words fixed)
shape_text is_sent (Named kind suffix) = attribute_name kind ++ suffix_text is_sent suffix

abbrev shape_of : told.Part → Shape
shape_of told.LengthsRunOver = Plain Lengths
shape_of told.WithdrawnMalformed = Plain Withdrawn
shape_of told.NlriMalformed = Plain Nlri
shape_of (told.Faulty a fault) = Named a.kind (Fault a fault)
shape_of told.AttributesCut = Plain Cut
shape_of (told.Overrun kind) = Named kind PastEnd
shape_of (told.Missing t) = Named (type_number t) Absent
shape_of told.BaseNotInUse = Plain Base

part_is : (is_sent : Bool) (p : told.Part) → part_text is_sent p ≡ shape_text is_sent (shape_of p)
unfolding part_text
part_is is_sent told.LengthsRunOver = refl
part_is is_sent told.WithdrawnMalformed = refl
part_is is_sent told.NlriMalformed = refl
part_is is_sent (told.Faulty a fault) = refl
part_is is_sent told.AttributesCut = refl
part_is is_sent (told.Overrun kind) = refl
part_is is_sent (told.Missing t) = refl
part_is is_sent told.BaseNotInUse = refl

-- the numbers are octets, and a fault is of an attribute of that type
abbrev IsSuffix : ℕ → Suffix → Type 0
IsSuffix kind (Fault a fault) = IsOctets a × (kind ≡ a.kind)
IsSuffix kind PastEnd = Unit {0}
IsSuffix kind Absent = Unit {0}

abbrev IsShape : Shape → Type 0
IsShape (Plain fixed) = Unit {0}
IsShape (Named kind suffix) = (kind < 256) × IsSuffix kind suffix

type_small : (t : AttrType) → type_number t < 256
type_small types.Origin = lit< tt
type_small types.AsPath = lit< tt
type_small types.NextHop = lit< tt
type_small types.MultiExitDisc = lit< tt
type_small types.LocalPref = lit< tt
type_small types.AtomicAggregate = lit< tt
type_small types.Aggregator = lit< tt
type_small types.Communities = lit< tt
type_small types.OriginatorId = lit< tt
type_small types.ClusterList = lit< tt
type_small types.MpReachNlri = lit< tt
type_small types.MpUnreachNlri = lit< tt
type_small types.ExtendedCommunities = lit< tt
type_small types.As4Path = lit< tt
type_small types.As4Aggregator = lit< tt
type_small types.LargeCommunities = lit< tt

shape_fits : (p : told.Part) → HasOctets p → IsShape (shape_of p)
shape_fits told.LengthsRunOver fits = tt
shape_fits told.WithdrawnMalformed fits = tt
shape_fits told.NlriMalformed fits = tt
shape_fits (told.Faulty a fault) fits = (fits.1, (fits, refl))
shape_fits told.AttributesCut fits = tt
shape_fits (told.Overrun kind) fits = (fits, tt)
shape_fits (told.Missing t) fits = (type_small t, tt)
shape_fits told.BaseNotInUse fits = tt

-- what a shape says
abbrev plain_part : Fixed → told.Part
plain_part Lengths = told.LengthsRunOver
plain_part Withdrawn = told.WithdrawnMalformed
plain_part Nlri = told.NlriMalformed
plain_part Cut = told.AttributesCut
plain_part Base = told.BaseNotInUse

abbrev named_part : ℕ → Suffix → told.Part
named_part kind (Fault a fault) = told.Faulty (concerned fault a) fault
named_part kind PastEnd = told.Overrun kind
named_part kind Absent = told.Missing (unwrap_or (type_of kind) types.Origin)

abbrev part_of : Shape → told.Part
part_of (Plain fixed) = plain_part fixed
part_of (Named kind suffix) = named_part kind suffix

type_back : (t : AttrType) → unwrap_or (type_of (type_number t)) types.Origin ≡ t
type_back types.Origin = refl
type_back types.AsPath = refl
type_back types.NextHop = refl
type_back types.MultiExitDisc = refl
type_back types.LocalPref = refl
type_back types.AtomicAggregate = refl
type_back types.Aggregator = refl
type_back types.Communities = refl
type_back types.OriginatorId = refl
type_back types.ClusterList = refl
type_back types.MpReachNlri = refl
type_back types.MpUnreachNlri = refl
type_back types.ExtendedCommunities = refl
type_back types.As4Path = refl
type_back types.As4Aggregator = refl
type_back types.LargeCommunities = refl

said_is : (p : told.Part) → part_of (shape_of p) ≡ said p
said_is told.LengthsRunOver = refl
said_is told.WithdrawnMalformed = refl
said_is told.NlriMalformed = refl
said_is (told.Faulty a fault) = refl
said_is told.AttributesCut = refl
said_is (told.Overrun kind) = refl
said_is (told.Missing t) = ap told.Missing (type_back t)
said_is told.BaseNotInUse = refl

abbrev fixed_in : List ℕ → Fixed
fixed_in text =
    if octet_at 0 text == 108 then Lengths
    else if octet_at 0 text == 119 then Withdrawn
    else if octet_at 0 text == 78 then Nlri
    else if octet_at 0 text == 116 then Cut
    else Base

fixed_back : (is_sent : Bool) (fixed : Fixed) → fixed_in (shape_text is_sent (Plain fixed)) ≡ fixed
fixed_back is_sent Lengths = refl
fixed_back is_sent Withdrawn = refl
fixed_back is_sent Nlri = refl
fixed_back is_sent Cut = refl
fixed_back is_sent Base = refl

-- a name of an attribute begins none of them
not_named : (fixed : Fixed) (kind : ℕ) (x : List ℕ) → first_word fixed ++ (32 ∷ other_words fixed) ≡ attribute_name kind ++ (32 ∷ x) → ⊥
not_named Lengths kind x e = not_numbered (codes "attribute") refl (codes "lengths") attribute_names kind (other_words Lengths) x refl refl refl refl e
not_named Withdrawn kind x e = not_numbered (codes "attribute") refl (codes "withdrawn") attribute_names kind (other_words Withdrawn) x refl refl refl refl e
not_named Nlri kind x e = not_numbered (codes "attribute") refl (codes "NLRI") attribute_names kind (other_words Nlri) x refl refl refl refl e
not_named Cut kind x e = not_numbered (codes "attribute") refl (codes "the") attribute_names kind (other_words Cut) x refl refl refl refl e
not_named Base kind x e = not_numbered (codes "attribute") refl (codes "IPv4") attribute_names kind (other_words Base) x refl refl refl refl e

abbrev read_number : Read → ℕ
read_number (IsFault fault) = 0
read_number IsPastEnd = 1
read_number IsAbsent = 2

module _ (is_sent : Bool) where
  one_read : (s t : Suffix) → suffix_text is_sent s ≡ suffix_text is_sent t → read_of s ≡ read_of t
  one_read s t e = sym (read_back is_sent s) ∙ ap read_in e ∙ read_back is_sent t

  one_suffix : (k l : ℕ) (s t : Suffix) → IsSuffix k s → IsSuffix l t → k ≡ l → suffix_text is_sent s ≡ suffix_text is_sent t → named_part k s ≡ named_part l t
  one_suffix k l (Fault a f) (Fault b g) fs ft kind e = one_fault is_sent a b f g fs.0 ft.0 (sym fs.1 ∙ kind ∙ ft.1) e
  one_suffix k l (Fault a f) PastEnd fs ft kind e = absurd (differ 0 1 refl (ap read_number (one_read (Fault a f) PastEnd e)))
  one_suffix k l (Fault a f) Absent fs ft kind e = absurd (differ 0 2 refl (ap read_number (one_read (Fault a f) Absent e)))
  one_suffix k l PastEnd (Fault b g) fs ft kind e = absurd (differ 1 0 refl (ap read_number (one_read PastEnd (Fault b g) e)))
  one_suffix k l PastEnd PastEnd fs ft kind e = ap told.Overrun kind
  one_suffix k l PastEnd Absent fs ft kind e = absurd (differ 1 2 refl (ap read_number (one_read PastEnd Absent e)))
  one_suffix k l Absent (Fault b g) fs ft kind e = absurd (differ 2 0 refl (ap read_number (one_read Absent (Fault b g) e)))
  one_suffix k l Absent PastEnd fs ft kind e = absurd (differ 2 1 refl (ap read_number (one_read Absent PastEnd e)))
  one_suffix k l Absent Absent fs ft kind e = ap (λ (n : ℕ). told.Missing (unwrap_or (type_of n) types.Origin)) kind

  behind_name : (k : ℕ) (s : Suffix) → attribute_name k ++ suffix_text is_sent s ≡ attribute_name k ++ (32 ∷ tail_of (suffix_text is_sent s))
  behind_name k s = ap (λ (t : List ℕ). attribute_name k ++ t) (suffix_head is_sent s)

  one_shape : (s t : Shape) → IsShape s → IsShape t → shape_text is_sent s ≡ shape_text is_sent t → part_of s ≡ part_of t
  one_shape (Plain f) (Plain g) fs ft e = ap plain_part (sym (fixed_back is_sent f) ∙ ap fixed_in e ∙ fixed_back is_sent g)
  one_shape (Plain f) (Named l t) fs ft e = absurd (not_named f l (tail_of (suffix_text is_sent t)) (e ∙ behind_name l t))
  one_shape (Named k s) (Plain g) fs ft e = absurd (not_named g k (tail_of (suffix_text is_sent s)) (sym e ∙ behind_name k s))
  one_shape (Named k s) (Named l t) fs ft e =
      let small = fs.0 in
      let small' = ft.0 in
      let both = one_attribute k l (tail_of (suffix_text is_sent s)) (tail_of (suffix_text is_sent t)) (omega (arith, small)) (omega (arith, small'))
      (sym (behind_name k s) ∙ e ∙ behind_name l t) in
      one_suffix k l s t fs.1 ft.1 both.0 (suffix_head is_sent s ∙ ap (λ (x : List ℕ). 32 ∷ x) both.1 ∙ sym (suffix_head is_sent t))

  one_part : (p q : told.Part) → HasOctets p → HasOctets q → part_text is_sent p ≡ part_text is_sent q → said p ≡ said q
  one_part p q fp fq e =
      sym (said_is p) ∙ one_shape (shape_of p) (shape_of q) (shape_fits p fp) (shape_fits q fq) (sym (part_is is_sent p) ∙ e ∙ part_is is_sent q) ∙ said_is q

  -- ---- parts

  suffix_clear : (k : ℕ) (s : Suffix) → IsSuffix k s → is_clear (suffix_text is_sent s) ≡ true
  suffix_clear k (Fault a f) fits = fault_clear is_sent a f fits.0.0
  suffix_clear k PastEnd fits = refl
  suffix_clear k Absent fits = refl

  plain_clear : (f : Fixed) → is_clear (first_word f ++ (32 ∷ other_words f)) ≡ true
  plain_clear Lengths = refl
  plain_clear Withdrawn = refl
  plain_clear Nlri = refl
  plain_clear Cut = refl
  plain_clear Base = refl

  shape_clear : (s : Shape) → IsShape s → is_clear (shape_text is_sent s) ≡ true
  shape_clear (Plain f) fits = plain_clear f
  shape_clear (Named k s) fits =
      let small = fits.0 in
      both_clear (attribute_name k) (suffix_text is_sent s) (attribute_clear k (omega (arith, small))) (suffix_clear k s fits.1)

  part_clear : (p : told.Part) → HasOctets p → is_clear (part_text is_sent p) ≡ true
  part_clear p fits = ap is_clear (part_is is_sent p) ∙ shape_clear (shape_of p) (shape_fits p fits)

  filled : (xs : List ℕ) (c : ℕ) (ys zs : List ℕ) → (xs ++ (c ∷ ys)) ++ zs ≡ [] → ⊥
  filled [] c ys zs e = cc
  filled (x ∷ xs) c ys zs e = cc

  shape_filled : (s : Shape) (zs : List ℕ) → shape_text is_sent s ++ zs ≡ [] → ⊥
  shape_filled (Plain f) zs e = filled (first_word f) 32 (other_words f) zs e
  shape_filled (Named k s) zs e = filled (attribute_name k) 32 (tail_of (suffix_text is_sent s)) zs (ap (λ (t : List ℕ). t ++ zs) (sym (behind_name k s)) ∙ e)

  part_filled : (p : told.Part) (zs : List ℕ) → part_text is_sent p ++ zs ≡ [] → ⊥
  part_filled p zs e = shape_filled (shape_of p) zs (ap (λ (t : List ℕ). t ++ zs) (sym (part_is is_sent p)) ∙ e)

  abbrev rest_text : List told.Part → List ℕ
  rest_text parts = update_parts_by is_sent (codes "; ") parts

  -- nothing follows a part, or a semicolon
  rest_stops : (parts : List told.Part) → stops 59 (rest_text parts) ≡ true
  rest_stops [] = refl
  rest_stops (p ∷ parts) = refl

  -- a part, and those behind it
  one_first : (p q : told.Part) (ps qs : List told.Part) → HasOctets p → HasOctets q → part_text is_sent p ++ rest_text ps ≡ part_text is_sent q ++ rest_text qs
      → (said p ≡ said q) × (rest_text ps ≡ rest_text qs)
  one_first p q ps qs fp fq e =
      let split = one_front 59 (part_text is_sent p) (part_text is_sent q) (rest_text ps) (rest_text qs)
      (clear_lacks (part_text is_sent p) (part_clear p fp)) (clear_lacks (part_text is_sent q) (part_clear q fq)) (rest_stops ps) (rest_stops qs) e in
      (one_part p q fp fq split.0, split.1)

  one_rest : (ps qs : List told.Part) → AllByRecursion HasOctets ps → AllByRecursion HasOctets qs → rest_text ps ≡ rest_text qs → map said ps ≡ map said qs
  one_rest [] [] fp fq e = refl
  one_rest [] (q ∷ qs) fp fq e = let none : [] ≡ 59 ∷ 32 ∷ (part_text is_sent q ++ rest_text qs) = e in cc
  one_rest (p ∷ ps) [] fp fq e = let none : [] ≡ 59 ∷ 32 ∷ (part_text is_sent p ++ rest_text ps) = sym e in cc
  one_rest (p ∷ ps) (q ∷ qs) fp fq e =
      let both = one_first p q ps qs fp.0 fq.0 (append_cancel_left (codes "; ") (part_text is_sent p ++ rest_text ps) (part_text is_sent q ++ rest_text qs) e) in
      ap₂ ◌∷◌ both.0 (one_rest ps qs fp.1 fq.1 both.1)

  one_list : (ps qs : List told.Part) → AllByRecursion HasOctets ps → AllByRecursion HasOctets qs → update_parts_text is_sent ps ≡ update_parts_text is_sent qs
      → map said ps ≡ map said qs
  one_list [] [] fp fq e = refl
  one_list [] (q ∷ qs) fp fq e = absurd (part_filled q (rest_text qs) (sym e))
  one_list (p ∷ ps) [] fp fq e = absurd (part_filled p (rest_text ps) e)
  one_list (p ∷ ps) (q ∷ qs) fp fq e =
      let both = one_first p q ps qs fp.0 fq.0 e in
      ap₂ ◌∷◌ both.0 (one_rest ps qs fp.1 fq.1 both.1)

  -- the whole text is clear, but for the separators
  rest_ascii : (ps : List told.Part) → AllByRecursion HasOctets ps → is_ascii (rest_text ps) ≡ true
  rest_ascii [] fits = refl
  rest_ascii (p ∷ ps) fits =
      both_ascii (codes "; ") (part_text is_sent p ++ rest_text ps) refl
      (both_ascii (part_text is_sent p) (rest_text ps) (clear_ascii (part_text is_sent p) (part_clear p fits.0)) (rest_ascii ps fits.1))

  pub parts_ascii : (ps : List told.Part) → AllByRecursion HasOctets ps → is_ascii (update_parts_text is_sent ps) ≡ true
  parts_ascii [] fits = refl
  parts_ascii (p ∷ ps) fits =
      both_ascii (part_text is_sent p) (rest_text ps) (clear_ascii (part_text is_sent p) (part_clear p fits.0)) (rest_ascii ps fits.1)

pub one_update : UpdatePartsDiffer
one_update is_sent ps qs fp fq e = one_list is_sent ps qs fp fq e
