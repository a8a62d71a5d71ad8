-- What is different has different texts.
use Rattle.std.proofs.Common.{◌≡◌, ◌∙◌, ◌==◌, ◌++◌, ◌∷◌, ℕ, Bool, true, false, List, [], Option, None, Some, codes, if◌then◌else◌, refl, sym, ap, inl, inr, lit<, slice_index, append-nil}
use Rattle.std.specs.Fmt.{decimal}
use Rattle.std.proofs.lemmas.Bool.{cases_Bool}
use Rattle.std.proofs.lemmas.Fmt.{decimal_injective}
use mathlib.Core.List.{append_cancel_left}
use Rattle.bgp_prefix.specs.declared.family.Family.TheVariants.{V4, V6}
use Rattle.bgp_open.specs.declared.families.Families.{Families}
use Rattle.bgp_attr.specs.Field.{Attribute}
use Rattle.bgp_names.specs.Errors.{error_name, short_error_name}
use Rattle.bgp_names.specs.Families.{families_by, families_name}
use Rattle.bgp_names.specs.Naming.{NamesOfTwoDiffer}
use Rattle.bgp_names.proofs.Distinct.{decimal_lacks, one_front}
use Rattle.bgp_parts.specs.declared.attribute.AttributeFault.{AttributeFault}
use Rattle.bgp_parts.specs.declared.attribute.AttributeFault.TheVariants as faults
use Rattle.bgp_names.specs.Text.{hex_text}
use Rattle.bgp_why_parts.specs.Codes.{code_text, full_code_text}
use Rattle.bgp_why_parts.specs.Updates.{fault_text, value_text}

-- ---- codes

-- a code and a subcode with a name in brackets, whichever
abbrev pub coded : (ℕ → ℕ → List ℕ) → ℕ → ℕ → List ℕ
coded name code subcode = decimal code ++ (codes "/" ++ (decimal subcode ++ (codes " (" ++ (name code subcode ++ codes ")"))))

one_coded : (name : ℕ → ℕ → List ℕ) → NamesOfTwoDiffer (coded name)
one_coded name k l m n sk sl sm sn e =
    let left = decimal l ++ (codes " (" ++ (name k l ++ codes ")")) in
    let right = decimal n ++ (codes " (" ++ (name m n ++ codes ")")) in
    let first = one_front 47 (decimal k) (decimal m) (codes "/" ++ left) (codes "/" ++ right) (decimal_lacks 47 k (lit< tt) sk) (decimal_lacks 47 m (lit< tt) sm) refl refl e in
    let second = one_front 32 (decimal l) (decimal n) (codes " (" ++ (name k l ++ codes ")")) (codes " (" ++ (name m n ++ codes ")")) (decimal_lacks 32 l (lit< tt) sl) (decimal_lacks 32 n (lit< tt) sn) refl refl
    (append_cancel_left (codes "/") left right first.1)
    in
    (decimal_injective k m sk sm first.0, decimal_injective l n sl sn second.0)

pub one_code : NamesOfTwoDiffer code_text
unfolding code_text
one_code = one_coded short_error_name

pub one_full_code : NamesOfTwoDiffer full_code_text
unfolding full_code_text
one_full_code = one_coded error_name

-- ---- sets of families

-- which families a text names
abbrev pub v4_in : List ℕ → Bool
v4_in text = slice_index text 3 == 52

abbrev pub v6_in : List ℕ → Bool
v6_in text = if slice_index text 3 == 54 then true else slice_index text 12 == 54

v4_back : (a b : Bool) → v4_in (families_by a b) ≡ a
v4_back false false = refl
v4_back true false = refl
v4_back false true = refl
v4_back true true = refl

v6_back : (a b : Bool) → v6_in (families_by a b) ≡ b
v6_back false false = refl
v6_back true false = refl
v6_back false true = refl
v6_back true true = refl

pub one_set : (one other : Families) → families_name one ≡ families_name other → one ≡ other
one_set one other e =
    let v4 : one.v4 ≡ other.v4 = sym (v4_back one.v4 one.v6) ∙ ap v4_in e ∙ v4_back other.v4 other.v6 in
    let v6 : one.v6 ≡ other.v6 = sym (v6_back one.v4 one.v6) ∙ ap v6_in e ∙ v6_back other.v4 other.v6 in
    ap (λ (b : Bool). record { v4 = b; v6 = one.v6 }) v4 ∙ ap (λ (b : Bool). record { v4 = other.v4; v6 = b }) v6

-- ---- faults of an attribute

-- the fault that a text tells, by single octets of it; that of a value is one of two
abbrev pub fault_in : List ℕ → AttributeFault
fault_in text =
    if slice_index text 1 == 109 then faults.Unknown
    else if slice_index text 1 == 114 then faults.Repeated
    else if slice_index text 1 == 102 then faults.FromExternalPeer
    else if slice_index text 1 == 116 then (if slice_index text 2 == 111 then faults.FromExternalPeer else faults.FourOctetAsNumbers)
    else if slice_index text 1 == 119 then (if slice_index text 12 == 102 then faults.Flags else faults.Value)
    else if slice_index text 4 == 102 then faults.BelowThreeOctets
    else if slice_index text 8 == 44 then faults.NotInUse (if slice_index text 7 == 52 then V4 else V6)
    else faults.Contents (if slice_index text 7 == 52 then V4 else V6)

-- a fault, but for what becomes of a value that is wrong
abbrev pub without_discarding : AttributeFault → AttributeFault
without_discarding faults.DiscardedValue = faults.Value
without_discarding fault = fault

fault_back : (is_sent : Bool) (a : Attribute) (fault : AttributeFault) → fault_in (fault_text is_sent a fault) ≡ without_discarding fault
fault_back is_sent a faults.Unknown = refl
fault_back is_sent a faults.Flags = refl
fault_back is_sent a faults.FourOctetAsNumbers = refl
fault_back true a faults.FromExternalPeer = refl
fault_back false a faults.FromExternalPeer = refl
fault_back is_sent a faults.Value = refl
fault_back is_sent a faults.DiscardedValue = refl
fault_back is_sent a faults.BelowThreeOctets = refl
fault_back is_sent a (faults.NotInUse V4) = refl
fault_back is_sent a (faults.NotInUse V6) = refl
fault_back is_sent a (faults.Contents V4) = refl
fault_back is_sent a (faults.Contents V6) = refl
fault_back is_sent a faults.Repeated = refl

-- what stands behind a text isn't that text
longer : (text : List ℕ) (c : ℕ) (more : List ℕ) → text ++ (c ∷ more) ≡ text → ⊥
longer text c more e =
    let none : c ∷ more ≡ [] = append_cancel_left text (c ∷ more) [] (e ∙ sym (append-nil text)) in cc

abbrev pub is_discarded : AttributeFault → Bool
is_discarded faults.DiscardedValue = true
is_discarded fault = false

abbrev pub rebuilt : Bool → AttributeFault → AttributeFault
rebuilt true fault = faults.DiscardedValue
rebuilt false fault = fault

rebuilt_is : (fault : AttributeFault) → rebuilt (is_discarded fault) (without_discarding fault) ≡ fault
rebuilt_is faults.Unknown = refl
rebuilt_is faults.Flags = refl
rebuilt_is faults.FourOctetAsNumbers = refl
rebuilt_is faults.FromExternalPeer = refl
rebuilt_is faults.Value = refl
rebuilt_is faults.DiscardedValue = refl
rebuilt_is faults.BelowThreeOctets = refl
rebuilt_is (faults.NotInUse family) = refl
rebuilt_is (faults.Contents family) = refl
rebuilt_is faults.Repeated = refl

discarded_is : (fault : AttributeFault) → is_discarded fault ≡ true → fault ≡ faults.DiscardedValue
discarded_is fault is = sym (rebuilt_is fault) ∙ ap (λ (b : Bool). rebuilt b (without_discarding fault)) is

kept_is : (fault : AttributeFault) → is_discarded fault ≡ false → fault ≡ without_discarding fault
kept_is fault isnt = sym (rebuilt_is fault) ∙ ap (λ (b : Bool). rebuilt b (without_discarding fault)) isnt

-- a value that is to be discarded has another text than one that isn't
not_both : (is_sent : Bool) (a : Attribute) (one other : AttributeFault) → is_discarded one ≡ true → is_discarded other ≡ false
    → fault_text is_sent a one ≡ fault_text is_sent a other → without_discarding one ≡ without_discarding other → ⊥
not_both is_sent a one other is isnt e same =
    let first = discarded_is one is in
    let second : other ≡ faults.Value = kept_is other isnt ∙ sym same ∙ ap without_discarding first in
    let texts : value_text a.value ++ (44 ∷ codes " to be discarded") ≡ value_text a.value = ap (fault_text is_sent a) (sym first) ∙ e ∙ ap (fault_text is_sent a) second in
    longer (value_text a.value) 44 (codes " to be discarded") texts

by_value : (is_sent : Bool) (a : Attribute) (one other : AttributeFault) → fault_text is_sent a one ≡ fault_text is_sent a other
    → without_discarding one ≡ without_discarding other → one ≡ other
by_value is_sent a one other e same = elim (cases_Bool (is_discarded one)) [
  | inl is ↦ elim (cases_Bool (is_discarded other)) [
    | inl is' ↦ discarded_is one is ∙ sym (discarded_is other is')
    | inr isnt' ↦ absurd (not_both is_sent a one other is isnt' e same)
  ]
  | inr isnt ↦ elim (cases_Bool (is_discarded other)) [
    | inl is' ↦ absurd (not_both is_sent a other one is' isnt (sym e) (sym same))
    | inr isnt' ↦ kept_is one isnt ∙ same ∙ sym (kept_is other isnt')
  ]
]

pub one_fault : (is_sent : Bool) (a : Attribute) (one other : AttributeFault) → fault_text is_sent a one ≡ fault_text is_sent a other → one ≡ other
one_fault is_sent a one other e =
    by_value is_sent a one other e (sym (fault_back is_sent a one) ∙ ap fault_in e ∙ fault_back is_sent a other)
