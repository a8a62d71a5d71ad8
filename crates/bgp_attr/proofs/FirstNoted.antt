-- Noting attributes one at a time, the first of each type.
use Rattle.std.proofs.Common.{◌≡◌, ℕ, zero, suc, ◌<◌, ◌==◌, false, List, [], ◌∷◌, length, get_or, slice_set, Option, None, Some, IfSome, is_some, replicate, refl, sym, ap, ◌∙◌, inl, inr, get_or-set_same, get_or-set_other}
use Rattle.std.specs.Option.{option_or}
use Rattle.std.proofs.lemmas.Bool.{cases_Bool, eqb-true, eqb-false}
use Rattle.bgp_attr.specs.declared.field.Attr.{Attr}
use Rattle.bgp_attr.specs.declared.types.AttrType.{AttrType}
use Rattle.bgp_attr.specs.Field.{Attribute, attribute_of}
use Rattle.bgp_attr.specs.First.{first_of, first_at, with_next}
use Rattle.bgp_attr.specs.Types.{type_number}

none_from : (x : Option Attr) → is_some x ≡ false → x ≡ None
none_from None e = refl
none_from (Some a) e = absurd cc

nones : (n k : ℕ) → get_or (replicate {A = Option Attr} n None) k None ≡ None
nones zero k = refl
nones (suc n) zero = refl
nones (suc n) (suc k) = nones n k

-- where there is nothing, no attribute stands at a wrong place
pub none_at : (n k : ℕ) → IfSome (get_or (replicate {A = Option Attr} n None) k None) (λ a. a.kind ≡ k)
none_at n k = rw (nones n k) tt

pub placed : (places : List (Option Attr)) (a : Attr) (i : ℕ) (t : AttrType) → i ≡ a.kind → i < length places → is_some (get_or places i None) ≡ false
    → first_at (slice_set places i (Some a)) t ≡ with_next (first_at places) (attribute_of a) t
placed places a i t is lt none = elim (cases_Bool (a.kind == type_number t)) [
  | inl e ↦
      let here : type_number t ≡ i = sym (eqb-true a.kind (type_number t) e) ∙ sym is in
      rw (e, here, get_or-set_same places i (Some a) None lt, none_from (get_or places i None) none) refl
  | inr e ↦
      let other = λ (same : type_number t ≡ i). eqb-false a.kind (type_number t) e (sym (same ∙ is)) in
      rw (e, get_or-set_other places i (type_number t) (Some a) None other) refl
]

or_here : (first : Option Attribute) (a : Attribute) (rest : Option Attribute) → option_or (option_or first (Some a)) rest ≡ option_or first (Some a)
or_here None a rest = refl
or_here (Some b) a rest = refl

pub noted : (old new : AttrType → Option Attribute) (a : Attribute) (xs rest : List Attribute) (t : AttrType) (all : Option Attribute) → xs ≡ a ∷ rest → new t ≡ with_next old a t
    → option_or (old t) (first_of (type_number t) xs) ≡ all → option_or (new t) (first_of (type_number t) rest) ≡ all
noted old new a xs rest t all more next before = elim (cases_Bool (a.kind == type_number t)) [
  | inl e ↦
      let after : new t ≡ option_or (old t) (Some a) = next ∙ rw e refl in
      let front : first_of (type_number t) xs ≡ Some a = ap (first_of (type_number t)) more ∙ rw e refl in
      ap (λ f. option_or f (first_of (type_number t) rest)) after ∙ or_here (old t) a (first_of (type_number t) rest) ∙ ap (option_or (old t)) (sym front) ∙ before
  | inr e ↦
      let after : new t ≡ old t = next ∙ rw e refl in
      let front : first_of (type_number t) xs ≡ first_of (type_number t) rest = ap (first_of (type_number t)) more ∙ rw e refl in
      ap (λ f. option_or f (first_of (type_number t) rest)) after ∙ ap (option_or (old t)) (sym front) ∙ before
]

or_none : (first : Option Attribute) → option_or first None ≡ first
or_none None = refl
or_none (Some a) = refl

pub all_noted : (first : AttrType → Option Attribute) (xs : List Attribute) (t : AttrType) (all : Option Attribute) → xs ≡ [] → option_or (first t) (first_of (type_number t) xs) ≡ all → first t ≡ all
all_noted first xs t all none before =
    sym (or_none (first t)) ∙ ap (option_or (first t)) (sym (ap (first_of (type_number t)) none)) ∙ before
