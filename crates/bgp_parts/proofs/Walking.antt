-- A walk over attributes with two tables: the types seen so far, and those seen twice.
use Rattle.std.proofs.Common.{◌≡◌, ℕ, zero, suc, ◌<◌, ◌==◌, Bool, true, false, List, [], ◌∷◌, ◌++◌, length, map, get_or, replicate, is_some, refl, sym, ap, ◌∙◌, inl, inr, append_assoc, append-nil, get_or-set_same, get_or-set_other}
use Rattle.std.proofs.Math.ListN.{set}
use Rattle.std.proofs.lemmas.Bool.{cases_Bool, eqb-true, eqb-false}
use Rattle.bgp_open.specs.declared.link.Link.{Link}
use Rattle.bgp_open.specs.declared.route_form.RouteForm.{RouteForm}
use Rattle.bgp_attr.specs.Field.{Attribute}
use Rattle.bgp_attr.specs.First.{first_of}
use Rattle.bgp_update.specs.Found.{is_repeated}
use Rattle.bgp_parts.specs.AttributeFaults.{first_faults}
use Rattle.bgp_parts.specs.UpdateParts.{Part, Faulty, parts_after, attribute_parts}
use Rattle.bgp_parts.specs.declared.attribute.AttributeFault.TheVariants.{Repeated}

-- the attributes before, and what is told of them and those that are left
pub record Walked (link : Link) (form : RouteForm) (out start : List Part) (seen repeated : List Bool) (left all : List Attribute) : Type 0 where
  pub before : List Attribute
  pub told : out ++ attribute_parts link form before left ≡ start ++ attribute_parts link form [] all
  pub is_seen : (k : ℕ) → get_or seen k false ≡ is_some (first_of k before)
  pub is_twice : (k : ℕ) → get_or repeated k false ≡ is_repeated k before

blank : (n k : ℕ) → get_or (replicate n false) k false ≡ false
blank zero k = refl
blank (suc n) zero = refl
blank (suc n) (suc k) = blank n k

pub begun : (link : Link) (form : RouteForm) (start : List Part) (n m : ℕ) (left all : List Attribute) → left ≡ all
    → Walked link form start start (replicate n false) (replicate m false) left all
begun link form start n m left all e = record {
  before = [];
  told = ap (λ (xs : List Attribute). start ++ attribute_parts link form [] xs) e;
  is_seen = blank n;
  is_twice = blank m;
}

pub ended : (link : Link) (form : RouteForm) (out start : List Part) (seen repeated : List Bool) (left all : List Attribute)
    → Walked link form out start seen repeated left all → left ≡ [] → out ≡ start ++ attribute_parts link form [] all
ended link form out start seen repeated left all w e =
    sym (append-nil out) ∙ ap (λ (xs : List Attribute). out ++ attribute_parts link form w.before xs) (sym e) ∙ w.told

-- a type that isn't seen isn't seen twice
once : (k : ℕ) (xs : List Attribute) → is_some (first_of k xs) ≡ false → is_repeated k xs ≡ false
once k [] none = refl
once k (a ∷ rest) none = elim (cases_Bool (a.kind == k)) [
  | inl same ↦ absurd (let e = rw same at none in cc)
  | inr other ↦ rw other (once k rest (rw other at none))
]

-- one attribute more before
with_one : (link : Link) (form : RouteForm) (out next start x : List Part) (before : List Attribute) (a : Attribute) (left rest all : List Attribute)
    → left ≡ a ∷ rest → next ≡ out ++ x → parts_after link form before a ≡ x
    → out ++ attribute_parts link form before left ≡ start ++ attribute_parts link form [] all
    → next ++ attribute_parts link form (a ∷ before) rest ≡ start ++ attribute_parts link form [] all
with_one link form out next start x before a left rest all e n x_is told =
    ap (λ (o : List Part). o ++ attribute_parts link form (a ∷ before) rest) (n ∙ ap (λ (y : List Part). out ++ y) (sym x_is))
    ∙ append_assoc out (parts_after link form before a) (attribute_parts link form (a ∷ before) rest)
    ∙ ap (λ (xs : List Attribute). out ++ attribute_parts link form before xs) (sym e) ∙ told

at_marked : (seen : List Bool) (kind place k : ℕ) → place ≡ kind → place < length seen → (kind == k) ≡ true
    → get_or (set seen place true) k false ≡ true
at_marked seen kind place k p inside same =
    ap (λ (j : ℕ). get_or (set seen place true) j false) (sym (eqb-true kind k same) ∙ sym p)
    ∙ get_or-set_same seen place true false inside

at_other : (seen : List Bool) (kind place k : ℕ) → place ≡ kind → (kind == k) ≡ false
    → get_or (set seen place true) k false ≡ get_or seen k false
at_other seen kind place k p other =
    get_or-set_other seen place k true false (λ is. eqb-false kind k other (sym (is ∙ p)))

pub first_seen : (link : Link) (form : RouteForm) (out next start : List Part) (seen repeated : List Bool) (a : Attribute) (left rest all : List Attribute) (place : ℕ)
    → Walked link form out start seen repeated left all → left ≡ a ∷ rest → place ≡ a.kind → place < length seen
    → get_or seen place false ≡ false → next ≡ out ++ map (Faulty a) (first_faults link form a)
    → Walked link form next start (set seen place true) repeated rest all
first_seen link form out next start seen repeated a left rest all place w e p inside new n =
    let none : is_some (first_of a.kind w.before) ≡ false =
    sym (w.is_seen a.kind) ∙ ap (λ (j : ℕ). get_or seen j false) (sym p) ∙ new in
    record {
      before = a ∷ w.before;
      told = with_one link form out next start _ w.before a left rest all e n (rw none refl) w.told;
      is_seen = λ k. elim (cases_Bool (a.kind == k)) [
        | inl same ↦ at_marked seen a.kind place k p inside same ∙ rw same refl
        | inr other ↦ at_other seen a.kind place k p other ∙ w.is_seen k ∙ rw other refl
      ];
      is_twice = λ k. elim (cases_Bool (a.kind == k)) [
        | inl same ↦
            let here : is_some (first_of k w.before) ≡ false = ap (λ (j : ℕ). is_some (first_of j w.before)) (sym (eqb-true a.kind k same)) ∙ none in
            w.is_twice k ∙ once k w.before here ∙ sym here ∙ rw same refl
        | inr other ↦ w.is_twice k ∙ rw other refl
      ];
    }

pub second_seen : (link : Link) (form : RouteForm) (out next start : List Part) (seen repeated : List Bool) (a : Attribute) (left rest all : List Attribute) (place : ℕ)
    → Walked link form out start seen repeated left all → left ≡ a ∷ rest → place ≡ a.kind → place < length repeated
    → get_or seen place false ≡ true → get_or repeated place false ≡ false → next ≡ out ++ Faulty a Repeated ∷ []
    → Walked link form next start seen (set repeated place true) rest all
second_seen link form out next start seen repeated a left rest all place w e p inside old new n =
    let some : is_some (first_of a.kind w.before) ≡ true =
    sym (w.is_seen a.kind) ∙ ap (λ (j : ℕ). get_or seen j false) (sym p) ∙ old in
    let single : is_repeated a.kind w.before ≡ false =
    sym (w.is_twice a.kind) ∙ ap (λ (j : ℕ). get_or repeated j false) (sym p) ∙ new in
    record {
      before = a ∷ w.before;
      told = with_one link form out next start _ w.before a left rest all e n (rw (some, single) refl) w.told;
      is_seen = λ k. elim (cases_Bool (a.kind == k)) [
        | inl same ↦ w.is_seen k ∙ ap (λ (j : ℕ). is_some (first_of j w.before)) (sym (eqb-true a.kind k same)) ∙ some ∙ rw same refl
        | inr other ↦ w.is_seen k ∙ rw other refl
      ];
      is_twice = λ k. elim (cases_Bool (a.kind == k)) [
        | inl same ↦
            let here : is_some (first_of k w.before) ≡ true = ap (λ (j : ℕ). is_some (first_of j w.before)) (sym (eqb-true a.kind k same)) ∙ some in
            at_marked repeated a.kind place k p inside same ∙ sym here ∙ rw same refl
        | inr other ↦ at_other repeated a.kind place k p other ∙ w.is_twice k ∙ rw other refl
      ];
    }

pub later_seen : (link : Link) (form : RouteForm) (out start : List Part) (seen repeated : List Bool) (a : Attribute) (left rest all : List Attribute) (place : ℕ)
    → Walked link form out start seen repeated left all → left ≡ a ∷ rest → place ≡ a.kind
    → get_or seen place false ≡ true → get_or repeated place false ≡ true
    → Walked link form out start seen repeated rest all
later_seen link form out start seen repeated a left rest all place w e p old twice =
    let some : is_some (first_of a.kind w.before) ≡ true =
    sym (w.is_seen a.kind) ∙ ap (λ (j : ℕ). get_or seen j false) (sym p) ∙ old in
    let many : is_repeated a.kind w.before ≡ true =
    sym (w.is_twice a.kind) ∙ ap (λ (j : ℕ). get_or repeated j false) (sym p) ∙ twice in
    record {
      before = a ∷ w.before;
      told = with_one link form out out start [] w.before a left rest all e (sym (append-nil out)) (rw (some, many) refl) w.told;
      is_seen = λ k. elim (cases_Bool (a.kind == k)) [
        | inl same ↦ w.is_seen k ∙ ap (λ (j : ℕ). is_some (first_of j w.before)) (sym (eqb-true a.kind k same)) ∙ some ∙ rw same refl
        | inr other ↦ w.is_seen k ∙ rw other refl
      ];
      is_twice = λ k. elim (cases_Bool (a.kind == k)) [
        | inl same ↦
            let here : is_some (first_of k w.before) ≡ true = ap (λ (j : ℕ). is_some (first_of j w.before)) (sym (eqb-true a.kind k same)) ∙ some in
            w.is_twice k ∙ ap (λ (j : ℕ). is_repeated j w.before) (sym (eqb-true a.kind k same)) ∙ many ∙ sym here ∙ rw same refl
        | inr other ↦ w.is_twice k ∙ rw other refl
      ];
    }
