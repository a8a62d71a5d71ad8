-- No attribute has a part exactly where none is at fault and no type stands twice.
use Rattle.std.proofs.Common.{◌≡◌, ◌==◌, ◌||◌, ℕ, Bool, true, false, List, [], ◌∷◌, ◌++◌, map, is_some, Some, refl, sym, ap, ◌∙◌, inl, inr}
use Rattle.std.specs.Prelude.{IfSome}
use Rattle.std.specs.List.{list_any}
use Rattle.std.proofs.lemmas.Bool.{cases_Bool, eqb-true, eq-eqb}
use Rattle.bgp_open.specs.declared.link.Link.{Link}
use Rattle.bgp_open.specs.declared.route_form.RouteForm.{RouteForm}
use Rattle.bgp_attr.specs.Field.{Attribute}
use Rattle.bgp_attr.specs.First.{first_of, firsts, has_repeats, without}
use Rattle.bgp_update.proofs.Seen.{single}
use Rattle.bgp_parts.specs.AttributeFaults.{first_faults}
use Rattle.bgp_parts.specs.UpdateParts.{Part, Faulty, attribute_parts}
use Rattle.bgp_parts.specs.declared.attribute.AttributeFault.{AttributeFault}

-- no attribute is at fault
abbrev pub AreFine : Link → RouteForm → List Attribute → Type 0
AreFine link form [] = Unit {0}
AreFine link form (a ∷ rest) = (first_faults link form a ≡ []) × AreFine link form rest

both : true ≡ false → ⊥
both e = absurd cc

pub front_nil : (xs ys : List Part) → xs ++ ys ≡ [] → xs ≡ []
front_nil [] ys e = refl
front_nil (x ∷ xs) ys e = absurd cc

pub back_nil : (xs ys : List Part) → xs ++ ys ≡ [] → ys ≡ []
back_nil [] ys e = e
back_nil (x ∷ xs) ys e = absurd cc

no_faults : (a : Attribute) (faults : List AttributeFault) → map (Faulty a) faults ≡ [] → faults ≡ []
no_faults a [] e = refl
no_faults a (fault ∷ faults) e = absurd cc

or_parts : (a b : Bool) → (a || b) ≡ false → (a ≡ false) × (b ≡ false)
or_parts true b h = absurd cc
or_parts false b h = (refl, h)

-- nothing is told of attributes after these
record Quiet (link : Link) (form : RouteForm) (before xs : List Attribute) : Type 0 where
  fine : AreFine link form xs
  no_repeats : has_repeats xs ≡ false
  apart : (k : ℕ) → is_some (first_of k before) ≡ true → is_some (first_of k xs) ≡ false

quiet : (link : Link) (form : RouteForm) (before xs : List Attribute) → has_repeats before ≡ false → attribute_parts link form before xs ≡ []
    → Quiet link form before xs
quiet link form before [] unique e = record { fine = tt; no_repeats = refl; apart = λ k some. refl }
quiet link form before (a ∷ rest) unique e = elim (cases_Bool (is_some (first_of a.kind before))) [
  | inl some ↦ absurd (
      let here = front_nil _ (attribute_parts link form (a ∷ before) rest) e in
      let repeated = rw (some, single a.kind before unique) at here in cc)
  | inr none ↦
      let here = front_nil _ (attribute_parts link form (a ∷ before) rest) e in
      let head : first_faults link form a ≡ [] = no_faults a (first_faults link form a) (rw none at here) in
      let unique_with : has_repeats (a ∷ before) ≡ false = rw (none, unique) refl in
      let q = quiet link form (a ∷ before) rest unique_with (back_nil _ (attribute_parts link form (a ∷ before) rest) e) in
      let own : is_some (first_of a.kind (a ∷ before)) ≡ true = rw (eq-eqb a.kind a.kind refl) refl in
      record {
        fine = (head, q.fine);
        no_repeats = rw (q.apart a.kind own, q.no_repeats) refl;
        apart = λ k some. elim (cases_Bool (a.kind == k)) [
          | inl same ↦ absurd (both (sym some ∙ ap (λ (j : ℕ). is_some (first_of j before)) (sym (eqb-true a.kind k same)) ∙ none))
          | inr other ↦
              let there : is_some (first_of k (a ∷ before)) ≡ true = rw other some in
              rw other (q.apart k there)
        ];
      }
]

pub fine_if_quiet : (link : Link) (form : RouteForm) (xs : List Attribute) → attribute_parts link form [] xs ≡ []
    → AreFine link form xs × (has_repeats xs ≡ false)
fine_if_quiet link form xs e = let q = quiet link form [] xs refl e in (q.fine, q.no_repeats)

still : (link : Link) (form : RouteForm) (before xs : List Attribute) → AreFine link form xs → has_repeats xs ≡ false
    → ((k : ℕ) → is_some (first_of k xs) ≡ true → is_some (first_of k before) ≡ false) → attribute_parts link form before xs ≡ []
still link form before [] fine unique apart = refl
still link form before (a ∷ rest) fine unique apart =
    let parts = or_parts (is_some (first_of a.kind rest)) (has_repeats rest) unique in
    let own : is_some (first_of a.kind (a ∷ rest)) ≡ true = rw (eq-eqb a.kind a.kind refl) refl in
    let none = apart a.kind own in
    rw (none, fine.0) (still link form (a ∷ before) rest fine.1 parts.1 (λ k some. elim (cases_Bool (a.kind == k)) [
      | inl same ↦ absurd (both (sym some ∙ ap (λ (j : ℕ). is_some (first_of j rest)) (sym (eqb-true a.kind k same)) ∙ parts.0))
      | inr other ↦
          let there : is_some (first_of k (a ∷ rest)) ≡ true = rw other some in
          rw other (apart k there)
    ]))

pub quiet_if_fine : (link : Link) (form : RouteForm) (xs : List Attribute) → AreFine link form xs → has_repeats xs ≡ false → attribute_parts link form [] xs ≡ []
quiet_if_fine link form xs fine unique = still link form [] xs fine unique (λ k some. refl)

-- ---- where no type stands twice, each attribute is the first of its type

without_none : (kind : ℕ) (xs : List Attribute) → is_some (first_of kind xs) ≡ false → without kind xs ≡ xs
without_none kind [] none = refl
without_none kind (a ∷ rest) none = elim (cases_Bool (a.kind == kind)) [
  | inl same ↦ absurd (let e = rw same at none in cc)
  | inr other ↦ rw other (ap (λ (xs : List Attribute). a ∷ xs) (without_none kind rest (rw other at none)))
]

pub firsts_are_all : (xs : List Attribute) → has_repeats xs ≡ false → firsts xs ≡ xs
firsts_are_all [] unique = refl
firsts_are_all (a ∷ rest) unique =
    let parts = or_parts (is_some (first_of a.kind rest)) (has_repeats rest) unique in
    ap (λ (xs : List Attribute). a ∷ without a.kind xs) (firsts_are_all rest parts.1)
    ∙ ap (λ (xs : List Attribute). a ∷ xs) (without_none a.kind rest parts.0)

-- each attribute is the first of its type among these
abbrev pub AreFirst : List Attribute → List Attribute → Type 0
AreFirst all [] = Unit {0}
AreFirst all (a ∷ rest) = (first_of a.kind all ≡ Some a) × AreFirst all rest

-- another in front, of a type that none of them has
behind : (a : Attribute) (all xs : List Attribute) → is_some (first_of a.kind all) ≡ false → AreFirst all xs → AreFirst (a ∷ all) xs
behind a all [] none are = tt
behind a all (b ∷ rest) none are = (
  elim (cases_Bool (a.kind == b.kind)) [
    | inl same ↦ absurd (both (sym (ap is_some are.0) ∙ ap (λ (k : ℕ). is_some (first_of k all)) (sym (eqb-true a.kind b.kind same)) ∙ none))
    | inr other ↦ rw other are.0
  ],
  behind a all rest none are.1,
)

pub each_is_first : (xs : List Attribute) → has_repeats xs ≡ false → AreFirst xs xs
each_is_first [] unique = tt
each_is_first (a ∷ rest) unique =
    let parts = or_parts (is_some (first_of a.kind rest)) (has_repeats rest) unique in
    (rw (eq-eqb a.kind a.kind refl) refl, behind a rest rest parts.0 (each_is_first rest parts.1))

-- the first of a type is fine, and of the type
pub first_is_fine : (link : Link) (form : RouteForm) (kind : ℕ) (xs : List Attribute) → AreFine link form xs
    → IfSome (first_of kind xs) (λ a. (first_faults link form a ≡ []) × (a.kind ≡ kind))
first_is_fine link form kind [] fine = tt
first_is_fine link form kind (a ∷ rest) fine = elim (cases_Bool (a.kind == kind)) [
  | inl same ↦ rw same (fine.0, eqb-true a.kind kind same)
  | inr other ↦ rw other (first_is_fine link form kind rest fine.1)
]

-- none has what a fine one doesn't have
pub none_of : (link : Link) (form : RouteForm) (P : Attribute → Bool) (xs : List Attribute)
    → ((a : Attribute) → first_faults link form a ≡ [] → P a ≡ false) → AreFine link form xs → list_any P xs ≡ false
none_of link form P [] never fine = refl
none_of link form P (a ∷ rest) never fine = rw (never a fine.0) (none_of link form P rest never fine.1)
