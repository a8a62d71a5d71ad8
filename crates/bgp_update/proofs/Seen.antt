-- A pass over attributes with a table of the types seen so far.
use Rattle.std.proofs.Common.{◌≡◌, ℕ, zero, suc, ◌<◌, ◌||◌, ◌==◌, Bool, true, false, List, [], ◌∷◌, length, get_or, replicate, if◌then◌else◌, refl, sym, ap, ◌∙◌, inl, inr, get_or-set_same, get_or-set_other, is_some, ◌≢◌}
use Rattle.std.proofs.Math.ListN.{set}
use Rattle.std.specs.List.{list_any}
use Rattle.std.proofs.lemmas.Bool.{cases_Bool, eqb-true, eqb-false}
use Rattle.bgp_attr.specs.declared.classes.Side.{Side}
use Rattle.bgp_attr.specs.Field.{Attribute}
use Rattle.bgp_attr.specs.First.{first_of, firsts, has_repeats, without}
use Rattle.bgp_update.specs.Found.{ClassesFound, classes_found, is_repeated}
use Rattle.bgp_update.specs.Noted.{noted_with}

-- the attributes whose types aren't marked
abbrev pub unseen : List Bool → List Attribute → List Attribute
unseen seen [] = []
unseen seen (a ∷ rest) = if get_or seen a.kind false then unseen seen rest else a ∷ unseen seen rest

abbrev pub all_noted : Side → ClassesFound → List Attribute → ClassesFound
all_noted side c [] = c
all_noted side c (a ∷ rest) = all_noted side (noted_with side c a) rest

abbrev pub none_noted : ClassesFound
none_noted = record { reset = false; withdraw = false; plain_withdraw = false; discard = false }

skip : (seen : List Bool) (kind : ℕ) (xs : List Attribute) → get_or seen kind false ≡ true → unseen seen (without kind xs) ≡ unseen seen xs
skip seen kind [] h = refl
skip seen kind (a ∷ rest) h = elim (cases_Bool (a.kind == kind)) [
  | inl e ↦ let same : get_or seen a.kind false ≡ true = ap (λ (k : ℕ). get_or seen k false) (eqb-true a.kind kind e) ∙ h in rw (e, same) (skip seen kind rest h)
  | inr e ↦ rw e (ap (λ (t : List Attribute). if get_or seen a.kind false then t else a ∷ t) (skip seen kind rest h))
]

mark : (seen : List Bool) (kind : ℕ) (xs : List Attribute) → kind < length seen → unseen seen (without kind xs) ≡ unseen (set seen kind true) xs
mark seen kind [] h = refl
mark seen kind (a ∷ rest) h = elim (cases_Bool (a.kind == kind)) [
  | inl e ↦ let same : get_or (set seen kind true) a.kind false ≡ true = ap (λ (k : ℕ). get_or (set seen kind true) k false) (eqb-true a.kind kind e) ∙ get_or-set_same seen kind true false h in rw (e, same) (mark seen kind rest h)
  | inr e ↦ let other : get_or (set seen kind true) a.kind false ≡ get_or seen a.kind false = get_or-set_other seen kind a.kind true false (eqb-false a.kind kind e) in rw (e, other) (ap (λ (t : List Attribute). if get_or seen a.kind false then t else a ∷ t) (mark seen kind rest h))
]

step_seen : (seen : List Bool) (a : Attribute) (rest : List Attribute) → get_or seen a.kind false ≡ true → unseen seen (firsts (a ∷ rest)) ≡ unseen seen (firsts rest)
step_seen seen a rest h = rw h (skip seen a.kind (firsts rest) h)

step_new : (seen : List Bool) (a : Attribute) (rest : List Attribute) → get_or seen a.kind false ≡ false → a.kind < length seen → unseen seen (firsts (a ∷ rest)) ≡ a ∷ unseen (set seen a.kind true) (firsts rest)
step_new seen a rest h k = rw h (ap (λ (t : List Attribute). a ∷ t) (mark seen a.kind (firsts rest) k))

blank : (n k : ℕ) → get_or (replicate n false) k false ≡ false
blank zero k = refl
blank (suc n) zero = refl
blank (suc n) (suc k) = blank n k

pub none_seen : (n : ℕ) (xs : List Attribute) → unseen (replicate n false) xs ≡ xs
none_seen n [] = refl
none_seen n (a ∷ rest) = rw (blank n a.kind) (ap (λ (t : List Attribute). a ∷ t) (none_seen n rest))

pub pass_seen : (side : Side) (c r : ClassesFound) (seen : List Bool) (xs : List Attribute) (a : Attribute) (rest : List Attribute) (place : ℕ) → place ≡ a.kind → xs ≡ a ∷ rest → get_or seen place false ≡ true
    → all_noted side c (unseen seen (firsts xs)) ≡ r → all_noted side c (unseen seen (firsts rest)) ≡ r
pass_seen side c r seen xs a rest place p e m h = ap (all_noted side c) (sym (ap (λ (t : List Attribute). unseen seen (firsts t)) e ∙ step_seen seen a rest (rw p at m))) ∙ h

pub pass_new : (side : Side) (c r : ClassesFound) (seen : List Bool) (xs : List Attribute) (a : Attribute) (rest : List Attribute) (place : ℕ) → place ≡ a.kind → xs ≡ a ∷ rest → get_or seen place false ≡ false → place < length seen
    → all_noted side c (unseen seen (firsts xs)) ≡ r → all_noted side (noted_with side c a) (unseen (set seen place true) (firsts rest)) ≡ r
pass_new side c r seen xs a rest place p e m k h = rw p (ap (all_noted side c) (sym (ap (λ (t : List Attribute). unseen seen (firsts t)) e ∙ step_new seen a rest (rw p at m) (rw p at k))) ∙ h)

or_false : (b : Bool) → b ≡ (b || false)
or_false true = refl
or_false false = refl

or_assoc : (a b c : Bool) → ((a || b) || c) ≡ (a || (b || c))
or_assoc true b c = refl
or_assoc false b c = refl

joined : (side : Side) (c : ClassesFound) (xs : List Attribute)
    → all_noted side c xs ≡ record { reset = c.reset || (classes_found side xs).reset; withdraw = c.withdraw || (classes_found side xs).withdraw; plain_withdraw = c.plain_withdraw || (classes_found side xs).plain_withdraw; discard = c.discard || (classes_found side xs).discard }
joined side c [] = λ i. record { reset = or_false c.reset i; withdraw = or_false c.withdraw i; plain_withdraw = or_false c.plain_withdraw i; discard = or_false c.discard i }
joined side c (a ∷ rest) =
    let one = noted_with side none_noted a in
    joined side (noted_with side c a) rest ∙ (λ i. record {
      reset = or_assoc c.reset one.reset (classes_found side rest).reset i;
      withdraw = or_assoc c.withdraw one.withdraw (classes_found side rest).withdraw i;
      plain_withdraw = or_assoc c.plain_withdraw one.plain_withdraw (classes_found side rest).plain_withdraw i;
      discard = or_assoc c.discard one.discard (classes_found side rest).discard i;
    })

pub pass_done : (side : Side) (c : ClassesFound) (seen : List Bool) (xs all : List Attribute) → xs ≡ []
    → all_noted side c (unseen seen (firsts xs)) ≡ all_noted side none_noted (firsts all) → c ≡ classes_found side (firsts all)
pass_done side c seen xs all e h = sym (ap (λ (t : List Attribute). all_noted side c (unseen seen (firsts t))) e) ∙ h ∙ joined side none_noted (firsts all)

-- ---- which types are there, and which more than once

-- the table of marks has one mark more
pub record Marks (seen : List Bool) (kind : ℕ) (next : List Bool) : Type 0 where
  pub here : get_or next kind false ≡ true
  pub others : (k : ℕ) → k ≢ kind → get_or next k false ≡ get_or seen k false

pub set_marks : (seen : List Bool) (place kind : ℕ) → place ≡ kind → place < length seen → Marks seen kind (set seen place true)
set_marks seen place kind p h = rw p (record {
  here = get_or-set_same seen kind true false (rw p at h);
  others = λ k other. get_or-set_other seen kind k true false other;
})

pub old_marks : (seen : List Bool) (place kind : ℕ) → place ≡ kind → get_or seen place false ≡ true → Marks seen kind seen
old_marks seen place kind p h = record { here = rw p at h; others = λ k other. refl }

or_true : (b : Bool) → (b || true) ≡ true
or_true true = refl
or_true false = refl

pub present_step : (seen next : List Bool) (a : Attribute) (xs rest all : List Attribute) → Marks seen a.kind next → xs ≡ a ∷ rest
    → ((k : ℕ) → (get_or seen k false || is_some (first_of k xs)) ≡ is_some (first_of k all))
    → (k : ℕ) → (get_or next k false || is_some (first_of k rest)) ≡ is_some (first_of k all)
present_step seen next a xs rest all m e before k = elim (cases_Bool (a.kind == k)) [
  | inl same ↦
      let is : k ≡ a.kind = sym (eqb-true a.kind k same) in
      let marked : get_or next k false ≡ true = ap (λ (j : ℕ). get_or next j false) is ∙ m.here in
      let found : is_some (first_of k xs) ≡ true = ap (λ (t : List Attribute). is_some (first_of k t)) e ∙ rw same refl in
      rw marked (sym (or_true (get_or seen k false)) ∙ ap (λ (b : Bool). get_or seen k false || b) (sym found) ∙ before k)
  | inr other ↦
      let apart : k ≢ a.kind = λ is. eqb-false a.kind k other (sym is) in
      let skipped : is_some (first_of k xs) ≡ is_some (first_of k rest) = ap (λ (t : List Attribute). is_some (first_of k t)) e ∙ rw other refl in
      rw (m.others k apart) (ap (λ (b : Bool). get_or seen k false || b) (sym skipped) ∙ before k)
]

pub present_init : (n : ℕ) (xs all : List Attribute) → xs ≡ all → (k : ℕ) → (get_or (replicate n false) k false || is_some (first_of k xs)) ≡ is_some (first_of k all)
present_init n xs all e k = rw (blank n k) (ap (λ (t : List Attribute). is_some (first_of k t)) e)

pub present_done : (seen : List Bool) (xs all : List Attribute) → xs ≡ []
    → ((k : ℕ) → (get_or seen k false || is_some (first_of k xs)) ≡ is_some (first_of k all)) → (k : ℕ) → get_or seen k false ≡ is_some (first_of k all)
present_done seen xs all e before k = or_false (get_or seen k false) ∙ ap (λ (t : List Attribute). get_or seen k false || is_some (first_of k t)) (sym e) ∙ before k

-- some attribute's type is marked
abbrev pub any_seen : List Bool → List Attribute → Bool
any_seen seen xs = list_any (λ a. get_or seen a.kind false) xs

any_marked : (seen next : List Bool) (kind : ℕ) (xs : List Attribute) → Marks seen kind next → any_seen next xs ≡ (any_seen seen xs || is_some (first_of kind xs))
any_marked seen next kind [] m = refl
any_marked seen next kind (a ∷ rest) m = elim (cases_Bool (a.kind == kind)) [
  | inl same ↦
      let marked : get_or next a.kind false ≡ true = ap (λ (j : ℕ). get_or next j false) (eqb-true a.kind kind same) ∙ m.here in
      rw (marked, same) (sym (or_true (get_or seen a.kind false || any_seen seen rest)))
  | inr other ↦
      let others : get_or next a.kind false ≡ get_or seen a.kind false = m.others a.kind (eqb-false a.kind kind other) in
      rw (others, other, any_marked seen next kind rest m) (sym (or_assoc (get_or seen a.kind false) (any_seen seen rest) (is_some (first_of kind rest))))
]

none_any : (n : ℕ) (xs : List Attribute) → any_seen (replicate n false) xs ≡ false
none_any n [] = refl
none_any n (a ∷ rest) = rw (blank n a.kind) (none_any n rest)

pub repeats_init : (n : ℕ) (xs all : List Attribute) → xs ≡ all → (false || (any_seen (replicate n false) xs || has_repeats xs)) ≡ has_repeats all
repeats_init n xs all e = rw (none_any n xs) (ap has_repeats e)

pub repeats_new : (seen next : List Bool) (r : Bool) (a : Attribute) (xs rest all : List Attribute) → Marks seen a.kind next → get_or seen a.kind false ≡ false → xs ≡ a ∷ rest
    → (r || (any_seen seen xs || has_repeats xs)) ≡ has_repeats all → (r || (any_seen next rest || has_repeats rest)) ≡ has_repeats all
repeats_new seen next r a xs rest all m unmarked e before =
    let here : (any_seen seen xs || has_repeats xs) ≡ (any_seen seen rest || (is_some (first_of a.kind rest) || has_repeats rest)) =
    ap (λ (t : List Attribute). any_seen seen t || has_repeats t) e ∙ rw unmarked refl in
    ap (λ (b : Bool). r || b) (rw (any_marked seen next a.kind rest m) (or_assoc (any_seen seen rest) (is_some (first_of a.kind rest)) (has_repeats rest)) ∙ sym here) ∙ before

pub repeats_seen : (seen next : List Bool) (r : Bool) (a : Attribute) (xs rest all : List Attribute) → get_or seen a.kind false ≡ true → xs ≡ a ∷ rest
    → (r || (any_seen seen xs || has_repeats xs)) ≡ has_repeats all → (true || (any_seen next rest || has_repeats rest)) ≡ has_repeats all
repeats_seen seen next r a xs rest all marked e before =
    let here : (any_seen seen xs || has_repeats xs) ≡ true = ap (λ (t : List Attribute). any_seen seen t || has_repeats t) e ∙ rw marked refl in
    sym (or_true r) ∙ ap (λ (b : Bool). r || b) (sym here) ∙ before

pub flag_init : (P : Attribute → Bool) (xs all : List Attribute) → xs ≡ all → (false || list_any P xs) ≡ list_any P all
flag_init P xs all e = ap (list_any P) e

pub flag_step : (P : Attribute → Bool) (o : Bool) (a : Attribute) (xs rest all : List Attribute) → xs ≡ a ∷ rest → (o || list_any P xs) ≡ list_any P all → ((o || P a) || list_any P rest) ≡ list_any P all
flag_step P o a xs rest all e before = or_assoc o (P a) (list_any P rest) ∙ ap (λ (t : List Attribute). o || list_any P t) (sym e) ∙ before

pub flag_done : (P : Attribute → Bool) (o : Bool) (xs all : List Attribute) → xs ≡ [] → (o || list_any P xs) ≡ list_any P all → o ≡ list_any P all
flag_done P o xs all e before = or_false o ∙ ap (λ (t : List Attribute). o || list_any P t) (sym e) ∙ before

pub repeats_done : (seen : List Bool) (r : Bool) (xs all : List Attribute) → xs ≡ [] → (r || (any_seen seen xs || has_repeats xs)) ≡ has_repeats all → r ≡ has_repeats all
repeats_done seen r xs all e before = or_false r ∙ ap (λ (t : List Attribute). r || (any_seen seen t || has_repeats t)) (sym e) ∙ before

or_parts : (a b : Bool) → (a || b) ≡ false → (a ≡ false) × (b ≡ false)
or_parts true b h = absurd cc
or_parts false b h = (refl, h)

-- a type can stand more than once only where some type does
pub single : (kind : ℕ) (xs : List Attribute) → has_repeats xs ≡ false → is_repeated kind xs ≡ false
single kind [] h = refl
single kind (a ∷ rest) h =
    let parts = or_parts (is_some (first_of a.kind rest)) (has_repeats rest) h in
    elim (cases_Bool (a.kind == kind)) [
      | inl same ↦ rw same (ap (λ (k : ℕ). is_some (first_of k rest)) (sym (eqb-true a.kind kind same)) ∙ parts.0)
      | inr other ↦ rw other (single kind rest parts.1)
    ]
