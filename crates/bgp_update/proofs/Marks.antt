-- Sets of subcodes as lists of marks.
use Rattle.std.proofs.Common.{◌≡◌, ◌↔◌, ◌⊎◌, ℕ, zero, suc, ◌+◌, ◌<◌, ◌≤◌, ◌||◌, Bool, true, false, not, List, [], ◌∷◌, length, Option, None, Some, is_some, IsTrue, IfSome, IfNone, MatchBool, get_or, refl, subst, inl, inr, arith}
use Rattle.std.proofs.lemmas.Bool.{cases_lt}
use Rattle.bgp_update.specs.declared.subcodes.Subcodes.{Subcodes}
use Rattle.bgp_update.specs.Subcodes.{HasSubcode, marks_of}

either : (a b : Bool) → IsTrue (a || b) ↔ (IsTrue a ⊎ IsTrue b)
either true b = (λ h. inl refl, λ h. refl)
either false b = (λ h. inr h, λ h. elim h [ inl e ↦ absurd cc | inr e ↦ e ])

neither : IsTrue false ↔ (IsTrue false ⊎ IsTrue false)
neither = (λ h. inl h, λ h. elim h [ inl e ↦ e | inr e ↦ e ])

-- mark by mark
abbrev pub marks_or : List Bool → List Bool → List Bool
marks_or [] ys = []
marks_or (x ∷ xs) [] = []
marks_or (x ∷ xs) (y ∷ ys) = (x || y) ∷ marks_or xs ys

-- as long as one another
abbrev pub AreAlike : List Bool → List Bool → Type 0
AreAlike [] [] = Unit {0}
AreAlike [] (y ∷ ys) = ⊥
AreAlike (x ∷ xs) [] = ⊥
AreAlike (x ∷ xs) (y ∷ ys) = AreAlike xs ys

pub joined : (xs ys : List Bool) → AreAlike xs ys → (n : ℕ)
    → IsTrue (get_or (marks_or xs ys) n false) ↔ (IsTrue (get_or xs n false) ⊎ IsTrue (get_or ys n false))
joined [] [] h n = neither
joined [] (y ∷ ys) h n = absurd h
joined (x ∷ xs) [] h n = absurd h
joined (x ∷ xs) (y ∷ ys) h zero = either x y
joined (x ∷ xs) (y ∷ ys) h (suc n) = joined xs ys h n

both : (a b : Bool) → IsTrue a ↔ IsTrue b → a ≡ b
both true true h = refl
both true false h = absurd (unequal (h.0 refl)) where
  unequal : false ≡ true → ⊥
  unequal e = absurd cc
both false true h = absurd (unequal (h.1 refl)) where
  unequal : false ≡ true → ⊥
  unequal e = absurd cc
both false false h = refl

pub one_set : (s t : Subcodes) → ((n : ℕ) → HasSubcode s n ↔ HasSubcode t n) → s ≡ t
one_set s t h = λ i. record {
  malformed_attribute_list = both s.malformed_attribute_list t.malformed_attribute_list (h 1) i;
  unrecognized_well_known = both s.unrecognized_well_known t.unrecognized_well_known (h 2) i;
  missing_well_known = both s.missing_well_known t.missing_well_known (h 3) i;
  attribute_flags = both s.attribute_flags t.attribute_flags (h 4) i;
  attribute_length = both s.attribute_length t.attribute_length (h 5) i;
  invalid_origin = both s.invalid_origin t.invalid_origin (h 6) i;
  as_routing_loop = both s.as_routing_loop t.as_routing_loop (h 7) i;
  invalid_next_hop = both s.invalid_next_hop t.invalid_next_hop (h 8) i;
  optional_attribute = both s.optional_attribute t.optional_attribute (h 9) i;
  invalid_network_field = both s.invalid_network_field t.invalid_network_field (h 10) i;
  malformed_as_path = both s.malformed_as_path t.malformed_as_path (h 11) i;
}

past : (xs : List Bool) (n : ℕ) → length xs ≤ n → get_or xs n false ≡ false
past [] n h = refl
past (x ∷ xs) zero h = absurd (omega arith)
past (x ∷ xs) (suc n) h = past xs n (omega arith)

pub not_true : (b : Bool) → b ≡ false → ¬ IsTrue b
not_true b e h = absurd cc

pub not_beyond : (s : Subcodes) (n : ℕ) → HasSubcode s n → (n < 12 → ⊥) → ⊥
not_beyond s n has below = elim (cases_lt n 12) [
  | inl h ↦ below h
  | inr h ↦ not_true (get_or (marks_of s) n false) (past (marks_of s) n h) has
]

pub none_at : (s : Subcodes) (n : ℕ) → ((m : ℕ) → m < n → ¬ HasSubcode s m) → ¬ HasSubcode s n
    → (m : ℕ) → m < n + 1 → ¬ HasSubcode s m
none_at s n before here m below has = elim (cases_lt m n) [
  | inl h ↦ before m h has
  | inr h ↦ let same : m ≡ n = omega arith in here (subst (HasSubcode s) same has)
]

pub emptiness : (s : Subcodes) (least : Option ℕ) (empty : Bool) → is_some least ≡ not empty
    → IfSome least (λ n. HasSubcode s n) → IfNone least ((n : ℕ) → ¬ HasSubcode s n)
    → MatchBool empty ((n : ℕ) → ¬ HasSubcode s n) ((n : ℕ) × HasSubcode s n)
emptiness s None true e some none = none
emptiness s None false e some none = absurd cc
emptiness s (Some n) true e some none = absurd cc
emptiness s (Some n) false e some none = (n, some)
