-- A text after another, if it isn't empty.
use Rattle.std.proofs.Common.{◌≡◌, ◌∙◌, ◌++◌, ◌∷◌, ℕ, List, [], inl, inr, ap, codes, length, refl, sym, take}
use Rattle.std.proofs.lemmas.Bool.{cases_lt, le-ltb, lt-ltb}
use Rattle.bgp_why_parts.specs.Cut.{cut, shown_count}
use Rattle.bgp_why_parts.specs.Parts.{behind}

behind_some : (before text : List ℕ) → (text ≡ [] → ⊥) → behind before text ≡ before ++ text
behind_some before [] some = absurd (some refl)
behind_some before (c ∷ text) some = refl

joined_some : (xs : List ℕ) (c : ℕ) (ys : List ℕ) → xs ++ (c ∷ ys) ≡ [] → ⊥
joined_some [] c ys e = cc
joined_some (x ∷ xs) c ys e = cc

filled : (c : ℕ) (text : List ℕ) → c ∷ text ≡ [] → ⊥
filled c text e = cc

-- what is shown of a text that isn't empty isn't empty
cut_some : (c : ℕ) (text : List ℕ) → cut (c ∷ text) ≡ [] → ⊥
unfolding cut
cut_some c text e = elim (cases_lt 200 (length (c ∷ text))) [
  | inl long ↦ joined_some (take (shown_count (c ∷ text)) (c ∷ text)) 32 (codes "..") (rw (lt-ltb 200 (length (c ∷ text)) long) at e)
  | inr short ↦ filled c text (rw (le-ltb 200 (length (c ∷ text)) short) at e)
]

front_some : (c : ℕ) (text : List ℕ) → length (take 256 (c ∷ text)) ≡ 0 → ⊥
front_some c text e = cc

pub none_behind : (before text front : List ℕ) → front ≡ take 256 text → length front ≡ 0 → behind before (cut text) ≡ []
unfolding cut
none_behind before [] front is none = refl
none_behind before (c ∷ text) front is none = absurd (front_some c text (ap length (sym is) ∙ none))

pub some_behind : (before text front : List ℕ) → front ≡ take 256 text → (length front ≡ 0 → ⊥) → behind before (cut text) ≡ before ++ cut text
some_behind before [] front is some = absurd (some (ap length is))
some_behind before (c ∷ text) front is some = behind_some before (cut (c ∷ text)) (cut_some c text)
