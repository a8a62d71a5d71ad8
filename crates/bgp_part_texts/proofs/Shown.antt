-- What is shown of a text.
use Rattle.std.proofs.Common.{◌≡◌, ◌∙◌, ◌<◌, ◌≤◌, ◌+◌, ◌++◌, ℕ, zero, suc, true, false, nat_le, nat_lt, List, [], ◌∷◌, codes, inl, inr, refl, sym, ap, arith, length, length-append, slice_index, take}
use Rattle.std.proofs.lemmas.Bool.{and_parts, cases_Bool, cases_lt, le-ltb, leb-true, lt-ltb, ltb-true}
use Rattle.std.proofs.lemmas.List.{length-take-le}
use mathlib.Core.List.{append_cancel_left}
use Rattle.bgp_why_parts.specs.Cut.{cut, goes_on, shown_count}
use Rattle.bgp_why_parts.specs.Parts.{behind, shown}
use Rattle.bgp_part_texts.proofs.Clear.{is_ascii}
use Rattle.bgp_part_texts.specs.OneText.{ShownTextsDiffer, TextsDiffer}

-- what stands at a place of a text of ASCII, or 0 behind it
at_ascii : (xs : List ℕ) (i : ℕ) → is_ascii xs ≡ true → nat_lt (slice_index xs i) 128 ≡ true
at_ascii [] i is = refl
at_ascii (c ∷ xs) zero is = (and_parts (nat_lt c 128) (is_ascii xs) is).0
at_ascii (c ∷ xs) (suc i) is = at_ascii xs i (and_parts (nat_lt c 128) (is_ascii xs) is).1

-- no character goes on there
never_goes_on : (octet : ℕ) → nat_lt octet 128 ≡ true → goes_on octet ≡ false
never_goes_on octet low = elim (cases_Bool (goes_on octet)) [
  | inl on ↦
      let above = leb-true 128 octet (and_parts (nat_le 128 octet) (nat_le octet 191) on).0 in
      let below = ltb-true octet 128 low in
      absurd (omega (arith, above, below))
  | inr off ↦ off
]

-- so 200 octets are shown
all_shown : (text : List ℕ) → is_ascii text ≡ true → shown_count text ≡ 200
all_shown text is = rw (never_goes_on (slice_index text 200) (at_ascii text 200 is)) refl

long_cut : (text : List ℕ) → is_ascii text ≡ true → 200 < length text → length (cut text) ≡ 203
unfolding cut
long_cut text is long =
    let count : length (take 200 text) ≡ 200 = length-take-le 200 text (omega (arith, long)) in
    rw (lt-ltb 200 (length text) long, all_shown text is)
    (length-append (take 200 text) (codes " ..") ∙ ap (λ (n : ℕ). n + 3) count)

short_cut : (text : List ℕ) → length text ≤ 200 → cut text ≡ text
unfolding cut
short_cut text short = rw (le-ltb 200 (length text) short) refl

-- a text that isn't cut is that of no text that is
one_cut : (a b : List ℕ) → is_ascii b ≡ true → length a ≤ 200 → cut a ≡ cut b → a ≡ b
one_cut a b is short e = elim (cases_lt 200 (length b)) [
  | inl long ↦
      let counts : length a ≡ 203 = ap length (sym (short_cut a short) ∙ e) ∙ long_cut b is long in
      absurd (omega (arith, short, counts))
  | inr short' ↦ sym (short_cut a short) ∙ e ∙ short_cut b short'
]

longer : (before : List ℕ) (c : ℕ) (text : List ℕ) → [] ≡ before ++ (c ∷ text) → ⊥
longer [] c text e = cc
longer (b ∷ before) c text e = cc

one_behind : (before a b : List ℕ) → behind before a ≡ behind before b → a ≡ b
one_behind before [] [] e = refl
one_behind before [] (d ∷ b) e = absurd (longer before d b e)
one_behind before (c ∷ a) [] e = absurd (longer before c a (sym e))
one_behind before (c ∷ a) (d ∷ b) e = append_cancel_left before (c ∷ a) (d ∷ b) e

one_shown : (before a b : List ℕ) → is_ascii b ≡ true → length a ≤ 200 → shown before a ≡ shown before b → a ≡ b
unfolding shown
one_shown before a b is short e = one_cut a b is short (one_behind before (cut a) (cut b) e)

-- what holds of whole texts holds of what is shown of them
pub as_shown : {P S : Type 0} (Fits : P → Type 0) (text : P → List ℕ) (said : P → S) → ((p : P) → Fits p → is_ascii (text p) ≡ true)
    → TextsDiffer Fits text said → ShownTextsDiffer Fits text said
as_shown Fits text said ascii differ before one other fits fits' short e =
    differ one other fits fits' (one_shown before (text one) (text other) (ascii other fits') short e)
