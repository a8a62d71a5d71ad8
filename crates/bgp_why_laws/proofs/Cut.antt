-- The front of a text of which no character is cut.
use Rattle.std.proofs.Common.{◌≡◌, ◌∙◌, ◌++◌, ◌+◌, ◌-◌, ◌<◌, ◌≤◌, ℕ, Bool, true, false, List, [], ◌∷◌, IsUtf8, codes, drop, length, nat_le, nat_lt, refl, sym, ap, subst, arith, slice_index, take, if◌then◌else◌, inl, inr}
use Rattle.std.specs.List.{list_any}
use Rattle.std.specs.Char.{len_utf8}
use Rattle.std.specs.Str.{IsCharBoundary, chars}
use Rattle.std.proofs.lemmas.Bool.{and_from, and_parts, cases_Bool, cases_eq, cases_lt, le-leb, leb-true, ltb-true}
use Rattle.std.proofs.lemmas.List.{drop_at, length-append, take-append-drop}
use Rattle.std.proofs.lemmas.Str.{IsCharBoundary-from_rest, IsCharBoundary-start, IsUtf8-take, chars-append, len_utf8_bounds, length-encode}
use lib.Utf8.{encode, encodes, scalar, scalars}
use Rattle.bgp_why_parts.specs.Cut.{cut, goes_on, shown_count}
use Rattle.bgp_visible_laws.specs.Visible.{IsVisible, is_control}
use Rattle.bgp_visible_laws.proofs.Visible.{both, neither, or_false, word}

-- ---- an octet that goes on with a character isn't its first

-- the place isn't inside a character if its octet doesn't go on
at_boundary : (text : List ℕ) (i : ℕ) → i ≤ length text → goes_on (slice_index text i) ≡ false → IsCharBoundary text i
at_boundary text i within first = (
  within,
  λ inside high. elim (cases_lt (slice_index text i) 192) [
    | inl low ↦
        absurd (let both_so : goes_on (slice_index text i) ≡ true = and_from (nat_le 128 (slice_index text i)) (nat_le (slice_index text i) 191)
        (le-leb 128 (slice_index text i) (omega (arith, high))) (le-leb (slice_index text i) 191 (omega (arith, low))) in
        let both_ways : true ≡ false = sym both_so ∙ first in
        let k : ⊥ = cc in
        k)
    | inr enough ↦ omega (arith, enough)
  ],
)

goes_low : (octet : ℕ) → goes_on octet ≡ true → 128 ≤ octet
goes_low octet is = leb-true 128 octet (and_parts (nat_le 128 octet) (nat_le octet 191) is).0

goes_high : (octet : ℕ) → goes_on octet ≡ true → octet ≤ 191
goes_high octet is = leb-true octet 191 (and_parts (nat_le 128 octet) (nat_le octet 191) is).1

-- at a boundary inside the text the octet doesn't go on
never_at : (text : List ℕ) (i : ℕ) → IsCharBoundary text i → i < length text → goes_on (slice_index text i) ≡ true → ⊥
never_at text i at inside is =
    let high = at.1 inside (goes_low (slice_index text i) is) in
    let low = goes_high (slice_index text i) is in
    omega (arith, high, low)

-- a character has four octets at the most: so one of the last four places is a boundary
record Near (text : List ℕ) (i : ℕ) : Type 0 where
  b : ℕ
  before : b ≤ i
  close : i < b + 4
  at : IsCharBoundary text b

near : (cs : List ℕ) → scalars cs ≡ true → (i : ℕ) → i < length (encodes cs) → Near (encodes cs) i
near [] are i inside = absurd (omega (arith, inside))
near (c ∷ cs) are i inside =
    let n = len_utf8 c in
    let bounds = len_utf8_bounds c in
    let long : length (encode c) ≡ n = length-encode c in
    let whole = length-append (encode c) (encodes cs) in
    let text = encode c ++ encodes cs in
    elim (cases_lt i n) [
      | inl first ↦ record {
        b = 0;
        before = omega arith;
        close = omega (arith, first, bounds);
        at = IsCharBoundary-start text (c ∷ cs, (are, refl));
      }
      | inr later ↦
          let rest = near cs (and_parts (scalar c) (scalars cs) are).1 (i - n) (omega (arith, inside, whole, long, later)) in
          let before = rest.before in
          let close = rest.close in
          record {
            b = n + rest.b;
            before = omega (arith, before, later);
            close = omega (arith, close, later);
            at = IsCharBoundary-from_rest text n rest.b (omega (arith, whole, long))
                (subst (λ (t : List ℕ). IsCharBoundary t rest.b) (sym (drop_at (encode c) (encodes cs) n long)) rest.at);
          }
    ]

near_in : (text : List ℕ) → IsUtf8 text → (i : ℕ) → i < length text → Near text i
near_in text is i inside =
    subst (λ (t : List ℕ). Near t i) is.1.1 (near is.0 is.1.0 i (subst (λ (t : List ℕ). i < length t) (sym is.1.1) inside))

-- if three octets go on, the one before them is the first of their character
fourth : (text : List ℕ) → IsUtf8 text → 200 < length text → goes_on (slice_index text 200) ≡ true → goes_on (slice_index text 199) ≡ true → goes_on (slice_index text 198) ≡ true
    → IsCharBoundary text 197
fourth text is long three two one =
    let found = near_in text is 200 long in
    let before = found.before in
    let close = found.close in
    elim (cases_eq found.b 200) [
      | inl e ↦ absurd (never_at text 200 (subst (IsCharBoundary text) e found.at) long three)
      | inr a ↦ elim (cases_eq found.b 199) [
        | inl e ↦ absurd (never_at text 199 (subst (IsCharBoundary text) e found.at) (omega (arith, long)) two)
        | inr b ↦ elim (cases_eq found.b 198) [
          | inl e ↦ absurd (never_at text 198 (subst (IsCharBoundary text) e found.at) (omega (arith, long)) one)
          | inr c ↦ subst (IsCharBoundary text) (omega (arith, before, close, a, b, c)) found.at
        ]
      ]
    ]

shown_at : (text : List ℕ) → IsUtf8 text → 200 < length text → (three two one : Bool) → goes_on (slice_index text 200) ≡ three → goes_on (slice_index text 199) ≡ two
    → goes_on (slice_index text 198) ≡ one
    → IsCharBoundary text (if three then (if two then (if one then 197 else 198) else 199) else 200)
shown_at text is long false two one a b c = at_boundary text 200 (omega (arith, long)) a
shown_at text is long true false one a b c = at_boundary text 199 (omega (arith, long)) b
shown_at text is long true true false a b c = at_boundary text 198 (omega (arith, long)) c
shown_at text is long true true true a b c = fourth text is long a b c

boundary : (text : List ℕ) → IsUtf8 text → 200 < length text → IsCharBoundary text (shown_count text)
boundary text is long =
    shown_at text is long (goes_on (slice_index text 200)) (goes_on (slice_index text 199)) (goes_on (slice_index text 198)) refl refl refl

-- ---- a front

any_front : (xs ys : List ℕ) → list_any is_control (xs ++ ys) ≡ false → list_any is_control xs ≡ false
any_front [] ys none = refl
any_front (x ∷ xs) ys none =
    let parts = neither (is_control x) (list_any is_control (xs ++ ys)) none in
    or_false (is_control x) (list_any is_control xs) parts.0 (any_front xs ys parts.1)

front_visible : (text : List ℕ) (i : ℕ) → IsVisible text → IsCharBoundary text i → IsVisible (take i text)
front_visible text i visible at =
    let utf8 = IsUtf8-take text i visible.utf8 at in
    let both_chars : chars (take i text) ++ chars (drop i text) ≡ chars text = sym (chars-append (take i text) (drop i text) utf8) ∙ ap chars (take-append-drop i text) in
    record {
      utf8 = utf8;
      shown = any_front (chars (take i text)) (chars (drop i text)) (subst (λ (cs : List ℕ). list_any is_control cs ≡ false) (sym both_chars) visible.shown);
    }

pub cut_visible : (text : List ℕ) → IsVisible text → IsVisible (cut text)
unfolding cut
cut_visible text visible = elim (cases_Bool (nat_lt 200 (length text))) [
  | inl long ↦
      rw long
      (both (front_visible text (shown_count text) visible (boundary text visible.utf8 (ltb-true 200 (length text) long))) (word (codes " ..") refl))
  | inr short ↦ rw short visible
]
