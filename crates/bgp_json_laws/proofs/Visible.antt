-- What a writer of JSON gives has no control character.
use Rattle.std.proofs.Common.{◌≡◌, ◌⊎◌, ℕ, suc, ◌+◌, ◌/◌, ◌%◌, ◌≤◌, Bool, true, false, cond, ◌||◌, ◌==◌, nat_lt, List, [], ◌∷◌, ◌++◌, drop, Option, Some, None, option_and_then, inl, inr, refl, subst, arith}
use Rattle.std.proofs.lemmas.Bool.{eqb-true, leb-true, ltb-true, ltb-false, and_parts, or_cases}
use Rattle.std.specs.Prelude.{⊤}
use Rattle.std.specs.List.{prefix_len}
use Rattle.std.specs.Char.{digit_char, is_ascii_digit}
use Rattle.json.specs.Token.{Token, begin_object, end_object, begin_array, end_array, key, string, number, boolean, null, bad}
use Rattle.json.specs.Tree.{json_tokens}
use Rattle.json.specs.Print.{ArePrintable, IsNumber, IsPrintable, ends, escape, escape_byte, escape_letter, print, print_from, quoted, separator, token_text}
use Rattle.json.specs.Word.{head, after_digits, after_minus, after_sign, after_whole, after_fraction, after_exponent, after_number}
use Rattle.json.proofs.Numbered.{document-HasNumbers}
use Rattle.json.proofs.Printed.Trees.{ArePrintable-json_tokens}
use Rattle.bgp_json.specs.Object.{json_line}
use Rattle.bgp_json_laws.specs.Visible.{AreVisible, NoLineHasAControlCharacter}

-- ---- of two lists

both : (xs ys : List ℕ) → AreVisible xs → AreVisible ys → AreVisible (xs ++ ys)
both [] ys of_xs of_ys = of_ys
both (x ∷ xs) ys of_xs of_ys = (of_xs.0, both xs ys of_xs.1 of_ys)

-- ---- of a number: what its grammar takes off a text is visible

-- a text is, if what is left of it is
abbrev Leads : List ℕ → Option (List ℕ) → Type 0
Leads t None = ⊤
Leads t (Some rest) = AreVisible rest → AreVisible t

from_behind : (t u : List ℕ) → (AreVisible u → AreVisible t) → (o : Option (List ℕ)) → Leads u o → Leads t o
from_behind t u lead None leads = tt
from_behind t u lead (Some rest) leads = λ is. lead (leads is)

and_then : (t : List ℕ) (f : List ℕ → Option (List ℕ)) (o : Option (List ℕ)) → Leads t o → ((r : List ℕ) → Leads r (f r)) → Leads t (option_and_then f o)
and_then t f None leads each = tt
and_then t f (Some r) leads each = from_behind t r leads (f r) (each r)

behind_one : (c : ℕ) → 32 ≤ c → (t : List ℕ) → head t ≡ c → AreVisible (drop 1 t) → AreVisible t
behind_one c few [] is rest = tt
behind_one c few (x ∷ t) is rest = (omega (arith, few, is), rest)

digit_visible : (x : ℕ) → is_ascii_digit x ≡ true → 32 ≤ x
digit_visible x is = omega (arith, leb-true 48 x (and_parts _ _ is).0)

behind_digits : (t : List ℕ) → AreVisible (drop (prefix_len is_ascii_digit t) t) → AreVisible t
behind_digits [] rest = tt
behind_digits (x ∷ xs) rest = by (is_ascii_digit x) refl (behind_digits xs) rest where
  by : (b : Bool) → is_ascii_digit x ≡ b → (AreVisible (drop (prefix_len is_ascii_digit xs) xs) → AreVisible xs)
      → AreVisible (drop (cond b (1 + prefix_len is_ascii_digit xs) 0) (x ∷ xs)) → AreVisible (x ∷ xs)
  by true is later left =
      let behind : 1 + prefix_len is_ascii_digit xs ≡ suc (prefix_len is_ascii_digit xs) = omega arith in
      (digit_visible x is, later (subst (λ (n : ℕ). AreVisible (drop n (x ∷ xs))) behind left))
  by false is later left = left

digits : (t : List ℕ) → Leads t (after_digits t)
digits t = by (prefix_len is_ascii_digit t == 0) where
  by : (b : Bool) → Leads t (cond b None (Some (drop (prefix_len is_ascii_digit t) t)))
  by true = tt
  by false = behind_digits t

minus : (t : List ℕ) → AreVisible (after_minus t) → AreVisible t
minus t = by (head t == 45) (eqb-true (head t) 45) where
  by : (b : Bool) → (b ≡ true → head t ≡ 45) → AreVisible (cond b (drop 1 t) t) → AreVisible t
  by true is rest = behind_one 45 (omega arith) t (is refl) rest
  by false is rest = rest

sign : (t : List ℕ) → AreVisible (after_sign t) → AreVisible t
sign t = by (head t == 45) (head t == 43) (eqb-true (head t) 45) (eqb-true (head t) 43) where
  by : (b c : Bool) → (b ≡ true → head t ≡ 45) → (c ≡ true → head t ≡ 43) → AreVisible (cond (b || c) (drop 1 t) t) → AreVisible t
  by true c is or rest = behind_one 45 (omega arith) t (is refl) rest
  by false true is or rest = behind_one 43 (omega arith) t (or refl) rest
  by false false is or rest = rest

whole : (t : List ℕ) → Leads t (after_whole t)
whole t = by (head t == 48) (eqb-true (head t) 48) where
  by : (b : Bool) → (b ≡ true → head t ≡ 48) → Leads t (cond b (Some (drop 1 t)) (after_digits t))
  by true is = behind_one 48 (omega arith) t (is refl)
  by false is = digits t

fraction : (t : List ℕ) → Leads t (after_fraction t)
fraction t = by (head t == 46) (eqb-true (head t) 46) where
  by : (b : Bool) → (b ≡ true → head t ≡ 46) → Leads t (cond b (after_digits (drop 1 t)) (Some t))
  by true is = from_behind t (drop 1 t) (behind_one 46 (omega arith) t (is refl)) (after_digits (drop 1 t)) (digits (drop 1 t))
  by false is = λ rest. rest

exponent : (t : List ℕ) → Leads t (after_exponent t)
exponent t = by (head t == 101) (head t == 69) (eqb-true (head t) 101) (eqb-true (head t) 69) where
  power : (c : ℕ) → 32 ≤ c → head t ≡ c → Leads t (after_digits (after_sign (drop 1 t)))
  power c few is = from_behind t (after_sign (drop 1 t)) (λ rest. behind_one c few t is (sign (drop 1 t) rest)) (after_digits (after_sign (drop 1 t))) (digits (after_sign (drop 1 t)))

  by : (b c : Bool) → (b ≡ true → head t ≡ 101) → (c ≡ true → head t ≡ 69) → Leads t (cond (b || c) (after_digits (after_sign (drop 1 t))) (Some t))
  by true c is or = power 101 (omega arith) (is refl)
  by false true is or = power 69 (omega arith) (or refl)
  by false false is or = λ rest. rest

number_visible : (s : List ℕ) → IsNumber s → AreVisible s
unfolding after_number
number_visible s is =
    subst (λ (o : Option (List ℕ)). Leads s o) is
    (and_then s after_exponent _ (and_then s after_fraction _ (from_behind s (after_minus s) (minus s) (after_whole (after_minus s)) (whole (after_minus s))) fraction) exponent) tt

-- ---- of a string

letter : (x : ℕ) → (escape_letter x ≡ 0) ⊎ (32 ≤ escape_letter x)
letter x = by ((x == 34) || (x == 92)) (x == 8) (x == 12) (x == 10) (x == 13) (x == 9) few where
  few : ((x == 34) || (x == 92)) ≡ true → 32 ≤ x
  few is = either (or_cases (x == 34) (x == 92) is) where
    either : ((x == 34) ≡ true) ⊎ ((x == 92) ≡ true) → 32 ≤ x
    either (inl e) = omega (arith, eqb-true x 34 e)
    either (inr e) = omega (arith, eqb-true x 92 e)

  by : (a b c d e f : Bool) → (a ≡ true → 32 ≤ x)
      → (cond a x (cond b 98 (cond c 102 (cond d 110 (cond e 114 (cond f 116 0))))) ≡ 0)
      ⊎ (32 ≤ cond a x (cond b 98 (cond c 102 (cond d 110 (cond e 114 (cond f 116 0))))))
  by true b c d e f is = inr (is refl)
  by false true c d e f is = inr (omega arith)
  by false false true d e f is = inr (omega arith)
  by false false false true e f is = inr (omega arith)
  by false false false false true f is = inr (omega arith)
  by false false false false false true is = inr (omega arith)
  by false false false false false false is = inl refl

digit_char_visible : (d : ℕ) → 32 ≤ digit_char d
digit_char_visible d = by (nat_lt d 10) where
  by : (b : Bool) → 32 ≤ cond b (48 + d) (87 + d)
  by true = omega arith
  by false = omega arith

escaped : (x : ℕ) → AreVisible (escape_byte x)
unfolding escape_byte
escaped x = by (nat_lt 0 (escape_letter x)) (nat_lt x 32) (letter x) (λ some none. absurd (omega (arith, ltb-true 0 (escape_letter x) some, none))) (λ many. omega (arith, ltb-false x 32 many)) where
  by : (b c : Bool) → (escape_letter x ≡ 0) ⊎ (32 ≤ escape_letter x) → (b ≡ true → escape_letter x ≡ 0 → ⊥) → (c ≡ false → 32 ≤ x)
      → AreVisible (cond b (92 ∷ escape_letter x ∷ []) (cond c (92 ∷ 117 ∷ 48 ∷ 48 ∷ digit_char (x / 16) ∷ digit_char (x % 16) ∷ []) (x ∷ [])))
  by true c (inl none) some small = absurd (some refl none)
  by true c (inr few) some small = (omega arith, (few, tt))
  by false true which some small = (omega arith, (omega arith, (omega arith, (omega arith, (digit_char_visible (x / 16), (digit_char_visible (x % 16), tt))))))
  by false false which some small = (small refl, tt)

all_escaped : (s : List ℕ) → AreVisible (escape s)
all_escaped [] = tt
all_escaped (x ∷ s) = both (escape_byte x) (escape s) (escaped x) (all_escaped s)

in_quotes : (s : List ℕ) → AreVisible (quoted s)
in_quotes s = (omega arith, both (escape s) (34 ∷ []) (all_escaped s) (omega arith, tt))

-- ---- of tokens

of_token : (t : Token) → IsPrintable t → AreVisible (token_text t)
of_token begin_object is = (omega arith, tt)
of_token end_object is = (omega arith, tt)
of_token begin_array is = (omega arith, tt)
of_token end_array is = (omega arith, tt)
of_token (key s) is = both (quoted s) (58 ∷ []) (in_quotes s) (omega arith, tt)
of_token (string s) is = in_quotes s
of_token (number s) is = number_visible s is
of_token (boolean true) is = (omega arith, (omega arith, (omega arith, (omega arith, tt))))
of_token (boolean false) is = (omega arith, (omega arith, (omega arith, (omega arith, (omega arith, tt)))))
of_token null is = (omega arith, (omega arith, (omega arith, (omega arith, tt))))
of_token bad is = absurd is

comma : (b : Bool) → AreVisible (cond b (44 ∷ []) [])
comma true = (omega arith, tt)
comma false = tt

pub of_tokens : (after_value : Bool) (ts : List Token) → ArePrintable ts → AreVisible (print_from after_value ts)
unfolding print_from ArePrintable
of_tokens after_value [] is = tt
of_tokens after_value (t ∷ ts) is =
    both (separator after_value t) (token_text t ++ print_from (ends t) ts) (comma _)
    (both (token_text t) (print_from (ends t) ts) (of_token t is.0) (of_tokens (ends t) ts is.1))

pub lines_are_visible : NoLineHasAControlCharacter
unfolding json_line
lines_are_visible line is = (
  print (json_tokens is.value),
  is.is_its,
  of_tokens false (json_tokens is.value) (ArePrintable-json_tokens is.value (document-HasNumbers (print (json_tokens is.value)) is.value is.reads_back)),
)
