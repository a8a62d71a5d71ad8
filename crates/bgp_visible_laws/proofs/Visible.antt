-- Texts without control characters, one behind another.
use Rattle.std.proofs.Common.{◌≡◌, ◌≢◌, ◌∙◌, ◌++◌, ◌==◌, ◌&&◌, ◌||◌, ◌<◌, ◌≤◌, ℕ, zero, suc, Bool, true, false, List, [], ◌∷◌, IsUtf8, All, append-nil, append_assoc, get_or, length, map, nat_le, nat_lt, refl, sym, ap, ap₂, subst, arith, inl, inr}
use Rattle.std.specs.List.{flat_map, join_with_byte, list_any}
use Rattle.std.specs.Str.{chars}
use Rattle.std.proofs.lemmas.Bool.{and_from, and_parts, cases_eq, cases_lt, eqb-false, le-ltb, leb-true, lt-leb, ne_eqb, not-true}
use Rattle.std.proofs.lemmas.List.Elements.{All-head, All-tail}
use Rattle.std.proofs.lemmas.Str.{IsUtf8-append, IsUtf8-encode, IsUtf8-from_is_utf8, IsUtf8-nil, chars-append, chars-encodes, chars-nil, encode_ascii, inside_one}
use lib.Utf8.{encode, encodes, low_scalar, scalar, scalars}
use Rattle.json.specs.Print.{escape, escape_byte, quoted}
use Rattle.json.proofs.Printed.Strings.{escape_byte_plain}
use Rattle.bgp_values.specs.Readable.{is_hidden, is_readable}
use Rattle.bgp_visible_laws.specs.Visible.{IsVisible, is_control}

-- ---- of two texts

pub or_false : (a b : Bool) → a ≡ false → b ≡ false → (a || b) ≡ false
or_false a b p q = rw (p, q) refl

pub neither : (a b : Bool) → (a || b) ≡ false → (a ≡ false) × (b ≡ false)
neither false b e = (refl, e)
neither true b e = absurd (let k : ⊥ = cc in k)

any_both : (xs ys : List ℕ) → list_any is_control xs ≡ false → list_any is_control ys ≡ false → list_any is_control (xs ++ ys) ≡ false
any_both [] ys first second = second
any_both (x ∷ xs) ys first second =
    let parts = neither (is_control x) (list_any is_control xs) first in
    or_false (is_control x) (list_any is_control (xs ++ ys)) parts.0 (any_both xs ys parts.1 second)

pub nothing : IsVisible []
nothing = record { utf8 = IsUtf8-nil; shown = subst (λ (cs : List ℕ). list_any is_control cs ≡ false) (sym chars-nil) refl }

pub both : {xs ys : List ℕ} → IsVisible xs → IsVisible ys → IsVisible (xs ++ ys)
both {xs} {ys} first second = record {
  utf8 = IsUtf8-append xs ys first.utf8 second.utf8;
  shown = subst (λ (cs : List ℕ). list_any is_control cs ≡ false) (sym (chars-append xs ys first.utf8)) (any_both (chars xs) (chars ys) first.shown second.shown);
}

-- ---- one character

pub one_visible : (c : ℕ) → scalar c ≡ true → is_control c ≡ false → IsVisible (encode c)
one_visible c is hidden =
    let alone : encodes (c ∷ []) ≡ encode c = append-nil (encode c) in
    let spelled : chars (encode c) ≡ c ∷ [] = subst (λ (t : List ℕ). chars t ≡ c ∷ []) alone (chars-encodes (c ∷ []) (and_from (scalar c) true is refl)) in
    record {
      utf8 = IsUtf8-encode c is;
      shown = subst (λ (cs : List ℕ). list_any is_control cs ≡ false) (sym spelled) (or_false (is_control c) false hidden refl);
    }

-- an octet of ASCII from the blank on
abbrev pub is_shown_octet : ℕ → Bool
is_shown_octet c = nat_le 32 c && nat_le c 126

not_control : (c : ℕ) → 32 ≤ c → c ≤ 126 → is_control c ≡ false
not_control c least most =
    or_false (nat_lt c 32) (is_hidden c) (le-ltb c 32 least)
    (or_false (c == 127) (nat_le 128 c && nat_le c 159) (ne_eqb c 127 (λ e. omega (arith, e, most))) (both_false (nat_le 128 c) (nat_le c 159) (lt-leb 128 c (omega (arith, most)))))
  where
    both_false : (a b : Bool) → a ≡ false → (a && b) ≡ false
    both_false a b p = rw p refl

pub octet_visible : (c : ℕ) → is_shown_octet c ≡ true → IsVisible (c ∷ [])
octet_visible c is =
    let parts = and_parts (nat_le 32 c) (nat_le c 126) is in
    let least = leb-true 32 c parts.0 in
    let most = leb-true c 126 parts.1 in
    subst IsVisible (encode_ascii c (omega (arith, most))) (one_visible c (low_scalar c (omega (arith, most))) (not_control c least most))

-- ---- words: octets of ASCII

abbrev pub is_word : List ℕ → Bool
is_word [] = true
is_word (c ∷ text) = is_shown_octet c && is_word text

pub word : (text : List ℕ) → is_word text ≡ true → IsVisible text
word [] is = nothing
word (c ∷ text) is =
    let parts = and_parts (is_shown_octet c) (is_word text) is in
    both (octet_visible c parts.0) (word text parts.1)

pub words_both : (xs ys : List ℕ) → is_word xs ≡ true → is_word ys ≡ true → is_word (xs ++ ys) ≡ true
words_both [] ys first second = second
words_both (c ∷ xs) ys first second =
    let parts = and_parts (is_shown_octet c) (is_word xs) first in
    and_from (is_shown_octet c) (is_word (xs ++ ys)) parts.0 (words_both xs ys parts.1 second)

-- ---- lists of texts

pub each : {X : Type 0} (text : X → List ℕ) (Is : X → Type 0) → ((x : X) → Is x → IsVisible (text x)) → (xs : List X) → All Is xs → IsVisible (flat_map text xs)
each text Is visible [] all = nothing
each text Is visible (x ∷ xs) all = both (visible x (All-head Is x xs all)) (each text Is visible xs (All-tail Is x xs all))

pub any_each : {X : Type 0} (text : X → List ℕ) → ((x : X) → IsVisible (text x)) → (xs : List X) → IsVisible (flat_map text xs)
any_each text visible [] = nothing
any_each text visible (x ∷ xs) = both (visible x) (any_each text visible xs)

pub with_octet : {X : Type 0} (octet : ℕ) → is_shown_octet octet ≡ true → (text : X → List ℕ) → ((x : X) → IsVisible (text x)) → (xs : List X)
    → IsVisible (join_with_byte octet (map text xs))
with_octet octet is text visible [] = nothing
with_octet octet is text visible (x ∷ []) = visible x
with_octet octet is text visible (x ∷ y ∷ xs) = both (visible x) (both (octet_visible octet is) (with_octet octet is text visible (y ∷ xs)))

-- ---- a text between quotation marks

-- what stands for each octet below this one is of ASCII
abbrev words_below : ℕ → Bool
words_below zero = true
words_below (suc n) = is_word (escape_byte n) && words_below n

word_below : (n : ℕ) → words_below n ≡ true → (x : ℕ) → x < n → is_word (escape_byte x) ≡ true
word_below zero e x below = absurd (omega arith)
word_below (suc n) e x below =
    let parts = and_parts (is_word (escape_byte n)) (words_below n) e in
    elim (cases_eq x n) [ inl same ↦ rw same parts.0 | inr other ↦ word_below n parts.1 x (omega arith) ]

all_words : words_below 127 ≡ true
unfolding escape_byte
all_words = refl

escape_both : (xs ys : List ℕ) → escape (xs ++ ys) ≡ escape xs ++ escape ys
escape_both [] ys = refl
escape_both (x ∷ xs) ys = ap (λ (l : List ℕ). escape_byte x ++ l) (escape_both xs ys) ∙ sym (append_assoc (escape_byte x) (escape xs) (escape ys))

escape_high : (xs : List ℕ) → ((k : ℕ) → k < length xs → 128 ≤ get_or xs k 0) → escape xs ≡ xs
escape_high [] high = refl
escape_high (x ∷ xs) high =
    let least : 128 ≤ x = high 0 (omega arith) in
    ap₂ (λ (a b : List ℕ). a ++ b) (escape_byte_plain x (λ e. omega arith) (λ e. omega arith) (omega arith)) (escape_high xs (λ k below. high (suc k) (omega arith)))

-- a character that isn't hidden: below 32 it is escaped
one_escaped : (c : ℕ) → scalar c ≡ true → is_hidden c ≡ false → IsVisible (escape (encode c))
one_escaped c is hidden =
    let parts = neither (c == 127) (nat_le 128 c && nat_le c 159) hidden in
    elim (cases_lt c 128) [
      | inl small ↦
          let no_del : c ≢ 127 = eqb-false c 127 parts.0 in
          subst (λ (t : List ℕ). IsVisible (escape t)) (sym (encode_ascii c small))
          (subst IsVisible (sym (append-nil (escape_byte c))) (word (escape_byte c) (word_below 127 all_words c (omega (arith, small, no_del)))))
      | inr large ↦
          let high : (k : ℕ) → k < length (encode c) → 128 ≤ get_or (encode c) k 0 = λ k below. elim (cases_lt (get_or (encode c) k 0) 128) [
            | inl low ↦ absurd (omega (arith, inside_one c [] (encode c) k (sym (append-nil (encode c))) below low))
            | inr h ↦ h
          ] in
          subst IsVisible (sym (escape_high (encode c) high)) (one_visible c is (or_false (nat_lt c 32) (is_hidden c) (le-ltb c 32 (omega (arith, large))) hidden))
    ]

all_escaped : (cs : List ℕ) → scalars cs ≡ true → list_any is_hidden cs ≡ false → IsVisible (escape (encodes cs))
all_escaped [] are hidden = nothing
all_escaped (c ∷ cs) are hidden =
    let first = and_parts (scalar c) (scalars cs) are in
    let second = neither (is_hidden c) (list_any is_hidden cs) hidden in
    subst IsVisible (sym (escape_both (encode c) (encodes cs))) (both (one_escaped c first.0 second.0) (all_escaped cs first.1 second.1))

-- A text of which nothing is hidden.
pub record IsReadable (text : List ℕ) : Type 0 where
  pub utf8 : IsUtf8 text
  pub shown : list_any is_hidden (chars text) ≡ false

pub readable : (text : List ℕ) → is_readable text ≡ true → IsReadable text
readable text is =
    let parts = and_parts _ _ is in
    record { utf8 = IsUtf8-from_is_utf8 text parts.0; shown = not-true (list_any is_hidden (chars text)) parts.1 }

pub between_quotes : (text : List ℕ) → IsReadable text → IsVisible (quoted text)
between_quotes text is =
    let cs = is.utf8.0 in
    let spelled : chars text ≡ cs = sym (subst (λ (t : List ℕ). cs ≡ chars t) is.utf8.1.1 (sym (chars-encodes cs is.utf8.1.0))) in
    let hidden : list_any is_hidden cs ≡ false = subst (λ (l : List ℕ). list_any is_hidden l ≡ false) spelled is.shown in
    both (octet_visible 34 refl)
    (both (subst (λ (t : List ℕ). IsVisible (escape t)) is.utf8.1.1 (all_escaped cs is.utf8.1.0 hidden)) (octet_visible 34 refl))
