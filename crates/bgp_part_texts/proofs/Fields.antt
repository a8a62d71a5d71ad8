-- Values that are read back from their texts.
use Rattle.std.proofs.Common.{◌≡◌, ◌∙◌, ◌<◌, ◌^◌, ◌/◌, ◌%◌, ◌==◌, ◌&&◌, ◌++◌, ℕ, zero, suc, Bool, true, false, not, List, [], ◌∷◌, Result, Ok, Err, codes, inl, inr, refl, sym, ap, arith, lit<, slice_index, append_assoc}
use Rattle.std.specs.Fmt.{decimal}
use Rattle.std.specs.Str.{bytes_eq}
use Rattle.std.proofs.lemmas.Bool.{and_from, and_parts, both_ways, cases_Bool, eq-eqb, eqb-true, not-true}
use Rattle.std.proofs.lemmas.Fmt.{decimal_injective}
use mathlib.Core.List.{append_cancel_left}
use Rattle.hex.specs.Hex.{IsBytes, decode_of, encode_lower, encode_with, lower_digits}
use Rattle.hex.specs.declared.error.FromHexError.{FromHexError}
use Rattle.hex.proofs.HexLemmas.{decode_of-encode_lower}
use Rattle.bgp_prefix.specs.Text.{address_text, dotted_text}
use Rattle.bgp_prefix.specs.declared.address.Address.TheVariants.{V4}
use Rattle.bgp_names.specs.Naming.{named}
use Rattle.bgp_names.specs.Attributes.{attribute_name, attribute_names}
use Rattle.bgp_names.proofs.Distinct.{decimal_lacks, lacks, lacks_both, one_front, tail_of}
use Rattle.bgp_names.proofs.OneName.{is_new}
use Rattle.bgp_text.specs.Text.{hex_text}
use Rattle.bgp_part_texts.proofs.Clear.{both_clear, decimal_clear, is_clear}

pub differ : (m n : ℕ) → (m == n) ≡ false → m ≡ n → ⊥
differ m n isnt is = both_ways (m == n) isnt (eq-eqb m n is)

-- an octet of a text
abbrev pub octet_at : ℕ → List ℕ → ℕ
octet_at i text = slice_index text i

-- ---- octets in hexadecimal

abbrev octets_or_none : Result (List ℕ) FromHexError → List ℕ
octets_or_none (Ok octets) = octets
octets_or_none (Err fault) = []

one_encoded : (xs ys : List ℕ) → IsBytes xs → IsBytes ys → encode_lower xs ≡ encode_lower ys → xs ≡ ys
one_encoded xs ys bx by e =
    ap octets_or_none (sym (decode_of-encode_lower xs bx) ∙ ap decode_of e ∙ decode_of-encode_lower ys by)

not_dash : (o : ℕ) (xs : List ℕ) → codes "-" ≡ encode_lower (o ∷ xs) → ⊥
unfolding encode_with
not_dash o xs e = let none : [] ≡ tail_of (encode_lower (o ∷ xs)) = ap tail_of e in cc

pub one_hex : (xs ys : List ℕ) → IsBytes xs → IsBytes ys → hex_text xs ≡ hex_text ys → xs ≡ ys
unfolding hex_text
one_hex [] [] bx by e = refl
one_hex [] (o ∷ ys) bx by e = absurd (not_dash o ys e)
one_hex (o ∷ xs) [] bx by e = absurd (not_dash o xs (sym e))
one_hex (o ∷ xs) (p ∷ ys) bx by e = one_encoded (o ∷ xs) (p ∷ ys) bx by e

-- what stands at a place of a text without an octet, or 0 behind it
at_lacks : (octet : ℕ) (xs : List ℕ) (i : ℕ) → not (0 == octet) ≡ true → lacks octet xs ≡ true → not (octet_at i xs == octet) ≡ true
at_lacks octet [] i other is = other
at_lacks octet (c ∷ xs) zero other is = (and_parts (not (c == octet)) (lacks octet xs) is).0
at_lacks octet (c ∷ xs) (suc i) other is = at_lacks octet xs i other (and_parts (not (c == octet)) (lacks octet xs) is).1

module _ (octet : ℕ) (other : not (0 == octet) ≡ true) (none : lacks octet lower_digits ≡ true) where
  encoded_lacks : (xs : List ℕ) → lacks octet (encode_lower xs) ≡ true
  unfolding encode_with
  encoded_lacks [] = refl
  encoded_lacks (o ∷ xs) =
      let high = octet_at (o / 16) lower_digits in
      let low = octet_at (o % 16) lower_digits in
      and_from (not (high == octet)) (not (low == octet) && lacks octet (encode_lower xs)) (at_lacks octet lower_digits (o / 16) other none)
      (and_from (not (low == octet)) (lacks octet (encode_lower xs)) (at_lacks octet lower_digits (o % 16) other none) (encoded_lacks xs))

  -- what is neither a digit nor a dash isn't in it
  pub hex_lacks : lacks octet (codes "-") ≡ true → (xs : List ℕ) → lacks octet (hex_text xs) ≡ true
  unfolding hex_text
  hex_lacks dash [] = dash
  hex_lacks dash (o ∷ xs) = encoded_lacks (o ∷ xs)

-- ---- an IPv4 address

abbrev dotted : ℕ → ℕ → ℕ → ℕ → List ℕ
dotted a b c d = decimal a ++ (46 ∷ (decimal b ++ (46 ∷ (decimal c ++ (46 ∷ decimal d)))))

is_dotted : (a b c d : ℕ) → dotted_text (a ∷ b ∷ c ∷ d ∷ []) ≡ dotted a b c d
unfolding dotted_text
is_dotted a b c d = refl

abbrev part_of : ℕ → ℕ → ℕ
part_of unit n = n / unit % 256

id_dotted : (n : ℕ) → address_text (V4 n) ≡ dotted (part_of 16777216 n) (part_of 65536 n) (part_of 256 n) (n % 256)
unfolding address_text
id_dotted n = is_dotted (part_of 16777216 n) (part_of 65536 n) (part_of 256 n) (n % 256)

one_number : (a b : ℕ) (x y : List ℕ) → a < 256 → b < 256 → decimal a ++ (46 ∷ x) ≡ decimal b ++ (46 ∷ y) → (a ≡ b) × (x ≡ y)
one_number a b x y sa sb e =
    let split = one_front 46 (decimal a) (decimal b) (46 ∷ x) (46 ∷ y) (decimal_lacks 46 a (lit< tt) (omega (arith, sa))) (decimal_lacks 46 b (lit< tt) (omega (arith, sb))) refl refl e in
    (decimal_injective a b (omega (arith, sa)) (omega (arith, sb)) split.0, append_cancel_left (codes ".") x y split.1)

one_dotted : (a b c d k l m n : ℕ) → a < 256 → b < 256 → c < 256 → d < 256 → k < 256 → l < 256 → m < 256 → n < 256 → dotted a b c d ≡ dotted k l m n
    → (a ≡ k) × ((b ≡ l) × ((c ≡ m) × (d ≡ n)))
one_dotted a b c d k l m n sa sb sc sd sk sl sm sn e =
    let first = one_number a k (decimal b ++ (46 ∷ (decimal c ++ (46 ∷ decimal d)))) (decimal l ++ (46 ∷ (decimal m ++ (46 ∷ decimal n)))) sa sk e in
    let second = one_number b l (decimal c ++ (46 ∷ decimal d)) (decimal m ++ (46 ∷ decimal n)) sb sl first.1 in
    let third = one_number c m (decimal d) (decimal n) sc sm second.1 in
    (first.0, (second.0, (third.0, decimal_injective d n (omega (arith, sd)) (omega (arith, sn)) third.1)))

pub one_id : (m n : ℕ) → m < 2 ^ 32 → n < 2 ^ 32 → address_text (V4 m) ≡ address_text (V4 n) → m ≡ n
one_id m n sm sn e =
    let both = one_dotted (part_of 16777216 m) (part_of 65536 m) (part_of 256 m) (m % 256) (part_of 16777216 n) (part_of 65536 n) (part_of 256 n) (n % 256)
    (omega arith) (omega arith) (omega arith) (omega arith) (omega arith) (omega arith) (omega arith) (omega arith)
    (sym (id_dotted m) ∙ e ∙ id_dotted n) in
    let first = both.0 in
    let second = both.1.0 in
    let third = both.1.1.0 in
    let fourth = both.1.1.1 in
    omega (arith, sm, sn, first, second, third, fourth)

dotted_clear : (a b c d : ℕ) → a < 256 → b < 256 → c < 256 → d < 256 → is_clear (dotted a b c d) ≡ true
dotted_clear a b c d sa sb sc sd =
    let third : List ℕ = decimal c ++ (46 ∷ decimal d) in
    let second : List ℕ = decimal b ++ (46 ∷ third) in
    both_clear (decimal a) (46 ∷ second) (decimal_clear a (omega (arith, sa)))
    (both_clear (codes ".") second refl
    (both_clear (decimal b) (46 ∷ third) (decimal_clear b (omega (arith, sb)))
    (both_clear (codes ".") third refl
    (both_clear (decimal c) (46 ∷ decimal d) (decimal_clear c (omega (arith, sc)))
    (both_clear (codes ".") (decimal d) refl (decimal_clear d (omega (arith, sd))))))))

pub id_clear : (n : ℕ) → is_clear (address_text (V4 n)) ≡ true
id_clear n =
    ap is_clear (id_dotted n)
    ∙ dotted_clear (part_of 16777216 n) (part_of 65536 n) (part_of 256 n) (n % 256) (omega arith) (omega arith) (omega arith) (omega arith)

dotted_lacks : (octet a b c d : ℕ) → octet < 46 → a < 256 → b < 256 → c < 256 → d < 256 → lacks octet (codes ".") ≡ true → lacks octet (dotted a b c d) ≡ true
dotted_lacks octet a b c d low sa sb sc sd none =
    let third : List ℕ = decimal c ++ (46 ∷ decimal d) in
    let second : List ℕ = decimal b ++ (46 ∷ third) in
    let one : (n : ℕ) → n < 256 → lacks octet (decimal n) ≡ true = λ n sn. decimal_lacks octet n (omega (arith, low)) (omega (arith, sn)) in
    lacks_both octet (decimal a) (46 ∷ second) (one a sa)
    (lacks_both octet (codes ".") second none
    (lacks_both octet (decimal b) (46 ∷ third) (one b sb)
    (lacks_both octet (codes ".") third none
    (lacks_both octet (decimal c) (46 ∷ decimal d) (one c sc)
    (lacks_both octet (codes ".") (decimal d) none (one d sd))))))

-- no comma is in it
pub id_lacks : (n : ℕ) → lacks 44 (address_text (V4 n)) ≡ true
id_lacks n =
    ap (lacks 44) (id_dotted n)
    ∙ dotted_lacks 44 (part_of 16777216 n) (part_of 65536 n) (part_of 256 n) (n % 256) (lit< tt) (omega arith) (omega arith) (omega arith) (omega arith) refl

-- ---- an attribute's name before a blank

-- each row has a name of its own without a blank, which isn't this word
abbrev pub are_words : List ℕ → List (ℕ × List ℕ) → Bool
are_words word [] = true
are_words word (row ∷ rows) = (lacks 32 row.1 && not (bytes_eq row.1 word)) && (is_new row.1 rows && are_words word rows)

eq_self : (xs : List ℕ) → bytes_eq xs xs ≡ true
eq_self [] = refl
eq_self (c ∷ xs) = and_from (c == c) (bytes_eq xs xs) (eq-eqb c c refl) (eq_self xs)

not_same : (a b : List ℕ) → not (bytes_eq a b) ≡ true → a ≡ b → ⊥
not_same a b unlike e = both_ways (bytes_eq a b) (not-true (bytes_eq a b) unlike) (ap (bytes_eq a) (sym e) ∙ eq_self a)

module _ (word : List ℕ) (free : lacks 32 word ≡ true) where
  -- the number after the word
  abbrev numbered : List (ℕ × List ℕ) → ℕ → List ℕ
  numbered rows n = named (word ++ codes " ") rows n

  spread : (n : ℕ) (x : List ℕ) → (word ++ codes " ") ++ (decimal n ++ x) ≡ word ++ (32 ∷ (decimal n ++ x))
  spread n x = append_assoc word (codes " ") (decimal n ++ x)

  pub not_numbered : (name : List ℕ) (rows : List (ℕ × List ℕ)) (n : ℕ) (x y : List ℕ) → lacks 32 name ≡ true → not (bytes_eq name word) ≡ true
      → is_new name rows ≡ true → are_words word rows ≡ true → name ++ (32 ∷ x) ≡ numbered rows n ++ (32 ∷ y) → ⊥
  not_numbered name [] n x y lack unlike new words e =
      let whole : name ++ (32 ∷ x) ≡ word ++ (32 ∷ (decimal n ++ (32 ∷ y))) = e ∙ append_assoc (word ++ codes " ") (decimal n) (32 ∷ y) ∙ spread n (32 ∷ y) in
      not_same name word unlike (one_front 32 name word (32 ∷ x) (32 ∷ (decimal n ++ (32 ∷ y))) lack free refl refl whole).0
  not_numbered name (row ∷ rows) n x y lack unlike new words e =
      let parts = and_parts (not (bytes_eq name row.1)) (is_new name rows) new in
      let own = and_parts (lacks 32 row.1 && not (bytes_eq row.1 word)) (is_new row.1 rows && are_words word rows) words in
      let free_row = (and_parts (lacks 32 row.1) (not (bytes_eq row.1 word)) own.0).0 in
      let rest = (and_parts (is_new row.1 rows) (are_words word rows) own.1).1 in
      elim (cases_Bool (n == row.0)) [
        | inl is ↦
            let same : name ++ (32 ∷ x) ≡ row.1 ++ (32 ∷ y) = rw is at e in
            not_same name row.1 parts.0 (one_front 32 name row.1 (32 ∷ x) (32 ∷ y) lack free_row refl refl same).0
        | inr isnt ↦ not_numbered name rows n x y lack unlike parts.1 rest (rw isnt at e)
      ]

  one_numbered : (rows : List (ℕ × List ℕ)) (m n : ℕ) (x y : List ℕ) → are_words word rows ≡ true → m < 2 ^ 64 → n < 2 ^ 64
      → numbered rows m ++ (32 ∷ x) ≡ numbered rows n ++ (32 ∷ y) → (m ≡ n) × (x ≡ y)
  one_numbered [] m n x y words sm sn e =
      let whole : word ++ (32 ∷ (decimal m ++ (32 ∷ x))) ≡ word ++ (32 ∷ (decimal n ++ (32 ∷ y))) =
      sym (append_assoc (word ++ codes " ") (decimal m) (32 ∷ x) ∙ spread m (32 ∷ x)) ∙ e ∙ append_assoc (word ++ codes " ") (decimal n) (32 ∷ y) ∙ spread n (32 ∷ y) in
      let behind = append_cancel_left (codes " ") (decimal m ++ (32 ∷ x)) (decimal n ++ (32 ∷ y)) (append_cancel_left word (32 ∷ (decimal m ++ (32 ∷ x))) (32 ∷ (decimal n ++ (32 ∷ y))) whole) in
      let split = one_front 32 (decimal m) (decimal n) (32 ∷ x) (32 ∷ y) (decimal_lacks 32 m (lit< tt) sm) (decimal_lacks 32 n (lit< tt) sn) refl refl behind in
      (decimal_injective m n sm sn split.0, append_cancel_left (codes " ") x y split.1)
  one_numbered (row ∷ rows) m n x y words sm sn e =
      let own = and_parts (lacks 32 row.1 && not (bytes_eq row.1 word)) (is_new row.1 rows && are_words word rows) words in
      let apart = and_parts (lacks 32 row.1) (not (bytes_eq row.1 word)) own.0 in
      let rest = and_parts (is_new row.1 rows) (are_words word rows) own.1 in
      elim (cases_Bool (m == row.0)) [
        | inl m_is ↦ elim (cases_Bool (n == row.0)) [
          | inl n_is ↦
              let same : row.1 ++ (32 ∷ x) ≡ row.1 ++ (32 ∷ y) = rw (m_is, n_is) at e in
              (eqb-true m row.0 m_is ∙ sym (eqb-true n row.0 n_is), append_cancel_left (codes " ") x y (append_cancel_left row.1 (32 ∷ x) (32 ∷ y) same))
          | inr n_isnt ↦ absurd (not_numbered row.1 rows n x y apart.0 apart.1 rest.0 rest.1 (rw (m_is, n_isnt) at e))
        ]
        | inr m_isnt ↦ elim (cases_Bool (n == row.0)) [
          | inl n_is ↦ absurd (not_numbered row.1 rows m y x apart.0 apart.1 rest.0 rest.1 (sym (rw (m_isnt, n_is) at e)))
          | inr n_isnt ↦ one_numbered rows m n x y rest.1 sm sn (rw (m_isnt, n_isnt) at e)
        ]
      ]

pub one_attribute : (m n : ℕ) (x y : List ℕ) → m < 2 ^ 64 → n < 2 ^ 64 → attribute_name m ++ (32 ∷ x) ≡ attribute_name n ++ (32 ∷ y) → (m ≡ n) × (x ≡ y)
one_attribute m n x y sm sn e = one_numbered (codes "attribute") refl attribute_names m n x y refl sm sn e
