-- Octets that HTML has as they are.
use Rattle.std.proofs.Common.{◌≡◌, ◌∙◌, ◌++◌, ◌+◌, ◌/◌, ◌%◌, ◌<◌, ◌^◌, ◌==◌, ◌||◌, ℕ, zero, suc, Bool, true, false, List, [], ◌∷◌, Option, None, Some, ap, arith, drop, length, refl, sym, take}
use Rattle.std.proofs.lemmas.Bool.{false≢true, ne_eqb}
use Rattle.std.proofs.lemmas.Fmt.{decimal_by_steps}
use Rattle.std.proofs.lemmas.Grind.{flat_map-append}
use Rattle.std.specs.Fmt.{decimal}
use Rattle.std.specs.Option.{is_some}
use Rattle.std.specs.Prelude.{codes}
use Rattle.memchr.specs.Find.{IsFirstByte, Nowhere, Passes, is_byte2, is_byte3}
use Rattle.bgp_html.specs.Escaped.{escape_octet, escaped}
use Rattle.bgp_ladder.specs.Batch.{ArePlain}
use Rattle.bgp_ladder.specs.Ladder.{fraction_words, micros_words, seconds_words}

digit : (n : ℕ) → n < 10 → escape_octet (48 + n) ≡ (48 + n) ∷ []
unfolding escape_octet
digit n below =
    rw (ne_eqb (48 + n) 38 (λ e. omega (arith, e)))
    (rw (ne_eqb (48 + n) 60 (λ e. omega (arith, e, below)))
    (rw (ne_eqb (48 + n) 62 (λ e. omega (arith, e, below)))
    (rw (ne_eqb (48 + n) 34 (λ e. omega (arith, e)))
    (rw (ne_eqb (48 + n) 39 (λ e. omega (arith, e))) refl))))

-- the digits of a number
pub digits_plain : (n : ℕ) → n < 2 ^ 64 → escaped (decimal n) ≡ decimal n
digits_plain =
    decimal_by_steps (λ n ds. escaped ds ≡ ds)
    (λ n below. ap (λ (o : List ℕ). o ++ []) (digit n below))
    (λ n ds more is.
    flat_map-append escape_octet ds ((48 + n % 10) ∷ [])
    ∙ ap (λ (o : List ℕ). o ++ escaped ((48 + n % 10) ∷ [])) is
    ∙ ap (λ (o : List ℕ). ds ++ (o ++ [])) (digit (n % 10) (omega arith)))

-- two texts that it has as they are
pub both_plain : (one more : List ℕ) → escaped one ≡ one → escaped more ≡ more → escaped (one ++ more) ≡ one ++ more
both_plain one more first second =
    flat_map-append escape_octet one more ∙ ap (λ (o : List ℕ). o ++ escaped more) first ∙ ap (λ (o : List ℕ). one ++ o) second

-- ---- the words of a time

plus : escaped (codes "+") ≡ codes "+"
unfolding escape_octet
plus = refl

minus : escaped (codes "-") ≡ codes "-"
unfolding escape_octet
minus = refl

unit : escaped (codes " s") ≡ codes " s"
unfolding escape_octet
unit = refl

point : escape_octet 46 ≡ 46 ∷ []
unfolding escape_octet
point = refl

one_more : (octet : ℕ) (octets : List ℕ) → escape_octet octet ≡ octet ∷ [] → escaped octets ≡ octets → escaped (octet ∷ octets) ≡ octet ∷ octets
one_more octet octets first others = ap (λ (o : List ℕ). o ++ escaped octets) first ∙ ap (λ (o : List ℕ). octet ∷ o) others

last_digit : (n : ℕ) → escape_octet (48 + n % 10) ≡ (48 + n % 10) ∷ []
last_digit n = digit (n % 10) (omega arith)

fraction : (micros : ℕ) → escaped (fraction_words micros) ≡ fraction_words micros
fraction micros =
    one_more 46 _ point (one_more _ _ (last_digit (micros / 100000)) (one_more _ _ (last_digit (micros / 10000)) (one_more _ _ (last_digit (micros / 1000))
    (one_more _ _ (last_digit (micros / 100)) (one_more _ _ (last_digit (micros / 10)) (one_more _ [] (last_digit micros) refl))))))

whole_plain : (seconds : ℕ) → seconds < 2 ^ 64 → escaped (seconds_words seconds) ≡ seconds_words seconds
whole_plain seconds fits = both_plain (decimal seconds) (codes " s") (digits_plain seconds fits) unit

precise_plain : (micros : ℕ) → micros < 2 ^ 64 → escaped (micros_words micros) ≡ micros_words micros
precise_plain micros fits =
    both_plain (decimal (micros / 1000000)) _ (digits_plain (micros / 1000000) (omega (arith, fits)))
    (both_plain (fraction_words micros) (codes " s") (fraction micros) unit)

-- each with a sign before it
pub whole_behind : (seconds : ℕ) → seconds < 2 ^ 64 → escaped (codes "+" ++ seconds_words seconds) ≡ codes "+" ++ seconds_words seconds
whole_behind seconds fits = both_plain (codes "+") _ plus (whole_plain seconds fits)

pub whole_before : (seconds : ℕ) → seconds < 2 ^ 64 → escaped (codes "-" ++ seconds_words seconds) ≡ codes "-" ++ seconds_words seconds
whole_before seconds fits = both_plain (codes "-") _ minus (whole_plain seconds fits)

pub precise_behind : (micros : ℕ) → micros < 2 ^ 64 → escaped (codes "+" ++ micros_words micros) ≡ codes "+" ++ micros_words micros
precise_behind micros fits = both_plain (codes "+") _ plus (precise_plain micros fits)

pub precise_before : (micros : ℕ) → micros < 2 ^ 64 → escaped (codes "-" ++ micros_words micros) ≡ codes "-" ++ micros_words micros
precise_before micros fits = both_plain (codes "-") _ minus (precise_plain micros fits)

-- ---- octets of which none is one that HTML has otherwise

plain_by : (x : ℕ) (a b c d e : Bool) → (x == 38) ≡ a → (x == 60) ≡ b → (x == 62) ≡ c → (x == 34) ≡ d → (x == 39) ≡ e
    → (¬ (a || b || c) ≡ true) → (¬ (d || e) ≡ true) → escape_octet x ≡ x ∷ []
unfolding escape_octet
plain_by x true b c d e p q r s t not3 not2 = absurd (not3 refl)
plain_by x false true c d e p q r s t not3 not2 = absurd (not3 refl)
plain_by x false false true d e p q r s t not3 not2 = absurd (not3 refl)
plain_by x false false false true e p q r s t not3 not2 = absurd (not2 refl)
plain_by x false false false false true p q r s t not3 not2 = absurd (not2 refl)
plain_by x false false false false false p q r s t not3 not2 = rw p (rw q (rw r (rw s (rw t refl))))

-- each part of them, from the octet behind so many on
part_plain : (text : List ℕ) → Nowhere (Passes (is_byte3 38 60 62) text) 0 (length text) → Nowhere (Passes (is_byte2 34 39) text) 0 (length text)
    → (from count : ℕ) → escaped (take count (drop from text)) ≡ take count (drop from text)
part_plain [] not3 not2 zero zero = refl
part_plain [] not3 not2 zero (suc count) = refl
part_plain [] not3 not2 (suc from) zero = refl
part_plain [] not3 not2 (suc from) (suc count) = refl
part_plain (x ∷ text) not3 not2 zero zero = refl
part_plain (x ∷ text) not3 not2 zero (suc count) =
    let first = plain_by x (x == 38) (x == 60) (x == 62) (x == 34) (x == 39) refl refl refl refl refl (not3 0 (omega arith) (omega arith)) (not2 0 (omega arith) (omega arith)) in
    ap (λ (o : List ℕ). o ++ escaped (take count text)) first
    ∙ ap (λ (o : List ℕ). x ∷ o)
    (part_plain text (λ j low high. not3 (suc j) (omega arith) (omega (arith, high))) (λ j low high. not2 (suc j) (omega arith) (omega (arith, high))) zero count)
part_plain (x ∷ text) not3 not2 (suc from) count =
    part_plain text (λ j low high. not3 (suc j) (omega arith) (omega (arith, high))) (λ j low high. not2 (suc j) (omega arith) (omega (arith, high))) from count

-- as two searches tell
pub parts_plain : (text : List ℕ) (first second : Option ℕ) → is_some first ≡ false → is_some second ≡ false → IsFirstByte (is_byte3 38 60 62) text first
    → IsFirstByte (is_byte2 34 39) text second → ArePlain text
parts_plain text None None a b not3 not2 = part_plain text not3 not2
parts_plain text None (Some k) a b not3 not2 = absurd (false≢true (sym b))
parts_plain text (Some k) second a b not3 not2 = absurd (false≢true (sym a))
