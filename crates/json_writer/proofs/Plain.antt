-- Texts that stand between quotation marks as they are: digits, addresses, hexadecimal.
use Rattle.std.proofs.Common.{◌≡◌, ◌∙◌, ◌++◌, ◌∷◌, [], ℕ, zero, suc, ◌+◌, ◌/◌, ◌%◌, ◌<◌, ◌≤◌, ◌^◌, ◌&&◌, Bool, true, false, List, not, ◌==◌, nat_lt, get_or, length, refl, sym, ap, ap₂, arith, inl, inr, decimal}
use Rattle.std.specs.Str.{IsUtf8}
use Rattle.std.proofs.lemmas.Bool.{and_from, cases_lt, lt-ltb}
use Rattle.std.proofs.lemmas.Fmt.{decimal_digit, decimal_step}
use Rattle.byteorder.specs.Endian.{big_bytes}
use Rattle.bgp_prefix.specs.Text.{address_text, dotted_text}
use Rattle.bgp_prefix.specs.declared.address.Address.TheVariants.{V4}
use Rattle.bgp_prefix.proofs.PrintedTexts.{octets_below}
use Rattle.hex.specs.Hex.{encode_lower}
use Rattle.json.specs.Print.{escape}
use Rattle.json.proofs.Printed.Strings.{escape_byte_plain}
use Rattle.json.proofs.Printed.Utf8.{IsUtf8-are_ascii, are_ascii}
use Rattle.json_writer.specs.Plain.{ArePlain, IsPlain}

-- ---- what is plain

pub escape_plain : (xs : List ℕ) → ArePlain xs → escape xs ≡ xs
escape_plain [] h = refl
escape_plain (x ∷ xs) h =
    ap₂ (λ (a b : List ℕ). a ++ b) (escape_byte_plain x h.0.no_quote h.0.no_backslash h.0.visible) (escape_plain xs h.1)

all : (xs : List ℕ) → ArePlain xs → are_ascii xs ≡ true
all [] h = refl
all (x ∷ xs) h = and_from _ _ (lt-ltb x 128 h.0.ascii) (all xs h.1)

pub utf8_plain : (xs : List ℕ) → ArePlain xs → IsUtf8 xs
utf8_plain xs h = IsUtf8-are_ascii xs (all xs h)

pub plain_append : (xs ys : List ℕ) → ArePlain xs → ArePlain ys → ArePlain (xs ++ ys)
plain_append [] ys h k = k
plain_append (x ∷ xs) ys h k = (h.0, plain_append xs ys h.1 k)

pub digit_plain : (n : ℕ) → n < 10 → IsPlain (48 + n)
digit_plain n few = record { visible = omega arith; ascii = omega arith; no_quote = λ e. omega arith; no_backslash = λ e. omega arith }

pub dot_plain : IsPlain 46
dot_plain = record { visible = omega arith; ascii = omega arith; no_quote = λ e. omega arith; no_backslash = λ e. omega arith }

pub slash_plain : IsPlain 47
slash_plain = record { visible = omega arith; ascii = omega arith; no_quote = λ e. omega arith; no_backslash = λ e. omega arith }

pub colon_plain : IsPlain 58
colon_plain = record { visible = omega arith; ascii = omega arith; no_quote = λ e. omega arith; no_backslash = λ e. omega arith }

-- ---- numbers

decimal_in : (most n : ℕ) → n ≤ most → n < 2 ^ 64 → ArePlain (decimal n)
decimal_in zero n few fits = rw (decimal_digit n (omega arith)) (digit_plain n (omega arith), tt)
decimal_in (suc most) n few fits = elim (cases_lt n 10) [
  | inl one ↦ rw (decimal_digit n one) (digit_plain n one, tt)
  | inr more ↦ rw (decimal_step n more fits)
      (plain_append (decimal (n / 10)) _ (decimal_in most (n / 10) (omega arith) (omega arith)) (digit_plain (n % 10) (omega arith), tt))
]

pub decimal_plain : (n : ℕ) → n < 2 ^ 64 → ArePlain (decimal n)
decimal_plain n fits = decimal_in n n (omega arith) fits

-- ---- addresses

octet_plain : (number k : ℕ) → ArePlain (decimal (get_or (big_bytes 4 number) k 0))
octet_plain number k = let below = octets_below 4 number k in decimal_plain _ (omega (arith, below))

pub address_plain : (number : ℕ) → ArePlain (address_text (V4 number))
unfolding address_text dotted_text
address_plain number =
    plain_append _ _ (octet_plain number 0) (
      dot_plain,
      plain_append _ _ (octet_plain number 1) (
        dot_plain,
        plain_append _ _ (octet_plain number 2) (dot_plain, octet_plain number 3),
      ),
    )

pub prefix_plain : (number bits : ℕ) → bits < 256 → ArePlain (address_text (V4 number) ++ 47 ∷ decimal bits)
prefix_plain number bits fits = plain_append _ _ (address_plain number) (slash_plain, decimal_plain bits (omega arith))

-- ---- numbers with colons between them

pub pair_plain : (first second : ℕ) → first < 2 ^ 32 → second < 2 ^ 32 → ArePlain (decimal first ++ 58 ∷ decimal second)
pair_plain first second one two = plain_append _ _ (decimal_plain first (omega arith)) (colon_plain, decimal_plain second (omega arith))

pub triple_plain : (first second third : ℕ) → first < 2 ^ 32 → second < 2 ^ 32 → third < 2 ^ 32
    → ArePlain (decimal first ++ 58 ∷ (decimal second ++ 58 ∷ decimal third))
triple_plain first second third one two three =
    plain_append _ _ (decimal_plain first (omega arith)) (colon_plain, pair_plain second third two three)
