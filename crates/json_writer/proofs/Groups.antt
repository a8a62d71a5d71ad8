-- Groups of an IPv6 address: their digits, and that no text of them needs an escape.
use Rattle.std.proofs.Common.{◌≡◌, ◌∙◌, ◌++◌, ◌==◌, ◌&&◌, ◌<◌, ◌≤◌, ◌^◌, ◌/◌, ◌%◌, ◌+◌, ℕ, zero, suc, Bool, true, false, List, [], ◌∷◌, Option, None, Some, decimal, drop, refl, sym, take, arith, subst, inl, inr, le-leb}
use Rattle.std.specs.Char.{digit_char}
use Rattle.std.specs.Fmt.{digit_glyph, digits, digits_onto}
use Rattle.std.specs.List.{flat_map}
use Rattle.std.specs.Net.Text.{hex, leading_zero_digits}
use Rattle.std.proofs.lemmas.Bool.{and_parts, cases_Bool, cases_lt, lt-leb}
use Rattle.bgp_prefix.specs.Address.{ipv6_groups}
use Rattle.bgp_prefix.specs.Text.{address_text, colon_text, group_text, longest_zeros, shortened_text}
use Rattle.bgp_prefix.specs.declared.address.Address.TheVariants.{V6}
use Rattle.bgp_prefix.proofs.PrintedTexts.{group_text-hex}
use Rattle.json_writer.specs.Plain.{ArePlain, IsPlain}
use Rattle.json_writer.proofs.HexDigits.{is_plain, tested}
use Rattle.json_writer.proofs.Joined.{joined}
use Rattle.json_writer.proofs.Plain.{colon_plain, decimal_plain, plain_append, slash_plain}

-- ---- digits

pub four : (n : ℕ) → n < 2 ^ 16 → 0x1000 ≤ n
    → group_text n ≡ digit_char (n / 0x1000) ∷ digit_char (n / 0x100 % 16) ∷ digit_char (n / 0x10 % 16) ∷ digit_char (n % 16) ∷ []
unfolding hex
four n fits from = group_text-hex n fits ∙ rw (le-leb 0x1000 n from) refl

pub three : (n : ℕ) → n < 0x1000 → 0x100 ≤ n → group_text n ≡ digit_char (n / 0x100 % 16) ∷ digit_char (n / 0x10 % 16) ∷ digit_char (n % 16) ∷ []
unfolding hex
three n below from = group_text-hex n (omega arith) ∙ rw (lt-leb 0x1000 n below, le-leb 0x100 n from) refl

pub two : (n : ℕ) → n < 0x100 → 0x10 ≤ n → group_text n ≡ digit_char (n / 0x10 % 16) ∷ digit_char (n % 16) ∷ []
unfolding hex
two n below from = group_text-hex n (omega arith) ∙ rw (lt-leb 0x1000 n (omega arith), lt-leb 0x100 n below, le-leb 0x10 n from) refl

pub one : (n : ℕ) → n < 0x10 → group_text n ≡ digit_char (n % 16) ∷ []
unfolding hex
one n below = group_text-hex n (omega arith) ∙ rw (lt-leb 0x1000 n (omega arith), lt-leb 0x100 n (omega arith), lt-leb 0x10 n below) refl

-- ---- they need no escape

abbrev digits_below : (ℕ → ℕ) → ℕ → Bool
digits_below digit zero = true
digits_below digit (suc n) = is_plain (digit n) && digits_below digit n

digit_below : (digit : ℕ → ℕ) (n : ℕ) → digits_below digit n ≡ true → (d : ℕ) → d < n → is_plain (digit d) ≡ true
digit_below digit zero e d below = absurd (omega arith)
digit_below digit (suc n) e d below =
    let parts = and_parts (is_plain (digit n)) (digits_below digit n) e in
    elim (cases_lt d n) [
      | inl less ↦ digit_below digit n parts.1 d less
      | inr top ↦ let same : d ≡ n = omega arith in subst (λ (k : ℕ). is_plain (digit k) ≡ true) (sym same) parts.0
    ]

glyph_plain : (d : ℕ) → d < 16 → IsPlain (digit_glyph false d)
glyph_plain d below = tested (digit_glyph false d) (digit_below (digit_glyph false) 16 refl d below)

onto_plain : (k n : ℕ) (text : List ℕ) → ArePlain text → ArePlain (digits_onto k 16 false n text)
onto_plain zero n text plain = plain
onto_plain (suc k) n text plain =
    let more : ArePlain (digit_glyph false (n % 16) ∷ text) = (glyph_plain (n % 16) (omega arith), plain) in
    elim (cases_Bool (n / 16 == 0)) [
      | inl last ↦ rw last more
      | inr later ↦ rw later (onto_plain k (n / 16) (digit_glyph false (n % 16) ∷ text) more)
    ]

group_plain : (n : ℕ) → ArePlain (group_text n)
unfolding group_text digits
group_plain n = onto_plain 64 n [] tt

others_plain : (groups : List ℕ) → ArePlain (flat_map (λ group. 58 ∷ group_text group) groups)
others_plain [] = tt
others_plain (group ∷ groups) = plain_append (58 ∷ group_text group) _ (colon_plain, group_plain group) (others_plain groups)

groups_plain : (groups : List ℕ) → ArePlain (colon_text groups)
unfolding colon_text
groups_plain [] = tt
groups_plain (group ∷ groups) =
    subst ArePlain (sym (joined 58 group_text group groups)) (plain_append (group_text group) _ (group_plain group) (others_plain groups))

shortened_plain : (groups : List ℕ) (run : Option (ℕ × ℕ)) → ArePlain (shortened_text groups run)
unfolding shortened_text
shortened_plain groups None = groups_plain groups
shortened_plain groups (Some run) =
    plain_append (colon_text (take run.0 groups)) _ (groups_plain (take run.0 groups))
    (colon_plain, (colon_plain, groups_plain (drop (run.0 + run.1) groups)))

pub ipv6_plain : (number : ℕ) → ArePlain (address_text (V6 number))
unfolding address_text
ipv6_plain number = shortened_plain (ipv6_groups number) (longest_zeros 8 (ipv6_groups number))

pub ipv6_prefix_plain : (number bits : ℕ) → bits < 256 → ArePlain (address_text (V6 number) ++ 47 ∷ decimal bits)
ipv6_prefix_plain number bits fits = plain_append _ _ (ipv6_plain number) (slash_plain, decimal_plain bits (omega arith))
