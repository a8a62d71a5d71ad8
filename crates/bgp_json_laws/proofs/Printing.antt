-- Lines of values whose numbers are in decimal: a line has one line feed, at its end, and determines
-- its value.
use Rattle.std.proofs.Common.{◌≡◌, ◌∙◌, ◌++◌, ◌+◌, ◌/◌, ◌%◌, ◌==◌, ◌&&◌, ◌||◌, ◌≤◌, ℕ, Bool, true, false, not, List, [], ◌∷◌, codes, append-nil, append_assoc, cond, nat_lt, refl, sym, ap, arith, inl, inr}
use Rattle.std.specs.Prelude.{⊤}
use Rattle.std.specs.Char.{digit_char}
use Rattle.std.proofs.lemmas.Bool.{and_from, cond_both, eqb-true, ltb-false, ltb-true, ne_eqb, not_from_false, or_cases}
use Rattle.std.proofs.lemmas.Option.{same_Some}
use mathlib.Core.List.{append_cancel_left}
use Rattle.json.specs.Json.{Json, Items, Members, null, boolean, number, string, array, object, no_items, item, no_members, member, document, max_depth}
use Rattle.json.specs.Print.{begins, ends, escape, escape_byte, escape_letter, print, print_from, quoted, separator, token_text}
use Rattle.json.specs.Token.{Token}
use Rattle.json.specs.Tree.{HasNumbers, ItemsHaveNumbers, MembersHaveNumbers, depth, items_tokens, json_tokens, members_tokens}
use Rattle.json.proofs.Printed.Decimals.{IsNumber-decimal}
use Rattle.json.proofs.Printed.Trees.{document-print}
use Rattle.bgp_names.proofs.Distinct.{decimal_lacks, lacks, lacks_both, one_front}
use Rattle.bgp_json.specs.Object.{json_line}
use Rattle.bgp_json_laws.proofs.Decimals.{HasDecimals, IsDecimal, ItemsHaveDecimals, MembersHaveDecimals}

-- ---- its numbers are some

is_number : (s : List ℕ) → IsDecimal s → HasNumbers (number s)
is_number s is = rw is.2 (IsNumber-decimal is.0 is.1)

mutual
  pub has_numbers : (j : Json) → HasDecimals j → HasNumbers j
  has_numbers null is = tt
  has_numbers (boolean b) is = tt
  has_numbers (number s) is = is_number s is
  has_numbers (string s) is = tt
  has_numbers (array js) is = items_have_numbers js is
  has_numbers (object ms) is = members_have_numbers ms is

  items_have_numbers : (js : Items) → ItemsHaveDecimals js → ItemsHaveNumbers js
  items_have_numbers no_items is = tt
  items_have_numbers (item j js) is = (has_numbers j is.0, items_have_numbers js is.1)

  members_have_numbers : (ms : Members) → MembersHaveDecimals ms → MembersHaveNumbers ms
  members_have_numbers no_members is = tt
  members_have_numbers (member k j ms) is = (has_numbers j is.0, members_have_numbers ms is.1)

-- ---- no line feed is in its text

-- an octet that is none
no_feed : (c : ℕ) → 32 ≤ c → lacks 10 (c ∷ []) ≡ true
no_feed c above = and_from (not (c == 10)) true (not_from_false (c == 10) (ne_eqb c 10 (λ e. omega (arith, e, above)))) refl

-- none of two octets is one
two_lack : (c d : ℕ) → 32 ≤ c → 32 ≤ d → lacks 10 (c ∷ d ∷ []) ≡ true
two_lack c d first second = lacks_both 10 (c ∷ []) (d ∷ []) (no_feed c first) (no_feed d second)

letter_high : (x : ℕ) → nat_lt 0 (escape_letter x) ≡ true → 32 ≤ escape_letter x
letter_high x =
    let High : ℕ → Type 0 = λ l. nat_lt 0 l ≡ true → 32 ≤ l in
    let none : High 0 = (λ e. absurd (let some = ltb-true 0 0 e in omega (arith, some))) in
    let tab : ℕ = cond (x == 9) 116 0 in
    let ret : ℕ = cond (x == 13) 114 tab in
    let feed : ℕ = cond (x == 10) 110 ret in
    let form : ℕ = cond (x == 12) 102 feed in
    cond_both ((x == 34) || (x == 92)) x (cond (x == 8) 98 form) High (λ is some. quote_high x is)
    (λ _. cond_both (x == 8) 98 form High (λ _ _. omega arith)
    (λ _. cond_both (x == 12) 102 feed High (λ _ _. omega arith)
    (λ _. cond_both (x == 10) 110 ret High (λ _ _. omega arith)
    (λ _. cond_both (x == 13) 114 tab High (λ _ _. omega arith)
    (λ _. cond_both (x == 9) 116 0 High (λ _ _. omega arith) (λ _. none))))))
  where
    quote_high : (x : ℕ) → ((x == 34) || (x == 92)) ≡ true → 32 ≤ x
    quote_high x is = elim (or_cases (x == 34) (x == 92) is) [
      | inl first ↦ let e = eqb-true x 34 first in omega (arith, e)
      | inr second ↦ let e = eqb-true x 92 second in omega (arith, e)
    ]

digit_high : (d : ℕ) → 32 ≤ digit_char d
digit_high d = cond_both (nat_lt d 10) (48 + d) (87 + d) (λ (c : ℕ). 32 ≤ c) (λ _. omega arith) (λ _. omega arith)

escaped : (x : ℕ) → lacks 10 (escape_byte x) ≡ true
unfolding escape_byte
escaped x =
    let Free : List ℕ → Type 0 = λ text. lacks 10 text ≡ true in
    let code = 92 ∷ 117 ∷ 48 ∷ 48 ∷ digit_char (x / 16) ∷ digit_char (x % 16) ∷ [] in
    cond_both (nat_lt 0 (escape_letter x)) (92 ∷ escape_letter x ∷ []) (cond (nat_lt x 32) code (x ∷ [])) Free
    (λ is. two_lack 92 (escape_letter x) (omega arith) (letter_high x is))
    (λ _. cond_both (nat_lt x 32) code (x ∷ []) Free
    (λ _. lacks_both 10 (92 ∷ 117 ∷ 48 ∷ 48 ∷ []) (digit_char (x / 16) ∷ digit_char (x % 16) ∷ []) refl (two_lack _ _ (digit_high (x / 16)) (digit_high (x % 16))))
    (λ above. no_feed x (ltb-false x 32 above)))

escape_lacks : (text : List ℕ) → lacks 10 (escape text) ≡ true
escape_lacks [] = refl
escape_lacks (x ∷ text) = lacks_both 10 (escape_byte x) (escape text) (escaped x) (escape_lacks text)

quoted_lacks : (text : List ℕ) → lacks 10 (quoted text) ≡ true
quoted_lacks text = lacks_both 10 (escape text) (34 ∷ []) (escape_lacks text) refl

-- a token whose number is in decimal
abbrev IsPlain : Token → Type 0
IsPlain Token.begin_object = ⊤
IsPlain Token.end_object = ⊤
IsPlain Token.begin_array = ⊤
IsPlain Token.end_array = ⊤
IsPlain (Token.key s) = ⊤
IsPlain (Token.string s) = ⊤
IsPlain (Token.number s) = IsDecimal s
IsPlain (Token.boolean b) = ⊤
IsPlain Token.null = ⊤
IsPlain Token.bad = ⊤

abbrev ArePlain : List Token → Type 0
ArePlain [] = ⊤
ArePlain (t ∷ ts) = IsPlain t × ArePlain ts

both_plain : (ts us : List Token) → ArePlain ts → ArePlain us → ArePlain (ts ++ us)
both_plain [] us first second = second
both_plain (t ∷ ts) us first second = (first.0, both_plain ts us first.1 second)

mutual
  plain_tokens : (j : Json) → HasDecimals j → ArePlain (json_tokens j)
  plain_tokens null is = (tt, tt)
  plain_tokens (boolean b) is = (tt, tt)
  plain_tokens (number s) is = (is, tt)
  plain_tokens (string s) is = (tt, tt)
  plain_tokens (array js) is = (tt, plain_items js is)
  plain_tokens (object ms) is = (tt, plain_members ms is)

  plain_items : (js : Items) → ItemsHaveDecimals js → ArePlain (items_tokens js)
  plain_items no_items is = (tt, tt)
  plain_items (item j js) is = both_plain (json_tokens j) (items_tokens js) (plain_tokens j is.0) (plain_items js is.1)

  plain_members : (ms : Members) → MembersHaveDecimals ms → ArePlain (members_tokens ms)
  plain_members no_members is = (tt, tt)
  plain_members (member k j ms) is = (tt, both_plain (json_tokens j) (members_tokens ms) (plain_tokens j is.0) (plain_members ms is.1))

number_lacks : (s : List ℕ) → IsDecimal s → lacks 10 s ≡ true
number_lacks s is = rw is.2 (decimal_lacks 10 is.0 (omega arith) is.1)

token_lacks : (t : Token) → IsPlain t → lacks 10 (token_text t) ≡ true
token_lacks Token.begin_object is = refl
token_lacks Token.end_object is = refl
token_lacks Token.begin_array is = refl
token_lacks Token.end_array is = refl
token_lacks (Token.key s) is = lacks_both 10 (quoted s) (58 ∷ []) (quoted_lacks s) refl
token_lacks (Token.string s) is = quoted_lacks s
token_lacks (Token.number s) is = number_lacks s is
token_lacks (Token.boolean true) is = refl
token_lacks (Token.boolean false) is = refl
token_lacks Token.null is = refl
token_lacks Token.bad is = refl

separator_lacks : (after : Bool) (t : Token) → lacks 10 (separator after t) ≡ true
separator_lacks after t = cond_both (after && begins t) (44 ∷ []) [] (λ (text : List ℕ). lacks 10 text ≡ true) (λ _. refl) (λ _. refl)

print_lacks : (after : Bool) (ts : List Token) → ArePlain ts → lacks 10 (print_from after ts) ≡ true
unfolding print_from
print_lacks after [] each = refl
print_lacks after (t ∷ ts) each =
    lacks_both 10 (separator after t) (token_text t ++ print_from (ends t) ts) (separator_lacks after t)
    (lacks_both 10 (token_text t) (print_from (ends t) ts) (token_lacks t each.0) (print_lacks (ends t) ts each.1))

-- ---- lines

-- a value whose line can be read
pub record IsPrinted (v : Json) : Type 0 where
  pub decimals : HasDecimals v
  pub shallow : depth v ≤ max_depth

read_back : (v w : Json) → IsPrinted v → IsPrinted w → print (json_tokens v) ≡ print (json_tokens w) → v ≡ w
read_back v w is also e =
    same_Some v w
    (sym (document-print v (has_numbers v is.decimals) is.shallow) ∙ ap document e ∙ document-print w (has_numbers w also.decimals) also.shallow)

-- two lines in front of anything are of one value, and what stands behind them is the same
pub same_first_line : (v w : Json) (rest others : List ℕ) → IsPrinted v → IsPrinted w → json_line v ++ rest ≡ json_line w ++ others → (v ≡ w) × (rest ≡ others)
unfolding json_line
same_first_line v w rest others is also e =
    let text = print (json_tokens v) in
    let text' = print (json_tokens w) in
    let whole : text ++ (10 ∷ rest) ≡ text' ++ (10 ∷ others) = sym (append_assoc text (codes "\n") rest) ∙ e ∙ append_assoc text' (codes "\n") others in
    let parts = one_front 10 text text' (10 ∷ rest) (10 ∷ others) (print_lacks false (json_tokens v) (plain_tokens v is.decimals))
    (print_lacks false (json_tokens w) (plain_tokens w also.decimals)) refl refl whole in
    (read_back v w is also parts.0, append_cancel_left (codes "\n") rest others parts.1)

pub same_line : (v w : Json) → IsPrinted v → IsPrinted w → json_line v ≡ json_line w → v ≡ w
same_line v w is also e =
    (same_first_line v w [] [] is also (append-nil (json_line v) ∙ e ∙ sym (append-nil (json_line w)))).0
