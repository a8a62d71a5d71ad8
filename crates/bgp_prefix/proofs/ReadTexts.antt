-- What std reads as an address is what `specs/Notation` says, where there is no dot in an IPv6 text.
use Rattle.std.proofs.Common.{◌≡◌, ℕ, ◌+◌, ◌-◌, ◌^◌, ◌<◌, ◌≤◌, false, true, Bool, List, [], ◌∷◌, ◌++◌, length, decimal, refl, sym, ◌∙◌, arith, inl, inr, append_assoc}
use Rattle.std.proofs.lemmas.Bool.Decides.{nat_tests}
use Rattle.std.proofs.lemmas.List.{append-nil, length-append, length-replicate}
use Rattle.std.proofs.lemmas.List.Elements.{All-nil, All-cons, All-append, Contains-append_left, Contains-append_right, All-replicate}
use Rattle.std.proofs.lemmas.Fmt.{decimal_is_IsNumeral}
use Rattle.std.proofs.lemmas.Int.Digits.{digits_value-lt}
use Rattle.std.proofs.Math.Nat.{pow-le-pow_right}
use Rattle.std.specs.Prelude.{All, Contains}
use Rattle.std.specs.Char.{digit_value}
use Rattle.std.specs.List.{AllZip, join_with_byte}
use Rattle.std.specs.Str.Parse.{AllDigits}
use Rattle.std.specs.Net.Grammar.{IsDotted, IsGroupsAfter, IsGroups, IsColonHex}
use Rattle.bgp_prefix.specs.Notation.{IsGroupText, AreGroups, IsIpv6Text}

-- ---- characters

-- a hexadecimal digit stands after the dot and the slash
digit_above : (character radix : ℕ) → radix ≤ 16 → digit_value character < radix → 48 ≤ character
digit_above character radix fits digit = grind (arith, nat_tests)

abbrev pub IsHigh : ℕ → Type 0
IsHigh character = 48 ≤ character

digits_high : (radix : ℕ) (text : List ℕ) → radix ≤ 16 → AllDigits radix text → All IsHigh text
digits_high radix [] fits all = All-nil IsHigh
digits_high radix (character ∷ text) fits all = All-cons IsHigh character text (digit_above character radix fits all.0) (digits_high radix text fits all.1)

pub decimal_high : (number : ℕ) → number < 2 ^ 64 → All IsHigh (decimal number)
decimal_high number fits = digits_high 10 (decimal number) (omega arith) (decimal_is_IsNumeral number fits).0.1

groups_high : (texts : List (List ℕ)) (groups : List ℕ) → AllZip IsGroupText texts groups → All IsHigh (join_with_byte 58 texts)
groups_high [] groups all = All-nil IsHigh
groups_high (text ∷ []) [] all = absurd all
groups_high (text ∷ []) (group ∷ groups) all = digits_high 16 text (omega arith) all.0.0.1
groups_high (text ∷ next ∷ texts) [] all = absurd all
groups_high (text ∷ next ∷ texts) (group ∷ groups) all =
    All-append IsHigh text _ (digits_high 16 text (omega arith) all.0.0.1) (All-cons IsHigh 58 _ (omega arith) (groups_high (next ∷ texts) groups all.1))

pub ipv6_high : (text groups : List ℕ) → IsIpv6Text text groups → All IsHigh text
ipv6_high text groups (inl whole) = rw whole.0.1 (groups_high whole.0.0 groups whole.0.2)
ipv6_high text groups (inr shortened) =
    let s = shortened in
    let front = rw (← s.head_groups.1) at (groups_high s.head_groups.0 s.head s.head_groups.2) in
    let back = rw (← s.tail_groups.1) at (groups_high s.tail_groups.0 s.tail s.tail_groups.2) in
    rw s.spelled (All-append IsHigh s.head_text _ front (All-cons IsHigh 58 (58 ∷ s.tail_text) (omega arith) (All-cons IsHigh 58 s.tail_text (omega arith) back)))

-- ---- groups, as std has them

-- groups after what stands before them, if there are any
abbrev led : List ℕ → List (List ℕ) → List ℕ
led lead [] = []
led lead (text ∷ texts) = lead ++ join_with_byte 58 (text ∷ texts)

to_std : (lead : List ℕ) (texts : List (List ℕ)) (groups : List ℕ) → AllZip IsGroupText texts groups → IsGroupsAfter false lead (led lead texts) groups
to_std lead [] [] all = refl
to_std lead [] (group ∷ groups) all = absurd all
to_std lead (text ∷ texts) [] all = absurd all
to_std lead (text ∷ []) (group ∷ []) all = inl (text, [], sym (append-nil (lead ++ text)), ((all.0.0, all.0.2), all.0.1), refl)
to_std lead (text ∷ []) (group ∷ next ∷ groups) all = absurd all.1
to_std lead (text ∷ next ∷ texts) (group ∷ groups) all =
    inl (text, 58 ∷ join_with_byte 58 (next ∷ texts), sym (append_assoc lead text _), ((all.0.0, all.0.2), all.0.1), to_std (58 ∷ []) (next ∷ texts) groups all.1)

pub dotted_contains : (text octets : List ℕ) → IsDotted text octets → Contains text 46
dotted_contains text octets dotted =
    let first : Contains (decimal dotted.a ++ (46 ∷ [])) 46 = Contains-append_right (decimal dotted.a) (46 ∷ []) 46 (0, omega arith, refl) in
    rw dotted.spelled
    (Contains-append_left _ _ 46 (Contains-append_left _ _ 46 (Contains-append_left _ _ 46 (Contains-append_left _ _ 46 (Contains-append_left _ _ 46 first)))))

one_more : (lead one rest : List ℕ) (texts : List (List ℕ)) → rest ≡ led (58 ∷ []) texts → lead ++ one ++ rest ≡ led lead (one ∷ texts)
one_more lead one rest [] none = rw none (append-nil (lead ++ one))
one_more lead one rest (text ∷ texts) more = rw more (append_assoc lead one (58 ∷ join_with_byte 58 (text ∷ texts)))

from_std : (ipv4 : Bool) (groups : List ℕ) (lead text : List ℕ) → ¬ (Contains text 46) → IsGroupsAfter ipv4 lead text groups → (texts : List (List ℕ)) × (text ≡ led lead texts) × AllZip IsGroupText texts groups
from_std ipv4 [] lead text no_dot is = ([], is, tt)
from_std ipv4 (group ∷ groups) lead text no_dot (inl (one, rest, split, is_group, more)) =
    let later = from_std ipv4 groups (58 ∷ []) rest (λ dot. no_dot (rw split (Contains-append_right (lead ++ one) rest 46 dot))) more in
    (one ∷ later.0, split ∙ one_more lead one rest later.0 later.1, ((is_group.0.0, is_group.1, is_group.0.1), later.2))
from_std ipv4 (group ∷ groups) lead text no_dot (inr (last, octets, allowed, split, dotted, value)) =
    absurd (no_dot (rw split (Contains-append_right lead last 46 (dotted_contains last octets dotted))))

-- ---- whole addresses

led_none : (texts : List (List ℕ)) → led [] texts ≡ join_with_byte 58 texts
led_none [] = refl
led_none (text ∷ texts) = refl

groups_to_std : (text groups : List ℕ) → AreGroups text groups → IsGroups false text groups
groups_to_std text groups (texts, spelled, all) = rw (spelled, ← led_none texts) (to_std [] texts groups all)

groups_from_std : (ipv4 : Bool) (text groups : List ℕ) → ¬ (Contains text 46) → IsGroups ipv4 text groups → AreGroups text groups
groups_from_std ipv4 text groups no_dot is =
    let (texts, spelled, all) = from_std ipv4 groups [] text no_dot is in
    (texts, spelled ∙ led_none texts, all)

-- an IPv4 part is allowed, and not there
weaker : (groups : List ℕ) (lead text : List ℕ) → IsGroupsAfter false lead text groups → IsGroupsAfter true lead text groups
weaker [] lead text is = is
weaker (group ∷ groups) lead text (inl is) = inl (is.0, is.1, is.2, is.3, weaker groups (58 ∷ []) is.1 is.4)
weaker (group ∷ groups) lead text (inr is) = inr (is.0, is.1, refl, is.3, is.4, is.5)

pub to_colon_hex : (text groups : List ℕ) → IsIpv6Text text groups → IsColonHex text groups
to_colon_hex text groups (inl (whole, eight)) = inl (weaker groups [] text (groups_to_std text groups whole), eight)
to_colon_hex text groups (inr s) =
    let gap : 8 - length s.head - length s.tail ≡ 8 - (length s.head + length s.tail) = omega arith in
    inr (record {
      head_text = s.head_text;
      tail_text = s.tail_text;
      head = s.head;
      tail = s.tail;
      spelled = s.spelled ∙ sym (append_assoc s.head_text (58 ∷ 58 ∷ []) s.tail_text);
      head_groups = groups_to_std s.head_text s.head s.head_groups;
      tail_groups = weaker s.tail [] s.tail_text (groups_to_std s.tail_text s.tail s.tail_groups);
      room = s.room;
      value = s.value ∙ rw gap (sym (append_assoc s.head _ s.tail));
    })

pub from_colon_hex : (text groups : List ℕ) → ¬ (Contains text 46) → IsColonHex text groups → IsIpv6Text text groups
from_colon_hex text groups no_dot (inl (whole, eight)) = inl (groups_from_std true text groups no_dot whole, eight)
from_colon_hex text groups no_dot (inr e) =
    let gap : 8 - length e.head - length e.tail ≡ 8 - (length e.head + length e.tail) = omega arith in
    let no_dot_in_head : ¬ (Contains e.head_text 46) = λ dot. no_dot (rw e.spelled (Contains-append_left _ e.tail_text 46 (Contains-append_left e.head_text _ 46 dot))) in
    let no_dot_in_tail : ¬ (Contains e.tail_text 46) = λ dot. no_dot (rw e.spelled (Contains-append_right _ e.tail_text 46 dot)) in
    inr (record {
      head_text = e.head_text;
      tail_text = e.tail_text;
      head = e.head;
      tail = e.tail;
      spelled = e.spelled ∙ append_assoc e.head_text (58 ∷ 58 ∷ []) e.tail_text;
      head_groups = groups_from_std false e.head_text e.head no_dot_in_head e.head_groups;
      tail_groups = groups_from_std true e.tail_text e.tail no_dot_in_tail e.tail_groups;
      room = e.room;
      value = e.value ∙ rw gap (append_assoc e.head _ e.tail);
    })

-- ---- what is read has eight groups of 16 bits

group_small : (text : List ℕ) (group : ℕ) → IsGroupText text group → group < 2 ^ 16
group_small text group is =
    let below = digits_value-lt 16 text is.0.1 in
    let most : 16 ^ length text ≤ 16 ^ 4 = pow-le-pow_right (omega arith) is.1 in
    omega (arith, is.2)

groups_small : (texts : List (List ℕ)) (groups : List ℕ) → AllZip IsGroupText texts groups → All (λ group. group < 2 ^ 16) groups
groups_small [] [] all = All-nil (λ group. group < 2 ^ 16)
groups_small [] (group ∷ groups) all = absurd all
groups_small (text ∷ texts) [] all = absurd all
groups_small (text ∷ texts) (group ∷ groups) all =
    All-cons (λ g. g < 2 ^ 16) group groups (group_small text group all.0) (groups_small texts groups all.1)

pub ipv6_small : (text groups : List ℕ) → IsIpv6Text text groups → All (λ group. group < 2 ^ 16) groups
ipv6_small text groups (inl (whole, eight)) = groups_small whole.0 groups whole.2
ipv6_small text groups (inr s) =
    let zeros = All-replicate (λ g. g < 2 ^ 16) (8 - (length s.head + length s.tail)) 0 (omega arith) in
    let back = All-append (λ g. g < 2 ^ 16) _ s.tail zeros (groups_small s.tail_groups.0 s.tail s.tail_groups.2) in
    rw s.value (All-append (λ g. g < 2 ^ 16) s.head _ (groups_small s.head_groups.0 s.head s.head_groups.2) back)

pub ipv6_eight : (text groups : List ℕ) → IsIpv6Text text groups → length groups ≡ 8
ipv6_eight text groups (inl (whole, eight)) = eight
ipv6_eight text groups (inr s) =
    let room = s.room in
    rw s.value (simp (length-append, length-replicate) (omega arith))
