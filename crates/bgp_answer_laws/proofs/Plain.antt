-- A text without control characters has no line feed, and no digits have one.
use Rattle.std.proofs.Common.{◌≡◌, ◌==◌, ◌<◌, ◌≤◌, ◌+◌, ◌/◌, ◌%◌, ℕ, zero, suc, false, List, [], ◌∷◌, arith, get_or, length, nat_lt, refl, slice_index, subst, sym, inl, inr}
use Rattle.std.specs.List.{list_any}
use Rattle.std.specs.Str.{chars}
use Rattle.std.proofs.lemmas.Bool.{cases_lt, ltb-false, ne_eqb}
use Rattle.std.proofs.lemmas.Str.{chars-encodes, encode_ascii, inside_one}
use Rattle.std.proofs.lemmas.List.{append-nil}
use lib.Utf8.{encode, encodes}
use Rattle.hex.specs.Hex.{encode_lower, encode_with, lower_digits}
use Rattle.bgp_html.specs.Taking.{HasNoEnd}
use Rattle.bgp_values.specs.Readable.{is_hidden}
use Rattle.bgp_visible_laws.specs.Visible.{IsVisible, is_control}
use Rattle.bgp_visible_laws.proofs.Visible.{neither, or_false}
use Rattle.bgp_answer_laws.proofs.Lines.{IsPlain, no_end_both}

pub not_end : (octet : ℕ) (octets : List ℕ) → (octet ≡ 10 → ⊥) → HasNoEnd octets → HasNoEnd (octet ∷ octets)
not_end octet octets other none = or_false (octet == 10) (list_any (λ o. o == 10) octets) (ne_eqb octet 10 other) none

-- ---- characters

from_high : (octets : List ℕ) → ((k : ℕ) → k < length octets → 128 ≤ get_or octets k 0) → HasNoEnd octets
from_high [] high = refl
from_high (x ∷ xs) high =
    let least : 128 ≤ x = high 0 (omega arith) in
    not_end x xs (λ e. omega (arith, least, e)) (from_high xs (λ k below. high (suc k) (omega arith)))

one : (c : ℕ) → is_control c ≡ false → HasNoEnd (encode c)
one c hidden =
    let least : 32 ≤ c = ltb-false c 32 (neither (nat_lt c 32) (is_hidden c) hidden).0 in
    elim (cases_lt c 128) [
      | inl small ↦ subst HasNoEnd (sym (encode_ascii c small)) (not_end c [] (λ e. omega (arith, least, e)) refl)
      | inr large ↦
          from_high (encode c) (λ k below. elim (cases_lt (get_or (encode c) k 0) 128) [
            | inl low ↦ absurd (omega (arith, large, inside_one c [] (encode c) k (sym (append-nil (encode c))) below low, low))
            | inr h ↦ h
          ])
    ]

all : (cs : List ℕ) → list_any is_control cs ≡ false → HasNoEnd (encodes cs)
all [] hidden = refl
all (c ∷ cs) hidden =
    let parts = neither (is_control c) (list_any is_control cs) hidden in
    no_end_both (encode c) (encodes cs) (one c parts.0) (all cs parts.1)

pub plain : {text : List ℕ} → IsVisible text → IsPlain text
plain {text} visible =
    let cs = visible.utf8.0 in
    let spelled : chars text ≡ cs = sym (subst (λ (t : List ℕ). cs ≡ chars t) visible.utf8.1.1 (sym (chars-encodes cs visible.utf8.1.0))) in
    record { none = subst HasNoEnd visible.utf8.1.1 (all cs (subst (λ (l : List ℕ). list_any is_control l ≡ false) spelled visible.shown)) }

-- ---- digits

pub digit : (n : ℕ) {octets : List ℕ} → IsPlain octets → IsPlain ((48 + n) ∷ octets)
digit n {octets} its = record { none = not_end (48 + n) octets (λ e. omega (arith, e)) its.none }

at_place : (octets : List ℕ) (k : ℕ) → HasNoEnd octets → (get_or octets k 0 == 10) ≡ false
at_place [] k none = refl
at_place (x ∷ xs) zero none = (neither (x == 10) (list_any (λ o. o == 10) xs) none).0
at_place (x ∷ xs) (suc k) none = at_place xs k (neither (x == 10) (list_any (λ o. o == 10) xs) none).1

none_encoded : (octets : List ℕ) → HasNoEnd (encode_lower octets)
unfolding encode_with
none_encoded [] = refl
none_encoded (octet ∷ octets) =
    or_false (slice_index lower_digits (octet / 16) == 10) _ (at_place lower_digits (octet / 16) refl)
    (or_false (slice_index lower_digits (octet % 16) == 10) _ (at_place lower_digits (octet % 16) refl) (none_encoded octets))

pub encoded : (octets : List ℕ) → IsPlain (encode_lower octets)
encoded octets = record { none = none_encoded octets }
