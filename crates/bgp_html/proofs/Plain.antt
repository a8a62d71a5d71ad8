-- Octets that HTML has as they are.
use Rattle.std.proofs.Common.{◌≡◌, ◌∙◌, ◌++◌, ◌==◌, ◌||◌, ℕ, suc, Bool, true, false, List, [], ◌∷◌, Option, None, Some, ap, arith, length, refl, sym}
use Rattle.std.proofs.lemmas.Bool.{false≢true}
use Rattle.std.specs.Option.{is_some}
use Rattle.memchr.specs.Find.{IsFirstByte, Nowhere, Passes, is_byte2, is_byte3}
use Rattle.bgp_html.specs.Escaped.{escape_octet, escaped}

plain_by : (x : ℕ) (a b c d e : Bool) → (x == 38) ≡ a → (x == 60) ≡ b → (x == 62) ≡ c → (x == 34) ≡ d → (x == 39) ≡ e
    → (¬ (a || b || c) ≡ true) → (¬ (d || e) ≡ true) → escape_octet x ≡ x ∷ []
unfolding escape_octet
plain_by x true b c d e p q r s t not3 not2 = absurd (not3 refl)
plain_by x false true c d e p q r s t not3 not2 = absurd (not3 refl)
plain_by x false false true d e p q r s t not3 not2 = absurd (not3 refl)
plain_by x false false false true e p q r s t not3 not2 = absurd (not2 refl)
plain_by x false false false false true p q r s t not3 not2 = absurd (not2 refl)
plain_by x false false false false false p q r s t not3 not2 = rw p (rw q (rw r (rw s (rw t refl))))

-- none is one that it has otherwise
pub as_it_is : (text : List ℕ) → Nowhere (Passes (is_byte3 38 60 62) text) 0 (length text) → Nowhere (Passes (is_byte2 34 39) text) 0 (length text)
    → escaped text ≡ text
as_it_is [] not3 not2 = refl
as_it_is (x ∷ text) not3 not2 =
    let first = plain_by x (x == 38) (x == 60) (x == 62) (x == 34) (x == 39) refl refl refl refl refl (not3 0 (omega arith) (omega arith)) (not2 0 (omega arith) (omega arith)) in
    ap (λ (o : List ℕ). o ++ escaped text) first
    ∙ ap (λ (o : List ℕ). x ∷ o) (as_it_is text (λ j low high. not3 (suc j) (omega arith) (omega (arith, high))) (λ j low high. not2 (suc j) (omega arith) (omega (arith, high))))

-- as two searches tell
pub none_found : (text : List ℕ) (first second : Option ℕ) → is_some first ≡ false → is_some second ≡ false → IsFirstByte (is_byte3 38 60 62) text first
    → IsFirstByte (is_byte2 34 39) text second → escaped text ≡ text
none_found text None None a b not3 not2 = as_it_is text not3 not2
none_found text None (Some k) a b not3 not2 = absurd (false≢true (sym b))
none_found text (Some k) second a b not3 not2 = absurd (false≢true (sym a))
