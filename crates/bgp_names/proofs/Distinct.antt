-- Texts that differ at their beginnings, or behind an octet that their fronts don't have.
use Rattle.std.proofs.Common.{◌≡◌, ◌<◌, ◌^◌, ◌+◌, ◌%◌, ◌==◌, ◌&&◌, ◌++◌, ℕ, Bool, true, false, not, List, [], ◌∷◌, refl, sym, ap, ◌∙◌, arith}
use Rattle.std.specs.Fmt.{decimal}
use Rattle.std.proofs.lemmas.Bool.{and_from, and_parts, both_ways, eq-eqb, ne_eqb, not-true, not_from_false}
use Rattle.std.proofs.lemmas.Fmt.{decimal_by_steps}

-- the text begins with the word
abbrev pub begins : List ℕ → List ℕ → Bool
begins [] text = true
begins (c ∷ word) [] = false
begins (c ∷ word) (d ∷ text) = (c == d) && begins word text

pub begins_own : (word rest : List ℕ) → begins word (word ++ rest) ≡ true
begins_own [] rest = refl
begins_own (c ∷ word) rest = and_from (c == c) (begins word (word ++ rest)) (eq-eqb c c refl) (begins_own word rest)

-- the octet isn't in the text
abbrev pub lacks : ℕ → List ℕ → Bool
lacks octet [] = true
lacks octet (c ∷ text) = not (c == octet) && lacks octet text

pub lacks_both : (octet : ℕ) (xs ys : List ℕ) → lacks octet xs ≡ true → lacks octet ys ≡ true → lacks octet (xs ++ ys) ≡ true
lacks_both octet [] ys first second = second
lacks_both octet (c ∷ xs) ys first second =
    let parts = and_parts (not (c == octet)) (lacks octet xs) first in
    and_from (not (c == octet)) (lacks octet (xs ++ ys)) parts.0 (lacks_both octet xs ys parts.1 second)

one_digit : (octet n : ℕ) → octet < 48 → lacks octet ((48 + n) ∷ []) ≡ true
one_digit octet n low =
    and_from (not ((48 + n) == octet)) true (not_from_false ((48 + n) == octet) (ne_eqb (48 + n) octet (λ e. omega (arith, e, low)))) refl

-- digits are above 47
pub decimal_lacks : (octet n : ℕ) → octet < 48 → n < 2 ^ 64 → lacks octet (decimal n) ≡ true
decimal_lacks octet n low small =
    decimal_by_steps (λ (m : ℕ) (ds : List ℕ). lacks octet ds ≡ true)
    (λ m below. one_digit octet m low)
    (λ m ds above so_far. lacks_both octet ds ((48 + m % 10) ∷ []) so_far (one_digit octet (m % 10) low))
    n small

-- nothing follows, or the octet first
abbrev pub stops : ℕ → List ℕ → Bool
stops octet [] = true
stops octet (c ∷ rest) = c == octet

abbrev pub head_of : ℕ → List ℕ → ℕ
head_of none [] = none
head_of none (c ∷ rest) = c

abbrev pub tail_of : List ℕ → List ℕ
tail_of [] = []
tail_of (c ∷ rest) = rest

stopped : (octet c : ℕ) (text x rest : List ℕ) → lacks octet (c ∷ text) ≡ true → stops octet x ≡ true → x ≡ c ∷ rest → ⊥
stopped octet c text x rest lack stop e =
    both_ways (c == octet) (not-true (c == octet) (and_parts (not (c == octet)) (lacks octet text) lack).0) (rw e at stop)

-- fronts without the octet are equal where the wholes are
pub one_front : (octet : ℕ) (a b x y : List ℕ) → lacks octet a ≡ true → lacks octet b ≡ true → stops octet x ≡ true → stops octet y ≡ true
    → a ++ x ≡ b ++ y → (a ≡ b) × (x ≡ y)
one_front octet [] [] x y no_a no_b stop_x stop_y e = (refl, e)
one_front octet [] (d ∷ b) x y no_a no_b stop_x stop_y e = absurd (stopped octet d b x (b ++ y) no_b stop_x e)
one_front octet (c ∷ a) [] x y no_a no_b stop_x stop_y e = absurd (stopped octet c a y (a ++ x) no_a stop_y (sym e))
one_front octet (c ∷ a) (d ∷ b) x y no_a no_b stop_x stop_y e =
    let in_a = and_parts (not (c == octet)) (lacks octet a) no_a in
    let in_b = and_parts (not (d == octet)) (lacks octet b) no_b in
    let rest = one_front octet a b x y in_a.1 in_b.1 stop_x stop_y (ap tail_of e) in
    (ap (λ (k : ℕ). k ∷ a) (ap (head_of c) e) ∙ ap (λ (t : List ℕ). d ∷ t) rest.0, rest.1)
