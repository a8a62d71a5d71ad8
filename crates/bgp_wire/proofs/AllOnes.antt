-- A marker as numbers: all its octets are 255 where each number is the greatest of so many octets.
use Rattle.std.proofs.Common.{◌≡◌, ◌↔◌, Bool, true, false, IsTrue, ℕ, zero, suc, ◌+◌, ◌*◌, ◌^◌, ◌<◌, ◌≤◌, ◌-◌, List, length, take, drop, get_or, All, refl, sym, ap, ◌∙◌, arith, inl, inr}
use Rattle.std.proofs.Math.Nat.{pow-succ', mul-le-mul_right}
use Rattle.std.proofs.lemmas.Bool.{cases_eq, cases_lt}
use Rattle.std.proofs.lemmas.Grind.{get_or_default_zero}
use Rattle.std.proofs.lemmas.List.{get_or-drop, get_or-take, length-take-le}
use Rattle.byteorder.specs.Endian.{big_from, big_number}
use Rattle.byteorder.specs.Numbers.{big_from-lt}

abbrev pub Octets : List ℕ → Type 0
Octets octets = (k : ℕ) → get_or octets k 0 < 256

-- those from place i, n of them, are 255
abbrev pub AreOnes : ℕ → ℕ → List ℕ → Type 0
AreOnes i n octets = (k : ℕ) → i ≤ k → k < i + n → get_or octets k 0 ≡ 255

ones : (i n : ℕ) (octets : List ℕ) → Octets octets → big_from i n octets + 1 ≡ 256 ^ n → AreOnes i n octets
ones i zero octets fit e = λ k from below. absurd (omega arith)
ones i (suc n) octets fit e =
    let low = big_from-lt (suc i) n octets fit in
    let power = pow-succ' 256 n in
    let here = fit i in
    elim (cases_eq (get_or octets i 0) 255) [
      | inl same ↦
          let sum : get_or octets i 0 * 256 ^ n ≡ 255 * 256 ^ n = ap (λ (x : ℕ). x * 256 ^ n) same in
          let later = ones (suc i) n octets fit (omega (arith, power, e, sum)) in
          λ k from below. elim (cases_eq k i) [
            | inl at ↦ ap (λ (k : ℕ). get_or octets k 0) at ∙ same
            | inr other ↦ later k (omega arith) (omega arith)
          ]
      | inr other ↦
          let less : get_or octets i 0 ≤ 254 = omega arith in
          let most = mul-le-mul_right (256 ^ n) less in
          absurd (omega (arith, power, e, most, low))
    ]

greatest : (i n : ℕ) (octets : List ℕ) → AreOnes i n octets → big_from i n octets + 1 ≡ 256 ^ n
greatest i zero octets all = refl
greatest i (suc n) octets all =
    let power = pow-succ' 256 n in
    let first = all i (omega arith) (omega arith) in
    let sum : get_or octets i 0 * 256 ^ n ≡ 255 * 256 ^ n = ap (λ (x : ℕ). x * 256 ^ n) first in
    let later = greatest (suc i) n octets (λ k from below. all k (omega arith) (omega arith)) in
    omega (arith, power, sum, later)

-- by index, as a marker is told
by_index : (octets : List ℕ) → 16 ≤ length octets → AreOnes 0 16 octets ↔ All (λ octet. octet ≡ 255) (take 16 octets)
by_index octets within =
    let sixteen = length-take-le 16 octets within in (
      λ ones k d inside. get_or-take 16 octets k d (omega (arith, sixteen)) ∙ get_or_default_zero octets k d (omega (arith, sixteen)) ∙ ones k (omega arith) (omega (arith, sixteen)),
      λ all k from below. sym (get_or-take 16 octets k 0 (omega arith)) ∙ all k 0 (omega (arith, sixteen)),
    )

pub two_numbers : (octets : List ℕ) → Octets octets → 16 ≤ length octets
    → ((big_number 8 octets + 1 ≡ 256 ^ 8) × (big_number 8 (drop 8 octets) + 1 ≡ 256 ^ 8)) ↔ All (λ octet. octet ≡ 255) (take 16 octets)
two_numbers octets fit within = (
  λ numbers.
      let first = ones 0 8 octets fit numbers.0 in
      let second = ones 0 8 (drop 8 octets) (λ k. rw (get_or-drop 8 octets k 0) (fit (8 + k))) numbers.1 in
      (by_index octets within).0 (λ k from below. elim (cases_lt k 8) [
        | inl before ↦ first k (omega arith) (omega arith)
        | inr after ↦
            let place : 8 + (k - 8) ≡ k = omega arith in
            ap (λ (k : ℕ). get_or octets k 0) (sym place) ∙ sym (get_or-drop 8 octets (k - 8) 0) ∙ second (k - 8) (omega arith) (omega arith)
      ]),
  λ all.
      let each = (by_index octets within).1 all in (
        greatest 0 8 octets (λ k from below. each k (omega arith) (omega arith)),
        greatest 0 8 (drop 8 octets) (λ k from below. get_or-drop 8 octets k 0 ∙ each (8 + k) (omega arith) (omega arith)),
      ),
)

-- the second number tells where the first is the greatest
pub both_greatest : (octets : List ℕ) (m n : ℕ) (a b : Bool) → Octets octets → 16 ≤ length octets → m ≡ big_number 8 octets → n ≡ big_number 8 (drop 8 octets)
    → IsTrue a ↔ (m + 1 ≡ 256 ^ 8) → IsTrue b ↔ (n + 1 ≡ 256 ^ 8) → a ≡ true → IsTrue b ↔ All (λ octet. octet ≡ 255) (take 16 octets)
both_greatest octets m n a b fit within first second one other is =
    let two = two_numbers octets fit within in (
      λ t. two.0 (ap (λ (x : ℕ). x + 1) (sym first) ∙ one.0 is, ap (λ (x : ℕ). x + 1) (sym second) ∙ other.0 t),
      λ all. other.1 (ap (λ (x : ℕ). x + 1) second ∙ (two.1 all).1),
    )

-- and the first where it isn't
pub not_greatest : (octets : List ℕ) (m : ℕ) (a : Bool) → Octets octets → 16 ≤ length octets → m ≡ big_number 8 octets
    → IsTrue a ↔ (m + 1 ≡ 256 ^ 8) → a ≡ false → IsTrue a ↔ All (λ octet. octet ≡ 255) (take 16 octets)
not_greatest octets m a fit within first one is =
    let two = two_numbers octets fit within in
    (λ t. absurd cc, λ all. one.1 (ap (λ (x : ℕ). x + 1) first ∙ (two.1 all).0))
