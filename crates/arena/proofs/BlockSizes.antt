-- A block holds what was asked for, and its size fits a word.
use Rattle.std.proofs.Common.{◌≡◌, ℕ, zero, suc, sym, ap, ◌∙◌, ◌+◌, ◌-◌, ◌*◌, ◌/◌, ◌%◌, ◌^◌, ◌<◌, ◌≤◌, subst, arith}
use Rattle.std.proofs.lemmas.Nat.{leading_length, pow_pos}
use Rattle.std.proofs.Math.Nat.{div-mul-le_self, lt-div-mul-add, mod-le, pow-suc}
use Rattle.arena.specs.Sizes.{last_unit, low_bits, step, block_size}

three_bits_less : (m : ℕ) → 8 * 2 ^ (m - 3) ≤ 2 ^ m + 7
three_bits_less zero = omega arith
three_bits_less (suc zero) = omega arith
three_bits_less (suc (suc zero)) = omega arith
three_bits_less (suc (suc (suc m))) =
    let less : suc (suc (suc m)) - 3 ≡ m = omega arith in
    omega (arith, ap (λ (j : ℕ). 2 ^ j) less, pow-suc 2 (suc (suc m)), pow-suc 2 (suc m), pow-suc 2 m)

-- a step is at most an eighth of twice the number, and a bit more
short_step : (x : ℕ) → x < 2 ^ 59 → 8 * 2 ^ low_bits x ≤ 2 * x + 8
short_step x small =
    let long = leading_length 64 x (omega arith) in
    let m = long.0 in
    let same : low_bits x ≡ m - 3 = omega (arith, long.1) in
    subst (λ (j : ℕ). 8 * 2 ^ j ≤ 2 * x + 8) (sym same) (omega (arith, three_bits_less m, long.3))

pub short : (n : ℕ) → n < 2 ^ 63 → block_size n < 2 ^ 64
short n small =
    let x = last_unit n in
    omega (arith, short_step x (omega arith), div-mul-le_self x (step n))

pub holds : (n : ℕ) → n ≤ block_size n
holds n =
    let x = last_unit n in
    omega (arith, lt-div-mul-add {a = x} {b = step n} (pow_pos (low_bits x)))

-- what `block_size` computes fits a word
pub shifted : (n x b : ℕ) → n < 2 ^ 63 → x ≡ last_unit n → b ≡ low_bits x → (x / 2 ^ b + 1) * 2 ^ b % 18446744073709551616 * 16 < 2 ^ 64
shifted n x b small is is' =
    let all : b ≡ low_bits (last_unit n) = is' ∙ ap low_bits is in
    let same : (x / 2 ^ b + 1) * 2 ^ b ≡ (last_unit n / step n + 1) * step n = λ i. (is i / 2 ^ all i + 1) * 2 ^ all i in
    omega (arith, same, short n small, mod-le ((x / 2 ^ b + 1) * 2 ^ b) 18446744073709551616)
