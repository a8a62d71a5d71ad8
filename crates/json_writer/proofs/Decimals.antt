-- A number in decimal, by what stands before its three last digits.
use Rattle.std.proofs.Common.{◌≡◌, ◌∙◌, ℕ, List, [], ◌∷◌, ◌++◌, ◌+◌, ◌/◌, ◌%◌, ◌<◌, ◌≤◌, ◌^◌, arith, ap, append_assoc, decimal}
use Rattle.std.proofs.lemmas.Fmt.{decimal_step}
use Rattle.json_writer.specs.Places.{three_digits}

pub thousands : (n : ℕ) → 1000 ≤ n → n < 2 ^ 64 → decimal n ≡ decimal (n / 1000) ++ three_digits (n % 1000)
thousands n many fits =
    let tens = n / 10 in
    let hundreds = tens / 10 in
    let front : hundreds / 10 ≡ n / 1000 = omega arith in
    let first : hundreds % 10 ≡ n % 1000 / 10 / 10 = omega arith in
    let second : tens % 10 ≡ n % 1000 / 10 % 10 = omega arith in
    let third : n % 10 ≡ n % 1000 % 10 = omega arith in
    decimal_step n (omega arith) fits
    ∙ ap (λ (ds : List ℕ). ds ++ (48 + n % 10) ∷ []) (decimal_step tens (omega arith) (omega arith)
    ∙ ap (λ (ds : List ℕ). ds ++ (48 + tens % 10) ∷ []) (decimal_step hundreds (omega arith) (omega arith)))
    ∙ ap (λ (ds : List ℕ). ds ++ (48 + n % 10) ∷ []) (append_assoc (decimal (hundreds / 10)) ((48 + hundreds % 10) ∷ []) ((48 + tens % 10) ∷ []))
    ∙ append_assoc (decimal (hundreds / 10)) ((48 + hundreds % 10) ∷ (48 + tens % 10) ∷ []) ((48 + n % 10) ∷ [])
    ∙ (λ i. decimal (front i) ++ (48 + first i) ∷ (48 + second i) ∷ (48 + third i) ∷ [])
