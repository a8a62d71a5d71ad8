-- A buffer whose front was filled holds there what it was filled with.
use Rattle.std.proofs.Common.{◌≡◌, ◌∙◌, ap, sym, ℕ, List, ◌++◌, length, take, arith}
use Rattle.std.proofs.lemmas.List.{take-append-le}

pub held : (front rest : List ℕ) (count filled : ℕ) → length front ≡ count → filled ≡ count → take count (front ++ rest) ≡ take filled front
held front rest count filled len all = take-append-le count front rest (omega arith) ∙ ap (λ (n : ℕ). take n front) (sym all)
