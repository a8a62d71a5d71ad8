-- A text that says one thing.
use Rattle.std.specs.Prelude.{◌≡◌, ◌≤◌, ℕ, List, length}
use Rattle.bgp_why_parts.specs.Parts.{shown}

-- whatever fits, and has the same text, says the same
abbrev pub TextsDiffer : {P S : Type 0} → (P → Type 0) → (P → List ℕ) → (P → S) → Type 0
TextsDiffer {P} Fits text said =
    (one other : P) → Fits one → Fits other → text one ≡ text other → said one ≡ said other

-- and so it is of what is shown of the texts after another, if one of them is shown whole
abbrev pub ShownTextsDiffer : {P S : Type 0} → (P → Type 0) → (P → List ℕ) → (P → S) → Type 0
ShownTextsDiffer {P} Fits text said =
    (before : List ℕ) (one other : P) → Fits one → Fits other → length (text one) ≤ 200
    → shown before (text one) ≡ shown before (text other) → said one ≡ said other
