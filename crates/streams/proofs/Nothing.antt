-- No octet is put: no giver is.
use Rattle.std.proofs.Common.{◌≡◌, ◌+◌, ◌∙◌, ℕ, Some, None, Option, List, refl, sym, ap, arith, inl, inr}
use Rattle.std.specs.Option.{option_or}
use Rattle.std.proofs.lemmas.Bool.{cases_lt, le-ltb}
use Rattle.streams.specs.declared.connection.Run.{Run}
use Rattle.streams.specs.declared.gathered.Giver.{Giver}
use Rattle.streams.specs.Given.{total, giver_at}
use Rattle.streams.proofs.Runs.{below}
use Rattle.streams.proofs.Known.{giver_within}

some_or : (o more : Option Giver) (giver : Giver) → o ≡ Some giver → o ≡ option_or o more
some_or None more giver e = absurd (grind arith)
some_or (Some x) more giver e = refl

none_more : (o : Option Giver) → o ≡ option_or o None
none_more None = refl
none_more (Some x) = refl

pub nothing_more : (runs : List Run) (giver : Giver) (place count : ℕ) → count ≡ 0 → giver_at runs place ≡ option_or (giver_at runs place) (below (total runs + count) giver place)
nothing_more runs giver place count e = elim (cases_lt place (total runs)) [
  | inl lt ↦
      let whose = giver_within runs place lt in
      some_or (giver_at runs place) (below (total runs + count) giver place) whose.0 whose.1
  | inr ge ↦
      none_more (giver_at runs place)
      ∙ ap (λ (o : Option Giver). option_or (giver_at runs place) o) (sym (rw (le-ltb place (total runs + count) (omega arith))))
]
