use Rattle.std.proofs.Common.{◌≡◌, ◌++◌, ◌∷◌, ℕ, List, [], codes, refl}
use Rattle.bgp_check_tool.specs.Elsewhere.{in_none}

some_deed : (deed : List ℕ) → ¬ (deed ≡ []) → in_none deed ≡ deed ++ codes ", as in no order that these packets allow"
some_deed [] some = absurd (some refl)
some_deed (x ∷ deed) some = refl
