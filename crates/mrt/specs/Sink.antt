-- What takes octets: what is taken of a text where a write of it fails.
use Rattle.std.specs.Prelude.{◌≡◌, ℕ, List, ◌++◌}

-- From one state to another a beginning of these octets was taken, maybe none and maybe all.
pub record TakesBeginning {S : Type 0} (takes : S → S → List ℕ → Type 0)
    (old new : S) (octets : List ℕ) : Type 0 where
  pub taken : List ℕ
  pub rest : List ℕ
  pub whole : octets ≡ taken ++ rest
  pub took : takes old new taken
