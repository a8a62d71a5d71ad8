-- What a contract sees of a buffer.
use Rattle.std.specs.Prelude.{ℕ, List}

-- its text, and how many places behind it may be written at once
pub record Filled : Type 0 where
  pub items : List ℕ
  pub ready : ℕ
