-- Texts of several tokens.
use Rattle.std.specs.Prelude.{◌≡◌, ℕ, Bool, true, false, List, [], ◌∷◌}
use Rattle.json.specs.Print.{ArePrintable, begins, ends_value, print}
use Rattle.json.specs.Token.{Token}

-- whether the first token begins a value or a member
abbrev pub begins_first : List Token → Bool
begins_first [] = false
begins_first (t ∷ ts) = begins t

-- a text is the print of these tokens, before which a comma may stand, and behind which none may
pub record IsPiece (tokens : List Token) (text : List ℕ) : Type 0 where
  pub printed : print tokens ≡ text
  pub printable : ArePrintable tokens
  pub begun : begins_first tokens ≡ true
  pub open_ended : ends_value tokens ≡ false
