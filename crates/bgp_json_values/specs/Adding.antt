-- What a function that writes JSON does to what is written.
use Rattle.std.specs.Prelude.{◌≡◌, ◌++◌, List, OnOk, Result}
use Rattle.json.specs.Token.{Token}
use Rattle.json.specs.Written.{Written}

-- these tokens were appended, if there was memory for them, and what stood before them stays
pub record Adds {E : Type 0} (result : Result (Unit {0}) E) (old new : Written)
    (tokens : List Token) : Type 0 where
  pub ok : OnOk result (new.tokens ≡ old.tokens ++ tokens)
  pub before : OnOk result (new.before ≡ old.before)
