-- What stands in a writer that was empty, after an object was written to it.
use Rattle.std.proofs.Common.{◌≡◌, ◌∙◌, ◌++◌, [], List, Result, Ok, Err, OnOk, ap}
use Rattle.json.specs.Token.{Token}
use Rattle.json.specs.Written.{Written}
use Rattle.bgp_json_values.specs.Adding.{Adds}

pub starts_with_nothing : {E : Type 0} {r : Result (Unit {0}) E} {a b : Written} {ts : List Token} → a.before ≡ [] → Adds r a b ts → OnOk r (b.before ≡ [])
starts_with_nothing {r = Ok u} before wrote = wrote.before ∙ before
starts_with_nothing {r = Err e} before wrote = tt

pub is_written : {E : Type 0} {r : Result (Unit {0}) E} {a b : Written} {ts : List Token} → a.tokens ≡ [] → Adds r a b ts → OnOk r (b.tokens ≡ ts)
is_written {r = Ok u} {ts} tokens wrote = wrote.ok ∙ ap (λ (before : List Token). before ++ ts) tokens
is_written {r = Err e} tokens wrote = tt
