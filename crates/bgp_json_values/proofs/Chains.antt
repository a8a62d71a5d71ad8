-- What is appended in turn is appended together.
use Rattle.std.proofs.Common.{◌≡◌, ◌∙◌, ◌++◌, ◌∷◌, [], List, Result, Ok, Err, ap, append_assoc}
use Rattle.json.specs.Token.{Token}
use Rattle.json.specs.Written.{Written, Writes}
use Rattle.bgp_json_values.specs.Adding.{Adds}

-- one token was written
pub one : {E : Type 0} {r : Result (Unit {0}) E} {a b : Written} {t : Token} → Writes r a b t → Adds r a b (t ∷ [])
one {r = Ok u} w = record { ok = w.ok; before = w.room.0 }
one {r = Err e} w = record { ok = tt; before = tt }

-- tokens were appended, and then more
pub then : {E : Type 0} {u : Unit {0}} {r : Result (Unit {0}) E} {a b c : Written} {s t : List Token} → Adds {E = E} (Ok u) a b s → Adds r b c t
    → Adds r a c (s ++ t)
then {r = Ok v} {a} {s} {t} first second = record {
  ok = second.ok ∙ ap (λ (ts : List Token). ts ++ t) first.ok ∙ append_assoc a.tokens s t;
  before = second.before ∙ first.before;
}
then {r = Err e} first second = record { ok = tt; before = tt }

-- tokens were appended, by two clauses
pub adding : {E : Type 0} {a b : Written} {ts : List Token} → b.tokens ≡ a.tokens ++ ts → b.before ≡ a.before → Adds {E = E} (Ok tt) a b ts
adding more before = record { ok = more; before = before }
