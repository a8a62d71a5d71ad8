-- A connection that is answered isn't refused.
use Rattle.std.proofs.Common.{◌≡◌, ◌∙◌, ℕ, List, Option, None, Some, Result, Ok, Err, sym, ap, inl, inr}
use Rattle.streams.specs.Choice.{IsAnswered, IsRefused, refusal_of, numbered_one}
use Rattle.streams.specs.Connections.{numbered}
use Rattle.streams.specs.Passed.{Segment}
use Rattle.streams.specs.declared.connection.Connection.{Connection}
use Rattle.streams.specs.declared.fault.Fault.{Fault}
use Rattle.bgp_import.specs.Gathers.{IsNotChosen}
use Rattle.bgp_import.specs.declared.refusal.Refusal.{Refusal}

abbrev chosen_one : ℕ → Result ℕ Fault
chosen_one number = Ok number

one_number : (a b : ℕ) → chosen_one a ≡ chosen_one b → a ≡ b
one_number a b e = cc

no_error : (number : ℕ) (fault : Fault) → Err fault ≡ chosen_one number → ⊥
no_error number fault e = absurd (cc)

no_fault : (fault : Fault) → Some fault ≡ None → ⊥
no_fault fault e = absurd (cc)

not_both : (number : Option ℕ) (count : ℕ) (connections : List (List Segment)) (connection : Connection) (fault : Fault) → IsAnswered number count connections connection
    → IsRefused number count connections fault → ⊥
not_both number count connections connection fault answered (inl err) = no_error connection.number fault (sym err ∙ answered.chosen)
not_both number count connections connection fault answered (inr (n, ok, some)) =
    let same : connection.number ≡ n = one_number connection.number n (sym answered.chosen ∙ ok) in
    no_fault fault (sym some ∙ ap (λ (m : ℕ). refusal_of (numbered_one connections m)) (sym same) ∙ answered.fine)

pub not_unchosen : (number : Option ℕ) (count : ℕ) (segments : List Segment) (connection : Connection) (refusal : Refusal) → IsAnswered number count (numbered segments) connection
    → IsNotChosen number count segments refusal → ⊥
not_unchosen number count segments connection refusal answered not = not_both number count (numbered segments) connection not.fault answered not.refused
