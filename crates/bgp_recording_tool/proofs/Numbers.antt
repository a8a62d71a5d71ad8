-- The number of the connection that is chosen.
use Rattle.std.proofs.Common.{◌≡◌, ℕ, List, [], ◌∷◌, Option, None, Some, Result, Ok, Err, Bool, true, false, cond, sym}
use Rattle.std.specs.Prelude.{nat_lt, nat_le, ◌&&◌, length}
use Rattle.std.specs.Option.{unwrap_or}
use Rattle.streams.specs.Choice.{chosen_of}
use Rattle.streams.specs.Passed.{Segment}
use Rattle.streams.specs.declared.fault.Fault.{Fault}

same : {n m : ℕ} → (let one : Result ℕ Fault = Ok n in one) ≡ Ok m → n ≡ m
same is = cc

if_chosen : (chosen : Bool) (n number : ℕ) (fault : Fault) → cond chosen (Ok n) (Err fault) ≡ Ok number → number ≡ n
if_chosen true n number fault is = sym (same is)
if_chosen false n number fault is = absurd cc

pub number_is : (number : Option ℕ) (last : ℕ) (connections : List (List Segment)) (n : ℕ)
    → chosen_of number last connections ≡ Ok n → n ≡ unwrap_or number 1
number_is (Some number) last connections n is = if_chosen (nat_lt 0 number && nat_le number (length connections)) number n _ is
number_is None last [] n is = absurd cc
number_is None last (connection ∷ []) n is = sym (same is)
number_is None last (connection ∷ second ∷ more) n is = absurd cc
